-- Hearing whatever is delivered in a round. A link that was not heard takes the first frame that is accepted on it, whatever the others carry, and
-- then stays as it is. So each link gives what its own bytes say to a head of this ring in this phase and round: in collection its entry of the list,
-- in confession what it gave. The seat is kept.
use mathlib.Core.Path.{◌≡◌, refl, ap, sym, ◌∙◌}
use mathlib.Core.Logic.{◌≢◌, by_cases}
use mathlib.Core.Bool.{Bool, true, false, cond, true≢false}
use mathlib.Core.List.{List, [], ◌∷◌}
use Prim.Native.Nat.{ℕ, zero, suc, ◌+◌, ◌≤◌, ◌<◌}
use native.Mathlib.Omega.{arith}
use native.Mathlib.Decide.{ℕ_discrete}
use lib.Dec.{eqb}
use lib.IntN.{ℤ}
use borrow.Author.Tests.{lt-ltb, eqb-true, eqb-false, eq-eqb, ne_eqb}
use Rattle.terms.specs.Refusals.{unless_refused}
use Rattle.entries.specs.Tables.{table_at}
use Rattle.marks.proofs.Marks.{bit_none, with_same}
use Rattle.marks.specs.Marks.{bit_of, with_mark}
use Rattle.terms.specs.Counting.{Each}
use Rattle.frame_spec.specs.Said.{Meaning, refused, collected, listed, confessed, said}
use Rattle.terms.specs.declared.Family.{Family}
use Rattle.head_spec.specs.declared.Seat.{Seat}
use Rattle.head_spec.specs.declared.Head.{Head}
use Rattle.head_spec.specs.Record.{given, heard_entry, given_of}
use Rattle.head_spec.specs.Calls.{answer, start_refusal, started, restart_refusal, restarted, start_listener_refusal, started_listener, restart_listener_refusal}
use Rattle.head_spec.specs.Calls.{said_to, refusal_to, hear_refusal, taken, hear, hear_all, Delivery, hear_each, on_links}
use Rattle.head_spec.specs.Demand2.{or_else, first_said}
use Rattle.head_spec.proofs.Proper.{ProperHead, proper_started, proper_restarted, proper_started_listener, proper_restarted_listener}
use Rattle.head_spec.proofs.Taking.{entry_same, entry_other, given_same, given_other, heard_other, hear_cases, hear_keeps, proper_hear}

-- a link that was not heard takes what is said; what is refused changes nothing
hear_takes : (h : Head) (k : ℕ) (s : List ℕ) → h.seat.ended ≡ false → k < h.seat.n → bit_of h.heard k ≡ false
    → (hear h k s).head ≡ taken h k (said_to h.seat k s)
unfolding hear hear_refusal said
hear_takes h k s runs below new = ap (λ (c : ℕ). (answer c (taken h k (said_to h.seat k s)) h).head) checks ∙ go (refusal_to h.seat k s) _
  where
    checks : hear_refusal h k s ≡ refusal_to h.seat k s
    checks = rw (runs, lt-ltb k h.seat.n below, new)

    go : (c : ℕ) (m : Meaning) → (answer c (taken h k (unless_refused refused c m)) h).head ≡ taken h k (unless_refused refused c m)
    go zero m = refl
    go (suc c) m = refl

-- ---- all that is delivered

pub each_keep : (D : List Delivery) (h : Head) → (hear_each h D).seat ≡ h.seat
unfolding hear_each
each_keep [] h = refl
each_keep (d ∷ D) h = each_keep D _ ∙ hear_keeps h d.link d.bytes

pub proper_each : (D : List Delivery) (h : Head) → ProperHead h → ProperHead (hear_each h D)
unfolding hear_each
proper_each [] h P = P
proper_each (d ∷ D) h P = proper_each D _ (proper_hear h d.link d.bytes P)

-- What is read of a record for each link, if each link changes its own part only.
module _ {X : Type 0} (A : Head → ℕ → X)
    (other : (T : Head) (k : ℕ) → ProperHead T → k < T.seat.n → (m : Meaning) (j : ℕ) → j ≢ k → A (taken T k m) j ≡ A T j) (k : ℕ) where
  -- a link that was heard stays as it is
  stays_once : (T : Head) (i : ℕ) (s : List ℕ) → ProperHead T → bit_of T.heard k ≡ true
      → let T' = (hear T i s).head in (bit_of T'.heard k ≡ true) × (A T' k ≡ A T k)
  stays_once T i s P b =
      hear_cases T i s (λ T'. (bit_of T'.heard k ≡ true) × (A T' k ≡ A T k)) (b, refl)
      (λ l new m e. let d : k ≢ i = λ q. true≢false (sym b ∙ ap (bit_of T.heard) q ∙ new) in
      (heard_other T i P l m k d ∙ b, other T i P l m k d))

  stays : (D : List Delivery) (T : Head) → ProperHead T → bit_of T.heard k ≡ true → A (hear_each T D) k ≡ A T k
  unfolding hear_each
  stays [] T P b = refl
  stays (d ∷ D) T P b =
      let (c, e) = stays_once T d.link d.bytes P b in
      stays D _ (proper_hear T d.link d.bytes P) c ∙ e

  -- a link that was not heard takes the first frame accepted, in the seat x
  module _ (x : Seat) (runs : x.ended ≡ false) (l : k < x.n) (W : Meaning → X)
      (same : (T : Head) → T.seat ≡ x → ProperHead T → k < T.seat.n → bit_of T.heard k ≡ false → (m : Meaning) → A (taken T k m) k ≡ W m) where
    abbrev TakesFirst : List Delivery → Type 0
    TakesFirst D = (T : Head) → T.seat ≡ x → ProperHead T → bit_of T.heard k ≡ false → A (hear_each T D) k ≡ W (first_said x k D)

    module _ (D : List Delivery) (rest : TakesFirst D) (T : Head) (q : T.seat ≡ x) (P : ProperHead T) (new : bit_of T.heard k ≡ false) where
      below : k < T.seat.n
      below = omega (arith, ap (λ (y : Seat). y.n) q)

      marked : bit_of (with_mark T.heard k) k ≡ true
      marked = with_same T.heard k (omega (arith, P.seat.size.most, below))

      said_on_lem : (m : Meaning) → ProperHead (taken T k m) → A (hear_each (taken T k m) D) k ≡ W (or_else m (first_said x k D))
      said_on_lem (refused c) R = rest T q P new
      said_on_lem (collected e) R = stays D _ R marked ∙ same T q P below new (collected e)
      said_on_lem (listed t) R = stays D _ R marked ∙ same T q P below new (listed t)
      said_on_lem confessed R = stays D _ R marked ∙ same T q P below new confessed

      takes_here : (s : List ℕ) → (hear T k s).head ≡ taken T k (said_to x k s)
      takes_here s = hear_takes T k s (ap (λ (y : Seat). y.ended) q ∙ runs) below new ∙ ap (λ (y : Seat). taken T k (said_to y k s)) q

      takes_once : (i : ℕ) (s : List ℕ)
          → A (hear_each (hear T i s).head D) k ≡ W (cond (eqb i k) (or_else (said_to x k s) (first_said x k D)) (first_said x k D))
      takes_once i s = go (eqb i k) (eqb-true i k) (eqb-false i k)
        where
          go : (b : Bool) → (b ≡ true → i ≡ k) → (b ≡ false → i ≢ k)
              → A (hear_each (hear T i s).head D) k ≡ W (cond b (or_else (said_to x k s) (first_said x k D)) (first_said x k D))
          go true e f =
              let h : (hear T i s).head ≡ taken T k (said_to x k s) = rw (e refl) (takes_here s) in
              ap (λ (T' : Head). A (hear_each T' D) k) h ∙ said_on_lem (said_to x k s) (rw h at (proper_hear T i s P))
          go false e f =
              rest _ (hear_keeps T i s ∙ q) (proper_hear T i s P)
              (hear_cases T i s (λ T'. bit_of T'.heard k ≡ false) new (λ m u y z. heard_other T i P m y k (λ p. f refl (sym p)) ∙ new))

    takes_first : (D : List Delivery) → TakesFirst D
    unfolding hear_each first_said
    takes_first [] T q P new = same T q P (omega (arith, ap (λ (y : Seat). y.n) q)) new (refused 0)
    takes_first (d ∷ D) T q P new = takes_once D (takes_first D) T q P new d.link d.bytes

-- ---- a round that was just opened: nothing heard

pub record Fresh (h : Head) : Type 0 where
  pub proper : ProperHead h
  pub runs : h.seat.ended ≡ false
  pub unheard : h.heard ≡ 0

-- start and restart open one
pub fresh_started : (K : Family) (n f i : ℕ) (v : ℤ) → start_refusal K n f i v ≡ 0 → Fresh (started K n f i v)
unfolding started
fresh_started K n f i v e = record { proper = proper_started K n f i v e; runs = refl; unheard = refl }

pub fresh_restarted : (K : Family) (n f i p r : ℕ) → restart_refusal K n f i p r ≡ 0 → Fresh (restarted K n f i p r)
unfolding restarted
fresh_restarted K n f i p r e = record { proper = proper_restarted K n f i p r e; runs = refl; unheard = refl }

pub fresh_started_listener : (K : Family) (n f i : ℕ) → start_listener_refusal K n f i ≡ 0 → Fresh (started_listener K n f i)
unfolding started_listener
fresh_started_listener K n f i e = record { proper = proper_started_listener K n f i e; runs = refl; unheard = refl }

pub fresh_restarted_listener : (K : Family) (n f i p r : ℕ) → restart_listener_refusal K n f i p r ≡ 0 → Fresh (restarted K n f i p r)
unfolding restarted
fresh_restarted_listener K n f i p r e = record { proper = proper_restarted_listener K n f i p r e; runs = refl; unheard = refl }

module _ (h : Head) (F : Fresh h) where
  abbrev n : ℕ
  n = h.seat.n

  new : (k : ℕ) → bit_of h.heard k ≡ false
  new k = rw F.unheard (bit_none k)

  module _ (D : List Delivery) where
    -- what link k gave, in a confession round
    pub gave_first : Each n (λ k. given (hear_each h D) k ≡ given_of (first_said h.seat k D))
    gave_first k l =
        takes_first given given_other k h.seat F.runs l given_of (λ T q P b u m. given_same T k P b m u) D h refl F.proper (new k)

    -- entry k of the list, after a collection round
    pub listed_first : h.seat.round ≡ 0 → Each n (λ k. table_at (hear_each h D).list k ≡ heard_entry (first_said h.seat k D))
    listed_first collection k l =
        takes_first (λ T. table_at T.list) entry_other k h.seat F.runs l heard_entry
        (λ T q P b u m. entry_same T k P b m (P.blank (ap (λ (y : Seat). y.round) q ∙ collection) k u)) D h refl F.proper (new k)

-- ---- each link once, from 0 up

-- a frame that is refused counts for nothing
alone : {X : Type 0} (W : Meaning → X) → ((c : ℕ) → W (refused 0) ≡ W (refused c)) → (m : Meaning) → W (or_else m (refused 0)) ≡ W m
alone W none (refused c) = none c
alone W none (collected e) = refl
alone W none (listed t) = refl
alone W none confessed = refl

module _ (g : ℕ → List ℕ) where
  module _ (x : Seat) (j : ℕ) where
    first_none : (m i : ℕ) → j < i → first_said x j (on_links g i m) ≡ refused 0
    unfolding first_said
    first_none zero i l = refl
    first_none (suc m) i l = rw (ne_eqb i j (omega arith)) (first_none m (suc i) (omega arith))

    -- a link's only frame is its first
    first_one : {X : Type 0} (W : Meaning → X) → ((c : ℕ) → W (refused 0) ≡ W (refused c)) → (m i : ℕ) → i ≤ j → j < m + i
        → W (first_said x j (on_links g i m)) ≡ W (said_to x j (g j))
    unfolding first_said
    first_one W none zero i l b = absurd (omega arith)
    first_one W none (suc m) i l b =
        by_cases (ℕ_discrete i j) (λ q. rw (q, eq-eqb j j refl, first_none m (suc j) (omega arith)) (alone W none (said_to x j (g j))))
        (λ d. rw (ne_eqb i j d) (first_one W none m (suc i) (omega arith) (omega arith)))

pub all_keep : (h : Head) (g : ℕ → List ℕ) (k : ℕ) → (hear_all h g k).seat ≡ h.seat
unfolding hear_all
all_keep h g k = each_keep (on_links g 0 k) h

pub proper_all : (h : Head) (g : ℕ → List ℕ) (k : ℕ) → ProperHead h → ProperHead (hear_all h g k)
unfolding hear_all
proper_all h g k P = proper_each (on_links g 0 k) h P

module _ (h : Head) (F : Fresh h) (g : ℕ → List ℕ) where
  pub gave_as_said : Each h.seat.n (λ k. given (hear_all h g h.seat.n) k ≡ given_of (said_to h.seat k (g k)))
  unfolding hear_all
  gave_as_said k l =
      let m = h.seat.n in
      gave_first h F (on_links g 0 m) k l ∙ first_one g h.seat k given_of (λ c. refl) m 0 (omega arith) (omega arith)

  pub listed_as_said : h.seat.round ≡ 0 → Each h.seat.n (λ k. table_at (hear_all h g h.seat.n).list k ≡ heard_entry (said_to h.seat k (g k)))
  unfolding hear_all
  listed_as_said r k l =
      let m = h.seat.n in
      listed_first h F (on_links g 0 m) r k l ∙ first_one g h.seat k heard_entry (λ c. refl) m 0 (omega arith) (omega arith)
