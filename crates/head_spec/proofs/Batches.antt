-- A batch, entry by entry. An entry takes five bytes or more, so as many cuts as there are bytes are enough: the entries of an input are its first one
-- and those of the bytes behind it. A batch that is taken is heard as its frames one by one, with an answer for each.
use mathlib.Core.Path.{◌≡◌, refl, ap, sym, ◌∙◌}
use mathlib.Core.Logic.{◌≢◌}
use mathlib.Core.Bool.{Bool, true, false, cond, ◌&&◌, true≢false}
use mathlib.Core.List.{List, [], ◌∷◌, ◌++◌}
use Prim.Native.Nat.{ℕ, zero, suc, ◌+◌, ◌-◌, ◌≤◌, ◌<◌}
use native.Mathlib.Omega.{arith}
use lib.Dec.{leb}
use lib.ListN.{length, get_or, take, drop, length-drop, replicate}
use borrow.Author.Tests.{leb-true}
use Rattle.terms.specs.Refusals as refusal
use Rattle.terms.specs.Refusals.{leaves}
use Rattle.terms.proofs.Booleans.{and_both}
use Rattle.fields.specs.Bytes.{is_empty}
use Rattle.head_spec.specs.declared.Head.{Head}
use Rattle.head_spec.specs.Calls.{answer, Delivery, hear_each, answers_to}
use Rattle.head_spec.specs.Batch.{frame_length, is_whole, first_entry, behind_first, entry_size, cut_into, is_cut_into, deliveries_of, is_batch, batch_refusal, hear_batch, batch_answers, batch_count}
use Rattle.head_spec.proofs.Proper.{both_passed}
use Rattle.head_spec.proofs.Stops.{ended_hears}

-- ---- cutting

whole_fits : (s : List ℕ) → is_whole s ≡ true → (4 ≤ frame_length s) × (frame_length s < length s)
whole_fits s w =
    let (a, b) = and_both (leb 4 (frame_length s)) (leb (1 + frame_length s) (length s)) w in
    (leb-true 4 (frame_length s) a, omega (arith, leb-true (1 + frame_length s) (length s) b))

nothing_whole : (s : List ℕ) → length s ≤ 0 → is_whole s ≡ false
nothing_whole [] l = refl
nothing_whole (x ∷ s) l = absurd (omega arith)

-- what is behind the first entry is shorter
behind_shorter : (m : ℕ) (s : List ℕ) → length s ≤ suc m → length (behind_first s) ≤ m
behind_shorter m s l = omega (arith, length-drop (1 + frame_length s) s)

-- enough cuts are enough
enough_cut : (m m' : ℕ) (s : List ℕ) → length s ≤ m → length s ≤ m' → cut_into m s ≡ cut_into m' s
unfolding cut_into
enough_cut zero zero s a b = refl
enough_cut zero (suc m') s a b = rw (nothing_whole s a)
enough_cut (suc m) zero s a b = rw (nothing_whole s b)
enough_cut (suc m) (suc m') s a b =
    ap (λ (D : List Delivery). cond (is_whole s) (first_entry s ∷ D) [])
    (enough_cut m m' (behind_first s) (behind_shorter m s a) (behind_shorter m' s b))

nothing_empty : (s : List ℕ) → length s ≤ 0 → is_empty s ≡ true
nothing_empty [] l = refl
nothing_empty (x ∷ s) l = absurd (omega arith)

enough_told : (m m' : ℕ) (s : List ℕ) → length s ≤ m → length s ≤ m' → is_cut_into m s ≡ is_cut_into m' s
unfolding is_cut_into
enough_told zero zero s a b = refl
enough_told zero (suc m') s a b = rw (nothing_empty s a)
enough_told (suc m) zero s a b = rw (nothing_empty s b)
enough_told (suc m) (suc m') s a b =
    ap (λ (x : Bool). cond (is_empty s) true (is_whole s && x))
    (enough_told m m' (behind_first s) (behind_shorter m s a) (behind_shorter m' s b))

-- a first entry that is whole, and the rest
pub first_cut : (s : List ℕ) → is_whole s ≡ true → deliveries_of s ≡ first_entry s ∷ deliveries_of (behind_first s)
unfolding cut_into
first_cut [] w = absurd (true≢false (sym w))
first_cut (x ∷ t) w =
    let s = x ∷ t in
    ap (λ (b : Bool). cond b (first_entry s ∷ cut_into (length t) (behind_first s)) []) w
    ∙ ap (λ (D : List Delivery). first_entry s ∷ D)
    (enough_cut (length t) (length (behind_first s)) (behind_first s) (behind_shorter (length t) s (omega arith)) (omega arith))

pub first_told : (s : List ℕ) → is_whole s ≡ true → is_batch s ≡ is_batch (behind_first s)
unfolding is_cut_into
first_told [] w = absurd (true≢false (sym w))
first_told (x ∷ t) w =
    let s = x ∷ t in
    ap (λ (b : Bool). b && is_cut_into (length t) (behind_first s)) w
    ∙ enough_told (length t) (length (behind_first s)) (behind_first s) (behind_shorter (length t) s (omega arith)) (omega arith)

-- a first entry that is not whole: nothing is cut, and only no bytes at all are a batch
pub none_cut : (s : List ℕ) → is_whole s ≡ false → deliveries_of s ≡ []
unfolding cut_into
none_cut [] w = refl
none_cut (x ∷ t) w = ap (λ (b : Bool). cond b (first_entry (x ∷ t) ∷ cut_into (length t) (behind_first (x ∷ t))) []) w

pub none_told : (s : List ℕ) → is_whole s ≡ false → is_batch s ≡ is_empty s
unfolding is_cut_into
none_told [] w = refl
none_told (x ∷ t) w = ap (λ (b : Bool). b && is_cut_into (length t) (behind_first (x ∷ t))) w

-- by the first entry's bytes
module _ (s : List ℕ) {n : ℕ} (e : n ≡ entry_size s) where
  pub some_whole : n ≢ 0 → is_whole s ≡ true
  some_whole d = go (is_whole s) e
    where
      go : (b : Bool) → n ≡ cond b (1 + frame_length s) 0 → b ≡ true
      go true q = refl
      go false q = absurd (d q)

  pub none_torn : n ≡ 0 → is_whole s ≡ false
  none_torn z = go (is_whole s) e
    where
      go : (b : Bool) → n ≡ cond b (1 + frame_length s) 0 → b ≡ false
      go true q = absurd (omega arith)
      go false q = refl

filled : (s : List ℕ) → 0 < length s → is_empty s ≡ false
filled [] l = absurd (omega arith)
filled (x ∷ s) l = refl

pub torn_told : (s : List ℕ) → 0 < length s → is_whole s ≡ false → is_batch s ≡ false
torn_told s l w = none_told s w ∙ filled s l

-- the first entry of a batch is whole
pub batch_whole : (s : List ℕ) → is_batch s ≡ true → 0 < length s → is_whole s ≡ true
batch_whole s told l = go (is_whole s) (torn_told s l)
  where
    go : (b : Bool) → (b ≡ false → is_batch s ≡ false) → b ≡ true
    go true f = refl
    go false f = absurd (true≢false (sym told ∙ f refl))

pub nothing_left : (s : List ℕ) → length s ≤ 0 → s ≡ []
nothing_left [] l = refl
nothing_left (x ∷ s) l = absurd (omega arith)

-- the first entry, if it is whole: n bytes
module _ (s : List ℕ) (w : is_whole s ≡ true) {n : ℕ} (e : n ≡ entry_size s) where
  size_here : n ≡ 1 + frame_length s
  size_here = e ∙ ap (λ (b : Bool). cond b (1 + frame_length s) 0) w

  pub fits_here : (5 ≤ n) × (n ≤ length s)
  fits_here = let (four, short) = whole_fits s w in (omega (arith, size_here), omega (arith, size_here, short))

  behind_here : behind_first s ≡ drop n s
  behind_here = rw size_here

  pub cut_here : deliveries_of s ≡ record { link = get_or s 0 0; bytes = take (n - 1) (drop 1 s) } ∷ deliveries_of (drop n s)
  cut_here =
      let less : frame_length s ≡ n - 1 = omega (arith, size_here) in
      first_cut s w
      ∙ ap (λ (m : ℕ). record { link = get_or s 0 0; bytes = take m (drop 1 s) } ∷ deliveries_of (behind_first s)) less
      ∙ ap (λ (t : List ℕ). record { link = get_or s 0 0; bytes = take (n - 1) (drop 1 s) } ∷ deliveries_of t) behind_here

  pub told_here : is_batch s ≡ is_batch (drop n s)
  told_here = first_told s w ∙ ap is_batch behind_here

-- ---- hearing

-- nothing is refused: all entries are whole, and there is room for the answers
pub taken_told : (s : List ℕ) (room : ℕ) → batch_refusal s room ≡ 0 → (is_batch s ≡ true) × (length (deliveries_of s) ≤ room)
unfolding batch_refusal
taken_told s room e =
    let (told, enough, done) = both_passed (is_batch s) (leb (length (deliveries_of s)) room) 14 23 e in
    (told, leb-true (length (deliveries_of s)) room enough)

module _ (h : Head) (s b : List ℕ) (n : ℕ) where
  abbrev D : List Delivery
  D = deliveries_of s

  -- what a call that gives r leaves: the record T, the buffer b' and the count n'
  abbrev pub Leaves : ℕ → Head → List ℕ → ℕ → Type 0
  Leaves r T b' n' = (record { refusal = r; head = T } ≡ hear_batch h s (length b)) × (b' ≡ batch_answers h s b) × (n' ≡ batch_count s (length b) n)

  -- the frames are heard one by one
  pub batch_heard : batch_refusal s (length b) ≡ 0 → Leaves 0 (hear_each h D) (answers_to h D ++ drop (length D) b) (length D)
  unfolding hear_batch batch_answers batch_count
  batch_heard e = (rw e, rw e, rw e)

  -- nothing is heard
  pub batch_refused : {r : ℕ} → r ≡ batch_refusal s (length b) → r ≢ 0 → Leaves r h b n
  unfolding hear_batch batch_answers batch_count
  batch_refused e d = rw e (go (batch_refusal s (length b)) (λ z. d (e ∙ z)))
    where
      go : (c : ℕ) → c ≢ 0
          → (record { refusal = c; head = h } ≡ answer c (hear_each h D) h) × (b ≡ leaves c (answers_to h D ++ drop (length D) b) b) × (n ≡ leaves c (length D) n)
      go zero x = absurd (x refl)
      go (suc c) x = (refl, refl, refl)

-- an answer for each
pub answers_count : (D : List Delivery) (h : Head) → length (answers_to h D) ≡ length D
unfolding answers_to
answers_count [] h = refl
answers_count (d ∷ D) h = ap suc (answers_count D _)

-- once phase 65,535 has ended each is 26, and nothing is heard
pub ended_each : (D : List Delivery) (h : Head) → h.seat.ended ≡ true → hear_each h D ≡ h
unfolding hear_each
ended_each [] h over = refl
ended_each (d ∷ D) h over = rw (ended_hears h over d.link d.bytes) (ended_each D h over)

pub answers_ended : (D : List Delivery) (h : Head) → h.seat.ended ≡ true → answers_to h D ≡ replicate (length D) refusal.run_has_ended
unfolding answers_to
answers_ended [] h over = refl
answers_ended (d ∷ D) h over = rw (ended_hears h over d.link d.bytes) (ap (λ (l : List ℕ). refusal.run_has_ended ∷ l) (answers_ended D h over))
