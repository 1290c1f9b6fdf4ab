-- What a record takes from one link that it had not heard: entry k of its list is the entry said, what link k gave is what was said, and nothing
-- else changes, since each mark and each place of an array is written alone. A proper record stays proper, since what a frame says is proper.
use Rattle.std.specs.Prelude.{None, Some}
use mathlib.Core.Path.{◌≡◌, refl, ap, sym, ◌∙◌}
use mathlib.Core.Logic.{◌≢◌, by_cases}
use mathlib.Core.Bool.{Bool, true, false, not, true≢false}
use mathlib.Core.List.{List, []}
use Prim.Native.Nat.{ℕ, zero, suc, ◌^◌, ◌<◌}
use native.Mathlib.Omega.{arith}
use native.Mathlib.Decide.{ℕ_discrete}
use lib.Dec.{ltb}
use lib.ListN.{get_or, set, length-set, get_or-map}
use lib.Seq.{get_or-set_same, get_or-set_other}
use lib.IntN.{ℤ, pos}
use borrow.Author.Tests.{ltb-true}
use Rattle.terms.specs.Refusals as refusal
use Rattle.terms.specs.Refusals.{check}
use Rattle.terms.specs.Entry.{Entry}
use Rattle.terms.specs.declared.Table.{Table}
use Rattle.marks.specs.Marks.{bit_of, with_mark}
use Rattle.entries.specs.Entries.{entry_at, fits}
use Rattle.entries.specs.Tables.{table_at}
use Rattle.marks.proofs.Marks.{with_same, with_other, with_below}
use Rattle.frame_spec.specs.Said.{Meaning, refused, collected, listed, confessed}
use Rattle.frame_spec.specs.Proper.{ProperTable, Proper}
use Rattle.frame_spec.proofs.OneMeaning.{said_proper}
use Rattle.settle_trust.specs.declared.Links.{Links}
use Rattle.settle_trust.specs.Received.{given_by}
use Rattle.head_spec.specs.declared.Row.{Row}
use Rattle.head_spec.specs.declared.Head.{Head}
use Rattle.head_spec.specs.Record.{rows, given, heard_entry, given_of}
use Rattle.head_spec.specs.Calls.{hold, with_entry, with_confession, with_list, taken, said_to, answer, hear_refusal, hear}
use Rattle.head_spec.proofs.Proper.{list_from, ProperLinks, ProperHead, both_passed}

-- the other lists stay
row_other : (l : List Row) (k j : ℕ) (E : List ℤ) → j ≢ k → get_or (rows (set l k (record { entries = E }))) j [] ≡ get_or (rows l) j []
row_other l k j E h =
    get_or-map (λ (r : Row). r.entries) (set l k _) j (record { entries = [] })
    ∙ ap (λ (r : Row). r.entries) (get_or-set_other l k j _ _ h)
    ∙ sym (get_or-map (λ (r : Row). r.entries) l j (record { entries = [] }))

-- ---- one link

seat_kept : (h : Head) (k : ℕ) (m : Meaning) → (taken h k m).seat ≡ h.seat
seat_kept h k (refused c) = refl
seat_kept h k (collected x) = refl
seat_kept h k (listed t) = refl
seat_kept h k confessed = refl

module _ (h : Head) (k : ℕ) (P : ProperHead h) (l : k < h.seat.n) where
  abbrev n : ℕ
  n = h.seat.n

  small : k < 32
  small = omega (arith, P.seat.size.most)

  -- what is stored at place k reads back
  entry_read : (v : ℤ) → get_or (set h.list.entries k v) k (pos 0) ≡ v
  entry_read v = get_or-set_same h.list.entries k v (pos 0) (omega (arith, small, P.list.long))

  marks_read : (m : ℕ) → get_or (set h.links.marks k m) k 0 ≡ m
  marks_read m = get_or-set_same h.links.marks k m 0 (omega (arith, small, P.links.marks_long))

  row_read : (E : List ℤ) → get_or (rows (set h.lists k (record { entries = E }))) k [] ≡ E
  row_read E =
      get_or-map (λ (r : Row). r.entries) (set h.lists k _) k (record { entries = [] })
      ∙ ap (λ (r : Row). r.entries) (get_or-set_same h.lists k _ _ (omega (arith, small, P.links.lists_long)))

  -- the list that is being filled
  pub entry_same : (m : Meaning) → table_at h.list k ≡ None → table_at (taken h k m).list k ≡ heard_entry m
  unfolding entry_at
  entry_same (refused c) e = e
  entry_same (collected None) e = e
  entry_same (collected (Some v)) e = rw (with_same h.list.marks k small, entry_read v)
  entry_same (listed t) e = e
  entry_same confessed e = e

  pub entry_other : (m : Meaning) (j : ℕ) → j ≢ k → table_at (taken h k m).list j ≡ table_at h.list j
  unfolding entry_at
  entry_other (refused c) j d = refl
  entry_other (collected None) j d = refl
  entry_other (collected (Some v)) j d = rw (with_other h.list.marks k small j d, get_or-set_other h.list.entries k j v (pos 0) d)
  entry_other (listed t) j d = refl
  entry_other confessed j d = refl

  -- what the links gave
  pub given_same : (m : Meaning) → bit_of h.heard k ≡ false → given (taken h k m) k ≡ given_of m
  unfolding given_by
  given_same (refused c) e = let (a, b) = P.links.unheard k e in rw (a, b)
  given_same (collected x) e = let (a, b) = P.links.unheard k e in rw (a, b)
  given_same (listed t) e =
      let (a, b) = P.links.unheard k e in
      rw (a, with_same h.links.listed k small, marks_read t.marks, row_read t.entries)
  given_same confessed e = rw (with_same h.links.confessed k small)

  pub given_other : (m : Meaning) (j : ℕ) → j ≢ k → given (taken h k m) j ≡ given h j
  unfolding given_by
  given_other (refused c) j d = refl
  given_other (collected x) j d = refl
  given_other (listed t) j d =
      rw (with_other h.links.listed k small j d, get_or-set_other h.links.marks k j t.marks 0 d, row_other h.lists k j t.entries d)
  given_other confessed j d = rw (with_other h.links.confessed k small j d)

  pub heard_other : (m : Meaning) (j : ℕ) → j ≢ k → bit_of (taken h k m).heard j ≡ bit_of h.heard j
  heard_other (refused c) j d = refl
  heard_other (collected x) j d = with_other h.heard k small j d
  heard_other (listed t) j d = with_other h.heard k small j d
  heard_other confessed j d = with_other h.heard k small j d

  -- ---- it stays proper

  with_bit : {m : ℕ} → m < 2 ^ n → with_mark m k < 2 ^ n
  with_bit {m} b = with_below m k small n b l

  -- a link that is unheard still was so before, and is another one
  still : (j : ℕ) → bit_of (with_mark h.heard k) j ≡ false → (j ≢ k) × (bit_of h.heard j ≡ false)
  still j e = let d : j ≢ k = λ q. true≢false (sym (with_same h.heard k small) ∙ rw q at e) in (d, sym (with_other h.heard k small j d) ∙ e)

  proper_entry : (x : Entry) → Proper n (collected x) → ProperTable n (with_entry h.list k x)
  proper_entry None p = P.list
  proper_entry (Some v) p =
      record {
        below = with_bit P.list.below;
        long = length-set h.list.entries k v ∙ P.list.long;
        fit =
            λ j b. by_cases (ℕ_discrete j k) (λ q. rw q fit_same)
            (λ d. rw (with_other h.list.marks k small j d, get_or-set_other h.list.entries k j v (pos 0) d) (P.list.fit j b));
        none = λ j b. get_or-set_other h.list.entries k j v (pos 0) (omega arith) ∙ P.list.none j b;
      }
    where
      fit_same : fits (bit_of (with_mark h.list.marks k) k) (get_or (set h.list.entries k v) k (pos 0)) ≡ true
      fit_same = rw (with_same h.list.marks k small, entry_read v) p

  -- the record, and what the links gave, after link k said something
  held : (t : Table) (g : Links) (r : List Row) → ProperTable n t → ((j : ℕ) → j ≢ k → table_at t j ≡ table_at h.list j)
      → ProperLinks n (with_mark h.heard k) g r → ProperHead (hold h k t g r)
  held t g r T other L =
      record {
        seat = P.seat;
        heard = with_bit P.heard;
        list = T;
        blank = λ z j e. let (d, u) = still j e in other j d ∙ P.blank z j u;
        links = L;
      }

  links_kept : ProperLinks n (with_mark h.heard k) h.links h.lists
  links_kept =
      let L = P.links in
      record {
        confessed_below = L.confessed_below;
        listed_below = L.listed_below;
        marks_long = L.marks_long;
        lists_long = L.lists_long;
        tables = L.tables;
        unheard = λ j e. L.unheard j (still j e).1;
      }

  links_confessed : ProperLinks n (with_mark h.heard k) (with_confession h.links k) h.lists
  links_confessed =
      let L = P.links in
      record {
        confessed_below = with_bit L.confessed_below;
        listed_below = L.listed_below;
        marks_long = L.marks_long;
        lists_long = L.lists_long;
        tables = L.tables;
        unheard = λ j e. let (d, u) = still j e in let (a, b) = L.unheard j u in (with_other h.links.confessed k small j d ∙ a, b);
      }

  links_listed : (t : Table) → ProperTable n t
      → ProperLinks n (with_mark h.heard k) (with_list h.links k t) (set h.lists k (record { entries = t.entries }))
  links_listed t T =
      let L = P.links in
      record {
        confessed_below = L.confessed_below;
        listed_below = with_bit L.listed_below;
        marks_long = length-set h.links.marks k t.marks ∙ L.marks_long;
        lists_long = length-set h.lists k _ ∙ L.lists_long;
        tables =
            λ j b. by_cases (ℕ_discrete j k) (λ q. rw q table_same)
            (λ d. rw (get_or-set_other h.links.marks k j t.marks 0 d, row_other h.lists k j t.entries d) (L.tables j b));
        unheard = λ j e. let (d, u) = still j e in let (a, b) = L.unheard j u in (a, with_other h.links.listed k small j d ∙ b);
      }
    where
      table_same : ProperTable n (list_from (with_list h.links k t) (set h.lists k (record { entries = t.entries })) k)
      table_same = rw (marks_read t.marks, row_read t.entries) T

  proper_taken : (m : Meaning) (s : List ℕ) → said_to h.seat k s ≡ m → ProperHead (taken h k m)
  proper_taken (refused c) s e = P
  proper_taken (collected x) s e = held _ _ _ (proper_entry x (said_proper n _ _ k s e tt P.seat.size.most)) (entry_other (collected x)) links_kept
  proper_taken (listed t) s e = held _ _ _ P.list (λ j d. refl) (links_listed t (said_proper n _ _ k s e tt P.seat.size.most))
  proper_taken confessed s e = held _ _ _ P.list (λ j d. refl) links_confessed

-- ---- hearing any bytes on any link

-- what holds of the record as it was, and of one that takes what was said on a link that it had not heard, holds when they are heard
pub hear_cases : (h : Head) (k : ℕ) (s : List ℕ) (Q : Head → Type 0) → Q h
    → (k < h.seat.n → bit_of h.heard k ≡ false → (m : Meaning) → said_to h.seat k s ≡ m → Q (taken h k m)) → Q (hear h k s).head
unfolding hear hear_refusal
hear_cases h k s Q stays takes = go (hear_refusal h k s) refl
  where
    free : (b : Bool) (rest : ℕ) → check (not b) refusal.already_heard rest ≡ 0 → b ≡ false
    free true rest e = absurd (omega arith)
    free false rest e = refl

    go : (c : ℕ) → hear_refusal h k s ≡ c → Q (answer c (taken h k (said_to h.seat k s)) h).head
    go zero e =
        let n = h.seat.n in
        let (a, b, rest) = both_passed (not h.seat.ended) (ltb k n) 25 2 e in
        takes (ltb-true k n b) (free (bit_of h.heard k) _ rest) _ refl
    go (suc c) e = stays

pub hear_keeps : (h : Head) (k : ℕ) (s : List ℕ) → (hear h k s).head.seat ≡ h.seat
hear_keeps h k s = hear_cases h k s (λ x. x.seat ≡ h.seat) refl (λ l u m e. seat_kept h k m)

pub proper_hear : (h : Head) (k : ℕ) (s : List ℕ) → ProperHead h → ProperHead (hear h k s).head
proper_hear h k s P = hear_cases h k s ProperHead P (λ l u m e. proper_taken h k P l m s e)
