-- What the list of one link, the reference, decides by itself. A list with the reference's marks and its number at entry j says of head j what the reference says; a list with
-- no marks says nothing; so any other position stands in the remaining lists alone. Where these are fewer than `need`, no other position reaches it.
use Rattle.std.specs.Prelude.{None, Some}
use mathlib.Core.Path.{◌≡◌, refl, ap, sym, ◌∙◌}
use mathlib.Core.Logic.{◌≢◌}
use mathlib.Core.Bool.{Bool, true, false, not, cond, ◌&&◌}
use mathlib.Core.List.{List, [], ◌∷◌}
use Prim.Native.Nat.{ℕ, ◌+◌, ◌≤◌, ◌<◌}
use native.Mathlib.Omega.{arith}
use lib.Dec.{T, eqb, eqb→eq}
use lib.IntN.{ℤ, pos, ℤ_discrete}
use mir.Val.{bool_byte}
use lib.ListN.{get_or, replicate, get_or-replicate}
use borrow.Author.Tests.{eq-eqb, ne_eqb, le-leb, lt-leb, leb-true}
use Rattle.terms.specs.Positions.{eq_z}
use Rattle.terms.specs.Entry.{Entry}
use Rattle.terms.proofs.Whole.{eqZ→eq, eq_z_refl}
use Rattle.marks.specs.Marks.{bit_of}
use Rattle.entries.specs.Entries.{entry_at}
use Rattle.marks.proofs.Marks.{bit_none}
use Rattle.terms.specs.Counting.{Each, sum, bit}
use Rattle.convergence.specs.Trust.{is, choose}
use Rattle.terms.proofs.Sums.{sums_le}
use Rattle.convergence.proofs.Support.{same_position, not_null, is_same, is_other}
use Rattle.convergence.proofs.Links.{is_le}
use Rattle.settle_trust.specs.Cells.{column_of, cell_for, stands_in, decided}
use Rattle.settle_position.specs.Reference.{same_number, is_apart, agrees, alike_to, apart_from, agreeing, Compares, Decides, Lacks}
use Rattle.settle_position.specs.declared.Comparison.{Comparison}
use Rattle.settle_position.specs.declared.Deciding.{Deciding}
use Rattle.settle_position.specs.Deciding.{Prepared}
use Rattle.marks.proofs.Counts.{byte_bit, sum_next, bits_le}
use Rattle.settle_trust.proofs.Search.{only_seen, none_seen}
use Rattle.settle_trust.proofs.Trusted.{decided_confessed, decided_by_lists}

-- ---- one list, with the mark word m and the number a, beside the reference's, v and b

abbrev said : ℕ → ℕ → ℤ → Entry
said j m a = cond (bit_of m j) (Some a) None

module _ (j m v : ℕ) (a b : ℤ) where
  abbrev same : Bool
  same = eqb m v && eq_z a b

  said_same : T (eqb m v) → T (eq_z a b) → said j m a ≡ said j v b
  said_same p q = rw (eqb→eq m v p, eqZ→eq a b q)

  -- the reference says u: so do those that agree with it
  agree_is : {u : ℤ} → said j v b ≡ Some u → bit same ≤ is u (said j m a)
  agree_is {u} e = go (eqb m v) (eq_z a b) said_same
    where
      go : (s t : Bool) → (T s → T t → said j m a ≡ said j v b) → bit (s && t) ≤ is u (said j m a)
      go true true h = rw (h tt tt ∙ e) (omega (arith, is_same u))
      go true false h = omega arith
      go false t h = omega arith

  unmarked_says : T (eqb m 0) → said j m a ≡ None
  unmarked_says p = rw (eqb→eq m 0 p, bit_none j)

  -- and another position stands in others
  other_is : {u : ℤ} (w : ℤ) → w ≢ u → said j v b ≡ Some u → is w (said j m a) + bit same ≤ bit (eqb m v) + bit (is_apart m v)
  other_is {u} w d e = go (eqb m v) (eq_z a b) (eqb m 0) said_same unmarked_says
    where
      go : (s t z : Bool) → (T s → T t → said j m a ≡ said j v b) → (T z → said j m a ≡ None) → is w (said j m a) + bit (s && t) ≤ bit s + bit (not s && not z)
      go true true z h n = omega (arith, is_other w (said j m a) (λ q. d (same_position (h tt tt ∙ e) q)))
      go true false z h n = omega (arith, is_le w (said j m a))
      go false t true h n = rw (n tt) (omega arith)
      go false t false h n = omega (arith, is_le w (said j m a))

  -- with the reference's marks, the position that it says is its number
  number_same : {u : ℤ} (s : Bool) → cond s (Some a) None ≡ Some u → cond s (Some b) None ≡ Some u → a ≡ b
  number_same true p q = sym (same_position (sym p) (sym q))
  number_same false p q = absurd (not_null refl p)

  agree_says : {u : ℤ} → said j v b ≡ Some u → T (eqb m v) → said j m a ≡ Some u → T (eq_z a b)
  agree_says {u} e p q =
      let z : a ≡ b = number_same (bit_of v j) (rw (eqb→eq m v p) at q) e in
      rw z (eq_z_refl b)

  -- the reference says u: it stands in those that agree with it, and in some that have other marks
  more_is : {u : ℤ} → said j v b ≡ Some u → is u (said j m a) ≤ bit same + bit (is_apart m v)
  more_is {u} e = go (eqb m v) (eq_z a b) (eqb m 0) (agree_says e) unmarked_says
    where
      go : (s t z : Bool) → (T s → said j m a ≡ Some u → T t) → (T z → said j m a ≡ None) → is u (said j m a) ≤ bit (s && t) + bit (not s && not z)
      go true true z h n = omega (arith, is_le u (said j m a))
      go true false z h n = omega (arith, is_other u (said j m a) (h tt))
      go false t true h n = rw (n tt) (omega arith)
      go false t false h n = omega (arith, is_le u (said j m a))

  -- the reference says nothing: so do those that have its marks
  null_says : said j v b ≡ None → T (eqb m v) → said j m a ≡ None
  null_says e p = rw (eqb→eq m v p) (go (bit_of v j) e)
    where
      go : (s : Bool) → cond s (Some b) None ≡ None → cond s (Some a) None ≡ None
      go true q = absurd (not_null q refl)
      go false q = refl

  apart_is : (w : ℤ) → said j v b ≡ None → is w (said j m a) ≤ bit (is_apart m v)
  apart_is w e = go (eqb m v) (eqb m 0) (null_says e) unmarked_says
    where
      go : (s z : Bool) → (T s → said j m a ≡ None) → (T z → said j m a ≡ None) → is w (said j m a) ≤ bit (not s && not z)
      go true z h n = rw (h tt) (omega arith)
      go false true h n = rw (n tt) (omega arith)
      go false false h n = is_le w (said j m a)

and_le : (s t : Bool) → bit (s && t) ≤ bit s
and_le true true = omega arith
and_le true false = omega arith
and_le false t = omega arith

-- ---- comparing list after list

module _ {marks : List ℕ} {lists : List (List ℤ)} {reference : ℕ} where
  pub compares_none : Compares 0 marks lists reference (record { alike = 0; apart = 0; same = replicate 32 0 })
  unfolding sum
  compares_none = record { alike = refl; apart = refl; same = λ j l. get_or-replicate 32 j 0 0 l }

  module _ {k : ℕ} {r : Comparison} (C : Compares k marks lists reference r) where
    -- no count is above k
    pub compares_few : (r.alike ≤ k) × (r.apart ≤ k) × Each 32 (λ j. get_or r.same j 0 ≤ k)
    compares_few =
        let m = get_or marks reference 0 in (
          omega (arith, C.alike, bits_le k (λ i. eqb (get_or marks i 0) m)),
          omega (arith, C.apart, bits_le k (λ i. is_apart (get_or marks i 0) m)),
          λ j l. omega (arith, C.same j l, bits_le k (agrees marks lists reference j)),
        )

    -- one list more: it has the reference's marks, or others
    module _ {b : Bool} (e : b ≡ is_apart (get_or marks k 0) (get_or marks reference 0)) where
      abbrev Next : List ℕ → Type 0
      Next same =
          Compares (k + 1) marks lists reference
          (record { alike = r.alike + bool_byte (eqb (get_or marks k 0) (get_or marks reference 0)); apart = r.apart + bool_byte b; same = same })

      next : {same : List ℕ} → Each 32 (λ j. get_or same j 0 ≡ get_or r.same j 0 + bit (agrees marks lists reference j k)) → Next same
      next h =
          record {
            alike = sum_next _ k C.alike (byte_bit (eqb (get_or marks k 0) (get_or marks reference 0)));
            apart = sum_next _ k C.apart (byte_bit b ∙ ap bit e);
            same = λ j l. h j l ∙ sum_next _ k (C.same j l) refl;
          }

      pub compares_alike : {same : List ℕ} → get_or marks k 0 ≡ get_or marks reference 0
          → Each 32 (λ j. get_or same j 0 ≡ get_or r.same j 0 + bit (same_number (get_or lists k []) (get_or lists reference []) j)) → Next same
      compares_alike q h = next (λ j l. rw (eq-eqb (get_or marks k 0) (get_or marks reference 0) q) (h j l))

      pub compares_other : (get_or marks k 0 ≡ get_or marks reference 0 → ⊥) → Next r.same
      compares_other q = next (λ j l. rw (ne_eqb (get_or marks k 0) (get_or marks reference 0) q) (omega arith))

-- ---- all lists

module _ (n need : ℕ) (marks : List ℕ) (lists : List (List ℤ)) (reference j : ℕ) where
  abbrev E : ℕ → Entry
  E = column_of marks lists j

  abbrev m : ℕ → ℕ
  m k = get_or marks k 0

  abbrev a : ℕ → ℤ
  a k = get_or (get_or lists k []) j (pos 0)

  abbrev alikes : ℕ → ℕ
  alikes k = bit (eqb (m k) (m reference))

  abbrev aparts : ℕ → ℕ
  aparts k = bit (is_apart (m k) (m reference))

  abbrev agree : ℕ → ℕ
  agree k = bit (agrees marks lists reference j k)

  abbrev count : ℤ → ℕ
  count w = sum n (λ k. is w (E k))

  says : (k : ℕ) → said j (m k) (a k) ≡ E k
  unfolding entry_at
  says k = refl

  leads : E reference ≡ said j (m reference) (a reference)
  leads = sym (says reference)

  module _ {u : ℤ} (e : column_of marks lists j reference ≡ Some u) where
    agree_le : agreeing n marks lists reference j ≤ count u
    agree_le =
        omega (arith, sums_le n (agree ∷ []) ((λ k. is u (E k)) ∷ []) (λ k l. omega (arith, rw (says k) at (agree_is j (m k) (m reference) (a k) (a reference) (sym leads ∙ e)))))

    other_le : (w : ℤ) → w ≢ u → count w + agreeing n marks lists reference j ≤ alike_to n marks reference + apart_from n marks reference
    other_le w d =
        omega (
          arith,
          sums_le n ((λ k. is w (E k)) ∷ agree ∷ []) (alikes ∷ aparts ∷ [])
              (λ k l. omega (arith, rw (says k) at (other_is j (m k) (m reference) (a k) (a reference) w d (sym leads ∙ e)))),
        )

    agree_alike : agreeing n marks lists reference j ≤ alike_to n marks reference
    agree_alike =
        omega (arith, sums_le n (agree ∷ []) (alikes ∷ []) (λ k l. omega (arith, and_le (eqb (m k) (m reference)) (same_number (get_or lists k []) (get_or lists reference []) j))))

    led_position : need ≤ agreeing n marks lists reference j → alike_to n marks reference + apart_from n marks reference < agreeing n marks lists reference j + need
        → decided false n need E ≡ Some u
    led_position p q =
        decided_by_lists n need E refl (λ z. omega (arith, agree_alike))
        ∙ ap (choose false false)
        (only_seen (stands_in n need E) E u (λ w t. go w t (ℤ_discrete w u)) n (le-leb need (count u) (omega (arith, agree_le))) (omega (arith, agree_le, agree_alike)))
      where
        go : (w : ℤ) → stands_in n need E w ≡ true → Dec (w ≡ u) → w ≡ u
        go w t (yes z) = z
        go w t (no z) = absurd (omega (arith, leb-true need (count w) t, other_le w z))

    more_le : count u ≤ agreeing n marks lists reference j + apart_from n marks reference
    more_le =
        omega (
          arith,
          sums_le n ((λ k. is u (E k)) ∷ []) (agree ∷ aparts ∷ []) (λ k l. omega (arith, rw (says k) at (more_is j (m k) (m reference) (a k) (a reference) (sym leads ∙ e)))),
        )

    led_lacking : agreeing n marks lists reference j + apart_from n marks reference < need
        → alike_to n marks reference + apart_from n marks reference < agreeing n marks lists reference j + need → decided false n need E ≡ None
    led_lacking p q =
        decided_by_lists n need E refl (λ z. omega arith)
        ∙ ap (choose false false) (none_seen (stands_in n need E) E (λ w. lt-leb need (count w) (few w (ℤ_discrete w u))) n)
      where
        few : (w : ℤ) → Dec (w ≡ u) → count w < need
        few w (yes z) = rw z (omega (arith, more_le))
        few w (no z) = omega (arith, other_le w z)

  led_null : column_of marks lists j reference ≡ None → apart_from n marks reference < need → decided false n need E ≡ None
  led_null e q =
      decided_by_lists n need E refl (λ z. omega arith)
      ∙ ap (choose false false) (none_seen (stands_in n need E) E (λ w. lt-leb need (count w) (few w)) n)
    where
      few : (w : ℤ) → count w < need
      few w =
          omega (arith, sums_le n ((λ k. is w (E k)) ∷ []) (aparts ∷ []) (λ k l. omega (arith, rw (says k) at (apart_is j (m k) (m reference) (a k) (a reference) w (sym leads ∙ e)))))

  -- by what the reference says
  led : (e : Entry) → column_of marks lists j reference ≡ e
      → Decides (cell_for e) need (alike_to n marks reference) (apart_from n marks reference) (agreeing n marks lists reference j) → decided false n need E ≡ e
  led None q d = led_null q d
  led (Some u) q d = led_position q d.0 d.1

  lacking : (e : Entry) → column_of marks lists j reference ≡ e
      → Lacks (cell_for e) need (alike_to n marks reference) (apart_from n marks reference) (agreeing n marks lists reference j) → decided false n need E ≡ None
  lacking None q d = absurd (omega (arith, d.0))
  lacking (Some u) q d = led_lacking q d.1 d.2

-- ---- what deciding looks at, if the lists stand so to that of the link `reference`, and they and their marks decide the entries E

pub prepared : (E : ℕ → Entry) (lists : List (List ℤ)) (marks : List ℕ) (reference : ℕ) (r : Comparison) (d : Deciding)
    → Compares d.count marks lists reference r → d.alike ≡ r.alike → d.apart ≡ r.apart → d.word ≡ get_or marks reference 0
    → ((j : ℕ) → decided (bit_of d.confessed j) d.count d.need (column_of marks lists j) ≡ E j) → ((j : ℕ) → 32 ≤ j → E j ≡ None) → d.count ≤ 32
    → Prepared E lists marks (get_or lists reference []) r.same d
prepared E lists marks reference r d C alike apart word decides past few =
    record {
      healed = λ j c. sym (decides j) ∙ decided_confessed d.count d.need (column_of marks lists j) c;
      shown = λ j l c t. entry j c ∙ led d.count d.need marks lists reference j _ (stands j) (rw (alike, apart, C.alike, C.apart, C.same j l) at t);
      lacking = λ j l c t. entry j c
          ∙ lacking d.count d.need marks lists reference j _ (stands j) (rw (alike, apart, C.alike, C.apart, C.same j l) at t);
      searched = λ j l c t. entry j c;
      past = past;
      few = few;
    }
  where
    entry : (j : ℕ) → bit_of d.confessed j ≡ false → E j ≡ decided false d.count d.need (column_of marks lists j)
    entry j c = sym (decides j) ∙ rw c

    stands : (j : ℕ) → column_of marks lists j reference ≡ entry_at d.word (get_or lists reference []) j
    stands j = ap (λ (w : ℕ). entry_at w (get_or lists reference []) j) (sym word)
