-- The line of a phase end: its fields, each put behind the one before, with a space or the line's end after it, are the line. Of a phase end's records
-- the line says only the positions of the receivers that are not struck, so it is that of any array that holds these (`line_is`). At the start all listeners
-- count as struck, so its line is the same however many there are (`first_line_as`), and that of the heads' positions (`first_line_is`).
use Rattle.std.specs.Prelude.{None, Some}
use mathlib.Core.Path.{◌≡◌, ap, sym, ◌∙◌}
use mathlib.Core.Bool.{Bool, true, false, not, cond, or-false}
use mathlib.Core.List.{List, [], ◌∷◌, ◌++◌}
use Prim.Native.Nat.{ℕ, ◌%◌, ◌≤◌}
use lib.Dec.{ltb}
use lib.ListN.{get_or}
use lib.Seq.{append_snoc}
use lib.IntN.{ℤ, pos}
use borrow.Author.Tests.{ltb-true}
use Rattle.texts.specs.Numbers.{decimal, hex}
use Rattle.texts.proofs.Digits.{hex_low}
use Rattle.terms.specs.Entry.{Entry}
use Rattle.terms.specs.declared.Family.{Family}
use Rattle.marks.specs.Marks.{bit_of}
use Rattle.marks.proofs.Marks.{bit_none}
use Rattle.terms.specs.Counting.{Each}
use Rattle.convergence.specs.Phases.{apart, spread}
use Rattle.ring_spec.specs.Rounds.{PhaseEnd, receivers, is_receiver, is_out, as_end, all_listeners, first_heads, first_end}
use Rattle.ring_spec.proofs.Receivers.{first_out, first_out_as}
use Rattle.run_spec.specs.Listing.{text_of, line}
use Rattle.run_listing.specs.Texts.{fields, end_line}
use Rattle.run_listing.specs.Held.{end_in}
use Rattle.run_listing.specs.Heights.{LowestHighest}
use Rattle.run_listing.proofs.Lowest.{no_listener, found_same, found_held, found_held_as}

-- the last eight digits of a mark word for heads and listeners are the heads'
hex_heads : (x : ℕ) → hex 8 (x % 4294967296) ≡ hex 8 x
hex_heads x = hex_low 8 x

pub fields_are : (p collect confess : ℕ) (low high : Entry) {wide x y : ℕ} → wide ≡ apart low high → x ≡ collect % 4294967296 → y ≡ confess % 4294967296
    → (decimal p ++ (32 ∷ []))
    ++ ((text_of low ++ (32 ∷ []))
    ++ ((text_of high ++ (32 ∷ []))
    ++ ((decimal wide ++ (32 ∷ []))
    ++ ((hex 8 x ++ (32 ∷ []))
    ++ (hex 8 y ++ (10 ∷ []))))))
    ≡ fields p low high (apart low high) collect confess
unfolding fields
fields_are p collect confess low high w a b = rw (w, a, b, hex_heads collect, hex_heads confess) (simp append_snoc)

-- of the lowest and the highest that are found, they are the line
pub found_line : (n m p collect confess struck : ℕ) (ps : List ℤ) {low high : Entry} → LowestHighest receivers (end_in n m struck ps) low high
    → fields p low high (apart low high) collect confess ≡ end_line n m p ps collect confess struck
unfolding end_line spread
found_line n m p collect confess struck ps f = rw (← f.is_low, ← f.is_high)

pub line_is : (n m p : ℕ) (e : PhaseEnd) (positions : List ℤ)
    → Each receivers (λ i. is_receiver n m i ≡ true → bit_of e.struck i ≡ false → (e.heads i).seat.position ≡ Some (get_or positions i (pos 0)))
    → line n m p e ≡ end_line n m p positions e.collect e.confess e.struck
unfolding line end_line fields spread
line_is n m p e positions h =
    let f = found_held n m e.struck (λ i. (e.heads i).seat.position) positions h in
    rw (f.is_low, f.is_high)

-- ---- the start

module _ (K : Family) (n f : ℕ) (v : ℕ → ℤ) where
  -- however many listeners there are
  pub first_line_as : (m k p : ℕ) → line n m p (first_end K n f v) ≡ line n k p (first_end K n f v)
  unfolding line spread
  first_line_as m k p =
      let e = first_end K n f v in
      let s = found_same (as_end n m e) (as_end n k e) receivers
      (λ i l. ap (λ (o : Bool). cond o None (e.heads i).seat.position) (first_out_as n m k i l)) in
      rw (s.is_low, s.is_high)

  -- the heads' positions alone, as a player without listeners holds them
  pub first_line_is : (m p : ℕ) (positions : List ℤ) → n ≤ 32
      → Each n (λ i. (first_heads K n f v i).seat.position ≡ Some (get_or positions i (pos 0)))
      → line n m p (first_end K n f v) ≡ end_line n 0 p positions 0 0 0
  unfolding line end_line fields spread
  first_line_is m p positions most h =
      first_line_as m 0 p ∙ (
      let s = found_held_as n 0 all_listeners (λ i. (first_heads K n f v i).seat.position) positions held 0 0
      (λ i l. first_out n 0 i most l ∙ sym (none_out i)) in
      rw (s.is_low, s.is_high))
    where
      none_out : (i : ℕ) → is_out n 0 0 i ≡ not (ltb i n)
      none_out i = rw (bit_none i, no_listener n i) (or-false (not (ltb i n)))

      held : Each receivers (λ i. is_receiver n 0 i ≡ true → bit_of all_listeners i ≡ false → (first_heads K n f v i).seat.position ≡ Some (get_or positions i (pos 0)))
      held i l r o = h i (ltb-true i n (sym (no_listener n i) ∙ r))
