-- A frame is accepted exactly if the frame check gives 0 and each test after it holds; then it says what its kind means. Each way goes check by
-- check along the row.
use mathlib.Core.Path.{◌≡◌, refl, sym, ◌∙◌}
use mathlib.Core.Bool.{true, cond}
use mathlib.Core.List.{List}
use Prim.Native.Nat.{ℕ, zero, suc}
use native.Mathlib.Omega.{arith}
use lib.Dec.{eqb}
use borrow.Author.Tests.{eq-eqb, ne_eqb, eqb-true}
use Rattle.terms.specs.Refusals.{unless_refused}
use Rattle.frame_check.specs.Check.{kind_field, sender_field, phase_field, frame_refusal}
use Rattle.terms.proofs.Checks.{passed}
use Rattle.frame_check.proofs.Laws.{check_frame_refuses}
use Rattle.frame_spec.specs.Said.{round_of, rest_field, count_fits, range_fits, refusal_of, Meaning, refused, meaning, said}
use Rattle.frame_spec.specs.Proper.{AcceptedMeaning}

-- every check of a frame passed
pub record Passed (n p r k : ℕ) (s : List ℕ) : Type 0 where
  pub frame : frame_refusal s ≡ 0
  pub of_round : round_of (kind_field s) ≡ r
  pub sender : sender_field s ≡ k
  pub of_phase : phase_field s ≡ p
  pub count : count_fits (kind_field s) n (rest_field s) ≡ true
  pub range : range_fits (kind_field s) n (rest_field s) ≡ true

-- a row that gives 0, x what its first part gives
neither : (x more : ℕ) → cond (eqb x 0) more x ≡ 0 → (x ≡ 0) × (more ≡ 0)
neither zero more e = (refl, e)
neither (suc x) more e = let q = rw (ne_eqb (suc x) 0 (omega arith)) at e in absurd (omega arith)

-- an accepted meaning comes of no refusal
accepted_unless : (c : ℕ) (m m' : Meaning) → unless_refused refused c m ≡ m' → AcceptedMeaning m' → (c ≡ 0) × (m ≡ m')
accepted_unless zero m m' e a = (refl, e)
accepted_unless (suc c) m m' e a = absurd (rw (sym e) at a)

module _ (n p r k : ℕ) (s : List ℕ) where
  -- what a frame says that passes
  pub says : Passed n p r k s → said n p r k s ≡ meaning (kind_field s) n (rest_field s)
  unfolding said refusal_of
  says P =
      rw (check_frame_refuses, P.frame, eq-eqb _ _ P.of_round, eq-eqb _ _ P.sender, eq-eqb _ _ P.of_phase, P.count, P.range)

  -- a frame that is not refused passes
  pub accepted : {m : Meaning} → said n p r k s ≡ m → AcceptedMeaning m → Passed n p r k s × (meaning (kind_field s) n (rest_field s) ≡ m)
  unfolding said refusal_of
  accepted {m} e a =
      let none = accepted_unless (refusal_of n p r k s) (meaning (kind_field s) n (rest_field s)) m e a in
      let both = neither (frame_refusal s) _ (sym (check_frame_refuses s _) ∙ none.0) in
      let round = passed (eqb (round_of (kind_field s)) r) _ both.1 in
      let sender = passed (eqb (sender_field s) k) _ round.1 in
      let phase = passed (eqb (phase_field s) p) _ sender.1 in
      let count = passed (count_fits (kind_field s) n (rest_field s)) _ phase.1 in
      let range = passed (range_fits (kind_field s) n (rest_field s)) _ count.1 in
      (record { frame = both.0; of_round = eqb-true _ _ round.0; sender = eqb-true _ _ sender.0; of_phase = eqb-true _ _ phase.0; count = count.0; range = range.0 }, none.1)
