-- The frame check gives 0 only if its four tests hold. So an accepted frame has as many bytes as its length field says, is of a known kind, and is
-- as long as its kind and count say, which is never less than the seven bytes of the common fields. Where it gives a number, it gives the same
-- number before any checks that follow.
use mathlib.Core.Path.{◌≡◌, refl, sym}
use mathlib.Core.Bool.{true, cond, true≢false}
use mathlib.Core.Logic.{◌≢◌}
use mathlib.Core.List.{List, []}
use Prim.Native.Nat.{ℕ, ◌≤◌}
use native.Mathlib.Omega.{arith}
use lib.Dec.{eqb, leb}
use lib.ListN.{length, drop}
use borrow.Author.Tests.{eq-eqb, ne_eqb, eqb-true}
use Rattle.frame_check.specs.Check.{Kind, position, silence, list, confession, unknown, is_known, length_of, length_field, kind_field, count_field, check_frame, frame_refusal, rest_of}
use Rattle.terms.proofs.Checks.{passed, followed}

-- a frame of a known kind has room for the common fields
known_long : (k : Kind) (count : ℕ) → is_known k ≡ true → 7 ≤ length_of k count
known_long position count h = omega arith
known_long silence count h = omega arith
known_long list count h = omega arith
known_long confession count h = omega arith
known_long unknown count h = absurd (true≢false (sym h))

-- checks that follow are asked only if the frame check accepts
pub check_frame_refuses : (s : List ℕ) (more : ℕ) → check_frame s more ≡ cond (eqb (frame_refusal s) 0) more (frame_refusal s)
unfolding check_frame
check_frame_refuses s more =
    followed (leb 4 (length s)) 5 _ _ _
    (followed (eqb (length_field s) (length s)) 5 _ _ _
    (followed (is_known (kind_field s)) 6 _ _ _
    (followed (eqb (length s) (length_of (kind_field s) (count_field s))) 7 _ _ _ refl)))

module _ (s : List ℕ) (accepted : frame_refusal s ≡ 0) where
  tests_hold : (length_field s ≡ length s) × (is_known (kind_field s) ≡ true) × (length s ≡ length_of (kind_field s) (count_field s))
  unfolding check_frame
  tests_hold =
      let first = passed (leb 4 (length s)) 5 accepted in
      let second = passed (eqb (length_field s) (length s)) 5 first.1 in
      let third = passed (is_known (kind_field s)) 6 second.1 in
      let fourth = passed (eqb (length s) (length_of (kind_field s) (count_field s))) 7 third.1 in
      (eqb-true _ _ second.0, third.0, eqb-true _ _ fourth.0)

  pub accepted_whole : length_field s ≡ length s
  accepted_whole = tests_hold.0

  pub accepted_known : is_known (kind_field s) ≡ true
  accepted_known = tests_hold.1

  pub accepted_length : length s ≡ length_of (kind_field s) (count_field s)
  accepted_length = tests_hold.2

  pub accepted_long : 7 ≤ length s
  accepted_long = rw accepted_length (known_long (kind_field s) (count_field s) accepted_known)

  pub accepted_rest : rest_of s ≡ drop 7 s
  unfolding rest_of
  accepted_rest = rw (eq-eqb (frame_refusal s) 0 accepted)

pub refused_rest : (s : List ℕ) → frame_refusal s ≢ 0 → rest_of s ≡ []
unfolding rest_of
refused_rest s refused = rw (ne_eqb (frame_refusal s) 0 refused)
