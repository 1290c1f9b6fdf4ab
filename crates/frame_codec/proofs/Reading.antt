-- Reading goes by three rows of checks: the frame check, the common fields, the rest. The first that gives a number decides.
use mathlib.Core.Path.{◌≡◌, refl, ◌∙◌, ap}
use mathlib.Core.Bool.{cond}
use mathlib.Core.List.{List}
use mathlib.Core.Logic.{◌≢◌}
use Prim.Native.Nat.{ℕ}
use lib.Dec.{eqb}
use borrow.Author.Tests.{eq-eqb, ne_eqb}
use Rattle.terms.proofs.Refusals.{refuses}
use Rattle.frame_check.specs.Check.{kind_field, sender_field, phase_field, frame_refusal}
use Rattle.terms.proofs.Checks.{followed}
use Rattle.frame_check.proofs.Laws.{check_frame_refuses}
use Rattle.frame_spec.specs.declared.Said.{Said}
use Rattle.frame_spec.specs.Said.{refused, round_of, rest_field, refusal_of, said, said_of}
use Rattle.frame_codec.specs.Steps.{from_marks, common_refusal, said_unless}

module _ (n p r k : ℕ) (s : List ℕ) where
  abbrev common : ℕ
  common = common_refusal (kind_field s) p r k s

  abbrev last : ℕ
  last = from_marks (kind_field s) n (rest_field s)

  rows : refusal_of n p r k s ≡ cond (eqb (frame_refusal s) 0) (cond (eqb common 0) last common) (frame_refusal s)
  unfolding refusal_of common_refusal
  rows =
      check_frame_refuses s _
      ∙ ap (λ (x : ℕ). cond (eqb (frame_refusal s) 0) x (frame_refusal s))
      (followed (eqb (round_of (kind_field s)) r) 21 _ _ last
      (followed (eqb (sender_field s) k) 8 _ _ last
      (followed (eqb (phase_field s) p) 22 0 last last refl)))

  pub refused_frame : frame_refusal s ≢ 0 → Said.Refused (frame_refusal s) ≡ said_of (said n p r k s)
  unfolding said
  refused_frame h = rw (rows, ne_eqb _ 0 h) (ap said_of (refuses refused (frame_refusal s) _ h))

  pub refused_common : frame_refusal s ≡ 0 → common ≢ 0 → Said.Refused common ≡ said_of (said n p r k s)
  unfolding said
  refused_common e h = rw (rows, eq-eqb _ 0 e, ne_eqb common 0 h) (ap said_of (refuses refused common _ h))

  pub says_rest : frame_refusal s ≡ 0 → common ≡ 0 → said_unless last (kind_field s) n (rest_field s) ≡ said_of (said n p r k s)
  unfolding said
  says_rest e h = rw (rows, eq-eqb _ 0 e, eq-eqb common 0 h)
