-- The line that a round brings: only the last round of a phase shows one, that of the phase end that it makes.
use mathlib.Core.Path.{◌≡◌}
use mathlib.Core.Bool.{true, false}
use mathlib.Core.List.{[]}
use Prim.Native.Nat.{ℕ}
use Rattle.terms.specs.Sizes.{ends_with}
use Rattle.terms.specs.declared.Family.{Family}
use Rattle.ring_spec.specs.Rounds.{Round, Ring, after_round, phase_end}
use Rattle.run_spec.specs.Listing.{line}
use Rattle.run_spec.proofs.Streaming.{round_line}

module _ (K : Family) (n m f : ℕ) (R : Ring) (w : Round) where
  pub no_line : ends_with K R.round ≡ false → round_line K n m f R w ≡ []
  no_line c = rw c

  pub last_line : ends_with K R.round ≡ true
      → round_line K n m f R w ≡ line n m R.phase (phase_end K R.before w.struck (after_round K n f R w).heads)
  last_line c = rw c
