-- How many phase ends a file can have: by its bytes, since the start takes 10 at least and each round 8, and by the last phase, since no round is given after it.
use mathlib.Core.Path.{◌≡◌, refl, sym, ◌∙◌}
use mathlib.Core.Bool.{Bool, true, false, cond, true≢false}
use mathlib.Core.List.{List, []}
use Prim.Native.Nat.{ℕ, ◌+◌, ◌*◌, ◌≤◌}
use native.Mathlib.Omega.{arith}
use lib.Dec.{eqb}
use lib.ListN.{length}
use Rattle.terms.specs.Sizes.{rounds_of}
use Rattle.terms.specs.declared.Family.{Family}
use Rattle.terms.specs.declared.Family.TheVariants.{TwoRounds, OneRound}
use Rattle.ring_spec.specs.Rounds.{PhaseEnd, most_rounds}
use Rattle.ring_spec.proofs.Counts.{Counted, counted}
use Rattle.run_spec.specs.RunFile.{File, read_file, ending, rounds_played, ends_so_far, ends_played, ends_from}
use Rattle.run_spec.proofs.Bytes.{length_then, cost}
use Rattle.run_spec.proofs.Reached.{taken}
use Rattle.run_spec.proofs.Demand3.{played_with, played_within}

-- c phase ends of the file s: none before a start; each phase takes 16 bytes, or 8 in a ring of one round; and there are those of phases 1 to 65,535 and the start
pub record FewEnds (s : List ℕ) (c : ℕ) : Type 0 where
  pub none : (read_file s).setup.begun ≡ false → c ≡ 0
  pub bytes : let k = 8 * rounds_of (read_file s).setup.family in k * c ≤ length s + k
  pub most : c ≤ 65536

by_bytes : (K : Family) {bytes rounds ends phase round : ℕ} → 10 + 8 * rounds ≤ bytes → Counted K rounds ends phase round
    → 8 * rounds_of K * ends ≤ bytes + 8 * rounds_of K
by_bytes TwoRounds l C = omega arith
by_bytes OneRound l C = omega arith

by_phases : (K : Family) {rounds ends phase round : ℕ} → rounds ≤ most_rounds K → Counted K rounds ends phase round → ends ≤ 65536
by_phases TwoRounds l C = omega arith
by_phases OneRound l C = omega arith

-- with the pending round played or not
module _ (s : List ℕ) where
  abbrev F : File
  F = read_file s

  abbrev ends_by : Bool → List PhaseEnd
  ends_by b = cond F.setup.begun (ends_from F.setup (played_with b F)) []

  played_bytes : (b : Bool) → F.setup.begun ≡ true → 10 + 8 * length (played_with b F) ≤ length s
  played_bytes true begun = omega (arith, (cost s).records begun, length_then F.rounds.pending F.rounds.played F.rounds.last)
  played_bytes false begun = omega (arith, (cost s).records begun)

  few_with : (b : Bool) → FewEnds s (length (ends_by b))
  few_with b = go F.setup.begun refl
    where
      K : Family
      K = F.setup.family

      go : (c : Bool) → F.setup.begun ≡ c → FewEnds s (length (cond c (ends_from F.setup (played_with b F)) []))
      go true e =
          let C = counted K F.setup.n F.setup.f F.setup.first (played_with b F) in
          record { none = λ z. absurd (true≢false (sym e ∙ z)); bytes = by_bytes K (played_bytes b e) C; most = by_phases K (played_within F (taken s e) b).rounds C }
      go false e = record { none = λ z. refl; bytes = omega arith; most = omega arith }

  pub few_so_far : FewEnds s (length (ends_so_far F))
  few_so_far = few_with false

  pub few_ends : FewEnds s (length (ends_played F))
  unfolding ends_played rounds_played
  few_ends = few_with (eqb (ending F) 0)
