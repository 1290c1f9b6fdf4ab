-- Document 02, A11, in the request's own words, of the rows that `play` wrote. It follows from the stronger `Whole.quiet`, for which the
-- last round is enough, in rings of both families.
use Rattle.std.specs.Prelude.{true, false, List, ◌≡◌, ℕ, ◌+◌, ◌<◌, get_or, pos}
use Rattle.terms.specs.declared.Family.TheVariants.{TwoRounds}
use Rattle.marks.specs.Marks.{bit_of}
use Rattle.terms.specs.Counting.{Each}
use Rattle.ring_spec.specs.Rounds.{PhaseEnd, receivers, is_receiver}
use Rattle.run_spec.specs.RunFile.{read_file, ends_played}
use Rattle.run_whole.specs.declared.PlayResult.{PlayResult}
use Rattle.run_whole.specs.Buffers.{Buffers, row}
use Rattle.run_whole.specs.Whole.{end_number, Whole}

-- receiver i was struck in neither round of the phase that ended so
pub record InNeither (n m : ℕ) (x : PhaseEnd) (i : ℕ) : Type 0 where
  pub below : i < receivers
  pub there : is_receiver n m i ≡ true
  pub collect : bit_of x.collect i ≡ false
  pub confess : bit_of x.confess i ≡ false

-- if both rounds passed without a strike on any head, all heads, and all listeners struck in neither round, hold one and the same position
-- (Q92, Q93)
abbrev pub QuietPhase : Type 0
QuietPhase =
    (s : List ℕ) (r : PlayResult) (B B' : Buffers) → Whole s r B B' → let S = (read_file s).setup in S.family ≡ TwoRounds
    → (e : ℕ) → e + 1 < r.ends → let x = end_number (ends_played (read_file s)) (e + 1) in
    Each S.n (λ k. (bit_of x.collect k ≡ false) × (bit_of x.confess k ≡ false))
    → (i j : ℕ) → InNeither S.n S.listeners x i → InNeither S.n S.listeners x j
    → get_or (row (e + 1) B'.rows) i (pos 0) ≡ get_or (row (e + 1) B'.rows) j (pos 0)
