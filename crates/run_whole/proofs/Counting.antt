-- The counts that were written are those that the records hold (document 02, A10): the rounds played are rounds within the limits.
use mathlib.Core.Path.{◌≡◌, sym, ◌∙◌}
use mathlib.Core.Bool.{true, false}
use mathlib.Core.List.{List}
use Prim.Native.Nat.{ℕ}
use lib.Dec.{eqb}
use lib.ListN.{get_or}
use Rattle.marks.specs.Marks.{bit_of}
use Rattle.terms.specs.Counting.{Each}
use Rattle.ring_spec.specs.Rounds.{receivers, is_receiver}
use Rattle.ring_spec.proofs.Since.{ring_counts}
use Rattle.run_spec.specs.RunFile.{read_file, ending, rounds_played, ring_from}
use Rattle.run_spec.proofs.Reached.{taken}
use Rattle.run_spec.proofs.Demand3.{played_with, played_within}
use Rattle.run_state.specs.Counts.{CountsOf}

pub counts_held : (s : List ℕ) {l : List ℕ} → let F = read_file s in
    CountsOf F.setup.family (rounds_played F) l → F.setup.begun ≡ true → let R = ring_from F.setup (rounds_played F) in
    Each receivers (λ i. is_receiver F.setup.n F.setup.listeners i ≡ true → bit_of R.before i ≡ false → (R.heads i).seat.since ≡ get_or l i 0)
unfolding rounds_played
counts_held s C begun i b r q =
    let F = read_file s in
    let ok = eqb (ending F) 0 in
    let S = F.setup in
    ring_counts S.family S.n S.listeners S.f S.first (played_with ok F) (played_within F (taken s begun) ok) i b r q
    ∙ sym (C.counts i b)
