-- A quiet phase of a played file (document 02, A11): its rounds are rounds within the limits, so `ring_quiet` holds of it.
use mathlib.Core.Path.{◌≡◌, refl}
use mathlib.Core.Bool.{Bool, true, false, cond}
use mathlib.Core.List.{List, []}
use Prim.Native.Nat.{ℕ, ◌+◌, ◌<◌}
use native.Mathlib.Omega.{arith}
use lib.Dec.{eqb}
use lib.ListN.{length, get_or}
use Rattle.ring_spec.specs.Rounds.{PhaseEnd, as_end}
use Rattle.ring_spec.specs.Converges.{no_end, OneFocus}
use Rattle.ring_spec.proofs.Demand3.{ring_quiet}
use Rattle.run_spec.specs.RunFile.{File, read_file, ending, rounds_played, ends_played, ends_from}
use Rattle.run_spec.proofs.Reached.{taken}
use Rattle.run_spec.proofs.Demand3.{played_with, played_within}

pub file_quiet : (s : List ℕ) → let F = read_file s in let es = ends_played F in
    (i : ℕ) → i + 1 < length es → OneFocus F.setup.n (as_end F.setup.n F.setup.listeners (get_or es i no_end))
unfolding ends_played rounds_played
file_quiet s = go F.setup.begun refl
  where
    F : File
    F = read_file s

    Quiet : List PhaseEnd → Type 0
    Quiet es = (i : ℕ) → i + 1 < length es → OneFocus F.setup.n (as_end F.setup.n F.setup.listeners (get_or es i no_end))

    go : (b : Bool) → F.setup.begun ≡ b → Quiet (cond b (ends_from F.setup (rounds_played F)) [])
    go true e =
        let ok = eqb (ending F) 0 in
        ring_quiet F.setup.family F.setup.n F.setup.listeners F.setup.f F.setup.first (played_with ok F) (played_within F (taken s e) ok)
    go false e = λ i l. absurd (omega arith)
