-- Demand 3 of every run file: its rounds played are rounds within the limits, so the ring of its records is as `ring_converges` says.
use mathlib.Core.Path.{◌≡◌, refl}
use mathlib.Core.Bool.{Bool, true, false, cond}
use mathlib.Core.List.{List, []}
use Prim.Native.Nat.{ℕ, ◌≤◌}
use native.Mathlib.Omega.{arith}
use native.Mathlib.Nat.{le_refl}
use lib.Dec.{eqb}
use Rattle.terms.specs.declared.Family.{Family}
use Rattle.ring_spec.specs.Rounds.{Round}
use Rattle.ring_spec.specs.Converges.{AnyTwo, RingWithin}
use Rattle.ring_spec.proofs.Demand3.{ring_converges}
use Rattle.run_spec.specs.RunFile.{File, read_file, ending, rounds_played, ends_played, ends_from, all_rounds}
use Rattle.run_spec.specs.EveryFile.{EveryFile}
use Rattle.run_spec.proofs.Reached.{Reached, taken, few_struck_in, within_then, length_then}

-- the rounds played, with the pending one or without it
abbrev pub played_with : Bool → File → List Round
played_with b F = cond b (all_rounds F.rounds) F.rounds.played

module _ (F : File) (I : Reached F) where
  abbrev K : Family
  K = F.setup.family

  abbrev n : ℕ
  n = F.setup.n

  abbrev m : ℕ
  m = F.setup.listeners

  abbrev f : ℕ
  f = F.setup.f

  pub played_within : (b : Bool) → RingWithin K n m f F.setup.first (played_with b F)
  played_within true =
      record {
        most = I.size.most;
        listeners = I.listeners;
        size = I.size.limit;
        range = I.ranges;
        few = few_struck_in n m f (all_rounds F.rounds) (within_then n m f F.rounds.pending F.rounds.played F.rounds.last I.rounds I.waiting);
        rounds = omega (arith, length_then F.rounds.pending F.rounds.played F.rounds.last, I.count);
      }
  played_within false =
      record {
        most = I.size.most;
        listeners = I.listeners;
        size = I.size.limit;
        range = I.ranges;
        few = few_struck_in n m f F.rounds.played I.rounds;
        rounds = omega (arith, I.count);
      }

  -- of the heads and any of the listeners
  pub some_converge : (b : Bool) (k : ℕ) → k ≤ m → AnyTwo K n k f (ends_from F.setup (played_with b F))
  some_converge b k l =
      let W = played_within b in
      ring_converges K n k f F.setup.first (played_with b F)
      (record { most = W.most; listeners = omega (arith, W.listeners); size = W.size; range = W.range; few = W.few; rounds = W.rounds })

  pub played_converges : (b : Bool) → AnyTwo K n m f (ends_from F.setup (played_with b F))
  played_converges b = some_converge b m (le_refl m)

pub every_file : EveryFile
unfolding ends_played rounds_played
every_file s = go (read_file s).setup.begun refl
  where
    F : File
    F = read_file s

    go : (b : Bool) → F.setup.begun ≡ b
        → (m : ℕ) → m ≤ F.setup.listeners → AnyTwo F.setup.family F.setup.n m F.setup.f (cond b (ends_from F.setup (rounds_played F)) [])
    go true e = some_converge F (taken s e) (eqb (ending F) 0)
    go false e = λ m h i k l. absurd (omega arith)
