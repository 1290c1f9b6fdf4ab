-- The pending round of a file can be played: it was counted before it was taken, so the rounds before it leave room, and these were within the limits.
-- Whoever it strikes, at most f heads (`waiting` of `Reached`), no closing in it is refused.
use mathlib.Core.Path.{◌≡◌, ap, ap₂, sym, ◌∙◌}
use mathlib.Core.Bool.{Bool, true}
use Prim.Native.Nat.{◌+◌}
use lib.ListN.{length}
use native.Mathlib.Omega.{arith}
use Rattle.terms.specs.Sizes.{ends_with}
use Rattle.terms.specs.Counting.{bit}
use Rattle.ring_spec.specs.Rounds.{ends_phase}
use Rattle.ring_spec.proofs.Counts.{next_ends}
use Rattle.ring_spec.proofs.Demand3.{Playable, playable}
use Rattle.run_spec.specs.RunFile.{File}
use Rattle.run_spec.proofs.Reached.{Reached, few_struck_in}
use Rattle.run_spec.proofs.Streaming.{ring_of}
use Rattle.run_state.specs.declared.Player.{Player}
use Rattle.run_state.specs.State.{ring_before, PlayerOf}

-- `taken` gives Reached of every file that was read and has begun
pub waiting_playable : (F : File) → Reached F → F.rounds.pending ≡ true → Playable F.setup.family F.setup.n F.setup.f (ring_of F)
waiting_playable F I pending =
    playable F.setup.family F.setup.n F.setup.f F.setup.first I.size I.ranges F.rounds.played
    (few_struck_in F.setup.n F.setup.listeners F.setup.f F.rounds.played I.rounds) (omega (arith, I.count, ap bit pending))

-- what the player tells of the pending round: its number, and whether it ends its phase
module _ {F : File} {p : Player} (T : PlayerOf p F) (pending : F.rounds.pending ≡ true) where
  pub given_number : length F.rounds.played + 1 ≡ p.given
  given_number = rw pending at T.given

  pub ends_as : {b : Bool} → ends_phase p.family p.given ≡ b → ends_with F.setup.family (ring_before F).round ≡ b
  ends_as e =
      sym (next_ends F.setup.family F.setup.n F.setup.f F.setup.first F.rounds.played) ∙ ap₂ ends_phase T.family given_number ∙ e
