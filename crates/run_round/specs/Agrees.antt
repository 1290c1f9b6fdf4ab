-- Whether the ring of a file has agreed once the rounds given are all played, and what the memory then holds.
use Rattle.std.specs.Prelude.{Bool, ◌≡◌}
use Rattle.terms.specs.Entry.{Entry}
use Rattle.ring_spec.specs.Rounds.{Ring}
use Rattle.ring_spec.specs.Agreed.{agreed_on, is_agreed}
use Rattle.run_spec.specs.RunFile.{File, all_rounds, ends_from, ring_from}
use Rattle.run_state.specs.Memory.{Memory}
use Rattle.run_state.specs.Heads.{HeadsOf}
use Rattle.run_state.specs.State.{Level}

-- the ring then
abbrev pub ring_after_all : File → Ring
ring_after_all F = ring_from F.setup (all_rounds F.rounds)

-- the position on which it has agreed then; null if it has not
abbrev pub agreed_after_all : File → Entry
agreed_after_all F = agreed_on F.setup.n F.setup.listeners (ends_from F.setup (all_rounds F.rounds))

-- what the memory holds of the ring then, by a position on which it has agreed
pub record HoldsAll (F : File) (agreed : Entry) (M : Memory) : Type 0 where
  pub keeps : HeadsOf F.setup.n F.setup.listeners agreed (ring_after_all F) M
  pub level : Level agreed M.positions

-- r: whether it has agreed then; the memory holds the ring so
pub record Agrees (F : File) (r : Bool) (M : Memory) : Type 0 where
  pub is : is_agreed (agreed_after_all F) ≡ r
  pub holds : HoldsAll F (agreed_after_all F) M
