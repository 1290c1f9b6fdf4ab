-- What the private functions promise each other. Readers of the public promises do not need this file.
use Rattle.std.specs.Prelude.{List, ◌++◌, ◌≡◌, ℕ, ◌+◌, ◌≤◌, length}
use Rattle.run_spec.specs.RunFile.{read_file}
use Rattle.run_spec.specs.Listing.{shown}
use Rattle.run_state.specs.declared.Player.{Player}
use Rattle.run_state.specs.Memory.{Memory}
use Rattle.run_piece.specs.Advances.{StateAt}
use Rattle.run_stream.specs.Pages.{page_size}
use Rattle.run_program.specs.declared.Stage.{Stage}
use Rattle.run_program.specs.declared.Program.{Program}
use Rattle.run_program.specs.Calls.{unwritten, unplayed}
use Rattle.run_program.specs.Running.{AfterReading}

-- with nothing of its page written
abbrev pub program_at : (player : Player) (stage : Stage) (at end to : ℕ) → Program
program_at player stage at end to = record { player = player; stage = stage; at = at; end = end; from = 0; to = to }

-- with k bytes more written
abbrev pub advanced : Program → ℕ → Program
advanced p k = record { player = p.player; stage = p.stage; at = p.at; end = p.end; from = p.from + k; to = p.to }

-- the state between two pages: as while the input is read, but bytes may be left to be played when none is left to be written
pub record Between (a out : List ℕ) (p : Program) (piece page carry : List ℕ) (M : Memory) : Type 0 where
  pub played : List ℕ
  pub state : StateAt played p.player carry M
  pub read : played ++ unplayed p piece ≡ a
  pub shows : out ++ unwritten p page ≡ shown (read_file played)
  pub here : p.end ≤ length piece
  pub room : p.to ≤ page_size

-- before a page is turned: of the piece, or the last
pub data Turning (a out : List ℕ) (p : Program) (piece page carry : List ℕ) (M : Memory) : Type 0 where
  within_input : p.stage ≡ Stage.Going → Between a out p piece page carry M → Turning a out p piece page carry M
  after_input : p.stage ≡ Stage.Last → AfterReading a out p page → Turning a out p piece page carry M
