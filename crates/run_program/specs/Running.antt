-- What the program holds of the bytes that it read and of those that it wrote, and that each step keeps it.
use Rattle.std.specs.Prelude.{true, false, cond, List, [], ◌++◌, ◌≡◌, ℕ, ◌≤◌, length}
use Rattle.run_spec.specs.RunFile.{read_file}
use Rattle.run_spec.specs.Listing.{shown, listing}
use Rattle.run_state.specs.declared.Player.{Player}
use Rattle.run_state.specs.Memory.{Memory}
use Rattle.run_piece.specs.Advances.{StateAt}
use Rattle.run_program.specs.declared.Did.{Did}
use Rattle.run_program.specs.declared.Stage.{Stage}
use Rattle.run_program.specs.declared.Program.{Program}
use Rattle.run_program.specs.declared.Stepped.{Stepped}
use Rattle.run_program.specs.Calls.{unwritten, unplayed, ask_of, did_fits, stage_after, read_then, written_then}
use Rattle.run_stream.specs.Pages.{page_size}

-- before the first step nothing was read or written
pub record BeforeReading (a out : List ℕ) (p : Player) (carry : List ℕ) (M : Memory) : Type 0 where
  pub read : a ≡ []
  pub written : out ≡ []
  pub state : StateAt [] p carry M

-- While the input is read: the bytes a are those that were played and those of the piece that are not yet played; what was written, and
-- what of the page is still to be written, is all that is shown of the bytes played. If nothing is to be written, all bytes are played. How
-- much of the piece a page takes is free.
pub record WhileReading (a out : List ℕ) (p : Program) (piece page carry : List ℕ) (M : Memory) : Type 0 where
  pub played : List ℕ
  pub state : StateAt played p.player carry M
  pub read : played ++ unplayed p piece ≡ a
  pub shows : out ++ unwritten p page ≡ shown (read_file played)
  pub waits : p.to ≤ p.from → p.end ≤ p.at
  pub here : p.end ≤ length piece
  pub room : p.to ≤ page_size

-- After the end of the input: what was written, and what of the page is still to be written, is the listing.
pub record AfterReading (a out : List ℕ) (p : Program) (page : List ℕ) : Type 0 where
  pub shows : out ++ unwritten p page ≡ listing a
  pub room : p.to ≤ page_size

abbrev pub RunningAt : (stage : Stage) (a out : List ℕ) (p : Program) (piece page carry : List ℕ) (M : Memory) → Type 0
RunningAt Stage.Title a out p piece page carry M = BeforeReading a out p.player carry M
RunningAt Stage.Going a out p piece page carry M = WhileReading a out p piece page carry M
RunningAt Stage.Last a out p piece page carry M = AfterReading a out p page
RunningAt Stage.Failed a out p piece page carry M = ⊥

-- the program runs, when exactly the bytes a were read and exactly the bytes out were written (D15)
abbrev pub Running : (a out : List ℕ) (p : Program) (piece page carry : List ℕ) (M : Memory) → Type 0
Running a out p piece page carry M = RunningAt p.stage a out p piece page carry M

-- the same program after a failure
abbrev pub failed : Program → Program
failed p = record { player = p.player; stage = Stage.Failed; at = p.at; end = p.end; from = p.from; to = p.to }

-- A step, from the program p with its buffers and memory to the answer r with those after it. If the system did what it was asked for, the
-- program goes on running, with the bytes then read and written; if not, it stops, and nothing else changes.
pub record Steps (p : Program) (did : Did) (piece page carry : List ℕ) (M : Memory) (r : Stepped) (page' carry' : List ℕ) (M' : Memory) : Type 0 where
  pub asks : r.ask ≡ ask_of r.program
  pub stage : r.program.stage ≡ cond (did_fits did p (length piece)) (stage_after did p.stage) Stage.Failed
  pub runs : did_fits did p (length piece) ≡ true → (a out : List ℕ) → Running a out p piece page carry M
      → Running (read_then did a piece) (written_then did out (unwritten p page)) r.program piece page' carry' M'
  pub fails : did_fits did p (length piece) ≡ false → (r.program ≡ failed p) × (page' ≡ page) × (carry' ≡ carry) × (M' ≡ M)
