-- A whole run of the program, turn by turn, whatever the system does: if it stops after the end of the input, what was written is the
-- listing of what was read.
use Rattle.std.specs.Prelude.{true, List, [], ◌≡◌, ℕ, length}
use Rattle.run_spec.specs.Listing.{listing}
use Rattle.run_state.specs.Memory.{Memory}
use Rattle.run_program.specs.declared.Did.{Did}
use Rattle.run_program.specs.declared.Ask.{Ask}
use Rattle.run_program.specs.declared.Stage.{Stage}
use Rattle.run_program.specs.declared.Program.{Program}
use Rattle.run_program.specs.declared.Stepped.{Stepped}
use Rattle.run_program.specs.Calls.{unwritten, ask_of, did_fits, read_then, written_then}
use Rattle.run_program.specs.Running.{Running, Steps}

-- what a system call leaves of the piece: a read may change its bytes, a write does not
abbrev pub Left : Ask → List ℕ → List ℕ → Type 0
Left Ask.Read piece piece' = length piece' ≡ length piece
Left (Ask.Write from to) piece piece' = piece' ≡ piece
Left Ask.Stop piece piece' = piece' ≡ piece

-- so far the bytes a were read and the bytes out were written
pub data Ran : List ℕ → List ℕ → Program → List ℕ → List ℕ → List ℕ → Memory → Type 0 where
  begins : {p : Program} {piece page carry : List ℕ} {M : Memory} → Running [] [] p piece page carry M → Ran [] [] p piece page carry M
  turns : {a out : List ℕ} {p : Program} {piece page carry : List ℕ} {M : Memory} {did : Did} {piece' page' carry' : List ℕ} {M' : Memory} {r : Stepped}
      → Ran a out p piece page carry M → Left (ask_of p) piece piece' → did_fits did p (length piece') ≡ true → Steps p did piece' page carry M r page' carry' M'
      → Ran (read_then did a piece') (written_then did out (unwritten p page)) r.program piece' page' carry' M'

-- a run that has come to its end wrote the listing of what it read (D15)
abbrev pub WritesListing : Type 0
WritesListing =
    (a out : List ℕ) (p : Program) (piece page carry : List ℕ) (M : Memory) → Ran a out p piece page carry M → p.stage ≡ Stage.Last → ask_of p ≡ Ask.Stop
    → out ≡ listing a
