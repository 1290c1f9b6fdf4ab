-- Each turn keeps what the program holds: a read changes the piece only when all of it is played. So at the end all of the listing is written.
use mathlib.Core.Path.{◌≡◌, refl, ap, sym, ◌∙◌}
use mathlib.Core.Bool.{Bool, true, false}
use mathlib.Core.List.{List, ◌++◌, append-nil}
use Prim.Native.Nat.{ℕ, ◌≤◌}
use native.Mathlib.Omega.{arith}
use lib.Dec.{ltb}
use lib.ListN.{length}
use borrow.Author.Tests.{ltb-false}
use Rattle.run_spec.specs.Listing.{listing}
use Rattle.run_state.specs.Memory.{Memory}
use Rattle.run_program.specs.declared.Ask.{Ask}
use Rattle.run_program.specs.declared.Stage.{Stage}
use Rattle.run_program.specs.declared.Program.{Program}
use Rattle.run_program.specs.Calls.{ask_at}
use Rattle.run_program.specs.Running.{WhileReading, RunningAt, Running}
use Rattle.run_program.specs.Runs.{Left, Ran, begins, turns, WritesListing}
use Rattle.run_program.proofs.Running.{part_none}

-- the piece may change when all of it is played
read_anew : {a out : List ℕ} {p : Program} {piece page carry : List ℕ} {M : Memory} (piece' : List ℕ) → p.to ≤ p.from → length piece' ≡ length piece
    → WhileReading a out p piece page carry M → WhileReading a out p piece' page carry M
read_anew {p} {piece} piece' done long P =
    let none = part_none p.at p.end in
    record {
      played = P.played;
      state = P.state;
      read = ap (λ (l : List ℕ). P.played ++ l) (none piece' (P.waits done) ∙ sym (none piece (P.waits done))) ∙ P.read;
      shows = P.shows;
      waits = P.waits;
      here = rw long P.here;
      room = P.room;
    }

module _ (a out : List ℕ) (p : Program) (piece piece' page carry : List ℕ) (M : Memory) where
  left_by : (s : Stage) (more : Bool) → ltb p.from p.to ≡ more → Left (ask_at s more p.from p.to) piece piece'
      → RunningAt s a out p piece page carry M → RunningAt s a out p piece' page carry M
  left_by Stage.Title more m e R = R
  left_by Stage.Going true m e R = rw e R
  left_by Stage.Going false m e R = read_anew piece' (ltb-false p.from p.to m) e R
  left_by Stage.Last more m e R = R
  left_by Stage.Failed more m e R = R

  all_there : (s : Stage) (more : Bool) → ltb p.from p.to ≡ more → s ≡ Stage.Last → ask_at s more p.from p.to ≡ Ask.Stop
      → RunningAt s a out p piece page carry M → out ≡ listing a
  all_there Stage.Last false m e stop R =
      sym (append-nil out) ∙ ap (λ (l : List ℕ). out ++ l) (sym (part_none p.from p.to page (ltb-false p.from p.to m))) ∙ R.shows
  all_there Stage.Last true m e stop R = let z : ◌≡◌ {A = ℕ} 0 1 = cc in absurd (omega arith)
  all_there Stage.Title more m e stop R = let z : ◌≡◌ {A = ℕ} 0 1 = cc in absurd (omega arith)
  all_there Stage.Going more m e stop R = let z : ◌≡◌ {A = ℕ} 0 1 = cc in absurd (omega arith)
  all_there Stage.Failed more m e stop R = absurd R

pub ran_running : {a out : List ℕ} {p : Program} {piece page carry : List ℕ} {M : Memory} → Ran a out p piece page carry M → Running a out p piece page carry M
ran_running (begins R) = R
ran_running (turns {a} {out} {p} {piece} {page} {carry} {M} {piece'} d left fit S) =
    S.runs fit a out (left_by a out p piece piece' page carry M p.stage (ltb p.from p.to) refl left (ran_running d))

pub writes_listing : WritesListing
writes_listing a out p piece page carry M d last stop =
    all_there a out p piece piece page carry M p.stage (ltb p.from p.to) refl last stop (ran_running d)
