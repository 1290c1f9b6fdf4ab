-- What the program asks of the system, and what the system did.
use Rattle.std.specs.Prelude.{Bool, true, false, ◌&&◌, List, ◌++◌, ℕ, zero, suc, ◌-◌, ltb, leb, take, drop, ℤ, pos, negsuc}
use Rattle.run_program.specs.declared.Did.{Did}
use Rattle.run_program.specs.declared.Ask.{Ask}
use Rattle.run_program.specs.declared.Stage.{Stage}
use Rattle.run_program.specs.declared.Program.{Program}

-- the bytes from `from` up to `to`
abbrev pub part : ℕ → ℕ → List ℕ → List ℕ
part from to l = take (to - from) (drop from l)

-- the bytes of the page that are still to be written
abbrev pub unwritten : Program → List ℕ → List ℕ
unwritten p page = part p.from p.to page

-- the bytes of the piece that were read and are still to be played
abbrev pub unplayed : Program → List ℕ → List ℕ
unplayed p piece = part p.at p.end piece

-- what to do next; more: some of the page is still to be written
abbrev pub ask_at : (stage : Stage) (more : Bool) (from to : ℕ) → Ask
ask_at Stage.Title more from to = Ask.Stop
ask_at Stage.Going true from to = Ask.Write from to
ask_at Stage.Going false from to = Ask.Read
ask_at Stage.Last true from to = Ask.Write from to
ask_at Stage.Last false from to = Ask.Stop
ask_at Stage.Failed more from to = Ask.Stop

-- The program stops when all is written after the end of the input, and after a failure. It waits for more input only when nothing is left
-- to be written.
abbrev pub ask_of : Program → Ask
ask_of p = ask_at p.stage (ltb p.from p.to) p.from p.to

abbrev pub is_title : Stage → Bool
is_title Stage.Title = true
is_title Stage.Going = false
is_title Stage.Last = false
is_title Stage.Failed = false

abbrev pub asks_read : Ask → Bool
asks_read Ask.Read = true
asks_read (Ask.Write from to) = false
asks_read Ask.Stop = false

-- how many bytes are to be written
abbrev pub left_of : Ask → ℕ
left_of Ask.Read = 0
left_of (Ask.Write from to) = to - from
left_of Ask.Stop = 0

-- Whether the system did what it was asked for; size: the bytes of the piece. Of the bytes to be written it may write some, but one at
-- least: a call that writes none counts as a failure.
abbrev pub did_fits : Did → Program → ℕ → Bool
did_fits Did.Nothing p size = is_title p.stage
did_fits (Did.Read k) p size = asks_read (ask_of p) && leb k size
did_fits (Did.Wrote k) p size = leb 1 k && leb k (left_of (ask_of p))
did_fits Did.Failed p size = false

-- the stage after it
abbrev pub stage_after : Did → Stage → Stage
stage_after Did.Nothing s = Stage.Going
stage_after (Did.Read zero) s = Stage.Last
stage_after (Did.Read (suc k)) s = Stage.Going
stage_after (Did.Wrote k) s = s
stage_after Did.Failed s = Stage.Failed

-- The bytes read in all, if a were read before: a read brings the bytes that are then at the front of the piece. No contract of the kit
-- says which bytes a call of C's moves.
abbrev pub read_then : Did → List ℕ → List ℕ → List ℕ
read_then Did.Nothing a piece = a
read_then (Did.Read k) a piece = a ++ take k piece
read_then (Did.Wrote k) a piece = a
read_then Did.Failed a piece = a

-- the bytes written in all, if out were written before: a write takes the first of the bytes asked for
abbrev pub written_then : Did → List ℕ → List ℕ → List ℕ
written_then Did.Nothing out asked = out
written_then (Did.Read k) out asked = out
written_then (Did.Wrote k) out asked = out ++ take k asked
written_then Did.Failed out asked = out

-- by the answer of C's read and write: a number of bytes, or a failure
abbrev pub after_read : ℤ → Did
after_read (pos k) = Did.Read k
after_read (negsuc k) = Did.Failed

abbrev pub after_write : ℤ → Did
after_write (pos k) = Did.Wrote k
after_write (negsuc k) = Did.Failed
