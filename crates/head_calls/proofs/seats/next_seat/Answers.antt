-- Phase 65,535 is the last: a phase, of two bytes, is at most that.
use mir.Syntax.{w32}
use mir.Facts.{to_z-of_z}
use borrow.Author.Rules.{rules}
use borrow.Author.Tests.{le-leb, lt-leb}
use Rattle.head_calls.proofs.seats.next_seat.Goals as goal

pub returns-then-seat-lt65535 : goal.returns-then-seat-lt65535
returns-then-seat-lt65535 c =
    rw (lt-leb 65535 c.args.seat.phase c.if-seat-lt65535.true, to_z-of_z {w = w32} {z = c.args.kept.position} (record { sfits = search rules }), c.one_more.ensures)

pub returns-else-seat-lt65535 : goal.returns-else-seat-lt65535
returns-else-seat-lt65535 c =
    rw (le-leb 65535 c.args.seat.phase c.if-seat-lt65535.false, to_z-of_z {w = w32} {z = c.args.kept.position} (record { sfits = search rules }), c.one_more.ensures)
