-- The reading of the seat, case by case.
use mathlib.Core.Path.{refl}
use Rattle.head_c.proofs.Pages.{reads, shown}
use Rattle.head_c.proofs.page.focus_head_reading.Goals as goal

pub returns-in-Unknown : goal.returns-in-Unknown
returns-in-Unknown c = shown _ (reads c.args.h.now c.seat_in-seat.ensures c.reading_of.ensures) c.in-Unknown.is refl refl

pub returns-in-Point : goal.returns-in-Point
returns-in-Point c = shown _ (reads c.args.h.now c.seat_in-seat.ensures c.reading_of.ensures) c.in-Point.is refl refl

pub returns-in-Range : goal.returns-in-Range
returns-in-Range c = shown _ (reads c.args.h.now c.seat_in-seat.ensures c.reading_of.ensures) c.in-Range.is refl refl
