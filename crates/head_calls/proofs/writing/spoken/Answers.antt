-- The tests are the definition's; any round but 0 counts as a confession round.
use mathlib.Core.Path.{◌≡◌, refl}
use mathlib.Core.Logic.{◌≢◌}
use mathlib.Core.Bool.{cond}
use Prim.Native.Nat.{ℕ, zero, suc}
use Rattle.frame_spec.specs.declared.Said.{Said}
use Rattle.head_spec.specs.declared.Seat.{Seat}
use Rattle.head_calls.specs.Steps.{said_by}
use Rattle.head_calls.proofs.writing.spoken.Goals as goal

confesses : (r : ℕ) (s : Seat) → r ≢ 0 → said_by r s ≡ cond s.healed Said.Confession Said.List
confesses zero s h = absurd (h refl)
confesses (suc r) s h = refl

pub returns-then-seat : goal.returns-then-seat
returns-then-seat c = rw (c.if-seat-eq0.true, c.if-seat.true)

pub returns-then-seat-eq0 : goal.returns-then-seat-eq0
returns-then-seat-eq0 c = rw (c.if-seat-eq0.true, c.if-seat.false)

pub returns-then-seat-2 : goal.returns-then-seat-2
returns-then-seat-2 c = rw (confesses _ _ c.if-seat-eq0.false, c.if-seat-2.true)

pub returns-else-seat-2 : goal.returns-else-seat-2
returns-else-seat-2 c = rw (confesses _ _ c.if-seat-eq0.false, c.if-seat-2.false)
