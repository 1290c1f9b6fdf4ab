-- Refusal 26 comes first; then the round decides.
use lib.ListN.{get_or}
use borrow.Author.Tests.{eq-eqb, ne_eqb}
use mathlib.Core.Path.{◌≡◌, ap, sym, ◌∙◌}
use mathlib.Core.Bool.{Bool, not}
use Rattle.head_spec.specs.declared.Seat.{Seat}
use Rattle.head_spec.specs.Calls.{is_last_round}
use Rattle.head_c.specs.Blocks.{head_of, seat_of}
use Rattle.head_c.proofs.Closing.{ended_stays, lists, ends}
use Rattle.head_c.proofs.close.close_in.Goals as goal

-- b: whether the round of the seat s, which is x, is the last
last_is : {s x : Seat} {b d : Bool} → s ≡ x → b ≡ is_last_round s → b ≡ d → is_last_round x ≡ d
last_is p q e = ap is_last_round (sym p) ∙ sym q ∙ e

pub returns-then-h-ne0 : goal.returns-then-h-ne0
unfolding head_of seat_of
returns-then-h-ne0 c =
    let w = c.args.h.now in
    rw c.number.ensures (ended_stays w (head_of w) (ap not (ne_eqb (get_or w 6 0) 0 c.if-h-ne0.true)))

pub returns-then-not-is_last_round : goal.returns-then-not-is_last_round
unfolding head_of seat_of
returns-then-not-is_last_round c =
    let w = c.args.h.now in
    lists w (head_of w) (ap not (eq-eqb (get_or w 6 0) 0 c.if-h-ne0.false)) (last_is c.seat_in.ensures c.is_last_round.ensures c.if-not-is_last_round.true)
    c.close_collection.ensures

pub returns : goal.returns
unfolding head_of seat_of
returns c =
    let w = c.args.h.now in
    ends w (head_of w) (ap not (eq-eqb (get_or w 6 0) 0 c.if-h-ne0.false)) (last_is c.seat_in.ensures c.is_last_round.ensures c.if-not-is_last_round.false)
    c.close_last.ensures
