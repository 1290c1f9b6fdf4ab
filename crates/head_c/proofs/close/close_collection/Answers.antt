-- The seat is put, and what was heard is cleared; the words of the list stand.
use mathlib.Core.Path.{ap, ◌∙◌}
use lib.ListN.{length-set}
use lib.Seq.{paste}
use Rattle.head_spec.specs.declared.Seat.{Seat}
use Rattle.head_spec.specs.Seats.{confession_seat}
use Rattle.head_spec.specs.Calls.{closed_collection}
use Rattle.head_c.specs.Blocks.{seat_words, head_of}
use Rattle.head_c.proofs.Putting.{put_round}
use borrow.Author.Rules.{rules}
use Rattle.head_c.proofs.close.close_collection.Goals as goal

pub clear_links-requires : goal.clear_links-requires
clear_links-requires c = simp length-set (c.put_seat.auto.h ∙ c.requires)

pub shape_of-h : goal.shape_of-h
shape_of-h c = c.clear_links.auto.h ∙ simp length-set c.put_seat.auto.h

pub returns : goal.returns
unfolding closed_collection head_of
returns c =
    let w = c.args.h.now in
    let s = c.confession_seat.ensures ∙ ap confession_seat c.seat_in-seat.ensures in
    put_round (confession_seat (head_of w).seat) w c.requires (λ i. search rules)
    (c.put_seat.ensures ∙ ap (λ (x : Seat). paste w 0 (seat_words x) 16) s) c.clear_links.ensures
