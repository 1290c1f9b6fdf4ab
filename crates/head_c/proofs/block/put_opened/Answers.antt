-- Part by part, from the front on. Each part leaves the block as long as it was.
use mathlib.Core.Path.{◌∙◌}
use lib.ListN.{length-set}
use Rattle.head_c.proofs.Putting.{put_record}
use Rattle.head_c.proofs.block.put_opened.Goals as goal

pub put_list-requires : goal.put_list-requires
put_list-requires c = simp length-set (c.put_seat.auto.h ∙ c.requires)

pub clear_links-requires : goal.clear_links-requires
clear_links-requires c = c.put_list.auto.h ∙ simp length-set (c.put_seat.auto.h ∙ c.requires)

pub shape_of-h : goal.shape_of-h
shape_of-h c = c.clear_links.auto.h ∙ c.put_list.auto.h ∙ simp length-set c.put_seat.auto.h

pub returns : goal.returns
returns c =
    let a = c.args in
    put_record a.seat a.list a.h.now c.requires c.put_seat.ensures c.put_list.ensures c.clear_links.ensures
