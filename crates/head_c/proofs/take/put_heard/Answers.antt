-- The offer is ended, and then the link is marked.
use mathlib.Core.Path.{◌∙◌}
use lib.ListN.{length-set}
use Rattle.head_c.proofs.take.put_heard.Goals as goal

pub shape_of-h : goal.shape_of-h
shape_of-h c = c.put_mark.auto.h ∙ simp length-set
