-- The link is marked as heard, and as one that confessed.
use mathlib.Core.Path.{ap, sym, ◌∙◌}
use Rattle.head_c.specs.Blocks.{marked}
use Rattle.head_c.proofs.Hearing.{heard_below, heard_past}
use Rattle.head_c.proofs.take.take_confession.Goals as goal

pub returns-then-k-ge-HEADS : goal.returns-then-k-ge-HEADS
returns-then-k-ge-HEADS c = sym (heard_past _ _ _ c.if-k-ge-HEADS.true)

pub returns : goal.returns
returns c =
    c.put_mark.ensures ∙ ap (marked 58 c.args.k) c.put_heard.ensures ∙ sym (heard_below _ _ _ c.if-k-ge-HEADS.false)
