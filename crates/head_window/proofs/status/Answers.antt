-- After the last phase end bit 1 is 0, whether the head was healed or not.
use mathlib.Core.Path.{refl, ◌∙◌}
use mathlib.Core.Bool.{not}
use lib.Dec.{eqb}
use Rattle.head_window.proofs.Bits.{cleared, kept, same_three}
use Rattle.head_window.proofs.status.Goals as goal

pub returns-then-s : goal.returns-then-s
returns-then-s c =
    let s = c.args.s in
    c.three.ensures ∙ same_three (not (eqb s.round 0)) c.is_held-held.ensures (cleared s.healed c.if-s.true)

pub returns : goal.returns
returns c =
    let s = c.args.s in
    c.three-2.ensures ∙ same_three (not (eqb s.round 0)) c.is_held-held.ensures (kept s.healed refl c.if-s.false)
