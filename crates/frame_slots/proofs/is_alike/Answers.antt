-- `frame_slots::is_alike` meets its contract: it compares the bytes of the two slots.
use mathlib.Core.Path.{sym, ◌∙◌}
use Rattle.frame_slots.proofs.is_alike.Goals as goal

pub returns : goal.returns
returns c =
    let s = c.is_same.ensures in
    let i = c.planted.ensures in
    let m = c.planted-2.ensures in
    (λ e. sym i ∙ s.0 e ∙ m, λ e. s.1 (i ∙ e ∙ sym m))
