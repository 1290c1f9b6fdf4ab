-- The two writes, one after the other.
use mathlib.Core.Path.{ap, ◌∙◌}
use mathlib.Core.List.{List}
use Prim.Native.Nat.{ℕ}
use Rattle.head_c.specs.Events.{sets, block_after}
use Rattle.head_c.proofs.window.focus_head_window_reset.Goals as goal

pub returns : goal.returns
returns c =
    let a = c.args in
    c.focus_head_set_register-2.ensures.1 ∙ ap (λ (w : List ℕ). block_after w (sets 11 a.mask)) c.focus_head_set_register.ensures.1
