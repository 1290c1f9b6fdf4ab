-- `frame_slots::clear` meets its contract: of a slot whose length is 0 nothing is planted.
use mathlib.Core.Path.{refl, ◌∙◌}
use Prim.Native.Nat.{◌+◌, ◌*◌, ◌<◌}
use native.Mathlib.Omega.{arith}
use lib.ListN.{length, get_or-append}
use Rattle.frame_slots.proofs.Parts.{planted_none}
use Rattle.frame_slots.proofs.clear.Goals as goal

pub returns : goal.returns
returns c = λ bytes k i a b e.
    let s = 48 * k + i in
    let h : s < length c.fill.new.self = omega (arith, c.fill.ensures.len, c.at_most_32.ensures) in
    planted_none bytes _ k i (get_or-append c.fill.new.self _ 0 s h ∙ c.fill.ensures.clones s 0 (omega (arith, c.fill.ensures.len)) refl)
