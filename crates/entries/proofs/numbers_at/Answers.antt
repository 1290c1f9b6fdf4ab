-- `entries::numbers_at` meets its contract. The loop's invariant: the array has the first k numbers, and it is filled up to n, or to 32, where it ends.
use mathlib.Core.Path.{◌≡◌, refl, ap, ◌∙◌}
use native.Mathlib.Omega.{arith}
use mir.Syntax.{w32}
use mir.Facts.{to_z-of_z}
use Rattle.fields.specs.Bytes.{signed_of}
use Rattle.entries.specs.Entries.{zeros, numbers}
use Rattle.entries.proofs.Entries.{numbers_next, numbers_first_32}
use Rattle.entries.proofs.numbers_at.Goals as goal

pub loop-k-init : goal.loop-k-init
unfolding numbers zeros
loop-k-init c = refl

pub loop-k-preserved : goal.loop-k-preserved
loop-k-preserved c =
    let v = to_z-of_z {w = w32} (record { sfits = c.signed.type_inv }) ∙ c.signed.ensures ∙ ap signed_of c.word_in.ensures in
    numbers_next c.args.s.now c.loop-k.k c.loop-k.invariant v

pub returns : goal.returns
returns c =
    let s = c.args.s.now in
    let e : c.loop-k.k ≡ c.at_most_32-end.result = omega arith in
    c.loop-k.invariant ∙ ap (numbers s) (e ∙ c.at_most_32-end.ensures) ∙ numbers_first_32 s c.args.n
