-- Row after row: after k turns the first k rows are the entries of the first k lists.
use mathlib.Core.Path.{◌≡◌, sym, ◌∙◌}
use mathlib.Core.List.{[]}
use native.Mathlib.Omega.{arith}
use lib.ListN.{length, length-map}
use lib.Seq.{ext_get_or}
use borrow.Author.Rules.{rules}
use Rattle.head_spec.specs.declared.Row.{Row}
use Rattle.head_spec.specs.Record.{rows}
use Rattle.head_calls.proofs.closing.laid_out.Goals as goal

pub returns : goal.returns
returns c =
    let l = c.loop-k in
    let lists = c.args.lists in
    let long : length lists ≡ 32 = search rules in
    ext_get_or [] l.out (rows lists) (l.invariant.0 ∙ sym (length-map lists (λ (r : Row). r.entries) ∙ long))
    (λ i h. l.invariant.1 i (omega (arith, l.invariant.0)))
