-- `entries::all_fit` meets its contract. The loop's invariant: the flag says whether the first i entries fit, for every mark word that marks all n.
use mathlib.Core.Path.{refl}
use native.Mathlib.Omega.{arith}
use Rattle.marks.proofs.Marks.{all_bits}
use Rattle.entries.specs.Entries.{entries_fit}
use Rattle.entries.proofs.Entries.{full_next}
use Rattle.entries.proofs.all_fit.Goals as goal

pub loop-i-init : goal.loop-i-init
unfolding entries_fit
loop-i-init c = λ m e. refl

pub loop-i-preserved : goal.loop-i-preserved
loop-i-preserved c m e =
    let i = c.loop-i.i in
    full_next m c.args.s.now i (all_bits m c.args.n i e (omega arith)) c.word_within.ensures c.is_position_word-fit.ensures (c.loop-i.invariant m e)
