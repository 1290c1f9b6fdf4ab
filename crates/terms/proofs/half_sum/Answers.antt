-- `terms::half_sum` meets its contract: the sum is taken and halved in 64 bits, where it fits, and the half fits 32.
use Rattle.terms.proofs.Machine.{wide_fits, wide_sum_fits, to_halve_fits, shifted_fits, half_sum_is}
use Rattle.terms.proofs.half_sum.Goals as goal

pub overflow_cast-result : goal.overflow_cast-result
overflow_cast-result c = wide_fits c.ranges.a

pub overflow_cast-result-2 : goal.overflow_cast-result-2
overflow_cast-result-2 c = wide_fits c.ranges.b

pub overflow_add-result : goal.overflow_add-result
overflow_add-result c = wide_sum_fits _ _ c.ranges.a c.ranges.b

pub overflow_add-result-2 : goal.overflow_add-result-2
overflow_add-result-2 c = to_halve_fits _ _ c.ranges.a c.ranges.b c.args.up

pub overflow_cast-result-4 : goal.overflow_cast-result-4
overflow_cast-result-4 c = shifted_fits _ _ c.ranges.a c.ranges.b c.args.up

pub returns : goal.returns
returns c = half_sum_is _ _ c.ranges.a c.ranges.b c.args.up
