-- `run_record::store_heads` meets its contract: the first 32 places are as many as there are heads.
use Rattle.std.proofs.Common.{arith}
use Rattle.std.proofs.lemmas.List.{length-take-le}
use Rattle.run_record.proofs.store_heads.Goals as goal

pub copy_from_slice-requires : goal.copy_from_slice-requires
copy_from_slice-requires c = omega (arith, length-take-le 32 c.args.positions.now c.requires)
