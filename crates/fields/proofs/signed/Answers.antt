-- `fields::signed` meets its contract: a cast reads the word's bits, and from 2^31 up -1 - (2^32 - 1 - x) is the number.
use Rattle.fields.proofs.Bytes.{to_z_signed}
use Rattle.fields.proofs.Signs.{high_read}
use Rattle.fields.proofs.signed.Goals as goal

pub returns-then-x-lt2147483648 : goal.returns-then-x-lt2147483648
returns-then-x-lt2147483648 c = to_z_signed c.args.x

pub returns-else-x-lt2147483648 : goal.returns-else-x-lt2147483648
returns-else-x-lt2147483648 c = high_read c.args.x c.ranges.x c.if-x-lt2147483648.false
