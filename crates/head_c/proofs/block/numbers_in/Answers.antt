-- Number after number, that of the word there.
use Rattle.std.proofs.Common.{◌+◌, rules}
use lib.ListN.{get_or}
use lib.IntN.{pos}
use Rattle.fields.specs.Bytes.{signed_of}
use Rattle.head_c.proofs.Arrays.{made}
use Rattle.head_c.proofs.Reading.{numbers_long, number_at}
use Rattle.head_c.proofs.block.numbers_in.Goals as goal

pub returns : goal.returns
returns c =
    let w = c.args.h.now in
    let from = c.args.from in
    made c.from_fn.ensures.items _ (pos 0) (numbers_long w from) (λ j. signed_of (get_or w (from + j) 0)) (number_at w from)
    (λ j v q k. search (rules, k.met))
