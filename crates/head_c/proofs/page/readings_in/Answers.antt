-- Reading after reading, that of the head there.
use Rattle.std.proofs.Common.{rules}
use Rattle.reading.specs.declared.Reading.{Reading}
use Rattle.head_c.specs.Pages.{reading_at, readings_of}
use Rattle.head_c.proofs.Copying.{up_to_long, up_to_at}
use Rattle.head_c.proofs.Arrays.{made}
use Rattle.head_c.proofs.page.readings_in.Goals as goal

pub returns : goal.returns
unfolding readings_of
returns c =
    let g = reading_at c.args.blocks.now in
    made c.from_fn.ensures.items _ Reading.Unknown (up_to_long 32 g) g (λ k l. up_to_at 32 g k Reading.Unknown l)
    (λ k v q m. search (rules, m.met))
