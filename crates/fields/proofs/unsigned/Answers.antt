-- `fields::unsigned` meets its contract: below 0 the word is 2^32 - 1 less -1 - v, which is not below 0; else it is v.
use Rattle.fields.proofs.Signs.{below_word, above_word}
use Rattle.fields.proofs.unsigned.Goals as goal

pub returns-then-v-lt0 : goal.returns-then-v-lt0
returns-then-v-lt0 c = below_word c.args.v c.ranges.v c.if-v-lt0.true

pub returns-else-v-lt0 : goal.returns-else-v-lt0
returns-else-v-lt0 c = above_word c.args.v c.ranges.v c.if-v-lt0.false
