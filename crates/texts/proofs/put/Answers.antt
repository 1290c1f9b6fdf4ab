-- `texts::put` meets its contract: it is what is put behind the text's own bytes.
use Rattle.texts.proofs.put.Goals as goal

pub returns : goal.returns
returns c = c.put_at-len.ensures
