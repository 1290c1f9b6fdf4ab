-- `texts::put_number` meets its contract: it is what is put behind the text's own bytes.
use Rattle.texts.proofs.put_number.Goals as goal

pub returns : goal.returns
returns c = c.put_number_at-len.ensures
