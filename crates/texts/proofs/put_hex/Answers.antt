-- `texts::put_hex` meets its contract: it is what is put behind the text's own bytes.
use Rattle.texts.proofs.put_hex.Goals as goal

pub returns : goal.returns
returns c = c.put_hex_at-len.ensures
