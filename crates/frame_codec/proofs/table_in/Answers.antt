-- The marks and the numbers are read of the fields that the definition names.
use Rattle.frame_spec.specs.Said.{table_in}
use Rattle.frame_codec.proofs.table_in.Goals as goal

pub returns : goal.returns
unfolding table_in
returns c =
    rw (c.word_at-marks.ensures, c.numbers_at-entries.ensures, c.entries_of.ensures, c.bytes_from-rest.ensures)
