-- The header, the count, the marks and the entries, written one behind the other, are the frame; a shorter buffer is left as it is.
use mathlib.Core.Path.{◌∙◌}
use native.Mathlib.Omega.{arith}
use lib.ListN.{length-set}
use Rattle.terms.specs.declared.Table.{Table}
use Rattle.frame_spec.specs.Written.{list_frame}
use Rattle.frame_spec.proofs.Listing.{list_length}
use Rattle.frame_spec.proofs.Fronts.{over_list, too_short, fits_front}
use Rattle.frame_codec.proofs.write_list.Goals as goal

pub returns-then-buffer-size : goal.returns-then-buffer-size
returns-then-buffer-size c =
    let a = c.args in
    let t : Table = record { marks = a.marks; entries = a.entries.now } in
    let w = too_short (list_frame a.n a.sender a.phase t) a.buffer.now (omega (arith, list_length a.n a.sender a.phase t)) in
    record { answer = w.0; bytes = w.1 }

pub shape_of-buffer : goal.shape_of-buffer
shape_of-buffer c =
    c.put_entries.auto.buffer ∙ c.put_word.auto.s ∙ simp length-set c.put_header.auto.buffer

pub returns : goal.returns
returns c =
    let a = c.args in
    let t : Table = record { marks = a.marks; entries = a.entries.now } in
    let w =
    fits_front (list_frame a.n a.sender a.phase t) a.buffer.now (list_length a.n a.sender a.phase t) c.if-buffer-size.false
    (over_list a.n a.sender a.phase t a.buffer.now c.if-buffer-size.false c.put_header.ensures c.put_word.ensures c.put_entries.ensures) in
    record { answer = w.0; bytes = w.1 }
