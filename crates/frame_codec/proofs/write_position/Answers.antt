-- The header and the word written behind it are the frame; a shorter buffer is left as it is.
use mathlib.Core.Path.{refl, ap, ◌∙◌}
use mir.Facts.{to_z-of_z}
use Rattle.fields.specs.Bytes.{word_of}
use Rattle.frame_spec.specs.Written.{position_frame}
use Rattle.frame_spec.proofs.Fronts.{over_position, too_short, fits_front}
use Rattle.frame_codec.proofs.write_position.Goals as goal

pub returns-then-buffer-lt11 : goal.returns-then-buffer-lt11
returns-then-buffer-lt11 c =
    let a = c.args in
    let w = too_short (position_frame a.sender a.phase a.v) a.buffer.now c.if-buffer-lt11.true in
    record { answer = w.0; bytes = w.1 }

pub returns : goal.returns
returns c =
    let a = c.args in
    let word = c.unsigned.ensures ∙ ap word_of (to_z-of_z c.ranges.v) in
    let w =
    fits_front (position_frame a.sender a.phase a.v) a.buffer.now refl c.if-buffer-lt11.false
    (over_position a.sender a.phase a.v a.buffer.now c.if-buffer-lt11.false c.put_header.ensures word c.put_word.ensures) in
    record { answer = w.0; bytes = w.1 }
