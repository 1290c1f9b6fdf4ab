-- The header is the whole frame; a buffer of fewer than seven bytes is left as it is.
use mathlib.Core.Path.{refl}
use mathlib.Core.List.{[]}
use Rattle.frame_check.specs.Kinds.{kind_number}
use Rattle.frame_spec.specs.Written.{header}
use Rattle.frame_spec.proofs.Fronts.{too_short, fits_front}
use Rattle.frame_codec.proofs.write_bare.Goals as goal

pub returns-then-buffer-lt7 : goal.returns-then-buffer-lt7
returns-then-buffer-lt7 c =
    let a = c.args in
    let w = too_short (header 7 (kind_number a.kind) a.sender a.phase []) a.buffer.now c.if-buffer-lt7.true in
    record { answer = w.0; bytes = w.1 }

pub returns : goal.returns
returns c =
    let a = c.args in
    let w = fits_front (header 7 (kind_number a.kind) a.sender a.phase []) a.buffer.now refl c.if-buffer-lt7.false c.put_header.ensures in
    record { answer = w.0; bytes = w.1 }
