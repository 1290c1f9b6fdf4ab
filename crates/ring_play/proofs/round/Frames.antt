-- Frames as the player reads them: the parts of what was read, with the table beside them, are all that the frame says.
use Rattle.std.proofs.Common.{◌≡◌, ℕ, ◌<◌, Bool, List, sym, refl, ap, ◌∙◌}
use mir.Val.{Val}
use denote.Laws.{Is}
use Rattle.frame_spec.specs.declared.Said.{Said}
use Rattle.frame_spec.specs.Said.{table_in, said, said_of, meant, rest_field}
use Rattle.frame_spec.proofs.OneMeaning.{meant_said}
use Rattle.frame_codec.specs.declared.Parts.{Parts}
use Rattle.frame_codec.specs.Parts.{parts_of}
use Rattle.frame_codec.proofs.Taking.{listed_or, parts_mean}
use Rattle.ring_play.specs.declared.Stage.{Stage}
use Rattle.ring_play.specs.contracts.Stage.{the_row}

-- ---- read

-- x: what was read; P: its parts; l: whether it is a list, c: a confession
pub said_read : (n p r k : ℕ) (s : List ℕ) {x : Said} {P : Parts} {l c : Bool} → x ≡ said_of (said n p r k s) → P ≡ parts_of x → P.list ≡ l → P.confession ≡ c
    → said n p r k s ≡ listed_or P (table_in n (rest_field s)) l c
said_read n p r k s {x} {P} e q i j =
    let t = table_in n (rest_field s) in
    sym (meant_said n p r k s) ∙ ap (λ (y : Said). meant y t) (sym e) ∙ (parts_mean P t x q refl i j).1

-- ---- the phase of a frame

-- a phase is a word of two bytes; s: a stage as the machine holds it
pub phase_small : {vs : List Val} (s : Stage) → Is the_row s vs → s.phase < 65536
phase_small s is = is.1.1.1.1.0.1
