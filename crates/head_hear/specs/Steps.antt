-- What a link says, as `said_on` reads it for a record and for C's block: its own checks, and then its frame. Nothing here is needed to read what `hear`
-- promises.
use Rattle.std.specs.Prelude.{Bool, not, List, ℕ, ltb}
use Rattle.terms.specs.Refusals as refusal
use Rattle.terms.specs.Refusals.{check, unless_refused}
use Rattle.marks.specs.Marks.{bit_of}
use Rattle.frame_spec.specs.Said.{Meaning, refused, said}

-- 26, 3, 21
abbrev pub link_refusal : (ended : Bool) (n heard k : ℕ) → ℕ
link_refusal ended n heard k =
    check (not ended) refusal.run_has_ended (check (ltb k n) refusal.number_too_high (check (not (bit_of heard k)) refusal.already_heard 0))

-- what link k says to a head in this phase and round that has heard these links
abbrev pub said_on : (ended : Bool) (n phase round heard k : ℕ) → List ℕ → Meaning
said_on ended n p r heard k s = unless_refused refused (link_refusal ended n heard k) (said n p r k s)
