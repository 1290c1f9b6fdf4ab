-- Positions when all sound receivers hold one.
use Rattle.std.specs.Prelude.{List, replicate, ℤ, None, Some}
use Rattle.terms.specs.Entry.{Entry}
use Rattle.ring_spec.specs.Rounds.{receivers}

-- the position that all sound receivers hold becomes that of all places; if they hold more than one, all is as it was
abbrev pub levelled : Entry → List ℤ → List ℤ
levelled None positions = positions
levelled (Some u) positions = replicate receivers u
