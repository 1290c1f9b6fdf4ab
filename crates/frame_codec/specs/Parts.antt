-- The parts of what a frame said, as hearing takes them: a frame is refused, or it says an entry, gives a list, or is a confession.
use Rattle.std.specs.Prelude.{true, false, None}
use Rattle.frame_spec.specs.declared.Said.{Said}
use Rattle.frame_codec.specs.declared.Parts.{Parts}

abbrev pub parts_of : Said → Parts
parts_of (Said.Refused c) = record { accepted = false; refusal = c; entry = None; list = false; confession = false }
parts_of (Said.Collection e) = record { accepted = true; refusal = 0; entry = e; list = false; confession = false }
parts_of Said.List = record { accepted = true; refusal = 0; entry = None; list = true; confession = false }
parts_of Said.Confession = record { accepted = true; refusal = 0; entry = None; list = false; confession = true }
