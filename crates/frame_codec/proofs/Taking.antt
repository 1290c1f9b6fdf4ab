-- The parts of what a frame said, with the table of a list, are all that it means: whichever part is asked for first.
use mathlib.Core.Path.{◌≡◌, refl}
use mathlib.Core.Bool.{Bool, cond}
use Rattle.terms.specs.declared.Table.{Table}
use Rattle.frame_spec.specs.declared.Said.{Said}
use Rattle.frame_spec.specs.Said.{Meaning, refused, collected, listed, confessed, meant}
use Rattle.frame_codec.specs.declared.Parts.{Parts}
use Rattle.frame_codec.specs.Parts.{parts_of}

-- p: the parts of x; a: whether it is accepted, l: a list, c: a confession; t: the table
module _ (p : Parts) (t : Table) where
  -- what they mean, if a refusal is asked for first
  abbrev pub refused_or : (a l c : Bool) → Meaning
  refused_or a l c = cond a (cond l (listed t) (cond c confessed (collected p.entry))) (refused p.refusal)

  -- the same, if it is not asked for
  abbrev pub listed_or : (l c : Bool) → Meaning
  listed_or l c = cond l (listed t) (cond c confessed (cond p.accepted (collected p.entry) (refused p.refusal)))

  pub parts_mean : (x : Said) {a l c : Bool} → p ≡ parts_of x → p.accepted ≡ a → p.list ≡ l → p.confession ≡ c
      → (meant x t ≡ refused_or a l c) × (meant x t ≡ listed_or l c)
  parts_mean (Said.Refused n) e i j k = rw (← i, ← j, ← k, e) (refl, refl)
  parts_mean (Said.Collection y) e i j k = rw (← i, ← j, ← k, e) (refl, refl)
  parts_mean Said.List e i j k = rw (← i, ← j, ← k, e) (refl, refl)
  parts_mean Said.Confession e i j k = rw (← i, ← j, ← k, e) (refl, refl)
