-- The kinds of src/lib.rt, by the numbers that stand in a frame, and which of the kinds of the frame check each of them is.
use Rattle.std.specs.Prelude.{◌≡◌, ℕ, Result, MatchResult}
use Rattle.terms.specs.declared.refusal.Refusal.{Refusal}
use Rattle.frame_check.specs.declared.Kind.{Kind}
use Rattle.frame_check.specs.Check as check
use Rattle.frame_check.specs.Check.{kind_of}

abbrev pub kind_number : Kind → ℕ
kind_number Kind.Position = 1
kind_number Kind.Silence = 2
kind_number Kind.List = 3
kind_number Kind.Confession = 4

abbrev pub kind_named : Kind → check.Kind
kind_named Kind.Position = check.position
kind_named Kind.Silence = check.silence
kind_named Kind.List = check.list
kind_named Kind.Confession = check.confession

-- the result is the kind that this number names, or refusal 7 of a number that names none
abbrev pub Named : ℕ → Result Kind Refusal → Type 0
Named n r = MatchResult r (λ kind. kind_named kind ≡ kind_of n) (λ e. (e ≡ Refusal.UnknownKind) × (check.unknown ≡ kind_of n))
