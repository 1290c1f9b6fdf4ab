-- The kinds of src/lib.rt: which of the kinds of records of the run file each of them is, and what becomes of a number.
use Rattle.std.specs.Prelude.{◌≡◌, ℕ, Result, MatchResult}
use Rattle.terms.specs.declared.refusal.Refusal.{Refusal}
use Rattle.terms.specs.declared.Family.TheVariants.{TwoRounds, OneRound}
use Rattle.run_spec.specs.RunFile.{RecordKind, start, round, plant, strikes, listeners, other, record_kind}
use Rattle.run_judge.specs.declared.Kind.{Kind}

abbrev pub kind_named : Kind → RecordKind
kind_named Kind.Start = start TwoRounds
kind_named Kind.Round = round
kind_named Kind.Plant = plant
kind_named Kind.Strikes = strikes
kind_named Kind.StartOne = start OneRound
kind_named Kind.Listeners = listeners

-- the result is the kind that this number names, or refusal 13 of a number that names none
abbrev pub Named : ℕ → Result Kind Refusal → Type 0
Named n r = MatchResult r (λ kind. kind_named kind ≡ record_kind n) (λ e. (e ≡ Refusal.BadRunRecord) × (other ≡ record_kind n))
