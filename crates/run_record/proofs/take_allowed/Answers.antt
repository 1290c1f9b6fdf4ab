-- `run_record::take_allowed` meets its contract: the kind says which function takes the record, and that it is allowed says what that one needs to know.
use mathlib.Core.Path.{◌≡◌, ap, sym, ◌∙◌}
use mathlib.Core.List.{List}
use Prim.Native.Nat.{ℕ, ◌≤◌}
use lib.ListN.{length, drop, length-drop}
use native.Mathlib.Omega.{arith}
use Rattle.terms.specs.declared.Family.TheVariants.{TwoRounds, OneRound}
use Rattle.fields.specs.Bytes.{at2}
use Rattle.run_spec.specs.RunFile.{read_file, start, plant, record_kind, kind_in, length_in}
use Rattle.terms.proofs.Booleans.{and_both}
use Rattle.run_spec.proofs.Whole.{plant_long}
use Rattle.run_judge.specs.declared.Kind.{Kind}
use Rattle.run_judge.specs.Kinds.{kind_named}
use Rattle.run_state.specs.Memory.{memory_lent}
use Rattle.run_record.proofs.Records.{start_place}
use Rattle.run_record.proofs.take_allowed.Goals as goal

-- the kind of a record is the one that the number at its byte 2 names
named : {number : ℕ} {kind k : Kind} (s : List ℕ) → number ≡ at2 s 2 → kind_named kind ≡ record_kind number → kind ≡ k → kind_in s ≡ kind_named k
named s read is this = ap record_kind (sym read) ∙ sym is ∙ ap kind_named this

pub returns-in-Ok-Start-clause-by_index : goal.returns-in-Ok-Start-clause-by_index
returns-in-Ok-Start-clause-by_index c a T H may whole =
    let x = c.args in
    let s = x.bytes.now in
    let kind : kind_in s ≡ start TwoRounds = named s c.half_at.ensures c.in-Ok-Start.ensures c.in-Ok-Start.field-0-is in
    rw kind (c.take_start.ensures.next (read_file a) (memory_lent x.positions.now x.marks.now x.lists.now x.planted.now x.lengths.now) (start_place (read_file a) (length_in s) TwoRounds (rw kind at may)) T H)

pub returns-in-Ok-StartOne-clause-by_index : goal.returns-in-Ok-StartOne-clause-by_index
returns-in-Ok-StartOne-clause-by_index c a T H may whole =
    let x = c.args in
    let s = x.bytes.now in
    let kind : kind_in s ≡ start OneRound = named s c.half_at.ensures c.in-Ok-StartOne.ensures c.in-Ok-StartOne.field-0-is in
    rw kind (c.take_start-in-Ok-StartOne.ensures.next (read_file a) (memory_lent x.positions.now x.marks.now x.lists.now x.planted.now x.lengths.now) (start_place (read_file a) (length_in s) OneRound (rw kind at may)) T H)

pub returns-in-Ok-Plant-clause-by_index : goal.returns-in-Ok-Plant-clause-by_index
returns-in-Ok-Plant-clause-by_index c a T H may whole =
    let x = c.args in
    let s = x.bytes.now in
    let kind : kind_in s ≡ plant = named s c.half_at.ensures c.in-Ok-Plant.ensures c.in-Ok-Plant.field-0-is in
    let short : length (drop 6 s) ≤ 140 =
    omega (arith, length-drop 6 s, whole, plant_long (length_in s) (and_both (read_file a).rounds.pending _ (rw kind at may)).1) in
    rw kind (c.take_plant.ensures.next (read_file a) (memory_lent x.positions.now x.marks.now x.lists.now x.planted.now x.lengths.now) short T H)
