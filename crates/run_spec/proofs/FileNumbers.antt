-- Every check of a run record has a number of a file, and a fault stays.
use mathlib.Core.Path.{◌≡◌, refl}
use mathlib.Core.Bool.{Bool, true, false, cond, not, ◌&&◌}
use mathlib.Core.List.{List, [], ◌∷◌, ◌++◌}
use Prim.Native.Nat.{ℕ, zero, suc, ◌+◌, ◌*◌}
use lib.Dec.{eqb, ltb, leb}
use lib.ListN.{length}
use Rattle.terms.specs.Refusals as refusal
use Rattle.terms.specs.Refusals.{check, unless_refused, leaves}
use Rattle.terms.specs.Sizes.{is_count, is_limit, limit_number, check_size}
use Rattle.terms.specs.declared.Family.{Family}
use Rattle.terms.specs.declared.Family.TheVariants.{TwoRounds, OneRound}
use Rattle.marks.specs.Marks.{marks_below}
use Rattle.fields.specs.Bytes.{is_empty}
use Rattle.ring_spec.specs.Rounds.{ends_phase, most_rounds}
use Rattle.run_spec.specs.RunFile.{File, head_count_in, limit_in, positions_fit, rounds_given, few_marks, struck_in, pair_fits, last_pair, sender_in, receiver_in, listener_count_in, listeners_in, RecordKind, start, round, plant, listeners, strikes, other, record_fault, with_record, with_part, stopped, judged, kind_in, length_in, is_allowed, read_on, step, feed, unread, read_file, ending}
use Rattle.run_spec.specs.FileNumbers.{is_file_number, FileNumbers}

abbrev Fine : ℕ → Type 0
Fine c = is_file_number c ≡ true

abbrev FineFile : File → Type 0
FineFile F = Fine F.fault

check_fine : (b : Bool) (c r : ℕ) → Fine c → Fine r → Fine (check b c r)
check_fine true c r p q = q
check_fine false c r p q = p

limit_fine : (K : Family) → Fine (limit_number K)
limit_fine TwoRounds = refl
limit_fine OneRound = refl

size_fine : (K : Family) (n f rest : ℕ) → Fine rest → Fine (check_size K n f rest)
size_fine K n f rest q = check_fine (is_count n) 1 _ refl (check_fine (is_limit K n f) (limit_number K) rest (limit_fine K) q)

fault_fine : (k : RecordKind) (F : File) (s : List ℕ) → Fine (record_fault k F s)
fault_fine (start K) F s =
    check_fine (eqb (length s) (6 + 4 * head_count_in s)) 13 (check_size K (head_count_in s) (limit_in s) (check (positions_fit s (head_count_in s)) 4 0)) refl
    (size_fine K (head_count_in s) (limit_in s) (check (positions_fit s (head_count_in s)) 4 0) (check_fine (positions_fit s (head_count_in s)) 4 0 refl refl))
fault_fine round F s =
    let last = ltb (rounds_given F) (most_rounds F.setup.family) in
    check_fine (few_marks F.setup.n F.setup.f (struck_in s)) 14 (check last 26 0) refl (check_fine last 26 0 refl refl)
fault_fine plant F s =
    check_fine (pair_fits F.setup.n F.setup.listeners F.rounds.last.struck (last_pair F.rounds.last.plants) (sender_in s) (receiver_in s)) 13 0 refl refl
fault_fine listeners F s = check_fine (leb 1 (listener_count_in s) && leb (listener_count_in s) 16) 13 0 refl refl
fault_fine strikes F s = check_fine (marks_below (listeners_in s) F.setup.listeners) 13 0 refl refl
fault_fine other F s = refl

record_fine : (k : RecordKind) (F : File) (s : List ℕ) → FineFile F → FineFile (with_record k F s)
record_fine (start K) F s h = refl
record_fine round F s h = refl
record_fine plant F s h = refl
record_fine listeners F s h = refl
record_fine strikes F s h = refl
record_fine other F s h = h

unless_fine : (c : ℕ) (F G : File) → Fine c → FineFile G → FineFile (unless_refused (stopped F) c G)
unless_fine zero F G p q = q
unless_fine (suc c) F G p q = p

judged_fine : (k : RecordKind) (F : File) (s : List ℕ) → FineFile F → FineFile (judged k F s)
unfolding judged
judged_fine k F s h = unless_fine (record_fault k F s) F (with_record k F s) (fault_fine k F s) (record_fine k F s h)

cond_fine : (b : Bool) (F G : File) → FineFile F → FineFile G → FineFile (cond b F G)
cond_fine true F G p q = p
cond_fine false F G p q = q

read_fine : (F : File) (s : List ℕ) → FineFile F → FineFile (read_on F s)
unfolding read_on
read_fine F s h =
    cond_fine (ltb (length s) 4) (with_part F s) _ h
    (cond_fine (eqb (length s) 4 && not (is_allowed (kind_in s) F (length_in s))) (stopped F refusal.bad_run_record) _ refl
    (cond_fine (eqb (length s) (length_in s)) (judged (kind_in s) F s) (with_part F s) (judged_fine (kind_in s) F s h) h))

leaves_fine : (c : ℕ) (F G : File) → FineFile F → FineFile G → FineFile (leaves c F G)
leaves_fine zero F G p q = p
leaves_fine (suc c) F G p q = q

feed_fine : (F : File) (s : List ℕ) → FineFile F → FineFile (feed F s)
unfolding feed step
feed_fine F [] h = h
feed_fine F (x ∷ xs) h = feed_fine (step F x) xs (leaves_fine F.fault (read_on F (F.part ++ (x ∷ []))) F (read_fine F _ h) h)

pub file_numbers : FileNumbers
unfolding ending unread
file_numbers s = let F = read_file s in check_fine (eqb F.fault 0) F.fault (check (F.setup.begun && is_empty F.part && ends_phase F.setup.family (rounds_given F)) 13 0)
    (feed_fine unread s refl)
    (check_fine (F.setup.begun && is_empty F.part && ends_phase F.setup.family (rounds_given F)) 13 0 refl refl)
