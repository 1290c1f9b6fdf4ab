-- The limits call: n, f, the phase, a mark word, and 8 bytes for each entry, lowest then highest. Checks 1, 2, 5, 8 (entries not 8n bytes),
-- 10, 19, 25.
use Rattle.std.specs.Prelude.{◌≡◌, Bool, true, false, cond, ◌&&◌, List, ℕ, zero, suc, ◌+◌, ◌*◌, eqb, length, ℤ, pos, None, Some, Ok, Err}
use Rattle.std.specs.Int.Signed.{le_z}
use Rattle.terms.specs.Refusals as refusal
use Rattle.terms.specs.Refusals.{check}
use Rattle.terms.specs.Sizes.{check_size, is_phase}
use Rattle.terms.specs.Positions.{is_position, eq_z, rounding}
use Rattle.terms.specs.Entry.{Entry}
use Rattle.terms.specs.declared.Family.TheVariants.{TwoRounds}
use Rattle.fields.specs.Bytes.{signed_at}
use Rattle.marks.specs.Marks.{bit_of, marks_below}
use Rattle.convergence.specs.Settling.{two_round_rule, enough, settled}
use Rattle.convergence.specs.Demand3.{HeldBetween}
use Rattle.settle_midpoint.specs.Settled.{Settled}
use Rattle.settle_midpoint.specs.Answers.{settled_entry, settling}
use Rattle.settle_limits.specs.Ranged.{Ranged}
use Rattle.settle_midpoint.specs.Call as midpoint-call
use Rattle.settle_limits.specs.Limits.{Choice, Spans}

-- the number at place k of the 8 bytes of entry j: its lowest position at 0, its highest at 4
abbrev pub limit_of : ℕ → List ℕ → ℕ → ℤ
limit_of k s j = signed_at s (8 * j + k)

-- as an entry of a table: null if it is not marked
unfoldable pub limit_at : (k marks : ℕ) (s : List ℕ) (j : ℕ) → Entry
limit_at k marks s j = cond (bit_of marks j) (Some (limit_of k s j)) None

abbrev pub lowests : ℕ → List ℕ → ℕ → Entry
lowests = limit_at 0

abbrev pub highests : ℕ → List ℕ → ℕ → Entry
highests = limit_at 4

-- whether numbers fit as a lowest and a highest: positions in order if the entry is marked, and else 0
abbrev pub both_fit : Bool → ℤ → ℤ → Bool
both_fit true a b = is_position a && (is_position b && le_z a b)
both_fit false a b = eq_z a (pos 0) && eq_z b (pos 0)

-- whether the limits of entries 0 .. n - 1 fit
unfoldable pub limits_fit : ℕ → List ℕ → ℕ → Bool
limits_fit marks s zero = true
limits_fit marks s (suc j) = limits_fit marks s j && both_fit (bit_of marks j) (limit_of 0 s j) (limit_of 4 s j)

-- 1, 2, 5, 8, 10, 19, before the checks that follow (Q94)
unfoldable pub check_limits : (n f phase marks : ℕ) (limits : List ℕ) (rest : ℕ) → ℕ
check_limits n f p marks s rest =
    check_size TwoRounds n f
    (check (is_phase p) refusal.phase_out_of_range
    (check (eqb (length s) (8 * n)) refusal.wrong_length_for_kind
    (check (marks_below marks n) refusal.bad_count_or_marks
    (check (limits_fit marks s n) refusal.bad_limits rest))))

-- and then 25: "null entries are counted as before"
unfoldable pub limits_refusal : (n f phase marks : ℕ) (limits : List ℕ) → ℕ
limits_refusal n f p marks s = check_limits n f p marks s (check (enough n (two_round_rule f) (lowests marks s)) refusal.too_few_trusted 0)

-- what is answered: the number of the first check that fails, and else the lowest and the highest new position
pub data LimitsAnswer (n f p marks : ℕ) (s : List ℕ) : Ranged → Type 0 where
  refused : (c : ℕ) → limits_refusal n f p marks s ≡ suc c → LimitsAnswer n f p marks s (Err (suc c))
  range : limits_refusal n f p marks s ≡ 0 → (low high : ℤ) → Spans (rounding p) n (two_round_rule f) (lowests marks s) (highests marks s) low high
      → LimitsAnswer n f p marks s (Ok (low, high))

-- one answer at most
abbrev pub OneLimitsAnswer : Type 0
OneLimitsAnswer = (n f p marks : ℕ) (s : List ℕ) (a b : Ranged) → LimitsAnswer n f p marks s a → LimitsAnswer n f p marks s b → a ≡ b

-- "refusal 25 in the same case": where limits are refused 25, each choice within them has too few entries too (Q95)
abbrev pub TooFewAlike : Type 0
TooFewAlike =
    (n f p marks : ℕ) (s : List ℕ) → LimitsAnswer n f p marks s (Err refusal.too_few_trusted)
    → (E : ℕ → Entry) → Choice n (lowests marks s) (highests marks s) E → settled (rounding p) n (two_round_rule f) E ≡ None

-- and only there: limits that pass the checks before 25 are refused 25 if each choice has too few (Q95)
abbrev pub TooFewOnly : Type 0
TooFewOnly =
    (n f p marks : ℕ) (s : List ℕ) → check_limits n f p marks s 0 ≡ 0
    → ((E : ℕ → Entry) → Choice n (lowests marks s) (highests marks s) E → settled (rounding p) n (two_round_rule f) E ≡ None)
    → LimitsAnswer n f p marks s (Err refusal.too_few_trusted)

-- a choice within the limits, given to the midpoint call as a list that it takes, brings a new position from the one end to the other
abbrev pub MidpointsWithin : Type 0
MidpointsWithin =
    (n f p marks : ℕ) (s : List ℕ) (low high : ℤ) → LimitsAnswer n f p marks s (Ok (low, high))
    → (marks' : ℕ) (s' : List ℕ) → midpoint-call.list_refusal TwoRounds n f p marks' s' ≡ 0
    → Choice n (lowests marks s) (highests marks s) (midpoint-call.entries_given n marks' s')
    → HeldBetween (Some low) (Some high) (settled_entry (midpoint-call.midpoint_call TwoRounds n f p marks' s'))

-- ---- as the code works it out: the lowest positions are settled, and then the highest

abbrev pub ranged_of : Settled → Settled → Ranged
ranged_of (Err c) h = Err c
ranged_of (Ok k) (Err c) = Err c
ranged_of (Ok k) (Ok h) = Ok (k.position, h.position)

unfoldable pub range_at : (r n f marks : ℕ) (limits : List ℕ) → Ranged
range_at r n f marks s = ranged_of (settling r n (two_round_rule f) (lowests marks s)) (settling r n (two_round_rule f) (highests marks s))
