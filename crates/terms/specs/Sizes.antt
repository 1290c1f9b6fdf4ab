-- Document 01, "What the firmware holds": how many heads a ring has, and how many may be struck in a round.
use Rattle.std.specs.Prelude.{Bool, true, false, ◌&&◌, ℕ, zero, suc, ◌+◌, ◌*◌, leb}
use Rattle.terms.specs.Refusals as refusal
use Rattle.terms.specs.Refusals.{check}
use Rattle.terms.specs.declared.Family.{Family}
use Rattle.terms.specs.declared.Family.TheVariants.{TwoRounds, OneRound}

-- heads: n from 1 to 32
unfoldable pub is_count : ℕ → Bool
is_count n = leb 1 n && leb n 32

-- struck limit f, with 2n at least 7f + 2; in a ring of one round with n at least 4f + 1 (document 02, A9; P38)
unfoldable pub is_limit : Family → ℕ → ℕ → Bool
is_limit TwoRounds n f = leb (7 * f + 2) (2 * n)
is_limit OneRound n f = leb (4 * f + 1) n

-- its refusal: 2; in a ring of one round 18 (Q76)
abbrev pub limit_number : Family → ℕ
limit_number TwoRounds = refusal.struck_limit_too_high
limit_number OneRound = refusal.one_round_limit_too_high

-- phases are numbered 1 to 65,535
abbrev pub is_phase : ℕ → Bool
is_phase p = leb 1 p && leb p 65535

-- listeners, which receive and decide but send nothing, are numbered 32 to 47 (document 02, A6)
abbrev pub first_listener : ℕ
first_listener = 32

unfoldable pub is_listener : ℕ → Bool
is_listener i = leb first_listener i && leb i 47

-- 1, then 2 or 18, before the checks that follow
abbrev pub check_size : (K : Family) (n f rest : ℕ) → ℕ
check_size K n f rest = check (is_count n) refusal.bad_head_count (check (is_limit K n f) (limit_number K) rest)

abbrev pub size_refusal : Family → ℕ → ℕ → ℕ
size_refusal K n f = check_size K n f 0

-- how many rounds a phase has; they are numbered from 0: 0 is collection and 1 confession, and the one round of a phase of one round is 0
-- (Q74)
abbrev pub rounds_of : Family → ℕ
rounds_of TwoRounds = 2
rounds_of OneRound = 1

-- whether round r is the last of its phase
abbrev pub ends_with : Family → ℕ → Bool
ends_with TwoRounds zero = false
ends_with TwoRounds (suc r) = true
ends_with OneRound r = true
