-- The calls, cut into the steps of the code.
use Rattle.std.specs.Prelude.{Bool, cond, ℕ, zero, suc, ltb, None}
use Rattle.terms.specs.Refusals as refusal
use Rattle.terms.specs.Refusals.{check}
use Rattle.terms.specs.Sizes.{check_size, is_listener}
use Rattle.terms.specs.declared.Family.{Family}
use Rattle.frame_spec.specs.declared.Said.{Said}
use Rattle.head_spec.specs.declared.Seat.{Seat}
use Rattle.head_spec.specs.declared.Head.{Head}
use Rattle.head_spec.specs.declared.Answer.{Answer}
use Rattle.head_spec.specs.Calls.{answer, is_time, restarted}

-- a number that is taken: a head's, or a listener's
abbrev pub is_member : Bool → ℕ → ℕ → Bool
is_member listens n i = cond listens (is_listener i) (ltb i n)

-- 1, 2 or 18, 3, before the checks that follow
abbrev pub check_member : (K : Family) (listens : Bool) (n f number rest : ℕ) → ℕ
check_member K listens n f i rest = check_size K n f (check (is_member listens n i) refusal.number_too_high rest)

-- and with it 5, of a restart
abbrev pub check_restart : (K : Family) (listens : Bool) (n f number phase round : ℕ) → ℕ
check_restart K listens n f i p r = check_member K listens n f i (check (is_time K p r) refusal.phase_out_of_range 0)

-- a restart of a head or a listener
unfoldable pub restart_as : (K : Family) (listens : Bool) (h : Head) (n f number phase round : ℕ) → Answer
restart_as K listens h n f i p r = answer (check_restart K listens n f i p r) (restarted K n f i p r) h

-- what a head has to say, as the code has it: the table of a list is the record's
abbrev pub said_by : ℕ → Seat → Said
said_by zero s = Said.Collection (cond s.healed None s.position)
said_by (suc r) s = cond s.healed Said.Confession Said.List
