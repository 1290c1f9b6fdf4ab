-- A start, a restart or an adoption that is not refused makes a record with nothing heard.
use Rattle.std.specs.Prelude.{None, Some}
use mathlib.Core.Path.{◌≡◌, refl}
use Prim.Native.Nat.{ℕ, zero, suc}
use native.Mathlib.Omega.{arith}
use lib.IntN.{ℤ}
use Rattle.terms.specs.declared.Family.{Family}
use Rattle.head_spec.specs.declared.Head.{Head}
use Rattle.head_spec.specs.declared.Answer.{Answer}
use Rattle.head_spec.specs.Kept.{Offer}
use Rattle.head_spec.specs.Record.{opened}
use Rattle.head_spec.specs.Calls.{answer, start_refusal, started, start, restart_refusal, restarted, restart}
use Rattle.head_spec.specs.Calls.{start_listener_refusal, started_listener, start_listener, restart_listener_refusal, restart_listener}
use Rattle.head_spec.specs.Calls.{closed_phase, adopt_refusal, adopt}

abbrev pub Opens : Answer → Type 0
Opens a = a.refusal ≡ 0 → a.head ≡ opened a.head.seat a.head.list

answer_opens : (c : ℕ) (new old : Head) → new ≡ opened new.seat new.list → Opens (answer c new old)
answer_opens zero new old e z = e
answer_opens (suc c) new old e z = absurd (omega arith)

pub start_opens : (h : Head) (K : Family) (n f i : ℕ) (v : ℤ) → Opens (start h K n f i v)
unfolding start started
start_opens h K n f i v = answer_opens (start_refusal K n f i v) (started K n f i v) h refl

pub restart_opens : (h : Head) (K : Family) (n f i p r : ℕ) → Opens (restart h K n f i p r)
unfolding restart restarted
restart_opens h K n f i p r = answer_opens (restart_refusal K n f i p r) (restarted K n f i p r) h refl

pub start_listener_opens : (h : Head) (K : Family) (n f i : ℕ) → Opens (start_listener h K n f i)
unfolding start_listener started_listener
start_listener_opens h K n f i = answer_opens (start_listener_refusal K n f i) (started_listener K n f i) h refl

pub restart_listener_opens : (h : Head) (K : Family) (n f i p r : ℕ) → Opens (restart_listener h K n f i p r)
unfolding restart_listener restarted
restart_listener_opens h K n f i p r = answer_opens (restart_listener_refusal K n f i p r) (restarted K n f i p r) h refl

pub adopt_opens : (h : Head) (o : Offer) → Opens (adopt h o)
unfolding adopt closed_phase
adopt_opens h None z = absurd (omega arith)
adopt_opens h (Some k) z = answer_opens (adopt_refusal h (Some k)) (closed_phase h k) h refl z
