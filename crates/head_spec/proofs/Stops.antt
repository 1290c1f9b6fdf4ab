-- Stops of the calls, straight from their definitions: a refusal leaves the record, start and restart do not look at the record that was, and once
-- phase 65,535 has ended hearing, writing and closing are refused 26 before all else, and so is adopting an offer. Before that, a listener's writing is
-- refused 17.
use Rattle.std.specs.Prelude.{None, Some, Err}
use mathlib.Core.Path.{◌≡◌, refl}
use mathlib.Core.Logic.{◌≢◌}
use mathlib.Core.Bool.{true, false}
use mathlib.Core.List.{List}
use Prim.Native.Nat.{ℕ, zero, suc}
use lib.IntN.{ℤ}
use Rattle.terms.specs.Refusals as refusal
use Rattle.terms.specs.Sizes.{is_listener}
use Rattle.terms.specs.declared.Family.{Family}
use Rattle.settle_midpoint.specs.declared.Kept.{Kept}
use Rattle.head_spec.specs.declared.Head.{Head}
use Rattle.head_spec.specs.declared.Answer.{Answer}
use Rattle.head_spec.specs.declared.Closed.{Closed}
use Rattle.head_spec.specs.Calls.{answer, start_refusal, started, start, restart_refusal, restarted, restart, start_listener_refusal, started_listener, start_listener, restart_listener_refusal, restart_listener}
use Rattle.head_spec.specs.Calls.{hear_refusal, hear, write_answer, write_buffer, closing, closed_phase, close, adopt}

-- start, restart and hearing answer so: the refusal, the new record if it is 0, and else the record that was
pub answer_refusal : (c : ℕ) (new old : Head) → (answer c new old).refusal ≡ c
answer_refusal zero new old = refl
answer_refusal (suc c) new old = refl

pub answer_kept : (c : ℕ) (new old : Head) → c ≢ 0 → (answer c new old).head ≡ old
answer_kept zero new old d = absurd (d refl)
answer_kept (suc c) new old d = refl

-- ---- whatever record there was

abbrev pub takes : Head → Answer
takes h = record { refusal = 0; head = h }

pub answer_taken : {c : ℕ} (new old : Head) → c ≡ 0 → answer c new old ≡ takes new
answer_taken new old e = rw e

module _ (h : Head) (K : Family) (n f i : ℕ) where
  pub starts_anew : (v : ℤ) → start_refusal K n f i v ≡ 0 → start h K n f i v ≡ takes (started K n f i v)
  unfolding start
  starts_anew v = answer_taken _ h

  pub restarts_anew : (p r : ℕ) → restart_refusal K n f i p r ≡ 0 → restart h K n f i p r ≡ takes (restarted K n f i p r)
  unfolding restart
  restarts_anew p r = answer_taken _ h

  pub listener_starts_anew : start_listener_refusal K n f i ≡ 0 → start_listener h K n f i ≡ takes (started_listener K n f i)
  unfolding start_listener
  listener_starts_anew = answer_taken _ h

  pub listener_restarts_anew : (p r : ℕ) → restart_listener_refusal K n f i p r ≡ 0 → restart_listener h K n f i p r ≡ takes (restarted K n f i p r)
  unfolding restart_listener
  listener_restarts_anew p r = answer_taken _ h

-- ---- a listener sends nothing

pub listener_writes : (h : Head) → h.seat.ended ≡ false → is_listener h.seat.number ≡ true → (buffer : List ℕ)
    → (write_answer h buffer ≡ Err refusal.listener_sends_nothing) × (write_buffer h buffer ≡ buffer)
unfolding write_answer write_buffer
listener_writes h runs listens buffer = (rw (runs, listens), rw (runs, listens))

-- ---- adopting

pub adopts_nothing : (h : Head) → adopt h None ≡ record { refusal = refusal.no_offer; head = h }
unfolding adopt
adopts_nothing h = refl

pub adopts_offer : (h : Head) (k : Kept) → h.seat.ended ≡ false → adopt h (Some k) ≡ takes (closed_phase h k)
unfolding adopt
adopts_offer h k runs = rw runs

-- ---- phase 65,535 has ended

module _ (h : Head) (over : h.seat.ended ≡ true) where
  pub ended_hears : (k : ℕ) (s : List ℕ) → hear h k s ≡ record { refusal = refusal.run_has_ended; head = h }
  unfolding hear hear_refusal
  ended_hears k s = rw over

  pub ended_writes : (buffer : List ℕ) → (write_answer h buffer ≡ Err refusal.run_has_ended) × (write_buffer h buffer ≡ buffer)
  unfolding write_answer write_buffer
  ended_writes buffer = (rw over, rw over)

  pub ended_closes : close h ≡ closing (Closed.Refused refusal.run_has_ended) h
  unfolding close
  ended_closes = rw over

  pub ended_adopts : (k : Kept) → adopt h (Some k) ≡ record { refusal = refusal.run_has_ended; head = h }
  unfolding adopt
  ended_adopts k = rw over
