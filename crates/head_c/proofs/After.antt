-- What a start, a restart and an adoption leave in a block: a record with nothing heard and no entries, in the seat that the call by value makes, or the block as it was.
use mathlib.Core.Path.{◌≡◌, refl, ap, sym, ◌∙◌}
use mathlib.Core.Bool.{Bool}
use mathlib.Core.List.{List}
use Prim.Native.Nat.{ℕ, zero, suc, ◌%◌, ◌<◌}
use native.Mathlib.Omega.{arith}
use native.Mathlib.Nat.{mod-eq_of_lt}
use Rattle.terms.specs.Refusals as refusal
use Rattle.terms.specs.Refusals.{check, leaves}
use Rattle.terms.specs.Entry.{Entry}
use Rattle.terms.specs.declared.Family.{Family}
use Rattle.head_spec.specs.declared.Seat.{Seat}
use Rattle.head_spec.specs.declared.Head.{Head}
use Rattle.head_spec.specs.Record.{no_entries, opened}
use Rattle.head_spec.specs.Seats.{first_seat, healed_seat}
use Rattle.head_spec.specs.Calls.{answer, is_time, restarted}
use Rattle.head_spec.proofs.Proper.{rounds_few, number_small}
use Rattle.head_spec.proofs.Stops.{answer_refusal}
use Rattle.convergence.proofs.Demand3.{size_large}
use Rattle.head_calls.specs.Steps.{check_member}
use Rattle.head_calls.proofs.Answers.{member_sized, member_small, proper_restarted_as}
use Rattle.head_window.specs.declared.Registers.{Registers}
use Rattle.head_c.specs.Blocks.{with_head, with_answer, with_registers, without_offer}

-- the seats are those of the definitions where the checks pass: each number has room in its byte
pub first_seat_lem : (K : Family) (listens : Bool) (n f i rest : ℕ) (e : Entry) → check_member K listens n f i rest ≡ 0
    → first_seat K (n % 256) (f % 256) (i % 256) e ≡ first_seat K n f i e
first_seat_lem K listens n f i rest e ok =
    let S = member_sized K listens n f i rest ok in
    let a : n < 256 = omega (arith, S.most) in
    let b : f < 256 = omega (arith, S.most, size_large K n f S.limit) in
    let c : i < 256 = omega (arith, member_small K listens n f i rest ok) in
    λ t. first_seat K (mod-eq_of_lt a t) (mod-eq_of_lt b t) (mod-eq_of_lt c t) e

pub restart_seat : (K : Family) (listens : Bool) (n f i p r : ℕ) → check_member K listens n f i (check (is_time K p r) refusal.phase_out_of_range 0) ≡ 0
    → healed_seat K (n % 256) (f % 256) (i % 256) (p % 65536) (r % 256) ≡ healed_seat K n f i p r
unfolding restarted
restart_seat K listens n f i p r ok =
    let P = (proper_restarted_as K listens n f i p r ok).seat in
    let S = P.size in
    let a : n < 256 = omega (arith, S.most) in
    let b : f < 256 = omega (arith, S.most, size_large K n f S.limit) in
    let c : i < 256 = omega (arith, number_small P) in
    let d : p < 65536 = omega (arith, P.to_last) in
    let e : r < 256 = omega (arith, P.round, rounds_few K) in
    λ t. healed_seat K (mod-eq_of_lt a t) (mod-eq_of_lt b t) (mod-eq_of_lt c t) (mod-eq_of_lt d t) (mod-eq_of_lt e t)

-- what is left by number c: the answer of the call by value, of whatever record there was
module _ (w : List ℕ) (s s' : Seat) (old : Head) where
  left : (c : ℕ) → (c ≡ 0 → s ≡ s') → leaves c (with_head (opened s no_entries) w) w ≡ with_answer w (answer c (opened s' no_entries) old)
  unfolding with_answer
  left zero p = ap (λ (x : Seat). with_head (opened x no_entries) w) (p refl)
  left (suc c) p = refl

  pub fresh_left : (registers : ℕ → Registers) {b : Registers} {r c : ℕ} {w' : List ℕ} → r ≡ c → b ≡ registers r
      → w' ≡ without_offer r (with_registers b (leaves r (with_head (opened s no_entries) w) w)) → (c ≡ 0 → s ≡ s')
      → let a = answer c (opened s' no_entries) old in
      (r ≡ a.refusal) × (w' ≡ without_offer a.refusal (with_registers (registers a.refusal) (with_answer w a)))
  fresh_left registers {b} {r} {c} e q p seats =
      let n = sym (answer_refusal c (opened s' no_entries) old) in (
        e ∙ n,
        p
            ∙ (λ i. without_offer (e i) (with_registers ((q ∙ ap registers e) i) (leaves (e i) (with_head (opened s no_entries) w) w)))
            ∙ ap (λ (x : List ℕ). without_offer c (with_registers (registers c) x)) (left c seats)
            ∙ ap (λ (x : ℕ). without_offer x (with_registers (registers x) (with_answer w (answer c (opened s' no_entries) old)))) n,
      )
