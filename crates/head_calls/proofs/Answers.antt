-- How a call answers: a refusal gives its number with the record that was, and a head that runs is not refused for having ended. And what the checks of a
-- start or a restart give if they pass, of a head's number as of a listener's.
use Rattle.std.specs.Prelude.{Result, Ok, Err, IsErrAnd}
use mathlib.Core.Path.{◌≡◌, refl, ap, ap₂, sym, ◌∙◌}
use mathlib.Core.Logic.{◌≢◌}
use mathlib.Core.Bool.{Bool, true, false, cond}
use Prim.Native.Nat.{ℕ, ◌≤◌}
use native.Mathlib.Omega.{arith}
use lib.Dec.{ltb}
use lib.IntN.{ℤ}
use borrow.Author.Tests.{ltb-true}
use Rattle.terms.specs.Refusals as refusal
use Rattle.terms.specs.Refusals.{check}
use Rattle.terms.specs.declared.Family.{Family}
use Rattle.terms.specs.declared.refusal.Refusal.{Refusal}
use Rattle.terms.specs.Refused.{number}
use Rattle.terms.specs.Sizes.{is_count, is_limit, limit_number, size_refusal, is_listener}
use Rattle.terms.proofs.Sizes.{listener_small, size_taken}
use Rattle.terms.proofs.Checks.{passed}
use Rattle.terms.proofs.Refused.{number_ne}
use Rattle.head_spec.specs.Answers.{answer_of}
use Rattle.head_spec.specs.declared.Head.{Head}
use Rattle.head_spec.specs.declared.Answer.{Answer}
use Rattle.head_spec.specs.Calls.{answer, start_refusal, restart_refusal, restart_listener_refusal, restarted}
use Rattle.head_spec.proofs.Proper.{Sized, ProperHead, both_passed, sized, sized_passes, proper_restarted, proper_restarted_listener}
use Rattle.head_spec.proofs.Stops.{answer_refusal, answer_kept}
use Rattle.head_calls.specs.Steps.{is_member, check_member, check_restart}

pub refuses : (c : ℕ) (new old : Head) → c ≢ 0 → record { refusal = c; head = old } ≡ answer c new old
refuses c new old h =
    let answers : ℕ → Head → Answer = λ r x. record { refusal = r; head = x } in
    ap₂ answers (sym (answer_refusal c new old)) (sym (answer_kept c new old h))

pub runs_on : {A : Type 0} {ended : Bool} (stop go : A) → ended ≡ false → go ≡ cond ended stop go
runs_on stop go e = rw e

-- ---- the checks pass

pub member_sized : (K : Family) (listens : Bool) (n f i rest : ℕ) → check_member K listens n f i rest ≡ 0 → Sized K n f
member_sized K listens n f i rest e = (sized K n f e).0

pub member_small : (K : Family) (listens : Bool) (n f i rest : ℕ) → check_member K listens n f i rest ≡ 0 → i ≤ 47
member_small K true n f i rest e = listener_small i (both_passed (is_listener i) true 2 0 (sized K n f e).1).0
member_small K false n f i rest e = let (S, more) = sized K n f e in omega (arith, S.most, ltb-true i n (both_passed (ltb i n) true 2 0 more).0)

pub proper_restarted_as : (K : Family) (listens : Bool) (n f i p r : ℕ) → check_restart K listens n f i p r ≡ 0
    → ProperHead (restarted K n f i p r)
unfolding restart_refusal restart_listener_refusal
proper_restarted_as K true n f i p r e = proper_restarted_listener K n f i p r e
proper_restarted_as K false n f i p r e = proper_restarted K n f i p r e

-- a member's refusal stands whatever is checked after it; where the member is taken, that decides
module _ (x y z : ℕ) where
  stands : (a b m : Bool) (rest : ℕ) → check a x (check b y (check m z 0)) ≢ 0 → check a x (check b y (check m z 0)) ≡ check a x (check b y (check m z rest))
  stands false b m rest h = refl
  stands true false m rest h = refl
  stands true true false rest h = refl
  stands true true true rest h = absurd (h refl)

pub member_refused : (K : Family) (listens : Bool) (n f i rest : ℕ) → check_member K listens n f i 0 ≢ 0 → check_member K listens n f i 0 ≡ check_member K listens n f i rest
member_refused K listens n f i rest h = stands 1 (limit_number K) 3 (is_count n) (is_limit K n f) (is_member listens n i) rest h

pub member_taken : (K : Family) (listens : Bool) (n f i rest : ℕ) → check_member K listens n f i 0 ≡ 0 → check_member K listens n f i rest ≡ rest
member_taken K listens n f i rest e =
    let p = sized K n f e in
    let q = passed (is_member listens n i) 2 p.1 in
    rw (size_taken K n f (check (is_member listens n i) refusal.number_too_high rest) (size_of p.0), q.0)
  where
    size_of : Sized K n f → size_refusal K n f ≡ 0
    size_of S = sized_passes K n f 0 S

-- what a `?` passes on is answered with the record that was
pub passed_answer : (h new : Head) {c : ℕ} (e : Refusal) (r : Result Head Refusal) → IsErrAnd r (λ d. d ≡ e) → number e ≡ c → answer_of h r ≡ answer c new h
passed_answer h new e (Ok x) q g = absurd q
passed_answer h new e (Err d) q g =
    ap (λ (y : ℕ). record { refusal = y; head = h }) (ap number q ∙ g) ∙ refuses _ new h (λ z. number_ne e (g ∙ z))

-- a start that is taken has a member that is taken
pub member_of_start : (K : Family) (n f i : ℕ) (v : ℤ) → start_refusal K n f i v ≡ 0 → check_member K false n f i 0 ≡ 0
unfolding start_refusal
member_of_start K n f i v e =
    let p = sized K n f e in
    let q = passed (ltb i n) 2 p.1 in
    sized_passes K n f (check (ltb i n) refusal.number_too_high 0) p.0 ∙ rw q.0
