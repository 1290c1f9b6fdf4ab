-- A call that is refused leaves the block as it was, but for the event of a closing refused 25.
use mathlib.Core.Path.{◌≡◌, refl, ap, sym, ◌∙◌}
use mathlib.Core.Logic.{◌≢◌, by_cases}
use mathlib.Core.List.{List}
use Prim.Native.Nat.{ℕ}
use native.Mathlib.Omega.{arith}
use native.Mathlib.Decide.{dec_lt}
use lib.ListN.{get_or, set}
use lib.Seq.{set-get_or}
use borrow.Author.Tests.{eq-eqb, ne_eqb}
use Rattle.terms.proofs.Refusals.{unchanged}
use Rattle.head_spec.specs.declared.Head.{Head}
use Rattle.head_spec.specs.declared.Answer.{Answer}
use Rattle.head_spec.specs.declared.Closed.{Closed}
use Rattle.head_spec.specs.Calls.{start, restart, hear, close, adopt, start_listener, restart_listener}
use Rattle.head_spec.specs.Batch.{batch_refusal}
use Rattle.head_lent.specs.Answers.{closed_number}
use Rattle.head_window.specs.declared.Registers.{Registers}
use Rattle.head_window.specs.Window.{closed_registers, set_refusal, set_registers}
use Rattle.head_c.specs.Blocks.{head_of, with_answer, registers_of, with_registers, offer_of, without_offer, with_closing}
use Rattle.head_c.specs.Events.{starts, restarts, starts_listener, restarts_listener, hears, hears_batch, closes, adopts, sets, block_after, RefusedLeaves}

-- what stands beside the head, put back where it stands
pub same_put : (w : List ℕ) → with_registers (registers_of w) w ≡ w
same_put w = ap (λ (l : List ℕ). set l 17 (get_or w 17 0)) (set-get_or w 16 0) ∙ set-get_or w 17 0

same_after : (w : List ℕ) (a : Answer) → a.refusal ≢ 0 → with_answer w a ≡ w
unfolding with_answer
same_after w a h = sym (unchanged a.refusal _ w h)

-- ---- only refusal 25 is an event

closed_same : (x : Closed) (b : Registers) → closed_number x ≢ 0 → closed_number x ≢ 25 → closed_registers x b ≡ b
closed_same (Closed.Refused c) b h d = rw (ne_eqb c 25 d)
closed_same Closed.Listed b h d = absurd (h refl)
closed_same (Closed.Settled k) b h d = absurd (h refl)

set_same : (at x : ℕ) (b : Registers) → set_refusal at ≢ 0 → set_registers at x b ≡ b
set_same at x b h = by_cases (dec_lt at 10)
    (λ l. other (omega arith) (omega arith))
    (λ g. by_cases (dec_lt at 11)
    (λ l. absurd (h (rw (eq-eqb at 10 (omega arith)))))
    (λ m. by_cases (dec_lt at 12)
    (λ l. absurd (h (rw (ne_eqb at 10 (omega arith), eq-eqb at 11 (omega arith)))))
    (λ n. other (omega arith) (omega arith))))
  where
    other : at ≢ 10 → at ≢ 11 → set_registers at x b ≡ b
    other d e = rw (ne_eqb at 10 d, ne_eqb at 11 e)

-- ---- the calls

module _ (w : List ℕ) where
  abbrev Leaves : ℕ → Registers → List ℕ → Type 0
  Leaves c b w' = (w' ≡ with_registers b w) × (c ≢ 25 → w' ≡ w)

  registers_leaves : (c : ℕ) (b : Registers) {w' : List ℕ} → w' ≡ with_registers b w → (c ≢ 25 → b ≡ registers_of w) → Leaves c b w'
  registers_leaves c b e q = (e, λ d. e ∙ ap (λ (x : Registers). with_registers x w) (q d) ∙ same_put w)

  put_leaves : (a : Answer) (b : Registers) → a.refusal ≢ 0 → b ≡ registers_of w
      → Leaves a.refusal b (without_offer a.refusal (with_registers b (with_answer w a)))
  put_leaves a b h q = registers_leaves a.refusal b (sym (unchanged a.refusal _ _ h) ∙ ap (with_registers b) (same_after w a h)) (λ d. q)

  closed_leaves : (c : Closed) (h : Head) → closed_number c ≢ 0 → with_closing c h w ≡ w
  closed_leaves (Closed.Refused c) h d = refl
  closed_leaves Closed.Listed h d = absurd (d refl)
  closed_leaves (Closed.Settled k) h d = absurd (d refl)

  heard_leaves : (c : ℕ) {w' : List ℕ} → w ≡ w' → Leaves c (registers_of w) w'
  heard_leaves c e = (sym e ∙ sym (same_put w), λ d. sym e)

pub refused_leaves : RefusedLeaves
unfolding block_after
refused_leaves w (starts K n f i v) h = put_leaves w (start (head_of w) K n f i v) _ h (sym (unchanged _ _ _ h))
refused_leaves w (restarts K n f i p r) h = put_leaves w (restart (head_of w) K n f i p r) _ h (sym (unchanged _ _ _ h))
refused_leaves w (starts_listener K n f i) h = put_leaves w (start_listener (head_of w) K n f i) _ h (sym (unchanged _ _ _ h))
refused_leaves w (restarts_listener K n f i p r) h = put_leaves w (restart_listener (head_of w) K n f i p r) _ h (sym (unchanged _ _ _ h))
refused_leaves w adopts h = put_leaves w (adopt (head_of w) (offer_of w)) _ h (sym (unchanged _ _ _ h))
refused_leaves w closes h =
    let q = close (head_of w) in
    registers_leaves w (closed_number q.closed) _ (ap (with_registers _) (closed_leaves w q.closed q.head h)) (closed_same q.closed (registers_of w) h)
refused_leaves w (sets at x) h = (refl, λ d. ap (λ (b : Registers). with_registers b w) (set_same at x (registers_of w) h) ∙ same_put w)
refused_leaves w (hears k s) h = heard_leaves w (hear (head_of w) k s).refusal (unchanged _ _ w h)
refused_leaves w (hears_batch s room) h = heard_leaves w (batch_refusal s room) (unchanged _ _ w h)
