-- From 10 to 11 are 10 and 11 alone.
use mathlib.Core.Path.{◌≡◌}
use mathlib.Core.Logic.{by_cases}
use Prim.Native.Nat.{ℕ, ◌≤◌}
use native.Mathlib.Omega.{arith}
use native.Mathlib.Decide.{dec_lt}
use borrow.Author.Tests.{eq-eqb, ne_eqb}
use Rattle.head_window.specs.Window.{set_refusal}
use Rattle.head_window.proofs.set_refusal.Goals as goal

taken : (at : ℕ) → 10 ≤ at → at ≤ 11 → 0 ≡ set_refusal at
taken at l m = by_cases (dec_lt at 11)
    (λ b. rw (eq-eqb at 10 (omega arith)))
    (λ b. rw (ne_eqb at 10 (omega arith), eq-eqb at 11 (omega arith)))

pub returns-then-at-lt-EVENTS_BYTE : goal.returns-then-at-lt-EVENTS_BYTE
returns-then-at-lt-EVENTS_BYTE c = let at = c.args.at in rw (ne_eqb at 10 (omega arith), ne_eqb at 11 (omega arith))

pub returns-then-at-gt-MASK_BYTE : goal.returns-then-at-gt-MASK_BYTE
returns-then-at-gt-MASK_BYTE c = let at = c.args.at in rw (ne_eqb at 10 (omega arith), ne_eqb at 11 (omega arith))

pub returns : goal.returns
returns c = taken _ c.if-at-lt-EVENTS_BYTE.false c.if-at-gt-MASK_BYTE.false
