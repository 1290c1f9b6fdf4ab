-- An address below 16 is read in the window; any other leaves the byte as it was.
use mathlib.Core.Path.{◌≡◌, ap, sym, ◌∙◌}
use mathlib.Core.Logic.{by_cases}
use mathlib.Core.List.{List}
use Prim.Native.Nat.{ℕ, ◌<◌}
use native.Mathlib.Omega.{arith}
use native.Mathlib.Decide.{dec_lt}
use lib.ListN.{get_or}
use borrow.Author.Tests.{le-ltb}
use Rattle.terms.proofs.Refused.{number_ne}
use Rattle.terms.proofs.Refusals.{unchanged, changed}
use Rattle.head_window.specs.Window.{read_refusal}
use Rattle.head_c.proofs.window.focus_head_register.Goals as goal

-- an address that is not refused is one of the sixteen
below_16 : (at : ℕ) → read_refusal at ≡ 0 → at < 16
below_16 at e = by_cases (dec_lt at 16) (λ l. l) (λ g. absurd (go (rw (le-ltb at 16 (omega arith)) at e)))
  where
    go : ◌≡◌ {A = ℕ} 16 0 → ⊥
    go q = omega arith

pub returns-in-Err : goal.returns-in-Err
returns-in-Err c =
    let e = c.in-Err.ensures in
    (c.number.ensures ∙ e, unchanged _ _ _ (λ z. number_ne c.in-Err.refusal (e ∙ z)))

pub bounds-bytes-at : goal.bounds-bytes-at
bounds-bytes-at c =
    below_16 _ (sym c.in-Ok.ensures)

pub returns-in-Ok : goal.returns-in-Ok
returns-in-Ok c =
    let e = c.in-Ok.ensures in
    (e, ap (λ (l : List ℕ). get_or l c.args.at 0) c.window_in-bytes.ensures ∙ sym (changed _ _ _ (sym e)))
