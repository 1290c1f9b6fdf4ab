-- A start that holds the position, under a head's number.
use mathlib.Core.Path.{◌≡◌, ap, sym, ◌∙◌}
use Prim.Native.Nat.{ℕ}
use lib.IntN.{ℤ}
use mir.Syntax.{w32}
use mir.Val.{SFits, to_z, of_z}
use mir.Facts.{to_z-of_z}
use Rattle.terms.specs.declared.Family.{Family}
use Rattle.head_spec.specs.Calls.{start_refusal, started, start}
use Rattle.head_spec.proofs.Stops.{starts_anew}
use Rattle.head_calls.proofs.Answers.{passed_answer, member_of_start}
use Rattle.head_calls.proofs.starts.start.Goals as goal

-- the position, as the machine hands it on
handed : (K : Family) (n f i : ℕ) {v : ℤ} {c : ℕ} → SFits w32 v → c ≡ start_refusal K n f i (to_z w32 (of_z w32 v)) → c ≡ start_refusal K n f i v
handed K n f i g e = e ∙ ap (start_refusal K n f i) (to_z-of_z g)

pub returns-in_err-check_start : goal.returns-in_err-check_start
unfolding start
returns-in_err-check_start c h =
    let a = c.args in
    passed_answer h _ c.in_err-check_start.field-0.0 c.from_residual.result c.from_residual.ensures.1
    (handed a.family a.n a.f a.number c.ranges.position c.in_err-check_start.ensures)

pub started-requires : goal.started-requires
started-requires c =
    let a = c.args in
    member_of_start a.family a.n a.f a.number a.position (sym (handed a.family a.n a.f a.number c.ranges.position c.in_ok-check_start.ensures))

pub returns : goal.returns
unfolding started
returns c h =
    let a = c.args in
    rw (c.started.ensures, to_z-of_z c.ranges.position) (sym (starts_anew h a.family a.n a.f a.number a.position (sym (handed a.family a.n a.f a.number c.ranges.position c.in_ok-check_start.ensures))))
