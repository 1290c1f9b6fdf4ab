-- `run_piece::is_calm` meets its contract: its tests are those of the definition, in the same order.
use mathlib.Core.Path.{sym, ◌∙◌}
use borrow.Author.Tests.{eq-eqb, ne_eqb, le-leb, lt-leb}
use Rattle.terms.proofs.Refused.{taken_number}
use Rattle.run_piece.proofs.is_calm.Goals as goal

pub returns-then-not-is_settled : goal.returns-then-not-is_settled
returns-then-not-is_settled c = rw (sym c.is_settled.ensures ∙ c.if-not-is_settled.true)

pub returns-then-bytes-lt8 : goal.returns-then-bytes-lt8
returns-then-bytes-lt8 c = rw (sym c.is_settled.ensures ∙ c.if-not-is_settled.false, lt-leb _ _ c.if-bytes-lt8.true)

pub returns-then-half_at-ne8 : goal.returns-then-half_at-ne8
returns-then-half_at-ne8 c =
    rw (sym c.is_settled.ensures ∙ c.if-not-is_settled.false, le-leb _ _ c.if-bytes-lt8.false, ← c.half_at.ensures, ne_eqb _ _ c.if-half_at-ne8.true)

pub returns-then-half_at : goal.returns-then-half_at
returns-then-half_at c =
    rw (sym c.is_settled.ensures ∙ c.if-not-is_settled.false, le-leb _ _ c.if-bytes-lt8.false, ← c.half_at.ensures, eq-eqb _ _ c.if-half_at-ne8.false, ← c.half_at-2.ensures, ne_eqb _ _ c.if-half_at.true)

pub returns : goal.returns
returns c =
    rw (sym c.is_settled.ensures ∙ c.if-not-is_settled.false, le-leb _ _ c.if-bytes-lt8.false, ← c.half_at.ensures, eq-eqb _ _ c.if-half_at-ne8.false, ← c.half_at-2.ensures, eq-eqb _ _ c.if-half_at.false, ← c.round_fault.ensures) (c.is_ok.ensures.value ∙ taken_number c.round_fault.result)
