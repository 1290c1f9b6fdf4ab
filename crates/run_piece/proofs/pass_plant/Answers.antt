-- `run_piece::pass_plant` meets its contract: a planted record without a fault is taken where it is, and anything else is left.
use mathlib.Core.Path.{sym, ◌∙◌}
use borrow.Author.Tests.{eq-eqb, ne_eqb}
use Rattle.terms.proofs.Refused.{err_number, ok_number}
use Rattle.run_piece.proofs.Planting.{size_plants, passed_none, none_passed, plant_there}
use Rattle.run_piece.proofs.pass_plant.Goals as goal

pub returns-then-used-eq0 : goal.returns-then-used-eq0
returns-then-used-eq0 c =
    let a = c.args in
    record {
      used_value = passed_none a.n a.m a.struck a.previous a.rest.now (sym c.if-used-eq0.true ∙ c.plant_size-used.ensures);
      passes = λ p W a carry M L. none_passed L W;
    }

pub returns-then-is_err : goal.returns-then-is_err
returns-then-is_err c =
    record { used_value = rw (← c.plant_fault.ensures, ne_eqb _ _ (err_number c.plant_fault.result (sym c.is_err.ensures.value ∙ c.if-is_err.true))); passes = λ p W a carry M L. none_passed L W }

pub front-requires : goal.front-requires
front-requires c = (size_plants c.args.rest.now c.plant_size-used.ensures c.if-used-eq0.false).within

pub returns : goal.returns
returns c =
    let sound = sym c.plant_fault.ensures ∙ ok_number c.plant_fault.result (sym c.is_err.ensures.value ∙ c.if-is_err.false) in
    let there = size_plants c.args.rest.now c.plant_size-used.ensures c.if-used-eq0.false in
    let e = c.plant_in-next.ensures in
    record {
      used_value = rw (← c.plant_fault.ensures, eq-eqb _ _ (ok_number c.plant_fault.result (sym c.is_err.ensures.value ∙ c.if-is_err.false))) c.plant_size-used.ensures;
      passes = λ p W a carry M L. plant_there L W _ there c.front.ensures sound e.pair e.reads;
    }
