-- `run_listing::level` meets its contract: the lowest and the highest are found, and they are one position or not.
use borrow.Author.Rules.{rules}
use Rattle.run_listing.proofs.OneHeld.{unlevelled, two_positions, one_position}
use Rattle.run_listing.proofs.level.Goals as goal

pub returns-in_default : goal.returns-in_default
returns-in_default c =
    let (is, becomes) = unlevelled c.extremes_of-extremes.ensures (rw c.in_default.is) in record { is = is; becomes = becomes }

pub returns-in_default-high : goal.returns-in_default-high
returns-in_default-high c =
    let (is, becomes) = unlevelled c.extremes_of-extremes.ensures (rw (c.in-Some.is, c.in_default-high.is)) in
    record { is = is; becomes = becomes }

pub returns-then-a-b : goal.returns-then-a-b
returns-then-a-b c =
    let (is, becomes) = two_positions c.extremes_of-extremes.ensures c.in-Some.is c.in-Some-high.is c.if-a-b.true in
    record { is = is; becomes = becomes }

pub returns : goal.returns
returns c =
    let (is, becomes) = one_position c.extremes_of-extremes.ensures c.in-Some.is c.in-Some-high.is c.args.positions.now (search rules) (search rules) c.if-a-b.false in
    record { is = is; becomes = becomes }
