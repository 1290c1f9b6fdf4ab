-- `run_listing::first_sound` meets its contract: `find` answers the first receiver that is sound.
use Rattle.std.proofs.Common.{Some, None, ◌≡◌, true, false, sym, arith, rules}
use Rattle.std.proofs.lemmas.Iterator.{first_from_Range}
use borrow.Author.Tests.{not-true, not-false}
use mir.Facts.{to_z-of_z}
use mir.Syntax.{w32}
use Rattle.ring_spec.specs.Rounds.{is_out}
use Rattle.run_listing.proofs.Lowest.{first_of_none, first_sound_lem}
use Rattle.run_listing.proofs.first_sound.Goals as goal

pub bounds-positions-first : goal.bounds-positions-first
bounds-positions-first c =
    let a = c.args in
    let f = first_from_Range _ _ _ (Some c.in-Some.first) (λ j. is_out a.n a.m a.struck j ≡ false) (λ j. is_out a.n a.m a.struck j ≡ true) c.in-Some.ensures.ran
    (λ x q k. not-true _ (search rules)) (λ x q k. (search rules, not-false _ (search rules))) in
    f.1

pub returns-in-Some : goal.returns-in-Some
returns-in-Some c =
    let a = c.args in
    let f = first_from_Range _ _ _ (Some c.in-Some.first) (λ j. is_out a.n a.m a.struck j ≡ false) (λ j. is_out a.n a.m a.struck j ≡ true) c.in-Some.ensures.ran
    (λ x q k. not-true _ (search rules)) (λ x q k. (search rules, not-false _ (search rules))) in
    first_sound_lem a.n a.m a.struck a.positions.now c.in-Some.first (first_of_none a.n a.m a.struck a.positions.now c.in-Some.first (λ i l. f.3 i (omega arith) l)) f.1 f.2
    (to_z-of_z {w = w32} (search rules))

pub returns-in-None : goal.returns-in-None
returns-in-None c =
    let a = c.args in
    let f = first_from_Range _ _ _ None (λ j. is_out a.n a.m a.struck j ≡ false) (λ j. is_out a.n a.m a.struck j ≡ true) c.in-None.ensures.ran
    (λ x q k. not-true _ (search rules)) (λ x q k. (search rules, not-false _ (search rules))) in
    sym (first_of_none a.n a.m a.struck a.positions.now 48 (λ i l. f i (omega arith) l))
