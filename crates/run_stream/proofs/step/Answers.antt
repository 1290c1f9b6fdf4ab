-- `run_stream::step` meets its contract: planted records show nothing; if there are none, the state is as it was.
use Rattle.texts.proofs.Writing.{empty_text}
use Rattle.run_state.specs.Memory.{memory_lent}
use Rattle.run_piece.proofs.Feeding.{used_as}
use Rattle.run_stream.proofs.Pieces.{none_then}
use Rattle.run_stream.proofs.step.Goals as goal

pub returns-then-used-ne0-clause-reads : goal.returns-then-used-ne0-clause-reads
returns-then-used-ne0-clause-reads c =
    let a = c.args in
    let Q = c.quiet.ensures in
    λ b L.
    used_as a.bytes.now Q.used
    (rw (Q.player, empty_text c.quiet.result.text Q.none)
    (c.pass_plants-passed.ensures.passes b _ (memory_lent a.positions.now a.marks.now a.lists.now a.planted.now a.lengths.now) L))

pub returns-clause-reads : goal.returns-clause-reads
returns-clause-reads c =
    let a = c.args in
    λ b L.
    none_then a.bytes.now c.if-used-ne0.false
    (c.pass_plants-passed.ensures.passes b _ (memory_lent a.positions.now a.marks.now a.lists.now a.planted.now a.lengths.now) L) (λ K. c.advance.ensures.reads b K)
