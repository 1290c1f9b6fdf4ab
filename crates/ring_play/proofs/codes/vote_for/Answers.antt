-- `ring_play::codes::vote_for` meets its contract: the codes of a list vote, which are its numbers if all are marked.
use Rattle.std.proofs.Common.{◌≡◌, true, sym, ◌∙◌}
use Rattle.marks.specs.Marks.{bit_of}
use Rattle.marks.proofs.Marks.{all_bits}
use Rattle.terms.specs.Counting.{Each}
use Rattle.ring_play.proofs.codes.vote_for.Goals as goal

pub returns-then-all_marked : goal.returns-then-all_marked
returns-then-all_marked c =
    let bits : Each c.args.n (λ j. bit_of c.args.marks j ≡ true) = λ j l. all_bits c.args.marks c.args.n j (sym c.all_marked.ensures ∙ c.if-all_marked.true) l in
    λ j l. rw (bits j l) (c.vote.ensures j l)
