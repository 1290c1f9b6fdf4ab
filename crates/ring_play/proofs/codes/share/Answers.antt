-- `ring_play::codes::share` meets its contract: the vote, the count and the check make what the shared lists show.
use Rattle.std.proofs.Common.{arith, rules}
use lib.ListN.{get_or-replicate}
use Rattle.ring_play.proofs.codes.Sharing.{shares_all}
use Rattle.ring_play.proofs.codes.share.Goals as goal

pub vote_all-count-requires : goal.vote_all-count-requires
vote_all-count-requires c = (search rules, λ j l. get_or-replicate 32 j 0 0 (omega arith))

pub tally_all-requires : goal.tally_all-requires
tally_all-requires c = (search rules, λ j l. get_or-replicate 32 j 0 0 (omega arith))

pub returns : goal.returns
returns c e =
    let r = c.args in
    let o = c.vote_all-count.new in
    shares_all r.n r.f r.struck r.links r.lists.now o.codes _ o.leads _ c.requires c.lists_needed-need.ensures c.if-need-struck.false
    c.vote_all-count.ensures.1 (c.are_alone.ensures c.if-not-are_alone.false) c.tally_all.ensures c.drop_confessed.ensures
