-- `ring_play::confession::confess` meets its contract: what the unstruck heads say is heard as it is, so each receiver that is not struck settles from their lists and
-- from what is planted to it.
use Rattle.std.proofs.Common.{◌≡◌, ℕ, cond, List, length, get_or, ℤ, pos, ap, ◌∙◌, rules}
use Rattle.settle_trust.specs.declared.Links.{Links}
use Rattle.settle_trust.specs.Received.{given_by}
use Rattle.ring_play.specs.declared.Stage.{Stage}
use Rattle.ring_play.specs.Memory.{settles, new_position}
use Rattle.ring_play.specs.Inner.Planted.{given_or_planted, position_settled}
use Rattle.frame_slots.specs.Slots.{planted_in}
use Rattle.ring_play.proofs.round.Frames.{phase_small}
use Rattle.ring_play.specs.Inner.Confession.{given_alike}
use Rattle.ring_play.proofs.confession.Honest.{own_given, own_untold}
use Rattle.ring_play.proofs.confession.Settling.{alike_given, new_settled}
use Rattle.ring_play.proofs.confession.confess.Goals as goal

new_is : (s : Stage) (marks : List ℕ) (lists : List (List ℤ)) (g : Links) → ((k : ℕ) → given_by g lists k ≡ given_alike s marks lists k) → (plant : ℕ → ℕ → List ℕ) (i : ℕ) (v : ℤ)
    → cond (settles s i) (position_settled s (given_or_planted s (given_by g lists) plant i)) v ≡ cond (settles s i) (new_position s marks lists plant i) v
new_is s marks lists g own plant i v = ap (λ (x : ℤ). cond (settles s i) x v) (new_settled s marks lists g lists own plant i)

-- no head is struck
pub returns-then-s-eq0 : goal.returns-then-s-eq0
returns-then-s-eq0 c fit i =
    let a = c.args in
    let plant = planted_in a.planted.now a.lengths.now in
    let own = own_given a.s (phase_small a.s c.well_formed.0) a.marks.now a.lists.now c.links_of-links.result c.links_of-links.ensures fit in
    c.settle_quiet.ensures c.if-s-eq0.true plant i ∙ new_is a.s a.marks.now a.lists.now c.links_of-links.result own plant i (get_or a.positions.now i (pos 0))

pub returns-then-settle_all : goal.returns-then-settle_all
returns-then-settle_all c fit i =
    let a = c.args in
    let own = own_given a.s (phase_small a.s c.well_formed.0) a.marks.now a.lists.now c.links_of-links.result c.links_of-links.ensures fit in
    c.settle_all.ensures.settles c.if-settle_all.true (alike_given a.s a.marks.now a.lists.now c.links_of-links.result a.lists.now own) i
    ∙ new_is a.s a.marks.now a.lists.now c.links_of-links.result own (planted_in a.planted.now a.lengths.now) i (get_or a.positions.now i (pos 0))

pub fill_each-requires : goal.fill_each-requires
fill_each-requires c =
    let a = c.args in
    let links = c.links_of-links.result in
    let m : length links.marks ≡ 32 = search rules in
    let r : length a.lists.now ≡ 32 = search rules in
    own_untold a.s a.marks.now a.lists.now links c.links_of-links.ensures m r

pub returns : goal.returns
returns c fit i =
    let a = c.args in
    let own = own_given a.s (phase_small a.s c.well_formed.0) a.marks.now a.lists.now c.links_of-links.result c.links_of-links.ensures fit in
    c.fill_each.ensures i
    ∙ rw (c.settle_all.ensures.stays c.if-settle_all.false)
    (new_is a.s a.marks.now a.lists.now c.links_of-links.result own (planted_in a.planted.now a.lengths.now) i (get_or a.positions.now i (pos 0)))
