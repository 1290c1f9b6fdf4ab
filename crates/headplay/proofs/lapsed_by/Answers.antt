-- Answer after answer, from the offer on: this is what `lapsed_by` says.
use Rattle.std.proofs.Common.{◌≡◌, refl, ◌∙◌, sym, ap, ℕ, List, [], ◌∷◌, ◌++◌, rules}
use Rattle.std.proofs.lemmas.Fn.{fold_over, fronts}
use Rattle.std.proofs.lemmas.Iterator.{YieldsList-from_slice}
use Rattle.head_spec.specs.Kept.{Offer}
use Rattle.head_spec.specs.Offers.{lapsed, lapsed_by}
use Rattle.headplay.proofs.lapsed_by.Goals as goal

one_more : (cs : List ℕ) (n : ℕ) (o : Offer) → lapsed_by (cs ++ (n ∷ [])) o ≡ lapsed n (lapsed_by cs o)
unfolding lapsed_by
one_more [] n o = refl
one_more (c ∷ cs) n o = one_more cs n (lapsed c o)

none : (o : Offer) → o ≡ lapsed_by [] o
unfolding lapsed_by
none o = refl

pub returns : goal.returns
returns c =
    fold_over fronts (λ y. y.now) _ (λ cs o. o ≡ lapsed_by cs c.args.offer) _
    (λ cs a n b f' h k.
    (let e : b ≡ lapsed n.now a = search rules in e ∙ ap (lapsed n.now) h ∙ sym (one_more cs n.now c.args.offer), search rules))
    _ c.args.answers.now c.args.offer c.fold.result (YieldsList-from_slice c.args.answers.now c.iter.ensures.rest).runs (none c.args.offer) c.fold.ensures.ran
