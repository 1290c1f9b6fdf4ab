-- The answers at the front are those to the frames that were heard; if the call is refused there are none, and the offer stands.
use mathlib.Core.Path.{◌≡◌, refl}
use mathlib.Core.List.{List, ◌++◌}
use Prim.Native.Nat.{ℕ, zero, suc}
use lib.ListN.{length, take, drop}
use lib.Seq.{take_at}
use Rattle.terms.specs.Refusals.{leaves}
use Rattle.head_spec.specs.declared.Head.{Head}
use Rattle.head_spec.specs.declared.Answer.{Answer}
use Rattle.head_spec.specs.Kept.{Offer}
use Rattle.head_spec.specs.Batch.{hear_batch, batch_refusal, batch_answers, batch_count, deliveries_of}
use Rattle.head_spec.specs.Calls.{Delivery, answers_to}
use Rattle.head_spec.specs.Offers.{lapsed_by}
use Rattle.head_spec.proofs.Batches.{answers_count}
use Rattle.headplay.specs.declared.Outcome.{Outcome}
use Rattle.headplay.specs.Script.{batched}
use Rattle.headplay.proofs.batched.Goals as goal

module _ (h : Head) (b a : List ℕ) (o : Offer) where
  lapses : lapsed_by (take (batch_count b (length a) 0) (batch_answers h b a)) o ≡ leaves (batch_refusal b (length a)) (lapsed_by (answers_to h (deliveries_of b)) o) o
  unfolding batch_count batch_answers lapsed_by
  lapses = go (batch_refusal b (length a))
    where
      D : List Delivery
      D = deliveries_of b

      go : (c : ℕ) → lapsed_by (take (leaves c (length D) 0) (leaves c (answers_to h D ++ drop (length D) a) a)) o ≡ leaves c (lapsed_by (answers_to h D) o) o
      go zero = rw (take_at (answers_to h D) (drop (length D) a) (length D) (answers_count D h))
      go (suc c) = refl

  is_batched : {r : Answer} {a' given : List ℕ} {len : ℕ} {q : Offer} → r ≡ hear_batch h b (length a) → a' ≡ batch_answers h b a → len ≡ batch_count b (length a) 0
      → given ≡ take len a' → q ≡ lapsed_by given o → ◌≡◌ {A = Outcome} (record { number = r.refusal; head = r.head; offer = q }) (batched h b (length a) o)
  unfolding batched
  is_batched d e f g i = rw (i, g, f, e, d, lapses)

pub returns : goal.returns
returns c =
    let e = c.hear_batch-a.ensures in
    is_batched _ _ _ _ e.0 e.1 e.2 c.front-given.ensures c.lapsed_by.ensures
