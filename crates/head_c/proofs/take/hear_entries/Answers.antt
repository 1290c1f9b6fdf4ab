-- Frame after frame: the record that the block is hears and answers them, and the block takes what hearing them changes.
use mathlib.Core.Path.{◌≡◌, refl, ap, sym, ◌∙◌}
use mathlib.Core.List.{List, [], ◌∷◌}
use Prim.Native.Nat.{ℕ}
use native.Mathlib.Omega.{arith}
use lib.ListN.{get_or}
use Rattle.terms.specs.Refusals.{leaves}
use Rattle.head_spec.specs.Calls.{said_to, hear, Delivery}
use Rattle.head_spec.specs.Batch.{deliveries_of, cut_into}
use Rattle.head_spec.proofs.Batches.{nothing_left}
use Rattle.head_spec.proofs.BatchLoop.{begins, ends, cut, fits, goes_on}
use Rattle.head_c.specs.Blocks.{head_of, heard_in, Hears, heard_each}
use Rattle.head_c.proofs.take.hear_entries.Goals as goal

-- one frame more
each_next : {w w' s : List ℕ} {k r : ℕ} (D : List Delivery) → Hears w k s r w' → heard_each w (record { link = k; bytes = s } ∷ D) ≡ heard_each w' D
unfolding heard_each
each_next {w} {w'} {s} {k} D H =
    ap (λ (v : List ℕ). heard_each v D) (sym (H.block ∙ ap (λ (c : ℕ). leaves c (heard_in w k (said_to (head_of w).seat k s)) w) H.refusal))

pub loop-rest-init : goal.loop-rest-init
loop-rest-init c = let p = c.requires in (begins p.1 p.2, record { block = p.0; each = refl })

pub overflow_sub-entry_size : goal.overflow_sub-entry_size
overflow_sub-entry_size c = omega (arith, fits c.loop-rest.invariant.0 c.in-len1-up.len_at_least c.entry_size.ensures)

pub bounds-answers-i : goal.bounds-answers-i
bounds-answers-i c = omega (arith, fits c.loop-rest.invariant.0 c.in-len1-up.len_at_least c.entry_size.ensures)

pub loop-rest-preserved : goal.loop-rest-preserved
loop-rest-preserved c =
    let l = c.loop-rest in
    let G = l.invariant.0 in
    let some = c.in-len1-up.len_at_least in
    let size = c.entry_size.ensures in
    let front = c.split_at.ensures.front in
    let back = c.split_at.ensures.back in
    let H = c.hear.ensures in
    let heard : record { refusal = c.hear.result; head = head_of c.hear.new.h } ≡ hear (head_of l.h) (get_or l.rest.now 0 0) c.split_at.result.0.now
    = rw (H.refusal, H.head) in (
      goes_on G some size front back heard,
      record {
        block = c.hear.auto.h ∙ l.invariant.1.block;
        each = sym (each_next (deliveries_of c.split_at.result.1.now) H) ∙ sym (ap (heard_each l.h) (cut G some size front back)) ∙ l.invariant.1.each;
      },
    )

pub returns : goal.returns
unfolding cut_into heard_each
returns c =
    let l = c.loop-rest in
    let none : l.rest.now ≡ [] = nothing_left l.rest.now (omega arith) in
    let (head, answers) = ends l.invariant.0 none in
    (rw none at l.invariant.1.each, head, answers)
