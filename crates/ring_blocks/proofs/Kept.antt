-- Every call leaves a block: as many words as there were.
use mathlib.Core.Path.{◌≡◌, refl, ap, ◌∙◌}
use mathlib.Core.List.{List, [], ◌∷◌}
use Prim.Native.Nat.{ℕ, zero, suc}
use native.Mathlib.Omega.{arith}
use lib.ListN.{length, drop, length-append, length-drop, length-set, length-replicate}
use Rattle.terms.specs.Refusals.{leaves}
use Rattle.terms.specs.declared.Table.{Table}
use Rattle.head_spec.specs.declared.Seat.{Seat}
use Rattle.head_spec.specs.declared.Head.{Head}
use Rattle.head_spec.specs.declared.Answer.{Answer}
use Rattle.head_spec.specs.declared.Closed.{Closed}
use Rattle.head_spec.specs.Record.{no_links, opened}
use Rattle.head_spec.specs.Calls.{start, restart, start_listener, restart_listener, said_to, hear, Delivery, closed_collection, close, adopt}
use Rattle.head_spec.specs.Batch.{deliveries_of, batch_refusal}
use Rattle.head_spec.proofs.RoundClose as round
use Rattle.head_window.specs.declared.Registers.{Registers}
use Rattle.head_c.specs.Blocks.{IsBlock, head_of, with_head, with_answer, with_registers, offer_of, without_offer, with_closing, heard_in, heard_each}
use Rattle.head_c.specs.Events.{Call, starts, restarts, starts_listener, restarts_listener, hears, hears_batch, closes, adopts, sets, block_after}
use Rattle.head_c.proofs.Putting.{third, third_long}
use Rattle.head_c.proofs.Registers.{heard_block_lem}
use Rattle.ring_blocks.proofs.Opened.{Opens, start_opens, restart_opens, start_listener_opens, restart_listener_opens, adopt_opens}

-- a record with nothing heard
put_block : (w : List ℕ) (s : Seat) (t : Table) → IsBlock w → IsBlock (with_head (opened s t) w)
unfolding with_head no_links
put_block w s t block =
    let h = opened s t in
    let long = third_long h w block (length-replicate {A = ℕ} 32 0) in
    length-append (third h w) (drop 92 w) ∙ omega (arith, long, length-drop 92 w)

-- a collection round that is closed makes one
listed_opens : (h : Head) → (close h).closed ≡ Closed.Listed → (close h).head ≡ opened (close h).head.seat (close h).head.list
unfolding closed_collection
listed_opens h e = let z : (close h).head ≡ closed_collection h = (rw e at (round.closes h)).0 in rw z refl

module _ (w : List ℕ) (block : IsBlock w) where
  opened_block_lem : (h : Head) → h ≡ opened h.seat h.list → IsBlock (with_head h w)
  opened_block_lem h e = ap (λ (x : Head). length (with_head x w)) e ∙ put_block w h.seat h.list block

  called_block : (b : Registers) (a : Answer) → Opens a → IsBlock (without_offer a.refusal (with_registers b (with_answer w a)))
  unfolding with_answer
  called_block b a opens = ended a.refusal (with_registers b (leaves a.refusal (with_head a.head w) w))
      (simp length-set (go a.refusal refl))
    where
      ended : (c : ℕ) (x : List ℕ) → IsBlock x → IsBlock (without_offer c x)
      ended zero x e = simp length-set e
      ended (suc c) x e = e

      go : (c : ℕ) → a.refusal ≡ c → IsBlock (leaves c (with_head a.head w) w)
      go zero z = opened_block_lem a.head (opens z)
      go (suc c) z = block

  closing_block : (c : Closed) → (close (head_of w)).closed ≡ c → IsBlock (with_closing c (close (head_of w)).head w)
  closing_block (Closed.Refused c) e = block
  closing_block Closed.Listed e = opened_block_lem (close (head_of w)).head (listed_opens (head_of w) e)
  closing_block (Closed.Settled k) e = simp length-set block

each_block : (D : List Delivery) (w : List ℕ) → IsBlock w → IsBlock (heard_each w D)
unfolding heard_each
each_block [] w block = block
each_block (d ∷ D) w block = each_block D _ (go (hear (head_of w) d.link d.bytes).refusal)
  where
    go : (c : ℕ) → IsBlock (leaves c (heard_in w d.link (said_to (head_of w).seat d.link d.bytes)) w)
    go zero = heard_block_lem w block d.link _
    go (suc c) = block

pub block_after_lem : (w : List ℕ) → IsBlock w → (c : Call) → IsBlock (block_after w c)
unfolding block_after
block_after_lem w block (starts K n f i v) = called_block w block _ (start (head_of w) K n f i v) (start_opens (head_of w) K n f i v)
block_after_lem w block (restarts K n f i p r) = called_block w block _ (restart (head_of w) K n f i p r) (restart_opens (head_of w) K n f i p r)
block_after_lem w block (starts_listener K n f i) = called_block w block _ (start_listener (head_of w) K n f i)
    (start_listener_opens (head_of w) K n f i)
block_after_lem w block (restarts_listener K n f i p r) =
    called_block w block _ (restart_listener (head_of w) K n f i p r) (restart_listener_opens (head_of w) K n f i p r)
block_after_lem w block (hears k s) = go (hear (head_of w) k s).refusal
  where
    go : (c : ℕ) → IsBlock (leaves c (heard_in w k (said_to (head_of w).seat k s)) w)
    go zero = heard_block_lem w block k _
    go (suc c) = block
block_after_lem w block (hears_batch s room) = go (batch_refusal s room)
  where
    go : (c : ℕ) → IsBlock (leaves c (heard_each w (deliveries_of s)) w)
    go zero = each_block (deliveries_of s) w block
    go (suc c) = block
block_after_lem w block closes = simp length-set (closing_block w block (close (head_of w)).closed refl)
block_after_lem w block adopts = called_block w block _ (adopt (head_of w) (offer_of w)) (adopt_opens (head_of w) (offer_of w))
block_after_lem w block (sets at x) = simp length-set block
