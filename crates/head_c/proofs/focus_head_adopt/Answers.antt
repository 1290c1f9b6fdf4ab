-- Refusal 27 comes first, then 26; else the phase ends with what was offered.
use Rattle.std.specs.Prelude.{Some}
use mathlib.Core.Path.{◌≡◌, ap, sym, ◌∙◌}
use mathlib.Core.Logic.{◌≢◌}
use mathlib.Core.Bool.{false}
use mathlib.Core.List.{List}
use Prim.Native.Nat.{ℕ}
use native.Mathlib.Omega.{arith}
use Rattle.settle_midpoint.specs.declared.Kept.{Kept}
use Rattle.head_spec.specs.declared.Seat.{Seat}
use Rattle.head_spec.specs.declared.Answer.{Answer}
use Rattle.head_spec.specs.Kept.{Offer}
use Rattle.head_spec.specs.Record.{no_entries, opened}
use Rattle.head_spec.specs.Seats.{next_seat}
use Rattle.head_spec.specs.Calls.{closed_phase, adopt}
use Rattle.head_spec.proofs.Stops.{takes, adopts_nothing, adopts_offer, ended_adopts}
use Rattle.head_window.specs.declared.Registers.{Registers}
use Rattle.head_window.specs.Window.{adopted_registers}
use Rattle.head_c.specs.Blocks.{head_of, registers_of, with_registers, with_head, with_answer, offer_of, without_offer}
use Rattle.head_c.specs.Events.{adopts, block_after}
use Rattle.head_c.proofs.Refused.{refused_leaves}
use Rattle.head_c.proofs.focus_head_adopt.Goals as goal

-- refused: the number is c, and the block is as it was
refused : (w : List ℕ) (c : ℕ) → (adopt (head_of w) (offer_of w)).refusal ≡ c → c ≢ 0 → c ≢ 25
    → (c ≡ (adopt (head_of w) (offer_of w)).refusal) × (w ≡ block_after w adopts)
refused w c e d t = (sym e, sym ((refused_leaves w adopts (λ z. d (sym e ∙ z))).1 (λ z. t (sym e ∙ z))))

-- taken: the record is opened in the next seat
taken : (w : List ℕ) (k : Kept) {s : Seat} {b : Registers} {w' : List ℕ} → offer_of w ≡ Some k → (head_of w).seat.ended ≡ false
    → s ≡ next_seat (head_of w).seat k → b ≡ adopted_registers 0 (registers_of w)
    → w' ≡ without_offer 0 (with_registers b (with_head (opened s no_entries) w)) → (0 ≡ (adopt (head_of w) (offer_of w)).refusal) × (w' ≡ block_after w adopts)
unfolding block_after with_answer closed_phase
taken w k {s} {b} e runs p q r =
    let a : adopt (head_of w) (offer_of w) ≡ takes (closed_phase (head_of w) k) = ap (adopt (head_of w)) e ∙ adopts_offer (head_of w) k runs in (
      sym (ap (λ (x : Answer). x.refusal) a),
      r
          ∙ (λ i. without_offer 0 (with_registers (q i) (with_head (opened (p i) no_entries) w)))
          ∙ sym (ap (λ (x : Answer). without_offer x.refusal (with_registers (adopted_registers x.refusal (registers_of w)) (with_answer w x))) a),
    )

pub returns-then-seat : goal.returns-then-seat
unfolding head_of
returns-then-seat c =
    let w = c.args.h.now in
    let o = sym c.offer_in.ensures ∙ c.in-Some.is in
    let over = ap (λ (x : Seat). x.ended) (sym c.seat_in-seat.ensures) ∙ c.if-seat.true in
    rw c.number-then-seat.ensures (refused w 26 (ap (λ (x : Offer). (adopt (head_of w) x).refusal) o ∙ ap (λ (x : Answer). x.refusal) (ended_adopts (head_of w) over _)) (omega arith) (omega arith))

pub returns-in-None : goal.returns-in-None
returns-in-None c =
    let w = c.args.h.now in
    let o = sym c.offer_in.ensures ∙ c.in-None.is in
    rw c.number.ensures (refused w 27 (ap (λ (x : Offer). (adopt (head_of w) x).refusal) o ∙ ap (λ (x : Answer). x.refusal) (adopts_nothing (head_of w))) (omega arith) (omega arith))

pub returns-else-seat : goal.returns-else-seat
unfolding head_of
returns-else-seat c =
    let w = c.args.h.now in
    let o = sym c.offer_in.ensures ∙ c.in-Some.is in
    let s = c.seat_in-seat.ensures in
    let runs = ap (λ (x : Seat). x.ended) (sym s) ∙ c.if-seat.false in
    let k = c.in-Some.kept in
    taken w k o runs (c.next_seat.ensures ∙ ap (λ (x : Seat). next_seat x k) s) (c.after_adopt-b.ensures ∙ ap (adopted_registers 0) c.registers_in.ensures)
    c.put_fresh.ensures
