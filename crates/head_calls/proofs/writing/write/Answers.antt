-- Refusal 26 comes first, then 17, and both leave the buffer. Else what the code has to say, with the list beside it, is what the head has to say, and writing it is
-- the codec's.
use mathlib.Core.Path.{◌≡◌, refl, ap, sym, ◌∙◌}
use mathlib.Core.Bool.{Bool, true, false, cond}
use mathlib.Core.List.{List}
use Prim.Native.Nat.{ℕ, zero, suc}
use Rattle.terms.specs.Sizes.{is_listener}
use Rattle.frame_spec.specs.declared.Said.{Said}
use Rattle.frame_spec.specs.Length.{Written}
use Rattle.frame_spec.specs.Said.{listed, confessed, meant}
use Rattle.frame_spec.specs.Written.{frame_of, written, buffered}
use Rattle.head_spec.specs.declared.Head.{Head}
use Rattle.head_spec.specs.Calls.{spoken_in, spoken, frame_for, write_answer, write_buffer}
use Rattle.head_spec.proofs.Stops.{ended_writes, listener_writes}
use Rattle.head_calls.specs.Steps.{said_by}
use Rattle.head_calls.proofs.Answers.{runs_on}
use Rattle.head_calls.proofs.writing.write.Goals as goal

module _ (h : Head) {what : Said} (e : what ≡ said_by h.seat.round h.seat) where
  meant_spoken : meant what h.list ≡ spoken h
  unfolding spoken
  meant_spoken = rw e (go h.seat.round)
    where
      confesses : (b : Bool) → meant (cond b Said.Confession Said.List) h.list ≡ cond b confessed (listed h.list)
      confesses true = refl
      confesses false = refl

      go : (r : ℕ) → meant (said_by r h.seat) h.list ≡ spoken_in r h
      go zero = refl
      go (suc r) = confesses h.seat.healed

  abbrev frame : List ℕ
  frame = frame_of h.seat.n h.seat.number h.seat.phase (meant what h.list)

  same : frame ≡ frame_for h
  same = ap (frame_of h.seat.n h.seat.number h.seat.phase) meant_spoken

  writes : (buffer : List ℕ) {r : Written} {out : List ℕ} → h.seat.ended ≡ false → is_listener h.seat.number ≡ false
      → (r ≡ written frame buffer) × (out ≡ buffered frame buffer) → (r ≡ write_answer h buffer) × (out ≡ write_buffer h buffer)
  unfolding write_answer write_buffer
  writes buffer runs sends p = (
    p.0 ∙ ap (λ (s : List ℕ). written s buffer) same ∙ runs_on _ _ sends ∙ runs_on _ _ runs,
    p.1 ∙ ap (λ (s : List ℕ). buffered s buffer) same ∙ runs_on _ _ sends ∙ runs_on _ _ runs,
  )

pub returns-then-seat : goal.returns-then-seat
returns-then-seat c =
    let a = c.args in
    let e = ended_writes a.h c.if-seat.true a.buffer.now in
    record { answer = sym e.0; bytes = sym e.1 }

pub returns-then-is_listener : goal.returns-then-is_listener
returns-then-is_listener c =
    let a = c.args in
    let e = listener_writes a.h c.if-seat.false (sym c.is_listener.ensures ∙ c.if-is_listener.true) a.buffer.now in
    record { answer = sym e.0; bytes = sym e.1 }

pub returns : goal.returns
returns c =
    let a = c.args in
    let o = c.write.ensures in
    let w = writes a.h c.spoken.ensures a.buffer.now c.if-seat.false (sym c.is_listener.ensures ∙ c.if-is_listener.false) (o.answer, o.bytes) in
    record { answer = w.0; bytes = w.1 }
