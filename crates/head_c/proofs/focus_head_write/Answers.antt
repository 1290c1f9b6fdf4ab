-- What a head writes depends on its seat and its list alone.
use Rattle.std.specs.Prelude.{Err}
use mathlib.Core.Path.{◌≡◌, refl, ap, ◌∙◌}
use mathlib.Core.Bool.{cond}
use mathlib.Core.List.{List}
use Prim.Native.Nat.{ℕ, zero, suc}
use Rattle.terms.specs.Refusals as refusal
use Rattle.terms.specs.Sizes.{is_listener}
use Rattle.frame_spec.specs.Said.{Meaning}
use Rattle.frame_spec.specs.Written.{frame_of, written, buffered}
use Rattle.frame_spec.specs.Length.{Written}
use Rattle.head_spec.specs.declared.Head.{Head}
use Rattle.head_spec.specs.Calls.{spoken_in, spoken, write_answer, write_buffer}
use Rattle.head_lent.specs.Answers.{written_number, written_or}
use Rattle.head_c.specs.Blocks.{head_of}
use Rattle.head_c.specs.Steps.{bare}
use Rattle.head_c.proofs.focus_head_write.Goals as goal

module _ (h : Head) (buffer : List ℕ) where
  abbrev seated : Head
  seated = bare h

  frame : Meaning → List ℕ
  frame m = frame_of h.seat.n h.seat.number h.seat.phase m

  same_spoken : spoken seated ≡ spoken h
  unfolding spoken
  same_spoken = go h.seat.round
    where
      go : (r : ℕ) → spoken_in r seated ≡ spoken_in r h
      go zero = refl
      go (suc r) = refl

  same_answer : write_answer seated buffer ≡ write_answer h buffer
  unfolding write_answer frame
  same_answer =
      ap
      (λ (m : Meaning). cond h.seat.ended (Err refusal.run_has_ended)
      (cond (is_listener h.seat.number) (Err refusal.listener_sends_nothing) (written (frame m) buffer))) same_spoken

  same_buffer : write_buffer seated buffer ≡ write_buffer h buffer
  unfolding write_buffer frame
  same_buffer = ap (λ (m : Meaning). cond h.seat.ended buffer (cond (is_listener h.seat.number) buffer (buffered (frame m) buffer))) same_spoken

  as_written : {x : Head} {r len : ℕ} {out : List ℕ} (old : ℕ) → x ≡ seated
      → (r ≡ written_number (write_answer x buffer)) × (out ≡ write_buffer x buffer) × (len ≡ written_or (write_answer x buffer) old)
      → (r ≡ written_number (write_answer h buffer)) × (out ≡ write_buffer h buffer) × (len ≡ written_or (write_answer h buffer) old)
  as_written old e p =
      let a = ap (λ (y : Head). write_answer y buffer) e ∙ same_answer in
      let b = ap (λ (y : Head). write_buffer y buffer) e ∙ same_buffer in
      (p.0 ∙ ap written_number a, p.1 ∙ b, p.2 ∙ ap (λ (y : Written). written_or y old) a)

pub returns : goal.returns
returns c =
    let a = c.args in
    as_written (head_of a.h.now) a.buffer.now a.length.now c.bare_in.ensures c.written.ensures
