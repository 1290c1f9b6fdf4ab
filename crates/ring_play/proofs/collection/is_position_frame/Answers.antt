-- `ring_play::collection::is_position_frame` meets its contract: the first field that differs answers no.
use Rattle.std.proofs.Common.{ℕ, eqb, length, sym, refl, ap, ◌∙◌, eq-eqb, ne_eqb}
use mathlib.Core.Bool.{and-false}
use Rattle.fields.specs.Bytes.{at2}
use Rattle.frame_check.specs.Check.{length_field, sender_field}
use Rattle.ring_play.specs.Inner.Collection.{is_position_frame}
use Rattle.ring_play.proofs.collection.is_position_frame.Goals as goal

pub returns-then-frame-ne11 : goal.returns-then-frame-ne11
unfolding is_position_frame
returns-then-frame-ne11 c = rw (ne_eqb (length c.args.frame.now) 11 c.if-frame-ne11.true) refl

pub returns-then-half_at-ne11 : goal.returns-then-half_at-ne11
unfolding is_position_frame
returns-then-half_at-ne11 c =
    let s = c.args.frame.now in
    rw (ne_eqb (length_field s) 11 (λ e. c.if-half_at-ne11.true (c.half_at.ensures ∙ e)), and-false (eqb (length s) 11)) refl

pub returns-then-half_at : goal.returns-then-half_at
unfolding is_position_frame
returns-then-half_at c =
    let s = c.args.frame.now in
    rw (ne_eqb (at2 s 2) 1 (λ e. c.if-half_at.true (c.half_at-2.ensures ∙ e)), and-false (eqb (length_field s) 11), and-false (eqb (length s) 11)) refl

pub returns-then-byte_at-k : goal.returns-then-byte_at-k
unfolding is_position_frame
returns-then-byte_at-k c =
    let a = c.args in
    let s = a.frame.now in
    rw (
      ne_eqb (sender_field s) a.k (λ e. c.if-byte_at-k.true (c.byte_at.ensures ∙ e)),
      and-false (eqb (at2 s 2) 1),
      and-false (eqb (length_field s) 11),
      and-false (eqb (length s) 11),
    )
    refl

pub returns : goal.returns
unfolding is_position_frame
returns c =
    let a = c.args in
    let s = a.frame.now in
    rw (
      eq-eqb (length s) 11 c.if-frame-ne11.false,
      eq-eqb (length_field s) 11 (sym c.half_at.ensures ∙ c.if-half_at-ne11.false),
      eq-eqb (at2 s 2) 1 (sym c.half_at-2.ensures ∙ c.if-half_at.false),
      eq-eqb (sender_field s) a.k (sym c.byte_at.ensures ∙ c.if-byte_at-k.false),
    )
    (ap (λ (x : ℕ). eqb x a.phase) c.half_at-3.ensures)
