-- The call of the record decides what it does.
use mathlib.Core.Path.{◌≡◌, ap, sym, ◌∙◌}
use mathlib.Core.List.{List}
use Prim.Native.Nat.{ℕ, ◌≤◌, ◌<◌}
use native.Mathlib.Omega.{arith}
use lib.ListN.{length, get_or, drop}
use lib.Seq.{length-take-le}
use borrow.Author.Tests.{le-ltb, ne_eqb}
use Rattle.fields.specs.Bytes.{at4, signed_at}
use Rattle.head_spec.specs.declared.Head.{Head}
use Rattle.head_spec.specs.declared.Answer.{Answer}
use Rattle.head_spec.specs.Kept.{Offer}
use Rattle.head_spec.specs.Calls.{start, restart, start_listener, restart_listener, hear, adopt}
use Rattle.headplay.specs.declared.Call.{Call}
use Rattle.headplay.specs.declared.Outcome.{Outcome}
use Rattle.headplay.specs.Calls.{call_number}
use Rattle.headplay.specs.Script.{answered, family_at, opening, batched, write_outcome, closed, turn_of, turn}
use Rattle.headplay.proofs.turn.Goals as goal

module _ (s : List ℕ) (h : Head) (o : Offer) where
  -- the record's call is k
  abbrev Is : Call → Type 0
  Is k = get_or s 2 0 ≡ call_number k

  is_start : {a : Answer} → Is Call.Start → a ≡ start h (family_at s) (at4 s 3) (at4 s 7) (at4 s 11) (signed_at s 15) → answered a o ≡ turn s h o
  unfolding turn_of opening
  is_start z p = rw (p, z)

  is_restart : {a : Answer} → Is Call.Restart → a ≡ restart h (family_at s) (at4 s 3) (at4 s 7) (at4 s 11) (at4 s 15) (at4 s 19) → answered a o ≡ turn s h o
  unfolding turn_of opening
  is_restart z p = rw (p, z)

  is_start_listener : {a : Answer} → Is Call.StartListener → a ≡ start_listener h (family_at s) (at4 s 3) (at4 s 7) (at4 s 11) → answered a o ≡ turn s h o
  unfolding turn_of opening
  is_start_listener z p = rw (p, z)

  is_restart_listener : {a : Answer} → Is Call.RestartListener → a ≡ restart_listener h (family_at s) (at4 s 3) (at4 s 7) (at4 s 11) (at4 s 15) (at4 s 19)
      → answered a o ≡ turn s h o
  unfolding turn_of opening
  is_restart_listener z p = rw (p, z)

  is_hearing : {k : ℕ} {f : List ℕ} {a : Answer} → Is Call.Hear → k ≡ at4 s 3 → f ≡ drop 7 s → a ≡ hear h k f → answered a o ≡ turn s h o
  unfolding turn_of
  is_hearing z d e p = rw (p, d, e, z)

  is_batch_lem : {b : List ℕ} {n : ℕ} → Is Call.HearBatch → b ≡ drop 4 s → n ≡ get_or s 3 0 → batched h b n o ≡ turn s h o
  unfolding turn_of
  is_batch_lem z d e = rw (d, e, z)

  is_writing : {n : ℕ} → Is Call.Write → n ≡ get_or s 3 0 → write_outcome h n o ≡ turn s h o
  unfolding turn_of
  is_writing z e = rw (e, z)

  is_closing : Is Call.Close → closed h o ≡ turn s h o
  unfolding turn_of
  is_closing z = rw z

  is_adopting : {a : Answer} → Is Call.Adopt → a ≡ adopt h o → answered a o ≡ turn s h o
  unfolding turn_of
  is_adopting z p = rw (p, z)

  is_look : {c : ℕ} → c ≡ get_or s 2 0 → 8 < c → ◌≡◌ {A = Outcome} (record { number = 0; head = h; offer = o }) (turn s h o)
  unfolding turn_of
  is_look {c} e l =
      rw (← e, le-ltb c 4 (omega arith), ne_eqb c 4 (omega arith), ne_eqb c 5 (omega arith), ne_eqb c 6 (omega arith), ne_eqb c 7 (omega arith), ne_eqb c 8 (omega arith))

-- the call that a number names
reads : {k k' : Call} {n b : ℕ} → k ≡ k' → call_number k ≡ n → n ≡ b → b ≡ call_number k'
reads p q e = sym (ap call_number (sym p) ∙ q ∙ e)

-- the room is there
roomy : (n : ℕ) (l : List ℕ) → n < 256 → 4096 ≡ length l → n ≤ length l
roomy n l a b = omega arith

pub returns-in-Ok-Start : goal.returns-in-Ok-Start
returns-in-Ok-Start c =
    let i = c.in-Ok-Start in
    c.answered.ensures ∙ is_start c.args.s.now _ _ (reads i.field-0-is i.ensures c.byte_at.ensures) c.start.ensures

pub returns-in-Ok-Restart : goal.returns-in-Ok-Restart
returns-in-Ok-Restart c =
    let i = c.in-Ok-Restart in
    c.answered-in-Ok-Restart.ensures ∙ is_restart c.args.s.now _ _ (reads i.field-0-is i.ensures c.byte_at.ensures) c.restart.ensures

pub returns-in-Ok-StartListener : goal.returns-in-Ok-StartListener
returns-in-Ok-StartListener c =
    let i = c.in-Ok-StartListener in
    c.answered-in-Ok-StartListener.ensures
    ∙ is_start_listener c.args.s.now _ _ (reads i.field-0-is i.ensures c.byte_at.ensures) c.start_listener.ensures

pub returns-in-Ok-RestartListener : goal.returns-in-Ok-RestartListener
returns-in-Ok-RestartListener c =
    let i = c.in-Ok-RestartListener in
    c.answered-in-Ok-RestartListener.ensures
    ∙ is_restart_listener c.args.s.now _ _ (reads i.field-0-is i.ensures c.byte_at.ensures) c.restart_listener.ensures

pub returns-in-Ok-Hear : goal.returns-in-Ok-Hear
returns-in-Ok-Hear c =
    let i = c.in-Ok-Hear in
    c.answered-in-Ok-Hear.ensures
    ∙ is_hearing c.args.s.now _ _ (reads i.field-0-is i.ensures c.byte_at.ensures) c.word_at.ensures c.bytes_from.ensures c.hear.ensures

pub returns-in-Ok-HearBatch : goal.returns-in-Ok-HearBatch
returns-in-Ok-HearBatch c =
    let i = c.in-Ok-HearBatch in
    c.batched.ensures
    ∙ is_batch_lem c.args.s.now _ _ (reads i.field-0-is i.ensures c.byte_at.ensures) c.bytes_from-in-Ok-HearBatch.ensures
    (length-take-le _ _ (roomy _ c.buffer-space.result c.byte_at-room.type_inv c.buffer-space.ensures) ∙ c.byte_at-room.ensures)

pub returns-in-Ok-Write : goal.returns-in-Ok-Write
returns-in-Ok-Write c =
    let i = c.in-Ok-Write in
    c.written.ensures
    ∙ is_writing c.args.s.now _ _ (reads i.field-0-is i.ensures c.byte_at.ensures)
    (length-take-le _ _ (roomy _ c.buffer-space.result c.byte_at-room.type_inv c.buffer-space.ensures) ∙ c.byte_at-room.ensures)

pub returns-in-Ok-Close : goal.returns-in-Ok-Close
returns-in-Ok-Close c =
    let i = c.in-Ok-Close in
    c.closed.ensures ∙ is_closing c.args.s.now _ _ (reads i.field-0-is i.ensures c.byte_at.ensures)

pub returns-in-Ok-Adopt : goal.returns-in-Ok-Adopt
returns-in-Ok-Adopt c =
    let i = c.in-Ok-Adopt in
    c.answered-in-Ok-Adopt.ensures ∙ is_adopting c.args.s.now _ _ (reads i.field-0-is i.ensures c.byte_at.ensures) c.adopt.ensures

pub returns-in-Err : goal.returns-in-Err
returns-in-Err c = is_look c.args.s.now _ _ c.byte_at.ensures c.in-Err.ensures
