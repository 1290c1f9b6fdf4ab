-- `run_round::play_agreed` meets its contract: a ring that has agreed is as it was, and all places hold the position on which it did.
use Rattle.std.specs.Prelude.{None, Some}
use mathlib.Core.Path.{◌≡◌, refl, sym, ◌∙◌}
use mathlib.Core.Bool.{true, true≢false}
use Prim.Native.Nat.{◌≤◌}
use native.Mathlib.Omega.{arith}
use lib.IntN.{ℤ}
use Rattle.terms.specs.Entry.{Entry}
use Rattle.texts.proofs.Writing.{empty_text}
use Rattle.ring_spec.specs.Agreed.{is_agreed}
use Rattle.run_spec.proofs.Reached.{taken}
use Rattle.run_listing.proofs.Lowest.{found_first}
use Rattle.run_round.proofs.Rounds.{agreed_kept, kept_played}
use Rattle.run_round.proofs.play_agreed.Goals as goal

-- what is agreed is a position
agreed_position : (A : Entry) {P : Type 0} → is_agreed A ≡ true → ((u : ℤ) → A ≡ Some u → P) → P
agreed_position None e f = absurd (true≢false (sym e))
agreed_position (Some u) e f = f u refl

pub returns-then-not-ends_phase : goal.returns-then-not-ends_phase
returns-then-not-ends_phase c =
    let opens = sym c.ends_phase.ensures ∙ c.if-not-ends_phase.true in
    let room : c.empty.result.len ≤ 64 = omega (arith, c.empty.ensures) in
    record {
      by_index = λ a M begun pending T agreed H.
          kept_played (taken a begun) begun pending T H refl (agreed_kept (taken a begun) begun pending T H refl agreed) (rw opens (empty_text _ c.empty.ensures)) room;
      len_bound = room;
    }

pub returns : goal.returns
returns c =
    let x = c.args in
    let ends = sym c.ends_phase.ensures ∙ c.if-not-ends_phase.false in
    let line = c.line_with.ensures in
    record {
      by_index = λ a M begun pending T agreed H.
          let found = agreed_position _ (T.agreed ∙ agreed) (λ u is. found_first x.p.n x.p.listeners x.p.struck x.positions.now (H.level begun u is) c.first_sound-held.ensures) in
          kept_played (taken a begun) begun pending T H refl (agreed_kept (taken a begun) begun pending T H refl agreed) (line.result_value _ ends found) line.len_bound;
      len_bound = line.len_bound;
    }
