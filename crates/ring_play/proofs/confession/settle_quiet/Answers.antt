-- `ring_play::confession::settle_quiet` meets its contract: if no head is struck, what is planted is heard by no one.
use Rattle.std.proofs.Common.{◌≡◌, ℕ, Bool, false, cond, ◌&&◌, ltb, List, get_or, ℤ, pos, refl, ap, ◌∙◌, to_z-of_z, w32}
use mathlib.Core.Path.{fun_ext}
use mathlib.Core.Bool.{and-false}
use Rattle.marks.specs.Marks.{bit_of}
use Rattle.marks.proofs.Marks.{bit_none}
use Rattle.convergence.specs.Trust.{Given}
use Rattle.settle_trust.specs.Received.{given_by}
use Rattle.ring_play.specs.declared.Stage.{Stage}
use Rattle.ring_play.specs.Memory.{heads, settles}
use Rattle.ring_play.specs.Inner.Planted.{given_or_planted, position_settled}
use Rattle.ring_play.proofs.confession.settle_quiet.Goals as goal

quiet_at : {A : Type 0} (a : Bool) {b : Bool} (x y : A) → b ≡ false → y ≡ cond (a && b) x y
quiet_at a x y e = rw (e, and-false a) refl

quiet_given : (s : Stage) (G : ℕ → Given) (plant : ℕ → ℕ → List ℕ) (i : ℕ) → s.struck ≡ 0 → G ≡ given_or_planted s G plant i
unfolding given_or_planted
quiet_given s G plant i z = fun_ext (λ k. quiet_at (ltb k (heads s)) _ (G k) (ap (λ (m : ℕ). bit_of m k) z ∙ bit_none k))

pub returns : goal.returns
returns c z plant i =
    let a = c.args in
    let G = given_by a.links a.lists.now in
    let had = get_or a.positions.now i (pos 0) in
    c.fill_same.ensures i
    ∙ ap (λ (x : ℤ). cond (settles a.s i) x had)
    (to_z-of_z {w = w32} (record { sfits = c.settled-position.type_inv }) ∙ c.settled-position.ensures ∙ ap (position_settled a.s) (quiet_given a.s G plant i z))
