-- The position of the seat, if one is held.
use mathlib.Core.Path.{◌≡◌, refl, ap, sym, ◌∙◌}
use mir.Syntax.{w32}
use mir.Facts.{to_z-of_z}
use lib.IntN.{ℤ}
use Prim.Native.Nat.{ℕ}
use Rattle.terms.specs.Entry.{Entry}
use Rattle.head_spec.specs.declared.Seat.{Seat}
use Rattle.head_lent.specs.Answers.{held_number, held_or}
use Rattle.head_c.specs.Blocks.{head_of}
use borrow.Author.Rules.{rules}
use Rattle.head_c.proofs.focus_head_has_position.Goals as goal

-- s was read, and its position found to be e
found : {s t : Seat} {e : Entry} {n : ℕ} {v : ℤ} (old : ℤ) → s ≡ t → s.position ≡ e → n ≡ held_number e → v ≡ held_or e old
    → (n ≡ held_number t.position) × (v ≡ held_or t.position old)
found old p q a b =
    let same = sym q ∙ ap (λ (x : Seat). x.position) p in
    (a ∙ ap held_number same, b ∙ ap (λ (x : Entry). held_or x old) same)

pub returns-in-None : goal.returns-in-None
unfolding head_of
returns-in-None c = found _ c.seat_in-seat.ensures c.in-None.is refl refl

pub returns-in-Some : goal.returns-in-Some
unfolding head_of
returns-in-Some c =
    found _ c.seat_in-seat.ensures c.in-Some.is refl (to_z-of_z {w = w32} {z = c.in-Some.v} (record { sfits = search rules }))
