-- The kept range of the seat, if one is held.
use mathlib.Core.Path.{◌≡◌, refl, ap, sym, ◌∙◌}
use mathlib.Core.List.{List}
use Prim.Native.Nat.{ℕ}
use lib.IntN.{ℤ}
use Rattle.settle_midpoint.proofs.Stored.{stored}
use Rattle.head_spec.specs.Kept.{LastKept}
use Rattle.head_spec.specs.declared.Seat.{Seat}
use Rattle.head_lent.specs.Answers.{range_number, range_or}
use Rattle.head_c.specs.Blocks.{head_of}
use borrow.Author.Rules.{rules}
use Rattle.head_c.proofs.focus_head_has_kept.Goals as goal

-- s was read, and its range found to be x
found : {s t : Seat} {x : LastKept} {n : ℕ} {v : List ℤ} (old : List ℤ) → s ≡ t → s.kept ≡ x → n ≡ range_number x → v ≡ range_or x old
    → (n ≡ range_number t.kept) × (v ≡ range_or t.kept old)
found old p q a b =
    let same = sym q ∙ ap (λ (y : Seat). y.kept) p in
    (a ∙ ap range_number same, b ∙ ap (λ (y : LastKept). range_or y old) same)

pub returns-in-None : goal.returns-in-None
unfolding head_of
returns-in-None c = found _ c.seat_in-seat.ensures c.in-None.is refl refl

pub returns-in-Some : goal.returns-in-Some
unfolding head_of
returns-in-Some c =
    let k = c.in-Some.k in
    found _ c.seat_in-seat.ensures c.in-Some.is refl
    (stored {low = k.low} {high = k.high} {position = k.position} k.trim (record { sfits = search rules }) (record { sfits = search rules }) (search rules) (record { sfits = search rules }))
