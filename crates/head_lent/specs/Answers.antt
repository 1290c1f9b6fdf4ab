-- What a call on a lent record gives back: a number, and a result in lent memory, which is as it was if there is none.
use Rattle.std.specs.Prelude.{List, [], ◌∷◌, ℕ, ℤ, pos, None, Some, Ok, Err}
use Rattle.terms.specs.Entry.{Entry}
use Rattle.frame_spec.specs.Length.{Written}
use Rattle.head_spec.specs.Kept.{LastKept, Offer}
use Rattle.head_spec.specs.declared.Closed.{Closed}

-- 0 if the round is closed
abbrev pub closed_number : Closed → ℕ
closed_number (Closed.Refused c) = c
closed_number Closed.Listed = 0
closed_number (Closed.Settled k) = 0

-- 0 if a frame was written
abbrev pub written_number : Written → ℕ
written_number (Err c) = c
written_number (Ok n) = 0

-- the frame's length
abbrev pub written_or : Written → ℕ → ℕ
written_or (Err c) old = old
written_or (Ok n) old = n

-- 1 if an entry is a position
abbrev pub held_number : Entry → ℕ
held_number None = 0
held_number (Some v) = 1

abbrev pub held_or : Entry → ℤ → ℤ
held_or None old = old
held_or (Some v) old = v

-- 1 if a kept range is held
abbrev pub range_number : LastKept → ℕ
range_number None = 0
range_number (Some k) = 1

-- 1 if there is an offer
abbrev pub offer_number : Offer → ℕ
offer_number None = 0
offer_number (Some k) = 1

-- the lowest kept entry, the highest, the trim and the position
abbrev pub offer_or : Offer → List ℤ → List ℤ
offer_or None old = old
offer_or (Some k) old = k.low ∷ k.high ∷ pos k.trim ∷ k.position ∷ []

-- its lowest entry, its highest, its trim and its position
abbrev pub range_or : LastKept → List ℤ → List ℤ
range_or None old = old
range_or (Some k) old = k.low ∷ k.high ∷ pos k.trim ∷ k.position ∷ []
