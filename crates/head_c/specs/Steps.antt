-- What the private functions promise each other. Readers of the public promises do not need this file.
use Rattle.std.specs.Prelude.{◌≡◌, List, ℕ, ◌+◌, ◌*◌, ℤ, take, drop}
use Rattle.head_spec.specs.declared.Head.{Head}
use Rattle.head_spec.specs.declared.Closed.{Closed}
use Rattle.head_spec.specs.declared.Closing.{Closing}
use Rattle.head_spec.specs.Record.{opened}
use Rattle.head_c.specs.Places as place
use Rattle.head_c.specs.Blocks.{up_to, numbers_at, with_closing}

-- the record with nothing heard that has the seat and the list of h
abbrev pub bare : Head → Head
bare h = opened h.seat h.list

-- the block w becomes w' and r is answered, where closing by value answers c
abbrev pub BlockCloses : (c : Closing) (w : List ℕ) (r : Closed) (w' : List ℕ) → Type 0
BlockCloses c w r w' = (r ≡ c.closed) × (w' ≡ with_closing c.closed c.head w)

-- the words of the list of link k
abbrev pub row_words : List ℕ → ℕ → List ℕ
row_words w k = take 32 (drop (place.lists + 32 * k) w)

-- the numbers of all lists, as they stand in the block
abbrev pub rows_in : List ℕ → List (List ℤ)
rows_in w = up_to 32 (λ k. numbers_at w (place.lists + 32 * k))
