-- What the links give in a confession round, as the words and rows of the memory hold it.
use Rattle.std.specs.Prelude.{◌≡◌, ℕ, true, false, cond, not, List, length, ℤ, slice_set}
use Rattle.marks.specs.Marks.{bit_of}
use Rattle.convergence.specs.Trust.{Given, nothing}
use Rattle.frame_spec.specs.Said.{Meaning, refused, collected, listed, confessed, said}
use Rattle.frame_spec.specs.Written.{frame_of}
use Rattle.settle_trust.specs.declared.Links.{Links}
use Rattle.settle_trust.specs.Received.{given_by}
use Rattle.head_spec.specs.Record.{given_of}
use Rattle.head_spec.specs.Calls.{with_confession, with_list}
use Rattle.ring_play.specs.declared.Stage.{Stage}
use Rattle.ring_play.specs.Memory.{heads, hears, replies}
use Rattle.ring_play.specs.Inner.Planted.{is_struck}

-- what is heard of head k, if it is not struck
unfoldable pub replied : (s : Stage) (marks : List ℕ) (lists : List (List ℤ)) (k : ℕ) → Meaning
replied s marks lists k = said (heads s) s.phase 1 k (frame_of (heads s) k s.phase (replies s marks lists k))

-- what the links gave, when link k has said m
abbrev pub links_with : Links → ℕ → Meaning → Links
links_with g k (refused c) = g
links_with g k (collected e) = g
links_with g k (listed t) = with_list g k t
links_with g k confessed = with_confession g k

abbrev pub rows_with : List (List ℤ) → ℕ → Meaning → List (List ℤ)
rows_with rows k (refused c) = rows
rows_with rows k (collected e) = rows
rows_with rows k (listed t) = slice_set rows k t.entries
rows_with rows k confessed = rows

-- the links and the rows hold G
pub record Received (g : Links) (rows : List (List ℤ)) (G : ℕ → Given) : Type 0 where
  pub marks_long : length g.marks ≡ 32
  pub rows_long : length rows ≡ 32
  pub gives : (k : ℕ) → given_by g rows k ≡ G k

-- with other rows the links give what they gave
pub record RowsKept (g : Links) (rows rows' : List (List ℤ)) : Type 0 where
  pub long : length rows' ≡ 32
  pub gives : given_by g rows' ≡ given_by g rows

-- what the unstruck heads give to all receivers
unfoldable pub given_alike : (s : Stage) (marks : List ℕ) (lists : List (List ℤ)) (k : ℕ) → Given
given_alike s marks lists k = cond (hears s k) (given_of (replied s marks lists k)) nothing

-- the struck heads gave nothing
pub record Unplanted (s : Stage) (g : Links) (rows : List (List ℤ)) : Type 0 where
  pub marks_long : length g.marks ≡ 32
  pub rows_long : length rows ≡ 32
  pub untold : (k : ℕ) → is_struck s k ≡ true → given_by g rows k ≡ nothing

-- what the unstruck heads say: healed ones a confession, all others their list
pub record OwnLinks (s : Stage) (marks : List ℕ) (g : Links) : Type 0 where
  pub confesses : (k : ℕ) → bit_of g.confessed k ≡ cond (hears s k) (bit_of s.before k) false
  pub lists : (k : ℕ) → bit_of g.listed k ≡ cond (hears s k) (not (bit_of s.before k)) false
  pub marks_kept : g.marks ≡ marks
