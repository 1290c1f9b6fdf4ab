-- What is planted to a receiver in a phase of one round, counted on both sides of the positions that all hear.
use Rattle.std.specs.Prelude.{◌≡◌, ℕ, ◌+◌, ◌*◌, ◌<◌, ◌≤◌, Bool, true, cond, List, ℤ, int_le, None, Some}
use Rattle.terms.specs.Entry.{Entry}
use Rattle.marks.specs.Marks.{bit_of}
use Rattle.terms.specs.Counting.{sum, bit}
use Rattle.ring_play.specs.declared.Stage.{Stage}
use Rattle.ring_play.specs.declared.sides.Counts.{Counts}
use Rattle.ring_play.specs.Inner.Collection.{heard_of}

-- what receiver i hears of head k, if it is struck
unfoldable pub planted_entry : (s : Stage) (plant : ℕ → ℕ → List ℕ) (i k : ℕ) → Entry
planted_entry s plant i k = cond (bit_of s.struck k) (heard_of s (plant k i) k) None

-- 1 for a position that passes a test
abbrev pub tested : (ℤ → Bool) → Entry → ℕ
tested q None = 0
tested q (Some u) = bit (q u)

-- an entry more
abbrev pub counts_with : (lowest highest : ℤ) (e : Entry) (c : Counts) → Counts
counts_with lowest highest e c =
    record {
      all = c.all + tested (λ u. true) e;
      low = c.low + tested (λ u. int_le u lowest) e;
      high = c.high + tested (λ u. int_le highest u) e;
    }

-- of n entries
pub record SidesCounted (n : ℕ) (E : ℕ → Entry) (lowest highest : ℤ) (c : Counts) : Type 0 where
  pub all : c.all ≡ sum n (λ k. tested (λ u. true) (E k))
  pub low : c.low ≡ sum n (λ k. tested (λ u. int_le u lowest) (E k))
  pub high : c.high ≡ sum n (λ k. tested (λ u. int_le highest u) (E k))

-- Of n entries len are positions that all hear. No side has more than f planted ones, each planted one is on a side, and the nulls are few
-- enough. Then of the positions that all hear f, less those planted on a side, are dropped there.
pub record SidesDecide (n f len : ℕ) (c : Counts) : Type 0 where
  pub some : 2 * f < len
  pub few_low : c.low ≤ f
  pub few_high : c.high ≤ f
  pub outside : c.all ≤ c.low + c.high
  pub enough : n ≤ len + c.all + 2 * f
