-- The two tests of the code are those of an entry that is whole.
use mathlib.Core.Path.{◌≡◌}
use mathlib.Core.List.{List}
use Prim.Native.Nat.{ℕ, ◌+◌, ◌≤◌, ◌<◌}
use native.Mathlib.Omega.{arith}
use lib.ListN.{length}
use borrow.Author.Tests.{le-leb, lt-leb}
use Rattle.head_spec.specs.Batch.{frame_length, entry_size}
use Rattle.head_hear.proofs.entry_size.Goals as goal

module _ (s : List ℕ) {len : ℕ} (e : len ≡ frame_length s) where
  low : len < 4 → 0 ≡ entry_size s
  low l = rw (lt-leb 4 (frame_length s) (omega arith))

  past : 4 ≤ len → length s ≤ len → 0 ≡ entry_size s
  past l m = rw (le-leb 4 (frame_length s) (omega arith), lt-leb (1 + frame_length s) (length s) (omega arith))

  whole : 4 ≤ len → len < length s → len + 1 ≡ entry_size s
  whole l m = rw (le-leb 4 (frame_length s) (omega arith), le-leb (1 + frame_length s) (length s) (omega arith)) (omega arith)

pub returns-then-len-lt4 : goal.returns-then-len-lt4
returns-then-len-lt4 c = low c.args.s.now c.half_at-len.ensures c.if-len-lt4.true

pub returns-then-s-len : goal.returns-then-s-len
returns-then-s-len c = past c.args.s.now c.half_at-len.ensures c.if-len-lt4.false c.if-s-len.true

pub returns : goal.returns
returns c = whole c.args.s.now c.half_at-len.ensures c.if-len-lt4.false c.if-s-len.false
