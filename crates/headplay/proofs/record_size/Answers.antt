-- A record is whole if its length is that of one and it does not run past the end.
use mathlib.Core.Path.{◌≡◌}
use mathlib.Core.List.{List}
use Prim.Native.Nat.{ℕ, ◌≤◌, ◌<◌}
use native.Mathlib.Omega.{arith}
use lib.ListN.{length}
use borrow.Author.Tests.{le-leb, lt-leb}
use Rattle.fields.specs.Bytes.{at2}
use Rattle.headplay.specs.Script.{record_size}
use Rattle.headplay.proofs.record_size.Goals as goal

module _ (s : List ℕ) {len : ℕ} (e : len ≡ at2 s 0) where
  low : len < 3 → 0 ≡ record_size s
  low l = rw (lt-leb 3 (at2 s 0) (omega arith))

  past : 3 ≤ len → length s < len → 0 ≡ record_size s
  past l m = rw (le-leb 3 (at2 s 0) (omega arith), lt-leb (at2 s 0) (length s) (omega arith))

  whole : 3 ≤ len → len ≤ length s → len ≡ record_size s
  whole l m = rw (le-leb 3 (at2 s 0) (omega arith), le-leb (at2 s 0) (length s) (omega arith)) e

pub returns-then-size-lt3 : goal.returns-then-size-lt3
returns-then-size-lt3 c = low c.args.s.now c.half_at-size.ensures c.if-size-lt3.true

pub returns-then-s-size : goal.returns-then-s-size
returns-then-s-size c = past c.args.s.now c.half_at-size.ensures c.if-size-lt3.false c.if-s-size.true

pub returns : goal.returns
returns c = whole c.args.s.now c.half_at-size.ensures c.if-size-lt3.false c.if-s-size.false
