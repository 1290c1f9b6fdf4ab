-- The parts of a line, each put behind the one before, are the line.
use mathlib.Core.Path.{◌≡◌, sym, ap, ◌∙◌, subst}
use mathlib.Core.Bool.{true, false, not}
use mathlib.Core.List.{[], ◌++◌}
use Prim.Native.Nat.{ℕ}
use lib.Dec.{T}
use lib.Seq.{append_snoc}
use lib.Ieee.{Float, nan, inf, fin, binary32, ne, is_nan, to_bits}
use lib.Ieee.Compare.{differs_from_itself, nan_differs}
use Rattle.texts.specs.Numbers.{decimal, hex, spaced}
use Rattle.reading.specs.declared.KeptRange.{KeptRange}
use Rattle.reading.specs.declared.Reading.{Reading}
use Rattle.hostpage.specs.Page.{line_ended, unknown, point, range, float_text, range_text, reading_line}

-- ---- the bits of a float: a float that equals itself is no NaN

pub no_nan : (x : Float) → ne x x ≡ false → T (not (is_nan x))
unfolding is_nan
no_nan nan e = absurd (subst T (sym nan_differs ∙ e) tt)
no_nan (inf s) e = tt
no_nan (fin s m e) q = tt

pub nan_bits : (x : Float) → ne x x ≡ true → 0x7fc0_0000 ≡ to_bits binary32 x
unfolding to_bits
nan_bits x e = sym (ap (to_bits binary32) (differs_from_itself x (subst T (sym e) tt)))

pub float_bits : (x : Float) {b : ℕ} → b ≡ to_bits binary32 x → hex 8 b ≡ float_text x
unfolding float_text
float_bits x e = ap (hex 8) e

-- ---- a line

pub range_is : (k : KeptRange)
    → spaced range [] ++ (spaced (float_text k.lowest) [] ++ (spaced (float_text k.highest) [] ++ line_ended (float_text k.midpoint))) ≡ range_text k
unfolding range_text
range_is k = simp append_snoc

pub unknown_is : (head : ℕ) → spaced (decimal head) [] ++ line_ended unknown ≡ reading_line head Reading.Unknown
unfolding reading_line
unknown_is head = simp append_snoc

pub point_is : (head : ℕ) (x : Float) → spaced (decimal head) [] ++ (spaced point [] ++ line_ended (float_text x)) ≡ reading_line head (Reading.Point x)
unfolding reading_line
point_is head x = simp append_snoc

pub range_line : (head : ℕ) (k : KeptRange) → spaced (decimal head) [] ++ range_text k ≡ reading_line head (Reading.Range k)
unfolding reading_line
range_line head k = simp append_snoc
