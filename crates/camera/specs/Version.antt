-- Which interface C's library is: 10,000 times the first number of its version, 100 times the second, and the third. host/include/focus.h
-- has the same as FOCUS_VERSION.
use Rattle.std.specs.Prelude.{ℕ, ◌+◌, ◌*◌}

abbrev pub version : ℕ
version = 10000 * 1 + 100 * 14 + 4
