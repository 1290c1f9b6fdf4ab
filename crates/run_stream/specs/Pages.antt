-- How much of a piece a page takes.
use Rattle.std.specs.Prelude.{List, ℕ, ◌≤◌, ◌<◌, ◌-◌, length}
use Rattle.run_stream.specs.declared.FillResult.{FillResult}

-- the bytes of a page
abbrev pub page_size : ℕ
page_size = 16384

-- of these bytes: all of them, or as many as leave the page no room for another line, which has 64 bytes at most
pub record Fills (bytes : List ℕ) (r : FillResult) : Type 0 where
  pub within : r.used ≤ length bytes
  pub some : 0 < length bytes → 0 < r.used
  pub room : r.len ≤ page_size
  pub full : r.used < length bytes → page_size - 64 < r.len
