-- The bytes of a text, and what putting more behind it makes.
use Rattle.std.specs.Prelude.{◌≡◌, List, ◌++◌, ℕ, ◌+◌, ◌≤◌, ◌<◌, length, take}
use Rattle.texts.specs.declared.Text.{Text}

-- the bytes of a text
abbrev pub bytes_of : Text → List ℕ
bytes_of t = take t.len t.bytes

-- the first bytes of a line, as a text
abbrev pub text_in : ℕ → List ℕ → Text
text_in len bytes = record { len = len; bytes = bytes }

-- r is the text t with s after it, at most k bytes
pub record Longer (t : Text) (s : List ℕ) (k : ℕ) (r : Text) : Type 0 where
  pub text : bytes_of r ≡ bytes_of t ++ s
  pub room : r.len ≤ t.len + k

-- r is what putting s behind t makes: the text with s after it, or the text itself if that would be more than 64 bytes
pub record Puts (t : Text) (s : List ℕ) (r : Text) : Type 0 where
  pub fits : t.len + length s ≤ 64 → Longer t s (length s) r
  pub full : 64 < t.len + length s → r ≡ t
