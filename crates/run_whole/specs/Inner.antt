-- What the private functions promise each other. Readers of the public promises do not need this file.
use Rattle.std.specs.Prelude.{◌≡◌, Bool, true, false, cond, List, [], ◌∷◌, ◌++◌, ℕ, zero, suc, ◌+◌, ◌*◌, ◌≤◌, ◌<◌, length, get_or, set, take, drop, ℤ, pos}
use Rattle.std.proofs.Math.Seq.{paste}
use Rattle.ring_spec.specs.Rounds.{PhaseEnd, all_listeners, receivers}
use Rattle.run_spec.specs.RunFile.{read_file, ends_so_far}
use Rattle.run_spec.specs.Listing.{shown}
use Rattle.texts.specs.declared.Text.{Text}
use Rattle.texts.specs.Texts.{bytes_of}
use Rattle.run_state.specs.Memory.{Memory}
use Rattle.run_piece.specs.Advances.{StateAt}
use Rattle.run_whole.specs.declared.Place.{Place}
use Rattle.run_whole.specs.Buffers.{Buffers, row, has_room}
use Rattle.run_whole.specs.Whole.{HoldsEnd, is_sound}

-- a text is put behind the first len bytes, if there is room
pub record Put (t : Text) (len r : ℕ) (out out' : List ℕ) : Type 0 where
  pub long : t.len ≤ 64 → length (bytes_of t) ≡ t.len
  pub puts : t.len ≤ 64 → len + t.len ≤ length out → (r ≡ len + t.len) × (out' ≡ paste out len (bytes_of t) t.len)

-- the number that a row has for receiver i
abbrev pub sound_number : (n m word : ℕ) (positions : List ℤ) (i : ℕ) → ℤ
sound_number n m word positions i = cond (is_sound n m word i) (get_or positions i (pos 0)) (pos 0)

-- the first k numbers of a row
unfoldable pub sound_row : (n m word : ℕ) (positions : List ℤ) (k : ℕ) → List ℤ
sound_row n m word positions zero = []
sound_row n m word positions (suc k) = sound_row n m word positions k ++ (sound_number n m word positions k ∷ [])

-- the mark word of end number e, if those struck in its round are these: at the start all listeners count
abbrev pub word_at : ℕ → ℕ → ℕ
word_at zero struck = all_listeners
word_at (suc e) struck = struck

-- a phase end is kept, if there is one and room for it
abbrev pub EndKept : (ended : Bool) (n m struck : ℕ) (positions : List ℤ) (count r : ℕ) (rows : List ℤ) (words : List ℕ) (rows' : List ℤ) (words' : List ℕ) → Type 0
EndKept true n m struck positions count r rows words rows' words' =
    receivers * count + receivers ≤ length rows → count < length words
    → (r ≡ count + 1) × (rows' ≡ paste rows (receivers * count) (sound_row n m (word_at count struck) positions 48) 48) × (words' ≡ set words count (word_at count struck))
EndKept false n m struck positions count r rows words rows' words' = (r ≡ count) × (rows' ≡ rows) × (words' ≡ words)

-- rows and words hold the phase ends es, which have the latest first
unfoldable pub Rows : (n m : ℕ) (es : List PhaseEnd) (rows : List ℤ) (words : List ℕ) → Type 0
Rows n m [] rows words = Unit {0}
Rows n m (x ∷ es) rows words = HoldsEnd n m x (row (length es) rows) (get_or words (length es) 0) × Rows n m es rows words

-- the buffers B, which were B₀, hold a text of l bytes and the phase ends es, c of them
pub record HoldsSoFar (n m : ℕ) (text : List ℕ) (es : List PhaseEnd) (l c : ℕ) (B₀ B : Buffers) : Type 0 where
  pub len : l ≡ length text
  pub out : B.out ≡ text ++ drop l B₀.out
  pub count : c ≡ length es
  pub rows : Rows n m es B.rows B.words
  pub more_rows : drop (receivers * c) B.rows ≡ drop (receivers * c) B₀.rows
  pub more_words : drop c B.words ≡ drop c B₀.words
  pub long : length B.rows ≡ length B₀.rows
  pub wide : length B.words ≡ length B₀.words

-- at a place of the file, with buffers that have room for all of it
pub record Going (file : List ℕ) (at : Place) (carry : List ℕ) (M : Memory) (B₀ B : Buffers) : Type 0 where
  pub room : has_room file (length B₀.out) (length B₀.rows) (length B₀.words) ≡ true
  pub within : at.used ≤ length file
  pub state : StateAt (take at.used file) at.player carry M
  pub holds : let F = read_file (take at.used file) in HoldsSoFar F.setup.n F.setup.listeners (shown F) (ends_so_far F) at.len at.count B₀ B
  pub small : at.len ≤ 64 * (at.count + 1)
