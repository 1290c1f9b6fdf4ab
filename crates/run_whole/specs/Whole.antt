-- The promise of playing a whole file: one record about all of it, and demand 3 of what the buffers hold.
use Rattle.std.specs.Prelude.{Bool, true, false, not, ◌&&◌, List, ◌++◌, ◌≡◌, ℕ, ◌+◌, ◌-◌, ◌*◌, ◌≤◌, ◌<◌, length, get_or, drop, replicate, ℤ, pos, Some}
use Rattle.terms.specs.Refusals as refusal
use Rattle.marks.specs.Marks.{bit_of}
use Rattle.terms.specs.Counting.{Each}
use Rattle.convergence.specs.Phases.{End}
use Rattle.convergence.specs.Demand3.{Demand3, Halves}
use Rattle.run_listing.specs.Held.{end_in}
use Rattle.ring_spec.specs.Rounds.{PhaseEnd, receivers, is_receiver}
use Rattle.ring_spec.specs.Converges.{no_end, OneFocus}
use Rattle.run_spec.specs.RunFile.{read_file, ending, rounds_played, ends_played, ring_from}
use Rattle.run_spec.specs.Listing.{listing}
use Rattle.run_state.specs.Counts.{CountsOf}
use Rattle.run_whole.specs.declared.PlayResult.{PlayResult}
use Rattle.run_whole.specs.Buffers.{Buffers, row}

-- phase end e, counted from the start, of a list that has the latest first
abbrev pub end_number : List PhaseEnd → ℕ → PhaseEnd
end_number es e = get_or es (length es - 1 - e) no_end

-- whether receiver i of n heads and m listeners is sound, by the mark word of a phase end
abbrev pub is_sound : (n m word i : ℕ) → Bool
is_sound n m word i = is_receiver n m i && not (bit_of word i)

-- A row and a mark word hold a phase end of n heads and m listeners: the word is that of the round that ended it, and at the start that of
-- all listeners, which hold no position yet; the row has for each sound receiver the position that its record holds, and 0 elsewhere.
pub record HoldsEnd (n m : ℕ) (x : PhaseEnd) (row : List ℤ) (word : ℕ) : Type 0 where
  pub marks : word ≡ x.struck
  pub held : Each receivers (λ i. is_sound n m x.struck i ≡ true → (x.heads i).seat.position ≡ Some (get_or row i (pos 0)))
  pub others : Each receivers (λ i. is_sound n m x.struck i ≡ false → get_or row i (pos 0) ≡ pos 0)

-- the phase end of n heads and m listeners that row e and word e are
abbrev pub end_at : (n m : ℕ) (B : Buffers) (e : ℕ) → End
end_at n m B e = end_in n m (get_or B.words e 0) (row e B.rows)

-- the file s is played: how it ends; its listing, with the bytes behind it as they were; its phase ends, with what is behind them as it
-- was; and any two of these, k phases apart, keep demand 3: of the heads alone (m = 0), as the customer's order asks, and with the first m
-- listeners, all of them too (document 02, A6). The counts are those of the phases since the last strike (A10), and the record of each head
-- and listener that is not struck in the last round played holds its count. quiet: if the word of a phase end, the start apart, has no
-- head, its row has one number for all that are sound (A11; specs/Quiet.antt has the request's sentence; D14).
pub record Whole (s : List ℕ) (r : PlayResult) (B B' : Buffers) : Type 0 where
  pub number : r.number ≡ ending (read_file s)
  pub len : r.len ≡ length (listing s)
  pub out : B'.out ≡ listing s ++ drop r.len B.out
  pub count : r.ends ≡ length (ends_played (read_file s))
  pub rows : let S = (read_file s).setup in
      (e : ℕ) → e < r.ends → HoldsEnd S.n S.listeners (end_number (ends_played (read_file s)) e) (row e B'.rows) (get_or B'.words e 0)
  pub more_rows : drop (receivers * r.ends) B'.rows ≡ drop (receivers * r.ends) B.rows
  pub more_words : drop r.ends B'.words ≡ drop r.ends B.words
  pub demand3 : let S = (read_file s).setup in
      (m e k : ℕ) → m ≤ S.listeners → e + k < r.ends
      → Demand3 receivers (Halves S.family S.n S.f) k (end_at S.n m B' e) (end_at S.n m B' (e + k))
  pub quiet : let S = (read_file s).setup in (e : ℕ) → e + 1 < r.ends → OneFocus S.n (end_at S.n S.listeners B' (e + 1))
  pub counts : CountsOf (read_file s).setup.family (rounds_played (read_file s)) r.since
  pub records : let S = (read_file s).setup in
      S.begun ≡ true → let R = ring_from S (rounds_played (read_file s)) in
      Each receivers (λ i. is_receiver S.n S.listeners i ≡ true → bit_of R.before i ≡ false → (R.heads i).seat.since ≡ get_or r.since i 0)

-- by whether the buffers have room: if not, 24, and they are as they were
abbrev pub Plays : (room : Bool) (s : List ℕ) (r : PlayResult) (B B' : Buffers) → Type 0
Plays true s r B B' = Whole s r B B'
Plays false s r B B' = (r ≡ record { number = refusal.buffer_too_short; len = 0; ends = 0; since = replicate receivers 0 }) × (B' ≡ B)

-- the same from C, which lends room for the rest: how many bytes the listing has, how many phase ends were played, and the counts. If a
-- buffer is too short, 24, and all that is lent is as it was.
abbrev pub PlaysInto : (room : Bool) (s : List ℕ) (number len len' ends ends' : ℕ) (since since' : List ℕ) (B B' : Buffers) → Type 0
PlaysInto true s number len len' ends ends' since since' B B' = Whole s (record { number = number; len = len'; ends = ends'; since = since' }) B B'
PlaysInto false s number len len' ends ends' since since' B B' =
    (number ≡ refusal.buffer_too_short) × (len' ≡ len) × (ends' ≡ ends) × (since' ≡ since) × (B' ≡ B)
