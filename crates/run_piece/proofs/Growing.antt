-- What a record adds to the phase ends played: a start the first, a round record that of the pending round, if that ended a phase, and no other
-- record any. What it shows is the line of that end.
use mathlib.Core.Path.{◌≡◌, refl, ap, sym, ◌∙◌}
use mathlib.Core.Bool.{Bool, true, false}
use mathlib.Core.List.{List, [], ◌∷◌, ◌++◌, append_assoc, append-nil}
use Prim.Native.Nat.{ℕ, zero, suc, ◌<◌}
use native.Mathlib.Omega.{arith}
use lib.ListN.{length, drop, length-append}
use lib.Seq.{drop_at}
use lib.IntN.{ℤ}
use Rattle.terms.specs.Refusals.{unless_refused}
use Rattle.terms.specs.Sizes.{ends_with}
use Rattle.terms.specs.declared.Family.{Family}
use Rattle.terms.specs.declared.Family.TheVariants.{TwoRounds, OneRound}
use Rattle.head_spec.specs.declared.Head.{Head}
use Rattle.ring_spec.specs.Rounds.{Round, Ring, round_then, after_round, PhaseEnd, phase_end, with_end, first_end, ring_after, ends_after}
use Rattle.ring_spec.proofs.Counts.{Counted, counted}
use Rattle.run_spec.specs.RunFile.{File, between, RecordKind, start, round, plant, listeners, strikes, other, is_allowed, head_count_in, limit_in, position_in, struck_in, record_fault, then_played, with_record, stopped, judged, ends_so_far}
use Rattle.run_spec.specs.Listing.{title, line, lines, shown}
use Rattle.run_spec.proofs.Streaming.{start_shows, plant_shows, listeners_shows, strikes_shows, stop_shows}
use Rattle.run_state.specs.State.{ring_before}
use Rattle.run_record.proofs.Records.{start_place, round_place, listeners_place}
use Rattle.run_piece.specs.Advances.{struck_here, end_here, Grown, none, one, GrownTo}

same_after : (x : List ℕ) {y z : List ℕ} → x ++ y ≡ x ++ z → y ≡ z
same_after x {y} {z} e = sym (drop_at x y (length x) refl) ∙ ap (drop (length x)) e ∙ drop_at x z (length x) refl

-- a line has one byte at least
pub line_some : (n m p : ℕ) (e : PhaseEnd) → 0 < length (line n m p e)
unfolding line
line_some n m p e = simp length-append (omega arith)

pub grown_none : (F G : File) {text : List ℕ} → ends_so_far G ≡ ends_so_far F → shown G ≡ shown F → shown G ≡ shown F ++ text → GrownTo F G text
grown_none F G e s t = none e (same_after (shown F) (sym t ∙ s ∙ sym (append-nil (shown F))))

-- ---- one round more, with what it shows

-- after the start the marks of the last round count
struck_later : (es : List PhaseEnd) (R : Ring) → 0 < length es → struck_here es R ≡ R.before
struck_later [] R l = absurd (omega arith)
struck_later (e ∷ es) R l = refl

-- a phase end by what it shows
shown_end : (K : Family) (before struck : ℕ) (heads : ℕ → Head) → let e = phase_end K before struck heads in
    record { collect = e.collect; confess = e.confess; struck = struck; heads = heads } ≡ e
shown_end TwoRounds before struck heads = refl
shown_end OneRound before struck heads = refl

module _ (K : Family) (n m f : ℕ) (v : ℕ → ℤ) (ws : List Round) (w : Round) {text : List ℕ} where
  pub next_grown : lines n m (ends_after K n f v (w ∷ ws)) ≡ lines n m (ends_after K n f v ws) ++ text
      → Grown n m (ends_after K n f v ws) (ends_after K n f v (w ∷ ws)) (ring_after K n f v (w ∷ ws)) text
  unfolding ends_after ring_after after_round lines
  next_grown t = go (ends_with K (ring_after K n f v ws).round) refl t
    where
      es : List PhaseEnd
      es = ends_after K n f v ws

      next : Ring
      next = ring_after K n f v (w ∷ ws)

      e : PhaseEnd
      e = phase_end K (ring_after K n f v ws).before next.before next.heads

      some_end : 0 < length es
      some_end = go K (counted K n f v ws)
        where
          go : (K : Family) {rounds ends phase round : ℕ} → Counted K rounds ends phase round → 0 < ends
          go TwoRounds C = omega arith
          go OneRound C = omega arith

      same : end_here e.collect e.confess es next ≡ e
      same = rw (struck_later es next some_end) (shown_end K (ring_after K n f v ws).before next.before next.heads)

      go : (r : Bool) → ends_with K (ring_after K n f v ws).round ≡ r → lines n m (with_end r e es) ≡ lines n m es ++ text → Grown n m es (with_end r e es) next text
      go false c t = none refl (same_after (lines n m es) (sym t ∙ sym (append-nil (lines n m es))))
      go true c t =
          one e.collect e.confess (ap round_then c) (ap (λ (x : PhaseEnd). x ∷ es) (sym same))
          (same_after (lines n m es) (sym t) ∙ ap (line n m (length es)) (sym same))

-- ---- each record

-- the file after an accepted round record s, with the rounds ws played
abbrev with_rounds : File → List ℕ → List Round → File
with_rounds F s ws = between F.setup (record { played = ws; pending = true; last = record { struck = struck_in s; amended = false; plants = [] } })

module _ (F : File) (s : List ℕ) {text : List ℕ} where
  start_grown : (K : Family) → F.setup.begun ≡ false → shown (with_record (start K) F s) ≡ shown F ++ text → GrownTo F (with_record (start K) F s) text
  unfolding ring_after ends_after
  start_grown K begun t =
      let empty : [] ≡ ends_so_far F = rw begun in
      let first : PhaseEnd = first_end K (head_count_in s) (limit_in s) (position_in s) in
      let same : first ≡ end_here 0 0 (ends_so_far F) (ring_before (with_record (start K) F s)) = rw begun refl in
      one 0 0 refl (ap (λ (es : List PhaseEnd). first ∷ es) empty ∙ ap (λ (x : PhaseEnd). x ∷ ends_so_far F) same)
      (same_after (shown F) (sym t ∙ start_shows F K s begun) ∙ ap (λ (es : List PhaseEnd). line (head_count_in s) 0 (length es) first) empty
      ∙ ap (line (head_count_in s) 0 (length (ends_so_far F))) same)

  round_grown : (b : Bool) → F.setup.begun ≡ true → let G = with_rounds F s (then_played b F.rounds.played F.rounds.last) in
      shown G ≡ shown F ++ text → GrownTo F G text
  unfolding shown
  round_grown false begun t = grown_none F (with_rounds F s F.rounds.played) refl refl t
  round_grown true begun t =
      let t' = rw begun at t in
      rw begun
      (next_grown F.setup.family F.setup.n F.setup.listeners F.setup.f F.setup.first F.rounds.played F.rounds.last (same_after title (t' ∙ append_assoc title _ text)))

  taken_grown : (K : RecordKind) (len : ℕ) → is_allowed K F len ≡ true → shown (with_record K F s) ≡ shown F ++ text → GrownTo F (with_record K F s) text
  taken_grown (start K) len may t = start_grown K (start_place F len K may) t
  taken_grown round len may t = round_grown F.rounds.pending (round_place F len may) t
  taken_grown plant len may t = grown_none F (with_record plant F s) refl (plant_shows F s) t
  taken_grown listeners len may t = grown_none F (with_record listeners F s) refl (listeners_shows F s (listeners_place F len may)) t
  taken_grown strikes len may t = grown_none F (with_record strikes F s) refl (strikes_shows F s) t
  taken_grown other len may t = grown_none F F refl refl t

  pub judged_grown : (K : RecordKind) (len : ℕ) → is_allowed K F len ≡ true → shown (judged K F s) ≡ shown F ++ text → GrownTo F (judged K F s) text
  unfolding judged
  judged_grown K len may t = go (record_fault K F s) t
    where
      go : (c : ℕ) → let G = unless_refused (stopped F) c (with_record K F s) in shown G ≡ shown F ++ text → GrownTo F G text
      go zero t = taken_grown K len may t
      go (suc c) t = grown_none F (stopped F (suc c)) refl (stop_shows F (suc c)) t
