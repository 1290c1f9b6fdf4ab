-- From place to place through a file. What a piece shows is put behind the text that is there, and if it is the line of a phase end the ring stands there, with
-- its positions in memory, and these are kept. So at the end the buffers hold the listing and every phase end, and any two of these keep demand 3, since the
-- ends of the file do.
use Rattle.std.specs.Prelude.{Some}
use mathlib.Core.Path.{◌≡◌, refl, ap, sym, ◌∙◌}
use mathlib.Core.Bool.{Bool, true, false, not, cond, ◌&&◌, ◌||◌, true≢false}
use mathlib.Core.List.{List, [], ◌∷◌, ◌++◌, append_assoc}
use Prim.Native.Nat.{ℕ, suc, ◌+◌, ◌-◌, ◌≤◌, ◌<◌}
use native.Mathlib.Omega.{arith}
use native.Mathlib.Decide.{dec_lt}
use native.Mathlib.Nat.{le_refl}
use lib.Dec.{eqb}
use lib.ListN.{length, get_or, take}
use lib.Seq.{length-take-le, take_all}
use lib.IntN.{ℤ, pos}
use Rattle.terms.specs.Counting.{Each}
use Rattle.convergence.specs.Phases.{spread}
use Rattle.convergence.specs.Demand3.{Demand3}
use Rattle.run_listing.specs.Held.{end_in}
use Rattle.run_listing.proofs.Lowest.{found_held}
use Rattle.ring_spec.specs.Rounds.{PhaseEnd, receivers, is_receiver, is_out, as_end, ring_after, after_round}
use Rattle.ring_spec.specs.Converges.{OneFocus}
use Rattle.run_spec.specs.RunFile.{File, unread, rounds_given, RecordKind, start, round, plant, listeners, strikes, other, kind_in, length_in, is_allowed, then_played, with_record, feed, read_file, ends_so_far, ending, rounds_played, ends_played, ring_from, ends_from}
use Rattle.run_spec.specs.Listing.{title, shown, listing}
use Rattle.run_spec.proofs.Streaming.{feed_append}
use Rattle.run_spec.proofs.Demand3.{every_file}
use Rattle.run_spec.proofs.Whole.{kept}
use Rattle.run_spec.proofs.Bytes.{length_then, first_begun, from}
use Rattle.run_spec.proofs.Ends.{few_so_far, few_ends}
use Rattle.run_record.proofs.Records.{start_place, listeners_place}
use Rattle.run_round.proofs.Converging.{more_receive, held_at_end}
use Rattle.texts.specs.declared.Text.{Text}
use Rattle.texts.specs.Texts.{bytes_of}
use Rattle.run_state.specs.declared.Player.{Player}
use Rattle.run_state.specs.Memory.{Memory}
use Rattle.run_state.specs.Heads.{HeadsOf}
use Rattle.run_state.specs.State.{ring_before, agreed_before}
use Rattle.run_state.specs.Counts.{CountsOf}
use Rattle.run_piece.specs.Advances.{StateAt, AdvancesOnce}
use Rattle.run_stream.specs.declared.FinishResult.{FinishResult}
use Rattle.run_stream.specs.Finish.{ring_at_end, FinishesWith}
use Rattle.run_stream.proofs.Pieces.{rest, joined}
use Rattle.run_stream.proofs.Cutting.{shown_first}
use Rattle.run_whole.specs.declared.Place.{Place}
use Rattle.run_whole.specs.declared.PlayResult.{PlayResult}
use Rattle.run_whole.specs.Buffers.{Buffers, most_ends, has_room, row}
use Rattle.run_whole.specs.Whole.{end_number, HoldsEnd, Whole}
use Rattle.run_whole.specs.Inner.{Put, EndKept, Rows, HoldsSoFar, Going}
use Rattle.run_whole.proofs.FirstKind.{few_in}
use Rattle.run_whole.proofs.Counting.{counts_held}
use Rattle.run_whole.proofs.Quiet.{file_quiet}
use Rattle.run_whole.proofs.Rows.{rows_at, rows_recount}
use Rattle.run_whole.proofs.Telling.{roomy, AtEnd, told_put, told_more, out_long}

-- ---- the file so far

-- A start gives the number of heads, and nothing after it another; once a round was given, nothing gives another number of listeners. n, m and r: the heads, the
-- listeners and the rounds given at first.
record Counts (n m r : ℕ) (F : File) (k : ℕ) : Type 0 where
  begun : F.setup.begun ≡ true
  heads : F.setup.n ≡ n
  more : r ≤ rounds_given F
  listeners : 0 < r → F.setup.listeners ≡ m

module _ (n m r : ℕ) where
  counts_on : (K : RecordKind) (F : File) (s : List ℕ) (k : ℕ) → is_allowed K F (length_in s) ≡ true → Counts n m r F k → Counts n m r (with_record K F s) (suc k)
  counts_on (start K) F s k may C = absurd (true≢false (sym C.begun ∙ start_place F (length_in s) K may))
  counts_on round F s k may C =
      record {
        begun = C.begun;
        heads = C.heads;
        more = omega (arith, C.more, length_then F.rounds.pending F.rounds.played F.rounds.last);
        listeners = C.listeners;
      }
  counts_on plant F s k may C = record { begun = C.begun; heads = C.heads; more = C.more; listeners = C.listeners }
  counts_on listeners F s k may C =
      record {
        begun = C.begun;
        heads = C.heads;
        more = C.more;
        listeners = λ some. absurd (omega (arith, C.more, (first_begun F (listeners_place F (length_in s) may)).1));
      }
  counts_on strikes F s k may C = record { begun = C.begun; heads = C.heads; more = C.more; listeners = C.listeners }
  counts_on other F s k may C = absurd (true≢false (sym may))

same_counts : (a b : List ℕ) → (read_file a).setup.begun ≡ true → let F = read_file a in
    Counts F.setup.n F.setup.listeners (rounds_given F) (read_file (a ++ b)) (length a + length b)
same_counts a b begun =
    let F = read_file a in
    let n = F.setup.n in
    let m = F.setup.listeners in
    let r = rounds_given F in
    rw (feed_append unread a b)
    (from (Counts n m r)
    (λ F k C. record { begun = C.begun; heads = C.heads; more = C.more; listeners = C.listeners })
    (λ F s k one C. record { begun = C.begun; heads = C.heads; more = C.more; listeners = C.listeners })
    (λ F c k C. record { begun = C.begun; heads = C.heads; more = C.more; listeners = C.listeners })
    (λ F s k one may all sound C. counts_on n m r (kind_in s) F s k may C)
    F b (length a) (kept a) (record { begun = begun; heads = refl; more = omega arith; listeners = λ some. refl }))

-- before a start there is no row, and before the first round that of the start alone
rows_then : (a b : List ℕ) (rows : List ℤ) (words : List ℕ) → Rows (read_file a).setup.n (read_file a).setup.listeners (ends_so_far (read_file a)) rows words
    → Rows (read_file (a ++ b)).setup.n (read_file (a ++ b)).setup.listeners (ends_so_far (read_file a)) rows words
unfolding Rows
rows_then a b rows words = go F.setup.begun refl
  where
    F : File
    F = read_file a

    G : File
    G = read_file (a ++ b)

    counted_on : F.setup.begun ≡ true → Dec (0 < rounds_given F) → let es = ends_from F.setup F.rounds.played in
        Rows F.setup.n F.setup.listeners es rows words → Rows G.setup.n G.setup.listeners es rows words
    counted_on e (yes some) R = let C = same_counts a b e in rw (C.heads, C.listeners some) R
    counted_on e (no none) R =
        rw (same_counts a b e).heads
        (rows_recount F.setup.family F.setup.n F.setup.listeners G.setup.listeners F.setup.f F.setup.first F.rounds.played rows words (omega arith) R)

    go : (c : Bool) → F.setup.begun ≡ c → let es = cond c (ends_from F.setup F.rounds.played) [] in
        Rows F.setup.n F.setup.listeners es rows words → Rows G.setup.n G.setup.listeners es rows words
    go true e R = counted_on e (dec_lt 0 (rounds_given F)) R
    go false e R = tt

-- if there is a phase end, there was a start
begun_so : (F : File) (x : PhaseEnd) (es : List PhaseEnd) → ends_so_far F ≡ x ∷ es → F.setup.begun ≡ true
begun_so F x es = go F.setup.begun
  where
    go : (b : Bool) → cond b (ends_from F.setup F.rounds.played) [] ≡ x ∷ es → b ≡ true
    go true e = refl
    go false e = absurd (omega (arith, ap length e))

-- ---- before the first byte

none_told : (n m : ℕ) (B : Buffers) → HoldsSoFar n m [] [] 0 0 B B
unfolding Rows
none_told n m B = record { len = refl; out = refl; count = refl; rows = tt; more_rows = refl; more_words = refl; long = refl; wide = refl }

pub going_first : {file : List ℕ} {p : Player} {carry : List ℕ} {M : Memory} {t : Text} {l : ℕ} {out : List ℕ} (B : Buffers)
    → has_room file (length B.out) (length B.rows) (length B.words) ≡ true → StateAt [] p carry M → bytes_of t ≡ title → t.len ≤ 64
    → Put t 0 l B.out out
    → Going file (record { player = p; used = 0; len = l; count = 0 }) carry M B (record { out = out; rows = B.rows; words = B.words })
unfolding unread feed
going_first {file} {t} B room L text short P =
    let R = roomy file B room in
    let (is, put) = P.puts short (omega (arith, R.out)) in
    let holds = told_put (none_told (read_file []).setup.n (read_file []).setup.listeners B) (bytes_of t) t.len (P.long short) put in
    record {
      room = room;
      within = omega arith;
      state = L;
      holds = rw (shown_first ∙ sym text, is) holds;
      small = omega arith;
    }

-- ---- a step

module _ {file : List ℕ} {at : Place} {carry : List ℕ} {M : Memory} {B₀ B : Buffers} (G : Going file at carry M B₀ B) where
  abbrev a : List ℕ
  a = take at.used file

  -- the numbers of heads and listeners as they are after more bytes
  told_then : (b : List ℕ) → HoldsSoFar (read_file (a ++ b)).setup.n (read_file (a ++ b)).setup.listeners (shown (read_file a)) (ends_so_far (read_file a)) at.len at.count B₀ B
  told_then b =
      let T = G.holds in
      record {
        len = T.len;
        out = T.out;
        count = T.count;
        rows = rows_then a b B.rows B.words T.rows;
        more_rows = T.more_rows;
        more_words = T.more_words;
        long = T.long;
        wide = T.wide;
      }

  pub going_on : (used : ℕ) {t : Text} {q : Player} {carry' : List ℕ} {M' : Memory} {l c : ℕ} {out : List ℕ} {rows : List ℤ} {words : List ℕ} {some : Bool}
      → at.used + used ≤ length file → t.len ≤ 64 → AdvancesOnce a (take used (rest at.used file)) at.player M q (bytes_of t) carry' M'
      → Put t at.len l B.out out → some ≡ not (eqb t.len 0)
      → EndKept some q.n q.listeners q.before M'.positions at.count c B.rows B.words rows words
      → Going file (record { player = q; used = at.used + used; len = l; count = c }) carry' M' B₀ (record { out = out; rows = rows; words = words })
  going_on used {t} {q} {M'} within short S P flag K =
      let b = take used (rest at.used file) in
      let is : a ++ b ≡ take (at.used + used) file = joined [] at.used used file in
      let L = S.advances.state in
      let F = read_file (a ++ b) in
      let long = ap length is ∙ length-take-le (at.used + used) file within in
      let few : length (ends_so_far F) ≤ most_ends file =
      rw is (few_in (at.used + used) file within (few_so_far (take (at.used + used) file))) in
      let ended : (x : PhaseEnd) → ends_so_far F ≡ x ∷ ends_so_far (read_file a) → (ring_before F).round ≡ 0
      → AtEnd F.setup.n F.setup.listeners x (ring_before F) q.before M'.positions =
      λ x e r.
      let begun = begun_so F x _ e in
      record { is = sym L.player.before; held = held_at_end false (a ++ b) begun (L.memory.keeps begun) r x (rw begun at e) } in
      let (holds, small) =
      told_more (told_then b) (roomy file B₀ G.room) G.small short few {R = ring_before F} ended P flag (rw (← L.player.n, ← L.player.listeners) at K) S.grown in
      record {
        room = G.room;
        within = within;
        state = rw (← is) L;
        holds = rw (← is, S.advances.shows) holds;
        small = small;
      }

-- ---- the end of the file

-- if there is a phase end at last, there was a start
begun_at : (F : File) (x : PhaseEnd) (es : List PhaseEnd) → ends_played F ≡ x ∷ es → F.setup.begun ≡ true
unfolding ends_played
begun_at F x es = go F.setup.begun
  where
    go : (b : Bool) → cond b (ends_from F.setup (rounds_played F)) [] ≡ x ∷ es → b ≡ true
    go true e = refl
    go false e = absurd (omega (arith, ap length e))

started : {b : Bool} (es : List PhaseEnd) → b ≡ true → es ≡ cond b es []
started es e = rw e refl

-- the positions of the last phase end, as the memory then holds them
last_held : (s : List ℕ) {M : Memory} {es : List PhaseEnd} → let F = read_file s in
    F.setup.begun ≡ true → HeadsOf F.setup.n F.setup.listeners (agreed_before F) (ring_at_end F) M → (ring_at_end F).round ≡ 0 → (x : PhaseEnd)
    → ends_played F ≡ x ∷ es
    → Each receivers (λ i. is_out F.setup.n F.setup.listeners x.struck i ≡ false
    → (x.heads i).seat.position ≡ Some (get_or M.positions i (pos 0)))
unfolding ends_played rounds_played
last_held s begun K z x e = held_at_end (eqb (ending (read_file s)) 0) s begun K z x (started (ends_from (read_file s).setup (rounds_played (read_file s))) begun ∙ e)

-- if the end of the file plays a round, its mark word is that of the pending round
last_struck : (F : File) (x : PhaseEnd) → ends_played F ≡ x ∷ ends_so_far F → (ring_at_end F).before ≡ F.rounds.last.struck
unfolding ends_played rounds_played ring_after after_round
last_struck F x = go (eqb (ending F) 0) F.rounds.pending
  where
    more : (es : List PhaseEnd) → es ≡ x ∷ es → ⊥
    more es e = omega (arith, ap length e)

    go : (b w : Bool) → let ws = cond b (then_played w F.rounds.played F.rounds.last) F.rounds.played in
        cond F.setup.begun (ends_from F.setup ws) [] ≡ x ∷ ends_so_far F → (ring_from F.setup ws).before ≡ F.rounds.last.struck
    go true true e = refl
    go true false e = absurd (more (ends_so_far F) e)
    go false w e = absurd (more (ends_so_far F) e)

-- neither missing nor struck
sound_in : (n m M i : ℕ) (c : Bool) → m ≤ M → (not (is_receiver n m i) || c) ≡ false → (is_receiver n M i && not c) ≡ true
sound_in n m M i c l = go (is_receiver n m i) c refl
  where
    go : (b c : Bool) → is_receiver n m i ≡ b → (not b || c) ≡ false → (is_receiver n M i && not c) ≡ true
    go true true q o = absurd (true≢false o)
    go true false q o = rw (more_receive n m M i l q) refl
    go false c q o = absurd (true≢false o)

-- demand 3 of two phase ends, of the rows and words that hold them with these listeners and perhaps more
rows_converge : {n m M k : ℕ} {halves : Type 0} → m ≤ M → (x y : PhaseEnd) {ps qs : List ℤ} {v w : ℕ} → HoldsEnd n M x ps v → HoldsEnd n M y qs w
    → Demand3 receivers halves k (as_end n m x) (as_end n m y) → Demand3 receivers halves k (end_in n m v ps) (end_in n m w qs)
unfolding end_in spread
rows_converge {n} {m} {M} h x y {ps} {qs} H I D =
    let X = found_held n m x.struck (λ i. (x.heads i).seat.position) ps (λ i l r q. H.held i l (rw (more_receive n m M i h r, q) refl)) in
    let Y = found_held n m y.struck (λ i. (y.heads i).seat.position) qs (λ i l r q. I.held i l (rw (more_receive n m M i h r, q) refl)) in
    rw (H.marks, I.marks)
    record {
      range = λ i l o. rw (← X.is_low, ← X.is_high, ← I.held i l (sound_in n m M i _ h o)) (D.range i l o);
      halving = λ p. rw (← X.is_low, ← X.is_high, ← Y.is_low, ← Y.is_high) (D.halving p);
    }

-- and a quiet phase
rows_focus : {n m : ℕ} (x : PhaseEnd) {ps : List ℤ} {v : ℕ} → HoldsEnd n m x ps v → OneFocus n (as_end n m x) → OneFocus n (end_in n m v ps)
unfolding end_in
rows_focus {n} {m} x H one =
    rw H.marks
    (λ none i j k l o p.
    sym (H.held i k (sound_in n m m i _ (le_refl m) o)) ∙ one none i j k l o p ∙ H.held j l (sound_in n m m j _ (le_refl m) p))

module _ (s : List ℕ) {r : PlayResult} {B₀ B : Buffers} (number : r.number ≡ ending (read_file s))
    (T : HoldsSoFar (read_file s).setup.n (read_file s).setup.listeners (listing s) (ends_played (read_file s)) r.len r.ends B₀ B)
    (C : CountsOf (read_file s).setup.family (rounds_played (read_file s)) r.since) where
  whole_told : Whole s r B₀ B
  whole_told =
      let F = read_file s in
      let es = ends_played F in
      let at : (e : ℕ) → e < r.ends → HoldsEnd F.setup.n F.setup.listeners (end_number es e) (row e B.rows) (get_or B.words e 0) =
      λ e l. rows_at F.setup.n F.setup.listeners es B.rows B.words T.rows e (omega (arith, T.count)) in
      record {
        number = number;
        len = T.len;
        out = T.out;
        count = T.count;
        rows = at;
        more_rows = T.more_rows;
        more_words = T.more_words;
        demand3 =
            λ m e k h l.
            let i = length es - 1 - (e + k) in
            let c = T.count in
            let z : i + k ≡ length es - 1 - e = omega arith in
            rows_converge h (end_number es e) (end_number es (e + k)) (at e (omega arith)) (at (e + k) l)
            (rw z at (every_file s m h i k (omega arith)));
        quiet =
            λ e l.
            let c = T.count in
            rows_focus (end_number es (e + 1)) (at (e + 1) l) (file_quiet s (length es - 1 - (e + 1)) (omega arith));
        counts = C;
        records = counts_held s C;
      }

module _ {file : List ℕ} {at : Place} {carry : List ℕ} {M : Memory} {B₀ B : Buffers} (G : Going file at carry M B₀ B) (all : at.used ≡ length file) where
  pub closes : {r : FinishResult} {M' : Memory} {l l' c : ℕ} {out out' : List ℕ} {rows : List ℤ} {words : List ℕ} {some : Bool}
      → FinishesWith (take at.used file) M r M' → r.line.len ≤ 64 → r.verdict.len ≤ 64
      → Put r.line at.len l B.out out → some ≡ not (eqb r.line.len 0)
      → EndKept some at.player.n at.player.listeners at.player.struck M'.positions at.count c B.rows B.words rows words
      → Put r.verdict l l' out out'
      → Whole file (record { number = r.number; len = l'; ends = c; since = r.since }) B₀ (record { out = out'; rows = rows; words = words })
  closes {r} {M'} {l'} {c} {out'} {rows} {words} E short short' P flag K Q =
      let s = take at.used file in
      let is : s ≡ file = take_all at.used file (omega arith) in
      let F = read_file s in
      let L = G.state in
      let room = roomy file B₀ G.room in
      let n-s = ap length is in
      let few : length (ends_played F) ≤ most_ends file = few_in at.used file (omega arith) (few_ends s) in
      let ended : (x : PhaseEnd) → ends_played F ≡ x ∷ ends_so_far F → (ring_at_end F).round ≡ 0
      → AtEnd F.setup.n F.setup.listeners x (ring_at_end F) at.player.struck M'.positions =
      λ x e z.
      let begun = begun_at F x _ e in
      record { is = sym (last_struck F x e ∙ L.player.struck); held = last_held s begun (E.finishes.held begun) z x e } in
      let (holds, small) = told_more G.holds room G.small short few {R = ring_at_end F} ended P flag (rw (← L.player.n, ← L.player.listeners) at K) E.grown in
      let (len, put) = Q.puts short' (omega (arith, out_long holds (omega (arith, holds.count, room.out)), holds.count, room.out)) in
      let whole =
      whole_told s {r = record { number = r.number; len = l'; ends = c; since = r.since }} {B₀ = B₀} {B = record { out = out'; rows = rows; words = words }} E.number
      (rw (E.finishes.shows ∙ sym (append_assoc (shown F) (bytes_of r.line) (bytes_of r.verdict)), len) (told_put holds (bytes_of r.verdict) r.verdict.len (Q.long short') put)) E.counts in
      rw (← is) whole
