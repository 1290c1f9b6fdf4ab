-- What a step makes of the file read so far: after a fault nothing, of bytes that end inside a record the bytes kept, of a whole record what it is judged.
use mathlib.Core.Path.{◌≡◌, refl, ap, sym, ◌∙◌}
use mathlib.Core.Bool.{Bool, true, false, and-false}
use mathlib.Core.List.{List, [], ◌++◌, append-nil}
use Prim.Native.Nat.{ℕ, ◌+◌, ◌≤◌, ◌<◌}
use native.Mathlib.Omega.{arith}
use native.Mathlib.Decide.{dec_le}
use lib.Dec.{eqb}
use lib.ListN.{length, take, drop, length-append, take-append-drop}
use lib.Seq.{length-take-le, take-take}
use borrow.Author.Rules.{rules}
use Rattle.terms.specs.Refusals as refusal
use Rattle.run_spec.specs.RunFile.{File, unread, length_in, kind_in, judged, stopped, with_part, feed, read_file, accepted}
use Rattle.run_spec.specs.Listing.{shown}
use Rattle.run_spec.proofs.Streaming.{feed_append, part_shows, stop_shows}
use Rattle.run_spec.proofs.Whole.{stands, Cut, Heads, heads_take, heads_stand, stands_long, feed_cut, feed_refused, feed_whole, feed_stopped, judged_empty, kept, kept_on}
use Rattle.run_spec.proofs.Bytes.{cost, none_accepted}
use Rattle.texts.specs.declared.Text.{Text}
use Rattle.texts.specs.Texts.{bytes_of}
use Rattle.run_state.specs.declared.Player.{Player}
use Rattle.run_record.specs.declared.RecordResult.{RecordResult}
use Rattle.run_state.specs.Memory.{Memory}
use Rattle.run_state.specs.Changes.{halted}
use Rattle.run_state.specs.State.{PlayerOf, MemoryOf}
use Rattle.run_state.proofs.Told.{part_tells, allowed_as}
use Rattle.run_record.specs.Next.{allowed_to, record_taken, Next}
use Rattle.texts.proofs.Writing.{empty_text}
use Rattle.run_round.proofs.Converging.{held_converges}
use Rattle.run_record.proofs.Records.{stopped_next, taken_allowed, not_due}
use Rattle.run_piece.specs.declared.FeedResult.{FeedResult}
use Rattle.run_piece.specs.Advances.{StateAt, Advances, GrownTo, AdvancesOnce}
use Rattle.run_piece.specs.Steps.{Quiet, Used}
use Rattle.run_piece.specs.Inner.{Missing, BeginsWhole, headed_to, RecordTaken}
use Rattle.run_piece.proofs.Growing.{grown_none, judged_grown}

-- from the player p and the memory M: no record was accepted by which F became G, so that the memory M' is the same, and the player q but for part and fault
abbrev pub Idle : File → File → Player → Memory → Player → Memory → Type 0
Idle F G p M q M' = accepted G ≡ accepted F → (M' ≡ M) × (q ≡ halted p q.have q.fault)

-- in the state after a and the bytes after it, with what they show, demand 3 is kept
pub shows_there : {a xs : List ℕ} {p q : Player} {text carry : List ℕ} {M M' : Memory}
    → StateAt (a ++ xs) q carry M' → shown (read_file (a ++ xs)) ≡ shown (read_file a) ++ text → Idle (read_file a) (read_file (a ++ xs)) p M q M'
    → Advances a xs p M q text carry M'
shows_there {a} {xs} L s i = record { state = L; shows = s; idle = i; demand3 = held_converges false (a ++ xs) L.memory.keeps }

-- the bytes make G of the file, and the player q stands there
follows : {a xs : List ℕ} {p r : Player} {text carry : List ℕ} {M M' : Memory}
    (q : Player) (G : File) → r ≡ q → feed (read_file a) xs ≡ G → PlayerOf q G → G.part ≡ take q.have carry → q.have ≡ length G.part
    → MemoryOf G M' → shown G ≡ shown (read_file a) ++ text → Idle (read_file a) G p M q M' → GrownTo (read_file a) G text
    → AdvancesOnce a xs p M r text carry M'
follows {a} {xs} q G e f t part h m s i g =
    let is : read_file (a ++ xs) ≡ G = feed_append unread a xs ∙ f in
    record {
      advances = shows_there (record { player = rw (e, is) t; part = rw (e, is) part; have = rw (e, is) h; memory = rw is m }) (rw is s) (rw (e, is) i);
      grown = rw is g;
    }

pub used_as : {a : List ℕ} {p q : Player} {text carry : List ℕ} {M M' : Memory} {m n : ℕ} (rest : List ℕ) → m ≡ n
    → AdvancesOnce a (take n rest) p M q text carry M' → AdvancesOnce a (take m rest) p M q text carry M'
used_as rest e f = rw e f

-- a whole record b that is allowed is judged
abbrev Judges : Player → List ℕ → RecordResult → Memory → Memory → Type 0
Judges p b t M M' =
    (a : List ℕ) → PlayerOf p (read_file a) → MemoryOf (read_file a) M → stands (read_file a) b ≡ true → length b ≡ length_in b
    → Next (read_file a) (judged (kind_in b) (read_file a) b) p M t M'

-- so it is by what `run_record::take_record` promises of any bytes b
pub judges : {p : Player} {t : RecordResult} {M M' : Memory} (b : List ℕ)
    → ((a : List ℕ) → PlayerOf p (read_file a) → MemoryOf (read_file a) M → Next (read_file a) (record_taken (read_file a) b) p M t M') → Judges p b t M M'
judges b N a T H may all = rw (← taken_allowed (read_file a) b all may) (N a T H)

-- bytes that are not there
pub none_there : {a : List ℕ} {p : Player} {carry : List ℕ} {M : Memory} → StateAt a p carry M → AdvancesOnce a [] p M p [] carry M
none_there {a} L =
    record {
      advances = shows_there (rw (append-nil a) L) (rw (append-nil a) (sym (append-nil (shown (read_file a))))) (λ e. (refl, refl));
      grown = rw (append-nil a) (grown_none (read_file a) (read_file a) refl refl (sym (append-nil (shown (read_file a)))));
    }

-- an empty text shows nothing
pub unshown : {x y : List ℕ} (t : Text) → x ≡ y → t.len ≡ 0 → x ≡ y ++ bytes_of t
unshown {y} t e none = rw (e, empty_text t none) (sym (append-nil y))

-- bytes of a record, gathered: as many as are missing, or all that there are
pub record Gathered (have : ℕ) (before rest carry : List ℕ) (want used : ℕ) : Type 0 where
  pub within : used ≤ length rest
  pub some : 0 < length rest → 0 < used
  pub most : used ≤ want
  pub missing : Missing have before want
  pub put : take (have + used) carry ≡ take have before ++ take used rest

pub put_all : (have used : ℕ) (before rest carry : List ℕ) {x : List ℕ} → used ≤ length rest → x ≡ take used rest
    → take (have + length x) carry ≡ take have before ++ x → take (have + used) carry ≡ take have before ++ take used rest
put_all have used before rest carry h e g = rw (length-take-le used rest h) at (rw e at g)

pub uses : {have : ℕ} {before rest carry : List ℕ} {want used : ℕ} {r : FeedResult} → Gathered have before rest carry want used → r.used ≡ used → r.text.len ≤ 64
    → Used rest r
uses G e room = record { within = omega (arith, e, G.within); some = λ h. omega (arith, e, G.some h); room = room }

pub has_room : {t : RecordResult} {n : ℕ} {r : FeedResult} → RecordTaken t n r → t.text.len ≤ 64 → r.text.len ≤ 64
has_room T h = rw T.text h

pub uses_one : {p : Player} {rest : List ℕ} {used : ℕ} {t : RecordResult} {r : FeedResult} → BeginsWhole p rest → used ≡ length_in rest → RecordTaken t used r → t.text.len ≤ 64
    → Used rest r
uses_one W u T h =
    record { within = omega (arith, T.used, W.within); some = λ k. omega (arith, T.used, W.long); room = has_room T h }

pub uses_all : {q : Player} {rest : List ℕ} {r : FeedResult} → Quiet q (length rest) r → Used rest r
uses_all Q = record { within = omega (arith, Q.used); some = λ h. omega (arith, Q.used); room = omega (arith, Q.none) }

-- a player that is halted at once is the same but for part and fault
halts : (p : Player) {q : Player} {h c : ℕ} → q ≡ halted p h c → q ≡ halted p q.have q.fault
halts p e = rw e refl

module _ {a : List ℕ} {p : Player} {before : List ℕ} {M : Memory} (L : StateAt a p before M) where
  abbrev F : File
  F = read_file a

  -- what is kept of a record leaves room for the rest of it
  pub overfull : 1026 ≤ p.have → ⊥
  overfull h =
      let (may, few) = kept a (omega (arith, L.have)) in
      omega (arith, L.have, (stands_long (kind_in F.part) _ _ _ _ (length_in F.part) may).1)

  -- after a fault nothing is read
  pub rests : {xs : List ℕ} {n : ℕ} {r : FeedResult} → (p.fault ≡ 0 → ⊥) → Quiet p n r → AdvancesOnce a xs p M r.player (bytes_of r.text) before M
  rests {xs} {r} fault Q =
      let s : shown F ≡ shown F ++ bytes_of r.text = unshown r.text refl Q.none in
      follows p F Q.player (feed_stopped F xs (λ z. fault (sym L.player.fault ∙ z))) L.player L.part L.have L.memory s
      (λ e. (refl, refl)) (grown_none F F refl refl s)

  -- what a record makes of it
  becomes : {r : FeedResult} {t : RecordResult} {used : ℕ} {carry : List ℕ} {M' : Memory} (rest : List ℕ) (G : File) → feed F (take used rest) ≡ G → G.part ≡ []
      → RecordTaken t used r → Next F G p M t M' → (accepted G ≡ accepted F → G.fault ≡ 0 → ⊥) → GrownTo F G (bytes_of t.text)
      → AdvancesOnce a (take r.used rest) p M r.player (bytes_of r.text) carry M'
  becomes {t} rest G is none T n fault g =
      used_as rest T.used
      (follows t.player G T.player is n.player (rw (none, n.whole)) (n.whole ∙ ap length (sym none)) n.memory (rw T.text n.shows)
      (λ e. let (same, q) = n.refused (fault e) in (same, halts p q)) (rw T.text g))

  module _ {r : FeedResult} {t : RecordResult} {used : ℕ} {b carry : List ℕ} {M' : Memory} (rest : List ℕ) (ok : p.fault ≡ 0) (T : RecordTaken t used r) (N : Judges p b t M M') where
    -- a whole record b is taken
    takes : F.part ++ take used rest ≡ b → 0 < length (take used rest) → stands F b ≡ true → length b ≡ length_in b
        → AdvancesOnce a (take r.used rest) p M r.player (bytes_of r.text) carry M'
    takes is some may all =
        let n = N a L.player L.memory may all in
        becomes rest (judged (kind_in b) F b) (rw (← is) (feed_whole F (L.player.fault ∙ ok) (take used rest) some (rw is may) (rw is all)))
        (judged_empty (kind_in b) F b) T n
        (none_accepted (kind_in b) F b (length_in b) may (cost a).begun) (judged_grown F b (kind_in b) (length_in b) may n.shows)

    -- it stands in the piece
    pub stands_there : BeginsWhole p rest → allowed_to p rest ≡ true → used ≡ length_in rest → b ≡ take used rest
        → AdvancesOnce a (take r.used rest) p M r.player (bytes_of r.text) carry M'
    stands_there W may u e =
        let none : F.part ≡ [] = L.part ∙ ap (λ (n : ℕ). take n before) W.fresh in
        let same : Heads b rest = rw (← e) at (heads_take used rest (omega (arith, W.long))) in
        let long = length-take-le used rest (omega (arith, W.within)) in
        takes (ap (λ (l : List ℕ). l ++ take used rest) none ∙ sym e) (omega (arith, W.long))
        (heads_stand F same ∙ allowed_as L.player (kind_in rest) (length_in rest) ∙ may)
        (ap length e ∙ long ∙ u ∙ sym same.long)

  -- a record that stands in the piece is taken: one that is not allowed stops the file at its header, and the rest of it is not read
  pub whole_there : {r : FeedResult} {t : RecordResult} {used : ℕ} {b carry : List ℕ} {M' : Memory} (rest : List ℕ) → p.fault ≡ 0 → RecordTaken t used r
      → ((a' : List ℕ) → PlayerOf p (read_file a') → MemoryOf (read_file a') M → Next (read_file a') (record_taken (read_file a') b) p M t M')
      → BeginsWhole p rest → used ≡ length_in rest → b ≡ take used rest → AdvancesOnce a (take r.used rest) p M r.player (bytes_of r.text) carry M'
  whole_there {r} {t} {used} {b} {carry} {M'} rest ok T N W u e = go (allowed_to p rest) refl
    where
      none : F.part ≡ []
      none = L.part ∙ ap (λ (n : ℕ). take n before) W.fresh

      go : (may : Bool) → allowed_to p rest ≡ may → AdvancesOnce a (take r.used rest) p M r.player (bytes_of r.text) carry M'
      go true may = stands_there rest ok T (judges b N) W may u e
      go false may =
          let same : Heads b rest = rw (← e) at (heads_take used rest (omega (arith, W.long))) in
          let stops : record_taken F b ≡ stopped F refusal.bad_run_record =
          not_due L.player b (rw (same.kind, same.long, may) (and-false (eqb (length b) (length_in rest)))) in
          let header : feed F (take 4 rest) ≡ stopped F refusal.bad_run_record =
          let four : length (take 4 rest) ≡ 4 = length-take-le 4 rest (omega (arith, W.long, W.within)) in
          feed_refused F (L.player.fault ∙ ok) (take 4 rest) (omega arith) (rw none four)
          (rw none (heads_stand F (heads_take 4 rest (omega arith)) ∙ allowed_as L.player (kind_in rest) (length_in rest) ∙ may)) in
          let split : take used rest ≡ take 4 rest ++ drop 4 (take used rest) =
          sym (take-append-drop 4 (take used rest)) ∙ ap (λ (l : List ℕ). l ++ drop 4 (take used rest)) (take-take 4 used rest (omega (arith, W.long))) in
          let is : feed F (take used rest) ≡ stopped F refusal.bad_run_record =
          rw split (feed_append F (take 4 rest) (drop 4 (take used rest)) ∙ rw header (feed_stopped (stopped F refusal.bad_run_record) (drop 4 (take used rest)) (λ z. omega arith))) in
          let n = rw stops at (N a L.player L.memory) in
          becomes rest (stopped F refusal.bad_run_record) is refl T n (λ x z. omega arith)
          (grown_none F (stopped F refusal.bad_run_record) refl (stop_shows F refusal.bad_run_record) n.shows)

  module _ {rest carry : List ℕ} {want used : ℕ} (G : Gathered p.have before rest carry want used) (ok : p.fault ≡ 0) where
    abbrev s : List ℕ
    s = F.part ++ take used rest

    s_long : length s ≡ p.have + used
    s_long = omega (arith, length-append F.part (take used rest), length-take-le used rest G.within, L.have)

    s_there : take (p.have + used) carry ≡ s
    s_there = G.put ∙ ap (λ (l : List ℕ). l ++ take used rest) (sym L.part)

    -- if the header is there, the record is allowed, and the header says how long it is
    due : 4 ≤ p.have → (stands F s ≡ true) × (p.have + want ≡ length_in s)
    due h =
        let (may, same, few) = kept_on F (kept a) (take used rest) (omega (arith, L.have)) in
        let long : length_in before ≡ length_in s = sym (ap length_in L.part ∙ (heads_take p.have before h).long) ∙ same in
        (may, G.missing.rest h (omega (arith, L.have)) ∙ long)

    -- still cut
    stays : {r : FeedResult} {q : Player} (m : ℕ) → Cut F s (length s) → m ≡ length s → q ≡ halted p m p.fault → Quiet q used r
        → AdvancesOnce a (take r.used rest) p M r.player (bytes_of r.text) carry M
    stays {r} {q} m cut long is Q =
        let h : q.have ≡ length s = ap (λ (x : Player). x.have) is ∙ long in
        let text = unshown r.text (part_shows F s) Q.none in
        used_as rest Q.used
        (follows q (with_part F s) Q.player (feed_cut F (L.player.fault ∙ ok) (take used rest) cut)
        (rw is (part_tells L.player s m)) (rw (h, s_long) (sym s_there)) h (search (rules, L.memory)) text
        (λ e. (refl, halts p is)) (grown_none F (with_part F s) refl (part_shows F s) text))

    pub grows : {r : FeedResult} {q : Player} → used < want → q ≡ halted p (p.have + used) p.fault → Quiet q used r
        → AdvancesOnce a (take r.used rest) p M r.player (bytes_of r.text) carry M
    grows few is Q = stays (p.have + used) (go (dec_le 4 p.have)) (sym s_long) is Q
      where
        go : Dec (4 ≤ p.have) → Cut F s (length s)
        go (yes k) l = ((due k).0, omega (arith, s_long, (due k).1))
        go (no k) l = absurd (omega (arith, s_long, G.missing.header (omega arith)))

    -- the header is there
    pub heads : {r : FeedResult} {q : Player} → p.have < 4 → want ≤ used → q ≡ headed_to p (allowed_to p carry) → Quiet q used r
        → AdvancesOnce a (take r.used rest) p M r.player (bytes_of r.text) carry M
    heads {r} {q} few full is Q = go (stands F s) refl (is ∙ ap (headed_to p) (sym same))
      where
        four : p.have + used ≡ 4
        four = omega (arith, G.missing.header few, G.most)

        same : stands F s ≡ allowed_to p carry
        same =
            heads_stand F (rw s_there at (heads_take (p.have + used) carry (omega (arith, four))))
            ∙ allowed_as L.player (kind_in carry) (length_in carry)

        go : (b : Bool) → stands F s ≡ b → q ≡ headed_to p b → AdvancesOnce a (take r.used rest) p M r.player (bytes_of r.text) carry M
        go true may is =
            let long = (stands_long (kind_in s) _ _ _ _ (length_in s) may).0 in
            stays 4 (λ k. (may, omega (arith, s_long, four))) (omega (arith, s_long, four)) is Q
        go false no_place is =
            let some : 0 < length (take used rest) = omega (arith, four, length-take-le used rest G.within) in
            let n = stopped_next {F = F} {p = p} {M = M} {r = record { player = q; text = r.text }} L.player L.memory is Q.none in
            becomes rest (stopped F refusal.bad_run_record) (feed_refused F (L.player.fault ∙ ok) (take used rest) some (s_long ∙ four) no_place) refl
            (record { player = Q.player; used = Q.used; text = refl }) n (λ e z. omega arith)
            (grown_none F (stopped F refusal.bad_run_record) refl (stop_shows F refusal.bad_run_record) n.shows)

    -- the record is there
    pub ends : {r : FeedResult} {t : RecordResult} {b : List ℕ} {M' : Memory} → 4 ≤ p.have → want ≤ used → b ≡ take (p.have + used) carry → RecordTaken t used r
        → Judges p b t M M' → AdvancesOnce a (take r.used rest) p M r.player (bytes_of r.text) carry M'
    ends {b} h full e T N =
        let is : s ≡ b = sym (e ∙ s_there) in
        let (may, all) = due h in
        let whole : length s ≡ length_in s = omega (arith, s_long, G.most) in
        takes rest ok T N is (omega (arith, length-take-le used rest G.within, G.missing.some)) (rw (← is) may) (rw (← is) whole)
