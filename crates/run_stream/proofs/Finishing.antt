-- The end of the file: by the player's numbers it ends as the definition says, and what is left to show is the last round's line, if it is played, and
-- the verdict. The memory then holds what the rounds played leave, which keeps demand 3.
use mathlib.Core.Path.{◌≡◌, refl, ap, sym, ◌∙◌}
use mathlib.Core.Bool.{Bool, true, false, cond, ◌&&◌, true≢false}
use mathlib.Core.List.{List, [], ◌∷◌, ◌++◌, append_assoc}
use Prim.Native.Nat.{ℕ, suc}
use native.Mathlib.Omega.{arith}
use lib.Dec.{eqb}
use lib.ListN.{length}
use borrow.Author.Tests.{eqb-true, eqb-false, eq-eqb, ne_eqb}
use Rattle.terms.specs.Refusals as refusal
use Rattle.terms.specs.Refusals.{check}
use Rattle.ring_spec.specs.Rounds.{Round, ends_phase, ring_after}
use Rattle.fields.specs.Bytes.{is_empty}
use Rattle.run_spec.specs.RunFile.{File, then_played, read_file, ends_so_far, ending, rounds_played, ends_played, ring_from, ends_from}
use Rattle.run_spec.specs.Listing.{title, lines, verdict, shown, listing_of}
use Rattle.texts.specs.declared.Text.{Text}
use Rattle.texts.specs.Texts.{bytes_of}
use Rattle.run_state.specs.declared.Player.{Player}
use Rattle.run_state.specs.Memory.{Memory}
use Rattle.run_state.specs.Heads.{HeadsOf}
use Rattle.run_state.specs.State.{agreed_before}
use Rattle.run_state.specs.Counts.{CountsOf, counts_then, counts_played}
use Rattle.run_state.proofs.Counts.{round_counted}
use Rattle.run_round.specs.Played.{Played}
use Rattle.run_piece.specs.Advances.{StateAt, Grown, none}
use Rattle.run_piece.proofs.Growing.{next_grown}
use Rattle.texts.proofs.Writing.{empty_text}
use Rattle.run_stream.specs.Finish.{FinishesWith}
use Rattle.run_stream.specs.Inner.{ending_of}
use Rattle.run_round.proofs.Converging.{held_converges}
use Rattle.run_piece.proofs.Feeding.{unshown}

empty_length : (l : List ℕ) → is_empty l ≡ eqb (length l) 0
empty_length [] = refl
empty_length (x ∷ l) = sym (ne_eqb (suc (length l)) 0 (omega arith))

-- a file that ends well has begun
begun_by : (p : Player) → ending_of p ≡ 0 → p.begun ≡ true
unfolding ending_of
begun_by p e = go p.begun (eqb p.fault 0) refl e
  where
    go : (b ok : Bool) → eqb p.fault 0 ≡ ok → check ok p.fault (check (b && eqb p.have 0 && ends_phase p.family p.given) refusal.bad_run_record 0) ≡ 0 → b ≡ true
    go true ok f e = refl
    go false true f e = absurd (omega arith)
    go false false f e = absurd (eqb-false p.fault 0 f e)

-- the rounds played are those played before, if the last one is not
unplayed : (ok w : Bool) (ws : List Round) (x : Round) → (ok ≡ true → w ≡ false) → cond ok (then_played w ws x) ws ≡ ws
unplayed true true ws x h = absurd (true≢false (h refl))
unplayed true false ws x h = refl
unplayed false w ws x h = refl

module _ {a : List ℕ} {p : Player} {carry : List ℕ} {M : Memory} (L : StateAt a p carry M) where
  abbrev F : File
  F = read_file a

  ends_by : ending F ≡ ending_of p
  unfolding ending ending_of
  ends_by = rw (empty_length F.part, ← L.have, L.player.fault, L.player.begun, L.player.family, L.player.given)

  -- the rounds ws are played in all, and the memory holds what they leave
  ends : {n : ℕ} {line v : Text} {since : List ℕ} {M' : Memory} (ws : List Round) → rounds_played F ≡ ws
      → title ++ lines F.setup.n F.setup.listeners (cond F.setup.begun (ends_from F.setup ws) []) ≡ shown F ++ bytes_of line
      → n ≡ ending_of p → bytes_of v ≡ verdict n
      → (F.setup.begun ≡ true → HeadsOf F.setup.n F.setup.listeners (agreed_before F) (ring_from F.setup ws) M')
      → (ws ≡ F.rounds.played → M' ≡ M)
      → Grown F.setup.n F.setup.listeners (ends_so_far F) (cond F.setup.begun (ends_from F.setup ws) []) (ring_from F.setup ws) (bytes_of line)
      → CountsOf F.setup.family ws since
      → FinishesWith a M (record { number = n; line = line; verdict = v; since = since }) M'
  unfolding listing_of ends_played rounds_played
  ends {line} {v = t} ws e l i v K U G C =
      let whole : listing_of F ≡ shown F ++ bytes_of line ++ bytes_of t = rw (e, l, v, i, ends_by) in
      record {
        number = i ∙ sym ends_by;
        finishes =
            record {
              shows = whole ∙ append_assoc (shown F) (bytes_of line) (bytes_of t);
              held = rw (← e) at K;
              unplayed = rw (← e) at U;
              demand3 = held_converges (eqb (ending F) 0) a (rw (← e) at K);
            };
        grown = rw (← e) at G;
        counts = rw (← e) at C;
      }

  -- the counts when the pending round is played
  last_counted : F.rounds.pending ≡ true
      → CountsOf F.setup.family (F.rounds.last ∷ F.rounds.played) (counts_then (ends_phase p.family p.given) p.struck p.since)
  last_counted pending =
      let T = L.player in
      let z : p.given ≡ suc (length F.rounds.played) = sym T.given ∙ rw pending (omega arith) in
      rw (z, ← T.family, ← T.struck) (round_counted F.setup.family F.rounds.played F.rounds.last p.since T.since)

  -- the pending round is played
  pub ends_played_lem : {line v : Text} {M' : Memory} {n : ℕ} → n ≡ ending_of p → n ≡ 0 → p.pending ≡ true
      → bytes_of v ≡ verdict n → (F.setup.begun ≡ true → F.rounds.pending ≡ true → Played F line M')
      → {since : List ℕ} → since ≡ counts_played p
      → FinishesWith a M (record { number = n; line = line; verdict = v; since = since }) M'
  unfolding shown rounds_played ring_after
  ends_played_lem {line} {n} e z w v P {since} counted =
      let begun = L.player.begun ∙ begun_by p (sym e ∙ z) in
      let pending = L.player.pending ∙ w in
      let played = P begun pending in
      ends (F.rounds.last ∷ F.rounds.played) (rw (eq-eqb (ending F) 0 (ends_by ∙ sym e ∙ z), pending))
      (rw (begun, played.shows) (sym (append_assoc title _ (bytes_of line))))
      e v (λ b. played.keeps) (λ same. absurd (omega (arith, ap length same)))
      (rw begun (next_grown F.setup.family F.setup.n F.setup.listeners F.setup.f F.setup.first F.rounds.played F.rounds.last played.shows))
      (rw (counted, w) (last_counted pending))

  -- no round is played
  pub ends_unplayed : {line v : Text} {n : ℕ} → n ≡ ending_of p → (n ≡ 0 → p.pending ≡ false) → bytes_of v ≡ verdict n → line.len ≡ 0
      → FinishesWith a M (record { number = n; line = line; verdict = v; since = p.since }) M
  unfolding shown rounds_played
  ends_unplayed {line} {n} e idle v empty =
      let same =
      unplayed (eqb (ending F) 0) F.rounds.pending F.rounds.played F.rounds.last
      (λ t. L.player.pending ∙ idle (e ∙ sym ends_by ∙ eqb-true (ending F) 0 t)) in
      ends F.rounds.played same (unshown line refl empty) e v L.memory.keeps (λ same. refl) (none refl (empty_text line empty)) L.player.since
