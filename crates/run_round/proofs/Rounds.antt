-- The pending round, played. What the player tells of the file is the stage that its round needs, and the memory holds the planted bytes and the records, so
-- the memory keeps step with the ring; by its number it is the last of its phase, whose line is made of the new positions, or not, and then it shows nothing.
use Rattle.std.specs.Prelude.{None, Some}
use mathlib.Core.Path.{◌≡◌, refl, ap, sym, subst, ◌∙◌}
use mathlib.Core.Bool.{Bool, true, false, cond, true≢false}
use mathlib.Core.List.{List, [], ◌∷◌, ◌++◌}
use Prim.Native.Nat.{ℕ, ◌+◌, ◌-◌, ◌/◌, ◌%◌, ◌≤◌}
use native.Mathlib.Omega.{arith}
use lib.ListN.{length, get_or}
use lib.IntN.{pos}
use Rattle.terms.specs.Sizes.{ends_with}
use Rattle.terms.specs.Entry.{Entry}
use Rattle.terms.specs.declared.Family.{Family}
use Rattle.terms.specs.declared.Family.TheVariants.{TwoRounds, OneRound}
use Rattle.marks.specs.Marks.{bit_of}
use Rattle.marks.proofs.Words.{word_low, word_high}
use Rattle.entries.specs.Tables.{table_of}
use Rattle.terms.specs.Counting.{AtMost}
use Rattle.head_spec.specs.declared.Head.{Head}
use Rattle.ring_spec.specs.Rounds.{Round, lost, Ring, phase_of, ends_phase, most_rounds, PhaseEnd, phase_end}
use Rattle.ring_spec.specs.Agreed.{is_agreed}
use Rattle.ring_spec.proofs.Counts.{next_phase}
use Rattle.ring_spec.proofs.Demand3.{Playable}
use Rattle.run_spec.specs.RunFile.{File, ends_from}
use Rattle.run_spec.specs.Listing.{line, lines}
use Rattle.run_spec.proofs.Reached.{Reached}
use Rattle.run_spec.proofs.Streaming.{round_line, lines_next}
use Rattle.ring_play.specs.declared.Stage.{Stage}
use Rattle.ring_play.specs.Memory.{heads, hears, settles, InRange, list_entry, row_in, Sayable, new_position, heard_position}
use Rattle.frame_slots.specs.Slots.{planted_in}
use Rattle.texts.specs.declared.Text.{Text}
use Rattle.texts.specs.Texts.{bytes_of}
use Rattle.run_listing.specs.Texts.{end_line}
use Rattle.run_listing.proofs.Lines.{line_is}
use Rattle.run_state.specs.declared.Player.{Player}
use Rattle.run_state.specs.Memory.{Memory}
use Rattle.run_state.specs.Heads.{HeadsOf}
use Rattle.run_state.specs.State.{ring_before, agreed_before, PlayerOf, MemoryOf}
use Rattle.run_round.specs.Played.{Played}
use Rattle.run_round.specs.Inner.{stage_of, line_of, ring_played, Kept}
use Rattle.run_round.proofs.Carried.{StagePlays}
use Rattle.run_round.proofs.Keeping.{no_position, EndHeld, end_keeps, collection_keeps, collect_keeps, confess_ends, conclude_ends}
use Rattle.run_round.proofs.Agreeing.{agreed_stays, agreed_end}
use Rattle.run_round.proofs.Waiting.{given_number, ends_as, waiting_playable}
use Rattle.run_round.proofs.Shown.{no_line, last_line}

-- by the family, whatever it is called
module _ {n m f : ℕ} {R : Ring} {w : Round} {s : Stage} {plant : ℕ → ℕ → List ℕ} {A : Entry} {M : Memory} where
  in_two : (K : Family) → K ≡ TwoRounds → StagePlays n m f R w s plant → HeadsOf n m A R M → A ≡ None → Playable K n f R → AtMost f n (bit_of w.struck)
      → ends_with K R.round ≡ true → (M' : Memory)
      → (Sayable s M.marks M.lists → (i : ℕ) → get_or M'.positions i (pos 0)
      ≡ cond (settles s i) (new_position s M.marks M.lists plant i) (get_or M.positions i (pos 0)))
      → EndHeld K n m f R w M'
  in_two K e P H fresh D few last M' new =
      subst (λ (k : Family). EndHeld k n m f R w M') (sym e)
      (confess_ends P H fresh (subst (λ (k : Family). Playable k n f R) e D) few (ap (λ (k : Family). ends_with k R.round) (sym e) ∙ last) M' new)

  in_one : (K : Family) → K ≡ OneRound → StagePlays n m f R w s plant → HeadsOf n m A R M → Playable K n f R → AtMost f n (bit_of w.struck) → (M' : Memory)
      → (InRange s M.positions → (i : ℕ) → get_or M'.positions i (pos 0) ≡ cond (settles s i) (heard_position s M.positions plant i) (get_or M.positions i (pos 0)))
      → EndHeld K n m f R w M'
  in_one K e P H D few M' new =
      subst (λ (k : Family). EndHeld k n m f R w M') (sym e) (conclude_ends P H (subst (λ (k : Family). Playable k n f R) e D) few M' new)

-- a phase end, by what it shows
end_shown : (K : Family) (before struck : ℕ) (heads : ℕ → Head) → let e = phase_end K before struck (λ i. lost) in
    phase_end K before struck heads ≡ record { collect = e.collect; confess = e.confess; struck = struck; heads = heads }
end_shown TwoRounds before struck heads = refl
end_shown OneRound before struck heads = refl

-- by the flag
pub not_agreed : (A : Entry) → is_agreed A ≡ false → A ≡ None
not_agreed None e = refl
not_agreed (Some u) e = absurd (true≢false e)

-- 16 bits hold the phase
phase_here : (K : Family) (k g p : ℕ) → k + 1 ≡ g → g ≤ most_rounds K → p ≡ phase_of K (k + 1) → phase_of K g % 65536 ≡ p
phase_here TwoRounds k g p e l h = omega arith
phase_here OneRound k g p e l h = omega arith

module _ {F : File} {p : Player} {s : Stage} {M : Memory}
    (I : Reached F) (begun : F.setup.begun ≡ true) (pending : F.rounds.pending ≡ true) (T : PlayerOf p F) (H : MemoryOf F M)
    (is : s ≡ stage_of p) where
  abbrev R : Ring
  R = ring_before F

  abbrev plant : ℕ → ℕ → List ℕ
  plant = planted_in M.planted M.lengths

  plays : StagePlays F.setup.n F.setup.listeners F.setup.f R F.rounds.last s plant
  plays =
      rw is
      record {
        count = sym T.n;
        limit = sym T.f;
        phase =
            ap (λ (k : Family). phase_of k p.given % 65536) (sym T.family)
            ∙ phase_here F.setup.family (length F.rounds.played) p.given R.phase (given_number T pending) (rw T.given at I.count)
            (next_phase F.setup.family F.setup.n F.setup.f F.setup.first F.rounds.played);
        listeners = sym T.listeners;
        few = I.listeners;
        before = λ k l. rw T.before (sym (word_low p.before 32 k l));
        struck = λ k l. rw T.struck (sym (word_low p.struck 32 k l));
        away = λ i h l. rw T.struck (sym (word_high p.struck 32 i h ∙ word_low (p.struck / 4294967296) 32 (i - 32) (omega arith)));
        plants = H.slots pending;
      }

  abbrev lines_of : List Round → List ℕ
  lines_of ws = lines F.setup.n F.setup.listeners (ends_from F.setup ws)

  shows : {text : List ℕ} → round_line F.setup.family F.setup.n F.setup.listeners F.setup.f R F.rounds.last ≡ text
      → lines_of (F.rounds.last ∷ F.rounds.played) ≡ lines_of F.rounds.played ++ text
  shows e =
      lines_next F.setup.family F.setup.n F.setup.listeners F.setup.f F.setup.first F.rounds.played F.rounds.last
      ∙ ap (λ (l : List ℕ). lines_of F.rounds.played ++ l) e

  -- whether it is the last of its phase
  last_as : {b : Bool} → ends_phase p.family p.given ≡ b → ends_with F.setup.family R.round ≡ b
  last_as = ends_as T pending

  abbrev K : Family
  K = F.setup.family

  abbrev ready : Playable K F.setup.n F.setup.f R
  ready = waiting_playable F I pending

  -- ---- what the memory keeps: of a round that does not end its phase

  pub collection_kept : ends_phase p.family p.given ≡ false → {M' : Memory} → M'.positions ≡ M.positions
      → (InRange s M.positions → (i : ℕ) → row_in M'.marks M'.lists i
      ≡ cond (hears s i) (table_of (heads s) (list_entry s M.positions plant i)) (row_in M.marks M.lists i))
      → Kept F M'
  collection_kept opens same new =
      record {
        keeps = collect_keeps plays (H.keeps begun) ready.ready (last_as opens) same new;
        level = λ u a i l. rw same (H.level begun u a i l);
        ends = λ last. absurd (true≢false (sym last ∙ last_as opens));
      }

  -- and of one that does, in a ring that has not agreed

  held_kept : p.agreed ≡ false → ends_with K R.round ≡ true → (M' : Memory)
      → EndHeld K F.setup.n F.setup.listeners F.setup.f R F.rounds.last M' → Kept F M'
  held_kept fresh last M' held =
      record {
        keeps = end_keeps K F.setup.n F.setup.listeners F.setup.f R F.rounds.last M' ready.ready last held (agreed_before F);
        level = λ u a. no_position (sym (not_agreed (agreed_before F) (T.agreed ∙ fresh)) ∙ a);
        ends = λ e. held;
      }

  pub confession_kept : p.agreed ≡ false → p.family ≡ TwoRounds → ends_phase p.family p.given ≡ true → {M' : Memory}
      → (Sayable s M.marks M.lists → (i : ℕ) → get_or M'.positions i (pos 0)
      ≡ cond (settles s i) (new_position s M.marks M.lists plant i) (get_or M.positions i (pos 0)))
      → Kept F M'
  confession_kept fresh two ends {M'} new =
      held_kept fresh (last_as ends) M'
      (in_two K (T.family ∙ two) plays (H.keeps begun) (not_agreed (agreed_before F) (T.agreed ∙ fresh)) ready (I.waiting pending).few (last_as ends) M' new)

  pub conclusion_kept : p.agreed ≡ false → p.family ≡ OneRound → {M' : Memory}
      → (InRange s M.positions → (i : ℕ) → get_or M'.positions i (pos 0) ≡ cond (settles s i) (heard_position s M.positions plant i) (get_or M.positions i (pos 0)))
      → Kept F M'
  conclusion_kept fresh one {M'} new =
      held_kept fresh (ap (λ (k : Family). ends_with k R.round) (T.family ∙ one)) M'
      (in_one K (T.family ∙ one) plays (H.keeps begun) ready (I.waiting pending).few M' new)

  -- ---- in a ring that has agreed all is as it was

  pub agreed_kept : p.agreed ≡ true → Kept F M
  agreed_kept agreed = go (agreed_before F) refl (T.agreed ∙ agreed) (ends_with K R.round) refl
    where
      go : (A : Entry) → agreed_before F ≡ A → is_agreed A ≡ true → (b : Bool) → ends_with K R.round ≡ b → Kept F M
      go None a e b last = absurd (true≢false (sym e))
      go (Some u) a e false last =
          record {
            keeps = collection_keeps plays (H.keeps begun) ready.ready last refl (λ z. no_position (sym z ∙ a));
            level = H.level begun;
            ends = λ l. absurd (true≢false (sym l ∙ last));
          }
      go (Some u) a e true last =
          let held = agreed_end F I pending last M (agreed_stays F a) (H.level begun u a) in
          record {
            keeps = end_keeps K F.setup.n F.setup.listeners F.setup.f R F.rounds.last M ready.ready last held (agreed_before F);
            level = H.level begun;
            ends = λ l. held;
          }

  -- ---- what is shown

  abbrev after : ℕ → Head
  after = (ring_played F).heads

  -- the phase end, as the player knows it
  abbrev made : PhaseEnd
  made = let e = phase_end p.family p.before p.struck (λ i. lost) in record { collect = e.collect; confess = e.confess; struck = p.struck; heads = after }

  end_is : phase_end F.setup.family R.before F.rounds.last.struck after ≡ made
  end_is = (λ t. phase_end (T.family t) (T.before t) (T.struck t) after) ∙ end_shown p.family p.before p.struck after

  pub kept_played : {t : Text} {M' : Memory} → Kept F M' → bytes_of t ≡ line_of p M'.positions → t.len ≤ 64 → Played F t M'
  kept_played {t} {M'} Q text room =
      record { keeps = Q.keeps; level = Q.level; shows = shows (go (ends_phase p.family p.given) refl ∙ sym text); room = room }
    where
      is_line : ends_with K R.round ≡ true
          → line F.setup.n F.setup.listeners R.phase made
          ≡ end_line F.setup.n F.setup.listeners R.phase M'.positions made.collect made.confess p.struck
      is_line last =
          line_is F.setup.n F.setup.listeners R.phase made M'.positions
          (λ i l r q. Q.ends last i l r (ap (λ (x : ℕ). bit_of x i) T.struck ∙ q))

      line_here : end_line F.setup.n F.setup.listeners R.phase M'.positions made.collect made.confess p.struck
          ≡ end_line p.n p.listeners (phase_of p.family p.given % 65536) M'.positions made.collect made.confess p.struck
      line_here = λ x. end_line (T.n x) (T.listeners x) (sym (ap (λ (y : Stage). y.phase) (sym is) ∙ plays.phase) x) M'.positions made.collect made.confess p.struck

      go : (b : Bool) → ends_phase p.family p.given ≡ b
          → round_line K F.setup.n F.setup.listeners F.setup.f R F.rounds.last
          ≡ cond b (end_line p.n p.listeners (phase_of p.family p.given % 65536) M'.positions made.collect made.confess p.struck) []
      go false e = no_line K F.setup.n F.setup.listeners F.setup.f R F.rounds.last (last_as e)
      go true e =
          last_line K F.setup.n F.setup.listeners F.setup.f R F.rounds.last (last_as e)
          ∙ ap (line F.setup.n F.setup.listeners R.phase) end_is
          ∙ is_line (last_as e)
          ∙ line_here
