-- A round record of a ring that has agreed, when nothing is planted in the pending round: it changes the player alone, and shows the line of the pending round.
use mathlib.Core.Path.{◌≡◌, refl, ap, sym, ◌∙◌}
use mathlib.Core.Bool.{true, false, true≢false}
use mathlib.Core.List.{List, [], ◌∷◌}
use Prim.Native.Nat.{ℕ, ◌≤◌}
use native.Mathlib.Omega.{arith}
use lib.ListN.{length, take}
use lib.Seq.{get_or-take}
use borrow.Author.Tests.{eq-eqb, eqb-true, leb-true, not-true}
use Rattle.terms.proofs.Booleans.{and_both}
use Rattle.fields.specs.Bytes.{at2}
use Rattle.ring_spec.specs.Rounds.{Plant, planted}
use Rattle.terms.specs.declared.Family.{Family}
use Rattle.run_spec.specs.RunFile.{record_kind, round, round_fault, struck_in, last_pair, length_in, kind_in, read_file, record_fault, judged}
use Rattle.run_spec.specs.declared.Pair.{Pair}
use Rattle.run_spec.proofs.Whole.{heads_take}
use Rattle.run_spec.proofs.Bytes.{cost}
use Rattle.texts.specs.declared.Text.{Text}
use Rattle.texts.specs.Texts.{bytes_of}
use Rattle.run_state.specs.declared.Player.{Player}
use Rattle.run_state.specs.Memory.{Memory}
use Rattle.run_state.specs.Changes.{with_round_given}
use Rattle.run_state.specs.State.{PlayerOf, MemoryOf}
use Rattle.run_state.proofs.Told.{round_fault_as}
use Rattle.run_round.specs.Played.{Played}
use Rattle.run_round.proofs.Agreement.{still_agreed}
use Rattle.run_record.specs.declared.RecordResult.{RecordResult}
use Rattle.run_record.specs.Next.{allowed_to, Next}
use Rattle.run_record.proofs.Records.{judged_taken, round_room, played_turns, round_next}
use Rattle.run_piece.specs.Advances.{StateAt, AdvancesOnce}
use Rattle.run_piece.specs.Steps.{is_calm}
use Rattle.run_piece.specs.Inner.{BeginsWhole}
use Rattle.run_piece.proofs.Feeding.{stands_there}

-- what was asked of a record, fact by fact
pub record Calm (p : Player) (s : List ℕ) : Type 0 where
  pub agreed : p.agreed ≡ true
  pub pending : p.pending ≡ true
  pub unplanted : p.pair.some ≡ false
  pub fresh : p.have ≡ 0
  pub sound : p.fault ≡ 0
  pub within : 8 ≤ length s
  pub long : length_in s ≡ 8
  pub kind : kind_in s ≡ round
  pub faultless : round_fault p.family p.n p.f p.given s ≡ 0

pub calm_as : (p : Player) (s : List ℕ) → is_calm p s ≡ true → Calm p s
calm_as p s e =
    let (e, faultless) = and_both _ _ e in
    let (e, kind) = and_both _ _ e in
    let (e, long) = and_both _ _ e in
    let (e, within) = and_both _ _ e in
    let (e, sound) = and_both _ _ e in
    let (e, fresh) = and_both _ _ e in
    let (e, unplanted) = and_both _ _ e in
    let (agreed, pending) = and_both _ _ e in
    record {
      agreed = agreed;
      pending = pending;
      unplanted = not-true _ unplanted;
      fresh = eqb-true _ _ fresh;
      sound = eqb-true _ _ sound;
      within = leb-true _ _ within;
      long = eqb-true _ _ long;
      kind = ap record_kind (eqb-true (at2 s 2) 0x11 kind);
      faultless = eqb-true _ _ faultless;
    }

-- nothing is planted where no pair was
none_planted : (xs : List Plant) → (last_pair xs).some ≡ false → (k i : ℕ) → planted xs k i ≡ []
none_planted [] e k i = refl
none_planted (x ∷ xs) e k i = absurd (true≢false e)

-- the marks of a record that a piece begins with
struck_front : (s : List ℕ) → struck_in (take 8 s) ≡ struck_in s
struck_front s = rw (get_or-take 8 s 4 0 (omega arith), get_or-take 8 s 5 0 (omega arith), get_or-take 8 s 6 0 (omega arith), get_or-take 8 s 7 0 (omega arith))

fault_front : (K : Family) (n f rounds : ℕ) (s : List ℕ) → round_fault K n f rounds (take 8 s) ≡ round_fault K n f rounds s
fault_front K n f rounds s =
    rw (get_or-take 8 s 4 0 (omega arith), get_or-take 8 s 5 0 (omega arith), get_or-take 8 s 6 0 (omega arith), get_or-take 8 s 7 0 (omega arith))

module _ {p q : Player} {s : List ℕ} {t : Text} {M : Memory} (C : Calm p s) (is : q ≡ with_round_given p (struck_in s) true) (room : t.len ≤ 64)
    (P : (a : List ℕ) → (read_file a).setup.begun ≡ true → (read_file a).rounds.pending ≡ true → PlayerOf p (read_file a) → MemoryOf (read_file a) M → Played (read_file a) t M) where
  abbrev b : List ℕ
  b = take 8 s

  abbrev r : RecordResult
  r = record { player = q; text = t }

  taken : (a : List ℕ) → PlayerOf p (read_file a) → MemoryOf (read_file a) M → Next (read_file a) (judged round (read_file a) b) p M r M
  taken a T H =
      let pending = T.pending ∙ C.pending in
      let begun = (cost a).begun pending in
      let W = played_turns b begun pending (P a begun pending T H) in
      let fault : record_fault round (read_file a) b ≡ 0 = round_fault_as T b ∙ fault_front p.family p.n p.f p.given s ∙ C.faultless in
      let none = none_planted (read_file a).rounds.last.plants (ap (λ (x : Pair). x.some) T.pair ∙ C.unplanted) in
      rw (judged_taken round (read_file a) b (sym fault) refl)
      (round_next {r = r} b {M' = M} {bytes = M.planted} {lengths = M.lengths} W.shows (still_agreed a M begun T W.holds C.agreed) room
      (λ k i l m j. H.slots pending k i l (rw T.n m) j ∙ none k i) T
      (round_room (read_file a) b fault) (is ∙ ap (λ (w : ℕ). with_round_given p w true) (sym (struck_front s))))

  module _ {a before : List ℕ} (L : StateAt a p before M) where
    whole : BeginsWhole p s
    whole = record { fresh = C.fresh; within = omega (arith, C.long, C.within); long = omega (arith, C.long) }

    allowed : allowed_to p s ≡ true
    allowed =
        let begun : p.begun ≡ true = sym L.player.begun ∙ (cost a).begun (L.player.pending ∙ C.pending) in
        rw (C.kind, begun) (eq-eqb (length_in s) 8 C.long)

    pub calm_there : AdvancesOnce a (take 8 s) p M q (bytes_of t) before M
    calm_there =
        let same = heads_take 8 s (omega arith) in
        stands_there L {r = record { player = q; used = 8; text = t }} {t = r} {used = 8} {b = b} {carry = before} {M' = M} s C.sound
        (record { player = refl; used = refl; text = refl })
        (λ a' T H may all. rw (same.kind ∙ C.kind) (taken a' T H))
        whole allowed (sym C.long) refl
