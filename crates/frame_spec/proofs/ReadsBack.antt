-- A frame written reads back: the frame that says a proper meaning, read in the meaning's round, says that meaning. Each field is written from the
-- number that the check compares it with, and a field written reads back, so each check passes.
use Rattle.std.specs.Prelude.{None, Some}
use mathlib.Core.Path.{◌≡◌, refl, ap, ap₂, sym, ◌∙◌}
use mathlib.Core.Bool.{true}
use mathlib.Core.List.{List}
use Prim.Native.Nat.{ℕ, ◌+◌, ◌*◌, ◌^◌, ◌≤◌, ◌<◌}
use native.Mathlib.Omega.{arith}
use native.Mathlib.Decide.{dec_lt}
use lib.Pow.{pow_mono}
use lib.ListN.{length, get_or}
use lib.Seq.{ext_get_or}
use lib.IntN.{ℤ, pos}
use borrow.Author.Tests.{lt-ltb, le-leb, eq-eqb}
use Rattle.terms.specs.Positions.{is_position}
use Rattle.terms.specs.declared.Table.{Table}
use Rattle.fields.specs.Bytes.{signed_of, signed_at, word_of}
use Rattle.marks.specs.Marks.{bit_of, marks_below}
use Rattle.entries.specs.Entries.{numbers}
use Rattle.fields.proofs.Bytes.{back2, back4, signed_back, word_below}
use Rattle.entries.proofs.Entries.{numbers_length, numbers_read}
use Rattle.frame_check.specs.Check.{check_frame, frame_refusal}
use Rattle.frame_spec.specs.Said.{Meaning, refused, collected, listed, confessed, rest_field, marks_in, table_in, said}
use Rattle.frame_spec.specs.Written.{entry_bytes, position_frame, silence_frame, list_frame, confession_frame, frame_of}
use Rattle.frame_spec.specs.Proper.{ProperTable, Proper, round_of_meaning}
use Rattle.frame_spec.proofs.Accepting.{says}
use Rattle.frame_spec.proofs.Listing.{fits_position, all_fit, numbers_none, list_length, bytes_read}

module _ (n k p : ℕ) (small : p < 65536) where
  back_silence : said n p 0 k (silence_frame k p) ≡ collected None
  unfolding check_frame
  back_silence = says n p 0 k (silence_frame k p) (record { frame = refl; of_round = refl; sender = refl; of_phase = back2 p small; count = refl; range = refl })

  back_confession : said n p 1 k (confession_frame k p) ≡ confessed
  unfolding check_frame
  back_confession = says n p 1 k (confession_frame k p) (record { frame = refl; of_round = refl; sender = refl; of_phase = back2 p small; count = refl; range = refl })

  module _ (v : ℤ) (h : is_position v ≡ true) where
    position_back : signed_at (position_frame k p v) 7 ≡ v
    position_back = ap signed_of (back4 (word_of v) (word_below v h)) ∙ signed_back v h

    back_position : said n p 0 k (position_frame k p v) ≡ collected (Some v)
    unfolding check_frame
    back_position =
        says n p 0 k (position_frame k p v)
        (record { frame = refl; of_round = refl; sender = refl; of_phase = back2 p small; count = refl; range = ap is_position position_back ∙ h })
        ∙ ap (λ (u : ℤ). collected (Some u)) position_back

  module _ (t : Table) (size : n ≤ 32) (P : ProperTable n t) where
    abbrev bytes : List ℕ
    bytes = entry_bytes t.entries n

    marks_back : marks_in (rest_field (list_frame n k p t)) ≡ t.marks
    marks_back = back4 t.marks (omega (arith, P.below, pow_mono size))

    -- entry j of the bytes, as a number
    entry_back : (j : ℕ) → j < n → signed_at bytes (4 * j) ≡ get_or t.entries j (pos 0)
    entry_back j l =
        let v = get_or t.entries j (pos 0) in
        let h : is_position v ≡ true = fits_position (bit_of t.marks j) v (P.fit j l) in
        ap signed_of (bytes_read t.entries n j l h) ∙ signed_back v h

    entries_back : numbers bytes n ≡ t.entries
    entries_back = ext_get_or (pos 0) (numbers bytes n) t.entries (numbers_length bytes n ∙ sym P.long) (λ i l. go i (dec_lt i n))
      where
        go : (i : ℕ) → Dec (i < n) → get_or (numbers bytes n) i (pos 0) ≡ get_or t.entries i (pos 0)
        go i (yes h) = numbers_read bytes n i size h ∙ entry_back i h
        go i (no h) = numbers_none bytes n i (omega arith) ∙ sym (P.none i (omega arith))

    list_accepted : frame_refusal (list_frame n k p t) ≡ 0
    unfolding check_frame
    list_accepted =
        let long = list_length n k p t in
        rw (le-leb 4 (length (list_frame n k p t)) (omega arith), long, eq-eqb _ _ (back2 (12 + 4 * n) (omega arith)), eq-eqb (12 + 4 * n) (12 + 4 * n) refl)

    back_list : said n p 1 k (list_frame n k p t) ≡ listed t
    unfolding table_in marks_below
    back_list =
        says n p 1 k (list_frame n k p t)
        (record {
          frame = list_accepted;
          of_round = refl;
          sender = refl;
          of_phase = back2 p small;
          count = rw (eq-eqb n n refl, marks_back) (lt-ltb t.marks (2 ^ n) P.below);
          range = rw marks_back (all_fit t.marks bytes n (λ j l. rw (entry_back j l) (P.fit j l)));
        })
        ∙ ap₂ (λ (m : ℕ) (E : List ℤ). listed (record { marks = m; entries = E })) marks_back entries_back

pub reads_back : (n k p : ℕ) (m : Meaning) → n ≤ 32 → p < 65536 → Proper n m → said n p (round_of_meaning m) k (frame_of n k p m) ≡ m
reads_back n k p (refused c) size small h = absurd h
reads_back n k p (collected None) size small h = back_silence n k p small
reads_back n k p (collected (Some v)) size small h = back_position n k p small v h
reads_back n k p (listed t) size small h = back_list n k p small t size h
reads_back n k p confessed size small h = back_confession n k p small
