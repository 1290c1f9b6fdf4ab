-- The family of a file is that of the kind in its first four bytes: until a start is accepted all bytes are those of one record, and no other start is accepted after
-- it. So the bytes that a phase takes at least can be read from the file's front, and with them and the last phase how many phase ends it can have.
use mathlib.Core.Path.{◌≡◌, refl, ap, sym, ◌∙◌}
use mathlib.Core.Bool.{Bool, true, false, not, cond, ◌&&◌, true≢false}
use mathlib.Core.List.{List, [], ◌∷◌, ◌++◌, append-nil}
use Prim.Native.Nat.{ℕ, zero, suc, ◌+◌, ◌*◌, ◌/◌, min, ◌≤◌}
use native.Mathlib.Omega.{arith}
use native.Mathlib.Decide.{dec_le}
use lib.Dec.{ltb, eqb}
use lib.ListN.{length, take, length-append}
use lib.Seq.{append_snoc, length-take-le}
use borrow.Author.Tests.{eqb-true, ltb-false, not-false, eq-eqb}
use Rattle.terms.specs.Refusals as refusal
use Rattle.terms.specs.Refusals.{leaves, unless_refused}
use Rattle.terms.specs.Sizes.{rounds_of}
use Rattle.terms.specs.declared.Family.{Family}
use Rattle.terms.specs.declared.Family.TheVariants.{TwoRounds, OneRound}
use Rattle.terms.proofs.Booleans.{and_both}
use Rattle.fields.specs.Bytes.{at2}
use Rattle.run_spec.specs.RunFile.{File, unread, RecordKind, start, round, plant, listeners, strikes, other, record_kind, kind_in, length_in, is_allowed, record_fault, with_record, stopped, judged, with_part, read_on, step, feed, read_file}
use Rattle.run_spec.proofs.Whole.{stands, heads_front, heads_take, allowed_long, RoundsFit, kept_on, kept_read}
use Rattle.run_spec.proofs.Bytes.{first_begun}
use Rattle.run_spec.proofs.Ends.{FewEnds}
use Rattle.run_record.proofs.Records.{start_place, round_place, listeners_place, strikes_place}
use Rattle.run_whole.specs.Buffers.{phase_bytes, all_ends, most_ends}

-- after the bytes a
record Kinds (a : List ℕ) (F : File) : Type 0 where
  waits : F.rounds.pending ≡ true → F.setup.begun ≡ true
  fresh : F.setup.begun ≡ false → F.fault ≡ 0 → F.part ≡ a
  first : F.setup.begun ≡ true → (4 ≤ length a) × (kind_in a ≡ start F.setup.family)

-- more bytes do not change the first four
first_on : {K : Family} (a b : List ℕ) → (4 ≤ length a) × (kind_in a ≡ start K) → (4 ≤ length (a ++ b)) × (kind_in (a ++ b) ≡ start K)
first_on a b (l, e) = (omega (arith, length-append a b), sym (heads_front a b (a ++ b) refl l).kind ∙ e)

module _ (a : List ℕ) (F : File) (x : ℕ) (I : Kinds a F) where
  abbrev a' : List ℕ
  a' = a ++ (x ∷ [])

  abbrev s : List ℕ
  s = F.part ++ (x ∷ [])

  rested : (F.fault ≡ 0 → ⊥) → Kinds a' F
  rested f = record { waits = I.waits; fresh = λ b z. absurd (f z); first = λ b. first_on a (x ∷ []) (I.first b) }

  parted : Kinds a' (with_part F s)
  parted = record { waits = I.waits; fresh = λ b z. ap (λ (l : List ℕ). l ++ (x ∷ [])) (I.fresh b z); first = λ b. first_on a (x ∷ []) (I.first b) }

  stops : (c : ℕ) → Kinds a' (stopped F (suc c))
  stops c = record { waits = I.waits; fresh = λ b z. absurd (omega arith); first = λ b. first_on a (x ∷ []) (I.first b) }

  -- a record after the start
  later : (G : File) → F.setup.begun ≡ true → G.setup.begun ≡ F.setup.begun → G.setup.family ≡ F.setup.family → Kinds a' G
  later G begun b f =
      record {
        waits = λ w. b ∙ begun;
        fresh = λ n z. absurd (true≢false (sym (b ∙ begun) ∙ n));
        first = λ t. let (l, e) = first_on a (x ∷ []) (I.first begun) in (l, e ∙ ap start (sym f));
      }

  takes : F.fault ≡ 0 → length s ≡ length_in s → 5 ≤ length_in s → (K : RecordKind) → kind_in s ≡ K → is_allowed K F (length_in s) ≡ true → Kinds a' (with_record K F s)
  takes ok all long (start K) e may =
      let same : s ≡ a' = ap (λ (l : List ℕ). l ++ (x ∷ [])) (I.fresh (start_place F (length_in s) K may) ok) in
      record {
        waits = λ w. refl;
        fresh = λ b z. absurd (true≢false b);
        first = λ b. (omega (arith, ap length same), ap kind_in (sym same) ∙ e);
      }
  takes ok all long round e may = later _ (round_place F (length_in s) may) refl refl
  takes ok all long plant e may = later _ (I.waits (and_both F.rounds.pending _ may).0) refl refl
  takes ok all long listeners e may = later _ (first_begun F (listeners_place F (length_in s) may)).0 refl refl
  takes ok all long strikes e may =
      later _ (I.waits (and_both F.rounds.pending _ (and_both _ _ (strikes_place F (length_in s) may)).0).0) refl refl
  takes ok all long other e may = absurd (true≢false (sym may))

  judges : F.fault ≡ 0 → length s ≡ length_in s → stands F s ≡ true → Kinds a' (judged (kind_in s) F s)
  unfolding judged
  judges ok all may = go (record_fault (kind_in s) F s)
    where
      go : (c : ℕ) → Kinds a' (unless_refused (stopped F) c (with_record (kind_in s) F s))
      go zero = takes ok all (allowed_long F s may).0 (kind_in s) refl may
      go (suc c) = stops c

  reads : F.fault ≡ 0 → RoundsFit F → Kinds a' (read_on F s)
  unfolding read_on
  reads ok kept = go (ltb (length s) 4) (eqb (length s) 4 && not (stands F s)) (eqb (length s) (length_in s)) refl refl refl
    where
      may : ltb (length s) 4 ≡ false → (eqb (length s) 4 && not (stands F s)) ≡ false → stands F s ≡ true
      may long place = by (dec_le 4 (length F.part))
        where
          by : Dec (4 ≤ length F.part) → stands F s ≡ true
          by (yes h) = (kept_on F kept (x ∷ []) h).0
          by (no h) =
              not-false (stands F s) (rw (eq-eqb (length s) 4 (omega (arith, length-append F.part (x ∷ []), ltb-false (length s) 4 long))) at place)

      go : (few out all : Bool) → ltb (length s) 4 ≡ few → (eqb (length s) 4 && not (stands F s)) ≡ out → eqb (length s) (length_in s) ≡ all
          → Kinds a' (cond few (with_part F s) (cond out (stopped F refusal.bad_run_record) (cond all (judged (kind_in s) F s) (with_part F s))))
      go true out all f o w = parted
      go false true all f o w = stops 12
      go false false true f o w = judges ok (eqb-true (length s) (length_in s) w) (may f o)
      go false false false f o w = parted

kinds_on : (a xs : List ℕ) (F : File) → RoundsFit F → Kinds a F → Kinds (a ++ xs) (feed F xs)
unfolding feed step
kinds_on a [] F kept I = rw (append-nil a) I
kinds_on a (x ∷ xs) F kept I =
    let (k, J) = go F.fault refl in
    rw (append_snoc a x xs) at (kinds_on (a ++ (x ∷ [])) xs (step F x) k J)
  where
    go : (c : ℕ) → F.fault ≡ c → let G = leaves c (read_on F (F.part ++ (x ∷ []))) F in RoundsFit G × Kinds (a ++ (x ∷ [])) G
    go zero e = (kept_read F kept x, reads a F x I e kept)
    go (suc c) e = (kept, rested a F x I (λ z. omega arith))

kinds : (s : List ℕ) → Kinds s (read_file s)
unfolding unread
kinds s =
    kinds_on [] s unread (λ h. absurd (omega arith))
    (record { waits = λ w. absurd (true≢false (sym w)); fresh = λ b z. refl; first = λ b. absurd (true≢false (sym b)) })

-- ---- what a phase takes at least

abbrev bytes_of_kind : RecordKind → ℕ
bytes_of_kind (start K) = 8 * rounds_of K
bytes_of_kind round = 16
bytes_of_kind plant = 16
bytes_of_kind listeners = 16
bytes_of_kind strikes = 16
bytes_of_kind other = 16

kind_bytes : (k : ℕ) → bytes_of_kind (record_kind k) ≡ cond (eqb k 0x14) 8 16
kind_bytes k = go (eqb k 0x14) refl
  where
    none : (a b c d e : Bool)
        → bytes_of_kind (cond a (start TwoRounds) (cond b round (cond c plant (cond d listeners (cond e strikes other))))) ≡ 16
    none true b c d e = refl
    none false true c d e = refl
    none false false true d e = refl
    none false false false true e = refl
    none false false false false true = refl
    none false false false false false = refl

    go : (b : Bool) → eqb k 0x14 ≡ b → bytes_of_kind (record_kind k) ≡ cond b 8 16
    go true e = rw (eqb-true k 0x14 e) refl
    go false e = rw e (none (eqb k 0x10) (eqb k 0x11) (eqb k 0x12) (eqb k 0x15) (eqb k 0x13))

-- of a file whose front was read, and which has begun there
bytes_here : (k : ℕ) (file : List ℕ) → k ≤ length file → let F = read_file (take k file) in F.setup.begun ≡ true → phase_bytes file ≡ 8 * rounds_of F.setup.family
bytes_here k file l begun =
    let (long, e) = (kinds (take k file)).first begun in
    let h : 4 ≤ k = omega (arith, length-take-le k file l) in
    sym (kind_bytes (at2 file 2)) ∙ ap bytes_of_kind (sym (heads_take k file h).kind ∙ e)

-- so many ends at most
ends_in : (K : Family) (c l m : ℕ) → 8 * rounds_of K * c ≤ l + 8 * rounds_of K → l ≤ m → c ≤ all_ends → c ≤ min all_ends (m / (8 * rounds_of K) + 1)
ends_in TwoRounds c l m h k most = omega arith
ends_in OneRound c l m h k most = omega arith

pub few_in : (k : ℕ) (file : List ℕ) → k ≤ length file → {c : ℕ} → FewEnds (take k file) c → c ≤ most_ends file
few_in k file l {c} E = go F.setup.begun refl
  where
    F : File
    F = read_file (take k file)

    go : (b : Bool) → F.setup.begun ≡ b → c ≤ most_ends file
    go true e =
        rw (bytes_here k file l e)
        (ends_in F.setup.family c (length (take k file)) (length file) E.bytes (omega (arith, length-take-le k file l)) E.most)
    go false e = omega (arith, E.none e)
