-- Records as they come: bytes that end inside a record are kept, a record that is not allowed stops the file at its header, and any other is judged when it is
-- whole. All follow from one law (`reads_on`): if every shorter front of a record is cut, its bytes are read as if they came at once.
use mathlib.Core.Path.{◌≡◌, refl, ap, sym, ◌∙◌}
use mathlib.Core.Bool.{Bool, true, false, not, cond, ◌&&◌, true≢false, and-false}
use mathlib.Core.List.{List, [], ◌∷◌, ◌++◌, append-nil}
use Prim.Native.Nat.{ℕ, zero, suc, ◌+◌, ◌≤◌, ◌<◌}
use native.Mathlib.Omega.{arith}
use native.Mathlib.Decide.{dec_le}
use lib.Dec.{ltb, leb, eqb}
use lib.ListN.{length, take, length-append}
use lib.Seq.{get_or-take, take-append_seam, append_snoc}
use borrow.Author.Tests.{leb-true, eqb-true, eqb-false, ltb-true, ltb-false, not-false, le-ltb, eq-eqb, ne_eqb}
use Rattle.terms.specs.Refusals.{leaves, unless_refused}
use Rattle.terms.proofs.Refusals.{unchanged, changed}
use Rattle.terms.specs.Refusals as refusal
use Rattle.fields.specs.Bytes.{at2}
use Rattle.terms.proofs.Booleans.{and_both}
use Rattle.run_spec.specs.RunFile.{File, unread, RecordKind, start, round, plant, listeners, strikes, other, length_in, kind_in, is_plant_length, allowed_when, is_allowed, record_fault, stopped, judged, with_part, read_on, step, feed, read_file}

-- ---- the header: four bytes

-- whether the record that s begins is allowed
abbrev pub stands : File → List ℕ → Bool
stands F s = is_allowed (kind_in s) F (length_in s)

at2_take : (n : ℕ) (s : List ℕ) (i : ℕ) → i + 1 < n → at2 (take n s) i ≡ at2 s i
at2_take n s i h = let k : i < n = omega arith in rw (get_or-take n s i 0 k, get_or-take n s (i + 1) 0 h)

-- t begins with the header of s
pub record Heads (t s : List ℕ) : Type 0 where
  pub long : length_in t ≡ length_in s
  pub kind : kind_in t ≡ kind_in s

pub heads_take : (n : ℕ) (s : List ℕ) → 4 ≤ n → Heads (take n s) s
heads_take n s h = record { long = at2_take n s 0 (omega arith); kind = rw (at2_take n s 2 (omega arith)) }

pub heads_front : (q xs s : List ℕ) → q ++ xs ≡ s → 4 ≤ length q → Heads q s
heads_front q xs s e h = rw (ap (take (length q)) (sym e) ∙ take-append_seam q xs) at (heads_take (length q) s h)

pub heads_stand : {t s : List ℕ} (F : File) → Heads t s → stands F t ≡ stands F s
heads_stand F h = rw (h.kind, h.long)

within : (low high len : ℕ) → (leb low len && leb len high) ≡ true → (low ≤ len) × (len ≤ high)
within low high len e = let (least, most) = and_both (leb low len) (leb len high) e in (leb-true low len least, leb-true len high most)

-- of planted records: the bytes planted are at most 140
pub plant_long : (len : ℕ) → is_plant_length len ≡ true → (6 ≤ len) × (len ≤ 146)
plant_long len e = within 6 146 len e

-- the lengths that some record has
pub stands_long : (K : RecordKind) (begun first pending bare : Bool) (len : ℕ) → allowed_when K begun first pending bare len ≡ true → (5 ≤ len) × (len ≤ 1026)
stands_long (start K) begun first pending bare len e = let (least, most) = within 6 1026 len (and_both (not begun) _ e).1 in (omega arith, most)
stands_long round begun first pending bare len e = let is = eqb-true len 8 (and_both begun (eqb len 8) e).1 in (omega arith, omega arith)
stands_long plant begun first pending bare len e = let (least, most) = plant_long len (and_both pending _ e).1 in (omega arith, omega arith)
stands_long listeners begun first pending bare len e = let is = eqb-true len 5 (and_both first (eqb len 5) e).1 in (omega arith, omega arith)
stands_long strikes begun first pending bare len e = let is = eqb-true len 6 (and_both bare (eqb len 6) e).1 in (omega arith, omega arith)
stands_long other begun first pending bare len e = absurd (true≢false (sym e))

pub allowed_long : (F : File) (s : List ℕ) → stands F s ≡ true → (5 ≤ length_in s) × (length_in s ≤ 1026)
allowed_long F s may = stands_long (kind_in s) _ _ _ _ (length_in s) may

-- ---- a front of a record

-- the first k of the bytes s are no whole record: they are too few for a header, or fewer than it says
abbrev pub Cut : File → List ℕ → ℕ → Type 0
Cut F s k = 4 ≤ k → (stands F s ≡ true) × (k < length_in s)

cut_front : (F : File) (q xs s : List ℕ) → q ++ xs ≡ s → Cut F s (length q) → Cut F q (length q)
cut_front F q xs s e c h =
    let same = heads_front q xs s e h in
    (heads_stand F same ∙ (c h).0, omega (arith, (c h).1, same.long))

module _ (F : File) (s : List ℕ) where
  read_cut : Cut F s (length s) → read_on F s ≡ with_part F s
  unfolding read_on
  read_cut c = go (ltb (length s) 4) refl
    where
      go : (few : Bool) → ltb (length s) 4 ≡ few
          → cond few (with_part F s)
          (cond (eqb (length s) 4 && not (stands F s)) (stopped F refusal.bad_run_record) (cond (eqb (length s) (length_in s)) (judged (kind_in s) F s) (with_part F s)))
          ≡ with_part F s
      go true e = refl
      go false e =
          let (may, more) = c (ltb-false (length s) 4 e) in
          rw (may, and-false (eqb (length s) 4), ne_eqb (length s) (length_in s) (omega arith))

  read_refused : length s ≡ 4 → stands F s ≡ false → read_on F s ≡ stopped F refusal.bad_run_record
  unfolding read_on
  read_refused four no_place = rw (no_place, le-ltb (length s) 4 (omega arith), eq-eqb (length s) 4 four)

  read_whole : stands F s ≡ true → length s ≡ length_in s → read_on F s ≡ judged (kind_in s) F s
  unfolding read_on
  read_whole may all =
      let long = allowed_long F s may in
      rw (may, and-false (eqb (length s) 4), le-ltb (length s) 4 (omega arith), eq-eqb (length s) (length_in s) all)

-- ---- the bytes kept so far are not looked at

unless_over : (c : ℕ) (good F : File) (q : List ℕ) → unless_refused (stopped (with_part F q)) c good ≡ unless_refused (stopped F) c good
unless_over zero good F q = refl
unless_over (suc c) good F q = refl

judged_over : (K : RecordKind) (F : File) (q s : List ℕ) → judged K (with_part F q) s ≡ judged K F s
unfolding judged
judged_over (start K) F q s = unless_over (record_fault (start K) F s) _ F q
judged_over round F q s = unless_over (record_fault round F s) _ F q
judged_over plant F q s = unless_over (record_fault plant F s) _ F q
judged_over listeners F q s = unless_over (record_fault listeners F s) _ F q
judged_over strikes F q s = unless_over (record_fault strikes F s) _ F q
judged_over other F q s = refl

read_over : (F : File) (q s : List ℕ) → read_on (with_part F q) s ≡ read_on F s
unfolding read_on
read_over F q s = rw (judged_over (kind_in s) F q s)

-- ---- byte by byte, or at once

module _ (F : File) (ok : F.fault ≡ 0) where
  step_at : (q : List ℕ) (x : ℕ) → step (with_part F q) x ≡ read_on F (q ++ (x ∷ []))
  unfolding step
  step_at q x = changed F.fault _ _ ok ∙ read_over F q (q ++ (x ∷ []))

  reads_on : {s : List ℕ} → ((k : ℕ) → k < length s → Cut F s k) → (q xs : List ℕ) → q ++ xs ≡ s → 0 < length xs
      → feed (with_part F q) xs ≡ read_on F s
  unfolding feed
  reads_on cut q [] e some = absurd (omega arith)
  reads_on cut q (x ∷ []) e some = step_at q x ∙ ap (read_on F) e
  reads_on {s} cut q (x ∷ y ∷ ys) e some =
      let front = q ++ (x ∷ []) in
      let e' : front ++ (y ∷ ys) ≡ s = append_snoc q x (y ∷ ys) ∙ e in
      let few : length front < length s = omega (arith, length-append front (y ∷ ys), ap length e') in
      ap (λ (G : File). feed G (y ∷ ys)) (step_at q x ∙ read_cut F front (cut_front F front (y ∷ ys) s e' (cut (length front) few)))
      ∙ reads_on cut front (y ∷ ys) e' (omega arith)

  -- ---- more bytes of a record

  pub feed_cut : (xs : List ℕ) → let s = F.part ++ xs in Cut F s (length s) → feed F xs ≡ with_part F s
  unfolding feed
  feed_cut [] c = ap (with_part F) (sym (append-nil F.part))
  feed_cut (x ∷ xs) c =
      let s = F.part ++ (x ∷ xs) in
      reads_on (λ k l h. ((c (omega arith)).0, omega (arith, (c (omega arith)).1))) F.part (x ∷ xs) refl (omega arith) ∙ read_cut F s c

  module _ (xs : List ℕ) (some : 0 < length xs) where
    -- it is not allowed
    pub feed_refused : let s = F.part ++ xs in length s ≡ 4 → stands F s ≡ false → feed F xs ≡ stopped F refusal.bad_run_record
    feed_refused four no_place = reads_on (λ k l h. absurd (omega arith)) F.part xs refl some ∙ read_refused F (F.part ++ xs) four no_place

    -- it is whole
    pub feed_whole : let s = F.part ++ xs in stands F s ≡ true → length s ≡ length_in s → feed F xs ≡ judged (kind_in s) F s
    feed_whole may all = reads_on (λ k l h. (may, omega arith)) F.part xs refl some ∙ read_whole F (F.part ++ xs) may all

-- after a fault nothing is read
pub feed_stopped : (F : File) (xs : List ℕ) → (F.fault ≡ 0 → ⊥) → feed F xs ≡ F
unfolding feed step
feed_stopped F [] fault = refl
feed_stopped F (x ∷ xs) fault = ap (λ (G : File). feed G xs) (sym (unchanged F.fault _ F fault)) ∙ feed_stopped F xs fault

-- after a record nothing is kept
unless_empty : (c : ℕ) (good F : File) → good.part ≡ [] → (unless_refused (stopped F) c good).part ≡ []
unless_empty zero good F e = e
unless_empty (suc c) good F e = refl

pub judged_empty : (K : RecordKind) (F : File) (s : List ℕ) → (judged K F s).part ≡ []
unfolding judged
judged_empty (start K) F s = unless_empty (record_fault (start K) F s) _ F refl
judged_empty round F s = unless_empty (record_fault round F s) _ F refl
judged_empty plant F s = unless_empty (record_fault plant F s) _ F refl
judged_empty listeners F s = unless_empty (record_fault listeners F s) _ F refl
judged_empty strikes F s = unless_empty (record_fault strikes F s) _ F refl
judged_empty other F s = refl

-- ---- what is kept of every file read is cut

abbrev pub RoundsFit : File → Type 0
RoundsFit F = Cut F F.part (length F.part)

-- its header holds for more bytes after it
pub kept_on : (F : File) → RoundsFit F → (xs : List ℕ) → 4 ≤ length F.part
    → let s = F.part ++ xs in (stands F s ≡ true) × (length_in F.part ≡ length_in s) × (length F.part < length_in s)
kept_on F kept xs h =
    let same = heads_front F.part xs (F.part ++ xs) refl h in
    let (may, few) = kept h in
    (sym (heads_stand F same) ∙ may, same.long, omega (arith, same.long))

module _ (F : File) (kept : RoundsFit F) (x : ℕ) where
  cut_more : let s = F.part ++ (x ∷ []) in
      4 ≤ length s → (eqb (length s) 4 && not (stands F s)) ≡ false → (length s ≡ length_in s → ⊥) → (stands F s ≡ true) × (length s < length_in s)
  cut_more h place more = go (dec_le 4 (length F.part))
    where
      s : List ℕ
      s = F.part ++ (x ∷ [])

      one : length s ≡ length F.part + 1
      one = length-append F.part (x ∷ [])

      go : Dec (4 ≤ length F.part) → (stands F s ≡ true) × (length s < length_in s)
      go (yes k) = let (may, same, few) = kept_on F kept (x ∷ []) k in (may, omega (arith, one))
      go (no k) =
          let may : stands F s ≡ true = not-false (stands F s) (rw (eq-eqb (length s) 4 (omega (arith, one))) at place) in
          (may, omega (arith, one, (allowed_long F s may).0))

  pub kept_read : RoundsFit (read_on F (F.part ++ (x ∷ [])))
  unfolding read_on
  kept_read = go (ltb (length s) 4) (eqb (length s) 4 && not (stands F s)) (eqb (length s) (length_in s)) refl refl refl
    where
      s : List ℕ
      s = F.part ++ (x ∷ [])

      go : (few out all : Bool) → ltb (length s) 4 ≡ few → (eqb (length s) 4 && not (stands F s)) ≡ out → eqb (length s) (length_in s) ≡ all
          → RoundsFit (cond few (with_part F s) (cond out (stopped F refusal.bad_run_record) (cond all (judged (kind_in s) F s) (with_part F s))))
      go true out all f o a h = absurd (omega (arith, ltb-true (length s) 4 f))
      go false true all f o a h = absurd (omega arith)
      go false false true f o a h = absurd (omega (arith, ap length (judged_empty (kind_in s) F s)))
      go false false false f o a h = cut_more h o (eqb-false (length s) (length_in s) a)

kept_feed : (F : File) (s : List ℕ) → RoundsFit F → RoundsFit (feed F s)
unfolding feed step
kept_feed F [] k = k
kept_feed F (x ∷ s) k = kept_feed (step F x) s (go F.fault)
  where
    go : (c : ℕ) → RoundsFit (leaves c (read_on F (F.part ++ (x ∷ []))) F)
    go zero = kept_read F k x
    go (suc c) = k

pub kept : (s : List ℕ) → RoundsFit (read_file s)
unfolding unread
kept s = kept_feed unread s (λ h. absurd (omega arith))
