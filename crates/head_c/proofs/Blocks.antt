-- A block is read as the record that was put into it, if nothing was heard in the record and its numbers fit their words.
use Rattle.std.specs.Prelude.{None, Some}
use mathlib.Core.Path.{◌≡◌, refl, ap, sym, ◌∙◌}
use mathlib.Core.Bool.{Bool, true, false}
use mathlib.Core.List.{List, [], ◌∷◌, ◌++◌, append_assoc}
use Prim.Native.Nat.{ℕ, suc, ◌+◌, ◌-◌, ◌%◌, ◌<◌}
use native.Mathlib.Omega.{arith}
use native.Mathlib.Nat.{mod-eq_of_lt}
use native.Mathlib.Decide.{dec_lt}
use lib.ListN.{length, get_or, drop, get_or-append, get_or-replicate}
use lib.Seq.{get_or-append-add}
use lib.IntN.{ℤ, pos, negsuc}
use Rattle.terms.specs.Entry.{Entry}
use Rattle.terms.specs.declared.Family.{Family}
use Rattle.terms.specs.declared.Family.TheVariants.{TwoRounds, OneRound}
use Rattle.fields.specs.Bytes.{signed_of, word_of}
use Rattle.fields.proofs.Bytes.{signed_low, signed_high}
use Rattle.terms.specs.declared.Table.{Table}
use Rattle.marks.proofs.Marks.{bit_none}
use Rattle.entries.specs.Entries.{zeros}
use Rattle.terms.specs.Counting.{bit}
use Rattle.head_spec.specs.declared.Row.{Row}
use Rattle.head_spec.specs.Kept.{LastKept}
use Rattle.head_spec.specs.declared.Seat.{Seat}
use Rattle.head_spec.specs.declared.Head.{Head}
use Rattle.head_spec.specs.Record.{no_links, no_lists, opened}
use Rattle.head_lent.specs.Answers.{held_number, held_or, range_number}
use Rattle.head_spec.specs.Seats.{family_in}
use Rattle.head_c.specs.Blocks.{IsBlock, flag, family_number, held_entry, range_in, up_to, numbers_at, list_at, seat_of, head_of, words_of, kept_of, with_head}
use Rattle.head_c.proofs.Copying.{up_to_list}
use Rattle.head_c.proofs.Putting.{words_long, word_at, first, second, first_long, second_long}

-- ---- numbers of 32 bits with a sign

-- from -2^31 to 2^31 - 1
abbrev pub Fits32 : ℤ → Type 0
Fits32 (pos n) = n < 2147483648
Fits32 (negsuc n) = n < 2147483648

pub signed_back : (v : ℤ) → Fits32 v → signed_of (word_of v) ≡ v
unfolding word_of
signed_back (pos n) h = signed_low n h
signed_back (negsuc n) h = signed_high (4294967295 - n) (omega arith) ∙ ap negsuc (omega arith)

pub signed_fits : (x : ℕ) → Fits32 (signed_of x)
unfolding signed_of
signed_fits x = go (dec_lt x 2147483648)
  where
    go : Dec (x < 2147483648) → Fits32 (signed_of x)
    go (yes h) = rw (signed_low x h) h
    go (no h) = rw (signed_high x (omega arith)) (omega arith)

-- 32 numbers
pub record FitNumbers (E : List ℤ) : Type 0 where
  pub long : length E ≡ 32
  pub each : (j : ℕ) → j < 32 → Fits32 (get_or E j (pos 0))

-- ---- records whose numbers fit

abbrev pub FitEntry : Entry → Type 0
FitEntry None = Unit {0}
FitEntry (Some v) = Fits32 v

abbrev pub FitLast : LastKept → Type 0
FitLast None = Unit {0}
FitLast (Some k) = Fits32 k.low × Fits32 k.high × (k.trim < 256) × Fits32 k.position

pub record FitSeat (s : Seat) : Type 0 where
  pub n : s.n < 256
  pub f : s.f < 256
  pub number : s.number < 256
  pub phase : s.phase < 65536
  pub round : s.round < 256
  pub position : FitEntry s.position
  pub kept : FitLast s.kept
  pub since : s.since < 256

-- ---- what was put is read

flag_back : (b : Bool) → flag (bit b) ≡ b
flag_back true = refl
flag_back false = refl

family_back : (K : Family) → family_in (family_number K) ≡ K
family_back TwoRounds = refl
family_back OneRound = refl

entry_back : (e : Entry) → FitEntry e → held_entry (held_number e) (signed_of (word_of (held_or e (pos 0)))) ≡ e
entry_back None f = refl
entry_back (Some v) f = ap Some (signed_back v f)

range_back : (x : LastKept) → FitLast x → let k = kept_of x in
    range_in (range_number x) (signed_of (word_of k.low)) (signed_of (word_of k.high)) (k.trim % 256) (signed_of (word_of k.position)) ≡ x
range_back None f = refl
range_back (Some k) f = λ i.
    Some
    (record {
      low = signed_back k.low f.0 i;
      high = signed_back k.high f.1 i;
      trim = mod-eq_of_lt f.2 i;
      position = signed_back k.position f.3 i;
    })

-- numbers that stand somewhere as their words
pub numbers_back : (w : List ℕ) (i : ℕ) (E : List ℤ) → FitNumbers E → ((j : ℕ) → j < 32 → get_or w (i + j) 0 ≡ word_of (get_or E j (pos 0)))
    → numbers_at w i ≡ E
unfolding numbers_at
numbers_back w i E F h =
    up_to_list 32 _ E (pos 0) F.long (λ j l. ap signed_of (h j l) ∙ signed_back _ (F.each j l))

-- a record with nothing heard
module _ (s : Seat) (t : Table) (w : List ℕ) (block : IsBlock w) (S : FitSeat s) (F : FitNumbers t.entries) where
  abbrev h : Head
  h = opened s t

  abbrev w' : List ℕ
  w' = with_head h w

  -- the words from 92 on, from 58 on and from 24 on
  abbrev D : List ℕ
  D = drop 92 w

  abbrev C : List ℕ
  C = h.links.confessed ∷ h.links.listed ∷ (h.links.marks ++ D)

  abbrev B : List ℕ
  B = h.heard ∷ h.list.marks ∷ (words_of h.list.entries ++ C)

  from_58 : (i : ℕ) → get_or w' (58 + i) 0 ≡ get_or C i 0
  unfolding with_head
  from_58 i =
      let t = second h w in
      ap (λ (l : List ℕ). get_or l (58 + i) 0) (append_assoc t _ D)
      ∙ ap (λ (n : ℕ). get_or (t ++ C) (n + i) 0) (sym (second_long h w block))
      ∙ get_or-append-add t C i 0

  from_24 : (i : ℕ) → get_or w' (24 + i) 0 ≡ get_or B i 0
  unfolding with_head
  from_24 i =
      let t = first h w in
      ap (λ (l : List ℕ). get_or l (24 + i) 0) (append_assoc (second h w) _ D ∙ append_assoc t _ C)
      ∙ ap (λ (n : ℕ). get_or (t ++ B) (n + i) 0) (sym (first_long h w block))
      ∙ get_or-append-add t B i 0

  entries_back : numbers_at w' 26 ≡ h.list.entries
  entries_back = numbers_back w' 26 h.list.entries F at_j
    where
      at_j : (j : ℕ) → j < 32 → get_or w' (26 + j) 0 ≡ word_of (get_or h.list.entries j (pos 0))
      at_j j l =
          let e : 26 + j ≡ 24 + suc (suc j) = omega arith in
          ap (λ (i : ℕ). get_or w' i 0) e ∙ from_24 (suc (suc j))
          ∙ get_or-append (words_of h.list.entries) C 0 j (omega (arith, words_long h.list.entries))
          ∙ word_at h.list.entries j l

  marks_back : up_to 32 (λ k. get_or w' (60 + k) 0) ≡ no_links.marks
  unfolding no_links
  marks_back = up_to_list 32 _ no_links.marks 0 refl at_k
    where
      at_k : (k : ℕ) → k < 32 → get_or w' (60 + k) 0 ≡ get_or no_links.marks k 0
      at_k k l =
          let e : 60 + k ≡ 58 + suc (suc k) = omega arith in
          ap (λ (i : ℕ). get_or w' i 0) e ∙ from_58 (suc (suc k)) ∙ get_or-append no_links.marks D 0 k (omega arith)

  -- no link gave a list
  lists_back : up_to 32 (list_at w') ≡ no_lists
  unfolding no_links no_lists
  lists_back = up_to_list 32 (list_at w') no_lists (record { entries = [] }) refl at_k
    where
      at_k : (k : ℕ) → k < 32 → list_at w' k ≡ get_or no_lists k (record { entries = [] })
      at_k k l =
          rw (from_58 1, bit_none k) (sym (get_or-replicate {A = Row} 32 k (record { entries = zeros }) (record { entries = [] }) l))

  seat_back : seat_of w' ≡ h.seat
  unfolding seat_of with_head
  seat_back = λ i.
      record {
        family = family_back s.family i;
        n = mod-eq_of_lt S.n i;
        f = mod-eq_of_lt S.f i;
        number = mod-eq_of_lt S.number i;
        phase = mod-eq_of_lt S.phase i;
        round = mod-eq_of_lt S.round i;
        healed = flag_back s.healed i;
        ended = flag_back s.ended i;
        position = entry_back s.position S.position i;
        kept = range_back s.kept S.kept i;
        since = mod-eq_of_lt S.since i;
      }

  pub head_back : head_of w' ≡ h
  unfolding head_of no_links
  head_back = λ i.
      record {
        seat = seat_back i;
        heard = from_24 0 i;
        list = record { marks = from_24 1 i; entries = entries_back i };
        links = record { confessed = from_58 0 i; listed = from_58 1 i; marks = marks_back i };
        lists = lists_back i;
      }
