-- A head as C keeps it: a block of 1,116 words, one for each number. Every block is a record, whatever it holds (`head_of`), and a record is
-- put into a block (`with_head`). Hearing changes a few words alone (`heard_in`). Words 16 to 23 are no part of a record. Words 16 to 22 are
-- events, mask and offer; each call leaves the others as they were.
use Rattle.std.specs.Prelude.{◌≡◌, Bool, not, cond, List, [], ◌∷◌, ◌++◌, ℕ, zero, suc, ◌+◌, ◌*◌, ◌%◌, eqb, ltb, length, get_or, set, drop, ℤ, pos, None, Some}
use Rattle.std.proofs.Math.Seq.{paste, slice}
use Rattle.terms.specs.Refusals.{leaves}
use Rattle.terms.specs.Entry.{Entry}
use Rattle.terms.specs.declared.Family.{Family}
use Rattle.terms.specs.declared.Family.TheVariants.{TwoRounds, OneRound}
use Rattle.fields.specs.Bytes.{signed_of, word_of}
use Rattle.marks.specs.Marks.{bit_of, with_mark}
use Rattle.entries.specs.Entries.{zeros}
use Rattle.terms.specs.Counting.{bit}
use Rattle.frame_spec.specs.Said.{Meaning, refused, collected, listed, confessed}
use Rattle.settle_midpoint.specs.declared.Kept.{Kept}
use Rattle.head_spec.specs.declared.Row.{Row}
use Rattle.head_spec.specs.Kept.{LastKept, Offer}
use Rattle.head_spec.specs.declared.Seat.{Seat}
use Rattle.head_spec.specs.declared.Head.{Head}
use Rattle.head_spec.specs.declared.Answer.{Answer}
use Rattle.head_spec.specs.declared.Closed.{Closed}
use Rattle.head_spec.specs.Seats.{family_in}
use Rattle.head_spec.specs.Calls.{said_to, hear, Delivery}
use Rattle.head_spec.specs.Batch.{deliveries_of, batch_refusal, hear_batch, batch_answers, batch_count}
use Rattle.head_window.specs.declared.Registers.{Registers}
use Rattle.head_lent.specs.Answers.{held_number, held_or, range_number}
use Rattle.head_c.specs.Places as place

-- as many words as the code's type says
abbrev pub IsBlock : List ℕ → Type 0
IsBlock w = length w ≡ 1116

-- g 0, .., g (k - 1)
unfoldable pub up_to : {A : Type 0} → ℕ → (ℕ → A) → List A
up_to zero g = []
up_to (suc k) g = up_to k g ++ (g k ∷ [])

-- ---- the record that a block is

-- 0 is no
abbrev pub flag : ℕ → Bool
flag b = not (eqb b 0)

-- a position, if one is held
abbrev pub held_entry : ℕ → ℤ → Entry
held_entry zero v = None
held_entry (suc b) v = Some v

-- a kept range, if one is held
abbrev pub range_in : (some : ℕ) (low high : ℤ) (trim : ℕ) (position : ℤ) → LastKept
range_in zero low high trim position = None
range_in (suc b) low high trim position = Some (record { low = low; high = high; trim = trim; position = position })

-- the 32 numbers from word i on
unfoldable pub numbers_at : List ℕ → ℕ → List ℤ
numbers_at w i = up_to 32 (λ j. signed_of (get_or w (i + j) 0))

-- the list received from link k; if it gave none, what stands there is no part of the record
abbrev pub list_at : List ℕ → ℕ → Row
list_at w k = record { entries = cond (bit_of (get_or w place.listed 0) k) (numbers_at w (place.lists + 32 * k)) zeros }

-- the seat
unfoldable pub seat_of : List ℕ → Seat
seat_of w =
    record {
      family = family_in (get_or w place.family 0);
      n = get_or w place.n 0 % 256;
      f = get_or w place.f 0 % 256;
      number = get_or w place.number 0 % 256;
      phase = get_or w place.phase 0 % 65536;
      round = get_or w place.round 0 % 256;
      healed = flag (get_or w place.healed 0);
      ended = flag (get_or w place.ended 0);
      position = held_entry (get_or w place.held 0) (signed_of (get_or w place.position 0));
      kept =
          range_in (get_or w place.ranged 0) (signed_of (get_or w place.low 0)) (signed_of (get_or w place.high 0)) (get_or w place.trim 0 % 256)
          (signed_of (get_or w place.middle 0));
      since = get_or w place.since 0 % 256;
    }

-- the record that a block is: words become numbers, flags, tables and lists; every block has one (D11)
unfoldable pub head_of : List ℕ → Head
head_of w =
    record {
      seat = seat_of w;
      heard = get_or w place.heard 0;
      list = record { marks = get_or w place.marks 0; entries = numbers_at w place.entries };
      links =
          record {
            confessed = get_or w place.confessed 0;
            listed = get_or w place.listed 0;
            marks = up_to 32 (λ k. get_or w (place.list_marks + k) 0);
          };
      lists = up_to 32 (list_at w);
    }

-- ---- a record put into a block

-- the words of 32 numbers
unfoldable pub words_of : List ℤ → List ℕ
words_of E = up_to 32 (λ j. word_of (get_or E j (pos 0)))

-- a kept range, with zeros if none is held
abbrev pub kept_of : LastKept → Kept
kept_of None = record { low = pos 0; high = pos 0; trim = 0; position = pos 0 }
kept_of (Some k) = k

abbrev pub family_number : Family → ℕ
family_number TwoRounds = 0
family_number OneRound = 1

abbrev pub seat_words : Seat → List ℕ
seat_words s =
    s.n ∷ s.f ∷ s.number ∷ s.phase ∷ s.round ∷ bit s.healed ∷ bit s.ended ∷ held_number s.position
    ∷ word_of (held_or s.position (pos 0)) ∷ range_number s.kept ∷ word_of (kept_of s.kept).low ∷ word_of (kept_of s.kept).high
    ∷ (kept_of s.kept).trim ∷ word_of (kept_of s.kept).position ∷ family_number s.family ∷ s.since ∷ []

-- a record to which no link gave a list: what stands in the places of lists stays
unfoldable pub with_head : Head → List ℕ → List ℕ
with_head h w =
    seat_words h.seat ++ slice 16 24 w
    ++ (h.heard ∷ h.list.marks ∷ words_of h.list.entries)
    ++ (h.links.confessed ∷ h.links.listed ∷ h.links.marks)
    ++ drop place.lists w

-- after a call that answers a, its record is put into the block
unfoldable pub with_answer : List ℕ → Answer → List ℕ
with_answer w a = leaves a.refusal (with_head a.head w) w

-- ---- events and mask (document 02, A5)

-- the events and the mask of a block, whatever it holds (Q22)
abbrev pub registers_of : List ℕ → Registers
registers_of w = record { events = get_or w place.events 0; mask = get_or w place.mask 0 }

abbrev pub with_registers : Registers → List ℕ → List ℕ
with_registers b w = set (set w place.events b.events) place.mask b.mask

-- ---- the offer (document 02, A8). If word 18 is 0 there is none, and words 19 to 22 are not looked at.

abbrev pub offer_in : (some : ℕ) (low high : ℤ) (trim : ℕ) (middle : ℤ) → Offer
offer_in zero low high trim middle = None
offer_in (suc x) low high trim middle = Some (record { low = low; high = high; trim = trim; position = middle })

-- the offer that stands in a block, or none; it is no part of the record (Q69)
unfoldable pub offer_of : List ℕ → Offer
offer_of w =
    offer_in (get_or w place.offered 0) (signed_of (get_or w place.offer_low 0)) (signed_of (get_or w place.offer_high 0)) (get_or w place.offer_trim 0 % 256)
    (signed_of (get_or w place.offer_middle 0))

abbrev pub with_offer : Offer → List ℕ → List ℕ
with_offer None w = set w place.offered 0
with_offer (Some k) w =
    set (set (set (set (set w place.offered 1) place.offer_low (word_of k.low)) place.offer_high (word_of k.high)) place.offer_trim k.trim)
    place.offer_middle (word_of k.position)

-- after a call that answers c: one that is accepted ends it
abbrev pub without_offer : ℕ → List ℕ → List ℕ
without_offer c w = leaves c (with_offer None w) w

-- after a closing that answers c, with the record h: the record is put into the block if it ended a collection round; a position is only
-- offered
abbrev pub with_closing : Closed → Head → List ℕ → List ℕ
with_closing (Closed.Refused c) h w = w
with_closing Closed.Listed h w = with_head h w
with_closing (Closed.Settled k) h w = with_offer (Some k) w

-- ---- hearing

-- bit k of word i is set
abbrev pub marked : ℕ → ℕ → List ℕ → List ℕ
marked i k w = set w i (with_mark (get_or w i 0) k)

-- link k is heard, and an offer lapses
abbrev pub heard_on : ℕ → List ℕ → List ℕ
heard_on k w = marked place.heard k (with_offer None w)

-- what a frame on link k changes, by what it says
abbrev pub block_with : List ℕ → ℕ → Meaning → List ℕ
block_with w k (refused c) = w
block_with w k (collected None) = heard_on k w
block_with w k (collected (Some v)) = set (marked place.marks k (heard_on k w)) (place.entries + k) (word_of v)
block_with w k (listed t) =
    paste (set (marked place.listed k (heard_on k w)) (place.list_marks + k) t.marks) (place.lists + 32 * k) (words_of t.entries) 32
block_with w k confessed = marked place.confessed k (heard_on k w)

-- what hearing link k changes: a block has words for links 0 to 31, and no ring has more
unfoldable pub heard_in : List ℕ → ℕ → Meaning → List ℕ
heard_in w k m = cond (ltb k 32) (block_with w k m) w

-- What hearing bytes s on link k answers and leaves in a block: only those words are changed, and none if it is refused; and so the record
-- that the block is hears the bytes.
pub record Hears (w : List ℕ) (k : ℕ) (s : List ℕ) (r : ℕ) (w' : List ℕ) : Type 0 where
  pub refusal : r ≡ (hear (head_of w) k s).refusal
  pub block : w' ≡ leaves r (heard_in w k (said_to (head_of w).seat k s)) w
  pub head : head_of w' ≡ (hear (head_of w) k s).head

-- ---- hearing a batch

-- what hearing deliveries changes, one after the other
unfoldable pub heard_each : List ℕ → List Delivery → List ℕ
heard_each w [] = w
heard_each w (d ∷ D) =
    heard_each (leaves (hear (head_of w) d.link d.bytes).refusal (heard_in w d.link (said_to (head_of w).seat d.link d.bytes)) w) D

-- What hearing the batch s answers and leaves: in the block, in the buffer of answers a, which becomes a', and in the count c, which
-- becomes c'. If it is refused, nothing is changed.
pub record HearsBatch (w s a : List ℕ) (c r : ℕ) (w' a' : List ℕ) (c' : ℕ) : Type 0 where
  pub refusal : r ≡ batch_refusal s (length a)
  pub block : w' ≡ leaves r (heard_each w (deliveries_of s)) w
  pub head : head_of w' ≡ (hear_batch (head_of w) s (length a)).head
  pub answers : a' ≡ batch_answers (head_of w) s a
  pub count : c' ≡ batch_count s (length a) c
