-- The list that a head fills: what head i hears of head k is what is planted, or what head k sent. Two tables of n entries are the same if their entries below n
-- are, and an entry is put into a table where there was none by its mark and its number.
use Rattle.std.specs.Prelude.{None}
use Rattle.std.proofs.Common.{◌≡◌, ℕ, ◌+◌, ◌*◌, ◌%◌, ◌^◌, ◌<◌, Bool, true, false, cond, List, [], length, set, ℤ, sym, refl, ap, ◌∙◌, ap₂, arith, get_or-set_other, get_or-set_same, lt-ltb}
use Rattle.terms.specs.Entry.{Entry}
use Rattle.terms.specs.declared.Table.{Table}
use Rattle.marks.specs.Marks.{bit_of}
use Rattle.entries.specs.Tables.{mark, value_of, marks_of, values_of, table_of}
use Rattle.entries.proofs.Tables.{marks_same, numbers_same, table_same, put, put_same, put_other, numbers_put, marks_sum, marks_room}
use Rattle.frame_spec.specs.Said.{collected, said}
use Rattle.frame_spec.specs.Written.{frame_of}
use Rattle.frame_spec.proofs.ReadsBack.{reads_back}
use Rattle.head_spec.specs.Record.{heard_entry}
use Rattle.ring_play.specs.declared.Stage.{Stage}
use Rattle.convergence.specs.Settling.{one_round_rule}
use Rattle.terms.specs.Positions.{rounding}
use Rattle.settle_midpoint.specs.Answers.{settling}
use Rattle.settle_midpoint.specs.Settled.{Settled}
use Rattle.settle_midpoint.proofs.Middle.{settling_same}
use Rattle.entries.specs.Tables.{table_at}
use Rattle.entries.proofs.TableAt.{table_at_lem}
use Rattle.ring_play.specs.Memory.{heads, sends, InRange, list_entry, row_in, position_of, heard_position}
use Rattle.ring_play.specs.Inner.Collection.{own_entry, sent_by, heard_of, heard_with, Shared, position_from}
use Rattle.ring_play.proofs.round.Filling.{filled_to, Filled, filled_passed, filled_stored, filled_yet}

-- ---- what is heard

-- what a head sends is heard as it is
pub sent_as_is : (s : Stage) (positions : List ℤ) → s.phase < 65536 → InRange s positions → (k : ℕ) → k < heads s
    → own_entry s positions k ≡ heard_entry (said (heads s) s.phase 0 k (frame_of (heads s) k s.phase (sends s positions k)))
sent_as_is s positions small fit k l =
    sym (ap heard_entry (reads_back (heads s) k s.phase (collected (own_entry s positions k)) (omega arith) small (fit k l)))

pub sent_none : (s : Stage) (positions : List ℤ) (k : ℕ) → bit_of s.struck k ≡ true → sent_by s positions k ≡ None
unfolding sent_by
sent_none s positions k b = rw b

abbrev pub sent_shared : (s : Stage) (positions : List ℤ) {t : Table} → t ≡ table_of (heads s) (sent_by s positions) → Shared s t
sent_shared s positions e = record { entry = sent_by s positions; is = e; none = sent_none s positions }

pub heard_list : (s : Stage) (positions : List ℤ) → s.phase < 65536 → InRange s positions → (plant : ℕ → ℕ → List ℕ) (i : ℕ)
    → table_of (heads s) (heard_with s (sent_by s positions) plant i) ≡ table_of (heads s) (list_entry s positions plant i)
unfolding heard_with heard_of sent_by list_entry
heard_list s positions small fit plant i = table_same (heads s) _ _ (λ k l. go k (bit_of s.struck k) (sent_as_is s positions small fit k l))
  where
    go : (k : ℕ) (b : Bool) → own_entry s positions k ≡ heard_entry (said (heads s) s.phase 0 k (frame_of (heads s) k s.phase (sends s positions k)))
        → cond b (heard_entry (said (heads s) s.phase 0 k (plant k i))) (cond b None (own_entry s positions k))
        ≡ heard_entry (said (heads s) s.phase 0 k (cond b (plant k i) (frame_of (heads s) k s.phase (sends s positions k))))
    go k true e = refl
    go k false e = e

-- ---- the list of receiver i: before head k, what is planted by the struck heads below k is in it

module _ (s : Stage) (plant : ℕ → ℕ → List ℕ) (i : ℕ) where
  -- E, with what is planted by the struck heads below k
  abbrev heard_to : (ℕ → Entry) → ℕ → ℕ → Entry
  heard_to E = filled_to (bit_of s.struck) (λ j. heard_of s (plant j i) j) E

  passed_heard : (E : ℕ → Entry) (k : ℕ) → bit_of s.struck k ≡ false → (j : ℕ) → heard_to E k j ≡ heard_to E (k + 1) j
  passed_heard E k b = filled_passed (bit_of s.struck) (λ j. heard_of s (plant j i) j) E k (λ j. refl) b

  put_heard : (E : ℕ → Entry) (k : ℕ) {e : Entry} → bit_of s.struck k ≡ true → e ≡ heard_of s (plant k i) k → (j : ℕ) → put (heard_to E k) k e j ≡ heard_to E (k + 1) j
  put_heard E k {e} b is =
      filled_stored (bit_of s.struck) (λ j. heard_of s (plant j i) j) E k (λ j. refl) b (put_same (heard_to E k) k e ∙ is) (λ j d. put_other (heard_to E k) k e j d)

  module _ (t₀ : Table) (m : ℕ) (l : List ℤ) where
    abbrev pub ListTo : ℕ → Type 0
    ListTo k = (S : Shared s t₀) → (m ≡ marks_of (heads s) (heard_to S.entry k)) × (l ≡ values_of (heads s) (heard_to S.entry k))

    pub list_pass : (k : ℕ) → bit_of s.struck k ≡ false → ListTo k → ListTo (k + 1)
    list_pass k b h S = (
      (h S).0 ∙ marks_same (heads s) _ _ (λ x z. passed_heard S.entry k b x),
      (h S).1 ∙ numbers_same (heads s) _ _ (λ x z. passed_heard S.entry k b x),
    )

    pub list_last : ListTo (heads s) → (S : Shared s t₀)
        → ◌≡◌ {A = Table} (record { marks = m; entries = l }) (table_of (heads s) (heard_with s S.entry plant i))
    unfolding heard_with
    list_last h S =
        ap₂ (λ (a : ℕ) (b : List ℤ). record { marks = a; entries = b }) (h S).0 (h S).1 ∙ table_same (heads s) _ _ (λ j z. rw (lt-ltb j (heads s) z))

  module _ {t₀ : Table} where
    -- the entry e of head k, with its mark r and its number v
    module _ (k : ℕ) {m : ℕ} {l : List ℤ} (h : ListTo t₀ m l k) {e : Entry} {r : ℕ} (below : k < heads s) (b : bit_of s.struck k ≡ true)
        (is : e ≡ heard_of s (plant k i) k) (q : r ≡ mark e) where
      yet : (S : Shared s t₀) → heard_to S.entry k k ≡ None
      yet S = filled_yet (bit_of s.struck) (λ j. heard_of s (plant j i) j) S.entry k (λ j. refl) ∙ S.none k b

      pub list_room : Shared s t₀ → m + r * 2 ^ k % 4294967296 < 4294967296
      list_room S = marks_room (heard_to S.entry k) k (heads s) e (yet S) below (omega arith) (h S).0 q

      pub list_next : {v : ℤ} → v ≡ value_of e → ListTo t₀ (m + r * 2 ^ k % 4294967296) (set l k v) (k + 1)
      list_next w S = (
        marks_sum (heard_to S.entry k) k (heads s) e (yet S) below (omega arith) (h S).0 q ∙ marks_same (heads s) _ _ (λ j x. put_heard S.entry k b is j),
        rw ((h S).1, w) (sym (numbers_put (heard_to S.entry k) k e (heads s) below)) ∙ numbers_same (heads s) _ _ (λ j x. put_heard S.entry k b is j),
      )

-- the table of what all hear, by other words
abbrev pub shared_as : {s : Stage} {t t' : Table} → t ≡ t' → Shared s t' → Shared s t
shared_as e S = record { entry = S.entry; is = e ∙ S.is; none = S.none }

-- ---- the memory

-- a head's list is stored: its marks and its numbers
pub filled_row : (picked : ℕ → Bool) (new old : ℕ → Table) (marks : List ℕ) (lists : List (List ℤ)) (i : ℕ) {t : Table}
    → Filled picked new old i (row_in marks lists) → i < length marks → i < length lists → picked i ≡ true → t ≡ new i
    → Filled picked new old (i + 1) (row_in (set marks i t.marks) (set lists i t.entries))
filled_row picked new old marks lists i {t} h a b e q =
    filled_stored picked new old i h e (ap₂ row (get_or-set_same marks i t.marks 0 a) (get_or-set_same lists i t.entries [] b) ∙ q)
    (λ j d. ap₂ row (get_or-set_other marks i j t.marks 0 d) (get_or-set_other lists i j t.entries [] d))
  where
    row : ℕ → List ℤ → Table
    row m l = record { marks = m; entries = l }

-- ---- a phase of one round

-- x: what was settled of the list t; n, r: the heads and the rounding, as the code has them
pub position_settled_lem : (s : Stage) (t : Table) {n r : ℕ} {x : Settled} → n ≡ heads s → r ≡ rounding s.phase
    → x ≡ settling r n (one_round_rule s.f) (table_at t) → position_of x ≡ position_from s (table_at t)
unfolding position_from
position_settled_lem s t p q e = ap position_of (rw (p, q) at e)

pub concluded : (s : Stage) (positions : List ℤ) → s.phase < 65536 → InRange s positions → (plant : ℕ → ℕ → List ℕ) (i : ℕ)
    → position_from s (table_at (table_of (heads s) (heard_with s (sent_by s positions) plant i))) ≡ heard_position s positions plant i
unfolding position_from heard_position
concluded s positions small fit plant i =
    ap (λ (t : Table). position_of (settling (rounding s.phase) (heads s) (one_round_rule s.f) (table_at t))) (heard_list s positions small fit plant i)
    ∙ ap position_of (settling_same (rounding s.phase) (heads s) (one_round_rule s.f) _ _ (table_at_lem (heads s) (list_entry s positions plant i) (omega arith)))
