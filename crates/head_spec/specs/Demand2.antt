-- Demand 2, a statement for each sentence of it. proofs/Demand2.antt proves `Demand2`.
use Rattle.std.specs.Prelude.{◌≡◌, ◌↔◌, true, false, cond, List, [], ◌∷◌, ℕ, ◌≤◌, eqb, take, ℤ, Some, Ok}
use Rattle.terms.specs.Sizes.{is_listener}
use Rattle.terms.specs.Entry.{Entry}
use Rattle.terms.specs.declared.Family.{Family}
use Rattle.terms.specs.declared.Family.TheVariants.{TwoRounds, OneRound}
use Rattle.entries.specs.Tables.{table_at}
use Rattle.terms.specs.Counting.{Each}
use Rattle.convergence.specs.Settling.{rule_of}
use Rattle.convergence.specs.Trust.{Given, has_confessed, Only, trusted}
use Rattle.terms.specs.Positions.{rounding}
use Rattle.settle_midpoint.specs.Answers.{settling}
use Rattle.settle_midpoint.specs.Settled.{Settled}
use Rattle.frame_spec.specs.Said.{Meaning, refused, collected, listed, confessed, said}
use Rattle.frame_spec.specs.Proper.{AllBytes, AcceptedMeaning}
use Rattle.head_spec.specs.declared.Seat.{Seat}
use Rattle.head_spec.specs.declared.Head.{Head}
use Rattle.head_spec.specs.Record.{heard_entry, given_of}
use Rattle.head_spec.specs.Calls.{start_refusal, started, restart_refusal, restarted, start_listener_refusal, started_listener, restart_listener_refusal, said_to, hear, Delivery, hear_each, spoken, frame_for, write_answer, write_buffer, end_settled, end_round, offer_settled, is_last_round, close}
use Rattle.head_spec.specs.Proper.{ProperHead}

-- The records that calls can reach: started or restarted, as a head or as a listener, and then heard on and their rounds ended, with any
-- arguments, whatever is refused on the way.
pub data Reachable : Head → Type 0 where
  starts : (K : Family) (n f i : ℕ) (v : ℤ) → start_refusal K n f i v ≡ 0 → Reachable (started K n f i v)
  restarts : (K : Family) (n f i p r : ℕ) → restart_refusal K n f i p r ≡ 0 → Reachable (restarted K n f i p r)
  listens : (K : Family) (n f i : ℕ) → start_listener_refusal K n f i ≡ 0 → Reachable (started_listener K n f i)
  listens_again : (K : Family) (n f i p r : ℕ) → restart_listener_refusal K n f i p r ≡ 0 → Reachable (restarted K n f i p r)
  hears : {h : Head} (k : ℕ) (s : List ℕ) → AllBytes s → Reachable h → Reachable (hear h k s).head
  ends : {h : Head} → Reachable h → Reachable (end_round h).head

abbrev pub EveryProper : Type 0
EveryProper = (h : Head) → Reachable h → ProperHead h

-- ---- "A frame written for a head's state reads back as what that head had to say": to every head of the same ring in the same phase and
-- round, on the link of its number. A listener has nothing to say to anyone.

abbrev pub ReadsBack : Type 0
ReadsBack =
    (h : Head) → Reachable h → is_listener h.seat.number ≡ false
    → said h.seat.n h.seat.phase h.seat.round h.seat.number (frame_for h) ≡ spoken h

-- so do the bytes that writing puts at the front of a lent buffer
abbrev pub WrittenReadsBack : Type 0
WrittenReadsBack =
    (h : Head) → Reachable h → (buffer : List ℕ) (len : ℕ) → write_answer h buffer ≡ Ok len
    → said h.seat.n h.seat.phase h.seat.round h.seat.number (take len (write_buffer h buffer)) ≡ spoken h

-- ---- "each frame accepted at hearing is the only one with its meaning": on link k, in phase p and round r of a ring of n heads

abbrev pub OnlyFrame : Type 0
OnlyFrame =
    (n p r k : ℕ) (s t : List ℕ) → n ≤ 32 → AllBytes s → AllBytes t
    → AcceptedMeaning (said n p r k s) → said n p r k t ≡ said n p r k s → t ≡ s

-- ---- "Each head's list, trusted positions, trim and new position are those of Algorithm CC, as document 01 sets it down"

-- a refused frame gives way to the next
abbrev pub or_else : Meaning → Meaning → Meaning
or_else (refused c) next = next
or_else (collected e) next = collected e
or_else (listed t) next = listed t
or_else confessed next = confessed

-- "Each link gives its first acceptable frame of a round, or nothing": what link k says in a round, of all that is delivered; `refused 0`
-- is nothing
unfoldable pub first_said : Seat → ℕ → List Delivery → Meaning
first_said x k [] = refused 0
first_said x k (d ∷ D) = cond (eqb d.link k) (or_else (said_to x k d.bytes) (first_said x k D)) (first_said x k D)

-- the entries from which a phase end settles, by what each link said in its last round: those that are trusted, or in a ring of one round
-- those that were said
abbrev pub entries_from : (K : Family) (x : Seat) (D : List Delivery) (k : ℕ) → Entry
entries_from TwoRounds x D = trusted x.n x.f (λ k. given_of (first_said x k D))
entries_from OneRound x D = λ k. heard_entry (first_said x k D)

-- refusal 25, or the kept range, the trim and the new position of these entries
abbrev pub settled_from : Seat → List Delivery → Settled
settled_from x D = settling (rounding x.phase) x.n (rule_of x.family x.f) (entries_from x.family x D)

-- A round of the head h, which has heard nothing in it: D is all that is delivered, on any links in any order, and then the round is ended.
pub record FollowsCC (h : Head) (D : List Delivery) : Type 0 where
  -- "fills its list, one entry per link: the position heard, else null"
  pub list : is_last_round h.seat ≡ false
      → Each h.seat.n (λ k. table_at (end_round (hear_each h D)).head.list k ≡ heard_entry (first_said h.seat k D))
  -- what is settled is answered, and the head holds the position
  pub settles : is_last_round h.seat ≡ true → end_round (hear_each h D) ≡ end_settled (settled_from h.seat D) (hear_each h D)
  -- the same is offered, by a closing that leaves the head as it is (document 02, A8)
  pub offers : is_last_round h.seat ≡ true → close (hear_each h D) ≡ offer_settled (settled_from h.seat D) (hear_each h D)

abbrev pub AlgorithmCC : Type 0
AlgorithmCC = (h : Head) → Reachable h → h.heard ≡ 0 → h.seat.ended ≡ false → (D : List Delivery) → FollowsCC h D

-- "Trusted entry j is u if exactly one position has support n - f or more and link j has not confessed": link k of n gave G k
abbrev pub TrustsOnly : Type 0
TrustsOnly =
    (n f : ℕ) (G : ℕ → Given) (j : ℕ) (u : ℤ) → (trusted n f G j ≡ Some u) ↔ (Only n f G j u × (has_confessed (G j) ≡ false))

pub record Demand2 : Type 0 where
  pub proper : EveryProper
  pub reads_back : ReadsBack
  pub written_reads_back : WrittenReadsBack
  pub only_frame : OnlyFrame
  pub algorithm : AlgorithmCC
  pub trusts : TrustsOnly
