-- One round of a ring. Every unstruck head opens it with nothing heard and says what its record has to say, and every receiver, head or listener, hears it say
-- so; a struck head says what is planted, if anything. So these alone tell what an unstruck record holds when all is heard.
use Rattle.std.specs.Prelude.{None}
use mathlib.Core.Path.{◌≡◌, refl, sym, subst, ◌∙◌}
use mathlib.Core.Bool.{Bool, true, false, cond}
use mathlib.Core.List.{List}
use mathlib.Core.Logic.{inl, inr}
use Prim.Native.Nat.{ℕ, ◌≤◌, ◌<◌}
use Rattle.terms.specs.Sizes.{rounds_of}
use Rattle.terms.specs.declared.Family.{Family}
use Rattle.marks.specs.Marks.{bit_of}
use Rattle.entries.specs.Tables.{table_at}
use Rattle.terms.specs.Counting.{Each}
use Rattle.frame_spec.specs.Said.{Meaning, collected, listed, confessed, said}
use Rattle.head_spec.specs.declared.Seat.{Seat}
use Rattle.head_spec.specs.declared.Head.{Head}
use Rattle.head_spec.specs.Record.{given, heard_entry, given_of}
use Rattle.head_spec.specs.Calls.{restarted, said_to, hear_all, spoken, frame_for}
use Rattle.head_spec.proofs.Proper.{Sized, ProperHead, restart_accepted, restart_listener_accepted}
use Rattle.head_spec.proofs.Hearing.{all_keep, proper_all, Fresh, fresh_restarted, fresh_restarted_listener, gave_as_said, listed_as_said}
use Rattle.head_spec.proofs.Speaking.{spoken_reads_back}
use Rattle.ring_spec.specs.Rounds.{Round, planted, Ring, opened_at, carried}
use Rattle.ring_spec.proofs.Receivers.{Hears}

-- the seat of receiver i in round r of phase p; b: it is healed
pub record SeatedAt (K : Family) (n f i p r : ℕ) (b : Bool) (s : Seat) : Type 0 where
  pub family : s.family ≡ K
  pub count : s.n ≡ n
  pub limit : s.f ≡ f
  pub number : s.number ≡ i
  pub phase : s.phase ≡ p
  pub round : s.round ≡ r
  pub healed : s.healed ≡ b
  pub runs : s.ended ≡ false

-- the record of receiver i as round r of phase p opens
pub record Ready (K : Family) (n f i p r : ℕ) (b : Bool) (h : Head) : Type 0 where
  pub fresh : Fresh h
  pub seat : SeatedAt K n f i p r b h.seat

-- a ring as the next round finds it: every receiver whose record is not lost can open it
pub record RingReady (K : Family) (n f : ℕ) (R : Ring) : Type 0 where
  pub size : Sized K n f
  pub from_first : 1 ≤ R.phase
  pub to_last : R.phase ≤ 65535
  pub round : R.round < rounds_of K
  pub heads : (i : ℕ) → Hears n i → bit_of R.before i ≡ false → Ready K n f i R.phase R.round false (R.heads i)

-- what a record says, by its round
module _ {K : Family} {n f i p : ℕ} {b : Bool} {h : Head} where
  pub says_entry : Ready K n f i p 0 b h → spoken h ≡ collected (cond b None h.seat.position)
  unfolding spoken
  says_entry H = rw (H.seat.round, H.seat.healed)

  pub says_list : Ready K n f i p 1 b h → spoken h ≡ cond b confessed (listed h.list)
  unfolding spoken
  says_list H = rw (H.seat.round, H.seat.healed)

  -- its frame says that to every receiver in this round
  frame_says : {r : ℕ} → Ready K n f i p r b h → said n p r i (frame_for h) ≡ spoken h
  frame_says {r} H = sym same ∙ spoken_reads_back h H.fresh.proper
    where
      same : said_to h.seat h.seat.number (frame_for h) ≡ said n p r i (frame_for h)
      same = let A = H.seat in λ t. said (A.count t) (A.phase t) (A.round t) (A.number t) (frame_for h)

module _ (K : Family) (n f : ℕ) (R : Ring) (w : Round) where
  -- what receiver i hears on link k
  abbrev pub said_in : ℕ → ℕ → Meaning
  said_in i k = said n R.phase R.round k (carried K n f R w i k)

  -- the record of receiver i when it has heard all links
  abbrev pub heard_at : ℕ → Head
  heard_at i = hear_all (opened_at K n f R w i) (carried K n f R w i) n

  pub said_planted : (i k : ℕ) → bit_of w.struck k ≡ true → said_in i k ≡ said n R.phase R.round k (planted w.plants k i)
  unfolding carried
  said_planted i k q = rw q

  -- neither struck nor healed: the record that was
  pub opened_same : (i : ℕ) → bit_of w.struck i ≡ false → bit_of R.before i ≡ false → opened_at K n f R w i ≡ R.heads i
  unfolding opened_at
  opened_same i q e = rw (q, e)

  module _ (S : RingReady K n f R) where
    restarted_fresh : (i : ℕ) → Hears n i → Fresh (restarted K n f i R.phase R.round)
    restarted_fresh i (inl l) =
        fresh_restarted K n f i R.phase R.round (restart_accepted K n f i S.size l R.phase R.round S.from_first S.to_last S.round)
    restarted_fresh i (inr e) =
        fresh_restarted_listener K n f i R.phase R.round
        (restart_listener_accepted K n f i S.size e R.phase R.round S.from_first S.to_last S.round)

    restarted_ready : (i : ℕ) → Hears n i → Ready K n f i R.phase R.round true (restarted K n f i R.phase R.round)
    unfolding restarted
    restarted_ready i l =
        record {
          fresh = restarted_fresh i l;
          seat = record { family = refl; count = refl; limit = refl; number = refl; phase = refl; round = refl; healed = refl; runs = refl };
        }

    module _ (i : ℕ) (l : Hears n i) (q : bit_of w.struck i ≡ false) where
      pub opened_ready : Ready K n f i R.phase R.round (bit_of R.before i) (opened_at K n f R w i)
      unfolding opened_at
      opened_ready = rw q (go (bit_of R.before i) refl)
        where
          go : (b : Bool) → bit_of R.before i ≡ b
              → Ready K n f i R.phase R.round b (cond b (restarted K n f i R.phase R.round) (R.heads i))
          go true e = restarted_ready i l
          go false e = S.heads i l e

      pub opened_in : {r : ℕ} → R.round ≡ r → Ready K n f i R.phase r (bit_of R.before i) (opened_at K n f R w i)
      opened_in c = subst (λ (r : ℕ). Ready K n f i R.phase r (bit_of R.before i) (opened_at K n f R w i)) c opened_ready

    -- every receiver hears an unstruck head say what its record has to say
    pub said_spoken : (i k : ℕ) → k < n → bit_of w.struck k ≡ false → said_in i k ≡ spoken (opened_at K n f R w k)
    unfolding carried
    said_spoken i k l q = rw q (frame_says (opened_ready k (inl l) q))

    -- ---- when all is heard

    module _ (i : ℕ) (l : Hears n i) (q : bit_of w.struck i ≡ false) where
      abbrev h : Head
      h = opened_at K n f R w i

      abbrev g : ℕ → List ℕ
      g = carried K n f R w i

      abbrev H : Ready K n f i R.phase R.round (bit_of R.before i) h
      H = opened_ready i l q

      pub heard_proper : ProperHead (heard_at i)
      heard_proper = proper_all h g n H.fresh.proper

      pub heard_seat : (heard_at i).seat ≡ h.seat
      heard_seat = all_keep h g n

      pub heard_at_lem : SeatedAt K n f i R.phase R.round (bit_of R.before i) (heard_at i).seat
      heard_at_lem = rw heard_seat H.seat

      pub heard_given : Each n (λ k. given (heard_at i) k ≡ given_of (said_in i k))
      heard_given = let A = H.seat in simp (A.count, A.phase, A.round) at (gave_as_said h H.fresh g)

      pub heard_list : R.round ≡ 0 → Each n (λ k. table_at (heard_at i).list k ≡ heard_entry (said_in i k))
      heard_list c = let A = H.seat in simp (A.count, A.phase, A.round) at (listed_as_said h H.fresh g (A.round ∙ c))
