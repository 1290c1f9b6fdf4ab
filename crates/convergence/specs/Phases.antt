-- Document 01, "Strikes" and the two rounds, for a whole ring: from one phase end to the next. In the field's terms: the mobile Byzantine
-- fault model of Garay. Struck is faulty, healed is cured and aware of it, healthy is healthy; sound is fault-free in the phase's last
-- round; a position is a state. Document 004 calls each of the two rounds a phase.
use Rattle.std.specs.Prelude.{Bool, true, false, not, cond, ℕ, zero, suc, ltb, ℤ, None, Some}
use Rattle.std.specs.Int.Signed.{le_z}
use Rattle.terms.specs.Positions.{gap, rounding}
use Rattle.terms.specs.Entry.{Entry}
use Rattle.terms.specs.declared.Family.{Family}
use Rattle.terms.specs.declared.Family.TheVariants.{TwoRounds, OneRound}
use Rattle.convergence.specs.Settling.{rule_of, settled}
use Rattle.convergence.specs.Trust.{Given, confessed, gave, trusted}

-- A phase end: the receivers struck in its last round, whose memory is lost, and the position that each other one holds. A receiver is
-- sound there if it is not struck. Receivers 0 .. n - 1 are the heads; the others are listeners (document 02, A6).
pub record End : Type 0 where
  pub struck : ℕ → Bool
  pub at : ℕ → Entry

-- At the start the heads are sound, with the positions of the start record; a receiver that is no head counts as struck, since it holds no
-- position yet (Q58).
unfoldable pub start_end : ℕ → (ℕ → ℤ) → End
start_end n v = record { struck = λ j. not (ltb j n); at = λ j. Some (v j) }

-- A phase's strikes, and what the struck heads send, which is the adversary's choice: anything, something else to each receiver, or nothing.
-- Nothing is a null entry in `sent`, and the value `nothing` of Trust.antt in `replied`. In both the sender's number is first and the
-- receiver's second; in the definitions below the receiver i is first and the link k second. A listener sends nothing: of it only
-- `struck_in_confession` matters. The one round of a phase of one round counts as its confession round: its strikes are `struck_in_confession`,
-- and what the struck heads send in it is `sent` (document 02, A9).
pub record Faults : Type 0 where
  pub struck_in_collection : ℕ → Bool  -- struck in the collection round
  pub sent : ℕ → ℕ → Entry  -- sender, receiver: what a sender struck then gives a receiver
  pub struck_in_confession : ℕ → Bool  -- struck in the confession round
  pub replied : ℕ → ℕ → Given  -- sender, receiver: the same in the confession round

-- What a link gives, by whether its head is struck in this round, and whether it was in the round before: a struck head what it likes; one
-- that is healed, struck in the round before only, that it is; a healthy one, struck in neither, what it has to say.
abbrev pub gives : {A : Type 0} (struck before : Bool) (likes healed says : A) → A
gives true before likes healed says = likes
gives false true likes healed says = healed
gives false false likes healed says = says

-- A round in which heads send positions, and in which these are struck: what link k gives receiver i. A healthy head sends its position, a
-- healed one silence (Q80).
abbrev pub heard_from : (struck : ℕ → Bool) (e : End) (F : Faults) (i k : ℕ) → Entry
heard_from struck e F i k = gives (struck k) (e.struck k) (F.sent k i) None (e.at k)

-- Collection round: entry k of the list that receiver i fills.
unfoldable pub list_of : (e : End) (F : Faults) (i k : ℕ) → Entry
list_of e F i k = heard_from F.struck_in_collection e F i k

-- Confession round: what link k gives receiver i. A healed head sends a confession, any other unstruck head its list.
unfoldable pub given_to : (e : End) (F : Faults) (i k : ℕ) → Given
given_to e F i k = gives (F.struck_in_confession k) (F.struck_in_collection k) (F.replied k i) confessed (gave (list_of e F k))

-- the entries from which receiver i settles: in a phase of two rounds those that it trusts, in one of one round those that it hears
unfoldable pub entries_at : (K : Family) (n f : ℕ) (e : End) (F : Faults) (i k : ℕ) → Entry
entries_at TwoRounds n f e F i = trusted n f (given_to e F i)
entries_at OneRound n f e F i = heard_from F.struck_in_confession e F i

-- The phase's end: each receiver that is not struck settles a position. r: how odd sums are rounded.
unfoldable pub after : (K : Family) (r n f : ℕ) (e : End) (F : Faults) → End
after K r n f e F = record { struck = F.struck_in_confession; at = λ i. settled r n (rule_of K f) (entries_at K n f e F i) }

-- the end of phase p; end 0 is the start
unfoldable pub end_after : (K : Family) (n f : ℕ) (v : ℕ → ℤ) (F : ℕ → Faults) (phase : ℕ) → End
end_after K n f v F zero = start_end n v
end_after K n f v F (suc p) = after K (rounding (suc p)) n f (end_after K n f v F p) (F (suc p))

-- ---- lowest, highest and spread of the sound ones among receivers 0 .. n - 1

abbrev pub lesser : ℤ → ℤ → ℤ
lesser a b = cond (le_z a b) a b

abbrev pub greater : ℤ → ℤ → ℤ
greater a b = cond (le_z a b) b a

-- of two entries, by their positions; a null counts for nothing
abbrev pub join : (ℤ → ℤ → ℤ) → Entry → Entry → Entry
join pick None b = b
join pick (Some a) None = Some a
join pick (Some a) (Some b) = Some (pick a b)

-- the position of a sound receiver
abbrev pub sound_at : End → ℕ → Entry
sound_at e j = cond (e.struck j) None (e.at j)

unfoldable pub lowest : ℕ → End → Entry
lowest zero e = None
lowest (suc n) e = join lesser (sound_at e n) (lowest n e)

unfoldable pub highest : ℕ → End → Entry
highest zero e = None
highest (suc n) e = join greater (sound_at e n) (highest n e)

-- the highest less the lowest
abbrev pub apart : Entry → Entry → ℕ
apart None b = 0
apart (Some a) None = 0
apart (Some a) (Some b) = gap a b

-- the spread of the sound ones, the diameter of their positions (P75)
unfoldable pub spread : ℕ → End → ℕ
spread n e = apart (lowest n e) (highest n e)
