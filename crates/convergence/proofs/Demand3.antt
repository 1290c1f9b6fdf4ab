-- Demand 3, for a ring played on what its links carry (`converges`): a phase within the limits takes an end to a nearer one, since the facts of
-- `Links` or `OneRound` hold at each of its receivers, head or listener, and then any two ends are as `Ends` says. Besides: no receiver ever meets refusal 25, and
-- each keeps an entry.
use Rattle.std.specs.Prelude.{Some}
use mathlib.Core.Path.{◌≡◌, refl}
use mathlib.Core.Bool.{true, not}
use Prim.Native.Nat.{ℕ, zero, suc, ◌+◌, ◌*◌, ◌≤◌, ◌<◌}
use native.Mathlib.Omega.{arith}
use native.Mathlib.Nat.{le_refl}
use borrow.Author.Tests.{le-leb, leb-true, lt-ltb}
use lib.Dec.{ltb}
use lib.IntN.{ℤ}
use lib.Signed.{◌<ℤ◌}
use Rattle.terms.specs.Sizes.{is_limit}
use Rattle.terms.specs.Entry.{Entry}
use Rattle.terms.specs.declared.Family.{Family}
use Rattle.terms.specs.declared.Family.TheVariants.{TwoRounds, OneRound}
use Rattle.terms.specs.Counting.{bit, AtMost}
use Rattle.convergence.specs.Settling.{nulls, Rule, rule_of, midpoint, enough, settled}
use Rattle.convergence.specs.Phases.{End, start_end, Faults, sound_at, lowest, highest, entries_at, after, end_after}
use Rattle.terms.specs.Positions.{rounding}
use Rattle.convergence.specs.Demand3.{KeptBetween, AcceptedSize, Halves, FewStruck, Converges}
use Rattle.terms.proofs.Sums.{sum_same, sum_none}
use Rattle.convergence.proofs.Support.{same_position}
use Rattle.convergence.proofs.Kept.{low, high, Holds, kept_in, range, closer}
use Rattle.convergence.proofs.OnePhase.{Between}
use Rattle.convergence.proofs.OnePhase as two
use Rattle.convergence.proofs.OneRound as one
use Rattle.convergence.proofs.Links as links
use Rattle.convergence.proofs.Ends.{number, AllHold, Inside, held_position, held_between, sound_holds, Nearer, Run, heads_inside, holds_at, bounds_inside, any_two}

-- ---- one phase of a ring

pub settled_is : (r n : ℕ) (R : Rule) (E : ℕ → Entry) → nulls n E ≤ R.most → settled r n R E ≡ Some (midpoint r n R E)
unfolding settled enough
settled_is r n R E h = rw le-leb

-- a struck limit that is taken
pub limit_accepted : (K : Family) (n f : ℕ) → is_limit K n f ≡ true → AcceptedSize K n f
unfolding is_limit
limit_accepted TwoRounds n f e = leb-true (7 * f + 2) (2 * n) e
limit_accepted OneRound n f e = leb-true (4 * f + 1) n e

-- whatever the entries are, if they are not refused: one is kept
pub keeps_one : (K : Family) (n f : ℕ) → AcceptedSize K n f → (E : ℕ → Entry) → nulls n E ≤ (rule_of K f).most → 2 * (rule_of K f).trim (nulls n E) + nulls n E < n
keeps_one TwoRounds n f size E few = two.keeps_one n f size E few
keeps_one OneRound n f size E few = one.keeps_one n f size E few

-- a phase within its limits
pub record Limits (K : Family) (n f : ℕ) (F : Faults) (e : End) : Type 0 where
  pub size : AcceptedSize K n f
  pub few_c : AtMost f n F.struck_in_collection
  pub few_d : AtMost f n F.struck_in_confession
  pub few_p : AtMost f n e.struck

-- the positions of before
abbrev before : End → ℕ → ℤ
before e j = number (e.at j)

module _ (n f : ℕ) (e : End) (F : Faults) (H : AllHold n e) where
  -- the limits of a phase of two rounds
  limits_two : Limits TwoRounds n f F e → two.Limits n f F.struck_in_collection F.struck_in_confession e.struck
  limits_two L = record { size = L.size; few_c = L.few_c; few_d = L.few_d; few_p = L.few_p }

  -- what each receiver settles from, in either family
  phase_holds : (K : Family) → Limits K n f F e → (m M : ℤ) → Between n e.struck (before e) m M → (i : ℕ) → Holds n (rule_of K f) m M (entries_at K n f e F i)
  unfolding entries_at
  phase_holds TwoRounds L m M B i =
      two.holds n f F.struck_in_collection F.struck_in_confession e.struck (before e) (limits_two L) _ (links.facts n f e F (before e) (limits_two L) H i) m M B
  phase_holds OneRound L m M B i =
      one.holds n f F.struck_in_confession e.struck (before e) L.size L.few_d L.few_p _ (one.facts n e F (before e) H i) m M B

  phase_few : (K : Family) → Limits K n f F e → (i : ℕ) → nulls n (entries_at K n f e F i) ≤ (rule_of K f).most
  unfolding entries_at
  phase_few TwoRounds L i =
      two.few_nulls n f F.struck_in_collection F.struck_in_confession e.struck (before e) (limits_two L) _ (links.facts n f e F (before e) (limits_two L) H i)
  phase_few OneRound L i =
      one.few_nulls n f F.struck_in_confession e.struck (before e) L.size L.few_d L.few_p _ (one.facts n e F (before e) H i)

  -- and the kept ranges of any two of them meet
  phase_meets : (K : Family) → Limits K n f F e → Halves K n f → (i i' : ℕ)
      → high n (rule_of K f) (entries_at K n f e F i) <ℤ low n (rule_of K f) (entries_at K n f e F i') → ⊥
  unfolding entries_at
  phase_meets TwoRounds L q i i' =
      let M = limits_two L in
      let known = links.facts n f e F (before e) M H in
      two.no_gap n f F.struck_in_collection F.struck_in_confession e.struck (before e) M _ _ (known i) (known i') (links.two_faced n f e F (before e) M H i i') q
  phase_meets OneRound L q i i' =
      let known = one.facts n e F (before e) H in
      one.no_gap n f F.struck_in_confession e.struck (before e) L.size L.few_d L.few_p _ _ (known i) (known i')

module _ (K : Family) (n f : ℕ) (e : End) (F : Faults) (L : Limits K n f F e) where
  -- the entries of receiver i, and the rule by which it settles
  abbrev table : ℕ → ℕ → Entry
  table i = entries_at K n f e F i

  abbrev rule : Rule
  rule = rule_of K f

  module _ (H : AllHold n e) (i : ℕ) where
    pub few_nulls_in_phase : nulls n (table i) ≤ rule.most
    few_nulls_in_phase = phase_few n f e F H K L i

    pub some_kept_in_phase : 2 * rule.trim (nulls n (table i)) + nulls n (table i) < n
    some_kept_in_phase = keeps_one K n f L.size (table i) few_nulls_in_phase

    settles : (r : ℕ) (a : ℤ) → sound_at (after K r n f e F) i ≡ Some a → a ≡ midpoint r n rule (table i)
    unfolding after
    settles r a s = same_position (settled_is r n rule (table i) few_nulls_in_phase) (sound_holds (F.struck_in_confession i) (settled r n rule (table i)) a s)

  module _ (m M : ℤ) (I : Inside n e m M) where
    holds_inside : AllHold n e
    holds_inside j l s = held_position (Some m) (Some M) (e.at j) (I j l s)

    before_inside : Between n e.struck (before e) m M
    before_inside j l s = held_between m M (e.at j) (I j l s)

    table_inside : (i : ℕ) → Holds n rule m M (table i)
    table_inside = phase_holds n f e F holds_inside K L m M before_inside

    -- what receiver i keeps lies between them too
    kept_inside : (i : ℕ) → let E = table i in KeptBetween (Some m) (Some M) (low n rule E) (high n rule E)
    kept_inside i = kept_in (table_inside i)

  -- at the heads and any receivers after them
  pub nearer : (N r : ℕ) → r ≤ 1 → Nearer n N (Halves K n f) e (after K r n f e F)
  unfolding after
  nearer N r small =
      record {
        between =
            λ m M I i l s. rw (settled_is r n rule (table i) (few_nulls_in_phase (holds_inside m M I) i)) (range (table_inside m M I i) r small);
        near =
            λ q m M I i i' l l' a b s s'. let H = holds_inside m M I in
            rw (settles H i r a s, settles H i' r b s')
            (closer (table_inside m M I i) (table_inside m M I i') (phase_meets n f e F H K L q i i') r);
      }

-- ---- a run

-- what receiver i keeps of the phase after end p lies between the lowest and the highest of the sound positions there, those of listeners among them
pub kept_between : {n N f : ℕ} {E : ℕ → End} (K : Family) (R : Run n N f (Halves K n f) E) (p : ℕ) (F : Faults) → Limits K n f F (E p)
    → (i : ℕ) → let T = entries_at K n f (E p) F i in
    KeptBetween (lowest N (E p)) (highest N (E p)) (low n (rule_of K f) T) (high n (rule_of K f) T)
kept_between {n} {N} {f} {E} K R p F L i =
    let (m, M, a, b, I) = bounds_inside R p in
    rw (a, b) (kept_inside K n f (E p) F L m M (heads_inside R p m M I) i)

pub rounding_le : (p : ℕ) → rounding p ≤ 1
unfolding rounding
rounding_le p = omega arith

pub size_large : (K : Family) (n f : ℕ) → AcceptedSize K n f → f < n
size_large TwoRounds n f size = omega arith
size_large OneRound n f size = omega arith

module _ (K : Family) (n f : ℕ) (size : AcceptedSize K n f) (v : ℕ → ℤ) (F : ℕ → Faults) (within : FewStruck n f F) where
  abbrev end : ℕ → End
  end = end_after K n f v F

  pub few_struck : (p : ℕ) → AtMost f n (end p).struck
  unfolding end_after start_end after
  few_struck zero = omega (arith, sum_none n, sum_same n (λ j. bit (not (ltb j n))) (λ j. 0) (λ j l. rw (lt-ltb j n l)))
  few_struck (suc p) = (within (suc p)).1

  -- the phase after end p is within the limits
  limits : (p : ℕ) → Limits K n f (F (suc p)) (end p)
  limits p = record { size = size; few_c = (within (suc p)).0; few_d = (within (suc p)).1; few_p = few_struck p }

  pub run : (N : ℕ) → n ≤ N → Run n N f (Halves K n f) end
  unfolding end_after start_end
  run N more =
      record {
        large = size_large K n f size;
        more = more;
        few = few_struck;
        holds = λ j l s. refl;
        step = λ p. nearer K n f (end p) (F (suc p)) (limits p) N (rounding (suc p)) (rounding_le (suc p));
      }

  -- at each receiver i of the phase after end p
  module _ (p i : ℕ) where
    -- refusal 25 does not happen
    pub few_nulls_in_ring : nulls n (entries_at K n f (end p) (F (suc p)) i) ≤ (rule_of K f).most
    few_nulls_in_ring = few_nulls_in_phase K n f (end p) (F (suc p)) (limits p) (holds_at (run n (le_refl n)) p) i

    pub something_kept : let z = nulls n (entries_at K n f (end p) (F (suc p)) i) in 2 * (rule_of K f).trim z + z < n
    something_kept = some_kept_in_phase K n f (end p) (F (suc p)) (limits p) (holds_at (run n (le_refl n)) p) i

    pub kept_between_in_ring : (N : ℕ) → n ≤ N → let E = entries_at K n f (end p) (F (suc p)) i in
        KeptBetween (lowest N (end p)) (highest N (end p)) (low n (rule_of K f) E) (high n (rule_of K f) E)
    kept_between_in_ring N more = kept_between K (run N more) p (F (suc p)) (limits p) i

pub converges : Converges
converges K n f N more size v F within = any_two (run K n f size v F within N more)
