-- Demand 3 from any phase end on: the ends that follow it are a run in the sense of `Ends`, as those that follow the start are.
use Rattle.std.specs.Prelude.{None, Some}
use mathlib.Core.Path.{◌≡◌, refl, ap, sym, subst, ◌∙◌}
use mathlib.Core.Bool.{Bool, true, false, not, cond, true≢false}
use mathlib.Core.Logic.{◌≢◌}
use mathlib.Core.List.{[], ◌∷◌}
use Prim.Native.Nat.{ℕ, zero, suc, ◌+◌, ◌-◌, ◌*◌, ◌^◌, ◌≤◌, ◌<◌}
use native.Mathlib.Omega.{arith}
use native.Mathlib.Nat.{div-lt_iff_lt-mul}
use borrow.Author.Tests.{le-leb, lt-leb, leb-true, ltb-true}
use lib.Dec.{T, ltb, leb}
use lib.Pow.{pow_pos}
use lib.IntN.{ℤ, pos, negsuc}
use lib.Signed.{◌≤ℤ◌}
use Rattle.terms.specs.Positions.{is_position, rounding, gap, eq_z}
use Rattle.terms.specs.Entry.{Entry}
use Rattle.terms.specs.declared.Family.{Family}
use Rattle.terms.specs.declared.Family.TheVariants.{TwoRounds, OneRound}
use Rattle.terms.proofs.Sums.{each_last, each_less, sums_le, sum_same, sum_one, sum_none}
use Rattle.terms.proofs.Whole.{eqZ→eq, eq_z_refl, position_within}
use Rattle.terms.specs.Counting.{Each, sum, bit, AtMost}
use Rattle.convergence.specs.Settling.{is_null, nulls, rule_of, enough, settled}
use Rattle.convergence.specs.Trust.{Given, confessed, gave, is, support, has_confessed, confessions, says_of, Seen, none, one, many, pick, see, see_entry, seen, choose, trusted}
use Rattle.convergence.specs.Phases.{End, Faults, gives, list_of, given_to, entries_at, after, sound_at, start_end, end_after, lowest, highest, spread}
use Rattle.convergence.specs.Demand3.{halved, HeldBetween, KeptBetween, AcceptedSize, Halves, FewStruck}
use Rattle.convergence.specs.Recovery.{end_from, EachHolds, ConvergesFrom, WithinOneStep, settled_phases, AtLastOneStep, AtLastFrom, lost_at, QuietRecovery, SettlesBetween, TrustedIsSaid}
use Rattle.convergence.proofs.Support.{not_null, same_position, trusted_iff}
use Rattle.convergence.proofs.Same.{trusted_same_of}
use Rattle.convergence.proofs.Order.{passes}
use Rattle.convergence.proofs.Kept.{low, high, Holds, kept_in, range}
use Rattle.convergence.proofs.Ends.{number, Inside, held_position, Run, spread_within, any_two}
use Rattle.convergence.proofs.Demand3.{settled_is, keeps_one, Limits, nearer, kept_between, rounding_le, size_large, run}
use Rattle.convergence.proofs.Quiet.{quiet_phase}

held : (x : Entry) → x ≢ None → x ≡ Some (number x)
held None d = absurd (d refl)
held (Some u) d = refl

module _ (K : Family) (n f : ℕ) (size : AcceptedSize K n f) (e : End) (q : ℕ) (few : AtMost f n e.struck) (F : ℕ → Faults) (within : FewStruck n f F) where
  abbrev end : ℕ → End
  end = end_from K n f e q F

  pub few_struck_from : (p : ℕ) → AtMost f n (end p).struck
  unfolding end_from after
  few_struck_from zero = few
  few_struck_from (suc p) = (within (suc p)).1

  limits_from : (p : ℕ) → Limits K n f (F (suc p)) (end p)
  limits_from p = record { size = size; few_c = (within (suc p)).0; few_d = (within (suc p)).1; few_p = few_struck_from p }

  run_from : (N : ℕ) → n ≤ N → EachHolds N e → Run n N f (Halves K n f) end
  unfolding end_from
  run_from N more holds =
      record {
        large = size_large K n f size;
        more = more;
        few = few_struck_from;
        holds = λ j l s. held (e.at j) (holds j l s);
        step = λ p. nearer K n f (end p) (F (suc p)) (limits_from p) N (rounding (q + suc p)) (rounding_le (q + suc p));
      }

  pub kept_between_from : (N : ℕ) → n ≤ N → EachHolds N e → (p i : ℕ) → let E = entries_at K n f (end p) (F (suc p)) i in
      KeptBetween (lowest N (end p)) (highest N (end p)) (low n (rule_of K f) E) (high n (rule_of K f) E)
  kept_between_from N more holds p = kept_between K (run_from N more holds) p (F (suc p)) (limits_from p)

  pub quiet_from : (p : ℕ) → Each n (λ j. (F (suc p)).struck_in_confession j ≡ false) → (i j : ℕ) → (end (suc p)).at i ≡ (end (suc p)).at j
  unfolding end_from
  quiet_from p quiet i j = quiet_phase n f (end p) (F (suc p)) quiet i j K (rounding (q + suc p))

pub converges_from : ConvergesFrom
converges_from K n f N more size e q few holds F within = any_two (run_from K n f size e q few F within N more holds)

-- ---- how long it takes

pub halved_one : (k s : ℕ) → s ≤ 2 ^ k → halved k s ≤ 1
unfolding halved
halved_one k s h = let some = pow_pos k in let z : s + 2 ^ k - 1 < 2 * 2 ^ k = omega arith in omega (arith, (div-lt_iff_lt-mul some).1 z)

pub within_one_step : WithinOneStep
within_one_step K n f N more size halves e q few holds F within p k small =
    omega (arith, (converges_from K n f N more size e q few holds F within p k).halving halves, halved_one k _ small)

-- the first positions lie from -1,000,000 to 1,000,000
start_inside : (n N : ℕ) (v : ℕ → ℤ) → Each n (λ i. is_position (v i) ≡ true) → Inside N (start_end n v) (negsuc 999_999) (pos 1_000_000)
unfolding start_end
start_inside n N v h i l s = position_within (v i) (h i (go (ltb i n) refl s))
  where
    go : (b : Bool) → ltb i n ≡ b → not b ≡ false → i < n
    go true e q = ltb-true i n e
    go false e q = absurd (true≢false q)

whole_range : gap (negsuc 999_999) (pos 1_000_000) ≡ 2_000_000
unfolding gap
whole_range = refl

-- 21 phases after an end of a run whose sound positions are positions
late_enough : {n N f : ℕ} {E : ℕ → End} {Q : Type 0} → Run n N f Q E → Q → Inside N (E 0) (negsuc 999_999) (pos 1_000_000) → (p : ℕ) → settled_phases ≤ p
    → spread N (E p) ≤ 1
late_enough {N = N} {E = E} R halves I p late =
    let z : 0 + (p - 21) ≡ p - 21 = omega arith in
    let y : p - 21 + 21 ≡ p = omega arith in
    let wide = spread_within R 0 (p - 21) (negsuc 999_999) (pos 1_000_000) I in
    let g : gap (negsuc 999_999) (pos 1_000_000) ≡ 2_000_000 = whole_range in
    let few : spread N (E (p - 21)) ≤ 2 ^ 21 = let w = rw z at wide in omega (arith, w) in
    let D = (any_two R (p - 21) 21).halving halves in
    omega (arith, rw y at D, halved_one 21 _ few)

pub at_last_one_step : AtLastOneStep
unfolding end_after
at_last_one_step K n f N more size halves v range F within = late_enough (run K n f size v F within N more) halves (start_inside n N v range)

pub at_last_from : AtLastFrom
unfolding end_from
at_last_from K n f N more size halves e q few I F within =
    late_enough (run_from K n f size e q few F within N more (λ i l s z. not_null z (held_position (Some (negsuc 999_999)) (Some (pos 1_000_000)) (e.at i) (I i l s)))) halves I

-- ---- what is settled from entries between m and M

pub settles_between : SettlesBetween
unfolding enough
settles_between K n f size E calm m M I =
    let few : nulls n E ≤ (rule_of K f).most = leb-true (nulls n E) (rule_of K f).most calm in
    let H : Holds n (rule_of K f) m M E =
    record {
      few = few;
      some = keeps_one K n f size E few;
      outside = λ q h. omega (arith, sum_none n, sum_same n (λ j. passes q (E j)) (λ j. 0) (λ j l. go q h (E j) (I j l)));
    } in
    record { position = λ r small. rw (settled_is r n (rule_of K f) E few) (range H r small); kept = kept_in H }
  where
    go : (q : ℤ → Bool) → ((u : ℤ) → m ≤ℤ u → u ≤ℤ M → bit (q u) ≡ 0) → (x : Entry) → ((u : ℤ) → x ≡ Some u → (m ≤ℤ u) × (u ≤ℤ M))
        → passes q x ≡ 0
    go q h None k = refl
    go q h (Some u) k = h u (k u refl).0 (k u refl).1

-- a trusted entry stands in a list that was given
abbrev one_of : Seen → Entry
one_of none = None
one_of (one u) = Some u
one_of many = None

seen_said : (ok : ℤ → Bool) (n : ℕ) (E : ℕ → Entry) (u : ℤ) → one_of (seen ok n E) ≡ Some u → (k : ℕ) × (k < n) × (E k ≡ Some u)
unfolding seen
seen_said ok zero E u h = absurd (not_null refl h)
seen_said ok (suc n) E u h = go (E n) refl (seen ok n E) (λ q. let (k, l, e) = seen_said ok n E u q in (k, omega arith, e)) h
  where
    Said : Type 0
    Said = (k : ℕ) × (k < suc n) × (E k ≡ Some u)

    seeing : (w : ℤ) → E n ≡ Some w → (s : Seen) → (one_of s ≡ Some u → Said) → one_of (see w s) ≡ Some u → Said
    seeing w e none ih q = (n, omega arith, e ∙ q)
    seeing w e (one x) ih q = pick_one (eq_z x w) q
      where
        pick_one : (b : Bool) → one_of (pick b (one x) many) ≡ Some u → Said
        pick_one true q = ih q
        pick_one false q = absurd (not_null refl q)
    seeing w e many ih q = absurd (not_null refl q)

    go : (x : Entry) → E n ≡ x → (s : Seen) → (one_of s ≡ Some u → Said) → one_of (see_entry ok x s) ≡ Some u → Said
    go None e s ih q = ih q
    go (Some w) e s ih q = either (ok w) q
      where
        either : (b : Bool) → one_of (pick b (see w s) s) ≡ Some u → Said
        either true q = seeing w e s ih q
        either false q = ih q

pub trusted_is_said : TrustedIsSaid
unfolding trusted
trusted_is_said n f G j u h = seen_said _ n _ u (go (has_confessed (G j)) (leb (n - f) (confessions n G)) _ h)
  where
    go : (a b : Bool) (s : Seen) → choose a b s ≡ Some u → one_of s ≡ Some u
    go true b s q = absurd (not_null refl q)
    go false true s q = absurd (not_null refl q)
    go false false none q = q
    go false false (one w) q = q
    go false false many q = q

-- ---- a phase in which no head is struck

-- if all links give the same list, its entries are trusted
module _ (n f : ℕ) (large : f < n) (L : ℕ → Entry) (j : ℕ) where
  support_all : (u : ℤ) → support n (λ k. gave L) j u ≡ sum n (λ k. is u (L j))
  unfolding support
  support_all u = refl

  trusted_all : trusted n f (λ k. gave L) j ≡ L j
  trusted_all = go (L j) refl
    where
      -- no other position has the support
      alone : (x : Entry) (w : ℤ) → n - f ≤ sum n (λ k. is w x) → x ≡ Some w
      alone None w h = absurd (omega (arith, sum_none n))
      alone (Some u) w h = one (eq_z w u) (λ t. eqZ→eq w u t) h
        where
          one : (b : Bool) → (T b → w ≡ u) → n - f ≤ sum n (λ k. bit b) → Some u ≡ Some w
          one true q k = ap Some (sym (q tt))
          one false q k = absurd (omega (arith, sum_none n))

      full : (u : ℤ) (b : Bool) → T b → n - f ≤ sum n (λ k. bit b)
      full u true t = omega (arith, sum_one n)
      full u false t = absurd t

      blank : (y : Entry) → trusted n f (λ k. gave L) j ≡ y → L j ≡ None → y ≡ None
      blank None q e = refl
      blank (Some w) q e =
          absurd (not_null e (alone (L j) w (subst (λ (x : ℕ). n - f ≤ x) (support_all w) ((trusted_iff n f (λ k. gave L) j w).0 q).0.reaches)))

      go : (x : Entry) → L j ≡ x → trusted n f (λ k. gave L) j ≡ x
      go None e = blank _ refl e
      go (Some u) e =
          (trusted_iff n f (λ k. gave L) j u).1 (
            record {
              reaches = subst (λ (x : ℕ). n - f ≤ x) (sym (support_all u ∙ ap (λ (x : Entry). sum n (λ k. is u x)) e)) (full u (eq_z u u) (eq_z_refl u));
              alone = λ w h. (same_position e (alone (L j) w (subst (λ (x : ℕ). n - f ≤ x) (support_all w) h)));
            },
            refl,
          )

module _ (n f : ℕ) (e : End) (F : Faults) (calm-c : Each n (λ j. F.struck_in_collection j ≡ false)) (calm-d : Each n (λ j. F.struck_in_confession j ≡ false)) where
  sound_given : (b : Bool) (x y : Entry) → gives false b y None x ≡ cond b None x
  sound_given true x y = refl
  sound_given false x y = refl

  -- each receiver settles from the sound positions themselves
  entries_quiet : (K : Family) → AcceptedSize K n f → (i : ℕ) → Each n (λ k. entries_at K n f e F i k ≡ sound_at e k)
  unfolding entries_at given_to list_of
  entries_quiet TwoRounds size i k l =
      trusted_same_of n f _ (λ j. gave (sound_at e)) k (λ j h. rw (calm-d j h, calm-c j h) (record { confesses = refl; says = rw (calm-c k l) (sound_given (e.struck k) (e.at k) _) })) l
      ∙ trusted_all n f (size_large TwoRounds n f size) (sound_at e) k
  entries_quiet OneRound size i k l = rw (calm-d k l) (sound_given (e.struck k) (e.at k) _)

  module _ (H : EachHolds n e) where
    lost_null : (b : Bool) (x : Entry) → (b ≡ false → x ≢ None) → is_null (cond b None x) ≡ bit b
    lost_null true x h = refl
    lost_null false None h = absurd (h refl refl)
    lost_null false (Some u) h = refl

    nulls_quiet : (K : Family) → AcceptedSize K n f → (i : ℕ) → nulls n (entries_at K n f e F i) ≡ lost_at n e
    unfolding nulls
    nulls_quiet K size i =
        sum_same n (λ j. is_null (entries_at K n f e F i j)) (λ j. bit (e.struck j))
        (λ j l. ap is_null (entries_quiet K size i j l) ∙ lost_null (e.struck j) (e.at j) (H j l))

    quiet_some : (K : Family) (size : AcceptedSize K n f) (r : ℕ) (small : r ≤ 1) → lost_at n e ≤ (rule_of K f).most
        → (m M : ℤ) → Each n (λ j. e.struck j ≡ false → HeldBetween (Some m) (Some M) (e.at j))
        → (i : ℕ) → HeldBetween (Some m) (Some M) ((after K r n f e F).at i)
    unfolding after enough
    quiet_some K size r small few m M I i =
        (settles_between K n f size (entries_at K n f e F i) (le-leb _ (rule_of K f).most (omega (arith, nulls_quiet K size i))) m M
        (λ j l u q. go (e.struck j) (e.at j) (I j l) u (sym (entries_quiet K size i j l) ∙ q))).position r small
      where
        go : (b : Bool) (x : Entry) → (b ≡ false → HeldBetween (Some m) (Some M) x) → (u : ℤ) → cond b None x ≡ Some u → (m ≤ℤ u) × (u ≤ℤ M)
        go true x k u q = absurd (not_null refl q)
        go false None k u q = absurd (k refl)
        go false (Some w) k u q = rw (same_position refl q) (k refl)

-- ---- and if too many lost their position

-- an entry of which nobody says anything is not trusted
seen_none : (ok : ℤ → Bool) (n : ℕ) (E : ℕ → Entry) → Each n (λ k. E k ≡ None) → seen ok n E ≡ none
unfolding seen
seen_none ok zero E h = refl
seen_none ok (suc n) E h = rw (each_last h) (seen_none ok n E (each_less h))

trusted_none : (n f : ℕ) (G : ℕ → Given) (j : ℕ) → Each n (λ k. says_of j (G k) ≡ None) → trusted n f G j ≡ None
unfolding trusted
trusted_none n f G j h = rw (seen_none (λ u. leb (n - f) (support n G j u)) n _ h) (go (has_confessed (G j)) (leb (n - f) (confessions n G)))
  where
    go : (a b : Bool) → choose a b none ≡ None
    go true b = refl
    go false true = refl
    go false false = refl

-- nor is that of a head that confesses
trusted_confessed : (n f : ℕ) (G : ℕ → Given) (j : ℕ) → has_confessed (G j) ≡ true → trusted n f G j ≡ None
unfolding trusted
trusted_confessed n f G j h = rw h

module _ (n f : ℕ) (e : End) (F : Faults) (calm : Each n (λ j. F.struck_in_confession j ≡ false)) where
  -- Of a head that lost its position everyone says null, or confesses. If it is struck in the collection round it may say anything there, but then it
  -- confesses.
  lost_silent : (K : Family) (i j : ℕ) → j < n → e.struck j ≡ true → entries_at K n f e F i j ≡ None
  unfolding entries_at given_to list_of
  lost_silent OneRound i j l s = rw (calm j l, s)
  lost_silent TwoRounds i j l s = go (F.struck_in_collection j) refl
    where
      says : (k : ℕ) (c : Bool) (L : ℕ → Entry) → L j ≡ None → says_of j (gives false c (F.replied k i) confessed (gave L)) ≡ None
      says k true L x = refl
      says k false L x = x

      go : (c : Bool) → F.struck_in_collection j ≡ c → trusted n f (given_to e F i) j ≡ None
      go true q = trusted_confessed n f _ j (rw (calm j l, q))
      go false q = trusted_none n f _ j (λ k t. rw (calm k t) (says k (F.struck_in_collection k) (list_of e F k) (rw (q, s))))

  lost_nulls : (K : Family) (i : ℕ) → lost_at n e ≤ nulls n (entries_at K n f e F i)
  unfolding nulls
  lost_nulls K i =
      omega (arith, sums_le n ((λ j. bit (e.struck j)) ∷ []) ((λ j. is_null (entries_at K n f e F i j)) ∷ []) (λ j l. omega (arith, go j l (e.struck j) refl)))
    where
      go : (j : ℕ) → j < n → (b : Bool) → e.struck j ≡ b → bit b ≤ is_null (entries_at K n f e F i j)
      go j l true s = rw (lost_silent K i j l s) (omega arith)
      go j l false s = omega arith

  quiet_none : (K : Family) (r : ℕ) → (rule_of K f).most < lost_at n e → (i : ℕ) → (after K r n f e F).at i ≡ None
  unfolding after settled enough
  quiet_none K r more i = rw (lt-leb (nulls n (entries_at K n f e F i)) (rule_of K f).most (omega (arith, lost_nulls K i)))

pub quiet_recovery : QuietRecovery
quiet_recovery K n f size e F calm r small =
    record { some = λ holds calm-c. quiet_some n f e F calm-c calm holds K size r small; none = quiet_none n f e F calm K r }
