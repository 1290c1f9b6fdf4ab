-- Demand 3 from any phase end on, whatever came before it: more heads struck than f, or anything else. All that is asked of that end is that
-- at most f heads are struck at it, and that each receiver that is sound there holds a position. And how many phases it takes until all sound
-- positions lie within one step of each other; how many may lose their position at once; and what is kept in any case. proofs/Recovery.antt proves them.
use Rattle.std.specs.Prelude.{◌≡◌, ◌≢◌, true, false, ℕ, zero, suc, ◌+◌, ◌^◌, ◌≤◌, ◌<◌, ℤ, pos, negsuc, ◌≤ℤ◌, None, Some}
use Rattle.terms.specs.Positions.{is_position, rounding}
use Rattle.terms.specs.Entry.{Entry}
use Rattle.terms.specs.declared.Family.{Family}
use Rattle.terms.specs.Counting.{Each, sum, bit, AtMost}
use Rattle.convergence.specs.Settling.{nulls, Rule, rule_of, ordered, low_kept, high_kept, enough, settled}
use Rattle.convergence.specs.Trust.{Given, says_of, trusted}
use Rattle.convergence.specs.Phases.{End, Faults, after, end_after, spread}
use Rattle.convergence.specs.Demand3.{HeldBetween, KeptBetween, AcceptedSize, Halves, Demand3, FewStruck}

-- p phases after the end e of phase q
unfoldable pub end_from : (K : Family) (n f : ℕ) (e : End) (q : ℕ) (F : ℕ → Faults) (p : ℕ) → End
end_from K n f e q F zero = e
end_from K n f e q F (suc p) = after K (rounding (q + suc p)) n f (end_from K n f e q F p) (F (suc p))

-- each of receivers 0 .. N - 1 that is sound at the end e holds a position
abbrev pub EachHolds : ℕ → End → Type 0
EachHolds N e = Each N (λ i. e.struck i ≡ false → e.at i ≢ None)

-- as `Converges`, from the end e on
abbrev pub ConvergesFrom : Type 0
ConvergesFrom =
    (K : Family) (n f N : ℕ) → n ≤ N → AcceptedSize K n f → (e : End) (q : ℕ) → AtMost f n e.struck → EachHolds N e
    → (F : ℕ → Faults) → FewStruck n f F
    → (p k : ℕ) → Demand3 N (Halves K n f) k (end_from K n f e q F p) (end_from K n f e q F (p + k))

-- ---- how long it takes

-- k phases after an end whose spread is at most 2 to the power k, all sound positions lie within one step
abbrev pub WithinOneStep : Type 0
WithinOneStep =
    (K : Family) (n f N : ℕ) → n ≤ N → AcceptedSize K n f → Halves K n f → (e : End) (q : ℕ) → AtMost f n e.struck → EachHolds N e
    → (F : ℕ → Faults) → FewStruck n f F
    → (p k : ℕ) → spread N (end_from K n f e q F p) ≤ 2 ^ k → spread N (end_from K n f e q F (p + k)) ≤ 1

-- 21 phases after the start, whatever the first positions are, and for ever after: 2 to the power 21 is above 2,000,000
abbrev pub settled_phases : ℕ
settled_phases = 21

abbrev pub AtLastOneStep : Type 0
AtLastOneStep =
    (K : Family) (n f N : ℕ) → n ≤ N → AcceptedSize K n f → Halves K n f → (v : ℕ → ℤ) → Each n (λ i. is_position (v i) ≡ true)
    → (F : ℕ → Faults) → FewStruck n f F
    → (p : ℕ) → settled_phases ≤ p → spread N (end_after K n f v F p) ≤ 1

-- and so after any end whose sound positions are positions
abbrev pub AtLastFrom : Type 0
AtLastFrom =
    (K : Family) (n f N : ℕ) → n ≤ N → AcceptedSize K n f → Halves K n f → (e : End) (q : ℕ) → AtMost f n e.struck
    → Each N (λ i. e.struck i ≡ false → HeldBetween (Some (negsuc 999_999)) (Some (pos 1_000_000)) (e.at i))
    → (F : ℕ → Faults) → FewStruck n f F
    → (p : ℕ) → settled_phases ≤ p → spread N (end_from K n f e q F p) ≤ 1

-- ---- how many may lose their position at once

-- how many heads are struck at an end: each of them begins the next phase without a position
abbrev pub lost_at : ℕ → End → ℕ
lost_at n e = sum n (λ j. bit (e.struck j))

-- A phase in whose last round no head is struck, whoever was before. If no more heads lost their position than nulls are taken (3f, or 2f in a ring of
-- one round), and no head is struck in its collection round either, each receiver comes to a position between those of the sound heads (and all to the
-- same: `QuietAgrees`). If more did, each is refused 25, and none comes to a position, whatever happens in the collection round: the ring does not get
-- out of that by itself, and has to be started anew.
pub record QuietRecovers (K : Family) (n f : ℕ) (e : End) (F : Faults) (r : ℕ) : Type 0 where
  pub some : EachHolds n e → Each n (λ j. F.struck_in_collection j ≡ false) → lost_at n e ≤ (rule_of K f).most
      → (m M : ℤ) → Each n (λ j. e.struck j ≡ false → HeldBetween (Some m) (Some M) (e.at j))
      → (i : ℕ) → HeldBetween (Some m) (Some M) ((after K r n f e F).at i)
  pub none : (rule_of K f).most < lost_at n e → (i : ℕ) → (after K r n f e F).at i ≡ None

abbrev pub QuietRecovery : Type 0
QuietRecovery =
    (K : Family) (n f : ℕ) → AcceptedSize K n f → (e : End) (F : Faults) → Each n (λ j. F.struck_in_confession j ≡ false) → (r : ℕ) → r ≤ 1
    → QuietRecovers K n f e F r

-- ---- the least that is kept while more heads are struck than f

-- What is settled from entries between m and M lies there too, and so does what is kept, whoever sent them and however many are struck.
pub record StaysBetween (n : ℕ) (R : Rule) (m M : ℤ) (E : ℕ → Entry) : Type 0 where
  pub position : (r : ℕ) → r ≤ 1 → HeldBetween (Some m) (Some M) (settled r n R E)
  pub kept : let t = R.trim (nulls n E) in KeptBetween (Some m) (Some M) (low_kept t (ordered n E)) (high_kept t (ordered n E))

abbrev pub SettlesBetween : Type 0
SettlesBetween =
    (K : Family) (n f : ℕ) → AcceptedSize K n f → (E : ℕ → Entry) → enough n (rule_of K f) E ≡ true
    → (m M : ℤ) → Each n (λ j. (u : ℤ) → E j ≡ Some u → (m ≤ℤ u) × (u ≤ℤ M)) → StaysBetween n (rule_of K f) m M E

-- a trusted entry stands in a list that was given
abbrev pub TrustedIsSaid : Type 0
TrustedIsSaid =
    (n f : ℕ) (G : ℕ → Given) (j : ℕ) (u : ℤ) → trusted n f G j ≡ Some u → (k : ℕ) × (k < n) × (says_of j (G k) ≡ Some u)
