-- A quiet phase (document 02, A11). What a link gives depends on the receiver only if its head is struck; so if none is struck in the round that ends the phase,
-- all receivers are given the same, and settle the same.
use mathlib.Core.Path.{◌≡◌, refl}
use mathlib.Core.Bool.{Bool, true, false}
use Prim.Native.Nat.{ℕ, suc}
use Rattle.terms.specs.Entry.{Entry}
use Rattle.terms.specs.declared.Family.{Family}
use Rattle.terms.specs.declared.Family.TheVariants.{TwoRounds, OneRound}
use Rattle.terms.specs.Counting.{Each}
use Rattle.convergence.specs.Settling.{Rule, rule_of, enough, settled}
use Rattle.convergence.specs.Phases.{End, Faults, gives, given_to, entries_at, after, end_after}
use Rattle.terms.specs.Positions.{rounding}
use Rattle.convergence.specs.Demand3.{QuietAgrees}
use Rattle.convergence.proofs.Same.{nulls_same, midpoint_same, trusted_same}

settled_same : (r n : ℕ) (R : Rule) (E E' : ℕ → Entry) → Each n (λ j. E j ≡ E' j) → settled r n R E ≡ settled r n R E'
unfolding settled enough
settled_same r n R E E' h = rw (nulls_same n E E' h, midpoint_same r n R E E' h)

-- an unstruck head gives every receiver the same
alike : {A : Type 0} (b : Bool) (x y healed says : A) → gives false b x healed says ≡ gives false b y healed says
alike true x y healed says = refl
alike false x y healed says = refl

module _ (n f : ℕ) (e : End) (F : Faults) (quiet : Each n (λ j. F.struck_in_confession j ≡ false)) (i j : ℕ) where
  given_same : Each n (λ k. given_to e F i k ≡ given_to e F j k)
  unfolding given_to
  given_same k l = rw (quiet k l) (alike (F.struck_in_collection k) _ _ _ _)

  entries_same : (K : Family) → Each n (λ k. entries_at K n f e F i k ≡ entries_at K n f e F j k)
  unfolding entries_at
  entries_same TwoRounds k l = trusted_same n f _ _ k l given_same
  entries_same OneRound k l = rw (quiet k l) (alike (e.struck k) _ _ _ _)

  pub quiet_phase : (K : Family) (r : ℕ) → (after K r n f e F).at i ≡ (after K r n f e F).at j
  unfolding after
  quiet_phase K r = settled_same r n (rule_of K f) _ _ (entries_same K)

pub quiet_agrees : QuietAgrees
unfolding end_after
quiet_agrees K n f v F p quiet i j = quiet_phase n f (end_after K n f v F p) (F (suc p)) quiet i j K (rounding (suc p))
