-- Listeners in a run (document 02, A6): five heads with the struck limit 1, and receivers 5 and 6. In each confession round head 4 is struck, and confesses
-- to 5 only; so is listener 6, which does not count. Listener 5 does not count at the start; after phase 1 it holds a position that no head holds.
use Rattle.std.specs.Prelude.{None, Some}
use mathlib.Core.Path.{◌≡◌, refl}
use mathlib.Core.List.{[], ◌∷◌}
use mathlib.Core.Bool.{false, cond, ◌||◌}
use Prim.Native.Nat.{ℕ}
use lib.Dec.{eqb, lit≤}
use lib.ListN.{get_or}
use lib.IntN.{pos}
use Rattle.terms.specs.Positions.{gap, half, floor_div, eq_z, rounding}
use Rattle.terms.specs.declared.Family.TheVariants.{TwoRounds}
use Rattle.terms.specs.Counting.{sum}
use Rattle.convergence.specs.Settling.{nulls, trim, insert, ordered, low_kept, high_kept, middle, midpoint, enough, settled}
use Rattle.convergence.specs.Trust.{nothing, confessed, support, confessions, seen, trusted}
use Rattle.convergence.specs.Phases.{End, start_end, Faults, list_of, given_to, entries_at, after, end_after, lowest, highest, spread}
use Rattle.convergence.specs.Demand3.{FewStruck}

pub strikes : ℕ → Faults
strikes p =
    record {
      struck_in_collection = λ j. false;
      sent = λ k i. None;
      struck_in_confession = λ j. eqb j 4 || eqb j 6;
      replied = λ k i. cond (eqb i 5) confessed nothing;
    }

-- end p; a listener has no first position, so any number may stand for one
pub end : ℕ → End
end = end_after TwoRounds 5 1 (λ j. pos (get_or (10 ∷ 10 ∷ 14 ∷ 18 ∷ 18 ∷ []) j 900)) strikes

pub record Listening : Type 0 where
  pub few : FewStruck 5 1 strikes
  pub at_start : spread 7 (end 0) ≡ 8
  pub head : (end 1).at 0 ≡ Some (pos 14)
  pub listener : (end 1).at 5 ≡ Some (pos 12)
  pub counted : spread 7 (end 1) ≡ 2

pub listening : Listening
unfolding strikes end end_after rounding sum spread lowest highest gap start_end after entries_at settled enough midpoint middle half floor_div low_kept high_kept trim nulls ordered insert trusted support confessions seen eq_z given_to list_of
listening = record { few = λ p. (lit≤ tt, lit≤ tt); at_start = refl; head = refl; listener = refl; counted = refl }
