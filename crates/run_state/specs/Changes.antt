-- The player before the first round, and what changes of it: by a record that is not whole or has a fault, by a round, by a planted record,
-- by the number of listeners, by a round's struck listeners.
use Rattle.std.specs.Prelude.{Bool, true, false, cond, List, [], ◌∷◌, ℕ, ◌+◌, ◌*◌, ◌%◌, min, ◌^◌, replicate}
use Rattle.terms.specs.declared.Family.{Family}
use Rattle.terms.specs.declared.Family.TheVariants.{TwoRounds}
use Rattle.ring_spec.specs.Rounds.{most_rounds, receivers}
use Rattle.run_spec.specs.declared.Pair.{Pair}
use Rattle.run_spec.specs.RunFile.{last_pair, plant_in}
use Rattle.run_state.specs.declared.Player.{Player}
use Rattle.run_state.specs.Counts.{counts_played}

-- before the first round
abbrev pub fresh_player : (begun : Bool) (K : Family) (n f : ℕ) → Player
fresh_player begun K n f =
    record {
      begun = begun;
      family = K;
      n = n;
      f = f;
      listeners = 0;
      given = 0;
      pending = false;
      before = 0;
      struck = 0;
      amended = false;
      pair = last_pair [];
      have = 0;
      fault = 0;
      agreed = false;
      since = replicate receivers 0;
    }

-- What a record leaves of the player: all but for the number of listeners, who is struck in the last round and whether its struck listeners
-- were given, the last planted pair, how many bytes of a record there are, and the fault.
abbrev pub player_with : Player → (listeners struck : ℕ) (amended : Bool) (pair : Pair) (have fault : ℕ) → Player
player_with p m struck amended pair have fault =
    record {
      begun = p.begun;
      family = p.family;
      n = p.n;
      f = p.f;
      listeners = m;
      given = p.given;
      pending = p.pending;
      before = p.before;
      struck = struck;
      amended = amended;
      pair = pair;
      have = have;
      fault = fault;
      agreed = p.agreed;
      since = p.since;
    }

-- the same but for how many bytes of a record it has, and for its fault
abbrev pub halted : Player → (have fault : ℕ) → Player
halted p have fault = player_with p p.listeners p.struck p.amended p.pair have fault

-- a round more, up to the most in either family: it is pending, and before it comes the round that was pending, which is played, or what
-- was before that if none was; agreed: whether the ring has agreed then
abbrev pub with_round_given : Player → ℕ → Bool → Player
with_round_given p struck agreed =
    record {
      begun = p.begun;
      family = p.family;
      n = p.n;
      f = p.f;
      listeners = p.listeners;
      given = min (p.given + 1) (most_rounds TwoRounds);
      pending = true;
      before = cond p.pending p.struck p.before;
      struck = struck;
      amended = false;
      pair = last_pair [];
      have = 0;
      fault = 0;
      agreed = agreed;
      since = counts_played p;
    }

-- the pair of a planted record
abbrev pub pair_in : List ℕ → Pair
pair_in s = last_pair (plant_in s ∷ [])

-- pairs more in the last round: the last of them
abbrev pub with_pair_planted : Player → Pair → Player
with_pair_planted p pair = player_with p p.listeners p.struck p.amended pair 0 0

-- the number of listeners (document 02, A6)
abbrev pub with_listeners_given : Player → ℕ → Player
with_listeners_given p m = player_with p m p.struck p.amended p.pair 0 0

-- the struck listeners of the last round: bit j of the marks for listener 32 + j
abbrev pub with_strikes_given : Player → ℕ → Player
with_strikes_given p marks = player_with p p.listeners (p.struck % 2 ^ 32 + 2 ^ 32 * marks) true p.pair 0 0
