-- What the private functions promise each other. Readers of the public promises do not need this file.
use Rattle.std.specs.Prelude.{◌&&◌, List, ◌++◌, ℕ, eqb, take, ℤ}
use Rattle.terms.specs.Refusals as refusal
use Rattle.terms.specs.Refusals.{check}
use Rattle.ring_spec.specs.Rounds.{ends_phase}
use Rattle.run_state.specs.declared.Player.{Player}
use Rattle.run_state.specs.Memory.{Memory, with_positions}
use Rattle.run_piece.specs.Advances.{Advances}

-- how the file ends, by the player's numbers
unfoldable pub ending_of : Player → ℕ
ending_of p = check (eqb p.fault 0) p.fault (check (p.begun && eqb p.have 0 && ends_phase p.family p.given) refusal.bad_run_record 0)

-- after bytes b by which a player p₀ became p and which show a text, so many of these bytes are read too: the player is q then, and all of
-- the text is text'. The memory is as it was.
pub record Follows (p : Player) (bytes : List ℕ) (positions : List ℤ) (text : List ℕ) (q : Player) (used : ℕ) (text' : List ℕ) : Type 0 where
  pub after : (a b carry : List ℕ) (p₀ : Player) (M₀ M : Memory) → Advances a b p₀ M₀ p text carry (with_positions M positions)
      → Advances a (b ++ take used bytes) p₀ M₀ q text' carry (with_positions M positions)
