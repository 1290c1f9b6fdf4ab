-- Which records may come next, by the player's own numbers: what a record of listeners asks for (document 02, A6).
use Rattle.std.specs.Prelude.{Bool, not, ◌&&◌, eqb}
use Rattle.run_state.specs.declared.Player.{Player}

-- nothing but the start was accepted
abbrev pub first_of : Player → Bool
first_of p = p.begun && eqb p.given 0 && eqb p.listeners 0

-- nothing was accepted after the record of the pending round
abbrev pub bare_of : Player → Bool
bare_of p = p.pending && not p.amended && not p.pair.some
