-- What is settled from the lists, laid out, or from the list that was heard, is what the end of a phase settles, rounded as the phase rounds.
use mathlib.Core.Path.{◌≡◌, ◌∙◌}
use mathlib.Core.List.{List}
use Prim.Native.Nat.{ℕ}
use lib.IntN.{ℤ}
use Rattle.terms.specs.declared.Family.TheVariants.{TwoRounds, OneRound}
use Rattle.entries.specs.Tables.{table_at}
use Rattle.terms.specs.Positions.{rounding}
use Rattle.convergence.specs.Settling.{rule_of}
use Rattle.convergence.specs.Trust.{trusted}
use Rattle.settle_midpoint.specs.Answers.{settling}
use Rattle.settle_midpoint.specs.Settled.{Settled}
use Rattle.settle_trust.specs.Received.{given_by}
use Rattle.head_spec.specs.declared.Head.{Head}
use Rattle.head_spec.specs.Record.{rows}
use Rattle.head_spec.specs.Calls.{settling_of}
use Rattle.head_spec.proofs.RoundEnd.{settles_by}
use Rattle.head_calls.proofs.closing.settled_by.Goals as goal

from_lists : (h : Head) {r : ℕ} {lists : List (List ℤ)} {a : Settled} → h.seat.family ≡ TwoRounds → r ≡ rounding h.seat.phase → lists ≡ rows h.lists
    → a ≡ settling r h.seat.n (rule_of TwoRounds h.seat.f) (trusted h.seat.n h.seat.f (given_by h.links lists)) → a ≡ settling_of h
from_lists h e r p q = (rw (r, p) at q) ∙ settles_by h e

from_heard : (h : Head) {r : ℕ} {a : Settled} → h.seat.family ≡ OneRound → r ≡ rounding h.seat.phase
    → a ≡ settling r h.seat.n (rule_of OneRound h.seat.f) (table_at h.list) → a ≡ settling_of h
from_heard h e r q = (rw r at q) ∙ settles_by h e

pub returns-in-TwoRounds : goal.returns-in-TwoRounds
returns-in-TwoRounds c =
    from_lists c.args.h c.in-TwoRounds.is c.rounds_up-up.ensures c.laid_out.ensures c.settle.ensures

pub returns-in-OneRound : goal.returns-in-OneRound
returns-in-OneRound c =
    from_heard c.args.h c.in-OneRound.is c.rounds_up-up.ensures c.settle_table.ensures
