-- What is settled from the parts of the block, by its family, is what is settled from the record that it is.
use mathlib.Core.Path.{◌≡◌, refl, ap, sym, ◌∙◌}
use mathlib.Core.List.{List}
use Prim.Native.Nat.{ℕ}
use lib.IntN.{ℤ}
use Rattle.terms.specs.declared.Family.TheVariants.{TwoRounds, OneRound}
use Rattle.terms.specs.declared.Table.{Table}
use Rattle.entries.specs.Tables.{table_at}
use Rattle.terms.specs.Positions.{rounding}
use Rattle.convergence.specs.Settling.{rule_of}
use Rattle.convergence.specs.Trust.{trusted}
use Rattle.settle_midpoint.specs.Answers.{settling}
use Rattle.settle_midpoint.specs.Settled.{Settled}
use Rattle.settle_trust.specs.declared.Links.{Links}
use Rattle.settle_trust.specs.Received.{given_by}
use Rattle.head_spec.specs.declared.Head.{Head}
use Rattle.head_spec.specs.declared.Seat.{Seat}
use Rattle.head_spec.specs.Record.{rows}
use Rattle.head_spec.specs.Calls.{settling_of}
use Rattle.head_spec.proofs.RoundEnd.{settles_by}
use Rattle.head_c.specs.Blocks.{head_of}
use Rattle.head_c.specs.Steps.{rows_in}
use Rattle.head_c.proofs.Rows.{given_rows}
use Rattle.head_c.proofs.close.settled_in.Goals as goal

module _ (h : Head) {s : Seat} {r : ℕ} {a : Settled} (p : s ≡ h.seat) (e : r ≡ rounding s.phase) where
  from_lists : {l : Links} (lists : List (List ℤ)) → s.family ≡ TwoRounds → l ≡ h.links → given_by h.links lists ≡ given_by h.links (rows h.lists)
      → a ≡ settling r s.n (rule_of TwoRounds s.f) (trusted s.n s.f (given_by l lists)) → a ≡ settling_of h
  from_lists {l} lists K q t b =
      b
      ∙ ap (λ (x : ℕ). settling x s.n (rule_of TwoRounds s.f) (trusted s.n s.f (given_by l lists))) e
      ∙ ap (λ (g : Links). settling (rounding s.phase) s.n (rule_of TwoRounds s.f) (trusted s.n s.f (given_by g lists))) q
      ∙ (λ i. settling (rounding (p i).phase) (p i).n (rule_of TwoRounds (p i).f) (trusted (p i).n (p i).f (t i)))
      ∙ settles_by h (sym (ap (λ (x : Seat). x.family) p) ∙ K)

  from_heard : {t : Table} → s.family ≡ OneRound → t ≡ h.list → a ≡ settling r s.n (rule_of OneRound s.f) (table_at t) → a ≡ settling_of h
  from_heard {t} K q b =
      b
      ∙ ap (λ (x : ℕ). settling x s.n (rule_of OneRound s.f) (table_at t)) e
      ∙ (λ i. settling (rounding (p i).phase) (p i).n (rule_of OneRound (p i).f) (table_at (q i)))
      ∙ settles_by h (sym (ap (λ (x : Seat). x.family) p) ∙ K)

pub returns-in-TwoRounds : goal.returns-in-TwoRounds
unfolding head_of
returns-in-TwoRounds c =
    let w = c.args.h.now in
    from_lists (head_of w) c.seat_in-seat.ensures c.rounds_up-up.ensures (rows_in w) c.in-TwoRounds.is c.links_in-links.ensures
    (given_rows w (head_of w).links refl) c.settle_lists.ensures

pub returns-in-OneRound : goal.returns-in-OneRound
unfolding head_of
returns-in-OneRound c =
    let w = c.args.h.now in
    from_heard (head_of w) c.seat_in-seat.ensures c.rounds_up-up.ensures c.in-OneRound.is c.list_in-list.ensures c.settle_table.ensures
