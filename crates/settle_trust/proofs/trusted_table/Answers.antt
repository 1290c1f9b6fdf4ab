-- `settle_trust::trusted_table` meets its contract: before head j the marks and the numbers are those of the trusted entries below j. A turn adds the mark and
-- stores the number of the cell that was decided. The entries from 32 on are null.
use mathlib.Core.Path.{◌≡◌, refl, ap, ◌∙◌}
use Prim.Native.Nat.{ℕ, min}
use native.Mathlib.Omega.{arith}
use mir.Syntax.{w32}
use mir.Facts.{to_z-of_z}
use Rattle.terms.specs.Entry.{Entry}
use Rattle.entries.specs.Entries.{zeros}
use Rattle.entries.specs.Tables.{mark, value_of, marks_of, values_of}
use Rattle.convergence.specs.Trust.{trusted}
use Rattle.settle_trust.specs.Received.{given_by}
use Rattle.settle_trust.specs.Cells.{cell_entry}
use Rattle.settle_trust.proofs.Received.{words}
use Rattle.settle_trust.proofs.Trusted.{decided_marked, trusted_past}
use Rattle.entries.proofs.Tables.{marks_next, marks_fit, numbers_next, table_first_32}
use Rattle.settle_trust.proofs.trusted_table.Goals as goal

module _ (c : goal.After-mark_of) where
  abbrev entries : ℕ → Entry
  entries = trusted c.args.n c.args.f (given_by c.args.links c.args.lists)

  held : cell_entry c.trusted_cell-x.result ≡ entries c.loop-j.j
  held =
      let a = c.args in
      c.trusted_cell-x.ensures.entry
      ∙ decided_marked a.links a.lists (words a.links c.well_formed.1.0) a.n a.f c.loop-j.j (omega (arith, c.at_most_32-count.ensures))
      c.lists_needed-need.ensures c.all_marks-given.ensures

pub loop-j-init : goal.loop-j-init
unfolding marks_of values_of zeros
loop-j-init c = (refl, refl)

pub overflow_add-marks : goal.overflow_add-marks
overflow_add-marks c =
    let l = c.loop-j in
    record { fits = marks_fit (entries c) l.j (omega (arith, c.at_most_32-count.ensures)) l.invariant.0 (c.mark_of.ensures ∙ ap mark (held c)) }

pub loop-j-preserved : goal.loop-j-preserved
loop-j-preserved c =
    let l = c.loop-j in (
      marks_next (entries c.before) l.j (omega (arith, c.at_most_32-count.ensures)) l.invariant.0 (c.mark_of.ensures ∙ ap mark (held c.before)),
      numbers_next (entries c.before) l.j l.invariant.1 (to_z-of_z {w = w32} (record { sfits = c.value_of.type_inv }) ∙ c.value_of.ensures ∙ ap value_of (held c.before)),
    )

pub returns : goal.returns
returns c =
    let l = c.loop-j in
    let a = c.args in
    let e : l.j ≡ min a.n 32 = omega (arith, c.at_most_32-count.ensures) in
    let E = trusted a.n a.f (given_by a.links a.lists) in
    table_first_32 E (trusted_past a.links a.lists (words a.links c.well_formed.1.0) a.n a.f) a.n
    (l.invariant.0 ∙ ap (λ (k : ℕ). marks_of k E) e) (l.invariant.1 ∙ ap (λ (k : ℕ). values_of k E) e)
