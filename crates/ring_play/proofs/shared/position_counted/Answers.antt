-- `ring_play::shared::position_counted` meets its contract: a receiver with the codes that the earlier position was settled from settles that one. Else the counts, and the lists that
-- are needed with its confessions, decide its entries.
use Rattle.std.proofs.Common.{◌≡◌, ℕ, ◌-◌, List, get_or, ℤ, pos, sym, ap, ◌∙◌, arith, to_z-of_z, rules, w32, to_z, of_z}
use Rattle.marks.specs.Marks.{count_below}
use Rattle.terms.specs.Counting.{Each}
use Rattle.ring_play.specs.declared.Stage.{Stage}
use Rattle.ring_play.specs.Memory.{heads}
use Rattle.ring_play.specs.Inner.Codes.{entry_of, code_taken}
use Rattle.ring_play.specs.Inner.Told.{settled_by, settled_at, taken_here}
use Rattle.ring_play.proofs.shared.Settling.{settled_entries, codes_alike, earlier_at}
use Rattle.ring_play.proofs.shared.position_counted.Goals as goal

-- a receiver whose codes are worked out
own_taken : (s : Stage) (need : ℕ) (codes : List ℤ) (same : List ℕ) (confessed : ℕ) {n left : ℕ} (own : List ℤ) → n ≡ heads s → left ≡ need - count_below confessed n
    → Each n (λ j. get_or own j (pos 0) ≡ code_taken codes same left confessed j) → settled_at s own ≡ settled_by s (taken_here s need codes same confessed)
own_taken s need codes same confessed own p q taken =
    settled_entries s _ _
    (λ j l. ap entry_of (taken j (omega arith) ∙ ap (λ (x : ℕ). code_taken codes same x confessed j) (q ∙ ap (λ (x : ℕ). need - count_below confessed x) p)))

pub returns-in-Some : goal.returns-in-Some
returns-in-Some c =
    let a = c.args in
    let own = c.trust_codes.new.taken in
    let alike = codes_alike a.s own a.settled.now (λ j q. c.trust_codes.ensures.alike c.if-trust_codes.true j (omega (arith, c.head_count-n.ensures))) in
    let fits : to_z w32 (of_z w32 c.in-Some.position) ≡ c.in-Some.position = search rules in
    let e = fits ∙ earlier_at a.s a.settled.now c.in-Some.is c.requires ∙ sym alike in
    record { position = e ∙ own_taken a.s a.need a.codes.now a.same.now a.confessed own c.head_count-n.ensures c.need_after-left.ensures c.trust_codes.ensures.codes; codes = e }

pub returns : goal.returns
returns c =
    let a = c.args in
    let own = c.trust_codes.new.taken in
    let e = to_z-of_z {w = w32} (record { sfits = c.settle_codes.type_inv }) ∙ c.settle_codes.ensures in
    record { position = e ∙ own_taken a.s a.need a.codes.now a.same.now a.confessed own c.head_count-n.ensures c.need_after-left.ensures c.trust_codes.ensures.codes; codes = e }
