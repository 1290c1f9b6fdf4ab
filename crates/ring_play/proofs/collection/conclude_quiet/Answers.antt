-- `ring_play::collection::conclude_quiet` meets its contract: if no head is struck, what is planted is heard by no one.
use Rattle.std.proofs.Common.{◌≡◌, ℕ, Bool, false, cond, List, get_or, ℤ, pos, refl, ap, ◌∙◌, to_z-of_z, w32}
use mathlib.Core.Path.{fun_ext}
use Rattle.terms.specs.Entry.{Entry}
use Rattle.terms.specs.declared.Table.{Table}
use Rattle.marks.specs.Marks.{bit_of}
use Rattle.marks.proofs.Marks.{bit_none}
use Rattle.entries.specs.Tables.{table_at, table_of}
use Rattle.ring_play.specs.declared.Stage.{Stage}
use Rattle.ring_play.specs.Memory.{heads, settles}
use Rattle.ring_play.specs.Inner.Collection.{heard_with, position_from}
use Rattle.ring_play.proofs.collection.conclude_quiet.Goals as goal

quiet_heard : (s : Stage) (E : ℕ → Entry) (plant : ℕ → ℕ → List ℕ) (i : ℕ) → s.struck ≡ 0 → E ≡ heard_with s E plant i
unfolding heard_with
quiet_heard s E plant i z = fun_ext (λ k. unstruck (E k) _ (ap (λ (m : ℕ). bit_of m k) z ∙ bit_none k))
  where
    unstruck : (e x : Entry) {b : Bool} → b ≡ false → e ≡ cond b x e
    unstruck e x f = rw f refl

pub returns : goal.returns
returns c z S plant i =
    let a = c.args in
    let had = get_or a.positions.now i (pos 0) in
    c.fill_same.ensures i
    ∙ ap (λ (x : ℤ). cond (settles a.s i) x had)
    (to_z-of_z {w = w32} (record { sfits = c.position_of-position.type_inv }) ∙ c.position_of-position.ensures
    ∙ ap (λ (u : Table). position_from a.s (table_at u)) S.is
    ∙ ap (λ (E : ℕ → Entry). position_from a.s (table_at (table_of (heads a.s) E))) (quiet_heard a.s S.entry plant i z))
