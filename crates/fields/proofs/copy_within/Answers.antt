-- `fields::copy_within` meets its contract: before each step the first j bytes are pasted, and as many are left over by eight of those to come as of all.
use mathlib.Core.Path.{◌≡◌, refl, ◌∙◌, ap}
use Prim.Native.Nat.{ℕ, ◌+◌, ◌-◌, ◌<◌, ◌%◌}
use native.Mathlib.Nat.{mod-eq_of_lt, add-mod_right}
use native.Mathlib.Omega.{arith}
use lib.ListN.{length}
use lib.Seq.{paste, paste-zero}
use borrow.Author.Rules.{rules}
use Rattle.fields.proofs.Copying.{pasted_on}
use Rattle.fields.proofs.copy_within.Goals as goal

pub loop-j-init : goal.loop-j-init
loop-j-init c = let a = c.args in (search rules, search rules, paste-zero a.s.now a.at a.bytes.now, search rules)

pub loop-j-preserved : goal.loop-j-preserved
loop-j-preserved c =
    let l = c.loop-j in
    let a = c.args in
    let n = length a.bytes.now in
    let left : n - l.j ≡ n - (l.j + 8) + 8 = omega arith in (
      omega arith,
      c.copy_eight.auto.s ∙ l.invariant.1,
      c.copy_eight.ensures ∙ pasted_on a.s.now a.bytes.now a.at l.j 8 (omega arith) (omega arith) l.invariant.2 refl,
      l.invariant.3 ∙ ap (λ (x : ℕ). x % 8) left ∙ add-mod_right (n - (l.j + 8)) 8,
    )

pub returns : goal.returns
returns c =
    let l = c.loop-j in
    let a = c.args in
    let n = length a.bytes.now in
    let few : n - l.j < 8 = omega arith in
    let rest : n % 8 ≡ n - l.j = l.invariant.3 ∙ mod-eq_of_lt few in
    let all : l.j + n % 8 ≡ n = omega arith in
    c.copy_few.ensures ∙ pasted_on a.s.now a.bytes.now a.at l.j (n % 8) (omega arith) (omega arith) l.invariant.2 refl
    ∙ ap (paste a.s.now a.at a.bytes.now) all
