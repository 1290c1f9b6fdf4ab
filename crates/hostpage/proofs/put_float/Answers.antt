-- `hostpage::put_float` meets its contract: a float's text is the eight hexadecimal digits of its bits.
use mathlib.Core.Path.{ap}
use mathlib.Core.List.{List, [], ◌∷◌, ◌++◌}
use Prim.Native.Nat.{ℕ}
use native.Mathlib.Omega.{arith}
use native.Mathlib.Nat.{le_of_eq}
use borrow.Author.Rules.{rules}
use Rattle.texts.proofs.Digits.{hex_length}
use Rattle.texts.proofs.Writing.{longer_as, put_fits}
use Rattle.hostpage.proofs.Lines.{float_bits}
use Rattle.hostpage.proofs.put_float.Goals as goal

pub returns : goal.returns
returns c =
    let b = c.bits_of in
    let a = c.args in
    longer_as (ap (λ (l : List ℕ). l ++ (a.after ∷ [])) (float_bits a.x b.ensures)) (omega arith)
    (put_fits 9 (le_of_eq (hex_length 8 b.result a.after)) (search rules) c.put_hex.ensures)
