-- `texts::put_within` meets its contract: the bytes of the slice are copied in behind the text, where the array has room for them.
use mathlib.Core.Path.{ap, ◌∙◌}
use Prim.Native.Nat.{◌+◌}
use native.Mathlib.Omega.{arith}
use lib.ListN.{length, take}
use borrow.Author.Rules.{rules}
use Rattle.texts.proofs.Writing.{copied_behind}
use Rattle.texts.proofs.put_within.Goals as goal

pub returns : goal.returns
returns c =
    let a = c.args in
    record {
      text = ap (take (a.at + length a.s.now)) c.put_bytes.ensures ∙ copied_behind a.line.now a.s.now a.at (omega (arith, c.requires.0, c.requires.1));
      room = search rules;
    }
