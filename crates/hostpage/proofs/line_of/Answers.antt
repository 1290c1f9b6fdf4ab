-- `hostpage::line_of` meets its contract: the head's number, and what its reading is.
use mathlib.Core.Path.{sym, ap, ◌∙◌}
use mathlib.Core.List.{[]}
use native.Mathlib.Omega.{arith}
use Rattle.texts.specs.Numbers.{decimal, spaced}
use Rattle.texts.specs.Texts.{Longer}
use Rattle.texts.proofs.Digits.{decimal_short}
use Rattle.texts.proofs.Writing.{from_empty, longer_then, put_fits}
use Rattle.hostpage.specs.Page.{point, reading_line}
use Rattle.hostpage.proofs.Lines.{unknown_is, point_is, range_line}
use Rattle.hostpage.proofs.line_of.Goals as goal

pub put_float-requires : goal.put_float-requires
put_float-requires c =
    let o = c.empty.ensures in
    let number : Longer c.empty.result (spaced (decimal c.args.head) []) 11 c.put_number-t.result =
    put_fits 11 (decimal_short _ 32) (omega (arith, o)) c.put_number-t.ensures in
    let word : Longer c.put_number-t.result (spaced point []) 6 c.put-in-Point.result =
    put_fits 6 (omega arith) (omega (arith, o, number.room)) c.put-in-Point.ensures in
    omega (arith, o, number.room, word.room)

pub put_range-requires : goal.put_range-requires
put_range-requires c =
    let o = c.empty.ensures in
    let number : Longer c.empty.result (spaced (decimal c.args.head) []) 11 c.put_number-t.result =
    put_fits 11 (decimal_short _ 32) (omega (arith, o)) c.put_number-t.ensures in
    omega (arith, o, number.room)

pub returns-in-Unknown : goal.returns-in-Unknown
returns-in-Unknown c =
    let o = c.empty.ensures in
    let number : Longer c.empty.result (spaced (decimal c.args.head) []) 11 c.put_number-t.result =
    put_fits 11 (decimal_short _ 32) (omega (arith, o)) c.put_number-t.ensures in
    let l = put_fits 8 (omega arith) (omega (arith, o, number.room)) c.put.ensures in
    record {
      result_value = from_empty o (longer_then number l) ∙ unknown_is c.args.head ∙ ap (reading_line c.args.head) (sym c.in-Unknown.is);
      len_bound = omega (arith, o, number.room, l.room);
    }

pub returns-in-Point : goal.returns-in-Point
returns-in-Point c =
    let o = c.empty.ensures in
    let number : Longer c.empty.result (spaced (decimal c.args.head) []) 11 c.put_number-t.result =
    put_fits 11 (decimal_short _ 32) (omega (arith, o)) c.put_number-t.ensures in
    let word : Longer c.put_number-t.result (spaced point []) 6 c.put-in-Point.result =
    put_fits 6 (omega arith) (omega (arith, o, number.room)) c.put-in-Point.ensures in
    record {
      result_value = from_empty o (longer_then number (longer_then word c.put_float.ensures))
          ∙ point_is c.args.head c.in-Point.x
          ∙ ap (reading_line c.args.head) (sym c.in-Point.is);
      len_bound = omega (arith, o, number.room, word.room, c.put_float.ensures.room);
    }

pub returns-in-Range : goal.returns-in-Range
returns-in-Range c =
    let o = c.empty.ensures in
    let number : Longer c.empty.result (spaced (decimal c.args.head) []) 11 c.put_number-t.result =
    put_fits 11 (decimal_short _ 32) (omega (arith, o)) c.put_number-t.ensures in
    record {
      result_value = from_empty o (longer_then number c.put_range.ensures)
          ∙ range_line c.args.head c.in-Range.kept
          ∙ ap (reading_line c.args.head) (sym c.in-Range.is);
      len_bound = omega (arith, o, number.room, c.put_range.ensures.room);
    }
