-- `run_listing::end_line` meets its contract: each field is put behind the text so far, and their bounds, 11 + 12 + 12 + 11 + 9 + 9, leave room for all.
use mathlib.Core.Path.{refl, ◌∙◌}
use native.Mathlib.Omega.{arith}
use native.Mathlib.Nat.{le_of_eq}
use Rattle.texts.proofs.Digits.{decimal_short, hex_length}
use Rattle.texts.proofs.Writing.{from_empty, longer_then, put_fits}
use Rattle.run_listing.proofs.Lines.{fields_are}
use Rattle.run_listing.proofs.end_line.Goals as goal

pub put_entry-at-requires : goal.put_entry-at-requires
put_entry-at-requires c =
    let p = put_fits 11 (decimal_short c.args.phase 32) (omega arith) c.put_number_at-at.ensures in
    omega (arith, p.room)

pub put_entry-at-requires-2 : goal.put_entry-at-requires-2
put_entry-at-requires-2 c =
    let p = put_fits 11 (decimal_short c.args.phase 32) (omega arith) c.put_number_at-at.ensures in
    omega (arith, p.room, c.put_entry-at.ensures.room)

pub returns : goal.returns
returns c =
    let a = c.args in
    let p = put_fits 11 (decimal_short a.phase 32) (omega arith) c.put_number_at-at.ensures in
    let low = c.put_entry-at.ensures in
    let high = c.put_entry-at-2.ensures in
    let wide = put_fits 11 (decimal_short c.spread_of.result 32) (omega (arith, p.room, low.room, high.room)) c.put_number_at-at-2.ensures in
    let collect =
    put_fits 9 (le_of_eq (hex_length 8 c.heads_of.result 32)) (omega (arith, p.room, low.room, high.room, wide.room)) c.put_hex_at-at.ensures in
    let confess =
    put_fits 9 (le_of_eq (hex_length 8 c.heads_of-2.result 10)) (omega (arith, p.room, low.room, high.room, wide.room, collect.room))
    c.put_hex_at-len.ensures in
    record {
      result_value = from_empty refl (longer_then p (longer_then low (longer_then high (longer_then wide (longer_then collect confess)))))
          ∙ fields_are a.phase a.collect a.confess a.extremes.low a.extremes.high c.spread_of.ensures c.heads_of.ensures c.heads_of-2.ensures;
      len_bound = omega (arith, p.room, low.room, high.room, wide.room, collect.room, confess.room);
    }
