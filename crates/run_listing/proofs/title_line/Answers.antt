-- `run_listing::title_line` meets its contract: the text is the definition's, byte for byte.
use native.Mathlib.Omega.{arith}
use Rattle.run_spec.specs.Listing.{title}
use Rattle.texts.proofs.Writing.{from_empty, put_fits}
use Rattle.run_listing.proofs.title_line.Goals as goal

pub returns : goal.returns
unfolding title
returns c =
    let o = c.empty.ensures in
    let line = put_fits 38 (omega arith) (omega (arith, o)) c.put.ensures in
    record { result_value = from_empty o line; len_bound = omega (arith, o, line.room) }
