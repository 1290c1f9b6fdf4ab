-- `run_piece::front` meets its contract: that many bytes are there.
use mathlib.Core.Path.{sym}
use lib.Seq.{length-take-le}
use Rattle.run_piece.proofs.front.Goals as goal

pub slice_bounds-result-end : goal.slice_bounds-result-end
slice_bounds-result-end c = sym (length-take-le _ _ c.requires)
