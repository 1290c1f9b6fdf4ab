-- Where the frame is accepted it has at least the seven bytes of the common fields, so that the rest starts within it and is all that follows them.
use mathlib.Core.Path.{◌≡◌, refl, sym, ◌∙◌}
use mathlib.Core.List.{List}
use Prim.Native.Nat.{ℕ, ◌-◌}
use native.Mathlib.Nat.{le_refl}
use native.Mathlib.Omega.{arith}
use lib.ListN.{length, take, drop, length-drop}
use lib.Seq.{take_all}
use Rattle.frame_check.proofs.Laws.{accepted_long, accepted_rest}
use Rattle.frame_check.proofs.check.Goals as goal

-- a part up to the end, as the machine counts its bytes
to_the_end : (s : List ℕ) (a : ℕ) → take (length s - a) (drop a s) ≡ drop a s
to_the_end s a = take_all (length s - a) (drop a s) (simp length-drop (le_refl _))

pub slice_bounds-result-count : goal.slice_bounds-result-count
slice_bounds-result-count c = accepted_long _ (sym c.in_ok-frame_refusal.ensures)

pub slice_bounds-result-start : goal.slice_bounds-result-start
slice_bounds-result-start c = accepted_long _ (sym c.in_ok-frame_refusal.ensures)

pub returns : goal.returns
returns c =
    let e = c.in_ok-frame_refusal.ensures in
    record {
      number = e;
      rest = to_the_end c.args.frame.now 7 ∙ sym (accepted_rest _ (sym e));
      place = (refl, omega arith);
    }
