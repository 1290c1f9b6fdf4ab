-- `run_record::take_plant` meets its contract: a fault stops the file, and else the bytes are planted on the link that the record names.
use mathlib.Core.Path.{◌≡◌, ap, sym, ◌∙◌, refl}
use mathlib.Core.List.{List}
use Prim.Native.Nat.{ℕ}
use native.Mathlib.Omega.{arith}
use Rattle.run_spec.specs.RunFile.{File, plant, plant_fault, record_fault}
use Rattle.run_state.specs.declared.Player.{Player}
use Rattle.run_state.specs.Changes.{with_pair_planted}
use Rattle.run_state.specs.State.{PlayerOf}
use Rattle.run_state.proofs.Told.{plant_fault_as}
use Rattle.run_record.proofs.Records.{judged_stopped, judged_taken, plant_next}
use Rattle.terms.proofs.Refused.{number_ne}
use Rattle.run_record.proofs.take_plant.Goals as goal

-- its fault, by the player's numbers
fault : {F : File} {p : Player} {c : ℕ} → PlayerOf p F → (s : List ℕ) → c ≡ plant_fault p.n p.listeners p.struck p.pair s → c ≡ record_fault plant F s
fault T s e = e ∙ sym (plant_fault_as T s)

pub returns-in-Err : goal.returns-in-Err
returns-in-Err c =
    let s = c.args.bytes.now in
    record {
      next = λ F M few T H. rw (judged_stopped plant F s _ (fault T s c.in-Err.ensures) (number_ne c.in-Err.refusal)) (c.refuse.ensures.next F _ T H);
      len_bound = c.refuse.ensures.len_bound;
    }

pub returns-in-Ok : goal.returns-in-Ok
returns-in-Ok c =
    let a = c.args in
    let s = a.bytes.now in
    let e = c.plant_in-pair.ensures in
    record {
      next = λ F M few T H.
          rw (judged_taken plant F s (fault T s c.in-Ok.ensures) refl)
          (plant_next s H few e.reads T (c.planted_pair.ensures ∙ ap (with_pair_planted a.p) e.pair) c.empty.ensures);
      len_bound = omega (arith, c.empty.ensures);
    }
