-- Writing changes nothing that the host holds.
use mathlib.Core.Path.{◌≡◌, sym}
use mathlib.Core.List.{List}
use Prim.Native.Nat.{ℕ}
use lib.ListN.{length, replicate, length-replicate}
use Rattle.frame_spec.specs.Written.{written}
use Rattle.head_spec.specs.declared.Head.{Head}
use Rattle.head_spec.specs.Kept.{Offer}
use Rattle.head_spec.specs.Calls.{write_answer}
use Rattle.head_lent.specs.Answers.{written_number}
use Rattle.headplay.specs.Script as script
use Rattle.headplay.specs.declared.Outcome.{Outcome}
use Rattle.headplay.proofs.written.Goals as goal

-- of the buffer only its length counts
by_length : (h : Head) (a b : List ℕ) → length a ≡ length b → write_answer h a ≡ write_answer h b
unfolding write_answer written
by_length h a b e = rw e

is_written : (h : Head) (b : List ℕ) (o : Offer) {n : ℕ} → n ≡ written_number (write_answer h b)
    → ◌≡◌ {A = Outcome} (record { number = n; head = h; offer = o }) (script.write_outcome h (length b) o)
is_written h b o e = rw (e, by_length h b (replicate (length b) 0) (sym (length-replicate (length b) 0)))

pub returns-then-number-eq0 : goal.returns-then-number-eq0
returns-then-number-eq0 c = is_written _ _ _ c.write-number.ensures.0

pub returns-else-number-eq0 : goal.returns-else-number-eq0
returns-else-number-eq0 c = is_written _ _ _ c.write-number.ensures.0
