-- After a strike both bytes of the window are written anew: nothing that the strike left beside the head is seen again.
use mathlib.Core.Path.{◌≡◌, ap, ◌∙◌}
use mathlib.Core.Bool.{Bool, false, not, ◌&&◌, and-false}
use mathlib.Core.List.{List}
use Prim.Native.Nat.{ℕ, ◌+◌, ◌*◌}
use lib.ListN.{set, length-set}
use Rattle.terms.specs.Counting.{bit}
use Rattle.marks.specs.Marks.{bit_of, with_mark}
use Rattle.head_window.specs.declared.Registers.{Registers}
use Rattle.head_window.specs.Window.{three, set_registers, restarted_registers}
use Rattle.head_c.specs.Blocks.{IsBlock, registers_of}
use Rattle.head_c.specs.Events.{Call, starts, restarts, starts_listener, restarts_listener, hears, hears_batch, closes, adopts, sets, number_after, block_after}
use Rattle.head_c.specs.Events.{window_reset, Restarts, AfterStrike}
use Rattle.head_c.proofs.Events.{only_these_change, head_set}

-- all three events are cleared
cleared : (e : ℕ) → three (λ k. bit_of e k && not (bit_of 7 k)) ≡ 0
unfolding bit_of
cleared e = go (bit_of e 0) (bit_of e 1) (bit_of e 2)
  where
    go : (a b c : Bool) → bit (a && false) + 2 * bit (b && false) + 4 * bit (c && false) ≡ 0
    go a b c = rw (and-false a, and-false b, and-false c)

written : (w : List ℕ) (at x : ℕ) → IsBlock w → IsBlock (block_after w (sets at x))
unfolding block_after
written w at x block = let b = set_registers at x (registers_of w) in length-set (set w 16 b.events) 17 b.mask ∙ length-set w 16 b.events ∙ block

module _ (w : List ℕ) (mask : ℕ) (block : IsBlock w) where
  abbrev w₁ : List ℕ
  w₁ = block_after w (sets 10 7)

  abbrev w₂ : List ℕ
  w₂ = window_reset w mask

  abbrev clean : Registers
  clean = record { events = 0; mask = three (bit_of mask) }

  registers_reset : registers_of w₂ ≡ clean
  registers_reset =
      (only_these_change w₁ (sets 11 mask) (written w 10 7 block)).0
      ∙ ap (set_registers 11 mask) (only_these_change w (sets 10 7) block).0
      ∙ ap (λ (e : ℕ). record { events = e; mask = three (bit_of mask) }) (cleared (registers_of w).events)

  block₂ : IsBlock w₂
  block₂ = written w₁ 11 mask (written w 10 7 block)

  -- the number that a restart answers is c
  one_event : (c : ℕ) → c ≡ 0 → restarted_registers c (registers_of w₂) ≡ record { events = 4; mask = three (bit_of mask) }
  unfolding with_mark bit_of
  one_event c e = ap (λ (x : ℕ). restarted_registers x (registers_of w₂)) e ∙ ap (restarted_registers 0) registers_reset

  restart_alone : (c : Call) → Restarts c → number_after w₂ c ≡ 0 → registers_of (block_after w₂ c) ≡ record { events = 4; mask = three (bit_of mask) }
  restart_alone (restarts K n f i p r) R e = (only_these_change w₂ (restarts K n f i p r) block₂).0 ∙ one_event _ e
  restart_alone (restarts_listener K n f i p r) R e = (only_these_change w₂ (restarts_listener K n f i p r) block₂).0 ∙ one_event _ e
  restart_alone (starts K n f i v) R e = absurd R
  restart_alone (starts_listener K n f i) R e = absurd R
  restart_alone (hears k s) R e = absurd R
  restart_alone (hears_batch s room) R e = absurd R
  restart_alone closes R e = absurd R
  restart_alone adopts R e = absurd R
  restart_alone (sets at x) R e = absurd R

pub after_strike : AfterStrike
after_strike w mask block =
    record {
      registers = registers_reset w mask block;
      head = head_set (w₁ w mask block) (written w 10 7 block) 11 mask ∙ head_set w block 10 7;
      restarted = restart_alone w mask block;
    }
