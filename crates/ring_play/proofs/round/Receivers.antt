-- Receivers: a head stands below the ring's size, a listener at 32 or above. Those that settle stand below the end, and that is at most 48.
use Rattle.std.specs.Prelude.{None, Some, Option}
use Rattle.std.proofs.Common.{◌≡◌, ℕ, ◌+◌, ◌-◌, ◌<◌, ◌≤◌, true, false, sym, refl, ◌∙◌, true≢false, arith, le-ltb, eq-eqb, ne_eqb, le-leb}
use mathlib.Core.Logic.{by_cases}
use native.Mathlib.Decide.{dec_lt, ℕ_discrete}
use borrow.Author.Tests.{lt-leb}
use Rattle.ring_play.specs.declared.Stage.{Stage}
use Rattle.ring_play.specs.Memory.{heads, listeners, receiver_end, settles}
use Rattle.ring_play.specs.Inner.Before.{SettlesBefore}

module _ (s : Stage) where
  -- ---- the end

  pub end_heads : listeners s ≡ 0 → receiver_end s ≡ heads s
  end_heads e = rw (eq-eqb (listeners s) 0 e) refl

  pub end_listeners : (listeners s ≡ 0 → ⊥) → receiver_end s ≡ 32 + listeners s
  end_listeners d = rw (ne_eqb (listeners s) 0 d) refl

  pub end_small : receiver_end s ≤ 48
  end_small = by_cases (ℕ_discrete (listeners s) 0)
      (λ e. omega (arith, end_heads e))
      (λ d. omega (arith, end_listeners d))

  heads_below : heads s ≤ receiver_end s
  heads_below = by_cases (ℕ_discrete (listeners s) 0)
      (λ e. omega (arith, end_heads e))
      (λ d. omega (arith, end_listeners d))

  -- ---- who settles

  module _ (i : ℕ) where
    pub no_head : heads s ≤ i → i < 32 → settles s i ≡ false
    no_head h l = rw (le-ltb i (heads s) h, lt-leb 32 i l) refl

    pub no_listener : 32 ≤ i → listeners s ≤ i - 32 → settles s i ≡ false
    no_listener l h = rw (le-ltb i (heads s) (omega arith), le-leb 32 i l, le-ltb i (32 + listeners s) (omega arith)) refl

    never : {A : Type 0} → settles s i ≡ false → settles s i ≡ true → A
    never e t = absurd (true≢false (sym t ∙ e))

    pub settles_below : settles s i ≡ true → i < receiver_end s
    settles_below t = by_cases (dec_lt i 32) head listener
      where
        head : i < 32 → i < receiver_end s
        head l = by_cases (dec_lt i (heads s))
            (λ h. omega (arith, heads_below))
            (λ h. never (no_head (omega arith) l) t)

        listener : (i < 32 → ⊥) → i < receiver_end s
        listener l = by_cases (dec_lt (i - 32) (listeners s))
            (λ h. omega (arith, end_listeners (omega arith)))
            (λ h. never (no_listener (omega arith) (omega arith)) t)

  -- ---- a receiver that settles before receiver i

  pub settles_more : (i : ℕ) (x : Option ℕ) → SettlesBefore s i x → SettlesBefore s (i + 1) x
  settles_more i None h = tt
  settles_more i (Some m) h = (omega (arith, h.0), h.1)
