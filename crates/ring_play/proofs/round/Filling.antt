-- A memory that is filled head by head: before head i, the heads below i that are picked have what is stored for them, and all others what they had. A
-- head that is not picked is passed; one that is gets what is stored, and no other head's part changes.
use Rattle.std.proofs.Common.{◌≡◌, ℕ, ◌+◌, ◌<◌, Bool, true, false, cond, ◌&&◌, ltb, ◌≢◌, List, length, get_or, set, sym, refl, ◌∙◌, arith, get_or-set_other, get_or-set_same, le-ltb, lt-ltb}
use mathlib.Core.Logic.{by_cases}
use mathlib.Core.Bool.{and-false}
use native.Mathlib.Decide.{ℕ_discrete, dec_lt}

test_other : (i j : ℕ) → j ≢ i → ltb j (i + 1) ≡ ltb j i
test_other i j d = by_cases (dec_lt j i)
    (λ l. lt-ltb j (i + 1) (omega arith) ∙ sym (lt-ltb j i l))
    (λ l. le-ltb j (i + 1) (omega arith) ∙ sym (le-ltb j i (omega arith)))

-- picked: the heads that are filled; new: what is stored for a head; old: what it had
module _ {A : Type 0} (picked : ℕ → Bool) (new old : ℕ → A) where
  abbrev pub filled_to : ℕ → ℕ → A
  filled_to i j = cond (ltb j i && picked j) (new j) (old j)

  abbrev pub Filled : ℕ → (ℕ → A) → Type 0
  Filled i held = (j : ℕ) → held j ≡ filled_to i j

  pub filled_none : Filled 0 old
  filled_none j = rw (le-ltb j 0 (omega arith)) refl

  module _ (i : ℕ) {held : ℕ → A} (h : Filled i held) where
    pub filled_passed : picked i ≡ false → Filled (i + 1) held
    filled_passed e j = by_cases (ℕ_discrete j i)
        (λ q. rw (q, e, and-false (ltb i (i + 1))) (rw (q, e, and-false (ltb i i)) at (h j)))
        (λ d. rw (test_other i j d) (h j))

    pub filled_stored : {next : ℕ → A} → picked i ≡ true → next i ≡ new i → ((j : ℕ) → j ≢ i → next j ≡ held j) → Filled (i + 1) next
    filled_stored e stored kept j = by_cases (ℕ_discrete j i)
        (λ q. rw (q, e, lt-ltb i (i + 1) (omega arith)) stored)
        (λ d. rw (test_other i j d) (kept j d ∙ h j))

    -- what a picked head below i holds
    pub filled_had : (j : ℕ) → j < i → picked j ≡ true → held j ≡ new j
    filled_had j l e = rw (lt-ltb j i l, e) at (h j)

    -- what head i holds before it is filled
    pub filled_yet : held i ≡ old i
    filled_yet = rw (le-ltb i i (omega arith)) at (h i)

  -- a list is filled: v is stored at place i
  pub filled_set : (l : List A) (d : A) (i : ℕ) {v : A} → Filled i (λ j. get_or l j d) → i < length l → picked i ≡ true → v ≡ new i
      → Filled (i + 1) (λ j. get_or (set l i v) j d)
  filled_set l d i {v} h below e q = filled_stored i h e (get_or-set_same l i v d below ∙ q) (λ j r. get_or-set_other l i j v d r)
