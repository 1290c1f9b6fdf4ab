-- Entries as codes. The code of a position is the position, so a list holds a position just if it has its code; and no position that a list can hold has the
-- code of a null entry.
use Rattle.std.specs.Prelude.{None, Some}
use Rattle.std.proofs.Common.{◌≡◌, ℕ, ◌+◌, ◌%◌, ◌≤◌, Bool, true, false, cond, eqb, ◌≢◌, List, get_or, ℤ, pos, sym, refl, ap, ◌∙◌, arith, to_z-of_z, w32, SFits, to_z, of_z}
use mir.Val.{bool_byte}
use Rattle.terms.specs.Positions.{is_position, eq_z}
use Rattle.terms.specs.Entry.{Entry}
use Rattle.terms.proofs.Whole.{eqZ→eq, eq_z_refl}
use Rattle.marks.specs.Marks.{bit_of}
use Rattle.entries.specs.Entries.{entry_at}
use Rattle.terms.specs.Counting.{bit}
use Rattle.convergence.specs.Trust.{Given, nothing, confessed, gave, is, says_of}
use Rattle.marks.proofs.Counts.{byte_bit}
use Rattle.settle_trust.proofs.Tests.{same_test}
use Rattle.settle_trust.proofs.Cells.{same_bits}
use Rattle.ring_play.specs.Inner.Codes.{no_code, code_of, entry_of, code_at, holds}

-- ---- the test

pub eq_z_yes : {a b : ℤ} → a ≡ b → eq_z a b ≡ true
eq_z_yes {a} {b} e = same_test (eq_z a b) true (λ t. tt) (λ t. rw e (eq_z_refl b))

pub eq_z_no : {a b : ℤ} → a ≢ b → eq_z a b ≡ false
eq_z_no {a} {b} d = same_test (eq_z a b) false (λ t. d (eqZ→eq a b t)) (λ t. absurd t)

eq_z_turned : (a b : ℤ) → eq_z a b ≡ eq_z b a
eq_z_turned a b = same_test (eq_z a b) (eq_z b a) (λ t. rw (eqZ→eq a b t) (eq_z_refl b)) (λ t. rw (eqZ→eq b a t) (eq_z_refl a))

-- ---- codes

pub code_entry : (m : ℕ) (E : List ℤ) (j : ℕ) → code_at m E j ≡ code_of (entry_at m E j)
unfolding entry_at
code_entry m E j = go (bit_of m j)
  where
    go : (b : Bool) → cond b (get_or E j (pos 0)) no_code ≡ code_of (cond b (Some (get_or E j (pos 0))) None)
    go true = refl
    go false = refl

pub entry_null : {c : ℤ} → c ≡ no_code → entry_of c ≡ None
entry_null e = rw (eq_z_yes e)

pub entry_position : {c : ℤ} → c ≢ no_code → entry_of c ≡ Some c
entry_position d = rw (eq_z_no d)

-- a position is no code of a null entry
pub position_code : (u : ℤ) → is_position u ≡ true → u ≢ no_code
unfolding is_position
position_code u h e = let z : ◌≡◌ {A = Bool} false true = rw e at h in cc_absurd z
  where
    cc_absurd : ◌≡◌ {A = Bool} false true → ⊥
    cc_absurd q = let z : ◌≡◌ {A = ℕ} 0 1 = cc in omega arith

-- ---- what a link holds

pub is_holds : (j : ℕ) (u : ℤ) (g : Given) → u ≢ no_code → is u (says_of j g) ≡ holds j u g
is_holds j u nothing d = refl
is_holds j u confessed d = refl
is_holds j u (gave l) d = go (l j)
  where
    go : (e : Entry) → is u e ≡ bit (eq_z (code_of e) u)
    go None = ap bit (sym (eq_z_no (λ q. d (sym q))))
    go (Some w) = ap bit (eq_z_turned u w)

pub is_le_holds : (j : ℕ) (u : ℤ) (g : Given) → is u (says_of j g) ≤ holds j u g
is_le_holds j u nothing = omega arith
is_le_holds j u confessed = omega arith
is_le_holds j u (gave l) = go (l j)
  where
    go : (e : Entry) → is u e ≤ bit (eq_z (code_of e) u)
    go None = omega arith
    go (Some w) = omega (arith, ap bit (eq_z_turned u w))

pub holds_le : (j : ℕ) (c : ℤ) (g : Given) → holds j c g ≤ 1
holds_le j c nothing = omega arith
holds_le j c confessed = omega arith
holds_le j c (gave l) = go (eq_z (code_of (l j)) c)
  where
    go : (b : Bool) → bit b ≤ 1
    go true = omega arith
    go false = omega arith

-- ---- as the machine counts

-- two numbers are the same exactly if their bits are
pub bits_same : {x y : ℤ} → SFits w32 x → SFits w32 y → of_z w32 x ≡ of_z w32 y → x ≡ y
bits_same f g e = sym (to_z-of_z f) ∙ ap (to_z w32) e ∙ to_z-of_z g

pub bits_other : {x y : ℤ} → (of_z w32 x ≡ of_z w32 y → ⊥) → x ≢ y
bits_other h e = h (ap (of_z w32) e)

-- x and y: two codes that it compares; s: a count
pub added_bit : {x x' y : ℤ} {s s₀ : ℕ} → SFits w32 x → SFits w32 y → s ≡ s₀ → x ≡ x' → (s + bool_byte (eqb (of_z w32 x) (of_z w32 y))) % 4294967296 ≡ (s₀ + bit (eq_z x' y)) % 4294967296
added_bit {x} {y} f g e q = rw (byte_bit (eqb (of_z w32 x) (of_z w32 y)), same_bits f g, e, q)

-- of an entry that is marked
pub code_marked : (m : ℕ) (E : List ℤ) (j : ℕ) → bit_of m j ≡ true → get_or E j (pos 0) ≡ code_at m E j
code_marked m E j b = rw b
