-- Lists that are made element by element (`up_to`), and lists that are copied into others from a place on (`paste`).
use mathlib.Core.Path.{◌≡◌, refl, ap, ap₂, sym, ◌∙◌}
use mathlib.Core.Logic.{◌≢◌, by_cases}
use mathlib.Core.List.{List, [], ◌∷◌, ◌++◌}
use Prim.Native.Nat.{ℕ, zero, suc, ◌+◌, ◌-◌, ◌≤◌, ◌<◌}
use native.Mathlib.Omega.{arith}
use native.Mathlib.Numerals.{add-one}
use native.Mathlib.Decide.{ℕ_discrete, dec_lt}
use lib.ListN.{length, get_or, set, take, drop, length-append, length-set, get_or-append}
use lib.Seq.{get_or_at, get_or-take, get_or-drop, get_or-set_same, get_or-set_other, get_or-append-add, ext_get_or, take_all, take-suc, take-suc-set}
use lib.Seq.{length-take-le, length-paste, length_paste_head, paste, paste-suc}
use Rattle.head_c.specs.Blocks.{up_to}

-- ---- made element by element

module _ {A : Type 0} where
  pub up_to_long : (n : ℕ) (g : ℕ → A) → length (up_to n g) ≡ n
  unfolding up_to
  up_to_long zero g = refl
  up_to_long (suc n) g = length-append (up_to n g) _ ∙ omega (arith, up_to_long n g)

  pub up_to_at : (n : ℕ) (g : ℕ → A) (i : ℕ) (d : A) → i < n → get_or (up_to n g) i d ≡ g i
  unfolding up_to
  up_to_at zero g i d l = absurd (omega arith)
  up_to_at (suc n) g i d l = go (dec_lt i n) (up_to_at n g i d)
    where
      go : Dec (i < n) → (i < n → get_or (up_to n g) i d ≡ g i) → get_or (up_to n g ++ (g n ∷ [])) i d ≡ g i
      go (yes h) before = get_or-append (up_to n g) (g n ∷ []) d i (omega (arith, up_to_long n g)) ∙ before h
      go (no h) before = let e : n ≡ i = omega arith in get_or_at (up_to n g) (g n) [] d i (up_to_long n g ∙ e) ∙ ap g e

  pub up_to_same : (n : ℕ) (f g : ℕ → A) → ((i : ℕ) → i < n → f i ≡ g i) → up_to n f ≡ up_to n g
  unfolding up_to
  up_to_same zero f g h = refl
  up_to_same (suc n) f g h = ap₂ (λ (l : List A) (x : A). l ++ (x ∷ [])) (up_to_same n f g (λ i l. h i (omega arith))) (h n (omega arith))

  -- a list is made of its elements
  pub up_to_list : (n : ℕ) (g : ℕ → A) (l : List A) (d : A) → length l ≡ n → ((i : ℕ) → i < n → g i ≡ get_or l i d) → up_to n g ≡ l
  up_to_list n g l d e h =
      ext_get_or d (up_to n g) l (up_to_long n g ∙ sym e) (λ i b. let m : i < n = omega (arith, up_to_long n g) in up_to_at n g i d m ∙ h i m)

  -- one element is another
  pub up_to_set : (n : ℕ) (f g : ℕ → A) (k : ℕ) (v : A) → g k ≡ v → ((i : ℕ) → i < n → i ≢ k → g i ≡ f i) → up_to n g ≡ set (up_to n f) k v
  up_to_set n f g k v e h = up_to_list n g (set (up_to n f) k v) v (length-set (up_to n f) k v ∙ up_to_long n f) at_each
    where
      at_each : (i : ℕ) → i < n → g i ≡ get_or (set (up_to n f) k v) i v
      at_each i l = by_cases (ℕ_discrete i k)
          (λ q. rw q (e ∙ sym (get_or-set_same (up_to n f) k v v (omega (arith, up_to_long n f)))))
          (λ d. h i l d ∙ sym (get_or-set_other (up_to n f) k i v v d ∙ up_to_at n f i v l))

-- ---- filled from the front

-- r has n elements, the first j of them those of s
pub record Filled {A : Type 0} (n : ℕ) (s : List A) (j : ℕ) (r : List A) : Type 0 where
  pub long : length r ≡ n
  pub first : take j r ≡ take j s

pub filled_none : {A : Type 0} {n : ℕ} (s r : List A) → length r ≡ n → Filled n s 0 r
filled_none s r e = record { long = e; first = refl }

-- one element more
pub filled_more : {A : Type 0} {n j : ℕ} {s r : List A} {v : A} (d : A) → Filled n s j r → v ≡ get_or s j d → j < n → length s ≡ n
    → Filled n s (j + 1) (set r j v)
filled_more {A = A} {n} {j} {s} {r} {v} d F q l e =
    record {
      long = length-set r j v ∙ F.long;
      first =
          rw (add-one j, take-suc-set r j v (omega (arith, F.long)), take-suc s j d (omega arith), F.first, q);
    }

pub filled_all : {A : Type 0} {n j : ℕ} {s r : List A} → Filled n s j r → j ≡ n → length s ≡ n → r ≡ s
filled_all {n = n} {j} {s} {r} F q e = sym (take_all j r (omega (arith, F.long))) ∙ F.first ∙ take_all j s (omega arith)

-- ---- copied

module _ {A : Type 0} (d s : List A) where
  -- one element more
  pub copied : (at : ℕ) {j : ℕ} {r : List A} {v : A} (z : A) → r ≡ paste d at s j → v ≡ get_or s j z → at + j < length d → j < length s
      → set r (at + j) v ≡ paste d at s (j + 1)
  copied at {j} z e q in-d in-s = rw (e, q, add-one j) (paste-suc d at s j z in-d in-s)

-- where nothing is copied to, all is as it was
module _ {A : Type 0} (d s : List A) (at n : ℕ) (z : A) (long : length s ≡ n) (fits : at + n ≤ length d) where
  abbrev front : List A
  front = take at d ++ take n s

  front_long : length front ≡ at + n
  front_long = length_paste_head d at s n (omega arith) (omega arith)

  pub copied_before : (i : ℕ) → i < at → get_or (paste d at s n) i z ≡ get_or d i z
  copied_before i h =
      get_or-append front _ z i (omega (arith, front_long))
      ∙ get_or-append (take at d) _ z i (omega (arith, length-take-le at d (omega arith)))
      ∙ get_or-take at d i z h

  pub copied_there : (j : ℕ) → j < n → get_or (paste d at s n) (at + j) z ≡ get_or s j z
  copied_there j h =
      get_or-append front _ z (at + j) (omega (arith, front_long))
      ∙ ap (λ (m : ℕ). get_or front (m + j) z) (sym (length-take-le at d (omega arith)))
      ∙ get_or-append-add (take at d) (take n s) j z
      ∙ get_or-take n s j z h

  pub copied_behind : (i : ℕ) → at + n ≤ i → get_or (paste d at s n) i z ≡ get_or d i z
  copied_behind i h =
      let j = i - (at + n) in
      let e : i ≡ length front + j = omega (arith, front_long) in
      let q : at + n + j ≡ i = omega arith in
      ap (λ (m : ℕ). get_or (paste d at s n) m z) e
      ∙ get_or-append-add front (drop (at + n) d) j z
      ∙ get_or-drop (at + n) d j z
      ∙ ap (λ (m : ℕ). get_or d m z) q

  -- what stands there already is copied to no effect
  pub copied_same : ((j : ℕ) → j < n → get_or s j z ≡ get_or d (at + j) z) → paste d at s n ≡ d
  copied_same h = ext_get_or z (paste d at s n) d (length-paste d at s n (omega arith) (omega arith)) (λ i b. go i (dec_lt i at) (dec_lt i (at + n)))
    where
      go : (i : ℕ) → Dec (i < at) → Dec (i < at + n) → get_or (paste d at s n) i z ≡ get_or d i z
      go i (yes l) m = copied_before i l
      go i (no l) (yes m) =
          let j = i - at in
          let e : i ≡ at + j = omega arith in
          rw e (copied_there j (omega arith) ∙ h j (omega arith))
      go i (no l) (no m) = copied_behind i (omega arith)
