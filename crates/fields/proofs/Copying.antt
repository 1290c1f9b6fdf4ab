-- Bytes copied over a slice, if they fit and if they do not.
use mathlib.Core.Path.{◌≡◌, ap, sym, ◌∙◌}
use mathlib.Core.List.{List, ◌++◌, append_assoc}
use Prim.Native.Nat.{ℕ, suc, ◌+◌, ◌-◌, ◌≤◌, ◌<◌}
use native.Mathlib.Omega.{arith}
use native.Mathlib.Nat.{add-zero, add_assoc}
use lib.ListN.{length, get_or, take, drop, set}
use lib.Seq.{paste, paste-zero, paste-suc, take-paste, drop-paste, take-length, take-take, take-add, drop-drop}
use borrow.Author.Tests.{le-leb, lt-leb}
use Rattle.fields.specs.Bytes.{copied}

module _ (s : List ℕ) (i : ℕ) (b : List ℕ) where
  pub copied_not : length s < i + length b → copied s i b ≡ s
  unfolding copied
  copied_not h = rw (lt-leb (i + length b) (length s) h)

  pub copied_fits : i + length b ≤ length s → copied s i b ≡ paste s i b (length b)
  unfolding copied
  copied_fits h = rw (le-leb (i + length b) (length s) h, take-length b)

-- eight stores, one after the other
module _ (s b : List ℕ) (i : ℕ) (fits : i + 8 ≤ length s) (there : 8 ≤ length b) where
  next : (j : ℕ) → j < 8 → {t : List ℕ} → t ≡ paste s i b j → set t (i + j) (get_or b j 0) ≡ paste s i b (suc j)
  next j l e = ap (λ (x : List ℕ). set x (i + j) (get_or b j 0)) e ∙ paste-suc s i b j 0 (omega arith) (omega arith)

  pub eight_pasted : set (set (set (set (set (set (set (set s i (get_or b 0 0)) (i + 1) (get_or b 1 0)) (i + 2) (get_or b 2 0)) (i + 3) (get_or b 3 0)) (i + 4) (get_or b 4 0)) (i + 5) (get_or b 5 0)) (i + 6) (get_or b 6 0)) (i + 7) (get_or b 7 0)
      ≡ paste s i b 8
  eight_pasted =
      let first : set s i (get_or b 0 0) ≡ paste s i b 1 = ap (λ (k : ℕ). set s k (get_or b 0 0)) (sym (add-zero i)) ∙ next 0 (omega arith) (paste-zero s i b) in
      next 7 (omega arith) (next 6 (omega arith) (next 5 (omega arith) (next 4 (omega arith) (next 3 (omega arith) (next 2 (omega arith) (next 1 (omega arith) first))))))

-- a copy that goes on from byte j
pub pasted_on : (d s : List ℕ) (i j m : ℕ) → i + j ≤ length d → j + m ≤ length s → {t x : List ℕ} → t ≡ paste d i s j
    → x ≡ take (length s - j) (drop j s) → paste t (i + j) x m ≡ paste d i s (j + m)
pasted_on d s i j m hd hs {t} {x} e q =
    let D : List ℕ = drop (i + (j + m)) d in
    let front : take (i + j) t ≡ take i d ++ take j s = ap (take (i + j)) e ∙ take-paste d i s j (omega arith) (omega arith) in
    let part : take m x ≡ take m (drop j s) = ap (take m) q ∙ take-take m (length s - j) (drop j s) (omega arith) in
    let back : drop (i + j + m) t ≡ D =
    ap (drop (i + j + m)) e ∙ sym (drop-drop m (i + j) (paste d i s j)) ∙ ap (drop m) (drop-paste d i s j (omega arith) (omega arith))
    ∙ drop-drop m (i + j) d ∙ ap (λ (k : ℕ). drop k d) (add_assoc i j m) in
    rw (front, part, back)
    (ap (λ (l : List ℕ). l ++ D) (append_assoc (take i d) (take j s) (take m (drop j s)) ∙ ap (λ (l : List ℕ). take i d ++ l) (sym (take-add j m s))))
