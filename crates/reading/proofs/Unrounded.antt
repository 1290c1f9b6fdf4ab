-- Where nothing is rounded: q / 2 ^ k with q below 2 ^ 24 is a value of an f32, so rounding gives it, and a sum or a half whose result is such a value is exact.
use mathlib.Core.Path.{◌≡◌, refl, sym, ap, ◌∙◌, subst}
use mathlib.Core.Bool.{Bool, true, false, cond, ◌&&◌, beq}
use Prim.Native.Nat.{ℕ, zero, suc, ◌+◌, ◌-◌, ◌*◌, ◌/◌, ◌^◌, ◌≤◌, ◌<◌}
use native.Mathlib.Nat.{mul-one, mul_assoc, mul_comm, mul-pos, le_of_lt, lt_of_lt_of_le, add-mul, mul-lt-mul_of_pos_right, lt_of_mul-lt-mul_right, zero-lt-suc, mul-sub}
use native.Mathlib.Omega.{arith}
use lib.Dec.{T, leb, ltb, leb→le, le→leb, ltb→lt, lt→ltb}
use lib.IntN.{ℤ, pos, negsuc}
use lib.Pow.{pow-add, pow_pos, pow_mono, shl_lt}
use lib.Count.{count_trailing_zeros}
use lib.Ieee.{Float, nan, inf, fin, Format, binary32, up, down, minus, unlike, odd, round, sum, add, mul, fits}
use lib.Ieee.Fits.{odd-fits, round-fits, down_pos}
use lib.Ieee.Exact.{HasValue, odd_sign, round_exact}
use lib.Ieee.Scale.{round_same}
use Rattle.reading.proofs.OneFloat.{one_float}

same_test : (a b : Bool) → (T a → T b) → (T b → T a) → a ≡ b
same_test true true p q = refl
same_test true false p q = absurd (p tt)
same_test false true p q = absurd (q tt)
same_test false false p q = refl

-- ---- `odd` writes a fraction in one way, whatever power of two it is given over

leb_add : (a b c : ℕ) → leb (a + c) (b + c) ≡ leb a b
leb_add a b c = same_test (leb (a + c) (b + c)) (leb a b)
    (λ t. le→leb a b (let h : a + c ≤ b + c = leb→le (a + c) (b + c) t in omega arith))
    (λ t. le→leb (a + c) (b + c) (let h : a ≤ b = leb→le a b t in omega arith))

minus_add : (a b c : ℕ) → minus (a + c) (b + c) ≡ minus a b
minus_add a b c =
    let x : a + c - (b + c) ≡ a - b = omega arith in
    let y : b + c - suc (a + c) ≡ b - suc a = omega arith in
    ap (λ (t : Bool). cond t (pos (a + c - (b + c))) (negsuc (b + c - suc (a + c)))) (leb_add b a c)
    ∙ ap (λ (n : ℕ). cond (leb b a) (pos n) (negsuc (b + c - suc (a + c)))) x
    ∙ ap (λ (n : ℕ). cond (leb b a) (pos (a - b)) (negsuc n)) y

odd_add : (d : ℕ) (s : Bool) (q k l c : ℕ) → odd d s q (k + c) (l + c) ≡ odd d s q k l
unfolding odd
odd_add d s zero k l c = refl
odd_add d s (suc q) k l c =
    let t = count_trailing_zeros d (suc q) in
    let e : k + c + t ≡ k + t + c = omega arith in
    ap (λ (z : ℤ). fin s (suc q / 2 ^ t) z) (ap (λ (n : ℕ). minus n (l + c)) e ∙ minus_add (k + t) l c)

-- ---- q / 2 ^ k, with q of at most 24 digits

module _ (s : Bool) (q k : ℕ) (h : q < 2 ^ 24) (l : k ≤ 149) where
  room : q * 2 ^ (149 - k) < 2 ^ 277
  room = let e : 24 + (149 - k) ≤ 277 = omega arith in lt_of_lt_of_le (shl_lt 24 (149 - k) h) (pow_mono e)

  over_low : odd 24 s q (149 - k) 149 ≡ odd 24 s q 0 k
  over_low =
      let e : k + (149 - k) ≡ 149 = omega arith in
      let z : 0 + (149 - k) ≡ 149 - k = omega arith in
      ap (λ (n : ℕ). odd 24 s q (149 - k) n) (sym e) ∙ ap (λ (n : ℕ). odd 24 s q n (k + (149 - k))) (sym z) ∙ odd_add 24 s q 0 k (149 - k)

  pub odd_holds : T (fits binary32 (odd 24 s q 0 k))
  odd_holds = subst (λ (x : Float). T (fits binary32 x)) over_low (odd-fits binary32 24 s q (149 - k) h (le_of_lt h) room)

  pub odd_is : HasValue (odd 24 s q 0 k) s q (2 ^ k)
  odd_is = subst (λ (n : ℕ). HasValue (odd 24 s q 0 k) s n (2 ^ k)) (mul-one q) (odd_sign 24 s q 0 k)

  units_of : q * 2 ^ 149 ≡ q * 2 ^ (149 - k) * 2 ^ k
  units_of =
      let e : 149 - k + k ≡ 149 = omega arith in
      ap (λ (n : ℕ). q * 2 ^ n) (sym e) ∙ ap (λ (n : ℕ). q * n) (pow-add 2 (149 - k) k) ∙ sym (mul_assoc q (2 ^ (149 - k)) (2 ^ k))

  pub round_odd : round binary32 s q (2 ^ k) ≡ odd 24 s q 0 k
  round_odd =
      one_float binary32 (round binary32 s q (2 ^ k)) (odd 24 s q 0 k) s q (2 ^ k) (pow_pos k) (round-fits binary32 s q (2 ^ k)) odd_holds
      (round_exact binary32 s q (2 ^ k) q (149 - k) (pow_pos k) h room units_of)
      odd_is

-- ---- operations on floats that are whole numbers

ltb_scale : (a b c : ℕ) → 0 < c → ltb (a * c) (b * c) ≡ ltb a b
ltb_scale a b c C = same_test (ltb (a * c) (b * c)) (ltb a b)
    (λ t. lt→ltb a b (lt_of_mul-lt-mul_right c (ltb→lt (a * c) (b * c) t)))
    (λ t. lt→ltb (a * c) (b * c) (mul-lt-mul_of_pos_right (ltb→lt a b t) C))

sub_mul : (a b c : ℕ) → (a - b) * c ≡ a * c - b * c
sub_mul a b c = mul_comm (a - b) c ∙ mul-sub c a b ∙ ap (λ (x : ℕ). x - c * b) (mul_comm c a) ∙ ap (λ (x : ℕ). a * c - x) (mul_comm c b)

-- n * c / c rounds as n / 1
cancelled : (f : Format) (s : Bool) (n c : ℕ) {x : ℕ} → 0 < c → x ≡ n * c → round f s x c ≡ round f s n 1
cancelled f s n c {x} C e = round_same f s x c n 1 C (zero-lt-suc 0) (mul-one x ∙ e)

sum_scale : (f : Format) (s t : Bool) (a b c : ℕ) → 0 < c → sum f s (a * c) t (b * c) c ≡ sum f s a t b 1
unfolding sum
sum_scale f s t a b c C =
    ap (λ (y : Bool). cond (beq s t) (round f s (a * c + b * c) c) (cond y (round f t (b * c - a * c) c) (round f (s && ltb (b * c) (a * c)) (a * c - b * c) c))) (ltb_scale a b c C)
    ∙ ap (λ (y : Bool). cond (beq s t) (round f s (a * c + b * c) c) (cond (ltb a b) (round f t (b * c - a * c) c) (round f (s && y) (a * c - b * c) c))) (ltb_scale b a c C)
    ∙ ap (λ (x : Float). cond (beq s t) x (cond (ltb a b) (round f t (b * c - a * c) c) (round f (s && ltb b a) (a * c - b * c) c))) (cancelled f s (a + b) c C (sym (add-mul a b c)))
    ∙ ap (λ (x : Float). cond (beq s t) (round f s (a + b) 1) (cond (ltb a b) x (round f (s && ltb b a) (a * c - b * c) c))) (cancelled f t (b - a) c C (sym (sub_mul b a c)))
    ∙ ap (λ (x : Float). cond (beq s t) (round f s (a + b) 1) (cond (ltb a b) (round f t (b - a) 1) x)) (cancelled f (s && ltb b a) (a - b) c C (sym (sub_mul a b c)))

pub add_whole : (f : Format) (x y : Float) (s t : Bool) (a b : ℕ) → HasValue x s a 1 → HasValue y t b 1 → add f x y ≡ sum f s a t b 1
unfolding add
add_whole f nan y s t a b v w = absurd v
add_whole f (inf p) y s t a b v w = absurd v
add_whole f (fin p m e) nan s t a b v w = absurd w
add_whole f (fin p m e) (inf q) s t a b v w = absurd w
add_whole f (fin p m e) (fin q n d) s t a b v w =
    let c = down e * down d in
    let x : m * up e * down d ≡ a * c = ap (λ (z : ℕ). z * down d) (sym (mul-one (m * up e)) ∙ v.1) ∙ mul_assoc a (down e) (down d) in
    let y : n * up d * down e ≡ b * c = ap (λ (z : ℕ). z * down e) (sym (mul-one (n * up d)) ∙ w.1) ∙ mul_assoc b (down d) (down e) ∙ ap (λ (z : ℕ). b * z) (mul_comm (down d) (down e)) in
    ap (λ (r : Bool). sum f r (m * up e * down d) q (n * up d * down e) c) v.0
    ∙ ap (λ (r : Bool). sum f s (m * up e * down d) r (n * up d * down e) c) w.0
    ∙ ap (λ (z : ℕ). sum f s z t (n * up d * down e) c) x
    ∙ ap (λ (z : ℕ). sum f s (a * c) t z c) y
    ∙ sum_scale f s t a b c (mul-pos (down_pos e) (down_pos d))

-- one half
abbrev pub one_half : Float
one_half = fin false 1 (negsuc 0)

unlike_plus : (s : Bool) → unlike s false ≡ s
unlike_plus true = refl
unlike_plus false = refl

pub mul_half : (f : Format) (x : Float) (s : Bool) (a : ℕ) → HasValue x s a 1 → mul f x one_half ≡ round f s a 2
unfolding mul
mul_half f nan s a v = absurd v
mul_half f (inf p) s a v = absurd v
mul_half f (fin p m e) s a v =
    ap (λ (r : Bool). round f r (m * up e * (1 * 1)) (down e * 2)) (unlike_plus p ∙ v.0)
    ∙ round_same f s (m * up e * (1 * 1)) (down e * 2) a 2 (mul-pos (down_pos e) (zero-lt-suc 1)) (zero-lt-suc 1)
    (ap (λ (z : ℕ). z * 2) v.1 ∙ mul_assoc a (down e) 2)
