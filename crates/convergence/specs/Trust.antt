-- Document 01, "Confession round", from what the links gave to the trusted entries (document 004's vector V).
use Rattle.std.specs.Prelude.{Bool, true, false, ℕ, zero, suc, ◌-◌, ◌≤◌, ◌≡◌, leb, ℤ, None, Some}
use Rattle.terms.specs.Positions.{eq_z}
use Rattle.terms.specs.Entry.{Entry}
use Rattle.terms.specs.Counting.{sum, bit}

-- what a link gave: nothing, a confession (document 004's empty set), or a list (its vector E)
pub data Given : Type 0 where
  nothing : Given
  confessed : Given
  gave : (ℕ → Entry) → Given

-- 1 if an entry is the position u (P21)
abbrev pub is : ℤ → Entry → ℕ
is u None = 0
is u (Some w) = bit (eq_z u w)

-- 1 if a link supports the position u for head j (P25)
abbrev pub supports : ℕ → ℤ → Given → ℕ
supports j u nothing = 0
supports j u confessed = 1
supports j u (gave l) = is u (l j)

-- the support of u for head j among n links (P24)
unfoldable pub support : (n : ℕ) (G : ℕ → Given) (j : ℕ) (u : ℤ) → ℕ
support n G j u = sum n (λ k. supports j u (G k))

-- a link that gave nothing has not confessed (P22)
abbrev pub has_confessed : Given → Bool
has_confessed nothing = false
has_confessed confessed = true
has_confessed (gave l) = false

-- "exactly one position has support n - f or more": u is that one (P28)
pub record Only (n f : ℕ) (G : ℕ → Given) (j : ℕ) (u : ℤ) : Type 0 where
  pub reaches : n - f ≤ support n G j u
  pub alone : (w : ℤ) → n - f ≤ support n G j w → w ≡ u

-- ---- to find it: if fewer than n - f links confessed, a position with the support is in a list

unfoldable pub confessions : ℕ → (ℕ → Given) → ℕ
confessions n G = sum n (λ k. bit (has_confessed (G k)))

-- what a link's list says of head j
abbrev pub says_of : ℕ → Given → Entry
says_of j nothing = None
says_of j confessed = None
says_of j (gave l) = l j

-- the positions seen that pass a test: none, one, or more
pub data Seen : Type 0 where
  none : Seen
  one : ℤ → Seen
  many : Seen

abbrev pub pick : Bool → Seen → Seen → Seen
pick true a b = a
pick false a b = b

abbrev pub see : ℤ → Seen → Seen
see u none = one u
see u (one w) = pick (eq_z w u) (one w) many
see u many = many

abbrev pub see_entry : (ℤ → Bool) → Entry → Seen → Seen
see_entry ok None s = s
see_entry ok (Some u) s = pick (ok u) (see u s) s

unfoldable pub seen : (ℤ → Bool) → ℕ → (ℕ → Entry) → Seen
seen ok zero E = none
seen ok (suc n) E = see_entry ok (E n) (seen ok n E)

-- link j has confessed; every position has the support; the positions seen that have it (P28)
abbrev pub choose : Bool → Bool → Seen → Entry
choose true b s = None
choose false true s = None
choose false false none = None
choose false false (one u) = Some u
choose false false many = None

-- Trusted entry j: u, if u alone has support n - f or more and link j has not confessed, and else null (`trusted_iff`, in
-- proofs/Support.antt). With n - f confessions or more every position has the support, so none has it alone (P23, D9).
unfoldable pub trusted : (n f : ℕ) (G : ℕ → Given) (j : ℕ) → Entry
trusted n f G j =
    choose (has_confessed (G j)) (leb (n - f) (confessions n G))
    (seen (λ u. leb (n - f) (support n G j u)) n (λ k. says_of j (G k)))
