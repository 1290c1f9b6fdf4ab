-- Demand 3, for a ring played on what its links carry. In the field's terms: approximate consensus. `range` is validity, `halving` is
-- convergence. `Phases` says what a phase end is, who is struck, what the struck heads may send, and what the lowest, the highest and the
-- spread are. proofs/Demand3.antt proves `Converges`, proofs/Quiet.antt `QuietAgrees`.
use Rattle.std.specs.Prelude.{false, ◌≡◌, ℕ, suc, ◌+◌, ◌-◌, ◌*◌, ◌/◌, ◌^◌, ◌≤◌, ℤ, ◌≤ℤ◌, None, Some}
use Rattle.terms.specs.Entry.{Entry}
use Rattle.terms.specs.declared.Family.{Family}
use Rattle.terms.specs.declared.Family.TheVariants.{TwoRounds, OneRound}
use Rattle.terms.specs.Counting.{Each, AtMost}
use Rattle.convergence.specs.Phases.{End, Faults, end_after, lowest, highest, spread}

-- s divided by 2 to the power k, rounded up (P71)
unfoldable pub halved : ℕ → ℕ → ℕ
halved k s = (s + 2 ^ k - 1) / 2 ^ k

-- a receiver holds a position, and it lies between the lowest and the highest (P73)
abbrev pub HeldBetween : (low high held : Entry) → Type 0
HeldBetween (Some low) (Some high) (Some u) = (low ≤ℤ u) × (u ≤ℤ high)
HeldBetween low high None = ⊥
HeldBetween None high (Some u) = ⊥
HeldBetween (Some low) None (Some u) = ⊥

-- a kept range, from its lowest entry to its highest, lies between the lowest and the highest (document 02, A2)
abbrev pub KeptBetween : (low high : Entry) (a b : ℤ) → Type 0
KeptBetween (Some low) (Some high) a b = (low ≤ℤ a) × (a ≤ℤ b) × (b ≤ℤ high)
KeptBetween None high a b = ⊥
KeptBetween (Some low) None a b = ⊥

-- the sizes that are accepted: 2n at least 7f + 2, or in a ring of one round n at least 4f + 1
abbrev pub AcceptedSize : Family → ℕ → ℕ → Type 0
AcceptedSize TwoRounds n f = 7 * f + 2 ≤ 2 * n
AcceptedSize OneRound n f = 4 * f + 1 ≤ n

-- the sizes at which halving is promised: 3n at least 11f + 3, or in a ring of one round every size that is accepted (P70, Q86)
abbrev pub Halves : Family → ℕ → ℕ → Type 0
Halves TwoRounds n f = 11 * f + 3 ≤ 3 * n
Halves OneRound n f = Unit {0}

-- Two phase ends of receivers 0 .. N - 1, e the earlier and e' the later, k phases apart. halves is a statement, the premise of `halving`:
-- that halving is promised at this size (`Halves`).
pub record Demand3 (N : ℕ) (halves : Type 0) (k : ℕ) (e e' : End) : Type 0 where
  pub range : Each N (λ i. e'.struck i ≡ false → HeldBetween (lowest N e) (highest N e) (e'.at i))
  pub halving : halves → spread N e' ≤ halved k (spread N e)

-- no round strikes more than f heads (P67)
abbrev pub FewStruck : ℕ → ℕ → (ℕ → Faults) → Type 0
FewStruck n f F = (p : ℕ) → AtMost f n (F p).struck_in_collection × AtMost f n (F p).struck_in_confession

-- Receivers 0 .. N - 1, of which the first n send. At every accepted size, whatever the first positions, whichever heads each round
-- strikes, at most f of them, and whatever these send to each receiver: any two phase ends, the start among them. A receiver from n on is a
-- listener. A listener that is struck, or does not exist, is marked in `struck_in_confession`; listeners do not count in f.
abbrev pub Converges : Type 0
Converges =
    (K : Family) (n f N : ℕ) → n ≤ N → AcceptedSize K n f → (v : ℕ → ℤ) (F : ℕ → Faults) → FewStruck n f F
    → (p k : ℕ) → Demand3 N (Halves K n f) k (end_after K n f v F p) (end_after K n f v F (p + k))

-- ---- a quiet phase (document 02, A11)

-- If no head is struck in the last round of a phase, all receivers, listeners too, come to one position. That each sound one holds a
-- position is in demand 3 (Q92).
abbrev pub QuietAgrees : Type 0
QuietAgrees =
    (K : Family) (n f : ℕ) (v : ℕ → ℤ) (F : ℕ → Faults) (p : ℕ) → Each n (λ j. (F (suc p)).struck_in_confession j ≡ false)
    → (i j : ℕ) → (end_after K n f v F (suc p)).at i ≡ (end_after K n f v F (suc p)).at j
