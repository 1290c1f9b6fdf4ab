-- A round played on the memory carries the bytes that the links of the ring carry: planted ones are the same, and an unstruck head writes the frame of
-- what it has to say. So each unstruck receiver, head or listener, hears the same.
use mathlib.Core.Path.{◌≡◌, refl, ap, sym, ◌∙◌}
use mathlib.Core.Bool.{Bool, true, false, cond}
use mathlib.Core.List.{List}
use mathlib.Core.Logic.{inl}
use Prim.Native.Nat.{ℕ, ◌-◌, ◌≤◌, ◌<◌}
use native.Mathlib.Omega.{arith}
use native.Mathlib.Decide.{dec_lt}
use borrow.Author.Tests.{lt-ltb, le-ltb}
use Rattle.terms.specs.declared.Family.{Family}
use Rattle.marks.specs.Marks.{bit_of}
use Rattle.frame_spec.specs.Said.{Meaning, said}
use Rattle.frame_spec.specs.Written.{frame_of}
use Rattle.head_spec.specs.declared.Head.{Head}
use Rattle.head_spec.specs.Calls.{spoken, frame_for}
use Rattle.ring_spec.specs.Rounds.{Round, planted, Ring, receivers, is_receiver, opened_at, carried}
use Rattle.ring_spec.proofs.OneRound.{RingReady, said_in, opened_ready}
use Rattle.ring_play.specs.declared.Stage.{Stage}
use Rattle.ring_play.specs.Memory.{heads, listeners, hears, is_away, settles, carries}

-- the stage s and the planted bytes stand for round w of the ring R
pub record StagePlays (n m f : ℕ) (R : Ring) (w : Round) (s : Stage) (plant : ℕ → ℕ → List ℕ) : Type 0 where
  pub count : s.n ≡ n
  pub limit : s.f ≡ f
  pub phase : s.phase ≡ R.phase
  pub listeners : s.listeners ≡ m
  pub few : m ≤ 16
  pub before : (k : ℕ) → k < 32 → bit_of s.before k ≡ bit_of R.before k
  pub struck : (k : ℕ) → k < 32 → bit_of s.struck k ≡ bit_of w.struck k
  pub away : (i : ℕ) → 32 ≤ i → i < receivers → bit_of s.away (i - 32) ≡ bit_of w.struck i
  pub plants : (k i : ℕ) → k < 32 → k < n → i < receivers → plant k i ≡ planted w.plants k i

module _ {K : Family} {n m f : ℕ} {R : Ring} {w : Round} {s : Stage} {plant : ℕ → ℕ → List ℕ} (P : StagePlays n m f R w s plant) (S : RingReady K n f R) where
  pub heads_are : heads s ≡ n
  heads_are = omega (arith, P.count, S.size.most)

  listeners_are : listeners s ≡ m
  listeners_are = omega (arith, P.listeners, P.few)

  pub hears_unstruck : (i : ℕ) → i < n → bit_of w.struck i ≡ false → hears s i ≡ true
  hears_unstruck i l q = rw (heads_are, lt-ltb i n l, P.struck i (omega (arith, S.size.most)), q)

  module _ (i : ℕ) (l : i < receivers) where
    away_same : is_away s i ≡ bit_of w.struck i
    away_same = go (dec_lt i 32)
      where
        go : Dec (i < 32) → is_away s i ≡ bit_of w.struck i
        go (yes h) = rw (lt-ltb i 32 h) (P.struck i h)
        go (no h) = rw (le-ltb i 32 (omega arith)) (P.away i (omega arith) l)

    pub settles_unstruck : is_receiver n m i ≡ true → bit_of w.struck i ≡ false → settles s i ≡ true
    settles_unstruck r q = rw (heads_are, listeners_are, r, away_same, q)

    -- x: what the record of head k has to say, if it is not struck
    module _ (k : ℕ) (b : k < n) (x : Meaning) (says : bit_of w.struck k ≡ false → spoken (opened_at K n f R w k) ≡ x) where
      small : k < 32
      small = omega (arith, S.size.most)

      carries_same : carries s plant i k x ≡ carried K n f R w i k
      unfolding carried
      carries_same = rw (P.struck k small, heads_are, P.phase) (go (bit_of w.struck k) refl)
        where
          h : Head
          h = opened_at K n f R w k

          go : (c : Bool) → bit_of w.struck k ≡ c → cond c (plant k i) (frame_of n k R.phase x) ≡ cond c (planted w.plants k i) (frame_for h)
          go true e = P.plants k i small b l
          go false e =
              let A = (opened_ready K n f R w S k (inl b) e).seat in
              ap (frame_of n k R.phase) (sym (says e)) ∙ rw (A.count, A.number, A.phase)

      pub said_same : {r : ℕ} → R.round ≡ r → said (heads s) s.phase r k (carries s plant i k x) ≡ said_in K n f R w i k
      said_same c = rw (carries_same, heads_are, P.phase, c)
