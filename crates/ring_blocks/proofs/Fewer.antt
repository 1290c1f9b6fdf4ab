-- A ring with m listeners that is within its limits is so with the first k of them.
use mathlib.Core.Path.{◌≡◌, refl, sym}
use mathlib.Core.Bool.{Bool, true, false, ◌&&◌, ◌||◌, true≢false}
use mathlib.Core.List.{List, [], ◌∷◌}
use Prim.Native.Nat.{ℕ, ◌+◌, ◌≤◌}
use native.Mathlib.Omega.{arith}
use borrow.Author.Tests.{ltb-true, lt-ltb}
use lib.Dec.{ltb, leb}
use lib.IntN.{ℤ}
use Rattle.terms.specs.declared.Family.{Family}
use Rattle.ring_spec.specs.Rounds.{is_receiver}
use Rattle.ring_blocks.specs.Blocks.{BlockRound, BlockRing, RoundWithin, EachWithin, FewerListeners}

receives_more : (n m k i : ℕ) → k ≤ m → is_receiver n k i ≡ true → is_receiver n m i ≡ true
receives_more n m k i more = go (ltb i n) (leb 32 i) (ltb i (32 + k)) refl
  where
    go : (a b c : Bool) → ltb i (32 + k) ≡ c → (a || (b && c)) ≡ true → (a || (b && ltb i (32 + m))) ≡ true
    go true b c p e = refl
    go false true true p e = let l = ltb-true i (32 + k) p in lt-ltb i (32 + m) (omega arith)
    go false true false p e = absurd (true≢false (sym e))
    go false false c p e = absurd (true≢false (sym e))

module _ (K : Family) (n m k f : ℕ) (more : k ≤ m) where
  round_fewer : (R : BlockRing) (w : BlockRound) → RoundWithin K n f R w m → RoundWithin K n f R w k
  round_fewer R w W =
      record {
        few = W.few;
        carries = λ i j t. W.carries i j (receives_more n m k i more t);
        ends = λ i t. W.ends i (receives_more n m k i more t);
        left = W.left;
      }

  each_fewer : (v : ℕ → ℤ) (memory : ℕ → List ℕ) (ws : List BlockRound) → EachWithin K n f v memory m ws → EachWithin K n f v memory k ws
  each_fewer v memory [] W = W
  each_fewer v memory (w ∷ ws) W = (round_fewer _ w W.0, each_fewer v memory ws W.1)

pub fewer_listeners : FewerListeners
fewer_listeners K n m k f v memory ws more X =
    record {
      most = X.most;
      listeners = omega (arith, X.listeners);
      size = X.size;
      range = X.range;
      blocks = X.blocks;
      each = each_fewer K n m k f more v memory ws X.each;
      rounds = X.rounds;
    }
