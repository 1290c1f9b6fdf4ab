-- More devices marked than f, of blocks: the blocks are the records of the devices, as in Converges.antt, and a block that ends a round by its calls has a
-- closing that is not refused (`ends_as`). So what ring_devices' Recovery.antt asks of devices is there (`served_same`, `later_same`).
use mathlib.Core.Path.{◌≡◌, refl, ap, sym, subst, ◌∙◌}
use mathlib.Core.Bool.{true}
use mathlib.Core.List.{List, [], ◌∷◌, ◌++◌}
use Prim.Native.Nat.{ℕ, suc, ◌+◌, ◌≤◌, ◌<◌}
use native.Mathlib.Omega.{arith}
use lib.ListN.{length, length-append}
use lib.IntN.{ℤ}
use Rattle.terms.specs.Positions.{is_position}
use Rattle.terms.specs.declared.Family.{Family}
use Rattle.marks.specs.Marks.{bit_of}
use Rattle.terms.specs.Counting.{Each, AtMost}
use Rattle.convergence.specs.Demand3.{AcceptedSize}
use Rattle.convergence.proofs.Demand3.{size_large}
use Rattle.head_spec.specs.declared.Head.{Head}
use Rattle.head_spec.proofs.Proper.{Sized}
use Rattle.head_c.specs.Blocks.{IsBlock}
use Rattle.ring_spec.specs.Rounds.{Ring, most_rounds, ends_phase}
use Rattle.ring_devices.specs.Devices.{DeviceRound, Carries, devices_after, ends_of_devices}
use Rattle.ring_devices.specs.Recovery as device
use Rattle.ring_devices.proofs.Devices.{SameEnds, Known}
use Rattle.ring_devices.proofs.Recovery.{served_known, later_known, since_same, devices_recover}
use Rattle.ring_blocks.specs.Blocks.{BlockRound, BlockRing, blocks_after, ends_of_blocks}
use Rattle.ring_blocks.specs.Recovery.{EachServed, LaterWithin, BlocksOverloaded, BlocksRecover}
use Rattle.ring_blocks.proofs.Converges.{as_device, as_devices, as_many, held, SameRing, carries_as, next_same, ends_as, opens_in, served, Along, same_here, same_start, ends_same}

module _ (K : Family) (n m f : ℕ) (v : ℕ → ℤ) (memory : ℕ → List ℕ) (most : n ≤ 32) (few-m : m ≤ 16) (size : AcceptedSize K n f)
    (range : Each n (λ i. is_position (v i) ≡ true)) (whole : (i : ℕ) → IsBlock (memory i)) where
  abbrev Z : Sized K n f
  Z = record { some = omega (arith, size_large K n f size); most = most; limit = size }

  abbrev B : List BlockRound → BlockRing
  B = blocks_after K n f v memory

  abbrev records : ℕ → Head
  records = held K n f v memory

  abbrev D : List BlockRound → List DeviceRound
  D = as_devices K n f v memory

  abbrev R : List BlockRound → Ring
  R ws = devices_after K n f v records (D ws)

  -- ---- rounds that mark any number

  pub served_same : (us : List BlockRound) → EachServed K n f v memory m us → length us ≤ most_rounds K
      → Along K n m f v memory us × device.RoundsServed K n f v records m (D us)
  unfolding blocks_after devices_after
  served_same [] W l =
      (same_start K n m f v memory (record { most = most; listeners = few-m; size = size; range = range; blocks = whole; each = tt; rounds = l }), tt)
  served_same (w ∷ us) W l =
      let (A, Y) = served_same us W.1 (omega arith) in
      let y = as_many K n f v memory us in
      let S = same_here K n m f v memory us A in
      let O = opens_in K n m f (B us) (R us) S most few-m (served_known K n m f v records most few-m Z range (D us) Y (omega arith)) w in (
        (next_same K n m f (B us) (R us) S w W.0 O, A),
        (carries_as K n m f (B us) (R us) S w W.0.carries, ends_as K n m f (B us) (R us) S w W.0 O, Y),
      )

  -- ---- and later ones

  module _ (w : BlockRound) (us : List BlockRound) (early : EachServed K n f v memory m (w ∷ us)) (short : length (w ∷ us) ≤ most_rounds K)
      (ends : ends_phase K (length (w ∷ us)) ≡ true) (few : AtMost f n (bit_of w.marks)) where
    both : (ws : List BlockRound) → D (ws ++ w ∷ us) ≡ D ws ++ D (w ∷ us)
    both [] = refl
    both (x ∷ ws) = ap (λ (xs : List DeviceRound). as_device x ∷ xs) (both ws)

    ends_device : ends_phase K (length (D (w ∷ us))) ≡ true
    ends_device = ap (ends_phase K) (as_many K n f v memory (w ∷ us)) ∙ ends

    later_same : (ws : List BlockRound) → LaterWithin K n f v memory m ws (w ∷ us) → length (ws ++ w ∷ us) ≤ most_rounds K
        → Along K n m f v memory (ws ++ w ∷ us) × device.LaterWithin K n f v records m (D ws) (D (w ∷ us))
    unfolding blocks_after devices_after
    later_same [] W l = ((served_same (w ∷ us) early short).0, tt)
    later_same (x ∷ ws) W l =
        let all = ws ++ w ∷ us in
        let (A, Y) = later_same ws W.1 (omega arith) in
        let S = same_here K n m f v memory all A in
        let y = as_many K n f v memory all in
        let z : length (D ws ++ D (w ∷ us)) ≡ length (D all) = sym (ap length (both ws)) in
        let known = subst (λ (xs : List DeviceRound). Known K n m f (devices_after K n f v records xs)) (sym (both ws))
        (later_known K n m f v records most few-m Z range (as_device w) (D us) (served_same (w ∷ us) early short).1 ends_device few (D ws) Y (omega arith)) in
        let O = opens_in K n m f (B all) (R all) S most few-m known x in (
          (next_same K n m f (B all) (R all) S x (served W.0) O, A),
          (
            W.0.few,
            subst (λ (xs : List DeviceRound). Carries K n f (devices_after K n f v records xs) (as_device x) m) (both ws)
                (carries_as K n m f (B all) (R all) S x W.0.carries),
            Y,
          ),
        )

-- ---- the theorem

pub blocks_recover : BlocksRecover
blocks_recover K n m f v memory ws w us X =
    since_same K n m f
    (ends_same K n m f v memory X.blocks (w ∷ us) early).many
    (subst (λ (xs : List DeviceRound). SameEnds n m (ends_of_blocks K n f v memory (ws ++ w ∷ us)) (ends_of_devices K n f v records xs))
    (both K n m f v memory X.most X.listeners X.size X.range X.blocks w us X.early short X.ends X.few ws)
    (ends_same K n m f v memory X.blocks (ws ++ w ∷ us) later.0))
    (devices_recover K n m f v records (D ws) (as_device w) (D us) within)
  where
    records : ℕ → Head
    records = held K n f v memory

    D : List BlockRound → List DeviceRound
    D = as_devices K n f v memory

    short : length (w ∷ us) ≤ most_rounds K
    short = omega (arith, X.rounds, length-append ws (w ∷ us))

    early : Along K n m f v memory (w ∷ us)
    early = (served_same K n m f v memory X.most X.listeners X.size X.range X.blocks (w ∷ us) X.early short).0

    later : Along K n m f v memory (ws ++ w ∷ us) × device.LaterWithin K n f v records m (D ws) (D (w ∷ us))
    later = later_same K n m f v memory X.most X.listeners X.size X.range X.blocks w us X.early short X.ends X.few ws X.later X.rounds

    many : length (D ws ++ D (w ∷ us)) ≡ length (ws ++ w ∷ us)
    many =
        sym (ap length (both K n m f v memory X.most X.listeners X.size X.range X.blocks w us X.early short X.ends X.few ws))
        ∙ as_many K n f v memory (ws ++ w ∷ us)

    within : device.DevicesOverloaded K n m f v records (D ws) (as_device w) (D us)
    within =
        record {
          most = X.most;
          listeners = X.listeners;
          size = X.size;
          range = X.range;
          early = (served_same K n m f v memory X.most X.listeners X.size X.range X.blocks (w ∷ us) X.early short).1;
          ends = ends_device K n m f v memory X.most X.listeners X.size X.range X.blocks w us X.early short X.ends X.few;
          few = X.few;
          later = later.1;
          rounds = omega (arith, X.rounds, many);
        }
