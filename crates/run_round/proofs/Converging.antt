-- Demand 3 of the positions in memory. Before the first round of a phase the ring stands at the latest phase end, and the memory holds the position of each receiver that
-- is not out there, so it keeps demand 3 with each end as the latest end does. What it holds of all listeners it holds of the first ones.
use Rattle.std.specs.Prelude.{None, Some}
use mathlib.Core.Path.{◌≡◌, refl, ap, sym, ◌∙◌}
use mathlib.Core.Bool.{Bool, true, false, not, ◌&&◌, ◌||◌, true≢false}
use mathlib.Core.List.{List, [], ◌∷◌}
use Prim.Native.Nat.{ℕ, ◌+◌, ◌≤◌, ◌<◌}
use native.Mathlib.Omega.{arith}
use native.Mathlib.Nat.{zero-add}
use lib.Dec.{ltb, leb}
use lib.ListN.{length, get_or}
use lib.IntN.{ℤ, pos}
use borrow.Author.Tests.{ltb-true, lt-ltb}
use Rattle.terms.specs.Entry.{Entry}
use Rattle.terms.specs.declared.Family.{Family}
use Rattle.terms.specs.declared.Family.TheVariants.{TwoRounds, OneRound}
use Rattle.terms.specs.Sizes.{ends_with}
use Rattle.marks.specs.Marks.{bit_of}
use Rattle.marks.proofs.Marks.{bit_none}
use Rattle.convergence.specs.Phases.{lowest, highest, spread}
use Rattle.terms.specs.Counting.{Each}
use Rattle.convergence.specs.Demand3.{HeldBetween, Demand3, Halves}
use Rattle.head_spec.specs.declared.Head.{Head}
use Rattle.ring_spec.specs.Rounds.{Round, Ring, round_then, after_round, PhaseEnd, phase_end, receivers, is_receiver, is_out, as_end, with_end, ring_after, ends_after}
use Rattle.ring_spec.specs.Converges.{no_end, AnyTwo}
use Rattle.run_spec.specs.RunFile.{File, read_file, ring_from, ends_from}
use Rattle.run_spec.proofs.Reached.{taken}
use Rattle.run_spec.proofs.Demand3.{played_with, some_converge, played_converges}
use Rattle.run_listing.specs.Held.{end_in}
use Rattle.run_listing.proofs.Lowest.{found_held}
use Rattle.run_state.specs.Memory.{Memory}
use Rattle.run_state.specs.Heads.{HeadsOf}
use Rattle.run_round.specs.Converged.{ConvergedIn}

-- what lies between is a position
held_at : (low high : Entry) {u : ℤ} (x : Entry) → HeldBetween low high x → ((v : ℤ) → x ≡ Some v → u ≡ v) → x ≡ Some u
held_at low high None b same = absurd (none low high b)
  where
    none : (low high : Entry) → HeldBetween low high None → ⊥
    none None None b = b
    none None (Some h) b = b
    none (Some l) None b = b
    none (Some l) (Some h) b = b
held_at low high (Some v) b same = rw (same v refl)

-- neither missing nor struck
not_out : (r c : Bool) → (not r || c) ≡ false → (r ≡ true) × (c ≡ false)
not_out true true e = absurd (true≢false e)
not_out true false e = (refl, refl)
not_out false c e = absurd (true≢false e)

-- whoever is there with m listeners is there with more
pub more_receive : (n m M i : ℕ) → m ≤ M → is_receiver n m i ≡ true → is_receiver n M i ≡ true
more_receive n m M i l = go (ltb i n) (leb 32 i) (ltb i (32 + m)) refl
  where
    go : (a b c : Bool) → ltb i (32 + m) ≡ c → (a || (b && c)) ≡ true → (a || (b && ltb i (32 + M))) ≡ true
    go true b c q e = refl
    go false true true q e = lt-ltb i (32 + M) (omega (arith, ltb-true i (32 + m) q))
    go false true false q e = absurd (true≢false (sym e))
    go false false c q e = absurd (true≢false (sym e))

-- what the memory holds of all listeners it holds of the first k
fewer_listeners : {n m k : ℕ} {A : Entry} {R : Ring} {M : Memory} → k ≤ m → HeadsOf n m A R M → HeadsOf n k A R M
fewer_listeners {n} {m} {k} l H =
    record { collection = H.collection; confession = H.confession; always = λ i h r. H.always i h (more_receive n k m i l r) }

-- what a phase end shows is the round's own
pub phase_end_as : (K : Family) (before struck : ℕ) (heads : ℕ → Head)
    → ((phase_end K before struck heads).heads ≡ heads) × ((phase_end K before struck heads).struck ≡ struck)
phase_end_as TwoRounds before struck heads = (refl, refl)
phase_end_as OneRound before struck heads = (refl, refl)

module _ (K : Family) (n m f : ℕ) (v : ℕ → ℤ) where
  -- before the first round of a phase the ring stands at the latest end
  record Stands (ws : List Round) : Type 0 where
    heads : (get_or (ends_after K n f v ws) 0 no_end).heads ≡ (ring_after K n f v ws).heads
    struck : (i : ℕ) → bit_of (get_or (ends_after K n f v ws) 0 no_end).struck i ≡ false → bit_of (ring_after K n f v ws).before i ≡ false

  latest : (ws : List Round) → (ring_after K n f v ws).round ≡ 0 → Stands ws
  unfolding ring_after ends_after after_round
  latest [] c = record { heads = refl; struck = λ i q. bit_none i }
  latest (w ∷ ws) c = let (h, s) = go (ends_with K (ring_after K n f v ws).round) c in record { heads = h; struck = s }
    where
      e : PhaseEnd
      e = phase_end K (ring_after K n f v ws).before w.struck (ring_after K n f v (w ∷ ws)).heads

      last : Bool → PhaseEnd
      last b = get_or (with_end b e (ends_after K n f v ws)) 0 no_end

      go : (b : Bool) → round_then b ≡ 0
          → ((last b).heads ≡ (ring_after K n f v (w ∷ ws)).heads) × ((i : ℕ) → bit_of (last b).struck i ≡ false → bit_of w.struck i ≡ false)
      go false c = absurd (omega arith)
      go true c =
          let (heads, struck) = phase_end_as K (ring_after K n f v ws).before w.struck (ring_after K n f v (w ∷ ws)).heads in
          (heads, λ i q. ap (λ (x : ℕ). bit_of x i) (sym struck) ∙ q)

  module _ (ws : List Round) {M : Memory} (A : AnyTwo K n m f (ends_after K n f v ws)) {B : Entry} (H : HeadsOf n m B (ring_after K n f v ws) M)
      (c : (ring_after K n f v ws).round ≡ 0) where
    abbrev e : PhaseEnd
    e = get_or (ends_after K n f v ws) 0 no_end

    -- whoever is not out at the latest end holds a position, and the memory holds it
    pub held_here : 0 < length (ends_after K n f v ws)
        → Each receivers (λ i. is_out n m e.struck i ≡ false → (e.heads i).seat.position ≡ Some (get_or M.positions i (pos 0)))
    held_here some i h o =
        let S = latest ws c in
        let (r, q) = not_out (is_receiver n m i) _ o in
        held_at (lowest receivers (as_end n m e)) (highest receivers (as_end n m e)) _ ((A 0 0 (omega arith)).range i h o)
        (λ u z. H.always i h r (S.struck i q) u (rw S.heads at z))

    -- any two ends of the ring keep demand 3, and the memory keeps step with it
    converged : (k : ℕ) → k < length (ends_after K n f v ws)
        → Demand3 receivers (Halves K n f) k (as_end n m (get_or (ends_after K n f v ws) k no_end)) (end_in n m e.struck M.positions)
    unfolding end_in spread
    converged k l =
        let D = rw zero-add at (A 0 k (rw zero-add l)) in
        let held = held_here (omega arith) in
        let same = found_held n m e.struck (λ i. (e.heads i).seat.position) M.positions (λ i h r q. held i h (rw (r, q) refl)) in
        record {
          range = λ i h o. rw (← held i h o) (D.range i h o);
          halving = λ h. rw (← same.is_low, ← same.is_high) (D.halving h);
        }

-- of the file read, when its rounds are played, with the pending one or without it
module _ (b : Bool) (a : List ℕ) where
  abbrev F : File
  F = read_file a

  pub held_converges : {A : Entry} {M : Memory} → (F.setup.begun ≡ true → HeadsOf F.setup.n F.setup.listeners A (ring_from F.setup (played_with b F)) M)
      → ConvergedIn F (played_with b F) M.positions
  held_converges K begun m l c =
      converged F.setup.family F.setup.n m F.setup.f F.setup.first (played_with b F) (some_converge F (taken a begun) b m l) (fewer_listeners l (K begun)) c

  -- x: the latest end
  pub held_at_end : {A : Entry} {M : Memory} → F.setup.begun ≡ true → HeadsOf F.setup.n F.setup.listeners A (ring_from F.setup (played_with b F)) M
      → (ring_from F.setup (played_with b F)).round ≡ 0 → (x : PhaseEnd) {es : List PhaseEnd} → ends_from F.setup (played_with b F) ≡ x ∷ es
      → Each receivers (λ i. is_out F.setup.n F.setup.listeners x.struck i ≡ false
      → (x.heads i).seat.position ≡ Some (get_or M.positions i (pos 0)))
  held_at_end begun K c x e =
      rw e at
      (held_here F.setup.family F.setup.n F.setup.listeners F.setup.f F.setup.first (played_with b F) (played_converges F (taken a begun) b) K c
      (omega (arith, ap length e)))
