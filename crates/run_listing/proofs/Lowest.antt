-- The lowest and the highest position, found one receiver at a time. One that is struck or not there leaves both as they are, and any other is compared
-- with each: which of two positions lies further out is one test, whose answer is turned for the lowest.
use Rattle.std.specs.Prelude.{None, Some}
use mathlib.Core.Path.{◌≡◌, refl, ap, sym, ◌∙◌}
use mathlib.Core.Bool.{Bool, true, false, not, cond, ◌&&◌, ◌||◌, or-false, beq}
use mathlib.Core.List.{List}
use mathlib.Core.Logic.{◌⊎◌, inl, inr, ⊎_elim}
use Prim.Native.Nat.{ℕ, zero, suc, ◌+◌, ◌≤◌, ◌<◌}
use native.Mathlib.Omega.{arith}
use native.Mathlib.Decide.{dec_lt, le_ind}
use native.Mathlib.Numerals.{add-one}
use lib.Dec.{ltb, leb}
use lib.ListN.{get_or}
use lib.IntN.{ℤ, pos}
use lib.Signed.{le_z}
use borrow.Author.Tests.{le-ltb, le-leb, lt-leb}
use Rattle.terms.specs.Entry.{Entry}
use Rattle.marks.specs.Marks.{bit_of}
use Rattle.terms.specs.Counting.{Each}
use Rattle.convergence.specs.Phases.{End, join, sound_at, lowest, highest}
use Rattle.terms.proofs.Sums.{each_last, each_less}
use Rattle.ring_spec.specs.Rounds.{receivers, is_receiver, is_out}
use Rattle.run_listing.specs.Held.{end_in}
use Rattle.run_listing.specs.Heights.{outward, LowestHighest, first_sound}
use Rattle.run_listing.specs.Inner.{Reaches}

outward_is : (high : Bool) (v w : ℤ) → outward high v w ≡ cond (beq (le_z v w) high) w v
outward_is true v w = go (le_z v w)
  where
    go : (t : Bool) → cond t w v ≡ cond (beq t true) w v
    go true = refl
    go false = refl
outward_is false v w = go (le_z v w)
  where
    go : (t : Bool) → cond t v w ≡ cond (beq t false) w v
    go true = refl
    go false = refl

-- ---- without listeners the heads alone are receivers

pub no_listener : (n i : ℕ) → is_receiver n 0 i ≡ ltb i n
no_listener n i = ap (λ (b : Bool). ltb i n || b) (go (dec_lt i 32)) ∙ or-false (ltb i n)
  where
    go : Dec (i < 32) → (leb 32 i && ltb i 32) ≡ false
    go (yes l) = rw (lt-leb 32 i l)
    go (no l) = rw (le-ltb i 32 (omega arith), le-leb 32 i (omega arith))

-- ---- one receiver more

pub found_none : (e : End) → LowestHighest 0 e None None
unfolding lowest highest
found_none e = record { is_low = refl; is_high = refl }

found_out : {e : End} {low high : Entry} (j : ℕ) → e.struck j ≡ true → LowestHighest j e low high → LowestHighest (suc j) e low high
unfolding lowest highest
found_out j o f = record { is_low = rw o f.is_low; is_high = rw o f.is_high }

-- from k on none is sound
pub found_past : {e : End} {low high : Entry} (k N : ℕ) → k ≤ N → Each N (λ i. k ≤ i → e.struck i ≡ true) → LowestHighest k e low high → LowestHighest N e low high
found_past {e} {low} {high} k N l h f =
    le_ind (λ j. j ≤ N → LowestHighest j e low high) (λ i. f) (λ j i more less. found_out j (h j less i) (more (omega arith))) N l (omega arith)

module _ (n m struck : ℕ) (ps : List ℤ) {j : ℕ} {low high : Entry} (f : LowestHighest j (end_in n m struck ps) low high) where
  pub found_struck : is_out n m struck j ≡ true → LowestHighest (j + 1) (end_in n m struck ps) low high
  unfolding end_in
  found_struck o = rw (add-one j) (found_out j o f)

  pub found_sound : {v : ℤ} {x y : Entry} → is_out n m struck j ≡ false → v ≡ get_or ps j (pos 0)
      → x ≡ join (outward false) (Some v) low → y ≡ join (outward true) (Some v) high → LowestHighest (j + 1) (end_in n m struck ps) x y
  unfolding lowest highest end_in
  found_sound o e p q = rw (add-one j) record { is_low = p ∙ rw (o, e, f.is_low); is_high = q ∙ rw (o, e, f.is_high) }

  -- from k on there is no receiver
  pub found_all : Reaches n m j → LowestHighest receivers (end_in n m struck ps) low high
  unfolding end_in
  found_all R = found_past j receivers R.most (λ i l h. rw (R.none i l h)) f

-- ---- the first that is sound

first_none : (e : End) → first_sound 0 e ≡ None
unfolding first_sound
first_none e = refl

first_stays : (e : End) (k : ℕ) {u : ℤ} → first_sound k e ≡ Some u → first_sound (suc k) e ≡ Some u
unfolding first_sound
first_stays e k h = rw h refl

module _ (n m struck : ℕ) (ps : List ℤ) (j : ℕ) (none : first_sound j (end_in n m struck ps) ≡ None) where
  first_struck : is_out n m struck j ≡ true → first_sound (j + 1) (end_in n m struck ps) ≡ None
  unfolding first_sound end_in
  first_struck o = rw (add-one j, none, o) refl

  first_here : {v : ℤ} → is_out n m struck j ≡ false → v ≡ get_or ps j (pos 0) → first_sound (j + 1) (end_in n m struck ps) ≡ Some v
  unfolding first_sound end_in
  first_here o e = rw (add-one j, none, o, e) refl

  pub first_sound_lem : {v : ℤ} → j < receivers → is_out n m struck j ≡ false → v ≡ get_or ps j (pos 0) → Some v ≡ first_sound receivers (end_in n m struck ps)
  first_sound_lem {v} l o e =
      sym
      (le_ind (λ k. first_sound k (end_in n m struck ps) ≡ Some v) (rw (add-one j) at (first_here o e)) (λ k i h. first_stays _ k h) receivers (omega arith))

-- none of the first k is sound
pub first_of_none : (n m struck : ℕ) (ps : List ℤ) (k : ℕ) → Each k (λ i. is_out n m struck i ≡ true) → first_sound k (end_in n m struck ps) ≡ None
first_of_none n m struck ps zero h = first_none _
first_of_none n m struck ps (suc k) h = rw (add-one k) at (first_struck n m struck ps k (first_of_none n m struck ps k (each_less h)) (each_last h))

-- ---- where all places hold one position

either_same : (b : Bool) (u : ℤ) → cond b u u ≡ u
either_same true u = refl
either_same false u = refl

outward_same : (high : Bool) (u : ℤ) → outward high u u ≡ u
outward_same high u = outward_is high u u ∙ either_same (beq (le_z u u) high) u

module _ (n m struck : ℕ) (ps : List ℤ) {u : ℤ} (h : Each receivers (λ i. get_or ps i (pos 0) ≡ u)) where
  one_more_level : (k : ℕ) → k < receivers → LowestHighest k (end_in n m struck ps) (Some u) (Some u) → LowestHighest (suc k) (end_in n m struck ps) (Some u) (Some u)
  one_more_level k l f = go (is_out n m struck k) refl
    where
      go : (b : Bool) → is_out n m struck k ≡ b → LowestHighest (suc k) (end_in n m struck ps) (Some u) (Some u)
      go true o = rw (add-one k) at (found_struck n m struck ps f o)
      go false o =
          rw (add-one k) at
          (found_sound n m struck ps f {v = u} {x = Some u} {y = Some u} o (sym (h k l)) (ap Some (sym (outward_same false u))) (ap Some (sym (outward_same true u))))

  abbrev One : ℕ → Entry → Type 0
  One k x = LowestHighest k (end_in n m struck ps) x x × (first_sound k (end_in n m struck ps) ≡ x)

  -- the first that is sound, if one is, says it of all
  pub found_first : {x : Entry} → x ≡ first_sound receivers (end_in n m struck ps) → LowestHighest receivers (end_in n m struck ps) x x
  found_first {x} e = rw e (⊎_elim (λ w. rw w.1 w.0) (λ w. rw w.1 w.0) (go receivers (omega arith)))
    where
      go : (k : ℕ) → k ≤ receivers → One k None ⊎ One k (Some u)
      go zero l = inl (found_none _, first_none _)
      go (suc k) l = ⊎_elim (λ w. none w.0 w.1 (is_out n m struck k) refl) (λ w. inr (one_more_level k (omega arith) w.0, first_stays _ k w.1)) (go k (omega arith))
        where
          none : LowestHighest k (end_in n m struck ps) None None → first_sound k (end_in n m struck ps) ≡ None → (b : Bool) → is_out n m struck k ≡ b
              → One (suc k) None ⊎ One (suc k) (Some u)
          none f z true o = inl (rw (add-one k) at (found_struck n m struck ps f o), rw (add-one k) at (first_struck n m struck ps k z o))
          none f z false o =
              inr (
                rw (add-one k) at (found_sound n m struck ps f {v = u} {x = Some u} {y = Some u} o (sym (h k (omega arith))) refl refl),
                rw (add-one k) at (first_here n m struck ps k z o (sym (h k (omega arith)))),
              )

-- ---- of two phase ends that say the same of each receiver

pub found_same : (e e' : End) (n : ℕ) → Each n (λ j. sound_at e j ≡ sound_at e' j) → LowestHighest n e' (lowest n e) (highest n e)
unfolding lowest highest
found_same e e' zero h = record { is_low = refl; is_high = refl }
found_same e e' (suc n) h =
    let f = found_same e e' n (each_less h) in
    record { is_low = cc (each_last h); is_high = cc (each_last h) }

-- b: the receiver is there; c: it is struck
sound_same : (b c : Bool) {o : Bool} {x y : Entry} → (not b || c) ≡ o → (b ≡ true → c ≡ false → x ≡ y) → cond (not b || c) None x ≡ cond o None y
sound_same true true e h = rw (← e) refl
sound_same true false e h = rw (← e) (h refl refl)
sound_same false c e h = rw (← e) refl

module _ (n m struck : ℕ) (at : ℕ → Entry) (positions : List ℤ)
    (h : Each receivers (λ i. is_receiver n m i ≡ true → bit_of struck i ≡ false → at i ≡ Some (get_or positions i (pos 0)))) where
  abbrev whole : End
  whole = record { struck = is_out n m struck; at = at }

  -- an array that holds the positions of those that are not struck, with marks that leave the same out
  pub found_held_as : (marks k : ℕ) → Each receivers (λ i. is_out n m struck i ≡ is_out n k marks i)
      → LowestHighest receivers (end_in n k marks positions) (lowest receivers whole) (highest receivers whole)
  unfolding end_in
  found_held_as marks k same =
      found_same whole (end_in n k marks positions) receivers (λ i l. sound_same (is_receiver n m i) (bit_of struck i) (same i l) (h i l))

  pub found_held : LowestHighest receivers (end_in n m struck positions) (lowest receivers whole) (highest receivers whole)
  found_held = found_held_as struck m (λ i l. refl)
