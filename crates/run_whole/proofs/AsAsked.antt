-- The request's sentence about a quiet phase (document 02, A11): in a ring of two rounds the word of a phase end is that of its confession round.
use Rattle.std.specs.Prelude.{None, Some}
use mathlib.Core.Path.{◌≡◌, refl, ap, sym, subst, ◌∙◌}
use mathlib.Core.Bool.{Bool, true, false, not, cond, ◌||◌}
use mathlib.Core.List.{List, [], ◌∷◌}
use Prim.Native.Nat.{ℕ, zero, suc, ◌+◌, ◌<◌}
use native.Mathlib.Omega.{arith}
use borrow.Author.Tests.{lt-ltb}
use lib.ListN.{length, get_or}
use lib.IntN.{ℤ, pos}
use Rattle.terms.specs.Sizes.{ends_with}
use Rattle.terms.specs.Entry.{Entry}
use Rattle.terms.specs.declared.Family.{Family}
use Rattle.terms.specs.declared.Family.TheVariants.{TwoRounds}
use Rattle.marks.specs.Marks.{bit_of}
use Rattle.ring_spec.specs.Rounds.{Round, PhaseEnd, phase_end, is_receiver, with_end, ring_after, ends_after}
use Rattle.ring_spec.specs.Converges.{no_end}
use Rattle.run_spec.specs.RunFile.{File, read_file, rounds_played, ends_played}
use Rattle.run_listing.specs.Held.{end_in}
use Rattle.run_whole.specs.Whole.{end_number}
use Rattle.run_whole.specs.Quiet.{QuietPhase}

-- each end but the start
abbrev ByConfession : List PhaseEnd → Type 0
ByConfession es = (i : ℕ) → i + 1 < length es → (get_or es i no_end).struck ≡ (get_or es i no_end).confess

by_confession : (n f : ℕ) (v : ℕ → ℤ) (ws : List Round) → ByConfession (ends_after TwoRounds n f v ws)
unfolding ends_after
by_confession n f v [] = λ i l. absurd (omega arith)
by_confession n f v (w ∷ ws) = go (by_confession n f v ws) (ends_with TwoRounds (ring_after TwoRounds n f v ws).round)
  where
    x : PhaseEnd
    x = phase_end TwoRounds (ring_after TwoRounds n f v ws).before w.struck (ring_after TwoRounds n f v (w ∷ ws)).heads

    es : List PhaseEnd
    es = ends_after TwoRounds n f v ws

    go : ByConfession es → (b : Bool) → ByConfession (with_end b x es)
    go ih false i l = ih i l
    go ih true zero l = refl
    go ih true (suc i) l = ih i (omega arith)

file_by_confession : (F : File) → F.setup.family ≡ TwoRounds → ByConfession (ends_played F)
unfolding ends_played
file_by_confession F two = go F.setup.begun
  where
    S : Family → List PhaseEnd
    S K = ends_after K F.setup.n F.setup.f F.setup.first (rounds_played F)

    go : (b : Bool) → ByConfession (cond b (S F.setup.family) [])
    go true = subst (λ (K : Family). ByConfession (S K)) (sym two) (by_confession F.setup.n F.setup.f F.setup.first (rounds_played F))
    go false = λ i l. absurd (omega arith)

-- there, and left by the marks
left_by : (there marked : Bool) → there ≡ true → marked ≡ false → (not there || marked) ≡ false
left_by true false t m = refl
left_by true true t m = m
left_by false marked t m = sym t

head_there : (n m i : ℕ) → i < n → is_receiver n m i ≡ true
head_there n m i l = rw (lt-ltb i n l)

abbrev number_in : Entry → ℤ
number_in None = pos 0
number_in (Some v) = v

pub quiet_phase : QuietPhase
unfolding end_in
quiet_phase s r B B' W two e l none i j a b =
    let F = read_file s in
    let n = F.setup.n in
    let m = F.setup.listeners in
    let x = end_number (ends_played F) (e + 1) in
    let word : get_or B'.words (e + 1) 0 ≡ x.confess = (W.rows (e + 1) l).marks ∙ file_by_confession F two _ (omega (arith, W.count)) in
    let left : (k : ℕ) → is_receiver n m k ≡ true → bit_of x.confess k ≡ false → (not (is_receiver n m k) || bit_of (get_or B'.words (e + 1) 0) k) ≡ false =
    λ k there q. left_by (is_receiver n m k) _ there (ap (λ (w : ℕ). bit_of w k) word ∙ q) in
    ap number_in
    (W.quiet e l (λ k h. left k (head_there n m k h) (none k h).1) i j a.below b.below (left i a.there a.confess) (left j b.there b.confess))
