-- Step by step through a piece: after some bytes the state is that after them, with the text that they show, and the next step is one from there.
use mathlib.Core.Path.{◌≡◌, refl, ap, sym, subst, ◌∙◌}
use mathlib.Core.List.{List, [], ◌++◌, append-nil, append_assoc}
use Prim.Native.Nat.{ℕ, ◌+◌, ◌-◌, ◌≤◌, ◌<◌}
use native.Mathlib.Omega.{arith}
use native.Mathlib.Nat.{le_refl}
use lib.ListN.{length, take, drop, length-drop, length-append}
use lib.IntN.{ℤ}
use lib.Seq.{take-add, take_all, take-append-le, drop-drop, drop-append_seam}
use Rattle.ring_spec.specs.Rounds.{Ring, PhaseEnd}
use Rattle.run_spec.specs.RunFile.{File, read_file, accepted, ends_so_far}
use Rattle.run_spec.specs.Listing.{shown}
use Rattle.run_spec.proofs.Bytes.{more_accepted}
use Rattle.texts.specs.Texts.{bytes_of}
use Rattle.run_state.specs.declared.Player.{Player}
use Rattle.run_state.specs.Memory.{Memory, with_positions}
use Rattle.run_state.specs.Changes.{halted}
use Rattle.texts.proofs.Writing.{empty_text}
use Rattle.run_piece.specs.declared.FeedResult.{FeedResult}
use Rattle.run_piece.specs.Advances.{StateAt, Advances, end_here, Grown, none, one, AdvancesOnce}
use Rattle.run_piece.specs.Steps.{Quiet}
use Rattle.run_stream.specs.Inner.{Follows}
use Rattle.run_piece.proofs.Growing.{line_some}
use Rattle.run_piece.proofs.Feeding.{Idle, shows_there, used_as}

-- the bytes from `at` on, as the code has them
abbrev pub rest : ℕ → List ℕ → List ℕ
rest at bytes = take (length bytes - at) (drop at bytes)

rest_all : (at : ℕ) (bytes : List ℕ) → rest at bytes ≡ drop at bytes
rest_all at bytes = take_all (length bytes - at) (drop at bytes) (simp length-drop (le_refl _))

length_rest : (at : ℕ) (bytes : List ℕ) → length (rest at bytes) ≡ length bytes - at
length_rest at bytes = ap length (rest_all at bytes) ∙ length-drop at bytes

pub moved_within : (at used : ℕ) (bytes : List ℕ) → at ≤ length bytes → used ≤ length (rest at bytes) → at + used ≤ length bytes
moved_within at used bytes l within = let n = length_rest at bytes in omega arith

-- some more of them
pub moved : (at used : ℕ) (bytes : List ℕ) → at < length bytes → used ≤ length (rest at bytes) → (0 < length (rest at bytes) → 0 < used)
    → (at + used ≤ length bytes) × (0 < used)
moved at used bytes l within some =
    let n = length_rest at bytes in
    (omega arith, some (omega arith))

-- a record x of the bytes from `at` on, with what comes after it
pub record_there : (at : ℕ) (bytes x tail : List ℕ) → drop at bytes ≡ x ++ tail → length x ≡ 8 → at ≤ length bytes
    → (at + 8 ≤ length bytes) × (take 8 x ≡ take 8 (rest at bytes)) × (tail ≡ drop (at + 8) bytes)
record_there at bytes x tail e n l =
    let long = length-drop at bytes in
    let both = ap length e ∙ length-append x tail in (
      omega arith,
      rw (rest_all at bytes, e) (sym (take-append-le 8 x tail (omega arith))),
      sym (drop-append_seam x tail) ∙ ap (λ (k : ℕ). drop k (x ++ tail)) n ∙ ap (drop 8) (sym e) ∙ drop-drop 8 at bytes,
    )

pub joined : (a : List ℕ) (at used : ℕ) (bytes : List ℕ) → (a ++ take at bytes) ++ take used (rest at bytes) ≡ a ++ take (at + used) bytes
joined a at used bytes =
    append_assoc a (take at bytes) _ ∙ ap (λ (l : List ℕ). a ++ l) (rw (rest_all at bytes) (sym (take-add at used bytes)))

-- none of them, and then some
pub none_then : {a xs : List ℕ} {p q r : Player} {text carry carry' : List ℕ} {M M' M'' : Memory} {used : ℕ} (bytes : List ℕ) → used ≡ 0
    → AdvancesOnce a (take used bytes) p M q [] carry M' → (StateAt a q carry M' → AdvancesOnce a xs q M' r text carry' M'') → AdvancesOnce a xs p M r text carry' M''
none_then {a} {xs} {p} {q} {r} {used = used} bytes e f S =
    let nothing : a ++ take used bytes ≡ a = ap (λ (n : ℕ). a ++ take n bytes) e ∙ append-nil a in
    let (same, is) = f.advances.idle (ap (λ (x : List ℕ). accepted (read_file x)) nothing) in
    let s = S (rw nothing at f.advances.state) in
    record {
      advances =
          shows_there s.advances.state s.advances.shows
          (λ z. let (same', is') = s.advances.idle z in (same' ∙ same, is' ∙ ap (λ (x : Player). halted x r.have r.fault) is));
      grown = s.grown;
    }

-- after the bytes before `at`, which show a text: from p and its memory to q and its memory
pub record Reached (bytes : List ℕ) (p : Player) (carry₀ : List ℕ) (M₀ : Memory) (q : Player) (carry : List ℕ) (M : Memory) (at : ℕ) (text : List ℕ) : Type 0 where
  pub within : at ≤ length bytes
  pub advances : (a : List ℕ) → StateAt a p carry₀ M₀ → Advances a (take at bytes) p M₀ q text carry M

-- one piece after the other, if no record is accepted by the two none is by either
idle_both : (F G H : File) (p : Player) {q r : Player} {M M' M'' : Memory} → accepted F ≤ accepted G → accepted G ≤ accepted H → Idle F G p M q M'
    → Idle G H q M' r M'' → Idle F H p M r M''
idle_both F G H p {r} less more f g e =
    let (same, is) = f (omega arith) in
    let (same', is') = g (omega arith) in
    (same' ∙ same, is' ∙ ap (λ (x : Player). halted x r.have r.fault) is)

-- one piece after the other
pub then : {a b xs : List ℕ} {p q r : Player} {M M' M'' : Memory} {text text' carry carry' : List ℕ} → Advances a b p M q text carry M'
    → (StateAt (a ++ b) q carry M' → AdvancesOnce (a ++ b) xs q M' r text' carry' M'') → Advances a (b ++ xs) p M r (text ++ text') carry' M''
then {a} {b} {xs} {p} {text} {text'} f S =
    let g = (S f.state).advances in
    let is : (a ++ b) ++ xs ≡ a ++ (b ++ xs) = append_assoc a b xs in
    shows_there (rw (← is) g.state)
    (rw (← is) (g.shows ∙ ap (λ (l : List ℕ). l ++ text') f.shows ∙ append_assoc (shown (read_file a)) text text'))
    (rw (← is) (idle_both (read_file a) (read_file (a ++ b)) (read_file ((a ++ b) ++ xs)) p (more_accepted a b) (more_accepted (a ++ b) xs) f.idle g.idle))

module _ {bytes : List ℕ} {p : Player} {carry₀ : List ℕ} {M₀ : Memory} where
  pub at_first : Reached bytes p carry₀ M₀ p carry₀ M₀ 0 []
  at_first =
      record {
        within = omega arith;
        advances =
            λ a L. shows_there (rw (append-nil a) L) (rw (append-nil a) (sym (append-nil (shown (read_file a))))) (λ e. (refl, refl));
      }

  module _ {q : Player} {carry : List ℕ} {M : Memory} {at : ℕ} {text : List ℕ} (R : Reached bytes p carry₀ M₀ q carry M at text) where
    -- a step more
    pub one_more : {q' : Player} {text' carry' : List ℕ} {M' : Memory} (used : ℕ) → at + used ≤ length bytes
        → ((a : List ℕ) → StateAt a q carry M → AdvancesOnce a (take used (rest at bytes)) q M q' text' carry' M')
        → Reached bytes p carry₀ M₀ q' carry' M' (at + used) (text ++ text')
    one_more {text'} used within S =
        record {
          within = within;
          advances =
              λ a L.
              let before = R.advances a L in
              let f = (S (a ++ take at bytes) before.state).advances in
              let is = joined a at used bytes in
              shows_there (rw (← is) f.state)
              (rw (← is) (f.shows ∙ ap (λ (l : List ℕ). l ++ text') before.shows ∙ append_assoc (shown (read_file a)) text text'))
              (rw (← is)
              (idle_both (read_file a) (read_file (a ++ take at bytes)) (read_file ((a ++ take at bytes) ++ take used (rest at bytes))) p
              (more_accepted a (take at bytes)) (more_accepted (a ++ take at bytes) (take used (rest at bytes))) before.idle f.idle));
        }

    -- more of them, after which the memory is as it was
    pub more_then : {q' : Player} {text' : List ℕ} (used : ℕ) → at + used ≤ length bytes → Follows q (rest at bytes) M.positions text q' used text'
        → Reached bytes p carry₀ M₀ q' carry M (at + used) text'
    more_then {q'} {text'} used within S =
        record {
          within = within;
          advances = λ a L. subst (λ (x : List ℕ). Advances a x p M₀ q' text' carry M) (joined [] at used bytes) (S.after a (take at bytes) carry p M₀ M (R.advances a L));
        }

    pub text_as : {s : List ℕ} → s ≡ text → Reached bytes p carry₀ M₀ q carry M at s
    text_as e = rw e R

-- ---- records that change the player alone

module _ {p : Player} {bytes : List ℕ} {positions : List ℤ} {text : List ℕ} where
  pub follows_more : {q r : Player} {at : ℕ} {text' text'' new : List ℕ} (used : ℕ) → Follows p bytes positions text q at text'
      → ((a carry : List ℕ) (M : Memory) → StateAt a q carry (with_positions M positions)
      → AdvancesOnce a (take used (rest at bytes)) q (with_positions M positions) r new carry (with_positions M positions))
      → text'' ≡ text' ++ new → Follows p bytes positions text r (at + used) text''
  follows_more {r = r} {at} {text'} {new = new} used S T e =
      record {
        after =
            λ a b carry p₀ M₀ M f.
            let g = then (S.after a b carry p₀ M₀ M f) (λ L. T (a ++ (b ++ take at bytes)) carry M L) in
            rw e (subst (λ (x : List ℕ). Advances a x p₀ M₀ r (text' ++ new) carry (with_positions M positions)) (joined b at used bytes) g);
      }

-- ---- up to the first line

-- so far nothing is shown, and no phase end was played
pub record Still (bytes : List ℕ) (p : Player) (carry₀ : List ℕ) (M₀ : Memory) (q : Player) (carry : List ℕ) (M : Memory) (at : ℕ) : Type 0 where
  pub reached : Reached bytes p carry₀ M₀ q carry M at []
  pub still : (a : List ℕ) → StateAt a p carry₀ M₀ → ends_so_far (read_file (a ++ take at bytes)) ≡ ends_so_far (read_file a)

-- the same ends before
grown_from : {n m : ℕ} {es es' es'' : List PhaseEnd} {R : Ring} {text : List ℕ} → es' ≡ es → Grown n m es' es'' R text → Grown n m es es'' R text
grown_from e g = rw e at g

-- nothing shown, no end played
grown_nothing : {n m : ℕ} {es es' : List PhaseEnd} {R : Ring} {text : List ℕ} → text ≡ [] → Grown n m es es' R text → es' ≡ es
grown_nothing z (none e t) = e
grown_nothing {n} {m} {es} {R} z (one collect confess r e t) =
    absurd (omega (arith, line_some n m (length es) (end_here collect confess es R), ap length (sym t ∙ z)))

module _ {bytes : List ℕ} {p : Player} {carry₀ : List ℕ} {M₀ : Memory} where
  pub still_first : Still bytes p carry₀ M₀ p carry₀ M₀ 0
  still_first = record { reached = at_first; still = λ a L. rw (append-nil a) }

  module _ {q : Player} {carry : List ℕ} {M : Memory} {at : ℕ} (S : Still bytes p carry₀ M₀ q carry M at) where
    -- the step that shows a line, or one that does not
    pub last_step : {q' : Player} {text carry' : List ℕ} {M' : Memory} (used : ℕ) → at + used ≤ length bytes
        → ((a : List ℕ) → StateAt a q carry M → AdvancesOnce a (take used (rest at bytes)) q M q' text carry' M')
        → (a : List ℕ) → StateAt a p carry₀ M₀ → AdvancesOnce a (take (at + used) bytes) p M₀ q' text carry' M'
    last_step used within T a L =
        record {
          advances = (one_more S.reached used within T).advances a L;
          grown = rw (← joined a at used bytes) (grown_from (S.still a L) (T (a ++ take at bytes) (S.reached.advances a L).state).grown);
        }

    pub still_more : {q' : Player} {text carry' : List ℕ} {M' : Memory} (used : ℕ) → at + used ≤ length bytes → text ≡ []
        → ((a : List ℕ) → StateAt a q carry M → AdvancesOnce a (take used (rest at bytes)) q M q' text carry' M')
        → Still bytes p carry₀ M₀ q' carry' M' (at + used)
    still_more used within z T =
        record {
          reached = text_as (one_more S.reached used within T) (sym z);
          still = λ a L. grown_nothing z (last_step used within T a L).grown;
        }

    pub steps_here : (a : List ℕ) → StateAt a p carry₀ M₀ → AdvancesOnce a (take at bytes) p M₀ q [] carry M
    steps_here a L = record { advances = S.reached.advances a L; grown = none (S.still a L) refl }

    -- a piece that shows nothing
    pub at_last : {r : FeedResult} → Quiet q at r → (a : List ℕ) → StateAt a p carry₀ M₀
        → AdvancesOnce a (take r.used bytes) p M₀ r.player (bytes_of r.text) carry M
    at_last {r} Q a L =
        used_as bytes Q.used
        (rw (Q.player, empty_text r.text Q.none) (steps_here a L))
