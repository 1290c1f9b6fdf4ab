-- Hearing a batch frame by frame, as code does: what is heard and answered so far, and what remains.
use mathlib.Core.Path.{◌≡◌, refl, ap, sym, ◌∙◌}
use mathlib.Core.Bool.{true}
use mathlib.Core.List.{List, [], ◌∷◌, ◌++◌, append_assoc, append-nil}
use Prim.Native.Nat.{ℕ, ◌+◌, ◌-◌, ◌≤◌, ◌<◌}
use native.Mathlib.Omega.{arith}
use native.Mathlib.Numerals.{add-one}
use lib.ListN.{length, get_or, take, drop, set, length-take, length-drop, length-set, take-append-drop}
use lib.Seq.{take_all, drop-drop, drop-set-lt, take-suc-set}
use Rattle.head_spec.specs.declared.Head.{Head}
use Rattle.head_spec.specs.declared.Answer.{Answer}
use Rattle.head_spec.specs.Calls.{Delivery, hear, hear_each, answers_to}
use Rattle.head_spec.specs.Batch.{is_whole, entry_size, cut_into, deliveries_of, is_batch}
use Rattle.head_spec.proofs.Batches.{batch_whole, fits_here, cut_here, told_here, answers_count}

-- the record h hears the batch s, with room a for the answers: i frames have made of it T, and of the buffer b, and the bytes t remain
pub record Hearing (h : Head) (s a : List ℕ) (T : Head) (b t : List ℕ) (i : ℕ) : Type 0 where
  pub told : is_batch t ≡ true
  pub room : i + length (deliveries_of t) ≤ length a
  pub long : length b ≡ length a
  pub head : hear_each T (deliveries_of t) ≡ hear_each h (deliveries_of s)
  pub answers : take i b ++ answers_to T (deliveries_of t) ≡ answers_to h (deliveries_of s)
  pub behind : drop i b ≡ drop i a

pub begins : {h : Head} {s a : List ℕ} → is_batch s ≡ true → length (deliveries_of s) ≤ length a → Hearing h s a h a s 0
begins t l = record { told = t; room = omega arith; long = refl; head = refl; answers = refl; behind = refl }

-- all bytes are heard
pub ends : {h T : Head} {s a b t : List ℕ} {i : ℕ} → Hearing h s a T b t i → t ≡ []
    → (T ≡ hear_each h (deliveries_of s)) × (b ≡ answers_to h (deliveries_of s) ++ drop (length (deliveries_of s)) a)
unfolding cut_into hear_each answers_to
ends {h} {T} {s} {a} {b} {t} {i} G none =
    let front : take i b ≡ answers_to h (deliveries_of s) = sym (append-nil (take i b)) ∙ (rw none at G.answers) in
    let count : i ≡ length (deliveries_of s) = omega (arith, ap length front, length-take i b, answers_count (deliveries_of s) h, G.room, G.long) in
    (rw none at G.head, sym (take-append-drop i b) ∙ rw (front, G.behind, ← count))

-- one frame more, of n bytes with its link
module _ {h T : Head} {s a b t : List ℕ} {i n : ℕ} (G : Hearing h s a T b t i) (l : 0 < length t) (e : n ≡ entry_size t) where
  whole : is_whole t ≡ true
  whole = batch_whole t G.told l

  -- it is inside the batch, and there is room for its answer
  pub fits : (5 ≤ n) × (n ≤ length t) × (i < length b)
  fits =
      let (long, short) = fits_here t whole e in
      (long, short, omega (arith, ap length (cut_here t whole e), G.room, G.long))

  -- the frame, and what remains after it, as code cuts them from what is behind the link
  module _ {frame after : List ℕ} (f : frame ≡ take (n - 1) (take (length t - 1) (drop 1 t))) (r : after ≡ drop (n - 1) (take (length t - 1) (drop 1 t))) where
    behind_link : take (length t - 1) (drop 1 t) ≡ drop 1 t
    behind_link = take_all (length t - 1) (drop 1 t) (omega (arith, length-drop 1 t))

    frame_is : frame ≡ take (n - 1) (drop 1 t)
    frame_is = f ∙ ap (take (n - 1)) behind_link

    pub after_is : after ≡ drop n t
    after_is =
        let back : 1 + (n - 1) ≡ n = omega (arith, fits.0) in
        r ∙ ap (drop (n - 1)) behind_link ∙ drop-drop (n - 1) 1 t ∙ ap (λ (m : ℕ). drop m t) back

    pub cut : deliveries_of t ≡ record { link = get_or t 0 0; bytes = frame } ∷ deliveries_of after
    cut = rw (frame_is, after_is) (cut_here t whole e)

    -- x is what hearing it answers
    pub goes_on : {x : Answer} → x ≡ hear T (get_or t 0 0) frame → Hearing h s a x.head (set b i x.refusal) after (i + 1)
    unfolding hear_each answers_to
    goes_on {x} q =
        let (long, short, place) = fits in
        record {
          told = rw after_is (sym (told_here t whole e) ∙ G.told);
          room = omega (arith, ap length cut, G.room);
          long = length-set b i x.refusal ∙ G.long;
          head = rw q (sym (ap (hear_each T) cut) ∙ G.head);
          answers =
              rw (add-one i, take-suc-set b i x.refusal place, append_assoc, q) (ap (λ (D : List Delivery). take i b ++ answers_to T D) (sym cut) ∙ G.answers);
          behind = drop-set-lt (i + 1) b i x.refusal (omega arith) ∙ sym (drop-drop 1 i b) ∙ ap (drop 1) G.behind ∙ drop-drop 1 i a;
        }
