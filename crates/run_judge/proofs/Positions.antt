-- The positions of a start record: that the first n fit is a test of each, and the bytes after the first six read as the record's own, six places on.
use Rattle.std.proofs.Common.{◌≡◌, refl, ap, sym, ◌∙◌, List, [], ◌∷◌, map, ℕ, zero, suc, ◌*◌, add_assoc, zero-add, add-one}
use mathlib.Core.Bool.{and-true}
use Rattle.std.specs.List.{list_all, range_with_len}
use Rattle.std.proofs.lemmas.List.Folds.{list_all-append, list_all-map}
use Rattle.std.proofs.lemmas.List.FromFn.{map-range_with_len_more}
use lib.ListN.{drop}
use lib.Seq.{get_or-drop}
use Rattle.terms.specs.Positions.{is_position}
use Rattle.fields.specs.Bytes.{signed_at}
use Rattle.run_spec.specs.RunFile.{position_in, positions_fit}

-- the positions of the first n, one after the other
each_fits : (s : List ℕ) (n : ℕ) → list_all (λ b. b) (map (λ j. is_position (position_in s j)) (range_with_len 0 n)) ≡ positions_fit s n
unfolding positions_fit
each_fits s zero = refl
each_fits s (suc j) =
    let p = λ (i : ℕ). is_position (position_in s i) in
    ap (λ k. list_all (λ b. b) (map p (range_with_len 0 k))) (sym (add-one j))
    ∙ ap (list_all (λ b. b)) (map-range_with_len_more p 0 j j (zero-add j))
    ∙ list_all-append (λ b. b) (map p (range_with_len 0 j)) (p j ∷ [])
    ∙ rw (each_fits s j, and-true (p j))

pub all_fit : (s : List ℕ) (n : ℕ) → list_all (λ j. is_position (position_in s j)) (range_with_len 0 n) ≡ positions_fit s n
all_fit s n = sym (list_all-map (λ b. b) (λ j. is_position (position_in s j)) (range_with_len 0 n)) ∙ each_fits s n

pub position_dropped : (s : List ℕ) (j : ℕ) → signed_at (drop 6 s) (4 * j) ≡ position_in s j
position_dropped s j = simp (get_or-drop, add_assoc)
