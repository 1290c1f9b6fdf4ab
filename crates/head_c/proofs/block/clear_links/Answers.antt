-- The words that are filled are the 34 from word 58 on.
use Rattle.std.proofs.Common.{◌≡◌, refl, ◌∙◌, ap, ℕ, length, take, drop, replicate, arith}
use Rattle.std.proofs.lemmas.Slice.{put_mid-paste}
use lib.ListN.{length-drop}
use lib.Seq.{length-take-le}
use Rattle.head_c.specs.Blocks.{up_to}
use Rattle.head_c.proofs.Copying.{up_to_long}
use Rattle.head_c.proofs.block.clear_links.Goals as goal

zeros_lem : replicate {A = ℕ} 34 0 ≡ up_to 34 (λ (i : ℕ). 0)
unfolding up_to
zeros_lem = refl

pub returns : goal.returns
returns c =
    let w = c.args.h.now in
    let long : length (take 34 (drop 58 w)) ≡ 34 = length-take-le 34 (drop 58 w) (omega (arith, length-drop 58 w)) in
    put_mid-paste 58 34 w c.fill.new.self (up_to 34 (λ (i : ℕ). 0)) 34
    (c.fill.ensures.after (λ y e. e) ∙ ap (λ (n : ℕ). replicate {A = ℕ} n 0) long ∙ zeros_lem) refl
    (omega (arith, up_to_long {A = ℕ} 34 (λ i. 0)))
