-- The code that most lists have (Boyer and Moore's majority vote). A list with the leading code raises the lead by one, any other lowers it, and if the lead is 0 the next code
-- leads. Each list that lowers the lead is paired with one that raised it, of which at most one has the code w; so a code w that does not lead stands in at most half of
-- the lists without the lead.
use Rattle.std.proofs.Common.{◌≡◌, ℕ, ◌+◌, ◌-◌, ◌*◌, ◌<◌, ◌≤◌, Bool, cond, eqb, ◌≢◌, ℤ, sym, ap, ◌∙◌, arith, eq-eqb, ne_eqb}
use native.Mathlib.Decide.{ℕ_discrete}
use lib.IntN.{ℤ_discrete}
use Rattle.terms.specs.Positions.{eq_z}
use Rattle.terms.specs.Counting.{bit}
use Rattle.ring_play.specs.Inner.Votes.{Voted, CodeLeads}
use Rattle.ring_play.proofs.codes.Codes.{eq_z_yes, eq_z_no}

pub leads_none : (count : ℤ → ℕ) → ((w : ℤ) → count w ≡ 0) → (c : ℤ) → CodeLeads count 0 c 0
leads_none count z c = record { others = λ w d. omega (arith, z w); leader = omega (arith, z c); within = omega arith }

pub leads_same : {count more : ℤ → ℕ} {L : ℕ} {c : ℤ} {l : ℕ} → ((w : ℤ) → more w ≡ count w) → CodeLeads count L c l → CodeLeads more L c l
leads_same {c} e h = record { others = λ w d. omega (arith, e w, h.others w d); leader = omega (arith, e c, h.leader); within = h.within }

-- a list more, with the code x
module _ (count more : ℤ → ℕ) (x : ℤ) (next : (w : ℤ) → more w ≡ count w + bit (eq_z x w)) where
  more_same : (w : ℤ) → x ≡ w → more w ≡ count w + 1
  more_same w e = next w ∙ ap (λ (b : Bool). count w + bit b) (eq_z_yes e)

  more_other : (w : ℤ) → x ≢ w → more w ≡ count w
  more_other w d = omega (arith, next w, ap bit (eq_z_no d))

  module _ {c : ℤ} {l L : ℕ} (h : CodeLeads count L c l) where
    -- any code, if none leads
    half : l ≡ 0 → (w : ℤ) → 2 * count w ≤ L
    half z w = go (ℤ_discrete w c)
      where
        go : Dec (w ≡ c) → 2 * count w ≤ L
        go (yes e) = rw e (omega (arith, h.leader))
        go (no d) = omega (arith, h.others w d)

    started : l ≡ 0 → CodeLeads more (L + 1) x 1
    started z =
        record {
          others = λ w d. omega (arith, more_other w (λ e. d (sym e)), half z w);
          leader = omega (arith, more_same x refl_x, half z x);
          within = omega arith;
        }
      where
        refl_x : x ≡ x
        refl_x = cc

    raised : x ≡ c → CodeLeads more (L + 1) c (l + 1)
    raised e =
        record {
          others = λ w d. omega (arith, more_other w (λ q. d (sym q ∙ e)), h.others w d);
          leader = omega (arith, more_same c e, h.leader);
          within = omega (arith, h.within);
        }

    lowered : x ≢ c → l ≢ 0 → CodeLeads more (L + 1) c (l - 1)
    lowered d z =
        record {
          others = λ w q. go w q (ℤ_discrete x w);
          leader = omega (arith, more_other c d, h.leader);
          within = omega (arith, h.within);
        }
      where
        go : (w : ℤ) → w ≢ c → Dec (x ≡ w) → 2 * more w + (l - 1) ≤ L + 1
        go w q (yes e) = omega (arith, more_same w e, h.others w q)
        go w q (no e) = omega (arith, more_other w e, h.others w q)

    pub vote_step : {c' : ℤ} {l' : ℕ} → Voted x c l c' l' → CodeLeads more (L + 1) c' l'
    vote_step {c'} {l'} v = go (ℕ_discrete l 0) (ℤ_discrete x c)
      where
        go : Dec (l ≡ 0) → Dec (x ≡ c) → CodeLeads more (L + 1) c' l'
        go (yes z) d = rw (v.code, v.lead, eq-eqb l 0 z) (started z)
        go (no z) (yes e) = rw (v.code, v.lead, ne_eqb l 0 z, eq_z_yes e) (raised e)
        go (no z) (no e) = rw (v.code, v.lead, ne_eqb l 0 z, eq_z_no e) (lowered e z)

-- a code that does not lead is too rare to have `most` lists
pub too_few : {count : ℤ → ℕ} {L : ℕ} {c : ℤ} {l most : ℕ} → CodeLeads count L c l → L < l + 2 * most → (w : ℤ) → w ≢ c → count w < most
too_few h m w d = omega (arith, h.others w d)

-- a vote as the code works it out, from the numbers as it reads them
pub voted : {x x' c c' v : ℤ} {l l' y : ℕ} → x ≡ x' → c ≡ c' → l ≡ l' → v ≡ cond (eqb l 0) x c → y ≡ cond (eqb l 0) 1 (cond (eq_z x c) (l + 1) (l - 1)) → Voted x' c' l' v y
voted p q r a b = rw (← p, ← q, ← r) record { code = a; lead = b }
