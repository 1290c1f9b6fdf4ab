-- The vote among cells: each cell that is not 0 leads, joins the leader, or takes one from its lead. So any other than the leader is met by as many others, and
-- is at most half of the cells that are not 0.
use mathlib.Core.Path.{◌≡◌, sym, ◌∙◌}
use mathlib.Core.List.{List}
use mathlib.Core.Logic.{◌≢◌}
use Prim.Native.Nat.{ℕ, ◌+◌, ◌-◌, ◌*◌, ◌/◌, ◌≤◌, ◌<◌}
use native.Mathlib.Omega.{arith}
use native.Mathlib.Decide.{ℕ_discrete}
use lib.ListN.{get_or}
use Rattle.terms.specs.Counting.{sum}
use Rattle.settle_trust.specs.declared.Vote.{Vote}
use Rattle.settle_trust.specs.Cells.{equal_to, AgreedCell}
use Rattle.settle_trust.specs.Cells.AgreedCell.{no_such}
use Rattle.settle_trust.specs.Voting.{Leads}
use Rattle.settle_trust.proofs.Search.{cell_other, cell_more, agree_on}

pub none_leads : (cells : List ℕ) → Leads 0 cells (record { leader = 0; lead = 0; some = 0 })
unfolding sum
none_leads cells = record { any = λ y s. omega arith; other = λ y s d. omega arith }

-- ---- one cell more

module _ {x : ℕ} (cells : List ℕ) (k : ℕ) (e : x ≡ get_or cells k 0) (v : Vote) (L : Leads k cells v) where
  pub passes : x ≡ 0 → Leads (k + 1) cells v
  passes z = record { any = λ y s. omega (arith, still y s, L.any y s); other = λ y s d. omega (arith, still y s, L.other y s d) }
    where
      still : (y : ℕ) → y ≢ 0 → equal_to (k + 1) cells y ≡ equal_to k cells y
      still y s = cell_other cells k y (λ q. s (sym q ∙ sym e ∙ z))

  pub leads : v.lead ≡ 0 → Leads (k + 1) cells (record { leader = x; lead = 1; some = v.some + 1 })
  leads z = record {
    any = λ y s. omega (arith, cell_more cells k y, L.any y s);
    other = λ y s d. omega (arith, cell_other cells k y (λ q. d (sym q ∙ sym e)), L.any y s);
  }

  pub joins : x ≡ v.leader → Leads (k + 1) cells (record { leader = v.leader; lead = v.lead + 1; some = v.some + 1 })
  joins z = record {
    any = λ y s. omega (arith, cell_more cells k y, L.any y s);
    other = λ y s d. omega (arith, cell_other cells k y (λ q. d (sym q ∙ sym e ∙ z)), L.other y s d);
  }

  pub takes : x ≢ v.leader → v.lead ≢ 0 → Leads (k + 1) cells (record { leader = v.leader; lead = v.lead - 1; some = v.some + 1 })
  takes a z = record { any = λ y s. go y s (ℕ_discrete y v.leader); other = λ y s d. omega (arith, cell_more cells k y, L.other y s d) }
    where
      go : (y : ℕ) → y ≢ 0 → Dec (y ≡ v.leader) → 2 * equal_to (k + 1) cells y ≤ v.some + 1 + (v.lead - 1)
      go y s (yes q) = omega (arith, cell_other cells k y (λ p. a (e ∙ p ∙ q)), L.any y s)
      go y s (no d) = omega (arith, cell_more cells k y, L.other y s d)

-- ---- all cells

module _ (n need : ℕ) (cells : List ℕ) (v : Vote) (L : Leads n cells v) (half : v.some / 2 < need) where
  leader_alone : (y : ℕ) → y ≢ 0 → need ≤ equal_to n cells y → y ≡ v.leader
  leader_alone y s r = go (ℕ_discrete y v.leader)
    where
      go : Dec (y ≡ v.leader) → y ≡ v.leader
      go (yes q) = q
      go (no d) = absurd (omega (arith, L.other y s d))

  pub elected : need ≤ equal_to n cells v.leader → AgreedCell n need cells v.leader
  elected r = agree_on n need cells v.leader (λ s. r) leader_alone

  pub not_elected : equal_to n cells v.leader < need → AgreedCell n need cells 0
  not_elected few = no_such (λ x o. let r : need ≤ equal_to n cells v.leader = rw (leader_alone x o.some o.reaches) at o.reaches in omega arith)
