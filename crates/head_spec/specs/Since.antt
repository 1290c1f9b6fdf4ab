-- How many phase ends a record counts (document 02, A10): those that it passed since it was started or restarted, up to 255, where the count
-- rests. "Only starting, restarting and ending a phase touch it." proofs/Since.antt proves it.
use Rattle.std.specs.Prelude.{◌≡◌, List, ℕ, suc, ◌+◌, min, ℤ, None, Some}
use Rattle.terms.specs.declared.Family.{Family}
use Rattle.settle_midpoint.specs.declared.Kept.{Kept}
use Rattle.head_spec.specs.declared.Head.{Head}
use Rattle.head_spec.specs.Kept.{Offer}
use Rattle.head_spec.specs.Seats.{most_counted}
use Rattle.head_spec.specs.Calls.{start_refusal, started, restart_refusal, restarted, start_listener_refusal, started_listener, restart_listener_refusal, hear, close, adopt}
use Rattle.head_spec.specs.Offers.{lapsed, offered}

-- Of any record: a frame and a closing, refused or not, leave the count, and so does an adoption that is refused. Writing changes no record.
pub record CountStays : Type 0 where
  pub heard : (h : Head) (k : ℕ) (s : List ℕ) → (hear h k s).head.seat.since ≡ h.seat.since
  pub closed : (h : Head) → (close h).head.seat.since ≡ h.seat.since
  pub refused : (h : Head) (o : Offer) (c : ℕ) → (adopt h o).refusal ≡ suc c → (adopt h o).head.seat.since ≡ h.seat.since

-- a record that calls can reach, its offer, and how many phase ends it passed since it was started or restarted: each adoption is one
pub data Counted : Head → Offer → ℕ → Type 0 where
  starts : (K : Family) (n f i : ℕ) (v : ℤ) → start_refusal K n f i v ≡ 0 → Counted (started K n f i v) None 0
  restarts : (K : Family) (n f i p r : ℕ) → restart_refusal K n f i p r ≡ 0 → Counted (restarted K n f i p r) None 0
  listens : (K : Family) (n f i : ℕ) → start_listener_refusal K n f i ≡ 0 → Counted (started_listener K n f i) None 0
  listens_again : (K : Family) (n f i p r : ℕ) → restart_listener_refusal K n f i p r ≡ 0 → Counted (restarted K n f i p r) None 0
  hears : {h : Head} {o : Offer} {c : ℕ} (k : ℕ) (s : List ℕ) → Counted h o c → Counted (hear h k s).head (lapsed (hear h k s).refusal o) c
  closes : {h : Head} {o : Offer} {c : ℕ} → Counted h o c → Counted (close h).head (offered (close h).closed o) c
  adopts : {h : Head} {k : Kept} {c : ℕ} → Counted h (Some k) c → (adopt h (Some k)).refusal ≡ 0
      → Counted (adopt h (Some k)).head None (c + 1)

-- its count is that number, up to 255 (Q89)
abbrev pub CountHolds : Type 0
CountHolds = (h : Head) (o : Offer) (c : ℕ) → Counted h o c → h.seat.since ≡ min most_counted c
