-- Demand 3 of what the player holds. When the rounds ws were played and the last of them ended a phase, or there was none, the positions in
-- memory are a phase end, and it keeps demand 3 with each phase end played, k phases before it, the start among them. Whoever is out at the
-- latest end is out in memory: at the start that is every listener. It speaks of the heads and the first m listeners: of the heads alone (m
-- = 0), as the customer's order asks, up to all listeners.
use Rattle.std.specs.Prelude.{true, List, ◌≡◌, ℕ, ◌≤◌, ◌<◌, length, get_or, ℤ}
use Rattle.terms.specs.declared.Family.{Family}
use Rattle.convergence.specs.Demand3.{Demand3, Halves}
use Rattle.ring_spec.specs.Rounds.{Round, receivers, as_end, ring_after, ends_after}
use Rattle.ring_spec.specs.Converges.{no_end}
use Rattle.run_spec.specs.RunFile.{File}
use Rattle.run_listing.specs.Held.{end_in}

-- after the rounds ws, of n heads and the first m listeners (D14)
abbrev pub Converged : (K : Family) (n m f : ℕ) (v : ℕ → ℤ) (ws : List Round) (positions : List ℤ) → Type 0
Converged K n m f v ws positions =
    let es = ends_after K n f v ws in
    (ring_after K n f v ws).round ≡ 0 → (k : ℕ) → k < length es
    → Demand3 receivers (Halves K n f) k (as_end n m (get_or es k no_end)) (end_in n m (get_or es 0 no_end).struck positions)

-- of a file that has begun, when its rounds ws were played
abbrev pub ConvergedIn : File → List Round → List ℤ → Type 0
ConvergedIn F ws positions =
    F.setup.begun ≡ true → (m : ℕ) → m ≤ F.setup.listeners → Converged F.setup.family F.setup.n m F.setup.f F.setup.first ws positions
