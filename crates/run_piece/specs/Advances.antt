-- The player's promise: fed b after exactly the bytes a, its state is that after a ++ b. Each piece shows the text by which the listing
-- grows, and the positions then held keep demand 3 with every phase end that the listing shows. If no record was accepted, as when one is
-- refused, the memory is as it was; the bytes of a record that is cut are scratch.
use Rattle.std.specs.Prelude.{List, [], ◌∷◌, ◌++◌, ◌≡◌, ℕ, length, take}
use Rattle.ring_spec.specs.Rounds.{Ring, PhaseEnd, all_listeners}
use Rattle.run_spec.specs.RunFile.{File, read_file, accepted, ends_so_far}
use Rattle.run_spec.specs.Listing.{line, shown}
use Rattle.run_state.specs.declared.Player.{Player}
use Rattle.run_state.specs.Memory.{Memory}
use Rattle.run_state.specs.Changes.{halted}
use Rattle.run_state.specs.State.{ring_before, PlayerOf, MemoryOf}
use Rattle.run_round.specs.Converged.{ConvergedIn}

-- the player, with the bytes of a record that is cut, and the memory lent to it, are the state after the bytes a (D13)
pub record StateAt (a : List ℕ) (p : Player) (carry : List ℕ) (M : Memory) : Type 0 where
  pub player : PlayerOf p (read_file a)
  pub part : (read_file a).part ≡ take p.have carry
  pub have : p.have ≡ length (read_file a).part
  pub memory : MemoryOf (read_file a) M

-- fed b after a, it shows a text: from the player p and the memory M to the player q and the memory M' (D14, D14b)
pub record Advances (a b : List ℕ) (p : Player) (M : Memory) (q : Player) (text carry : List ℕ) (M' : Memory) : Type 0 where
  pub state : StateAt (a ++ b) q carry M'
  pub shows : shown (read_file (a ++ b)) ≡ shown (read_file a) ++ text
  pub idle : accepted (read_file (a ++ b)) ≡ accepted (read_file a) → (M' ≡ M) × (q ≡ halted p q.have q.fault)
  pub demand3 : ConvergedIn (read_file (a ++ b)) (read_file (a ++ b)).rounds.played M'.positions

-- who counts as struck at the phase end that a ring has come to, after the ends es: with none before it is the start, and every listener
-- does
abbrev pub struck_here : List PhaseEnd → Ring → ℕ
struck_here [] R = all_listeners
struck_here (e ∷ es) R = R.before

-- that phase end; collect and confess: the mark words that it shows
abbrev pub end_here : (collect confess : ℕ) (es : List PhaseEnd) (R : Ring) → PhaseEnd
end_here collect confess es R = record { collect = collect; confess = confess; struck = struck_here es R; heads = R.heads }

-- the phase ends es of n heads and m listeners become es': no end more was played, and nothing is shown; or one, to which the ring R has
-- come, and its line is shown (D14)
pub data Grown (n m : ℕ) (es es' : List PhaseEnd) (R : Ring) (text : List ℕ) : Type 0 where
  none : es' ≡ es → text ≡ [] → Grown n m es es' R text
  one : (collect confess : ℕ) → R.round ≡ 0 → es' ≡ end_here collect confess es R ∷ es → text ≡ line n m (length es) (end_here collect confess es R)
      → Grown n m es es' R text

-- as the file F becomes G
abbrev pub GrownTo : File → File → List ℕ → Type 0
GrownTo F G text = Grown G.setup.n G.setup.listeners (ends_so_far F) (ends_so_far G) (ring_before G) text

-- and one phase end was played at most
pub record AdvancesOnce (a b : List ℕ) (p : Player) (M : Memory) (q : Player) (text carry : List ℕ) (M' : Memory) : Type 0 where
  pub advances : Advances a b p M q text carry M'
  pub grown : GrownTo (read_file a) (read_file (a ++ b)) text
