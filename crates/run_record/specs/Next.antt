-- What a record changes: the player, its memory, and the listing.
use Rattle.std.specs.Prelude.{Bool, cond, ◌&&◌, List, ◌++◌, ◌≡◌, ℕ, ◌≤◌, eqb, length}
use Rattle.terms.specs.Refusals as refusal
use Rattle.run_spec.specs.RunFile.{File, length_in, kind_in, allowed_when, is_allowed, stopped, judged}
use Rattle.run_spec.specs.Listing.{shown}
use Rattle.texts.specs.Texts.{bytes_of}
use Rattle.run_state.specs.declared.Player.{Player}
use Rattle.run_record.specs.declared.RecordResult.{RecordResult}
use Rattle.run_state.specs.Memory.{Memory}
use Rattle.run_state.specs.Changes.{halted}
use Rattle.run_state.specs.Places.{first_of, bare_of}
use Rattle.run_state.specs.State.{PlayerOf, MemoryOf}

-- whether the record that s begins is allowed, by the player's numbers
abbrev pub allowed_to : Player → List ℕ → Bool
allowed_to p s = allowed_when (kind_in s) p.begun (first_of p) p.pending (bare_of p) (length_in s)

-- what the bytes s make of the file F, taken as a record: it is judged if it is whole and allowed, and stops the file with 13 otherwise
unfoldable pub record_taken : File → List ℕ → File
record_taken F s = cond (eqb (length s) (length_in s) && is_allowed (kind_in s) F (length_in s)) (judged (kind_in s) F s) (stopped F refusal.bad_run_record)

-- a record is taken, by which the file F becomes G: from the player p and its memory M to the player after it, its memory M', and the text
-- by which the listing grows. A record that is refused leaves the memory as it was, and the player but for its fault (D14b).
pub record Next (F G : File) (p : Player) (M : Memory) (r : RecordResult) (M' : Memory) : Type 0 where
  pub player : PlayerOf r.player G
  pub whole : r.player.have ≡ 0
  pub memory : MemoryOf G M'
  -- demand 1 for the player: "A refusal gives only its number and leaves head, player and lent buffers unchanged"
  pub refused : (G.fault ≡ 0 → ⊥) → (M' ≡ M) × (r.player ≡ halted p 0 G.fault)
  pub shows : shown G ≡ shown F ++ bytes_of r.text
  pub room : r.text.len ≤ 64
