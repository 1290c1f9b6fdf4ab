-- What the private functions promise each other. Readers of the public promises do not need this file.
use Rattle.std.specs.Prelude.{◌≡◌, Bool, ◌&&◌, List, ◌++◌, ℕ, eqb, length}
use Rattle.run_spec.specs.RunFile.{File, round, length_in, with_record}
use Rattle.run_spec.specs.Listing.{shown}
use Rattle.texts.specs.declared.Text.{Text}
use Rattle.texts.specs.Texts.{bytes_of}
use Rattle.run_state.specs.declared.Player.{Player}
use Rattle.run_state.specs.Memory.{Memory}
use Rattle.run_state.specs.State.{agreed_before}
use Rattle.run_round.specs.Agrees.{HoldsAll}
use Rattle.run_record.specs.Next.{allowed_to}

-- whether the bytes s are a whole record that is allowed, by the player's numbers
abbrev pub due_to : Player → List ℕ → Bool
due_to p s = eqb (length s) (length_in s) && allowed_to p s

-- as a round record s of the file F is taken, the pending round, if there is one, is played
pub record PendingPlayed (F : File) (s : List ℕ) (text : Text) (M : Memory) : Type 0 where
  pub holds : HoldsAll F (agreed_before F) M
  pub shows : shown (with_record round F s) ≡ shown F ++ bytes_of text
