-- The end of the file: the text at the end makes the listing whole, the memory represents the ring that the rounds played leave, and the
-- positions then held keep demand 3 with every phase end in it.
use Rattle.std.specs.Prelude.{true, List, ◌++◌, ◌≡◌, ℕ}
use Rattle.ring_spec.specs.Rounds.{Ring}
use Rattle.run_spec.specs.RunFile.{File, read_file, ends_so_far, ending, rounds_played, ends_played, ring_from}
use Rattle.run_spec.specs.Listing.{shown, listing}
use Rattle.texts.specs.Texts.{bytes_of}
use Rattle.run_state.specs.Memory.{Memory}
use Rattle.run_state.specs.Heads.{HeadsOf}
use Rattle.run_state.specs.State.{agreed_before}
use Rattle.run_state.specs.Counts.{CountsOf}
use Rattle.run_round.specs.Converged.{ConvergedIn}
use Rattle.run_piece.specs.Advances.{Grown}
use Rattle.run_stream.specs.declared.FinishResult.{FinishResult}

-- the ring when all rounds that are played are played
abbrev pub ring_at_end : File → Ring
ring_at_end F = ring_from F.setup (rounds_played F)

-- the file ends after a, and the text that is left is shown: from the memory M to the memory M', which is the same if no round was left to
-- play
pub record Finishes (a : List ℕ) (M : Memory) (text : List ℕ) (M' : Memory) : Type 0 where
  pub shows : listing a ≡ shown (read_file a) ++ text
  pub held : (read_file a).setup.begun ≡ true → HeadsOf (read_file a).setup.n (read_file a).setup.listeners (agreed_before (read_file a)) (ring_at_end (read_file a)) M'
  pub unplayed : rounds_played (read_file a) ≡ (read_file a).rounds.played → M' ≡ M
  pub demand3 : ConvergedIn (read_file a) (rounds_played (read_file a)) M'.positions

-- and how it ends, with the text in two: the line of the last phase end, if the end plays one, and the last line; and the counts (document
-- 02, A10)
pub record FinishesWith (a : List ℕ) (M : Memory) (r : FinishResult) (M' : Memory) : Type 0 where
  pub number : r.number ≡ ending (read_file a)
  pub finishes : Finishes a M (bytes_of r.line ++ bytes_of r.verdict) M'
  pub grown :
      Grown (read_file a).setup.n (read_file a).setup.listeners (ends_so_far (read_file a)) (ends_played (read_file a)) (ring_at_end (read_file a)) (bytes_of r.line)
  pub counts : CountsOf (read_file a).setup.family (rounds_played (read_file a)) r.since
