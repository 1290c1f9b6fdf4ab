-- What the private functions promise each other. Readers of the public promises do not need this file.
use Rattle.std.specs.Prelude.{◌≡◌, Bool, true, false, List, ℕ, ◌+◌, ◌≤◌, ◌<◌, length}
use Rattle.terms.specs.Refusals as refusal
use Rattle.run_spec.specs.RunFile.{length_in}
use Rattle.run_state.specs.declared.Player.{Player}
use Rattle.run_record.specs.declared.RecordResult.{RecordResult}
use Rattle.run_state.specs.Changes.{halted}
use Rattle.run_piece.specs.declared.FeedResult.{FeedResult}

-- r bytes are missing: to the end of the header, or to the end of the record
pub record Missing (have : ℕ) (carry : List ℕ) (r : ℕ) : Type 0 where
  pub some : 0 < r
  pub header : have < 4 → have + r ≡ 4
  pub rest : 4 ≤ have → have < length_in carry → have + r ≡ length_in carry

-- a piece begins with a record, and has as many bytes as its header says
pub record BeginsWhole (p : Player) (s : List ℕ) : Type 0 where
  pub fresh : p.have ≡ 0
  pub within : length_in s ≤ length s
  pub long : 4 ≤ length_in s

-- what the player becomes with a record's header, by whether that record is allowed
abbrev pub headed_to : Player → Bool → Player
headed_to p true = halted p 4 p.fault
headed_to p false = halted p 0 refusal.bad_run_record

-- a step that takes a record
pub record RecordTaken (t : RecordResult) (n : ℕ) (r : FeedResult) : Type 0 where
  pub player : r.player ≡ t.player
  pub used : r.used ≡ n
  pub text : r.text ≡ t.text
