-- What the private functions promise each other. Readers of the public promises do not need this file.
use Rattle.std.specs.Prelude.{cond, true, false, List, [], ◌≡◌, ℕ, ◌/◌, ◌%◌, ◌^◌, get_or, ℤ, pos, Some}
use Rattle.terms.specs.Sizes.{ends_with}
use Rattle.marks.specs.Marks.{bit_of}
use Rattle.terms.specs.Counting.{Each}
use Rattle.ring_spec.specs.Rounds.{Ring, lost, receivers, is_receiver, phase_of, ends_phase, phase_end, after_round}
use Rattle.run_spec.specs.RunFile.{File}
use Rattle.run_listing.specs.Texts.{end_line}
use Rattle.run_state.specs.Memory.{Memory}
use Rattle.run_state.specs.Heads.{HeadsOf}
use Rattle.run_state.specs.State.{ring_before, agreed_before, Level}
use Rattle.ring_play.specs.declared.Stage.{Stage}
use Rattle.run_state.specs.declared.Player.{Player}

-- the ring in the pending round; its phase as 16 bits hold it, and the marks of heads and of listeners apart
abbrev pub stage_of : Player → Stage
stage_of p =
    record {
      n = p.n;
      f = p.f;
      phase = phase_of p.family p.given % 65536;
      before = p.before % 2 ^ 32;
      struck = p.struck % 2 ^ 32;
      listeners = p.listeners;
      away = p.struck / 2 ^ 32 % 2 ^ 32;
    }

-- the line of the pending round's phase, by the positions when it is played; nothing if it does not end its phase
abbrev pub line_of : Player → List ℤ → List ℕ
line_of p positions =
    let e = phase_end p.family p.before p.struck (λ i. lost) in
    cond (ends_phase p.family p.given)
    (end_line p.n p.listeners (phase_of p.family p.given % 65536) positions e.collect e.confess p.struck) []

-- the ring when the pending round is played
abbrev pub ring_played : File → Ring
ring_played F = after_round F.setup.family F.setup.n F.setup.f (ring_before F) F.rounds.last

-- the memory when the pending round is played; ends: if it ends its phase, with the position of each receiver that it does not strike
pub record Kept (F : File) (M : Memory) : Type 0 where
  pub keeps : HeadsOf F.setup.n F.setup.listeners (agreed_before F) (ring_played F) M
  pub level : Level (agreed_before F) M.positions
  pub ends : ends_with F.setup.family (ring_before F).round ≡ true → Each receivers (λ i. is_receiver F.setup.n F.setup.listeners i ≡ true
      → bit_of F.rounds.last.struck i ≡ false → ((ring_played F).heads i).seat.position ≡ Some (get_or M.positions i (pos 0)))
