-- What playing the pending round changes.
use Rattle.std.specs.Prelude.{◌∷◌, ◌++◌, ◌≡◌, ◌≤◌}
use Rattle.ring_spec.specs.Rounds.{after_round}
use Rattle.run_spec.specs.RunFile.{File, ends_from}
use Rattle.run_spec.specs.Listing.{lines}
use Rattle.texts.specs.declared.Text.{Text}
use Rattle.texts.specs.Texts.{bytes_of}
use Rattle.run_state.specs.Memory.{Memory}
use Rattle.run_state.specs.Heads.{HeadsOf}
use Rattle.run_state.specs.State.{ring_before, agreed_before, Level}

-- the pending round is played: the memory after it, and the text by which the listing grows
pub record Played (F : File) (text : Text) (M : Memory) : Type 0 where
  pub keeps : HeadsOf F.setup.n F.setup.listeners (agreed_before F) (after_round F.setup.family F.setup.n F.setup.f (ring_before F) F.rounds.last) M
  pub level : Level (agreed_before F) M.positions
  pub shows : lines F.setup.n F.setup.listeners (ends_from F.setup (F.rounds.last ∷ F.rounds.played))
      ≡ lines F.setup.n F.setup.listeners (ends_from F.setup F.rounds.played) ++ bytes_of text
  pub room : text.len ≤ 64
