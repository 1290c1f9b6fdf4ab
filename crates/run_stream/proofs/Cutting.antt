-- What is shown of a file before its first byte is the first line, and each piece adds its text to it, so that at the end all of the listing is there.
use mathlib.Core.Path.{◌≡◌, ap, sym, ◌∙◌}
use mathlib.Core.List.{List, [], ◌++◌, append-nil}
use Prim.Native.Nat.{ℕ}
use Rattle.run_spec.specs.RunFile.{unread, feed, read_file}
use Rattle.run_spec.specs.Listing.{title, lines, shown}
use Rattle.run_state.specs.declared.Player.{Player}
use Rattle.run_state.specs.Memory.{Memory}
use Rattle.run_stream.specs.Cutting.{Cut, begins, then_fed, AnyCutting}

-- before the first byte
pub shown_first : shown (read_file []) ≡ title
unfolding shown unread feed lines
shown_first = append-nil title

pub fed_shows : {a texts : List ℕ} {p : Player} {carry : List ℕ} {M : Memory} → Cut a texts p carry M → shown (read_file a) ≡ texts
fed_shows (begins L) = shown_first
fed_shows (then_fed {text} d f) = f.shows ∙ ap (λ (l : List ℕ). l ++ text) (fed_shows d)

pub any_cutting : AnyCutting
any_cutting a texts rest p carry M M' d e = sym (e.shows ∙ ap (λ (l : List ℕ). l ++ rest) (fed_shows d))
