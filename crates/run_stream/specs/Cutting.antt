-- A file fed in any pieces: the title, the texts that the pieces show, and the one at its end are its listing, however it is cut. So are
-- the pages of a program that writes the first page, a page for each fill, and the last page.
use Rattle.std.specs.Prelude.{List, [], ◌++◌, ◌≡◌, ℕ}
use Rattle.run_spec.specs.Listing.{title, listing}
use Rattle.run_state.specs.declared.Player.{Player}
use Rattle.run_state.specs.Memory.{Memory}
use Rattle.run_piece.specs.Advances.{StateAt, Advances}
use Rattle.run_stream.specs.Finish.{Finishes}

-- the bytes a, fed piece by piece after the title, have shown these texts, one after the other
pub data Cut : List ℕ → List ℕ → Player → List ℕ → Memory → Type 0 where
  begins : {p : Player} {carry : List ℕ} {M : Memory} → StateAt [] p carry M → Cut [] title p carry M
  then_fed : {a texts b text : List ℕ} {p q : Player} {carry carry' : List ℕ} {M M' : Memory}
      → Cut a texts p carry M → Advances a b p M q text carry' M' → Cut (a ++ b) (texts ++ text) q carry' M'

-- any cutting of any file
abbrev pub AnyCutting : Type 0
AnyCutting =
    (a texts rest : List ℕ) (p : Player) (carry : List ℕ) (M M' : Memory) → Cut a texts p carry M → Finishes a M rest M' → texts ++ rest ≡ listing a
