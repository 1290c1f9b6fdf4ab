-- What each step makes of what the program holds.
use mathlib.Core.Path.{◌≡◌, refl, ap, ap₂, sym, subst, ◌∙◌}
use mathlib.Core.Bool.{Bool, true, false, true≢false}
use mathlib.Core.List.{List, [], ◌++◌, append-nil, append_assoc}
use Prim.Native.Nat.{ℕ, zero, suc, ◌+◌, ◌-◌, ◌≤◌, ◌<◌}
use native.Mathlib.Omega.{arith}
use native.Mathlib.Decide.{dec_le}
use lib.Dec.{ltb, leb}
use borrow.Author.Tests.{le-ltb, ltb-false, leb-true}
use Rattle.terms.proofs.Booleans.{and_both}
use lib.ListN.{length, take, drop, length-drop, length-take}
use lib.Seq.{take-add, take-take, drop-drop, length-take-le}
use Rattle.run_spec.specs.RunFile.{read_file}
use Rattle.run_spec.specs.Listing.{title, shown, listing}
use Rattle.run_state.specs.declared.Player.{Player}
use Rattle.run_state.specs.Memory.{Memory}
use Rattle.run_piece.specs.Advances.{StateAt, Advances}
use Rattle.run_stream.specs.declared.FillResult.{FillResult}
use Rattle.run_stream.specs.Pages.{Fills, page_size}
use Rattle.run_stream.specs.Finish.{Finishes}
use Rattle.run_stream.proofs.Cutting.{shown_first}
use Rattle.run_program.specs.declared.Stage.{Stage}
use Rattle.run_program.specs.declared.Program.{Program}
use Rattle.run_program.specs.Calls.{part, unwritten, unplayed, ask_at, ask_of, is_title, asks_read, left_of, did_fits, stage_after}
use Rattle.run_program.specs.declared.Did.{Did}
use Rattle.run_program.specs.Running.{BeforeReading, WhileReading, AfterReading, RunningAt, Running}
use Rattle.run_program.specs.Inner.{program_at, advanced, Between, Turning, within_input, after_input}

-- ---- parts of a list

-- the first k bytes of a part, and the others
part_split : (k from to : ℕ) (l : List ℕ) → k ≤ to - from → take k (part from to l) ++ part (from + k) to l ≡ part from to l
part_split k from to l h =
    let n : to - from ≡ k + (to - (from + k)) = omega arith in
    ap₂ (λ (x y : List ℕ). x ++ y) (take-take k (to - from) (drop from l) h) (ap (take (to - (from + k))) (sym (drop-drop k from l)))
    ∙ sym (take-add k (to - (from + k)) (drop from l))
    ∙ ap (λ (m : ℕ). take m (drop from l)) (sym n)

pub part_none : (from to : ℕ) (l : List ℕ) → to ≤ from → part from to l ≡ []
part_none from to l h = let z : to - from ≡ 0 = omega arith in rw z

part_front : (to : ℕ) (l : List ℕ) → part 0 to l ≡ take to l
part_front to l = let z : to - 0 ≡ to = omega arith in rw z

part_long : (from to : ℕ) (l : List ℕ) → to ≤ length l → length (part from to l) ≡ to - from
part_long from to l h = length-take-le (to - from) (drop from l) (rw (length-drop from l) (omega arith))

-- bytes of a part are within it
pub within_part : {u : List ℕ} (from to used : ℕ) (l : List ℕ) → from < to → u ≡ part from to l → used ≤ length u → from + used ≤ to
within_part from to used l some is h = omega (arith, simp length-take at (ap length is))

-- a page that shows nothing takes all bytes
all_used : {u : List ℕ} {r : FillResult} → Fills u r → r.len ≤ 0 → length u ≤ r.used
all_used {u} {r} F z = go (dec_le (length u) r.used)
  where
    go : Dec (length u ≤ r.used) → length u ≤ r.used
    go (yes h) = h
    go (no h) = absurd (omega (arith, F.full (omega arith)))

-- when nothing is left to be written
none_unwritten : (out page : List ℕ) (p : Program) {shows : List ℕ} → p.to ≤ p.from → out ++ unwritten p page ≡ shows → out ≡ shows
none_unwritten out page p done e = sym (append-nil out) ∙ ap (λ (l : List ℕ). out ++ l) (sym (part_none p.from p.to page done)) ∙ e

-- ---- while the input is read

pub playing : {a out : List ℕ} {p : Program} {piece page carry : List ℕ} {M : Memory} → p.stage ≡ Stage.Going
    → RunningAt p.stage a out p piece page carry M → WhileReading a out p piece page carry M
playing {a} {out} {p} {piece} {page} {carry} {M} e R = subst (λ (s : Stage). RunningAt s a out p piece page carry M) e R

-- a program that goes on
going : {a out : List ℕ} {p : Program} {piece page carry : List ℕ} {M : Memory} → p.stage ≡ Stage.Going → WhileReading a out p piece page carry M
    → RunningAt p.stage a out p piece page carry M
going {a} {out} {p} {piece} {page} {carry} {M} e P = subst (λ (s : Stage). RunningAt s a out p piece page carry M) (sym e) P

-- a read: while the input is read, and nothing is left to be written
pub reading : (p : Program) → asks_read (ask_of p) ≡ true → (p.stage ≡ Stage.Going) × (p.to ≤ p.from)
reading p e = go p.stage (ltb p.from p.to) refl e
  where
    go : (s : Stage) (more : Bool) → ltb p.from p.to ≡ more → asks_read (ask_at s more p.from p.to) ≡ true → (s ≡ Stage.Going) × (p.to ≤ p.from)
    go Stage.Title more m t = absurd (true≢false (sym t))
    go Stage.Going true m t = absurd (true≢false (sym t))
    go Stage.Going false m t = (refl, ltb-false p.from p.to m)
    go Stage.Last true m t = absurd (true≢false (sym t))
    go Stage.Last false m t = absurd (true≢false (sym t))
    go Stage.Failed more m t = absurd (true≢false (sym t))

-- ---- the first page

pub opens : {a out : List ℕ} {p : Player} {carry : List ℕ} {M : Memory} (to : ℕ) (piece page : List ℕ) → BeforeReading a out p carry M → to ≤ page_size → take to page ≡ title
    → WhileReading a out (program_at p Stage.Going 0 0 to) piece page carry M
opens to piece page O room t =
    record {
      played = [];
      state = O.state;
      read = sym O.read;
      shows = rw (O.written, part_front to page) (t ∙ sym shown_first);
      waits = λ h. omega arith;
      here = omega arith;
      room = room;
    }

-- ---- a page of the piece

module _ {a out : List ℕ} {p : Program} {piece page carry : List ℕ} {M : Memory} where
  -- as long as bytes are left to be written, none has to be played
  plays : Between a out p piece page carry M → (p.to ≤ p.from → p.end ≤ p.at) → WhileReading a out p piece page carry M
  plays B waits = record { played = B.played; state = B.state; read = B.read; shows = B.shows; waits = waits; here = B.here; room = B.room }

  module _ (T : Turning a out p piece page carry M) where
    -- no page is turned: bytes are left to be written, or it is the last
    pub page_kept : asks_read (ask_of p) ≡ false → Running a out p piece page carry M
    page_kept e = go T
      where
        go : Turning a out p piece page carry M → Running a out p piece page carry M
        go (within_input g B) = going g (plays B (λ z. absurd (true≢false (rw (g, le-ltb p.from p.to z) at e))))
        go (after_input l C) = subst (λ (s : Stage). RunningAt s a out p piece page carry M) (sym l) C

    module _ (asks : asks_read (ask_of p) ≡ true) where
      between : Between a out p piece page carry M
      between = go T
        where
          go : Turning a out p piece page carry M → Between a out p piece page carry M
          go (within_input g B) = B
          go (after_input l C) = absurd (true≢false (ap (λ (s : Stage). asks_read (ask_at s false 0 0)) (sym (reading p asks).0 ∙ l)))

      -- nothing is left to be played
      pub none_left : p.end ≤ p.at → Running a out p piece page carry M
      none_left h = going (reading p asks).0 (plays between (λ z. h))

      -- some of it is
      pub page_filled : {u page' carry' : List ℕ} {M' : Memory} (r : FillResult) → p.at < p.end → u ≡ unplayed p piece → Fills u r
          → ((b : List ℕ) → StateAt b p.player carry M → Advances b (take r.used u) p.player M r.player (take r.len page') carry' M')
          → WhileReading a out (program_at r.player Stage.Going (p.at + r.used) p.end r.len) piece page' carry' M'
      page_filled {page' = page'} r some is F adv =
          let B = between in
          let long : length (unplayed p piece) ≡ p.end - p.at = part_long p.at p.end piece B.here in
          let within : r.used ≤ p.end - p.at = omega (arith, F.within, ap length is) in
          let A = adv B.played B.state in
          record {
            played = B.played ++ take r.used (unplayed p piece);
            state = rw is at A.state;
            read =
                append_assoc B.played (take r.used (unplayed p piece)) _
                ∙ ap (λ (l : List ℕ). B.played ++ l) (part_split r.used p.at p.end piece within)
                ∙ B.read;
            shows = rw (part_front r.len page') (ap (λ (l : List ℕ). l ++ take r.len page') (none_unwritten out page p (reading p asks).1 B.shows) ∙ sym (rw is at A.shows));
            waits = λ z. omega (arith, all_used F z, ap length is);
            here = B.here;
            room = F.room;
          }

-- ---- after a read

module _ {a out : List ℕ} {p : Program} {piece page carry : List ℕ} {M : Memory} (P : WhileReading a out p piece page carry M) (done : p.to ≤ p.from) where
  all_played : P.played ≡ a
  all_played =
      sym (append-nil P.played)
      ∙ ap (λ (l : List ℕ). P.played ++ l) (sym (part_none p.at p.end piece (P.waits done)))
      ∙ P.read

  all_written : out ≡ shown (read_file P.played)
  all_written = none_unwritten out page p done P.shows

  -- of some bytes
  pub bytes_came : (k : ℕ) → k ≤ length piece → Between (a ++ take k piece) out (program_at p.player Stage.Going 0 k 0) piece page carry M
  bytes_came k h =
      record {
        played = P.played;
        state = P.state;
        read = rw (part_front k piece) (ap (λ (l : List ℕ). l ++ take k piece) all_played);
        shows = append-nil out ∙ all_written;
        here = h;
        room = omega arith;
      }

  -- at the end
  pub input_ended : {page' : List ℕ} {M' : Memory} (to : ℕ) → to ≤ page_size → ((b c : List ℕ) → StateAt b p.player c M → Finishes b M (take to page') M')
      → AfterReading (a ++ []) out (program_at p.player Stage.Last 0 0 to) page'
  input_ended {page'} to room E =
      let e = E P.played carry P.state in
      record {
        shows =
            rw (part_front to page')
            (ap (λ (l : List ℕ). l ++ take to page') all_written ∙ sym e.shows ∙ ap (λ (b : List ℕ). listing b) (all_played ∙ sym (append-nil a)));
        room = room;
      }

-- ---- after a write

-- how many bytes are asked for, and that they are asked for of a page
asked : (s : Stage) (more : Bool) (from to k : ℕ) → 0 < k → k ≤ left_of (ask_at s more from to) → k ≤ to - from
asked Stage.Title more from to k some h = absurd (omega arith)
asked Stage.Going true from to k some h = h
asked Stage.Going false from to k some h = absurd (omega arith)
asked Stage.Last true from to k some h = h
asked Stage.Last false from to k some h = absurd (omega arith)
asked Stage.Failed more from to k some h = absurd (omega arith)

-- k of the bytes asked for were written
module _ (p : Program) (k : ℕ) (some : 0 < k) (left : k ≤ left_of (ask_of p)) where
  pub within_page : k ≤ p.to - p.from
  within_page = asked p.stage (ltb p.from p.to) p.from p.to k some left

  pub page_written : (a out piece page carry : List ℕ) (M : Memory) → Running a out p piece page carry M
      → Turning a (out ++ take k (unwritten p page)) (advanced p k) piece page carry M
  page_written a out piece page carry M = go p.stage refl left
    where
      -- what is written and what is still to be written are the same together
      same : (out ++ take k (unwritten p page)) ++ unwritten (advanced p k) page ≡ out ++ unwritten p page
      same = append_assoc out (take k (unwritten p page)) _ ∙ ap (λ (l : List ℕ). out ++ l) (part_split k p.from p.to page within_page)

      go : (s : Stage) → p.stage ≡ s → k ≤ left_of (ask_at s (ltb p.from p.to) p.from p.to) → RunningAt s a out p piece page carry M
          → Turning a (out ++ take k (unwritten p page)) (advanced p k) piece page carry M
      go Stage.Title e h R = absurd (omega arith)
      go Stage.Going e h R = within_input e record { played = R.played; state = R.state; read = R.read; shows = same ∙ R.shows; here = R.here; room = R.room }
      go Stage.Last e h R = after_input e record { shows = same ∙ R.shows; room = R.room }
      go Stage.Failed e h R = absurd R

-- a read that brings bytes goes on
pub bytes_stage : (k : ℕ) (s : Stage) → (k ≡ 0 → ⊥) → stage_after (Did.Read k) s ≡ Stage.Going
bytes_stage zero s h = absurd (h refl)
bytes_stage (suc k) s h = refl

-- ---- what was asked for, if the system did it

-- the title, before the first step
pub opening : {a out carry : List ℕ} {M : Memory} (p : Program) (piece page : List ℕ) → is_title p.stage ≡ true
    → RunningAt p.stage a out p piece page carry M → BeforeReading a out p.player carry M
opening {a} {out} {carry} {M} p piece page e R = go p.stage e R
  where
    go : (s : Stage) → is_title s ≡ true → RunningAt s a out p piece page carry M → BeforeReading a out p.player carry M
    go Stage.Title t r = r
    go Stage.Going t r = absurd (true≢false (sym t))
    go Stage.Last t r = absurd (true≢false (sym t))
    go Stage.Failed t r = absurd r

pub read_fits : (p : Program) (k size : ℕ) → did_fits (Did.Read k) p size ≡ true → (p.stage ≡ Stage.Going) × (p.to ≤ p.from) × (k ≤ size)
read_fits p k size e =
    let (asks, small) = and_both (asks_read (ask_of p)) _ e in
    let (going, done) = reading p asks in
    (going, done, leb-true k size small)

pub write_fits : (p : Program) (k size : ℕ) → did_fits (Did.Wrote k) p size ≡ true → (0 < k) × (k ≤ left_of (ask_of p))
write_fits p k size e = let (some, within) = and_both (leb 1 k) _ e in (leb-true 1 k some, leb-true k (left_of (ask_of p)) within)
