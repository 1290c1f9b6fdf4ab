-- `hostpage::put_page` meets its contract: before head k the page of the heads below k stands at the front of the buffer, and the rest is as it was.
use mathlib.Core.Path.{◌≡◌, sym, ap, ◌∙◌}
use mathlib.Core.List.{List}
use Prim.Native.Nat.{ℕ, ◌+◌, ◌≤◌, ◌<◌}
use native.Mathlib.Omega.{arith}
use lib.ListN.{length, get_or}
use Rattle.reading.specs.declared.Reading.{Reading}
use Rattle.hostpage.specs.Page.{reading_line, page_of}
use Rattle.hostpage.proofs.Pages.{page_none, next_length, page_grows, front, front_none, front_next, front_is}
use Rattle.hostpage.proofs.put_page.Goals as goal

-- the line fits behind those before it
fit : (rs : List Reading) (n k : ℕ) (b d : List ℕ) {at : ℕ} {s : List ℕ} → k < n → s ≡ reading_line k (get_or rs k Reading.Unknown)
    → at ≡ length (page_of k rs) → length b ≡ length d → length (page_of n rs) ≤ length d → at + length s ≤ length b
fit rs n k b d l e p q r =
    let h : k + 1 ≤ n = omega arith in
    omega (arith, ap length e, next_length k rs, page_grows (k + 1) n rs h)

pub loop-k-init : goal.loop-k-init
loop-k-init c = let a = c.args in (sym (page_none a.readings), front_none a.readings a.buffer.now)

pub put_line-at-requires : goal.put_line-at-requires
put_line-at-requires c =
    let l = c.loop-k in
    let t = c.line_of-t.ensures in
    let d = c.args.buffer.now in
    (t.len_bound, fit c.args.readings c.args.n l.k _ d c.loop-k-test.true t.result_value l.invariant.0 l.auto.buffer c.requires.readings_in_bounds)

pub loop-k-preserved : goal.loop-k-preserved
loop-k-preserved c =
    let rs = c.args.readings in
    let l = c.loop-k in
    let d = c.args.buffer.now in
    let e = c.line_of-t.ensures.result_value in
    let f = fit rs c.args.n l.k _ d c.loop-k-test.true e l.invariant.0 l.auto.buffer c.requires.readings_in_bounds in (
      c.put_line-at.ensures.0 ∙ rw (l.invariant.0, e) (sym (next_length l.k rs)),
      c.put_line-at.ensures.1 ∙ front_next l.k rs d l.invariant.0 l.invariant.1 e f,
    )

pub returns : goal.returns
returns c =
    let l = c.loop-k in
    let a = c.args in
    let e : l.k ≡ a.n = omega arith in
    l.invariant.1
    ∙ ap (λ (k : ℕ). front (page_of k a.readings) a.buffer.now) e
    ∙ front_is (page_of a.n a.readings) a.buffer.now c.requires.readings_in_bounds
