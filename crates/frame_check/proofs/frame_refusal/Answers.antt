-- Each test reads what the definition's next check asks. At each return the tests before it held and, but at the last, the one that leads there failed.
use mathlib.Core.Path.{◌≡◌, sym, ap, ◌∙◌}
use mathlib.Core.List.{List}
use Prim.Native.Nat.{ℕ, ◌≤◌}
use lib.Dec.{eqb}
use lib.ListN.{length}
use borrow.Author.Tests.{le-leb, lt-leb, eq-eqb, ne_eqb}
use Rattle.std.proofs.lemmas.Result.{err_from_is_err_and}
use Rattle.terms.specs.Refusals as refusal
use Rattle.terms.specs.Refusals.{check}
use Rattle.terms.specs.Refused.{number}
use Rattle.fields.specs.Bytes.{at2}
use Rattle.frame_check.specs.Check.{Kind, kind_of, is_known, length_of, length_field, count_field, check_frame, frame_refusal}
use Rattle.frame_check.proofs.Known.{named_known}
use Rattle.frame_check.proofs.frame_refusal.Goals as goal

-- the checks that are left once the length field is right
left : (s : List ℕ) {stated named : ℕ} {kind : Kind} → 4 ≤ length s → stated ≡ length_field s → stated ≡ length s → named ≡ at2 s 2 → kind ≡ kind_of named
    → frame_refusal s ≡ check (is_known kind) refusal.unknown_kind (check (eqb (length s) (length_of kind (count_field s))) refusal.wrong_length_for_kind 0)
unfolding check_frame
left s l a b k e = rw (le-leb 4 _ l, eq-eqb _ _ (sym a ∙ b), e, k)

pub returns-then-len-lt4 : goal.returns-then-len-lt4
unfolding check_frame
returns-then-len-lt4 c = rw (lt-leb 4 _ c.if-len-lt4.true)

pub returns-then-half_at-len : goal.returns-then-half_at-len
unfolding check_frame
returns-then-half_at-len c = rw (le-leb 4 _ c.if-len-lt4.false, ← c.half_at.ensures, ne_eqb _ _ c.if-half_at-len.true)

pub returns-in_err-kind : goal.returns-in_err-kind
returns-in_err-kind c =
    let p = err_from_is_err_and c.from_residual.result c.from_residual.ensures.1 in
    rw (
      p.1,
      left _ c.if-len-lt4.false c.half_at.ensures c.if-half_at-len.false c.half_at-2.ensures c.in_err-kind.ensures.1,
    )
    (ap number (p.2 ∙ c.in_err-kind.ensures.0))

pub returns-then-len-length_of : goal.returns-then-len-length_of
returns-then-len-length_of c =
    rw (
      left _ c.if-len-lt4.false c.half_at.ensures c.if-half_at-len.false c.half_at-2.ensures c.in_ok-kind.ensures,
      named_known c.in_ok-kind.kind,
      ← c.byte_at.ensures,
      ← c.length_of.ensures,
      ne_eqb _ _ c.if-len-length_of.true,
    )

pub returns : goal.returns
returns c =
    rw (
      left _ c.if-len-lt4.false c.half_at.ensures c.if-half_at-len.false c.half_at-2.ensures c.in_ok-kind.ensures,
      named_known c.in_ok-kind.kind,
      ← c.byte_at.ensures,
      ← c.length_of.ensures,
      eq-eqb _ _ c.if-len-length_of.false,
    )
