-- The frame check hands out the rest, and the frame that it passed has a known kind; if neither it nor the common fields refuse, the rest decides.
use mathlib.Core.Path.{◌≡◌, sym, ap, ap₂, ◌∙◌}
use mathlib.Core.List.{List}
use Prim.Native.Nat.{ℕ}
use Rattle.std.specs.Prelude.{Result, Ok}
use Rattle.fields.specs.Bytes.{at2}
use Rattle.terms.specs.declared.refusal.Refusal.{Refusal}
use Rattle.frame_check.specs.declared as declared
use Rattle.frame_check.specs.Check.{Kind, kind_of, kind_field, frame_refusal}
use Rattle.frame_check.specs.Kinds.{kind_named, Named}
use Rattle.frame_check.proofs.Known.{known_named}
use Rattle.frame_check.proofs.Laws.{accepted_rest}
use Rattle.frame_spec.specs.declared.Said.{Said}
use Rattle.frame_spec.specs.Said.{rest_field}
use Rattle.frame_codec.specs.Steps.{from_marks, common_refusal, said_unless}
use Rattle.frame_codec.proofs.Reading.{refused_frame, refused_common, says_rest}
use Rattle.std.proofs.lemmas.Result.{err_from_is_err_and}
use Rattle.terms.specs.Refused.{number}
use Rattle.terms.proofs.Refused.{number_ne}
use Rattle.frame_codec.proofs.accepted.Goals as goal

-- the kind that was read is the one that the frame names
named : (s : List ℕ) {n : ℕ} {r : Result declared.Kind.Kind Refusal} {kind : declared.Kind.Kind} → n ≡ at2 s 2 → r ≡ Ok kind → Named n r → kind_named kind ≡ kind_field s
named s e is h = (rw is at h) ∙ ap kind_of e

pub returns-in_err-rest : goal.returns-in_err-rest
returns-in_err-rest c =
    let p = err_from_is_err_and c.from_residual.result c.from_residual.ensures.1 in
    let e = ap number p.2 ∙ c.in_err-rest.ensures.number in
    rw p.1 (ap Said.Refused e ∙ refused_frame _ _ _ _ _ (λ q. number_ne p.0 (e ∙ q)))

pub unwrap-kind-requires : goal.unwrap-kind-requires
unwrap-kind-requires c = known_named _ c.try_from.result (sym c.in_ok-rest.ensures.number) c.half_at.ensures c.try_from.ensures

pub returns-in_err-common_refusal : goal.returns-in_err-common_refusal
returns-in_err-common_refusal c =
    let a = c.args in
    let kind : kind_named c.unwrap-kind.result ≡ kind_field a.frame.now = named a.frame.now c.half_at.ensures c.unwrap-kind.ensures c.try_from.ensures in
    let p = err_from_is_err_and c.from_residual-in_err-common_refusal.result c.from_residual-in_err-common_refusal.ensures.1 in
    let e = ap number p.2 ∙ c.in_err-common_refusal.ensures ∙ ap (λ (K : Kind). common_refusal K a.phase a.round a.link a.frame.now) kind in
    rw p.1 (ap Said.Refused e ∙ refused_common _ _ _ _ _ (sym c.in_ok-rest.ensures.number) (λ q. number_ne p.0 (e ∙ q)))

pub returns : goal.returns
returns c =
    let a = c.args in
    let accepted : frame_refusal a.frame.now ≡ 0 = sym c.in_ok-rest.ensures.number in
    let kind : kind_named c.unwrap-kind.result ≡ kind_field a.frame.now = named a.frame.now c.half_at.ensures c.unwrap-kind.ensures c.try_from.ensures in
    let e = c.in_ok-common_refusal.ensures ∙ ap (λ (K : Kind). common_refusal K a.phase a.round a.link a.frame.now) kind in
    let rest : c.in_ok-rest.rest.now ≡ rest_field a.frame.now = c.in_ok-rest.ensures.rest ∙ accepted_rest _ accepted in
    c.read_rest.ensures
    ∙ ap₂ (λ (K : Kind) (t : List ℕ). said_unless (from_marks K a.n t) K a.n t) kind rest
    ∙ says_rest _ _ _ _ _ accepted (sym e)
