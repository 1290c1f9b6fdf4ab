-- Each kind of the code is a known kind, and the kind field of an accepted frame names one.
use mathlib.Core.Path.{◌≡◌, refl, sym, ◌∙◌, ap}
use mathlib.Core.Bool.{true, true≢false}
use mathlib.Core.List.{List}
use Prim.Native.Nat.{ℕ}
use Rattle.std.specs.Prelude.{Result, Ok, Err, IsOk}
use Rattle.fields.specs.Bytes.{at2}
use Rattle.terms.specs.declared.refusal.Refusal.{Refusal}
use Rattle.frame_check.specs.declared.Kind.{Kind}
use Rattle.frame_check.specs.Check.{is_known, kind_of, frame_refusal}
use Rattle.frame_check.specs.Kinds.{kind_named, Named}
use Rattle.frame_check.proofs.Laws.{accepted_known}

pub named_known : (kind : Kind) → is_known (kind_named kind) ≡ true
named_known Kind.Position = refl
named_known Kind.Silence = refl
named_known Kind.List = refl
named_known Kind.Confession = refl

pub known_named : (s : List ℕ) {n : ℕ} (r : Result Kind Refusal) → frame_refusal s ≡ 0 → n ≡ at2 s 2 → Named n r → IsOk r
known_named s (Ok kind) accepted e named = refl
known_named s (Err refusal) accepted e named = absurd (true≢false (sym (accepted_known s accepted) ∙ ap is_known (sym (named.1 ∙ ap kind_of e))))
