-- No refusal has the number 0, which is none.
use Rattle.std.specs.Prelude.{Result, Ok, Err, IsErrAnd, is_ok, is_err}
use mathlib.Core.Path.{◌≡◌, refl, ap, sym, ◌∙◌}
use mathlib.Core.Bool.{true, false, true≢false}
use lib.Dec.{eqb}
use borrow.Author.Tests.{ne_eqb}
use mathlib.Core.Logic.{◌≢◌}
use Prim.Native.Nat.{ℕ}
use native.Mathlib.Omega.{arith}
use Rattle.terms.specs.declared.refusal.Refusal.{Refusal}
use Rattle.terms.specs.Refused.{number, number_of, numbered}

pub number_ne : (e : Refusal) → number e ≢ 0
number_ne Refusal.BadHeadCount = λ h. omega arith
number_ne Refusal.StruckLimitTooHigh = λ h. omega arith
number_ne Refusal.NumberTooHigh = λ h. omega arith
number_ne Refusal.PositionOutOfRange = λ h. omega arith
number_ne Refusal.PhaseOutOfRange = λ h. omega arith
number_ne Refusal.StatedLengthDiffers = λ h. omega arith
number_ne Refusal.UnknownKind = λ h. omega arith
number_ne Refusal.WrongLengthForKind = λ h. omega arith
number_ne Refusal.SenderIsNotLink = λ h. omega arith
number_ne Refusal.BadCountOrMarks = λ h. omega arith
number_ne Refusal.EntryOutOfRange = λ h. omega arith
number_ne Refusal.BadScale = λ h. omega arith
number_ne Refusal.BadRunRecord = λ h. omega arith
number_ne Refusal.TooManyStruck = λ h. omega arith
number_ne Refusal.BadBatchEntry = λ h. omega arith
number_ne Refusal.NoSuchRegister = λ h. omega arith
number_ne Refusal.ListenerSendsNothing = λ h. omega arith
number_ne Refusal.OneRoundLimitTooHigh = λ h. omega arith
number_ne Refusal.BadLimits = λ h. omega arith
number_ne Refusal.AlreadyHeard = λ h. omega arith
number_ne Refusal.OtherRound = λ h. omega arith
number_ne Refusal.OtherPhase = λ h. omega arith
number_ne Refusal.BufferTooShort = λ h. omega arith
number_ne Refusal.TooFewTrusted = λ h. omega arith
number_ne Refusal.RunHasEnded = λ h. omega arith
number_ne Refusal.NoOffer = λ h. omega arith

-- What a `?` passes on has the number that it was given.
pub passed_number : {A : Type 0} {x : ℕ} (e : Refusal) (r : Result A Refusal) → IsErrAnd r (λ d. d ≡ e) → number e ≡ x → number_of r ≡ x
passed_number e (Ok a) q h = absurd q
passed_number e (Err d) q h = ap number q ∙ h

pub passed_on : {A : Type 0} {x : ℕ} (e : Refusal) (r : Result A Refusal) → IsErrAnd r (λ d. d ≡ e) → number e ≡ x → numbered r ≡ Err x
passed_on e (Ok a) q h = absurd q
passed_on e (Err d) q h = ap (λ (y : ℕ). Err y) (ap number q ∙ h)

-- By its number, whether nothing is refused.
pub err_number : {A : Type 0} (r : Result A Refusal) → is_err r ≡ true → number_of r ≢ 0
err_number (Ok a) h = absurd (true≢false (sym h))
err_number (Err e) h = number_ne e

pub ok_number : {A : Type 0} (r : Result A Refusal) → is_err r ≡ false → number_of r ≡ 0
ok_number (Ok a) h = refl
ok_number (Err e) h = absurd (true≢false h)

pub taken_number : {A : Type 0} (r : Result A Refusal) → is_ok r ≡ eqb (number_of r) 0
taken_number (Ok a) = refl
taken_number (Err e) = sym (ne_eqb (number e) 0 (number_ne e))
