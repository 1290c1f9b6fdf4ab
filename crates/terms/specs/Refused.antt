-- The refusals of src/refusal.rt, by their numbers. A call of the code answers a refusal by its name; what is promised of it is stated by the
-- number, which is what C, the listings and document 01 speak of.
use Rattle.std.specs.Prelude.{ℕ, Result, Ok, Err}
use Rattle.terms.specs.Refusals as refusal
use Rattle.terms.specs.declared.refusal.Refusal.{Refusal}

abbrev pub number : Refusal → ℕ
number Refusal.BadHeadCount = refusal.bad_head_count
number Refusal.StruckLimitTooHigh = refusal.struck_limit_too_high
number Refusal.NumberTooHigh = refusal.number_too_high
number Refusal.PositionOutOfRange = refusal.position_out_of_range
number Refusal.PhaseOutOfRange = refusal.phase_out_of_range
number Refusal.StatedLengthDiffers = refusal.stated_length_differs
number Refusal.UnknownKind = refusal.unknown_kind
number Refusal.WrongLengthForKind = refusal.wrong_length_for_kind
number Refusal.SenderIsNotLink = refusal.sender_is_not_link
number Refusal.BadCountOrMarks = refusal.bad_count_or_marks
number Refusal.EntryOutOfRange = refusal.entry_out_of_range
number Refusal.BadScale = refusal.bad_scale
number Refusal.BadRunRecord = refusal.bad_run_record
number Refusal.TooManyStruck = refusal.too_many_struck
number Refusal.BadBatchEntry = refusal.bad_batch_entry
number Refusal.NoSuchRegister = refusal.no_such_register
number Refusal.ListenerSendsNothing = refusal.listener_sends_nothing
number Refusal.OneRoundLimitTooHigh = refusal.one_round_limit_too_high
number Refusal.BadLimits = refusal.bad_limits
number Refusal.AlreadyHeard = refusal.already_heard
number Refusal.OtherRound = refusal.other_round
number Refusal.OtherPhase = refusal.other_phase
number Refusal.BufferTooShort = refusal.buffer_too_short
number Refusal.TooFewTrusted = refusal.too_few_trusted
number Refusal.RunHasEnded = refusal.run_has_ended
number Refusal.NoOffer = refusal.no_offer

-- the number of an answer: 0 if nothing was refused
abbrev pub number_of : {A : Type 0} → Result A Refusal → ℕ
number_of (Ok x) = 0
number_of (Err e) = number e

-- an answer with the number of its refusal
abbrev pub numbered : {A : Type 0} → Result A Refusal → Result A ℕ
numbered (Ok x) = Ok x
numbered (Err e) = Err (number e)
