-- The calls of src/main.rt, by the numbers that name them in a script.
use Rattle.std.specs.Prelude.{◌≡◌, ◌<◌, ℕ, Result, MatchResult}
use Rattle.headplay.specs.declared.Call.{Call}
use Rattle.headplay.specs.declared.Look.{Look}

abbrev pub call_number : Call → ℕ
call_number Call.Start = 0
call_number Call.Restart = 1
call_number Call.StartListener = 2
call_number Call.RestartListener = 3
call_number Call.Hear = 4
call_number Call.HearBatch = 5
call_number Call.Write = 6
call_number Call.Close = 7
call_number Call.Adopt = 8

-- the result is the call that this number names, or none of a number past them all
abbrev pub Named : ℕ → Result Call Look → Type 0
Named n r = MatchResult r (λ call. call_number call ≡ n) (λ _. 8 < n)
