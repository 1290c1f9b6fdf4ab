-- The listing: a function of the phase ends played and of how the file ended. Bytes are ASCII.
use Rattle.std.specs.Prelude.{List, [], ◌∷◌, ◌++◌, ℕ, zero, suc, length, None, Some}
use Rattle.terms.specs.Entry.{Entry}
use Rattle.texts.specs.Numbers.{decimal, whole, hex, spaced}
use Rattle.convergence.specs.Phases.{lowest, highest, spread}
use Rattle.ring_spec.specs.Rounds.{PhaseEnd, receivers, as_end}
use Rattle.run_spec.specs.RunFile.{File, read_file, ends_so_far, ending, ends_played}

abbrev pub text_of : Entry → List ℕ
text_of None = []
text_of (Some v) = whole v

-- "phase low high spread collect confess" (P54)
unfoldable pub title : List ℕ
title =
    112 ∷ 104 ∷ 97 ∷ 115 ∷ 101 ∷ 32 ∷ 108 ∷ 111 ∷ 119 ∷ 32 ∷ 104 ∷ 105 ∷ 103 ∷ 104 ∷ 32 ∷ 115 ∷ 112 ∷ 114 ∷ 101 ∷ 97 ∷ 100 ∷ 32
    ∷ 99 ∷ 111 ∷ 108 ∷ 108 ∷ 101 ∷ 99 ∷ 116 ∷ 32 ∷ 99 ∷ 111 ∷ 110 ∷ 102 ∷ 101 ∷ 115 ∷ 115 ∷ 10 ∷ []

-- of n heads and m listeners: phase, lowest, highest and spread of the sound ones, the heads' mark words of the two rounds as eight
-- hexadecimal digits (P58, Q57)
unfoldable pub line : (n m p : ℕ) (e : PhaseEnd) → List ℕ
line n m p e =
    spaced (decimal p)
    (spaced (text_of (lowest receivers (as_end n m e)))
    (spaced (text_of (highest receivers (as_end n m e)))
    (spaced (decimal (spread receivers (as_end n m e)))
    (spaced (hex 8 e.collect)
    (hex 8 e.confess ++ (10 ∷ []))))))

-- a line for each end, the earliest first: the list has the latest first, and the start is end 0
unfoldable pub lines : ℕ → ℕ → List PhaseEnd → List ℕ
lines n m [] = []
lines n m (e ∷ es) = lines n m es ++ line n m (length es) e

-- "end", or "refused" and the number
abbrev pub verdict : ℕ → List ℕ
verdict zero = 101 ∷ 110 ∷ 100 ∷ 10 ∷ []
verdict (suc c) = 114 ∷ 101 ∷ 102 ∷ 117 ∷ 115 ∷ 101 ∷ 100 ∷ 32 ∷ decimal (suc c) ++ (10 ∷ [])

-- what has been printed when the bytes so far are read: the lines of the rounds that were played, the pending round not (P54)
unfoldable pub shown : File → List ℕ
shown F = title ++ lines F.setup.n F.setup.listeners (ends_so_far F)

-- what is printed in all (P52, P56)
unfoldable pub listing_of : File → List ℕ
listing_of F = title ++ lines F.setup.n F.setup.listeners (ends_played F) ++ verdict (ending F)

abbrev pub listing : List ℕ → List ℕ
listing s = listing_of (read_file s)
