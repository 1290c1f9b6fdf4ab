-- The texts of the listing as the code makes them.
use Rattle.std.specs.Prelude.{List, [], ◌∷◌, ◌++◌, ℕ, ℤ}
use Rattle.terms.specs.Entry.{Entry}
use Rattle.convergence.specs.Phases.{lowest, highest, spread}
use Rattle.texts.specs.Numbers.{decimal, hex, spaced}
use Rattle.run_spec.specs.Listing.{text_of}
use Rattle.ring_spec.specs.Rounds.{receivers}
use Rattle.run_listing.specs.Held.{end_in}

-- a line of the listing, field by field
unfoldable pub fields : (p : ℕ) (low high : Entry) (wide collect confess : ℕ) → List ℕ
fields p low high wide collect confess =
    spaced (decimal p)
    (spaced (text_of low)
    (spaced (text_of high)
    (spaced (decimal wide)
    (spaced (hex 8 collect)
    (hex 8 confess ++ (10 ∷ []))))))

-- the line of a phase end as the player holds it; struck: in the round that ended the phase
unfoldable pub end_line : (n m p : ℕ) (positions : List ℤ) (collect confess struck : ℕ) → List ℕ
end_line n m p positions collect confess struck =
    let e = end_in n m struck positions in
    fields p (lowest receivers e) (highest receivers e) (spread receivers e) collect confess
