-- How the search for a trusted entry holds what the links gave: a mark word for each list, and each entry of a column as one number, 0 for
-- null. Nothing here is needed to read what `support`, `trusted_entry` and `trusted_table` promise.
use Rattle.std.specs.Prelude.{◌≡◌, Bool, true, false, not, ◌&&◌, ◌≢◌, List, [], ℕ, zero, suc, ◌%◌, ◌≤◌, ◌^◌, eqb, leb, ℤ, get_or, set, replicate, None, Some}
use Rattle.terms.specs.Entry.{Entry}
use Rattle.fields.specs.Bytes.{signed_of, word_of}
use Rattle.marks.specs.Marks.{bit_of}
use Rattle.entries.specs.Entries.{entry_at}
use Rattle.terms.specs.Counting.{Each, sum, bit}
use Rattle.convergence.specs.Trust.{Seen, is, seen, choose}
use Rattle.settle_trust.specs.declared.Links.{Links}

-- the mark word of what a link gave: no list has no marks
abbrev pub marks_given : Bool → Bool → ℕ → ℕ
marks_given true lists marks = 0
marks_given false true marks = marks
marks_given false false marks = 0

abbrev pub marks_of_link : Links → ℕ → ℕ
marks_of_link g k = marks_given (bit_of g.confessed k) (bit_of g.listed k) (get_or g.marks k 0)

-- the mark words of what the first n links gave, and 0 from there to 32
unfoldable pub marks_to : Links → ℕ → List ℕ
marks_to g zero = replicate 32 0
marks_to g (suc k) = set (marks_to g k) k (marks_of_link g k)

-- entry j of the list of link k
abbrev pub column_of : (marks : List ℕ) (lists : List (List ℤ)) (j k : ℕ) → Entry
column_of marks lists j k = entry_at (get_or marks k 0) (get_or lists k []) j

-- the cell of an entry: 0 for null, else one more than the word of the position
abbrev pub cell_for : Entry → ℕ
cell_for None = 0
cell_for (Some v) = suc (word_of v)

-- the entry that a cell holds
abbrev pub cell_entry : ℕ → Entry
cell_entry zero = None
cell_entry (suc w) = Some (signed_of (w % 2 ^ 32))

-- x is the cell of the entry e, and e is read back from it, as is every position of 32 bits
pub record CellOf (x : ℕ) (e : Entry) : Type 0 where
  pub cell : x ≡ cell_for e
  pub entry : cell_entry x ≡ e

-- the first n cells of a column are those of the entries E
abbrev pub HoldsEach : ℕ → List ℕ → (ℕ → Entry) → Type 0
HoldsEach n cells E = Each n (λ k. CellOf (get_or cells k 0) (E k))

-- how many of the first n cells are x
abbrev pub equal_to : ℕ → List ℕ → ℕ → ℕ
equal_to n cells x = sum n (λ k. bit (eqb (get_or cells k 0) x))

-- a cell that is not null, not the one found, and is in `need` lists or more
abbrev pub is_another : (n need : ℕ) (cells : List ℕ) (found x : ℕ) → Bool
is_another n need cells found x = not (eqb x 0) && (not (eqb x found) && leb need (equal_to n cells x))

-- x is the only number but 0 that is `need` times or more among the first n cells
pub record OnlyCell (n need : ℕ) (cells : List ℕ) (x : ℕ) : Type 0 where
  pub some : x ≢ 0
  pub reaches : need ≤ equal_to n cells x
  pub alone : (y : ℕ) → y ≢ 0 → need ≤ equal_to n cells y → y ≡ x

-- what the first n cells agree on, whatever they hold: that number, or 0 if there is none (`one_answer`, proofs/Search.antt: no two)
pub data AgreedCell (n need : ℕ) (cells : List ℕ) : ℕ → Type 0 where
  only : (x : ℕ) → OnlyCell n need cells x → AgreedCell n need cells x
  no_such : ((x : ℕ) → OnlyCell n need cells x → ⊥) → AgreedCell n need cells 0

-- whether u is `need` times or more among the first n entries
abbrev pub stands_in : (n need : ℕ) (E : ℕ → Entry) (u : ℤ) → Bool
stands_in n need E u = leb need (sum n (λ k. is u (E k)))

-- the positions that are so often among the first n entries
abbrev pub agreed : ℕ → ℕ → (ℕ → Entry) → Seen
agreed n need E = seen (stands_in n need E) n E

-- the trusted entry of a head from what n links say of it, by whether its link confessed, and by how many lists have to agree
abbrev pub decided : (confessed : Bool) (n need : ℕ) (E : ℕ → Entry) → Entry
decided confessed n need E = choose confessed (eqb need 0) (agreed n need E)
