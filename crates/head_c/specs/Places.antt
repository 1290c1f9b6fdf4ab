-- The place of each number of a head in its block of 1,116 words. src/place.rt has the same table for the code.
use Rattle.std.specs.Prelude.{ℕ}

-- ---- the seat

abbrev pub n : ℕ
n = 0

abbrev pub f : ℕ
f = 1

abbrev pub number : ℕ
number = 2

abbrev pub phase : ℕ
phase = 3

abbrev pub round : ℕ
round = 4

abbrev pub healed : ℕ
healed = 5

abbrev pub ended : ℕ
ended = 6

-- whether a position is held, and the position
abbrev pub held : ℕ
held = 7

abbrev pub position : ℕ
position = 8

-- whether a kept range is held; its lowest and highest entry, its trim and its position (document 02, A2)
abbrev pub ranged : ℕ
ranged = 9

abbrev pub low : ℕ
low = 10

abbrev pub high : ℕ
high = 11

abbrev pub trim : ℕ
trim = 12

abbrev pub middle : ℕ
middle = 13

-- the family: 0 for two rounds, else one (document 02, A9)
abbrev pub family : ℕ
family = 14

-- phase ends since the start or restart (document 02, A10)
abbrev pub since : ℕ
since = 15

-- ---- what C keeps outside the record: pending events and mask (document 02, A5), and an offer (A8); 23 is room for more

abbrev pub events : ℕ
events = 16

abbrev pub mask : ℕ
mask = 17

-- whether there is an offer; its lowest and highest kept entry, its trim and its position
abbrev pub offered : ℕ
offered = 18

abbrev pub offer_low : ℕ
offer_low = 19

abbrev pub offer_high : ℕ
offer_high = 20

abbrev pub offer_trim : ℕ
offer_trim = 21

abbrev pub offer_middle : ℕ
offer_middle = 22

-- ---- what was heard

-- the links heard in this round
abbrev pub heard : ℕ
heard = 24

-- the list: its marks, and its 32 numbers
abbrev pub marks : ℕ
marks = 25

abbrev pub entries : ℕ
entries = 26

-- the links that confessed, and those that gave a list
abbrev pub confessed : ℕ
confessed = 58

abbrev pub listed : ℕ
listed = 59

-- the lists received: 32 mark words, and 32 lists of 32 numbers
abbrev pub list_marks : ℕ
list_marks = 60

abbrev pub lists : ℕ
lists = 92
