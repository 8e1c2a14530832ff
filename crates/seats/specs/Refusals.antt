-- The number of each refusal. Assumes nothing.
use Rattle.std.specs.Prelude.{ℕ}
use Rattle.seats.specs.declared.refusal.Refusal.{Refusal}
use Rattle.seats.specs.declared.refusal.Refusal.TheVariants.{Buckets, Rows, Seats, Words, LongKey, NoAmount, Ceiling, NoSeating, NotHeld, NotTakenBack, RowLimit, NoNarrowSeating}

-- the number by which answers name the refusal
abbrev pub refusal_number : Refusal → ℕ
refusal_number Buckets = 1
refusal_number Rows = 2
refusal_number Seats = 3
refusal_number Words = 4
refusal_number LongKey = 5
refusal_number NoAmount = 6
refusal_number Ceiling = 7
refusal_number NoSeating = 8
refusal_number NotHeld = 9
refusal_number NotTakenBack = 10
refusal_number RowLimit = 11
refusal_number NoNarrowSeating = 12
