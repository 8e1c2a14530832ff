-- What clearing the last row in use promises. `e` is the empty tally; the seats are `before` and `after` the call, and `words`
-- is how many work words were lent. Assumes nothing.
use Rattle.std.specs.Prelude.{◌≡◌, ℕ, ◌+◌, ◌-◌, ◌*◌, ◌<◌, cond, not, ◌⊎◌, List, length, Some, None, Ok, Err, Option, Result, ◌==◌, ◌≢◌, nat_lt}
use Rattle.seatings.specs.Seatings.{Seating}
use Rattle.seats.specs.declared.refusal.Refusal.{Refusal}
use Rattle.seats.specs.declared.refusal.Refusal.TheVariants.{Seats, Words, RowLimit, NoNarrowSeating}
use Rattle.seats.specs.declared.seat.Seat.{Seat}
use Rattle.seats.specs.declared.shape.Shape.{Shape}
use Rattle.seats.specs.Shapes.{Size, size, with_rows}
use Rattle.seats.specs.Seats.{Shows, at, vacant, held}
use Rattle.moves.specs.Walk.{Beyond}

-- what turns the call away at once: too few work words, a table with one row in use, or other seats than it needs
abbrev pub stops : Size → ℕ → ℕ → Option Refusal
stops z seats words =
    cond (nat_lt words (2 * z.buckets)) (Some Words)
    (cond (not (nat_lt 1 z.rows)) (Some RowLimit)
    (cond (not (seats == z.buckets * z.most)) (Some Seats) None))

-- one row fewer in use
abbrev pub narrower : Size → Size
narrower z = with_rows z (z.rows - 1)

-- the seat of a bucket in the last row in use
abbrev pub last_seat : Size → ℕ → ℕ
last_seat z bucket = bucket * z.most + (z.rows - 1)

-- what the seats showed they show still, and the rows not in use are as they were
pub record Shifted {X : Type 0} (e : X) (before after : List (Seat X)) (z : Size) : Type 0 where
  pub shows : (entries : ℕ → Option X) → Shows e before z entries → Shows e after z entries
  pub beyond : Beyond e before after z

-- what the seats show has no seating in one row fewer
abbrev pub Crowded : {X : Type 0} → X → List (Seat X) → Size → Type 0
Crowded {X} e seats z = (entries : ℕ → Option X) → Shows e seats z entries → Seating z.buckets (z.rows - 1) z.range (held entries) → ⊥

-- the last row's seat of one bucket is empty, and those of the others are as they were; or its entry has no seat in the rows
-- below, and all seats are as they were
abbrev pub Lowered : {X : Type 0} → X → List (Seat X) → List (Seat X) → Size → ℕ → Result (Unit {0}) Refusal → Type 0
Lowered e before after z bucket (Ok _) =
    Shifted e before after z × ((at e after (last_seat z bucket)).tally ≡ e)
    × ((other : ℕ) → other < z.buckets → (other ≢ bucket) → at e after (last_seat z other) ≡ at e before (last_seat z other))
Lowered e before after z bucket (Err why) = (why ≡ NoNarrowSeating) × (after ≡ before) × Crowded e before z

-- the last row is cleared: what the seats showed, they show in one row fewer, and the rows past it are as they were
pub record Cleared {X : Type 0} (e : X) (before after : List (Seat X)) (z : Size) : Type 0 where
  pub shows : (entries : ℕ → Option X) → Shows e before z entries → Shows e after (narrower z) entries
  pub empty : (entries : ℕ → Option X) → Shows e before z entries → (bucket : ℕ) → bucket < z.buckets → at e after (last_seat z bucket) ≡ vacant e
  pub beyond : Beyond e before after z

-- the call is turned away at once, with the seats as they were; or the last row cannot be cleared
abbrev pub Narrowed : {X : Type 0} → X → List (Seat X) → List (Seat X) → Size → ℕ → Result Shape Refusal → Type 0
Narrowed e before after z words (Ok s) = (stops z (length before) words ≡ None) × (size s ≡ narrower z) × Cleared e before after z
Narrowed e before after z words (Err why) =
    ((stops z (length before) words ≡ Some why) × (after ≡ before))
    ⊎ ((stops z (length before) words ≡ None) × (why ≡ NoNarrowSeating) × Shifted e before after z × Crowded e before z)
