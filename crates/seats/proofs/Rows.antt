-- Reading the seats of a bucket, row by row. Assumes nothing.
use Rattle.std.proofs.Common.{◌≡◌, ℕ, ◌+◌, ◌<◌, ◌≤◌, List, length, get_or, ap, ◌∙◌, arith}
use Rattle.std.proofs.lemmas.List.{get_or_read}
use Rattle.std.proofs.lemmas.List.Edits.{get_or-between, length-between}
use Rattle.std.specs.List.{between}
use Rattle.seats.specs.declared.seat.Seat.{Seat}
use Rattle.seats.specs.Seats.{at, vacant}

-- what is read at a row of a part of the seats
pub read_row : {X : Type 0} (e : X) (seats rows : List (Seat X)) (first end row : ℕ) (x : Seat X) → rows ≡ between first end seats → end ≤ length seats → row < length rows →
    x ≡ get_or rows row x → (first + row < end) × (x ≡ at e seats (first + row))
read_row e seats rows first end row x part inside low is =
    let long = ap length part ∙ length-between seats first end inside in
    let within : first + row < end = omega (arith, long) in
    (within, get_or_read rows row x low is (vacant e) ∙ ap (λ xs. get_or xs row (vacant e)) part ∙ get_or-between seats first end row (vacant e) within)
