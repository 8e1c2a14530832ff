use Rattle.std.proofs.Common.{◌≡◌, length}
use Rattle.seats.specs.Shapes.{size}
use Rattle.book.specs.Books.{blank}
use Rattle.exports.specs.Calls.{lent, row_of, told}
use Rattle.exports.proofs.Answered.{Going}
use Rattle.exports.proofs.row.make_row.Given as goal

abbrev pub invariant-loop-i : goal.invariant-loop-i
invariant-loop-i l =
    Going (told (blank (size l.initial.table.shape)) (row_of l.count l.calls)) l.initial.numbers l.table l.calls l.count l.numbers l.i
    × (length l.words ≡ lent)
