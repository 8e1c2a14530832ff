use Rattle.std.proofs.Common.{arith}
use Rattle.std.proofs.lemmas.Bool.Decides.{nat_tests}
use Rattle.seats.proofs.shape.Shape.check.Goals as goal
use Rattle.seats.proofs.shape.Shape.check.Goals.{then-not-contains-2-via-then-not-contains-2, then-not-contains-2-via-else-not-contains-2+then-not-contains-3}

pub returns-then-not-contains-2 : goal.returns-then-not-contains-2
returns-then-not-contains-2 c =
    elim c.then-not-contains-2.branch [
      | then-not-contains-2-via-then-not-contains-2 w ↦ grind (arith, nat_tests)
      | then-not-contains-2-via-else-not-contains-2+then-not-contains-3 w ↦ grind (arith, nat_tests)
    ]

pub returns-then-seats-buckets : goal.returns-then-seats-buckets
returns-then-seats-buckets c = grind (arith, nat_tests)
