use Rattle.std.proofs.Common.{◌≡◌, Bool, true, ◌&&◌, eqb, List, [], ◌∷◌, refl}
use Rattle.std.specs.List.{AllByRecursion}
use Rattle.std.proofs.lemmas.Bool.{and_parts, eqb-true}
use Rattle.seatings.specs.Seatings.{seatable}
use Rattle.book.specs.Worked.{Case, Holds, cases}
use Rattle.book.proofs.worked.worked_cases_hold.Goals as goal

-- one test of the whole table
abbrev passes : List Case → Bool
passes [] = true
passes (c ∷ cs) = eqb c.figure c.should_be && passes cs

each_holds : (cs : List Case) → passes cs ≡ true → AllByRecursion Holds cs
each_holds [] e = tt
each_holds (c ∷ cs) e =
    let (this, rest) = and_parts (eqb c.figure c.should_be) (passes cs) e in
    (eqb-true c.figure c.should_be this, each_holds cs rest)

pub returns : goal.returns
unfolding seatable
returns c = each_holds cases refl
