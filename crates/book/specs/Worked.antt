-- Worked cases of the rules, as one table: a figure that the definitions compute, and what it should be. Assumes nothing.
use Rattle.std.specs.Prelude.{◌≡◌, ℕ, suc, true, false, List, [], ◌∷◌, ◌++◌, map}
use Rattle.std.specs.List.{AllByRecursion}
use Rattle.seatings.specs.Counts.{bit}
use Rattle.tallies.specs.Replicas.{replicas, replicas_kind}
use Rattle.tallies.specs.Traffic.{traffic, traffic_kind}
use Rattle.rules.specs.Rules.{plain_rule, fnv_rule}
use Rattle.seats.specs.Shapes.{Size}
use Rattle.seats.specs.Places.{place_of}
use Rattle.book.specs.Answers.{answer_number}
use Rattle.book.specs.Books.{post, blank, answers}

pub record Case : Type 0 where
  pub figure : ℕ
  pub should_be : ℕ

abbrev pub case : ℕ → ℕ → Case
case figure should_be = record { figure = figure; should_be = should_be }

-- a table of m buckets with one row
abbrev pub one_row : ℕ → ℕ → Size
one_row m range = record { buckets = m; most = 1; rows = 1; range = range }

-- the numbers that a list of posts by the plain-number rule answers, in four buckets with one row; the keys are of one byte
abbrev pub replicas_posted : List (ℕ × ℕ) → List ℕ
replicas_posted posts = map answer_number (answers replicas_kind plain_rule (blank (one_row 4 12)) (map (λ p. post (p.0 ∷ []) (replicas p.1) 8) posts))

-- two lists case by case; what either lacks makes a case that does not hold
abbrev pub case_by_case : List ℕ → List ℕ → List Case
case_by_case [] [] = []
case_by_case [] (y ∷ ys) = case (suc y) y ∷ case_by_case [] ys
case_by_case (x ∷ xs) [] = case x (suc x) ∷ case_by_case xs []
case_by_case (x ∷ xs) (y ∷ ys) = case x y ∷ case_by_case xs ys

abbrev pub cases : List Case
cases =
    -- 13 in 5 buckets: bucket 2, carry 3 at flag 1; bucket 3, carry 2 at flag 0
    case (place_of 5 13 true).bucket 2 ∷ case (place_of 5 13 true).carry 3 ∷ case (place_of 5 13 false).bucket 3 ∷ case (place_of 5 13 false).carry 2
    -- 12 in 5 buckets: bucket 2 only
    ∷ case (place_of 5 12 true).bucket 2 ∷ case (place_of 5 12 false).bucket 2
    -- 19 in 5 buckets: 3 and 4
    ∷ case (place_of 5 19 true).bucket 3 ∷ case (place_of 5 19 false).bucket 4
    -- 1 in 2 buckets: 0 and 1
    ∷ case (place_of 2 1 true).bucket 0 ∷ case (place_of 2 1 false).bucket 1
    -- in 5 buckets, with range 20: the empty key by both rules, and the key of the bytes 0 and 1 by the plain number
    ∷ case (fnv_rule [] 20) 17 ∷ case (plain_rule [] 20) 0 ∷ case (plain_rule (0 ∷ 1 ∷ []) 20) 16
    -- traffic of 0 packets and 5 octets is an amount
    ∷ case (bit (traffic_kind.is_amount (traffic 0 5))) 1
    -- 1, 6, 11 and 0 are seated, and then 5 has no seating
    ∷ case_by_case (replicas_posted ((1, 1) ∷ (6, 1) ∷ (11, 1) ∷ (0, 1) ∷ (5, 1) ∷ [])) (0 ∷ 0 ∷ 0 ∷ 0 ∷ 8 ∷ [])
    -- 4,294,967,294 and 1 join, and then one more passes the ceiling
    ++ case_by_case (replicas_posted ((1, 4294967294) ∷ (1, 1) ∷ (1, 1) ∷ [])) (0 ∷ 0 ∷ 7 ∷ [])

-- the figure is what it should be
abbrev pub Holds : Case → Type 0
Holds c = c.figure ≡ c.should_be

abbrev pub WorkedCasesHold : Type 0
WorkedCasesHold = AllByRecursion Holds cases
