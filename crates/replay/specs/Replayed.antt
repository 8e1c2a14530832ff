-- A list of requests, made into a run. Assumes nothing.
use Rattle.std.specs.Prelude.{◌≡◌, ℕ, List, map}
use Rattle.tallies.specs.Kinds.{Kind}
use Rattle.rules.specs.Rules.{Meaning}
use Rattle.book.specs.Answers.{Answer}
use Rattle.book.specs.Books.{Book, Call, answers, after_all}
use Rattle.table.specs.declared.request.Request.{Request}
use Rattle.table.specs.declared.table.Table.{Table}
use Rattle.table.specs.Tables.{Keeps}
use Rattle.table.specs.Requests.{asked}
use Rattle.replay.specs.Runs.{Step, Ran, calls, told, last_table}

-- the calls that requests ask for, where so many work words are lent
abbrev pub all_asked : {V : Type 0} → ℕ → List (Request V) → List (Call V)
all_asked lent rs = map (asked lent) rs

-- a run of just these calls, answered just so, led from the table t to the table u; so for every book that t keeps, the answers
-- are the book's to this list, and u keeps the book after it
pub record Replayed {V : Type 0} (k : Kind V) (rule : Meaning) (t : Table V) (cs : List (Call V)) (said : List (Answer V)) (u : Table V) : Type 0 where
  pub steps : List (Step V)
  pub ran : Ran k rule t steps
  pub made : calls steps ≡ cs
  pub answered : told steps ≡ said
  pub left : last_table t steps ≡ u
  pub by_the_book : (b : Book V) → Keeps k t b → (said ≡ answers k rule b cs) × Keeps k u (after_all k rule b cs)
