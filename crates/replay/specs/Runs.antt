-- Whole runs of calls on one table. Assumes nothing.
use Rattle.std.specs.Prelude.{List, [], ◌∷◌, map}
use Rattle.tallies.specs.Kinds.{Kind}
use Rattle.rules.specs.Rules.{Meaning}
use Rattle.book.specs.Answers.{Answer}
use Rattle.book.specs.Books.{Book, Call, after}
use Rattle.table.specs.declared.table.Table.{Table}
use Rattle.table.specs.Tables.{Did}

-- a call, its answer and the table that it left
pub record Step (V : Type 0) : Type 0 where
  pub call : Call V
  pub answer : Answer V
  pub table : Table V

-- each call was made on the table that the one before it left, and nothing else changed the table
abbrev pub Ran : {V : Type 0} → Kind V → Meaning → Table V → List (Step V) → Type 0
Ran k rule t [] = Unit {0}
Ran k rule t (s ∷ ss) = Did k rule t s.call s.answer s.table × Ran k rule s.table ss

-- the calls of the steps
abbrev pub calls : {V : Type 0} → List (Step V) → List (Call V)
calls ss = map (λ s. s.call) ss

-- their answers
abbrev pub told : {V : Type 0} → List (Step V) → List (Answer V)
told ss = map (λ s. s.answer) ss

-- the table after the run
abbrev pub last_table : {V : Type 0} → Table V → List (Step V) → Table V
last_table t [] = t
last_table t (s ∷ ss) = last_table s.table ss

-- what holds of each step of a run, and of the book before it
abbrev pub Each : {V : Type 0} → (Book V → Step V → Type 0) → Kind V → Meaning → Book V → List (Step V) → Type 0
Each P k rule b [] = Unit {0}
Each P k rule b (s ∷ ss) = P b s × Each P k rule (after k rule b s.call) ss
