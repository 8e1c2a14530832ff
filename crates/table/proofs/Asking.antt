-- The call that a request asks for, with a part of the work words. Assumes nothing.
use Rattle.std.proofs.Common.{◌≡◌, ℕ, min, List, length, take, ◌∙◌, subst, arith, length-take}
use Rattle.tallies.specs.Kinds.{Kind}
use Rattle.rules.specs.Rules.{Meaning}
use Rattle.book.specs.Answers.{Answer}
use Rattle.book.specs.Books.{Call}
use Rattle.table.specs.declared.table.Table.{Table}
use Rattle.table.specs.Tables.{Did}

-- what a call has done, the same call has done
pub did_same : {V : Type 0} {k : Kind V} {rule : Meaning} {t u : Table V} {c d : Call V} {a : Answer V} → c ≡ d → Did k rule t c a u → Did k rule t d a u
did_same {V} {k} {rule} {t} {u} {c} {d} {a} same did = subst (λ x. Did k rule t x a u) same did

-- a front part of the words is as long as was asked for
pub part_long : (words : List ℕ) (n count : ℕ) → n ≡ min (length words) count → length (take n words) ≡ min (length words) count
part_long words n count is = length-take n words ∙ omega arith
