-- The book's call that a request asks for, and what it does to the work words. Assumes nothing.
use Rattle.std.specs.Prelude.{◌≡◌, ℕ, min, List, length, drop}
use Rattle.book.specs.Answers.{Answer}
use Rattle.book.specs.Books.{Call, post, reverse, erase, look_up, widen, narrow}
use Rattle.table.specs.declared.request.Request.{Request}
use Rattle.table.specs.declared.request.Request.TheVariants.{Post, Reverse, Erase, LookUp, Widen, Narrow}
use Rattle.table.specs.Tables.{SparesWords}

-- the call, where so many work words are lent
abbrev pub asked : {V : Type 0} → ℕ → Request V → Call V
asked lent (Post key amount words) = post key.now amount (min lent words)
asked lent (Reverse key amount) = reverse key.now amount
asked lent (Erase key) = erase key.now
asked lent (LookUp key) = look_up key.now
asked lent Widen = widen
asked lent (Narrow words) = narrow (min lent words)

-- the work words past the first n are as they were
abbrev pub SparesPast : ℕ → List ℕ → List ℕ → Type 0
SparesPast n words words' = drop n words' ≡ drop n words

-- only a post or a narrowing that passes the first checks uses the work words, and of them only those that go with it
abbrev pub WordsAfter : {V : Type 0} → Request V → Answer V → List ℕ → List ℕ → Type 0
WordsAfter (Post _ _ n) a words words' = SparesWords a words words' × SparesPast (min (length words) n) words words'
WordsAfter (Reverse _ _) a words words' = words' ≡ words
WordsAfter (Erase _) a words words' = words' ≡ words
WordsAfter (LookUp _) a words words' = words' ≡ words
WordsAfter Widen a words words' = words' ≡ words
WordsAfter (Narrow n) a words words' = SparesWords a words words' × SparesPast (min (length words) n) words words'
