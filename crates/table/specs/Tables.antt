-- When a table keeps a book, and what a call has done. Assumes nothing.
use Rattle.std.specs.Prelude.{◌≡◌, ℕ, ◌+◌, ◌*◌, ◌<◌, ◌≤◌, Bool, true, false, List, length, replicate, Some, Err, ◌≢◌}
use Rattle.tallies.specs.Kinds.{Kind}
use Rattle.rules.specs.Rules.{Meaning}
use Rattle.seats.specs.declared.refusal.Refusal.{Refusal}
use Rattle.seats.specs.declared.refusal.Refusal.TheVariants.{Buckets, Rows, Seats, Words, LongKey, NoAmount, Ceiling, NoSeating, NotHeld, NotTakenBack, RowLimit, NoNarrowSeating}
use Rattle.seats.specs.Shapes.{size}
use Rattle.seats.specs.Seats.{Shows, at, vacant}
use Rattle.book.specs.Answers.{Answer}
use Rattle.book.specs.Books.{Book, Call, blank, holding, answer, after}
use Rattle.table.specs.declared.table.Table.{Table}

-- the table has the book's numbers, and its seats show just the book's entries, each in one seat; all seats past the rows in
-- use are empty; what is held are values of the kind, and the table counts them right
pub record Keeps {V : Type 0} (k : Kind V) (t : Table V) (b : Book V) : Type 0 where
  pub sized : b.size ≡ size t.shape
  pub room : t.shape.buckets * t.shape.most ≡ length t.seats.now
  pub shows : Shows k.empty t.seats.now (size t.shape) b.entries
  pub rest : (bucket row : ℕ) → bucket < t.shape.buckets → t.shape.rows ≤ row → row < t.shape.most → at k.empty t.seats.now (bucket * t.shape.most + row) ≡ vacant k.empty
  pub values : (f : ℕ) (v : V) → b.entries f ≡ Some v → k.is_value v ≡ true
  pub counted : t.held ≡ holding b

-- the table was just opened, on as many seats as it needs
pub record Fresh {V : Type 0} (k : Kind V) (t : Table V) : Type 0 where
  pub empty : t.seats.now ≡ replicate (t.shape.buckets * t.shape.most) (vacant k.empty)
  pub none : t.held ≡ 0

-- the book that it then keeps
abbrev pub first_book : {V : Type 0} → Table V → Book V
first_book t = blank (size t.shape)

-- the call c, answered by a, has made the table t into u: for every book that t keeps the answer is the book's, and u keeps
-- the book after the call; a refusal leaves the seats as they were, but for that of narrowing; and the seats are those lent to t
pub record Did {V : Type 0} (k : Kind V) (rule : Meaning) (t : Table V) (c : Call V) (a : Answer V) (u : Table V) : Type 0 where
  pub answers : (b : Book V) → Keeps k t b → a ≡ answer k rule b c
  pub keeps : (b : Book V) → Keeps k t b → Keeps k u (after k rule b c)
  pub still : (why : Refusal) → a ≡ Err why → (why ≢ NoNarrowSeating) → u.seats.now ≡ t.seats.now
  pub lent : u.seats.ghost_name ≡ t.seats.ghost_name

-- the refusals that come before the work words are used
abbrev pub is_early : Refusal → Bool
is_early Buckets = false
is_early Rows = false
is_early Seats = false
is_early Words = true
is_early LongKey = true
is_early NoAmount = true
is_early Ceiling = true
is_early NoSeating = false
is_early NotHeld = false
is_early NotTakenBack = false
is_early RowLimit = true
is_early NoNarrowSeating = false

-- such a refusal leaves the work words as they were
abbrev pub SparesWords : {V : Type 0} → Answer V → List ℕ → List ℕ → Type 0
SparesWords a words words' = (why : Refusal) → a ≡ Err why → is_early why ≡ true → words' ≡ words
