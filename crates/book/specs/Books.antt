-- The account book: what each call answers and what it leaves, with no seats. Assumes nothing.
use Rattle.std.specs.Prelude.{ℕ, ◌+◌, ◌-◌, ◌*◌, Bool, cond, not, List, [], ◌∷◌, length, Some, None, Option, Ok, Err, nat_lt}
use Rattle.seatings.specs.Counts.{count}
use Rattle.seatings.specs.Seatings.{seatable, also}
use Rattle.tallies.specs.Kinds.{Kind}
use Rattle.rules.specs.Rules.{Meaning}
use Rattle.seats.specs.Shapes.{Size, with_rows}
use Rattle.seats.specs.Seats.{held, changed}
use Rattle.seats.specs.declared.refusal.Refusal.{Refusal}
use Rattle.seats.specs.declared.refusal.Refusal.TheVariants.{Words, LongKey, NoAmount, Ceiling, NoSeating, NotHeld, NotTakenBack, RowLimit, NoNarrowSeating}
use Rattle.book.specs.declared.answer.Outcome.TheVariants.{Tallied, Held, Sized}
use Rattle.book.specs.Answers.{Answer}

-- the table's numbers, and the tally of each fingerprint that is held
pub record Book (V : Type 0) : Type 0 where
  pub size : Size
  pub entries : ℕ → Option V

-- a call, with its key, its amount and how many work words came with it
pub data Call (V : Type 0) : Type 0 where
  post : List ℕ → V → ℕ → Call V
  reverse : List ℕ → V → Call V
  erase : List ℕ → Call V
  look_up : List ℕ → Call V
  widen : Call V
  narrow : ℕ → Call V

-- the book of a table that was just opened
abbrev pub blank : {V : Type 0} → Size → Book V
blank z = record { size = z; entries = λ _. None }

-- how many fingerprints are held
abbrev pub holding : {V : Type 0} → Book V → ℕ
holding b = count (held b.entries) b.size.range

-- the fingerprint of a key
abbrev pub fingerprint : {V : Type 0} → Meaning → Book V → List ℕ → ℕ
fingerprint rule b key = rule key b.size.range

-- the book with this at f
abbrev pub enter : {V : Type 0} → Book V → ℕ → Option V → Book V
enter b f entry = record { size = b.size; entries = changed b.entries f entry }

-- the book with other rows in use
abbrev pub resize : {V : Type 0} → Book V → ℕ → Book V
resize b rows = record { size = with_rows b.size rows; entries = b.entries }

-- fewer work words than two for each bucket
abbrev pub too_few : {V : Type 0} → Book V → ℕ → Bool
too_few b words = nat_lt words (2 * b.size.buckets)

-- a key of more than 64 bytes
abbrev pub too_long : List ℕ → Bool
too_long key = nat_lt 64 (length key)

-- whether what is held has a seating together with f
abbrev pub has_room : {V : Type 0} → Book V → ℕ → Bool
has_room b f = seatable b.size.buckets b.size.rows b.size.range (also f (held b.entries))

-- whether what is held has a seating in one row fewer
abbrev pub has_slack : {V : Type 0} → Book V → Bool
has_slack b = seatable b.size.buckets (b.size.rows - 1) b.size.range (held b.entries)

-- what a call answers, and the book after it
pub record Turn (V : Type 0) : Type 0 where
  pub answer : Answer V
  pub book : Book V

-- refused, and the book as it was
abbrev pub turned_away : {V : Type 0} → Book V → Refusal → Turn V
turned_away b why = record { answer = Err why; book = b }

-- turned away if the test holds, and else the rest
abbrev pub check : {V : Type 0} → Book V → Bool → Refusal → Turn V → Turn V
check b test why rest = cond test (turned_away b why) rest

-- f has the tally v then, and the answer tells it
abbrev pub gets : {V : Type 0} → Book V → ℕ → V → Turn V
gets b f v = record { answer = Ok (Tallied v); book = enter b f (Some v) }

abbrev pub resized : {V : Type 0} → Book V → Turn V
resized b = record { answer = Ok (Sized (record { rows = b.size.rows; held = holding b })); book = b }

-- a post, by what joining gives, and by what is held
abbrev pub joined : {V : Type 0} → Book V → ℕ → Option V → Turn V
joined b f None = turned_away b Ceiling
joined b f (Some v) = gets b f v

-- a post, by what is held
abbrev pub posted : {V : Type 0} → Kind V → Book V → ℕ → V → Option V → Turn V
posted k b f amount None = check b (not (has_room b f)) NoSeating (gets b f amount)
posted k b f amount (Some v) = joined b f (k.join v amount)

-- a reversal, by what taking back gives, and by what is held
abbrev pub taken_back : {V : Type 0} → Kind V → Book V → ℕ → Option V → Turn V
taken_back k b f None = turned_away b NotTakenBack
taken_back k b f (Some v) =
    cond (k.is_empty v) (record { answer = Ok (Held None); book = enter b f None }) (record { answer = Ok (Held (Some v)); book = enter b f (Some v) })

-- a reversal, by what is held
abbrev pub reversed : {V : Type 0} → Kind V → Book V → ℕ → V → Option V → Turn V
reversed k b f amount None = turned_away b NotHeld
reversed k b f amount (Some v) = taken_back k b f (k.take_back v amount)

-- an erasure, by what is held
abbrev pub erased : {V : Type 0} → Book V → ℕ → Option V → Turn V
erased b f None = turned_away b NotHeld
erased b f (Some v) = record { answer = Ok (Tallied v); book = enter b f None }

-- each call with its checks in their order
abbrev pub turn : {V : Type 0} → Kind V → Meaning → Book V → Call V → Turn V
turn k rule b (post key amount words) =
    check b (too_few b words) Words
    (check b (too_long key) LongKey
    (check b (not (k.is_amount amount)) NoAmount
    (posted k b (fingerprint rule b key) amount (b.entries (fingerprint rule b key)))))
turn k rule b (reverse key amount) =
    check b (too_long key) LongKey
    (check b (not (k.is_amount amount)) NoAmount
    (reversed k b (fingerprint rule b key) amount (b.entries (fingerprint rule b key))))
turn k rule b (erase key) =
    check b (too_long key) LongKey
    (erased b (fingerprint rule b key) (b.entries (fingerprint rule b key)))
turn k rule b (look_up key) =
    check b (too_long key) LongKey
    (record { answer = Ok (Held (b.entries (fingerprint rule b key))); book = b })
turn k rule b widen =
    check b (not (nat_lt b.size.rows b.size.most)) RowLimit
    (resized (resize b (b.size.rows + 1)))
turn k rule b (narrow words) =
    check b (too_few b words) Words
    (check b (not (nat_lt 1 b.size.rows)) RowLimit
    (check b (not (has_slack b)) NoNarrowSeating
    (resized (resize b (b.size.rows - 1)))))

-- what the call answers
abbrev pub answer : {V : Type 0} → Kind V → Meaning → Book V → Call V → Answer V
answer k rule b c = (turn k rule b c).answer

-- the book after the call
abbrev pub after : {V : Type 0} → Kind V → Meaning → Book V → Call V → Book V
after k rule b c = (turn k rule b c).book

-- a list of calls, one after another
abbrev pub answers : {V : Type 0} → Kind V → Meaning → Book V → List (Call V) → List (Answer V)
answers k rule b [] = []
answers k rule b (c ∷ cs) = answer k rule b c ∷ answers k rule (after k rule b c) cs

-- the book after all calls of a list
abbrev pub after_all : {V : Type 0} → Kind V → Meaning → Book V → List (Call V) → Book V
after_all k rule b [] = b
after_all k rule b (c ∷ cs) = after_all k rule (after k rule b c) cs
