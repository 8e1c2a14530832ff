-- The theorem over whole runs: a table is held against an account book that is given the same calls. Assumes nothing.
use Rattle.std.specs.Prelude.{◌≡◌, ◌-◌, true, false, List, None, Err, nat_lt}
use Rattle.tallies.specs.Kinds.{Kind}
use Rattle.rules.specs.Rules.{Meaning}
use Rattle.seatings.specs.Seatings.{Seating, also}
use Rattle.seats.specs.declared.refusal.Refusal.TheVariants.{NoSeating, NoNarrowSeating}
use Rattle.seats.specs.Seats.{held}
use Rattle.book.specs.Answers.{Answer}
use Rattle.book.specs.Books.{Book, Call, post, reverse, erase, look_up, widen, narrow, fingerprint, too_few, too_long, answer, after, after_all}
use Rattle.table.specs.declared.table.Table.{Table}
use Rattle.table.specs.Tables.{Keeps, Fresh, first_book}
use Rattle.replay.specs.Runs.{Step, Ran, Each, calls, told, last_table}

-- the answer is the book's, and the table after the call keeps the book after it: it has the book's rows in use and holds the
-- book's fingerprints, each in one seat, with their tallies, and no others
abbrev pub AsBook : {V : Type 0} → Kind V → Meaning → Book V → Step V → Type 0
AsBook k rule b s = (s.answer ≡ answer k rule b s.call) × Keeps k s.table (after k rule b s.call)

-- the one holds just where the other does
abbrev pub ExactlyWhen : Type 0 → Type 0 → Type 0
ExactlyWhen P Q = (P → Q) × (Q → P)

-- once the checks before it have passed, the post of a new fingerprint or a narrowing is refused for want of seats exactly when
-- there is no seating of what is held, with the fingerprint posted, or for a narrowing in one row fewer
abbrev pub WantsSeats : {V : Type 0} → Kind V → Meaning → Book V → Call V → Answer V → Type 0
WantsSeats k rule b (post key amount words) a =
    too_few b words ≡ false → too_long key ≡ false → k.is_amount amount ≡ true → b.entries (fingerprint rule b key) ≡ None →
    ExactlyWhen (a ≡ Err NoSeating) (Seating b.size.buckets b.size.rows b.size.range (also (fingerprint rule b key) (held b.entries)) → ⊥)
WantsSeats k rule b (reverse key amount) a = Unit {0}
WantsSeats k rule b (erase key) a = Unit {0}
WantsSeats k rule b (look_up key) a = Unit {0}
WantsSeats k rule b widen a = Unit {0}
WantsSeats k rule b (narrow words) a =
    too_few b words ≡ false → nat_lt 1 b.size.rows ≡ true →
    ExactlyWhen (a ≡ Err NoNarrowSeating) (Seating b.size.buckets (b.size.rows - 1) b.size.range (held b.entries) → ⊥)

-- of any list of calls, in any order and number and turned-away ones too, on a table that was just opened:
-- every answer is the book's, and the table keeps the book after every call;
-- seats are wanting exactly where there is no seating;
-- and where two such lists, each on a table of its own, end in equal books, every further list of calls is answered alike by both
pub record Account {V : Type 0} (k : Kind V) (rule : Meaning) : Type 0 where
  pub answers_are_the_books : (t : Table V) → Fresh k t → (ss : List (Step V)) → Ran k rule t ss → Each (AsBook k rule) k rule (first_book t) ss
  pub seats_wanting_exactly_without_a_seating : (t : Table V) → Fresh k t → (ss : List (Step V)) → Ran k rule t ss → Each (λ b s. WantsSeats k rule b s.call s.answer) k rule (first_book t) ss
  pub equal_books_answer_alike :
      (t u : Table V) → Fresh k t → Fresh k u → (ss rs : List (Step V)) → Ran k rule t ss → Ran k rule u rs →
      after_all k rule (first_book t) (calls ss) ≡ after_all k rule (first_book u) (calls rs) →
      (more other : List (Step V)) → Ran k rule (last_table t ss) more → Ran k rule (last_table u rs) other →
      calls more ≡ calls other → told more ≡ told other
