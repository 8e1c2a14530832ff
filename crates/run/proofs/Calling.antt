-- One call of a run: its figures and its line, held against the book. Assumes nothing.
use Rattle.std.proofs.Common.{◌≡◌, ℕ, ◌^◌, ◌<◌, ◌≤◌, length, Ok, Err, sym, ap, ◌∙◌, subst, arith}
use Rattle.std.proofs.lemmas.Fmt.{length-decimal-le}
use Rattle.tallies.specs.Kinds.{Kind}
use Rattle.rules.specs.Rules.{Meaning}
use Rattle.seats.specs.declared.refusal.Refusal.{Refusal}
use Rattle.seats.specs.declared.refusal.Refusal.TheVariants.{Buckets, Rows, Seats, Words, LongKey, NoAmount, Ceiling, NoSeating, NotHeld, NotTakenBack, RowLimit, NoNarrowSeating}
use Rattle.seats.specs.Refusals.{refusal_number}
use Rattle.book.specs.Answers.{Answer, answer_number}
use Rattle.book.specs.Books.{Book, Call, answer, after}
use Rattle.table.specs.declared.table.Table.{Table}
use Rattle.table.specs.Tables.{Keeps, Did}
use Rattle.paper.specs.declared.«record».Record.{Record}
use Rattle.run.specs.Lines.{line}
use Rattle.run.specs.Printed.{call_for, call_line, figures_after}
use Rattle.run.specs.Called.{Called}
use Rattle.run.proofs.Written.{figure_long, line_long}

refusals_few : (why : Refusal) → refusal_number why < 100
refusals_few Buckets = omega arith
refusals_few Rows = omega arith
refusals_few Seats = omega arith
refusals_few Words = omega arith
refusals_few LongKey = omega arith
refusals_few NoAmount = omega arith
refusals_few Ceiling = omega arith
refusals_few NoSeating = omega arith
refusals_few NotHeld = omega arith
refusals_few NotTakenBack = omega arith
refusals_few RowLimit = omega arith
refusals_few NoNarrowSeating = omega arith

numbers_few : {V : Type 0} (a : Answer V) → answer_number a < 100
numbers_few (Ok outcome) = omega arith
numbers_few (Err why) = refusals_few why

line_short : (place number first second : ℕ) → place < 10000 → number < 100 → first < 2 ^ 32 → second ≤ 1000000000000000 → length (line place number first second) ≤ 36
line_short place number first second p n f s =
    let long = line_long place number first second in
    let a = figure_long place 32 in
    let b = figure_long number 32 in
    let c = figure_long first 32 in
    let d = figure_long second 10 in
    let la = length-decimal-le 4 place (omega arith) (omega arith) (omega arith) in
    let lb = length-decimal-le 2 number (omega arith) (omega arith) (omega arith) in
    let lc = length-decimal-le 10 first (omega arith) (omega arith) (omega arith) in
    let ld = length-decimal-le 16 second (omega arith) (omega arith) (omega arith) in
    omega arith

module _ {V : Type 0} (k : Kind V) (rule : Meaning) (shown : V → ℕ × ℕ) (made : ℕ → ℕ → V) where
  pub called : (t u : Table V) (b : Book V) (r : Record) (c : Call V) (a : Answer V) (figures : ℕ × ℕ) (place number first : ℕ) → Keeps k t b → c ≡ call_for made r → Did k rule t c a u →
      (Keeps k u (after k rule b (call_for made r)) → (figures ≡ figures_after rule shown (after k rule b (call_for made r)) r) × (figures.1 ≤ 1000000000000000)) →
      number ≡ answer_number a → first ≡ figures.0 → first < 2 ^ 32 →
      Called k rule shown made b place r (record { place = place; number = number; first = first; second = figures.1 }) u
  unfolding call_line
  called t u b r c a figures place number first keeps asked did told number_is first-is narrow =
      let call = call_for made r in
      let kept : Keeps k u (after k rule b call) = subst (λ x. Keeps k u (after k rule b x)) asked (did.keeps b keeps) in
      let said : a ≡ answer k rule b call = did.answers b keeps ∙ ap (answer k rule b) asked in
      let shows = told kept in
      record {
        keeps = kept;
        is = λ i. line place ((number_is ∙ ap answer_number said) i) ((first-is ∙ ap (λ (p : ℕ × ℕ). p.0) shows.0) i) (shows.0 i).1;
        short = λ low. line_short place number first figures.1 low (subst (λ n. n < 100) (sym number_is) (numbers_few a)) narrow shows.1;
      }
