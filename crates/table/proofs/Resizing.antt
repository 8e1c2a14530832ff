-- The same seats with more rows in use, or fewer. Assumes nothing.
use Rattle.std.proofs.Common.{◌≡◌, ℕ, ◌+◌, ◌-◌, ◌*◌, ◌<◌, ◌≤◌, Bool, true, not, ltb, length, Ok, sym, ap, ◌∙◌, subst, arith}
use Rattle.std.proofs.lemmas.Bool.{lt-ltb}
use Rattle.tallies.specs.Kinds.{Kind}
use Rattle.rules.specs.Rules.{Meaning}
use Rattle.seats.specs.declared.refusal.Refusal.TheVariants.{RowLimit}
use Rattle.seats.specs.Shapes.{Size, size, with_rows}
use Rattle.seats.specs.Seats.{Shows, at, vacant}
use Rattle.narrowing.proofs.Resized.{shows_resized}
use Rattle.book.specs.declared.answer.Rows.{Rows}
use Rattle.book.specs.declared.answer.Outcome.TheVariants.{Sized}
use Rattle.book.specs.Books.{Book, Turn, widen, check, turn, resize, resized}
use Rattle.table.specs.declared.table.Table.{Table}
use Rattle.table.specs.Tables.{Keeps, Did}

-- a table whose rows in use alone are other than before
module _ {V : Type 0} (k : Kind V) (t u : Table V) (buckets : u.shape.buckets ≡ t.shape.buckets) (most : u.shape.most ≡ t.shape.most) (count : u.held ≡ t.held) where
  same_size : size u.shape ≡ with_rows (size t.shape) u.shape.rows
  same_size = λ i. record { buckets = buckets i; most = most i; rows = u.shape.rows; range = buckets i * (buckets i - 1) }

  -- all seats past the rows in use of u are empty
  abbrev pub Rest : Type 0
  Rest = (bucket row : ℕ) → bucket < t.shape.buckets → u.shape.rows ≤ row → row < t.shape.most → at k.empty u.seats.now (bucket * t.shape.most + row) ≡ vacant k.empty

  pub keeps_resized : (b : Book V) → Keeps k t b → length u.seats.now ≡ length t.seats.now →
      Shows k.empty u.seats.now (with_rows (size t.shape) u.shape.rows) b.entries → Rest → Keeps k u (resize b u.shape.rows)
  keeps_resized b keeps long shows rest = record {
    sized = ap (λ (z : Size). with_rows z u.shape.rows) keeps.sized ∙ sym same_size;
    room = (λ i. buckets i * most i) ∙ keeps.room ∙ sym long;
    shows = subst (λ (z : Size). Shows k.empty u.seats.now z b.entries) (sym same_size) shows;
    rest = λ bucket row low past high.
        ap (λ n. at k.empty u.seats.now (bucket * n + row)) most ∙ rest bucket row (subst (λ n. bucket < n) buckets low) past (subst (λ n. row < n) most high);
    values = keeps.values;
    counted = count ∙ keeps.counted;
  }

  -- the answer is the book's, where its rows are
  pub same_answer : (b : Book V) (rows : ℕ) → Keeps k t b → u.shape.rows ≡ rows → Ok (Sized (record { rows = u.shape.rows; held = u.held })) ≡ (resized (resize b rows)).answer
  same_answer b rows keeps is = λ i. Ok (Sized (record { rows = is i; held = (count ∙ keeps.counted) i }))

module _ {V : Type 0} (k : Kind V) (rule : Meaning) (t : Table V) where
  widens : (b : Book V) (room : Bool) → room ≡ true → check b (not room) RowLimit (resized (resize b (b.size.rows + 1))) ≡ resized (resize b (b.size.rows + 1))
  widens b room is = ap (λ x. check b (not x) RowLimit (resized (resize b (b.size.rows + 1)))) is

  rows_are : (b : Book V) → Keeps k t b → b.size.rows ≡ t.shape.rows
  rows_are b keeps = ap (λ (z : Size). z.rows) keeps.sized

  most_are : (b : Book V) → Keeps k t b → b.size.most ≡ t.shape.most
  most_are b keeps = ap (λ (z : Size). z.most) keeps.sized

  pub widened : (u : Table V) (n : Rows) → n ≡ record { rows = u.shape.rows; held = u.held } → t.shape.rows < t.shape.most → u.seats.now ≡ t.seats.now → u.shape.buckets ≡ t.shape.buckets → u.shape.most ≡ t.shape.most →
      u.shape.rows ≡ t.shape.rows + 1 → u.held ≡ t.held → u.seats.ghost_name ≡ t.seats.ghost_name → Did k rule t widen (Ok (Sized n)) u
  widened u n is room seats buckets most more count lent =
      let rows : (b : Book V) → Keeps k t b → u.shape.rows ≡ b.size.rows + 1 = λ b keeps. more ∙ ap (λ n. n + 1) (sym (rows_are b keeps)) in
      let turns : (b : Book V) → Keeps k t b → turn k rule b widen ≡ resized (resize b (b.size.rows + 1)) = λ b keeps.
      widens b (ltb b.size.rows b.size.most) (lt-ltb b.size.rows b.size.most (omega (arith, rows_are b keeps, most_are b keeps))) in
      record {
        answers = λ b keeps. ap (λ x. Ok (Sized x)) is ∙ same_answer k t u buckets most count b (b.size.rows + 1) keeps (rows b keeps) ∙ sym (ap (λ (x : Turn V). x.answer) (turns b keeps));
        keeps = λ b keeps.
            subst (λ (x : Turn V). Keeps k u x.book) (sym (turns b keeps))
            (subst (λ n. Keeps k u (resize b n)) (rows b keeps)
            (keeps_resized k t u buckets most count b keeps (ap length seats)
            (subst (λ xs. Shows k.empty xs (with_rows (size t.shape) u.shape.rows) b.entries) (sym seats)
            (shows_resized k.empty t.seats.now (size t.shape) u.shape.rows (λ bucket row _ low _. omega arith) (λ bucket row low lt past. keeps.rest bucket row low past (omega arith)) b.entries keeps.shows))
            (λ bucket row low past high. ap (λ xs. at k.empty xs (bucket * t.shape.most + row)) seats ∙ keeps.rest bucket row low (omega arith) high)));
        still = λ _ _ _. seats;
        lent = lent;
      }
