-- The last row in use, cleared bucket by bucket. Assumes nothing.
use Rattle.std.proofs.Common.{◌≡◌, ℕ, ◌+◌, ◌-◌, ◌*◌, ◌<◌, ◌≤◌, cond, not, eqb, ltb, List, Some, None, Ok, Err, sym, ap, ◌∙◌, subst, ⊎_elim, arith}
use Rattle.std.proofs.lemmas.Bool.{cases_eq, cases_lt, eq-eqb, le-ltb, lt-ltb}
use Rattle.seats.specs.declared.refusal.Refusal.{Refusal}
use Rattle.seats.specs.declared.refusal.Refusal.TheVariants.{Seats, Words, RowLimit, NoNarrowSeating}
use Rattle.seats.specs.declared.seat.Seat.{Seat}
use Rattle.seats.specs.Shapes.{Size, Sound}
use Rattle.seats.specs.Seats.{Filled, at}
use Rattle.narrowing.specs.Narrowed.{stops, last_seat, Shifted, Lowered, Cleared, Crowded}
use Rattle.narrowing.proofs.Resized.{shows_resized}

pub stops_none : (z : Size) (seats words : ℕ) → 2 * z.buckets ≤ words → 1 < z.rows → seats ≡ z.buckets * z.most → stops z seats words ≡ None
stops_none z seats words enough more fits =
    ap (λ x. cond x (Some Words) (cond (not (ltb 1 z.rows)) (Some RowLimit) (cond (not (eqb seats (z.buckets * z.most))) (Some Seats) None))) (le-ltb words (2 * z.buckets) enough)
    ∙ ap (λ x. cond (not x) (Some RowLimit) (cond (not (eqb seats (z.buckets * z.most))) (Some Seats) None)) (lt-ltb 1 z.rows more)
    ∙ ap (λ x. cond (not x) (Some Seats) None) (eq-eqb seats (z.buckets * z.most) fits)

module _ {X : Type 0} (e : X) {z : Size} (sound : Sound z) (more : 1 < z.rows) (before : List (Seat X)) where
  -- the last seats of the first n buckets are empty
  abbrev pub Emptied : List (Seat X) → ℕ → Type 0
  Emptied xs n = (other : ℕ) → other < n → (at e xs (last_seat z other)).tally ≡ e

  shifted_on : (xs ys : List (Seat X)) → Shifted e before xs z → Shifted e xs ys z → Shifted e before ys z
  shifted_on xs ys was is = record {
    shows = λ entries shows. is.shows entries (was.shows entries shows);
    beyond = λ bucket row b past high. is.beyond bucket row b past high ∙ was.beyond bucket row b past high;
  }

  -- one bucket more
  pub cleared_more : (xs ys : List (Seat X)) (bucket : ℕ) → bucket < z.buckets → Shifted e before xs z → Emptied xs bucket → Lowered e xs ys z bucket (Ok tt) → Shifted e before ys z × Emptied ys (bucket + 1)
  cleared_more xs ys bucket low shifted emptied (on, here, others) = (
    shifted_on xs ys shifted on,
    λ other below.
        ⊎_elim
        (λ (same : other ≡ bucket). ap (λ n. (at e ys (last_seat z n)).tally) same ∙ here)
        (λ (apart : other ≡ bucket → ⊥). ap (λ (s : Seat X). s.tally) (others other (omega arith) apart) ∙ emptied other (omega arith))
        (cases_eq other bucket),
  )

  -- a bucket that cannot be cleared
  pub not_cleared : (xs ys : List (Seat X)) (bucket : ℕ) → (why : Refusal) → Shifted e before xs z → Lowered e xs ys z bucket (Err why) → (why ≡ NoNarrowSeating) × Shifted e before ys z × Crowded e before z
  not_cleared xs ys bucket why shifted (is, same, crowded) =
      (is, subst (λ zs. Shifted e before zs z) (sym same) shifted, λ entries shows. crowded entries (shifted.shows entries shows))

  -- all buckets
  pub cleared_all : (xs : List (Seat X)) → Shifted e before xs z → Emptied xs z.buckets → Cleared e before xs z
  cleared_all xs shifted emptied = record {
    shows = λ entries shows.
        shows_resized e xs z (z.rows - 1)
        (λ bucket row b r filled.
        ⊎_elim (λ lt. lt)
        (λ past. let last : row ≡ z.rows - 1 = omega arith in absurd (subst (λ n. Filled e xs (bucket * z.most + n)) last filled (emptied bucket b)))
        (cases_lt row (z.rows - 1)))
        (λ bucket row b r past. absurd (omega arith))
        entries (shifted.shows entries shows);
    empty = λ entries shows bucket b. (shifted.shows entries shows).alike bucket (z.rows - 1) b (omega arith) (emptied bucket b);
    beyond = shifted.beyond;
  }
