use Rattle.std.proofs.Common.{◌≡◌, ℕ, ◌/◌, ◌%◌, true, false, List, Some, None, Option, sym, ap, subst, rules, MatchOption}
use Rattle.std.proofs.lemmas.Bool.{true≢false}
use Rattle.seats.specs.declared.place.Place.{Place}
use Rattle.seats.specs.declared.seat.Seat.{Seat}
use Rattle.seats.specs.Shapes.{Size, size}
use Rattle.seats.specs.Places.{place_of}
use Rattle.seats.specs.Seats.{Free, Lies}
use Rattle.moves.specs.Opening.{First, Crowded}
use Rattle.moves.proofs.place.own_seat.Goals as goal

module _ {X : Type 0} (e : X) (seats : List (Seat X)) (z : Size) (f : ℕ) where
  -- what a bucket gave
  abbrev Told : ℕ → Option ℕ → Type 0
  Told b o = MatchOption o ((i : ℕ) → Lies z b i → Free e seats i → ⊥) (λ i. Lies z b i × Free e seats i)

  -- the quotient's free seat, or else what the remainder's bucket gave
  either : (b : ℕ) (first both : Option ℕ) (Else : Type 0) → b ≡ f / z.buckets → Told b first → MatchOption first Else (λ i. both ≡ Some i) → (Else → Told (f % z.buckets) both) →
      MatchOption both (Crowded e seats z f) (λ i. First e seats z f i)
  either b (Some i) both Else at (lies, free) is told =
      rw is (record { flag = true; lies = subst (λ c. Lies z c i) at lies; free = free; before = λ is. absurd (true≢false is) })
  either b None None Else at high else told = λ i own.
      elim own.0 as (λ flag. Lies z (place_of z.buckets f flag).bucket i → Free e seats i → ⊥)
      [ true ↦ λ lies. high i (subst (λ n. Lies z n i) (sym at) lies) | false ↦ λ lies. told else i lies ]
      own.1
  either b None (Some i) Else at high else told =
      let (lies, free) = told else in
      record { flag = false; lies = lies; free = free; before = λ _ j lies. high j (subst (λ n. Lies z n j) (sym at) lies) }

  -- the remainder's bucket by its place
  told_there : (p : Place) (o : Option ℕ) → p ≡ place_of z.buckets f false → Told p.bucket o → Told (f % z.buckets) o
  told_there p o is told = subst (λ (q : Place). Told q.bucket o) is told

pub returns : goal.returns
returns g c =
    let e = g.T.Tally.kind.empty in
    let z = size c.args.shape in
    either e c.args.seats.now z c.args.fingerprint
    c.place-quotient.result.bucket c.free_seat.result c.or_else.result _ (ap (λ (p : Place). p.bucket) c.place-quotient.ensures.value) c.free_seat.ensures c.or_else.ensures
    (λ low. search (rules, told_there e c.args.seats.now z c.args.fingerprint))
