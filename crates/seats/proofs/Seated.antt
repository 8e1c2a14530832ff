-- What seats show has a seating: the choice of each entry is its seat's flag. Assumes nothing.
use Rattle.std.proofs.Common.{◌≡◌, ℕ, ◌+◌, ◌-◌, ◌*◌, ◌<◌, Bool, true, ◌&&◌, eqb, List, is_some, Some, None, Option, refl, ap, ◌∙◌, subst, arith}
use Rattle.std.proofs.lemmas.Bool.{and_parts, eqb-true}
use Rattle.seatings.specs.Seatings.{bucket, Seating}
use Rattle.seatings.proofs.Pigeons.{pigeons_few}
use Rattle.seats.specs.declared.seat.Seat.{Seat}
use Rattle.seats.specs.Shapes.{Size, Sound}
use Rattle.seats.specs.Seats.{at, Sits, Shows, held}
use Rattle.seats.proofs.Shown.{sits_one}

module _ {X : Type 0} (e : X) {z : Size} (sound : Sound z) (xs : List (Seat X)) (entries : ℕ → Option X) (shows : Shows e xs z entries) where
  seat_by : (f : ℕ) (o : Option X) → ((t : X) → o ≡ Some t → (i : ℕ) × Sits e xs z f i) → ℕ
  seat_by f None k = 0
  seat_by f (Some t) k = (k t refl).0

  by_sits : (f : ℕ) (o : Option X) (k : (t : X) → o ≡ Some t → (i : ℕ) × Sits e xs z f i) → is_some o ≡ true → Sits e xs z f (seat_by f o k)
  unfolding seat_by
  by_sits f None k is = absurd (grind arith)
  by_sits f (Some t) k is = (k t refl).1

  -- the seat of an entry
  pub seat_of : ℕ → ℕ
  seat_of f = seat_by f (entries f) (shows.seated f)

  pub sits_there : (f : ℕ) → held entries f ≡ true → Sits e xs z f (seat_of f)
  unfolding seat_of
  sits_there f is = by_sits f (entries f) (shows.seated f) is

  pub choice_of : ℕ → Bool
  choice_of f = (at e xs (seat_of f)).flag

  -- the entries that the choice gives a bucket sit in rows of it of their own
  in_bucket : (i f : ℕ) → (held entries f && eqb (bucket z.buckets choice_of f) i) ≡ true → (row : ℕ) × (row < z.rows) × (seat_of f ≡ i * z.most + row) × Sits e xs z f (seat_of f)
  unfolding choice_of
  in_bucket i f passes =
      let (is_held_lem, there) = and_parts (held entries f) (eqb (bucket z.buckets choice_of f) i) passes in
      let s = sits_there f is_held_lem in
      (s.row, s.in_rows, s.lies ∙ ap (λ b. b * z.most + s.row) (s.home ∙ eqb-true (bucket z.buckets choice_of f) i there), s)

  pub shows_seating : Seating z.buckets z.rows z.range (held entries)
  shows_seating = (
    choice_of,
    λ i.
        pigeons_few (λ f. held entries f && eqb (bucket z.buckets choice_of f) i) z.range z.rows (λ f. seat_of f - i * z.most)
        (λ f _ p. let (row, low, lies, _) = in_bucket i f p in omega arith)
        (λ f g _ _ p q same.
        let (row, low, lies, s) = in_bucket i f p in
        let (row', low', lies', t) = in_bucket i g q in
        let one : seat_of f ≡ seat_of g = omega arith in
        sits_one e sound xs f g (seat_of g) (subst (λ n. Sits e xs z f n) one s) t),
  )
