-- A traversal that is stuck refutes every seating. Assumes nothing.
use Rattle.std.proofs.Common.{◌≡◌, ℕ, ◌+◌, ◌-◌, ◌*◌, ◌/◌, ◌%◌, ◌<◌, ◌≤◌, Bool, true, false, not, ◌&&◌, eqb, List, get_or, is_some, None, Option, sym, ap, ◌∙◌, subst, arith}
use Rattle.std.proofs.lemmas.Nat.{mul-le}
use Rattle.std.proofs.lemmas.Bool.{and_from, eq-eqb, ne_eqb, eqb-false, not-true, not_from_false}
use Rattle.seatings.specs.Seatings.{bucket, load, Seating, also}
use Rattle.seatings.proofs.Pigeons.{pigeons_many}
use Rattle.seatings.proofs.Full.{full_and_closed}
use Rattle.seats.specs.declared.place.Place.{Place}
use Rattle.seats.specs.declared.seat.Seat.{Seat}
use Rattle.seats.specs.Shapes.{Size, Sound}
use Rattle.seats.specs.Places.{place_of, given_back}
use Rattle.seats.specs.Seats.{at, Sits, Shows, held}
use Rattle.seats.proofs.Sitting.{carry_below}
use Rattle.seats.proofs.Shown.{place_back, same_bucket}
use Rattle.seats.proofs.Seated.{seat_of, sits_there}
use Rattle.moves.specs.Queue.{unseen, Seen}
use Rattle.moves.specs.Tree.{other}
use Rattle.moves.specs.Traversal.{Full, Stuck}

-- the buckets that were seen, as a test
abbrev seen_by : List ℕ → ℕ → Bool
seen_by links j = not (eqb (get_or links j 0) unseen)

to_seen : (links : List ℕ) (j : ℕ) → seen_by links j ≡ true → Seen links j
to_seen links j is = eqb-false (get_or links j 0) unseen (not-true (eqb (get_or links j 0) unseen) is)

from_seen : (links : List ℕ) (j : ℕ) → Seen links j → seen_by links j ≡ true
from_seen links j s = not_from_false (eqb (get_or links j 0) unseen) (ne_eqb (get_or links j 0) unseen s)

-- what holds of the bucket and of the carry of a place holds of quotient and remainder
both_buckets : (P : ℕ → Type 0) (m f : ℕ) (flag : Bool) → P (place_of m f flag).bucket → P (place_of m f flag).carry → P (f / m) × P (f % m)
both_buckets P m f true here there = (here, there)
both_buckets P m f false here there = (there, here)

module _ {X : Type 0} (e : X) {z : Size} (sound : Sound z) (seats : List (Seat X)) (entries : ℕ → Option X) (shows : Shows e seats z entries) where
  -- each entry is given the bucket that it sits in
  abbrev chosen : ℕ → Bool
  chosen g = (at e seats (seat_of e sound seats entries shows g)).flag

  sits : (g : ℕ) → held entries g ≡ true → Sits e seats z g (seat_of e sound seats entries shows g)
  sits = sits_there e sound seats entries shows

  module _ (i : ℕ) (low : i < z.buckets) (full : Full e seats z i z.rows) where
    -- the place of the seat at this row of the bucket, and the fingerprint that it gives back
    abbrev place_at : ℕ → Place
    place_at row = record { bucket = i; carry = other e seats z i row; flag = (at e seats (i * z.most + row)).flag }

    abbrev back : ℕ → ℕ
    back row = given_back z.buckets (place_at row)

    sits_at : (row : ℕ) → row < z.rows → Sits e seats z (back row) (i * z.most + row)
    sits_at row in_rows =
        let (f, s) = shows.gives_back i row low in_rows (full row in_rows) in
        let flag = (at e seats (i * z.most + row)).flag in
        let own : i ≡ (place_of z.buckets f flag).bucket = same_bucket e sound i row s.bucket s.row in_rows s.in_rows s.lies ∙ s.home in
        let places : place_at row ≡ place_of z.buckets f flag = λ k. record { bucket = own k; carry = s.carried k; flag = flag } in
        let is : back row ≡ f = ap (given_back z.buckets) places ∙ place_back z.buckets f flag in
        subst (λ g. Sits e seats z g (i * z.most + row)) (sym is) s

    -- the entries in the rows of a full bucket fill it
    loaded : z.rows ≤ load z.buckets z.range (held entries) chosen i
    loaded =
        pigeons_many (λ g. held entries g && eqb (bucket z.buckets chosen g) i) z.range z.rows back
        (λ row in_rows.
        let g = back row in
        let s = sits_at row in_rows in
        let is_held : held entries g ≡ true = ap is_some (shows.told g (i * z.most + row) s) in
        let same = shows.alone g (seat_of e sound seats entries shows g) (i * z.most + row) (sits g is_held) s in
        let own : i ≡ s.bucket = same_bucket e sound i row s.bucket s.row in_rows s.in_rows s.lies in
        let given : bucket z.buckets chosen g ≡ i = ap (λ n. (place_of z.buckets g (at e seats n).flag).bucket) same ∙ sym (own ∙ s.home) in
        (s.below, and_from (held entries g) (eqb (bucket z.buckets chosen g) i) is_held (eq-eqb (bucket z.buckets chosen g) i given)))
        (λ row row' h h' same.
        let one = shows.alone (back row) (i * z.most + row) (i * z.most + row') (sits_at row h) (subst (λ g. Sits e seats z g (i * z.most + row')) (sym same) (sits_at row' h')) in
        omega arith)

  pub unseatable : (f : ℕ) (links : List ℕ) → f < z.range → entries f ≡ None → Stuck e seats z f links → Seating z.buckets z.rows z.range (also f (held entries)) → ⊥
  unseatable f links below none stuck =
      full_and_closed z.buckets z.rows z.range (held entries) chosen f (seen_by links)
      (record {
        small = omega (arith, sound.small, mul-le z.buckets (z.buckets - 1) z.buckets z.buckets (omega arith) (omega arith));
        new = below;
        unheld = ap is_some none;
        quotient = from_seen links (f / z.buckets) stuck.quotient;
        remainder = from_seen links (f % z.buckets) stuck.remainder;
        full = λ i low v. loaded i low (stuck.full i low (to_seen links i v));
        stays = λ g low is_held v.
            let s = sits g is_held in
            let flag = chosen g in
            let here : Seen links s.bucket = subst (Seen links) (sym s.home) (to_seen links (place_of z.buckets g flag).bucket v) in
            let leads : other e seats z s.bucket s.row ≡ (place_of z.buckets g flag).carry = ap (λ n. (at e seats n).carry) (sym s.lies) ∙ s.carried in
            let there : Seen links (other e seats z s.bucket s.row) =
            stuck.closed s.bucket s.row s.in_table here s.in_rows (subst (λ n. n < z.buckets) (sym leads) (carry_below sound g s.below flag))
            in
            both_buckets (λ b. seen_by links b ≡ true) z.buckets g flag v (from_seen links (place_of z.buckets g flag).carry (subst (Seen links) leads there));
      })
