use Rattle.std.proofs.Common.{◌≡◌, ℕ, ◌<◌, Bool, true, false, List, Some, None, Option, arith, rules, MatchOption}
use Rattle.seats.specs.declared.seat.Seat.{Seat}
use Rattle.seats.specs.Shapes.{Size, Sound}
use Rattle.seats.specs.Places.{place_of}
use Rattle.seats.specs.Seats.{Holds, Lies, Sits}
use Rattle.seats.proofs.Sitting.{shape_sound, sits_by, sits_nowhere}
use Rattle.seats.proofs.find.find.Goals as goal

module _ {X : Type 0} (e : X) (seats : List (Seat X)) {z : Size} (sound : Sound z) (f : ℕ) (below : f < z.range) where
  -- what the bucket at this flag gave
  abbrev Told : Bool → Option ℕ → Type 0
  Told flag o =
      MatchOption o ((i : ℕ) → Lies z (place_of z.buckets f flag).bucket i → Holds e seats (place_of z.buckets f flag) i → ⊥)
      (λ i. Lies z (place_of z.buckets f flag).bucket i × Holds e seats (place_of z.buckets f flag) i)

  -- the first bucket's seat, or else what the second gave
  either : (first both : Option ℕ) (Else : Type 0) → Told true first → MatchOption first Else (λ i. both ≡ Some i) → (Else → Told false both) →
      MatchOption both ((i : ℕ) → Sits e seats z f i → ⊥) (λ i. Sits e seats z f i)
  either (Some i) both Else (lies, holds) is told = rw is (sits_by sound f below e seats true i lies holds)
  either None None Else high else told = sits_nowhere e seats z f (λ flag. elim flag as (λ b. Told b None) [ true ↦ high | false ↦ told else ])
  either None (Some i) Else high else told = let (lies, holds) = told else in sits_by sound f below e seats false i lies holds

pub returns : goal.returns
returns g c =
    either g.T.Tally.kind.empty c.args.seats.now (shape_sound c.args.shape) c.args.fingerprint (omega arith)
    c.seat_at.result c.or_else.result _ c.seat_at.ensures c.or_else.ensures (λ low. search rules)
