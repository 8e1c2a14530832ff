-- What seats show with an entry moved to its other bucket. Assumes nothing.
use Rattle.std.proofs.Common.{◌≡◌, ℕ, ◌+◌, ◌*◌, ◌/◌, ◌%◌, ◌<◌, Bool, true, false, not, eqb, List, length, set, Some, None, Option, sym, refl, ap, ◌∙◌, subst, ⊎_elim, arith}
use Rattle.std.proofs.lemmas.List.{get_or-set_same, get_or-set_other, length-set, set-get_or}
use Rattle.std.proofs.lemmas.Bool.{cond-true, cond-false, cases_Bool, eqb-true, eq-eqb}
use Rattle.seats.specs.declared.seat.Seat.{Seat}
use Rattle.seats.specs.Shapes.{Size, Sound}
use Rattle.seats.specs.Places.{place_of}
use Rattle.seats.specs.Seats.{at, vacant, Filled, Lies, Sits, Shows, changed}
use Rattle.seats.proofs.Sitting.{filled_inside}
use Rattle.seats.proofs.Shown.{same_bucket, sits_one, shows_like, shows_filled, shows_emptied}
use Rattle.moves.specs.Walk.{moved}

-- the two places of a fingerprint have bucket and carry exchanged, and both are one bucket where quotient and remainder are equal
turned_bucket : (m f : ℕ) (flag : Bool) → (place_of m f flag).carry ≡ (place_of m f (not flag)).bucket
turned_bucket m f true = refl
turned_bucket m f false = refl

turned_carry : (m f : ℕ) (flag : Bool) → (place_of m f flag).bucket ≡ (place_of m f (not flag)).carry
turned_carry m f true = refl
turned_carry m f false = refl

one_bucket : (m f : ℕ) (flag : Bool) → f / m ≡ f % m → (place_of m f flag).bucket ≡ (place_of m f flag).carry
one_bucket m f true even = even
one_bucket m f false even = sym even

module _ {X : Type 0} (e : X) {z : Size} (sound : Sound z) (xs : List (Seat X)) (entries : ℕ → Option X) (shows : Shows e xs z entries) where
  -- a free seat in the rows in use is vacant already
  pub shows_vacant : (b i : ℕ) → b < z.buckets → Lies z b i → (at e xs i).tally ≡ e → Shows e (set xs i (vacant e)) z entries
  shows_vacant b i low (row, in_rows, lies) empty =
      let is : at e xs i ≡ vacant e = subst (λ n. (at e xs n).tally ≡ e → at e xs n ≡ vacant e) (sym lies) (shows.alike b row low in_rows) empty in
      let same : set xs i (vacant e) ≡ xs = ap (set xs i) (sym is) ∙ set-get_or xs i (vacant e) in
      subst (λ l. Shows e l z entries) (sym same) shows

  -- a vacant seat is written with the entry of f, which was not held
  pub shows_new : (f i : ℕ) (s : Seat X) → i < length xs → at e xs i ≡ vacant e → entries f ≡ None → Sits e (set xs i s) z f i → (f / z.buckets ≡ f % z.buckets → s.flag ≡ true) →
      Shows e (set xs i s) z (changed entries f (Some s.tally))
  shows_new f i s inside empty none sits upright =
      shows_filled e sound xs entries f i s shows inside
      (λ g t. absurd (t.filled (ap (λ (x : Seat X). x.tally) empty)))
      (λ j t. absurd (cc (none, shows.told f j t)))
      sits upright

-- the entry of the seat s, at this row of the bucket i, is moved to the vacant seat h of its other bucket j
module _ {X : Type 0} (e : X) {z : Size} (sound : Sound z) (xs : List (Seat X)) (entries : ℕ → Option X) (shows : Shows e xs z entries)
    (i row j h : ℕ) (apart : i ≡ j → ⊥) (low : i < z.buckets) (in_rows : row < z.rows) (filled : Filled e xs (i * z.most + row)) (leads : (at e xs (i * z.most + row)).carry ≡ j)
    (low' : j < z.buckets) (lies : Lies z j h) (inside : h < length xs) (empty : at e xs h ≡ vacant e) where
  abbrev s : ℕ
  s = i * z.most + row

  not_hole : s ≡ h → ⊥
  not_hole is = apart (same_bucket e sound i row j lies.0 in_rows lies.1 (is ∙ lies.2))

  pub shows_moved : Shows e (set (set xs s (vacant e)) h (moved e xs s i)) z entries
  shows_moved =
      let m = z.buckets in
      let (f, sits) = shows.gives_back i row low in_rows filled in
      let flag = (at e xs s).flag in
      let tally = (at e xs s).tally in
      let home : i ≡ (place_of m f flag).bucket = same_bucket e sound i row sits.bucket sits.row in_rows sits.in_rows sits.lies ∙ sits.home in
      let carried : j ≡ (place_of m f flag).carry = sym leads ∙ sits.carried in
      let ys : List (Seat X) = set xs s (vacant e) in
      let without : Shows e ys z (changed entries f None) =
      shows_emptied e sound xs entries f s (vacant e) shows (filled_inside e xs s filled) (λ g t. sits_one e sound xs g f s t sits) (λ k t. shows.alone f k s t sits) refl
      in
      let gone : changed entries f None f ≡ None = cond-true (eqb f f) None (entries f) (eq-eqb f f refl) in
      let still : at e ys h ≡ vacant e = get_or-set_other xs s h (vacant e) (vacant e) (λ is. not_hole (sym is)) ∙ empty in
      let inside' : h < length ys = omega (arith, length-set xs s (vacant e)) in
      let x : Seat X = moved e xs s i in
      let here : x ≡ at e (set ys h x) h = sym (get_or-set_same ys h x (vacant e) inside') in
      let there : Sits e (set ys h x) z f h =
      record {
        bucket = j;
        row = lies.0;
        in_table = low';
        in_rows = lies.1;
        lies = lies.2;
        filled = subst (λ (y : Seat X). y.tally ≡ e → ⊥) here filled;
        home = subst (λ (y : Seat X). j ≡ (place_of m f y.flag).bucket) here (carried ∙ turned_bucket m f flag);
        carried = subst (λ (y : Seat X). y.carry ≡ (place_of m f y.flag).carry) here (home ∙ turned_carry m f flag);
        below = sits.below;
      }
      in
      let back : Shows e (set ys h x) z (changed (changed entries f None) f (Some tally)) =
      shows_new e sound ys (changed entries f None) without f h x inside' still gone there (λ even. absurd (apart (home ∙ one_bucket m f flag even ∙ sym carried)))
      in
      shows_like e sound (set ys h x) (changed (changed entries f None) f (Some tally)) entries
      (λ g.
      ⊎_elim
      (λ (is : eqb g f ≡ true). ap entries (eqb-true g f is) ∙ shows.told f s sits ∙ sym (cond-true (eqb g f) (Some tally) (changed entries f None g) is))
      (λ (is : eqb g f ≡ false). sym (cond-false (eqb g f) (Some tally) (changed entries f None g) is ∙ cond-false (eqb g f) None (entries g) is))
      (cases_Bool (eqb g f)))
      back
