-- One entry of the last row in use, seated in the rows below it. Assumes nothing.
use Rattle.std.proofs.Common.{◌≡◌, ℕ, ◌+◌, ◌-◌, ◌*◌, ◌%◌, ◌<◌, ◌≤◌, Bool, true, false, cond, not, ◌||◌, eqb, ltb, ◌⊎◌, List, length, get_or, set, is_some, Some, None, Option, Ok, Err, sym, refl, ap, ◌∙◌, subst, inl, inr, ⊎_elim, arith}
use Rattle.std.proofs.lemmas.Nat.{mod-mul-add, mul-add-lt}
use Rattle.std.proofs.lemmas.List.{get_or_read, get_or-set_same, get_or-set_other}
use Rattle.std.proofs.lemmas.Bool.{both_ways, cond-true, cond-false, cases_Bool, cases_eq, cases_lt, eqb-true, eqb-false, eq-eqb, lt-ltb, le-ltb, ltb-true, ltb-false}
use Rattle.tallies.specs.Kinds.{Kind, Lawful}
use Rattle.seatings.specs.Seatings.{Seating, also}
use Rattle.seatings.proofs.Fewer.{seating_fewer}
use Rattle.seats.specs.declared.place.Place.{Place}
use Rattle.seats.specs.declared.refusal.Refusal.{Refusal}
use Rattle.seats.specs.declared.refusal.Refusal.TheVariants.{Seats, Words, NoAmount, NoNarrowSeating}
use Rattle.seats.specs.declared.seat.Seat.{Seat}
use Rattle.seats.specs.Shapes.{Size, Sound}
use Rattle.seats.specs.Places.{place_of, given_back}
use Rattle.seats.specs.Seats.{Filled, Shows, Sits, at, vacant, held, changed}
use Rattle.seats.proofs.Shown.{place_back, none_since, sits_kept, sits_one, same_bucket}
use Rattle.seats.proofs.Seated.{seat_of, sits_there}
use Rattle.moves.specs.Opening.{Unseatable}
use Rattle.moves.specs.Placed.{Accepted, Refused, bar}
use Rattle.narrowing.specs.Narrowed.{narrower, last_seat, Shifted, Lowered}

module _ {X : Type 0} (e : X) {z : Size} (sound : Sound z) (more : 1 < z.rows) where
  -- the rows below are rows in use
  abbrev raised : (xs : List (Seat X)) (f i : ℕ) → Sits e xs (narrower z) f i → Sits e xs z f i
  raised xs f i s = record {
    bucket = s.bucket;
    row = s.row;
    in_table = s.in_table;
    in_rows = omega (arith, s.in_rows);
    lies = s.lies;
    filled = s.filled;
    home = s.home;
    carried = s.carried;
    below = s.below;
  }

  abbrev lowered : (xs : List (Seat X)) (f i : ℕ) (s : Sits e xs z f i) → s.row < z.rows - 1 → Sits e xs (narrower z) f i
  lowered xs f i s low = record {
    bucket = s.bucket;
    row = s.row;
    in_table = s.in_table;
    in_rows = low;
    lies = s.lies;
    filled = s.filled;
    home = s.home;
    carried = s.carried;
    below = s.below;
  }

  -- a seat has one row
  row_is : (xs : List (Seat X)) (f i : ℕ) (s : Sits e xs z f i) → i % z.most ≡ s.row
  row_is xs f i s = ap (λ n. n % z.most) s.lies ∙ mod-mul-add s.bucket z.most s.row (omega (arith, s.in_rows, sound.within))

  last_row : (bucket : ℕ) → last_seat z bucket % z.most ≡ z.rows - 1
  last_row bucket = mod-mul-add bucket z.most (z.rows - 1) (omega (arith, sound.within))

  -- the entries in the rows below
  module _ (xs : List (Seat X)) (entries : ℕ → Option X) (shows : Shows e xs z entries) where
    abbrev is_low : ℕ → Bool
    is_low g = ltb (seat_of e sound xs entries shows g % z.most) (z.rows - 1)

    abbrev pub low : ℕ → Option X
    low g = cond (is_low g) (entries g) None

    sits_low : (g : ℕ) (t : X) → low g ≡ Some t → (entries g ≡ Some t) × Sits e xs (narrower z) g (seat_of e sound xs entries shows g)
    sits_low g t is =
        ⊎_elim
        (λ (yes : is_low g ≡ true).
        let entry : entries g ≡ Some t = sym (cond-true (is_low g) (entries g) None yes) ∙ is in
        let s = sits_there e sound xs entries shows g (ap is_some entry) in
        let row = row_is xs g (seat_of e sound xs entries shows g) s in
        (entry, lowered xs g (seat_of e sound xs entries shows g) s (omega (arith, ltb-true (seat_of e sound xs entries shows g % z.most) (z.rows - 1) yes))))
        (λ (no : is_low g ≡ false). absurd (cc (is, cond-false (is_low g) (entries g) None no)))
        (cases_Bool (is_low g))

    low_from : (g i : ℕ) → Sits e xs (narrower z) g i → low g ≡ Some (at e xs i).tally
    low_from g i s =
        let s' = raised xs g i s in
        let entry = shows.told g i s' in
        let there = sits_there e sound xs entries shows g (ap is_some entry) in
        let same : seat_of e sound xs entries shows g ≡ i = shows.alone g (seat_of e sound xs entries shows g) i there s' in
        let row = row_is xs g i s' in
        let yes : is_low g ≡ true = lt-ltb (seat_of e sound xs entries shows g % z.most) (z.rows - 1) (omega (arith, ap (λ n. n % z.most) same, s.in_rows)) in
        cond-true (is_low g) (entries g) None yes ∙ entry

    pub low_shown : Shows e xs (narrower z) low
    low_shown = record {
      gives_back = λ bucket row b r filled.
          let (g, s) = shows.gives_back bucket row b (omega arith) filled in
          let same : row ≡ s.row = sym (mod-mul-add bucket z.most row (omega (arith, sound.within))) ∙ row_is xs g (bucket * z.most + row) s in
          (g, lowered xs g (bucket * z.most + row) s (omega arith));
      told = low_from;
      seated = λ g t is. (seat_of e sound xs entries shows g, (sits_low g t is).1);
      alone = λ g i j s t. shows.alone g i j (raised xs g i s) (raised xs g j t);
      alike = λ bucket row b r empty. shows.alike bucket row b (omega arith) empty;
      upright = λ g i s even. shows.upright g i (raised xs g i s) even;
    }

  -- the entry f of the seat i, in the last row of a bucket
  module _ (xs : List (Seat X)) (entries : ℕ → Option X) (shows : Shows e xs z entries) (bucket f : ℕ) (b : bucket < z.buckets) (sits : Sits e xs z f (last_seat z bucket)) where
    abbrev i : ℕ
    i = last_seat z bucket

    abbrev below : ℕ → Option X
    below = low xs entries shows

    -- a fingerprint in the rows below sits in no last row
    not_last : (g j : ℕ) (s : Sits e xs z g j) → j % z.most ≡ z.rows - 1 → (t : X) → below g ≡ Some t → ⊥
    not_last g j s last t is =
        let u = (sits_low xs entries shows g t is).1 in
        let k = seat_of e sound xs entries shows g in
        let same : k ≡ j = shows.alone g k j (raised xs g k u) s in
        omega (arith, ap (λ n. n % z.most) same, row_is xs g k (raised xs g k u), u.in_rows)

    pub new_below : below f ≡ None
    new_below = none_since (below f) (λ t is. not_last f i sits (last_row bucket) t is)

    -- what is below, and f, is held
    pub held_more : (g : ℕ) → also f (held below) g ≡ true → held entries g ≡ true
    held_more g is =
        ⊎_elim
        (λ (same : eqb g f ≡ true). ap is_some (ap entries (eqb-true g f same) ∙ shows.told f i sits))
        (λ (apart : eqb g f ≡ false). some_below (is_low xs entries shows g) (entries g) (ap (λ x. x || held below g) (sym apart) ∙ is))
        (cases_Bool (eqb g f))
      where
        some_below : (x : Bool) (o : Option X) → is_some (cond x o None) ≡ true → is_some o ≡ true
        some_below true o h = h
        some_below false o h = absurd (grind arith)

    pub crowded : Unseatable e xs (narrower z) f → Seating z.buckets (z.rows - 1) z.range (held entries) → ⊥
    crowded none seating =
        none sits.below below (low_shown xs entries shows) new_below
        (seating_fewer z.buckets (z.rows - 1) z.range (held entries) (also f (held below)) (λ g _ is. held_more g is) seating)

    -- mid has the entry below, and its old seat still; ys has that seat empty
    module _ (mid : List (Seat X)) (tally : X) (got : tally ≡ (at e xs i).tally) (inside : i < length mid) (accepted : Accepted e xs mid (narrower z) f tally) where
      abbrev ys : List (Seat X)
      ys = set mid i (vacant e)

      mid_shows : Shows e mid (narrower z) (changed below f (Some tally))
      mid_shows = accepted.shows below (low_shown xs entries shows) new_below

      -- a seat of the rows below is as in mid
      low_same : (c row : ℕ) → row < z.rows - 1 → at e ys (c * z.most + row) ≡ at e mid (c * z.most + row)
      low_same c row r =
          get_or-set_other mid i (c * z.most + row) (vacant e) (vacant e)
          (λ is. omega (arith, mod-mul-add c z.most row (omega (arith, sound.within)), last_row bucket, ap (λ n. n % z.most) is))

      -- a last seat other than i is as in xs
      last_same : (c : ℕ) → c < z.buckets → (last_seat z c ≡ i → ⊥) → at e ys (last_seat z c) ≡ at e xs (last_seat z c)
      last_same c low apart =
          get_or-set_other mid i (last_seat z c) (vacant e) (vacant e) apart ∙ accepted.beyond c (z.rows - 1) low (omega arith) (omega (arith, sound.within))

      emptied : at e ys i ≡ vacant e
      emptied = get_or-set_same mid i (vacant e) (vacant e) inside

      -- what sits in ys sits below in mid, or in a last seat in xs
      from : (g j : ℕ) → Sits e ys z g j → Sits e mid (narrower z) g j ⊎ (Sits e xs z g j × (j % z.most ≡ z.rows - 1) × (j ≡ i → ⊥) × (at e ys j ≡ at e xs j))
      from g j s =
          ⊎_elim
          (λ (r : s.row < z.rows - 1).
          inl (sits_kept e sound' ys mid g j (ap (at e ys) s.lies ∙ low_same s.bucket s.row r ∙ ap (at e mid) (sym s.lies)) (lowered ys g j s r)))
          (λ (past : z.rows - 1 ≤ s.row).
          let last : s.row ≡ z.rows - 1 = omega (arith, s.in_rows) in
          let lies : j ≡ last_seat z s.bucket = s.lies ∙ ap (λ n. s.bucket * z.most + n) last in
          let apart : j ≡ i → ⊥ = λ is. s.filled (ap (λ (x : Seat X). x.tally) (ap (at e ys) is ∙ emptied)) in
          let same : at e ys j ≡ at e xs j = ap (at e ys) lies ∙ last_same s.bucket s.in_table (λ is. apart (lies ∙ is)) ∙ ap (at e xs) (sym lies) in
          inr (sits_kept e sound ys xs g j same s, row_is ys g j s ∙ last, apart, same))
          (cases_lt s.row (z.rows - 1))
        where
          sound' : Sound (narrower z)
          sound' = record { some = sound.some; few = sound.few; used = omega arith; within = omega (arith, sound.within); narrow = sound.narrow; small = sound.small }

      back_low : (g j : ℕ) → Sits e mid (narrower z) g j → Sits e ys z g j
      back_low g j s = sits_kept e sound mid ys g j (ap (at e mid) s.lies ∙ sym (low_same s.bucket s.row s.in_rows) ∙ ap (at e ys) (sym s.lies)) (raised mid g j s)

      back_last : (g j c : ℕ) → c < z.buckets → j ≡ last_seat z c → (j ≡ i → ⊥) → Sits e xs z g j → Sits e ys z g j
      back_last g j c low lies apart s = sits_kept e sound xs ys g j (ap (at e xs) lies ∙ sym (last_same c low (λ is. apart (lies ∙ is))) ∙ ap (at e ys) (sym lies)) s

      -- what mid has below is held
      mid_held : (g : ℕ) (t : X) → changed below f (Some tally) g ≡ Some t → entries g ≡ Some t
      mid_held g t is =
          ⊎_elim
          (λ (same : eqb g f ≡ true).
          ap entries (eqb-true g f same) ∙ shows.told f i sits ∙ ap Some (sym got) ∙ sym (cond-true (eqb g f) (Some tally) (below g) same) ∙ is)
          (λ (apart : eqb g f ≡ false). (sits_low xs entries shows g t (sym (cond-false (eqb g f) (Some tally) (below g) apart) ∙ is)).0)
          (cases_Bool (eqb g f))

      -- none sits both below in mid and in a last seat of xs other than i
      never_both : (g j k : ℕ) → Sits e mid (narrower z) g j → Sits e xs z g k → k % z.most ≡ z.rows - 1 → (k ≡ i → ⊥) → ⊥
      never_both g j k s t last apart =
          let entry = mid_shows.told g j s in
          ⊎_elim
          (λ (same : eqb g f ≡ true). apart (shows.alone f k i (subst (λ n. Sits e xs z n k) (eqb-true g f same) t) sits))
          (λ (other : eqb g f ≡ false). not_last g k t last (at e mid j).tally (sym (cond-false (eqb g f) (Some tally) (below g) other) ∙ entry))
          (cases_Bool (eqb g f))

      told' : (g j : ℕ) → Sits e ys z g j → entries g ≡ Some (at e ys j).tally
      told' g j s =
          ⊎_elim
          (λ (t : Sits e mid (narrower z) g j).
          mid_held g (at e mid j).tally (mid_shows.told g j t)
          ∙ ap (λ (x : Seat X). Some x.tally) (ap (at e mid) t.lies ∙ sym (low_same t.bucket t.row t.in_rows) ∙ ap (at e ys) (sym t.lies)))
          (λ h. shows.told g j h.0 ∙ ap (λ (x : Seat X). Some x.tally) (sym h.3))
          (from g j s)

      seated' : (g : ℕ) (t : X) → entries g ≡ Some t → (j : ℕ) × Sits e ys z g j
      seated' g t is =
          ⊎_elim
          (λ (same : eqb g f ≡ true).
          let (j, s) = mid_shows.seated g tally (cond-true (eqb g f) (Some tally) (below g) same) in
          (j, back_low g j s))
          (λ (other : eqb g f ≡ false).
          ⊎_elim
          (λ (yes : is_low xs entries shows g ≡ true).
          let (j, s) = mid_shows.seated g t (cond-false (eqb g f) (Some tally) (below g) other ∙ cond-true (is_low xs entries shows g) (entries g) None yes ∙ is) in
          (j, back_low g j s))
          (λ (no : is_low xs entries shows g ≡ false).
          let j = seat_of e sound xs entries shows g in
          let s = sits_there e sound xs entries shows g (ap is_some is) in
          let last : s.row ≡ z.rows - 1 = omega (arith, row_is xs g j s, s.in_rows, ltb-false (j % z.most) (z.rows - 1) no) in
          let apart : j ≡ i → ⊥ = λ at_i. eqb-false g f other (sits_one e sound xs g f i (subst (λ n. Sits e xs z g n) at_i s) sits) in
          (j, back_last g j s.bucket s.in_table (s.lies ∙ ap (λ n. s.bucket * z.most + n) last) apart s))
          (cases_Bool (is_low xs entries shows g)))
          (cases_Bool (eqb g f))

      alone' : (g j k : ℕ) → Sits e ys z g j → Sits e ys z g k → j ≡ k
      alone' g j k s t =
          ⊎_elim
          (λ (x : Sits e mid (narrower z) g j).
          ⊎_elim (λ y. mid_shows.alone g j k x y) (λ h. absurd (never_both g j k x h.0 h.1 h.2)) (from g k t))
          (λ h. ⊎_elim (λ y. absurd (never_both g k j y h.0 h.1 h.2)) (λ l. shows.alone g j k h.0 l.0) (from g k t))
          (from g j s)

      -- a seat of the rows in use lies below, or is a last seat
      rows : (c row : ℕ) → row < z.rows → (row < z.rows - 1) ⊎ (c * z.most + row ≡ last_seat z c)
      rows c row r = ⊎_elim inl (λ past. let is : row ≡ z.rows - 1 = omega arith in inr (ap (λ n. c * z.most + n) is)) (cases_lt row (z.rows - 1))

      pub shows_lowered : Shows e ys z entries
      shows_lowered = record {
        gives_back = λ c row low r filled.
            ⊎_elim
            (λ lt.
            let (g, s) = mid_shows.gives_back c row low lt (subst (λ (x : Seat X). x.tally ≡ e → ⊥) (low_same c row lt) filled) in
            (g, back_low g (c * z.most + row) s))
            (λ last.
            let j = c * z.most + row in
            let apart : j ≡ i → ⊥ = λ is. filled (ap (λ (x : Seat X). x.tally) (ap (at e ys) is ∙ emptied)) in
            let same : at e ys j ≡ at e xs j = ap (at e ys) last ∙ last_same c low (λ is. apart (last ∙ is)) ∙ ap (at e xs) (sym last) in
            let (g, s) = shows.gives_back c row low r (subst (λ (x : Seat X). x.tally ≡ e → ⊥) same filled) in
            (g, back_last g j c low last apart s))
            (rows c row r);
        told = told';
        seated = seated';
        alone = alone';
        alike = λ c row low r empty.
            ⊎_elim
            (λ lt. low_same c row lt ∙ mid_shows.alike c row low lt (ap (λ (x : Seat X). x.tally) (sym (low_same c row lt)) ∙ empty))
            (λ last.
            let j = c * z.most + row in
            ⊎_elim
            (λ (is : j ≡ i). ap (at e ys) is ∙ emptied)
            (λ (apart : j ≡ i → ⊥).
            let same : at e ys j ≡ at e xs j = ap (at e ys) last ∙ last_same c low (λ is. apart (last ∙ is)) ∙ ap (at e xs) (sym last) in
            same ∙ shows.alike c row low r (ap (λ (x : Seat X). x.tally) (sym same) ∙ empty))
            (cases_eq j i))
            (rows c row r);
        upright = λ g j s even.
            ⊎_elim
            (λ (t : Sits e mid (narrower z) g j).
            ap (λ (x : Seat X). x.flag) (ap (at e ys) t.lies ∙ low_same t.bucket t.row t.in_rows ∙ ap (at e mid) (sym t.lies)) ∙ mid_shows.upright g j t even)
            (λ h. ap (λ (x : Seat X). x.flag) h.3 ∙ shows.upright g j h.0 even)
            (from g j s);
      }

  -- a filled last seat is that of the fingerprint that it gives back
  pub sits_last : (xs : List (Seat X)) (entries : ℕ → Option X) → Shows e xs z entries → (bucket f : ℕ) → bucket < z.buckets → Filled e xs (last_seat z bucket) →
      f ≡ given_back z.buckets (record { bucket = bucket; carry = (at e xs (last_seat z bucket)).carry; flag = (at e xs (last_seat z bucket)).flag }) → Sits e xs z f (last_seat z bucket)
  sits_last xs entries shows bucket f b filled is =
      let i = last_seat z bucket in
      let flag = (at e xs i).flag in
      let (g, s) = shows.gives_back bucket (z.rows - 1) b (omega arith) filled in
      let home : bucket ≡ (place_of z.buckets g flag).bucket = same_bucket e sound bucket (z.rows - 1) s.bucket s.row (omega arith) s.in_rows s.lies ∙ s.home in
      let places : ◌≡◌ {A = Place} (record { bucket = bucket; carry = (at e xs i).carry; flag = flag }) (place_of z.buckets g flag) = λ k. record { bucket = home k; carry = s.carried k; flag = flag } in
      let same : g ≡ f = sym (place_back z.buckets g flag) ∙ ap (given_back z.buckets) (sym places) ∙ sym is in
      subst (λ n. Sits e xs z n i) same s

  pub inside : (bucket : ℕ) → bucket < z.buckets → last_seat z bucket < z.buckets * z.most
  inside bucket b = omega (arith, mul-add-lt bucket z.most (z.rows - 1) z.buckets b (omega (arith, sound.within)))

  -- a last seat, as it was read
  module _ (k : Kind X) (is : k.empty ≡ e) (lawful : Lawful k) (xs : List (Seat X)) (long : length xs ≡ z.buckets * z.most) (bucket : ℕ) (b : bucket < z.buckets) (s : Seat X) (was : s ≡ get_or xs (last_seat z bucket) s) where
    read : s ≡ at e xs (last_seat z bucket)
    read = get_or_read xs (last_seat z bucket) s (omega (arith, inside bucket b)) was (vacant e)

    module _ (some : k.is_empty s.tally ≡ false) where
      filled : Filled e xs (last_seat z bucket)
      filled none = both_ways (k.is_empty s.tally) some ((lawful.empty_told s.tally).1 (ap (λ (x : Seat X). x.tally) read ∙ none ∙ sym is))

      abbrev gives : ℕ
      gives = given_back z.buckets (record { bucket = bucket; carry = s.carry; flag = s.flag })

      sits_at : (entries : ℕ → Option X) → Shows e xs z entries → (f : ℕ) → f ≡ gives → Sits e xs z f (last_seat z bucket)
      sits_at entries shows f back =
          sits_last xs entries shows bucket f b filled
          (back ∙ ap (λ (x : Seat X). given_back z.buckets (record { bucket = bucket; carry = x.carry; flag = x.flag })) read)

      pub no_fingerprint : z.range ≤ gives → Lowered e xs xs z bucket (Err NoNarrowSeating)
      no_fingerprint large = (refl, refl, λ entries shows _. let below = (sits_at entries shows gives refl).below in omega arith)

      module _ (f : ℕ) (back : f ≡ gives) (mid : List (Seat X)) where
        pub no_seat : (words : ℕ) (why : Refusal) → 2 * z.buckets ≤ words → Refused e xs mid (narrower z) f (bar k xs (narrower z) s.tally words) why → Lowered e xs mid z bucket (Err NoNarrowSeating)
        no_seat words why enough refused = (
          refl,
          refused.same,
          λ entries shows.
              crowded xs entries shows bucket f b (sits_at entries shows f back)
              (⊎_elim (λ barred_by. let none = unbarred words enough in absurd (cc)) (λ h. h.2) refused.reason),
        )
          where
            unbarred : (words : ℕ) → 2 * z.buckets ≤ words → bar k xs (narrower z) s.tally words ≡ None
            unbarred words enough =
                ap (λ x. cond (not x) (Some Seats) (cond (ltb words (2 * z.buckets)) (Some Words) (cond (k.is_empty s.tally) (Some NoAmount) None))) (eq-eqb (length xs) (z.buckets * z.most) long)
                ∙ ap (λ x. cond x (Some Words) (cond (k.is_empty s.tally) (Some NoAmount) None)) (le-ltb words (2 * z.buckets) enough)
                ∙ ap (λ x. cond x (Some NoAmount) None) some

        pub seat_below : (ys : List (Seat X)) → length mid ≡ length xs → Accepted e xs mid (narrower z) f s.tally → ys ≡ set mid (last_seat z bucket) (vacant e) → Lowered e xs ys z bucket (Ok tt)
        seat_below ys same_long accepted wrote =
            let i = last_seat z bucket in
            let low : i < length mid = omega (arith, inside bucket b) in
            let shifted : Shifted e xs (set mid i (vacant e)) z = record {
              shows = λ entries shows.
                  shows_lowered xs entries shows bucket f b (sits_at entries shows f back) mid s.tally (ap (λ (x : Seat X). x.tally) read) low accepted;
              beyond = λ c row low past high.
                  get_or-set_other mid i (c * z.most + row) (vacant e) (vacant e) (λ same. omega (arith, mod-mul-add c z.most row high, last_row bucket, ap (λ n. n % z.most) same))
                  ∙ accepted.beyond c row low (omega arith) high;
            } in
            subst (λ ys. Lowered e xs ys z bucket (Ok tt)) (sym wrote) (
              shifted,
              ap (λ (x : Seat X). x.tally) (get_or-set_same mid i (vacant e) (vacant e) low),
              λ other low apart.
                  get_or-set_other mid i (last_seat z other) (vacant e) (vacant e)
                  (λ same. apart (same_bucket e sound other (z.rows - 1) bucket (z.rows - 1) (omega arith) (omega arith) same))
                  ∙ accepted.beyond other (z.rows - 1) low (omega arith) (omega (arith, sound.within)),
            )
