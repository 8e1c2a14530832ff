-- What seats show, with one of them filled anew or emptied. Assumes nothing.
use Rattle.std.proofs.Common.{◌≡◌, ℕ, ◌+◌, ◌*◌, ◌/◌, ◌%◌, ◌<◌, Bool, true, false, eqb, List, length, set, Some, None, Option, sym, refl, ap, ◌∙◌, subst, ⊎_elim, arith}
use Rattle.std.proofs.lemmas.Nat.{div-mul-add, div-add-mod'}
use Rattle.std.proofs.lemmas.List.{get_or-set_same, get_or-set_other}
use Rattle.std.proofs.lemmas.Bool.{cond-true, cond-false, cases_eq, ne_eqb, eq-eqb}
use Rattle.seats.specs.declared.seat.Seat.{Seat}
use Rattle.seats.specs.Shapes.{Size, Sound}
use Rattle.seats.specs.Places.{place_of, given_back}
use Rattle.seats.specs.Seats.{at, vacant, Filled, Sits, Shows, changed}

-- one fingerprint has a place
pub place_back : (m f : ℕ) (flag : Bool) → given_back m (place_of m f flag) ≡ f
place_back m f true = div-add-mod' f m
place_back m f false = div-add-mod' f m

-- what is no value is nothing
pub none_since : {A : Type 0} (o : Option A) → ((x : A) → o ≡ Some x → ⊥) → o ≡ None
none_since None h = refl
none_since (Some x) h = absurd (h x refl)

module _ {X : Type 0} (e : X) {z : Size} (sound : Sound z) where
  -- what sits in a seat sits there in other seats that have it alike
  pub sits_kept : (xs ys : List (Seat X)) (f i : ℕ) → at e xs i ≡ at e ys i → Sits e xs z f i → Sits e ys z f i
  sits_kept xs ys f i same s = record {
    bucket = s.bucket;
    row = s.row;
    in_table = s.in_table;
    in_rows = s.in_rows;
    lies = s.lies;
    filled = subst (λ (x : Seat X). x.tally ≡ e → ⊥) same s.filled;
    home = subst (λ (x : Seat X). s.bucket ≡ (place_of z.buckets f x.flag).bucket) same s.home;
    carried = subst (λ (x : Seat X). x.carry ≡ (place_of z.buckets f x.flag).carry) same s.carried;
    below = s.below;
  }

  -- the row of a seat, and its bucket, are its own
  pub same_bucket : (b r c s : ℕ) → r < z.rows → s < z.rows → b * z.most + r ≡ c * z.most + s → b ≡ c
  same_bucket b r c s low low' same =
      sym (div-mul-add b z.most r (omega (arith, sound.within))) ∙ ap (λ n. n / z.most) same ∙ div-mul-add c z.most s (omega (arith, sound.within))

  -- a seat gives back one fingerprint
  pub sits_one : (xs : List (Seat X)) (f g i : ℕ) → Sits e xs z f i → Sits e xs z g i → f ≡ g
  sits_one xs f g i s t =
      let flag = (at e xs i).flag in
      let bucket : s.bucket ≡ t.bucket = same_bucket s.bucket s.row t.bucket t.row s.in_rows t.in_rows (sym s.lies ∙ t.lies) in
      let buckets : (place_of z.buckets f flag).bucket ≡ (place_of z.buckets g flag).bucket = sym s.home ∙ bucket ∙ t.home in
      let carries : (place_of z.buckets f flag).carry ≡ (place_of z.buckets g flag).carry = sym s.carried ∙ t.carried in
      let places : place_of z.buckets f flag ≡ place_of z.buckets g flag = λ i. record { bucket = buckets i; carry = carries i; flag = flag } in
      sym (place_back z.buckets f flag) ∙ ap (given_back z.buckets) places ∙ place_back z.buckets g flag

  pub shows_like : (xs : List (Seat X)) (entries others : ℕ → Option X) → ((g : ℕ) → others g ≡ entries g) → Shows e xs z entries → Shows e xs z others
  shows_like xs entries others like shows = record {
    gives_back = shows.gives_back;
    told = λ f i s. like f ∙ shows.told f i s;
    seated = λ f t is. shows.seated f t (sym (like f) ∙ is);
    alone = shows.alone;
    alike = shows.alike;
    upright = shows.upright;
  }

  -- what sits nowhere is no entry
  pub not_shown : (xs : List (Seat X)) (entries : ℕ → Option X) (f : ℕ) → Shows e xs z entries → ((i : ℕ) → Sits e xs z f i → ⊥) → entries f ≡ None
  not_shown xs entries f shows nowhere = none_since (entries f) (λ t is. let (i, s) = shows.seated f t is in nowhere i s)

  -- the seat i is written: it holds f or nothing before, and s after; and f sits in no other seat
  module _ (xs : List (Seat X)) (entries : ℕ → Option X) (f i : ℕ) (s : Seat X) (shows : Shows e xs z entries) (inside : i < length xs)
      (before : (g : ℕ) → Sits e xs z g i → g ≡ f) (only : (j : ℕ) → Sits e xs z f j → j ≡ i) where
    abbrev ys : List (Seat X)
    ys = set xs i s

    here : (j : ℕ) → j ≡ i → at e ys j ≡ s
    here j is = ap (at e ys) is ∙ get_or-set_same xs i s (vacant e) inside

    there : (j : ℕ) → (j ≡ i → ⊥) → at e ys j ≡ at e xs j
    there j apart = get_or-set_other xs i j s (vacant e) apart

    older : (g j : ℕ) → (j ≡ i → ⊥) → Sits e ys z g j → Sits e xs z g j
    older g j apart t = sits_kept ys xs g j (there j apart) t

    newer : (g j : ℕ) → (j ≡ i → ⊥) → Sits e xs z g j → Sits e ys z g j
    newer g j apart t = sits_kept xs ys g j (sym (there j apart)) t

    -- another fingerprint sits where it did
    other_sits : (g j : ℕ) → (g ≡ f → ⊥) → Sits e xs z g j → j ≡ i → ⊥
    other_sits g j apart t is = apart (before g (subst (λ n. Sits e xs z g n) is t))

    other_seated : (g : ℕ) (entry : Option X) (t : X) → changed entries f entry g ≡ Some t → (g ≡ f → ⊥) → (j : ℕ) × Sits e ys z g j
    other_seated g entry t is apart =
        let (j, sits) = shows.seated g t (sym (cond-false (eqb g f) entry (entries g) (ne_eqb g f apart)) ∙ is) in
        (j, newer g j (other_sits g j apart sits) sits)

    other_told : (g j : ℕ) (entry : Option X) → (j ≡ i → ⊥) → Sits e ys z g j → changed entries f entry g ≡ Some (at e ys j).tally
    other_told g j entry apart t =
        let t' = older g j apart t in
        let ne : g ≡ f → ⊥ = λ is. apart (only j (subst (λ n. Sits e xs z n j) is t')) in
        cond-false (eqb g f) entry (entries g) (ne_eqb g f ne) ∙ shows.told g j t' ∙ ap (λ (x : Seat X). Some x.tally) (sym (there j apart))

    other_gives_back : (bucket row : ℕ) → bucket < z.buckets → row < z.rows → (bucket * z.most + row ≡ i → ⊥) → Filled e ys (bucket * z.most + row) → (g : ℕ) × Sits e ys z g (bucket * z.most + row)
    other_gives_back bucket row b r apart filled =
        let j = bucket * z.most + row in
        let (g, t) = shows.gives_back bucket row b r (subst (λ (x : Seat X). x.tally ≡ e → ⊥) (there j apart) filled) in
        (g, newer g j apart t)

    other_alike : (bucket row : ℕ) → bucket < z.buckets → row < z.rows → (bucket * z.most + row ≡ i → ⊥) → (at e ys (bucket * z.most + row)).tally ≡ e → at e ys (bucket * z.most + row) ≡ vacant e
    other_alike bucket row b r apart empty =
        let same = there (bucket * z.most + row) apart in
        same ∙ shows.alike bucket row b r (ap (λ (x : Seat X). x.tally) (sym same) ∙ empty)

    other_upright : (g j : ℕ) → (j ≡ i → ⊥) → Sits e ys z g j → g / z.buckets ≡ g % z.buckets → (at e ys j).flag ≡ true
    other_upright g j apart t even = ap (λ (x : Seat X). x.flag) (there j apart) ∙ shows.upright g j (older g j apart t) even

    -- s holds f
    pub shows_filled : Sits e ys z f i → (f / z.buckets ≡ f % z.buckets → s.flag ≡ true) → Shows e ys z (changed entries f (Some s.tally))
    shows_filled sits upright = record {
      gives_back = λ bucket row b r filled.
          ⊎_elim
          (λ is. (f, subst (λ n. Sits e ys z f n) (sym is) sits))
          (λ apart. other_gives_back bucket row b r apart filled)
          (cases_eq (bucket * z.most + row) i);
      told = λ g j t.
          ⊎_elim
          (λ is.
          let g_is : g ≡ f = sits_one ys g f i (subst (λ n. Sits e ys z g n) is t) sits in
          cond-true (eqb g f) (Some s.tally) (entries g) (eq-eqb g f g_is) ∙ ap (λ (x : Seat X). Some x.tally) (sym (here j is)))
          (λ apart. other_told g j (Some s.tally) apart t)
          (cases_eq j i);
      seated = λ g t is.
          ⊎_elim
          (λ same. (i, subst (λ n. Sits e ys z n i) (sym same) sits))
          (λ apart. other_seated g (Some s.tally) t is apart)
          (cases_eq g f);
      alone = λ g j k t u. alone' g j k t u;
      alike = λ bucket row b r empty.
          ⊎_elim
          (λ is. absurd (sits.filled (subst (λ n. (at e ys n).tally ≡ e) is empty)))
          (λ apart. other_alike bucket row b r apart empty)
          (cases_eq (bucket * z.most + row) i);
      upright = λ g j t even.
          ⊎_elim
          (λ is.
          let g_is : g ≡ f = sits_one ys g f i (subst (λ n. Sits e ys z g n) is t) sits in
          ap (λ (x : Seat X). x.flag) (here j is) ∙ upright (subst (λ n. n / z.buckets ≡ n % z.buckets) g_is even))
          (λ apart. other_upright g j apart t even)
          (cases_eq j i);
    }
      where
        at_home : (g j : ℕ) → Sits e ys z g j → j ≡ i → g ≡ f
        at_home g j t is = sits_one ys g f i (subst (λ n. Sits e ys z g n) is t) sits

        strays : (g j k : ℕ) → Sits e ys z g j → Sits e ys z g k → j ≡ i → k ≡ i
        strays g j k t u is =
            ⊎_elim (λ same. same)
            (λ apart. only k (subst (λ n. Sits e xs z n k) (at_home g j t is) (older g k apart u)))
            (cases_eq k i)

        alone' : (g j k : ℕ) → Sits e ys z g j → Sits e ys z g k → j ≡ k
        alone' g j k t u =
            ⊎_elim
            (λ is. is ∙ sym (strays g j k t u is))
            (λ apart. ⊎_elim (λ is. absurd (apart (strays g k j u t is))) (λ apart'. shows.alone g j k (older g j apart t) (older g k apart' u)) (cases_eq k i))
            (cases_eq j i)

    -- s is empty
    pub shows_emptied : s ≡ vacant e → Shows e ys z (changed entries f None)
    shows_emptied is-vacant = record {
      gives_back = λ bucket row b r filled. other_gives_back bucket row b r (λ is. filled (empty_here _ is)) filled;
      told = λ g j t. other_told g j None (λ is. t.filled (empty_here j is)) t;
      seated = λ g t is.
          ⊎_elim
          (λ same. absurd (cc (is, cond-true (eqb g f) None (entries g) (eq-eqb g f same))))
          (λ apart. other_seated g None t is apart)
          (cases_eq g f);
      alone = λ g j k t u. shows.alone g j k (older g j (λ is. t.filled (empty_here j is)) t) (older g k (λ is. u.filled (empty_here k is)) u);
      alike = λ bucket row b r empty.
          ⊎_elim
          (λ is. here _ is ∙ is-vacant)
          (λ apart. other_alike bucket row b r apart empty)
          (cases_eq (bucket * z.most + row) i);
      upright = λ g j t even. other_upright g j (λ is. t.filled (empty_here j is)) t even;
    }
      where
        empty_here : (j : ℕ) → j ≡ i → (at e ys j).tally ≡ e
        empty_here j is = ap (λ (x : Seat X). x.tally) (here j is ∙ is-vacant)
