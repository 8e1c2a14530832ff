-- The steps of the way back. Assumes nothing.
use Rattle.std.proofs.Common.{◌≡◌, ℕ, zero, suc, ◌+◌, ◌*◌, ◌/◌, ◌%◌, ◌<◌, not, eqb, List, length, get_or, set, sym, refl, ap, ◌∙◌, subst, ⊎_elim, arith}
use Rattle.std.proofs.lemmas.Nat.{div-mul-add, mod-mul-add}
use Rattle.std.proofs.lemmas.List.{get_or-set_same, get_or-set_other, length-set, set-set, set_comm}
use Rattle.std.proofs.lemmas.Bool.{cond-true, cond-false, ne_eqb, eq-eqb}
use Rattle.seats.specs.declared.seat.Seat.{Seat}
use Rattle.seats.specs.Shapes.{Size, Sound}
use Rattle.seats.specs.Seats.{at, seat, vacant, Lies, Shows}
use Rattle.seats.proofs.Shown.{same_bucket}
use Rattle.moves.specs.Queue.{root, Seen}
use Rattle.moves.specs.Tree.{Parent, Tree}
use Rattle.moves.specs.Traversal.{Chain}
use Rattle.moves.specs.Walk.{moved, depth, Beyond, Walking, Opened}
use Rattle.moves.proofs.Traversals.{bucket_inside, few_seats, lies_inside}
use Rattle.moves.proofs.Moved.{shows_vacant, shows_moved}

-- the bucket of a seat
pub bucket_of : {z : Size} → Sound z → (b i : ℕ) → Lies z b i → i / z.most ≡ b
bucket_of {z} sound b i (row, in_rows, lies) = ap (λ n. n / z.most) lies ∙ div-mul-add b z.most row (omega (arith, sound.within))

-- a seat written in the rows in use leaves those beyond
pub beyond_set : {X : Type 0} (e : X) (before after : List (Seat X)) {z : Size} → Sound z → (b i : ℕ) → Lies z b i → (x : Seat X) → Beyond e before after z → Beyond e before (set after i x) z
beyond_set e before after {z} sound b i (row, in_rows, lies) x beyond c r low past short =
    let apart : c * z.most + r ≡ i → ⊥ = λ is.
    let rows : r ≡ row = sym (mod-mul-add c z.most r short) ∙ ap (λ n. n % z.most) (is ∙ lies) ∙ mod-mul-add b z.most row (omega (arith, sound.within)) in
    omega arith
    in
    get_or-set_other after i (c * z.most + r) x (vacant e) apart ∙ beyond c r low past short

-- a free seat is open
pub opened_free : {X : Type 0} (e : X) (seats : List (Seat X)) {z : Size} → Sound z → (bucket i : ℕ) → bucket < z.buckets → Lies z bucket i → (at e seats i).tally ≡ e → Opened e seats seats z bucket i
opened_free e seats sound bucket i low lies empty = record {
  in_table = low;
  lies = lies;
  opens = λ entries shows. shows_vacant e sound seats entries shows bucket i low lies empty;
  beyond = λ b row low past short. refl;
}

module _ {X : Type 0} {e : X} {before : List (Seat X)} {z : Size} (sound : Sound z) {links : List ℕ} where
  module _ (t : Tree e before z links z.buckets) where
    -- a link that is no root is a seat
    parent : (j : ℕ) → j < z.buckets → Seen links j → (get_or links j 0 ≡ root → ⊥) → Parent e before z links t.rank (t.rank j) j (get_or links j 0)
    parent j low seen inner = ⊎_elim (λ is. absurd (inner is.0)) (λ p. p) (t.step j low seen)

    at_parent : {n j s : ℕ} (p : Parent e before z links t.rank n j s) → s / z.most ≡ p.bucket
    at_parent p = bucket_of sound p.bucket _ (p.row, p.in_rows, p.lies)

    -- as many links lead from a bucket to a root as its rank says
    depth_is : (n j : ℕ) → j < z.buckets → Seen links j → t.rank j < n → depth links z.most n j ≡ t.rank j
    depth_is zero j low seen h = absurd (omega arith)
    depth_is (suc n) j low seen h =
        let link = get_or links j 0 in
        let rest = depth links z.most n (link / z.most) in
        ⊎_elim
        (λ at_root. cond-true (eqb link root) 0 (suc rest) (eq-eqb link root at_root.0) ∙ sym at_root.1)
        (λ (p : Parent e before z links t.rank (t.rank j) j link).
        let inner : link ≡ root → ⊥ = λ is. omega (arith, p.lies, p.in_rows, bucket_inside sound p.bucket p.in_table, few_seats sound) in
        let further : rest ≡ t.rank p.bucket = ap (depth links z.most n) (at_parent p) ∙ depth_is n p.bucket p.in_table p.seen (omega (arith, p.nearer)) in
        omega (arith, cond-false (eqb link root) 0 (suc rest) (ne_eqb link root inner), further, p.nearer))
        (t.step j low seen)

    pub depth_falls : (j : ℕ) → j < z.buckets → Seen links j → (get_or links j 0 ≡ root → ⊥) →
        depth links z.most (suc z.buckets) (get_or links j 0 / z.most) < depth links z.most (suc z.buckets) j
    depth_falls j low seen inner =
        let p = parent j low seen inner in
        let below = t.below j low seen in
        let mine = depth_is (suc z.buckets) j low seen (omega arith) in
        let next = ap (depth links z.most (suc z.buckets)) (at_parent p) ∙ depth_is (suc z.buckets) p.bucket p.in_table p.seen (omega (arith, p.nearer)) in
        omega (arith, mine, next, p.nearer)

  pub walking_none : {i : ℕ} → Chain e before z links i → Walking e before before z links i (i / z.most)
  walking_none {i} c =
      subst (λ b. Walking e before before z links i b) (sym (bucket_of sound c.bucket i c.lies))
      (record {
        tree = c.tree;
        seen = c.seen;
        opened = opened_free e before sound c.bucket i c.in_table c.lies c.empty;
        same = λ b row h lower. refl;
      })

  module _ {after : List (Seat X)} {hole j : ℕ} (long : length after ≡ z.buckets * z.most) (w : Walking e before after z links hole j) where
    pub hole_inside : hole < length after
    hole_inside = omega (arith, lies_inside sound j hole w.opened.in_table w.opened.lies)

    module _ (inner : get_or links j 0 ≡ root → ⊥) where
      up : Parent e before z links w.tree.rank (w.tree.rank j) j (get_or links j 0)
      up = parent w.tree j w.opened.in_table w.seen inner

      pub parent_inside : get_or links j 0 < length after
      parent_inside = let p = up in omega (arith, lies_inside sound p.bucket (get_or links j 0) p.in_table (p.row, p.in_rows, p.lies))

      -- the entry of the link's seat moved into the hole, and that seat is open
      pub walking_more : {next : List (Seat X)} → next ≡ set after hole (moved e after (get_or links j 0) (get_or links j 0 / z.most)) →
          Walking e before next z links (get_or links j 0) (get_or links j 0 / z.most)
      walking_more {next} is =
          let p = up in
          let o = w.opened in
          let rank = w.tree.rank in
          let i = p.bucket in
          let s = i * z.most + p.row in
          let nearer : rank i < rank j = omega (arith, p.nearer) in
          let apart : (b : ℕ) → rank b < rank j → b ≡ j → ⊥ = λ b h is. omega (arith, h, ap rank is) in
          let old : at e after s ≡ at e before s = w.same i p.row p.in_rows nearer in
          let x : Seat X = moved e after s i in
          let blank : List (Seat X) = set after hole (vacant e) in
          let not_hole : (b row : ℕ) → row < z.rows → rank b < rank j → b * z.most + row ≡ hole → ⊥ =
          λ b row h lower is. apart b lower (same_bucket e sound b row j o.lies.0 h o.lies.1 (is ∙ o.lies.2))
          in
          let clear : at e blank s ≡ at e after s = get_or-set_other after hole s (vacant e) (vacant e) (not_hole i p.row p.in_rows nearer) in
          let was : at e blank s ≡ at e before (get_or links j 0) = clear ∙ old ∙ ap (at e before) (sym p.lies) in
          let lists : set (set blank s (vacant e)) hole (moved e blank s i) ≡ set (set after hole x) s (vacant e) =
          set_comm blank s hole (vacant e) (moved e blank s i) (not_hole i p.row p.in_rows nearer)
          ∙ ap (λ l. set l s (vacant e)) (set-set after hole (vacant e) (moved e blank s i) ∙ ap (λ (y : Seat X). set after hole (seat i (not y.flag) y.tally)) clear)
          in
          subst (λ (l : List (Seat X)). Walking e before l z links (get_or links j 0) (get_or links j 0 / z.most)) (sym is)
          (subst (λ b. Walking e before (set after hole (moved e after (get_or links j 0) b)) z links (get_or links j 0) b) (sym (at_parent w.tree p))
          (subst (λ n. Walking e before (set after hole (moved e after n i)) z links n i) (sym p.lies)
          (record {
            tree = w.tree;
            seen = p.seen;
            opened = record {
              in_table = p.in_table;
              lies = (p.row, p.in_rows, refl);
              opens = λ entries shows.
                  subst (λ l. Shows e l z entries) lists
                  (shows_moved e sound blank entries (o.opens entries shows) i p.row j hole (apart i nearer) p.in_table p.in_rows
                  (subst (λ (y : Seat X). y.tally ≡ e → ⊥) (sym was) p.filled) (ap (λ (y : Seat X). y.carry) was ∙ p.leads)
                  o.in_table o.lies (omega (arith, hole_inside, length-set after hole (vacant e))) (get_or-set_same after hole (vacant e) (vacant e) hole_inside));
              beyond = beyond_set e before after sound j hole o.lies x o.beyond;
            };
            same = λ b row h lower.
                let below : rank b < rank j = omega (arith, lower, nearer) in
                get_or-set_other after hole (b * z.most + row) x (vacant e) (not_hole b row h below) ∙ w.same b row h below;
          })))
