-- The steps of the traversal. Assumes nothing.
use Rattle.std.proofs.Common.{◌≡◌, ℕ, ◌+◌, ◌*◌, ◌<◌, ◌≤◌, List, length, get_or, sym, ap, ◌∙◌, subst, ⊎_elim, mul-le-mul_right, suc-mul, arith, below_more}
use Rattle.std.proofs.lemmas.Nat.{mul-le}
use Rattle.std.proofs.lemmas.Bool.{cases_eq, cases_lt}
use Rattle.seats.specs.declared.seat.Seat.{Seat}
use Rattle.seats.specs.Shapes.{Size, Sound}
use Rattle.seats.specs.Seats.{Filled, Lies}
use Rattle.moves.specs.Queue.{unseen, root, Seen, Visit, Begun}
use Rattle.moves.specs.Tree.{other, Near, Reached}
use Rattle.moves.specs.Traversal.{Full, Expanding, Stopped, Traversing, Stuck, Found}
use Rattle.moves.proofs.Visits.{root_seen, seen_visit, grown_visit, grown_more, grown_seen, roots_grown}
use Rattle.moves.proofs.Trees.{reached_begun, near_kept, visited}

-- the rows in use of a bucket lie within the seats
pub bucket_inside : {z : Size} → Sound z → (b : ℕ) → b < z.buckets → b * z.most + z.rows ≤ z.buckets * z.most
bucket_inside {z} sound b low =
    let h : (b + 1) * z.most ≤ z.buckets * z.most = mul-le-mul_right z.most (omega arith) in
    let d : (b + 1) * z.most ≡ b * z.most + z.most = omega (arith, suc-mul b z.most) in
    omega (arith, sound.within)

pub few_seats : {z : Size} → Sound z → z.buckets * z.most ≤ 32768
few_seats {z} sound = omega (arith, mul-le z.buckets z.most 4096 8 sound.few sound.narrow)

-- a seat in the rows in use of a bucket is a seat
pub lies_inside : {z : Size} → Sound z → (b i : ℕ) → b < z.buckets → Lies z b i → i < z.buckets * z.most
lies_inside sound b i low (row, in_rows, lies) = omega (arith, bucket_inside sound b low)

module _ {X : Type 0} {e : X} {seats : List (Seat X)} {z : Size} (sound : Sound z) where
  module _ {links queue : List ℕ} {head tail : ℕ} (r : Reached e seats z links queue head tail) (on : head < tail) (bucket : ℕ) (left : bucket ≡ get_or queue head 0) (n : ℕ) (in_rows : n < z.rows)
      {links' queue' : List ℕ} {tail' : ℕ} (x : Expanding e seats z bucket n links queue head tail links' queue' tail')
      (filled : Filled e seats (bucket * z.most + n)) where
    -- the entry at row n may move to a bucket, which is visited
    pub expanding_more : length links' ≡ z.buckets → z.buckets ≤ length queue' → (j : ℕ) → j ≡ other e seats z bucket n → j < z.buckets →
        {links'' queue'' : List ℕ} {tail'' : ℕ} → Visit links' queue' tail' j (bucket * z.most + n) links'' queue'' tail'' →
        Expanding e seats z bucket (n + 1) links queue head tail links'' queue'' tail''
    expanding_more long wide j is low {links''} {queue''} {tail''} v =
        let i = bucket * z.most + n in
        let low_bucket : bucket < z.buckets = omega (arith, left, r.order.low head on) in
        let inside = bucket_inside sound bucket low_bucket in
        let small = few_seats sound in
        let real : i ≡ unseen → ⊥ = λ h. omega arith in
        let inner : i ≡ root → ⊥ = λ h. omega arith in
        let same : get_or queue' head 0 ≡ bucket = x.grown.same head on ∙ sym left in
        let still_on = x.grown.longer in
        let w = visited e seats z x.reached (omega arith) long wide n j i low real inner in_rows (ap (λ b. b * z.most + n) (sym same)) (sym is) filled v in
        let grew = grown_visit x.reached.order long wide j i low real inner v in
        let rank = w.reached.tree.rank in
        let seen : Seen links' bucket = grown_seen x.grown bucket (subst (Seen links) (sym left) (r.order.listed head on)) in
        record {
          reached = w.reached;
          grown = grown_more x.grown grew;
          full = below_more _ _ x.full filled;
          near =
              below_more _ _
              (λ row h. near_kept e seats z links' links'' x.reached.tree.rank rank (grown_seen grew) w.kept bucket row seen (x.near row h))
              (λ _. (subst (Seen links'') is (seen_visit x.reached.order long wide j i low real v), omega (arith, w.close, ap rank same, ap rank is)));
        }

    -- what is no bucket is passed over
    pub expanding_past : (z.buckets ≤ other e seats z bucket n) → Expanding e seats z bucket (n + 1) links queue head tail links' queue' tail'
    expanding_past past = record {
      reached = x.reached;
      grown = x.grown;
      full = below_more _ _ x.full filled;
      near = below_more _ _ x.near (λ low. absurd (omega arith));
    }

  pub expanding_all : {bucket n : ℕ} {links queue : List ℕ} {head tail : ℕ} {links' queue' : List ℕ} {tail' : ℕ} → z.rows ≤ n →
      Expanding e seats z bucket n links queue head tail links' queue' tail' → Expanding e seats z bucket z.rows links queue head tail links' queue' tail'
  expanding_all le x = record {
    reached = x.reached;
    grown = x.grown;
    full = λ row h. x.full row (omega arith);
    near = λ row h. x.near row (omega arith);
  }

  pub traversing_none : {f : ℕ} {links queue : List ℕ} {tail : ℕ} → Begun z f links queue tail → Traversing e seats z f links queue 0 tail
  traversing_none b = record {
    reached = reached_begun e seats z b;
    roots = b.roots;
    passed = omega arith;
    full = λ k h. absurd (omega arith);
  }

  module _ {f : ℕ} {links queue : List ℕ} {head tail : ℕ} (s : Traversing e seats z f links queue head tail) where
    -- the bucket at the head is full
    pub traversing_more : {links' queue' : List ℕ} {tail' : ℕ} → head < tail → Expanding e seats z (get_or queue head 0) z.rows links queue head tail links' queue' tail' →
        Traversing e seats z f links' queue' (head + 1) tail'
    traversing_more {links'} {queue'} {tail'} on x =
        let r = x.reached in
        let old : (k : ℕ) → k < head + 1 → get_or queue' k 0 ≡ get_or queue k 0 = λ k h. x.grown.same k (omega arith) in
        let longer = x.grown.longer in
        record {
          reached = record {
            order = r.order;
            tree = r.tree;
            layers = record {
              sorted = r.layers.sorted;
              tight = λ l h i. omega (arith, r.layers.tight l (omega arith) i, r.layers.sorted head (head + 1) (omega arith) h);
              near = λ k row h u.
                  ⊎_elim
                  (λ (is : k ≡ head). subst (λ q. Near e seats z links' r.tree.rank q row) (sym (old k h ∙ ap (λ k. get_or queue k 0) is)) (x.near row u))
                  (λ ne. r.layers.near k row (omega arith) u)
                  (cases_eq k head);
            };
          };
          roots = roots_grown x.grown s.roots;
          passed = omega arith;
          full = λ k h.
              subst (λ b. Full e seats z b z.rows) (sym (old k h))
              (⊎_elim (λ is. subst (λ n. Full e seats z (get_or queue n 0) z.rows) (sym is) x.full) (λ ne. s.full k (omega arith)) (cases_eq k head));
        }

    -- the queue is at its end
    pub traversing_all : tail ≤ head → Stuck e seats z f links
    traversing_all le = record {
      quotient = root_seen links _ s.roots.quotient;
      remainder = root_seen links _ s.roots.remainder;
      full = λ j h seen. let k = s.reached.order.found j h seen in subst (λ b. Full e seats z b z.rows) k.2 (s.full k.0 (omega (arith, k.1)));
      closed = λ j row h seen u low.
          let k = s.reached.order.found j h seen in
          (subst (λ b. Near e seats z links s.reached.tree.rank b row) k.2 (s.reached.layers.near k.0 row (omega (arith, k.1)) u) low).0;
    }

    -- the bucket at the head has a free seat
    pub traversing_found : {links' queue' : List ℕ} (i : ℕ) → head < tail → Stopped e seats z (get_or queue head 0) i links queue head tail links' queue' → Found e seats z f links' i
    traversing_found {links'} {queue'} i on x =
        let r = x.reached in
        let rank = r.tree.rank in
        let longer = x.grown.longer in
        let still_on : head < x.end = omega arith in
        let same : get_or queue' head 0 ≡ get_or queue head 0 = x.grown.same head on in
        -- a bucket of a rank below that of the head was passed
        let nearer : (j : ℕ) → j < z.buckets → Seen links' j → rank j < rank (get_or queue' head 0) → (k : ℕ) × (k < head) × (get_or queue' k 0 ≡ j) =
        λ j h seen lt.
        let k = r.order.found j h seen in
        (k.0, ⊎_elim (λ h. h) (λ le. absurd (omega (arith, r.layers.sorted head k.0 le k.1, ap rank k.2))) (cases_lt k.0 head), k.2)
        in
        record {
          chain = record {
            tree = record { rank = rank; below = λ j h seen. omega (arith, r.tree.below j h seen, r.order.few); step = r.tree.step };
            bucket = get_or queue' head 0;
            in_table = r.order.low head still_on;
            seen = r.order.listed head still_on;
            lies = subst (λ b. Lies z b i) (sym same) x.lies;
            empty = x.empty;
          };
          roots = roots_grown x.grown s.roots;
          full = λ j h seen lower.
              let k = nearer j h seen lower in
              subst (λ b. Full e seats z b z.rows) (sym (x.grown.same k.0 (omega (arith, k.1))) ∙ k.2) (s.full k.0 k.1);
          near = λ j row h seen lower u. let k = nearer j h seen lower in subst (λ b. Near e seats z links' rank b row) k.2 (r.layers.near k.0 row k.1 u);
        }
