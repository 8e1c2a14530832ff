-- A visit keeps the tree and its layers. Assumes nothing.
use Rattle.std.proofs.Common.{◌≡◌, ℕ, ◌+◌, ◌*◌, ◌<◌, ◌≤◌, ◌⊎◌, List, length, get_or, sym, refl, ap, ◌∙◌, subst, inl, inr, ⊎_elim, arith}
use Rattle.std.proofs.lemmas.Bool.{cases_eq}
use Rattle.seats.specs.declared.seat.Seat.{Seat}
use Rattle.seats.specs.Shapes.{Size}
use Rattle.seats.specs.Seats.{at, Filled}
use Rattle.moves.specs.Queue.{unseen, root, Seen, Fresh, Known, Visit, Begun}
use Rattle.moves.specs.Tree.{Near, Parent, Tree, Reached}
use Rattle.moves.proofs.Visits.{put, put_same, put_other, link_here, link_there, seen_there, queue_here, queue_there, at_place, fresh_order}

module _ {X : Type 0} (e : X) (seats : List (Seat X)) (z : Size) where
  pub reached_begun : {f : ℕ} {links queue : List ℕ} {tail : ℕ} → Begun z f links queue tail → Reached e seats z links queue 0 tail
  reached_begun b = record {
    order = b.order;
    tree = record {
      rank = λ _. 0;
      below = λ j h s. let k = b.order.found j h s in omega (arith, k.1);
      step = λ j h s. inl (b.just j h s, refl);
    };
    layers = record { sorted = λ k l h i. omega arith; tight = λ l h i. omega arith; near = λ k row h. absurd (omega arith) };
  }

  -- what is near stays so, where what was seen stays so and keeps its rank
  pub near_kept : (links links' : List ℕ) (rank rank' : ℕ → ℕ) → ((i : ℕ) → Seen links i → Seen links' i) → ((i : ℕ) → Seen links i → rank' i ≡ rank i) →
      (bucket row : ℕ) → Seen links bucket → Near e seats z links rank bucket row → Near e seats z links' rank' bucket row
  near_kept links links' rank rank' stays kept bucket row seen near low =
      let (there, close) = near low in
      (stays _ there, omega (arith, close, kept _ there, kept bucket seen))

  -- what a visit of the bucket j from the head of the queue leaves
  pub record Visited {links queue : List ℕ} {head tail : ℕ} (r : Reached e seats z links queue head tail) (j : ℕ) (links' queue' : List ℕ) (tail' : ℕ) : Type 0 where
    pub reached : Reached e seats z links' queue' head tail'
    pub kept : (i : ℕ) → Seen links i → reached.tree.rank i ≡ r.tree.rank i
    pub close : reached.tree.rank j ≤ reached.tree.rank (get_or queue head 0) + 1

  module _ {links queue : List ℕ} {head tail : ℕ} (r : Reached e seats z links queue head tail) (on : head < tail)
      (long : length links ≡ z.buckets) (wide : z.buckets ≤ length queue) (row j link : ℕ) (low : j < z.buckets) (real : link ≡ unseen → ⊥) (inner : link ≡ root → ⊥)
      (in_rows : row < z.rows) (lies : link ≡ get_or queue head 0 * z.most + row) (leads : (at e seats link).carry ≡ j) (filled : Filled e seats link)
      {links' queue' : List ℕ} {tail' : ℕ} where
    fresh_visited : Fresh links queue tail j link links' queue' tail' → Visited r j links' queue' tail'
    fresh_visited v =
        let o = r.order in
        let t = r.tree in
        let l = r.layers in
        let b = get_or queue head 0 in
        let in_table : b < z.buckets = o.low head on in
        let seen : Seen links b = o.listed head on in
        let rank : ℕ → ℕ = put t.rank j (t.rank b + 1) in
        let here : rank j ≡ t.rank b + 1 = put_same t.rank j (t.rank b + 1) j refl in
        let there : (i : ℕ) → (i ≡ j → ⊥) → rank i ≡ t.rank i = put_other t.rank j (t.rank b + 1) in
        let kept : (i : ℕ) → Seen links i → rank i ≡ t.rank i = λ i s. there i (λ is. s (ap (λ i. get_or links i 0) is ∙ v.was)) in
        let older : (i : ℕ) → (i ≡ j → ⊥) → Seen links' i → Seen links i = λ i ne s none. s (link_there o long wide j link low real v i ne ∙ none) in
        let newer : (i : ℕ) → Seen links i → Seen links' i = seen_there o long wide j link low real v in
        let parent : Parent e seats z links' rank (t.rank b + 1) j link =
        record {
          bucket = b;
          row = row;
          in_table = in_table;
          in_rows = in_rows;
          lies = lies;
          seen = newer b seen;
          nearer = ap (λ n. n + 1) (sym (kept b seen));
          leads = leads;
          filled = filled;
        }
        in
        let queued : (k : ℕ) → k < tail → get_or queue' k 0 ≡ get_or queue k 0 = queue_there o long wide j link low real v in
        let ranked : (k : ℕ) → k < tail → rank (get_or queue' k 0) ≡ t.rank (get_or queue k 0) = λ k h. ap rank (queued k h) ∙ kept (get_or queue k 0) (o.listed k h) in
        let last : (k : ℕ) → k ≡ tail → rank (get_or queue' k 0) ≡ t.rank b + 1 = λ k is. ap (λ k. rank (get_or queue' k 0)) is ∙ ap rank (queue_here o long wide j link low real v) ∙ here in
        let places : (k : ℕ) → k < tail' → (k < tail) ⊎ (k ≡ tail) = at_place o long wide j link low real v in
        let tree : Tree e seats z links' tail' =
        record {
          rank = rank;
          below = λ i h s.
              ⊎_elim (λ (is : i ≡ j). omega (arith, ap rank is, here, t.below b in_table seen, v.longer))
              (λ ne. omega (arith, there i ne, t.below i h (older i ne s), v.longer))
              (cases_eq i j);
          step = λ i h s.
              ⊎_elim
              (λ (is : i ≡ j).
              let linked : get_or links' i 0 ≡ link = ap (λ i. get_or links' i 0) is ∙ link_here o long wide j link low real v in
              inr (subst (λ s. Parent e seats z links' rank (rank i) i s) (sym linked)
              (subst (λ n. Parent e seats z links' rank n i link) (sym (ap rank is ∙ here))
              (subst (λ k. Parent e seats z links' rank (t.rank b + 1) k link) (sym is) parent))))
              (λ (ne : i ≡ j → ⊥).
              let same : get_or links' i 0 ≡ get_or links i 0 = link_there o long wide j link low real v i ne in
              ⊎_elim (λ at_root. inl (same ∙ at_root.0, there i ne ∙ at_root.1))
              (λ (p : Parent e seats z links t.rank (t.rank i) i (get_or links i 0)).
              inr (subst (λ s. Parent e seats z links' rank (rank i) i s) (sym same)
              (record {
                bucket = p.bucket;
                row = p.row;
                in_table = p.in_table;
                in_rows = p.in_rows;
                lies = p.lies;
                seen = newer p.bucket p.seen;
                nearer = omega (arith, there i ne, kept p.bucket p.seen, p.nearer);
                leads = p.leads;
                filled = p.filled;
              })))
              (t.step i h (older i ne s)))
              (cases_eq i j);
        }
        in
        record {
          reached = record {
            order = fresh_order o long wide j link low real v;
            tree = tree;
            layers = record {
              sorted = λ k n h i.
                  ⊎_elim (λ (old : n < tail). omega (arith, ranked k (omega arith), ranked n old, l.sorted k n h old))
                  (λ (new : n ≡ tail).
                  ⊎_elim (λ (old : k < tail). omega (arith, ranked k old, last n new, l.tight k on old))
                  (λ (also : k ≡ tail). omega (arith, last k also, last n new))
                  (places k (omega arith)))
                  (places n i);
              tight = λ n h i.
                  ⊎_elim (λ (old : n < tail). omega (arith, ranked n old, ranked head on, l.tight n on old))
                  (λ (new : n ≡ tail). omega (arith, last n new, ranked head on))
                  (places n i);
              near = λ k i h u.
                  let old : k < tail = omega arith in
                  subst (λ q. Near e seats z links' rank q i) (sym (queued k old)) (near_kept links links' t.rank rank newer kept (get_or queue k 0) i (o.listed k old) (l.near k i h u));
            };
          };
          kept = kept;
          close = omega (arith, here, kept b seen);
        }

    pub visited : Visit links queue tail j link links' queue' tail' → Visited r j links' queue' tail'
    visited v =
        ⊎_elim (λ (f : Fresh links queue tail j link links' queue' tail'). fresh_visited f)
        (λ (k : Known links queue tail j links' queue' tail').
        let n = r.order.found j low k.was in
        let still : Visited r j links queue tail =
        record {
          reached = r;
          kept = λ i s. refl;
          close = subst (λ i. r.tree.rank i ≤ r.tree.rank (get_or queue head 0) + 1) n.2 (r.layers.tight n.0 on n.1);
        }
        in
        subst (λ n. Visited r j links' queue' n) (sym k.longer) (subst (λ q. Visited r j links' q tail) (sym k.queued) (subst (λ l. Visited r j l queue tail) (sym k.linked) still)))
        v
