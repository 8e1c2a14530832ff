-- A visit keeps the queue in order. Assumes nothing.
use Rattle.std.proofs.Common.{◌≡◌, ℕ, ◌+◌, ◌/◌, ◌%◌, ◌<◌, ◌≤◌, true, false, cond, eqb, ◌⊎◌, List, length, get_or, sym, refl, ap, ◌∙◌, subst, inl, inr, ⊎_elim, arith}
use Rattle.std.proofs.lemmas.List.{get_or-set_same, get_or-set_other}
use Rattle.std.proofs.lemmas.Bool.{cond-true, cond-false, cases_eq, eq-eqb, ne_eqb}
use Rattle.seatings.proofs.Counts.{count_all}
use Rattle.seatings.proofs.Pigeons.{pigeons_many}
use Rattle.seats.specs.Shapes.{Size, Sound}
use Rattle.seats.proofs.Sitting.{bucket_below}
use Rattle.moves.specs.Queue.{unseen, root, Seen, Fresh, Known, Visit, Order, Roots, Begun, Grown}

-- a function but for its value at k
abbrev pub put : {X : Type 0} → (ℕ → X) → ℕ → X → ℕ → X
put f k v q = cond (eqb q k) v (f q)

pub put_same : {X : Type 0} (f : ℕ → X) (k : ℕ) (v : X) (q : ℕ) → q ≡ k → put f k v q ≡ v
put_same f k v q is = cond-true (eqb q k) v (f q) (eq-eqb q k is)

pub put_other : {X : Type 0} (f : ℕ → X) (k : ℕ) (v : X) (q : ℕ) → (q ≡ k → ⊥) → put f k v q ≡ f q
put_other f k v q ne = cond-false (eqb q k) v (f q) (ne_eqb q k ne)

-- a bucket whose link is kept is seen as before
seen_kept : (links links' : List ℕ) (j : ℕ) → get_or links' j 0 ≡ get_or links j 0 → Seen links j → Seen links' j
seen_kept links links' j same seen none = seen (sym same ∙ none)

pub root_seen : (links : List ℕ) (j : ℕ) → get_or links j 0 ≡ root → Seen links j
root_seen links j is none = omega (arith, is, none)

order_none : (z : Size) (links queue : List ℕ) → ((j : ℕ) → j < z.buckets → get_or links j 0 ≡ unseen) → Order z links queue 0
order_none z links queue all = record {
  few = omega arith;
  low = λ k h. absurd (omega arith);
  listed = λ k h. absurd (omega arith);
  found = λ j h s. absurd (s (all j h));
  apart = λ k l h. absurd (omega arith);
}

module _ {z : Size} {links queue : List ℕ} {tail : ℕ} (o : Order z links queue tail) where
  -- a bucket that was not seen is not in the queue
  unlisted : (j k : ℕ) → get_or links j 0 ≡ unseen → k < tail → get_or queue k 0 ≡ j → ⊥
  unlisted j k none h is = o.listed k h (ap (λ i. get_or links i 0) is ∙ none)

  -- where a bucket was not seen, the queue has room
  pub room : (j : ℕ) → j < z.buckets → get_or links j 0 ≡ unseen → tail < z.buckets
  room j low none =
      let from : ℕ → ℕ = put (λ k. get_or queue k 0) tail j in
      let here = put_same (λ k. get_or queue k 0) tail j in
      let there = put_other (λ k. get_or queue k 0) tail j in
      let many =
      pigeons_many (λ _. true) z.buckets (tail + 1) from
      (λ k h. (
        ⊎_elim (λ is. subst (λ n. n < z.buckets) (sym (here k is)) low) (λ ne. subst (λ n. n < z.buckets) (sym (there k ne)) (o.low k (omega arith))) (cases_eq k tail),
        refl,
      ))
      (λ k l h i same.
      ⊎_elim
      (λ (is : k ≡ tail).
      ⊎_elim (λ (also : l ≡ tail). is ∙ sym also)
      (λ ne. absurd (unlisted j l none (omega arith) (sym (there l ne) ∙ sym same ∙ here k is)))
      (cases_eq l tail))
      (λ (ne : k ≡ tail → ⊥).
      ⊎_elim (λ (also : l ≡ tail). absurd (unlisted j k none (omega arith) (sym (there k ne) ∙ same ∙ here l also)))
      (λ nl. o.apart k l (omega arith) (omega arith) (sym (there k ne) ∙ same ∙ there l nl))
      (cases_eq l tail))
      (cases_eq k tail))
      in
      omega (arith, many, count_all z.buckets)

  module _ (long : length links ≡ z.buckets) (wide : z.buckets ≤ length queue) (j link : ℕ) (low : j < z.buckets) (real : link ≡ unseen → ⊥) where
    module _ {links' queue' : List ℕ} {tail' : ℕ} (v : Fresh links queue tail j link links' queue' tail') where
      has_room : tail < z.buckets
      has_room = room j low v.was

      pub link_here : get_or links' j 0 ≡ link
      link_here = ap (λ l. get_or l j 0) v.linked ∙ get_or-set_same links j link 0 (omega arith)

      pub link_there : (i : ℕ) → (i ≡ j → ⊥) → get_or links' i 0 ≡ get_or links i 0
      link_there i ne = ap (λ l. get_or l i 0) v.linked ∙ get_or-set_other links j i link 0 ne

      pub link_kept : (i : ℕ) → Seen links i → get_or links' i 0 ≡ get_or links i 0
      link_kept i s = link_there i (λ is. s (ap (λ i. get_or links i 0) is ∙ v.was))

      pub queue_here : get_or queue' tail 0 ≡ j
      queue_here = let h = has_room in ap (λ q. get_or q tail 0) v.queued ∙ get_or-set_same queue tail j 0 (omega arith)

      pub queue_there : (k : ℕ) → k < tail → get_or queue' k 0 ≡ get_or queue k 0
      queue_there k h = let ne : k ≡ tail → ⊥ = omega arith in ap (λ q. get_or q k 0) v.queued ∙ get_or-set_other queue tail k j 0 ne

      seen_here : Seen links' j
      seen_here is = real (sym link_here ∙ is)

      pub seen_there : (i : ℕ) → Seen links i → Seen links' i
      seen_there i s = seen_kept links links' i (link_kept i s) s

      -- each place in the queue is an old one or the new one
      pub at_place : (k : ℕ) → k < tail' → (k < tail) ⊎ (k ≡ tail)
      at_place k h = let e = v.longer in ⊎_elim (λ is. inr is) (λ ne. inl (omega arith)) (cases_eq k tail)

      pub fresh_order : Order z links' queue' tail'
      fresh_order = record {
        few = let h = has_room in omega (arith, v.longer);
        low = λ k h.
            ⊎_elim (λ (old : k < tail). subst (λ n. n < z.buckets) (sym (queue_there k old)) (o.low k old))
            (λ (is : k ≡ tail). subst (λ n. n < z.buckets) (sym (ap (λ k. get_or queue' k 0) is ∙ queue_here)) low)
            (at_place k h);
        listed = λ k h.
            ⊎_elim (λ (old : k < tail). subst (Seen links') (sym (queue_there k old)) (seen_there _ (o.listed k old)))
            (λ (is : k ≡ tail). subst (Seen links') (sym (ap (λ k. get_or queue' k 0) is ∙ queue_here)) seen_here)
            (at_place k h);
        found = λ i h s.
            ⊎_elim (λ (is : i ≡ j). (tail, omega (arith, v.longer), queue_here ∙ sym is))
            (λ (ne : i ≡ j → ⊥).
            let f = o.found i h (λ none. s (link_there i ne ∙ none)) in
            (f.0, omega (arith, f.1, v.longer), queue_there f.0 f.1 ∙ f.2))
            (cases_eq i j);
        apart = λ k l h i same.
            ⊎_elim
            (λ (old : k < tail).
            ⊎_elim (λ (too : l < tail). o.apart k l old too (sym (queue_there k old) ∙ same ∙ queue_there l too))
            (λ (is : l ≡ tail). absurd (unlisted j k v.was old (sym (queue_there k old) ∙ same ∙ ap (λ k. get_or queue' k 0) is ∙ queue_here)))
            (at_place l i))
            (λ (is : k ≡ tail).
            ⊎_elim (λ (old : l < tail). absurd (unlisted j l v.was old (sym (queue_there l old) ∙ sym same ∙ ap (λ k. get_or queue' k 0) is ∙ queue_here)))
            (λ (also : l ≡ tail). is ∙ sym also)
            (at_place l i))
            (at_place k h);
      }

    module _ {links' queue' : List ℕ} {tail' : ℕ} where
      order_visit : Visit links queue tail j link links' queue' tail' → Order z links' queue' tail'
      order_visit v =
          ⊎_elim (λ (f : Fresh links queue tail j link links' queue' tail'). fresh_order f)
          (λ (k : Known links queue tail j links' queue' tail').
          subst (λ t. Order z links' queue' t) (sym k.longer) (subst (λ q. Order z links' q tail) (sym k.queued) (subst (λ l. Order z l queue tail) (sym k.linked) o)))
          v

      pub seen_visit : Visit links queue tail j link links' queue' tail' → Seen links' j
      seen_visit v =
          ⊎_elim (λ (f : Fresh links queue tail j link links' queue' tail'). seen_here f)
          (λ (k : Known links queue tail j links' queue' tail'). subst (λ l. Seen l j) (sym k.linked) k.was)
          v

      -- a link is as it was, or the new one
      cases_visit : Visit links queue tail j link links' queue' tail' → (i : ℕ) → (get_or links' i 0 ≡ get_or links i 0) ⊎ ((i ≡ j) × (get_or links' i 0 ≡ link))
      cases_visit v i =
          ⊎_elim
          (λ (f : Fresh links queue tail j link links' queue' tail').
          ⊎_elim (λ (is : i ≡ j). inr (is, ap (λ i. get_or links' i 0) is ∙ link_here f)) (λ ne. inl (link_there f i ne)) (cases_eq i j))
          (λ (k : Known links queue tail j links' queue' tail'). inl (ap (λ l. get_or l i 0) k.linked))
          v

      keeps_visit : Visit links queue tail j link links' queue' tail' → (i : ℕ) → Seen links i → get_or links' i 0 ≡ get_or links i 0
      keeps_visit v i s =
          ⊎_elim (λ (f : Fresh links queue tail j link links' queue' tail'). link_kept f i s)
          (λ (k : Known links queue tail j links' queue' tail'). ap (λ l. get_or l i 0) k.linked)
          v

      pub grown_visit : (link ≡ root → ⊥) → Visit links queue tail j link links' queue' tail' → Grown z links queue tail links' queue' tail'
      grown_visit inner v = record {
        longer =
            ⊎_elim (λ (f : Fresh links queue tail j link links' queue' tail'). omega (arith, f.longer))
            (λ (k : Known links queue tail j links' queue' tail'). omega (arith, k.longer))
            v;
        same = λ i h.
            ⊎_elim (λ (f : Fresh links queue tail j link links' queue' tail'). queue_there f i h)
            (λ (k : Known links queue tail j links' queue' tail'). ap (λ q. get_or q i 0) k.queued)
            v;
        keeps = keeps_visit v;
        rooted = λ i h is. ⊎_elim (λ same. sym same ∙ is) (λ new. absurd (inner (sym new.1 ∙ is))) (cases_visit v i);
      }

-- two visits from the start
pub begun : {z : Size} → Sound z → (f : ℕ) → f < z.range → {links queue : List ℕ} → ((j : ℕ) → j < z.buckets → get_or links j 0 ≡ unseen) → length links ≡ z.buckets → z.buckets ≤ length queue →
    {links' queue' : List ℕ} {tail' : ℕ} → Visit links queue 0 (f / z.buckets) root links' queue' tail' → length links' ≡ z.buckets → z.buckets ≤ length queue' →
    {links'' queue'' : List ℕ} {tail'' : ℕ} → Visit links' queue' tail' (f % z.buckets) root links'' queue'' tail'' → Begun z f links'' queue'' tail''
begun {z} sound f below {links} {queue} all long wide {links'} {queue'} v long' wide' {links''} w =
    let real : root ≡ unseen → ⊥ = λ is. omega arith in
    let q = f / z.buckets in
    let r = f % z.buckets in
    let high = bucket_below sound f below true in
    let low = bucket_below sound f below false in
    let o = order_none z links queue all in
    let o' = order_visit o long wide q root high real v in
    let first = cases_visit o long wide q root high real v in
    let second = cases_visit o' long' wide' r root low real w in
    let just : (j : ℕ) → j < z.buckets → Seen links'' j → get_or links'' j 0 ≡ root =
    λ j h s.
    ⊎_elim
    (λ (is : get_or links'' j 0 ≡ get_or links' j 0).
    ⊎_elim (λ (was : get_or links' j 0 ≡ get_or links j 0). absurd (s (is ∙ was ∙ all j h))) (λ p. is ∙ p.1) (first j))
    (λ p. p.1)
    (second j)
    in
    let seen_q : Seen links' q = seen_visit o long wide q root high real v in
    record {
      order = order_visit o' long' wide' r root low real w;
      just = just;
      roots = record {
        only = λ j h is-root.
            ⊎_elim
            (λ (is : get_or links'' j 0 ≡ get_or links' j 0).
            ⊎_elim (λ (was : get_or links' j 0 ≡ get_or links j 0). absurd (real (sym is-root ∙ is ∙ was ∙ all j h))) (λ p. inl p.0) (first j))
            (λ p. inr p.0)
            (second j);
        quotient = just q high (seen_kept links' links'' q (keeps_visit o' long' wide' r root low real w q seen_q) seen_q);
        remainder = just r low (seen_visit o' long' wide' r root low real w);
      };
    }

pub grown_more : {z : Size} {links queue links' queue' links'' queue'' : List ℕ} {tail tail' tail'' : ℕ} →
    Grown z links queue tail links' queue' tail' → Grown z links' queue' tail' links'' queue'' tail'' → Grown z links queue tail links'' queue'' tail''
grown_more {links} {links'} a b = record {
  longer = omega (arith, a.longer, b.longer);
  same = λ k h. b.same k (omega (arith, a.longer)) ∙ a.same k h;
  keeps = λ j s. b.keeps j (seen_kept links links' j (a.keeps j s) s) ∙ a.keeps j s;
  rooted = λ j h is. a.rooted j h (b.rooted j h is);
}

pub grown_seen : {z : Size} {links queue links' queue' : List ℕ} {tail tail' : ℕ} → Grown z links queue tail links' queue' tail' → (j : ℕ) → Seen links j → Seen links' j
grown_seen {links} {links'} g j s = seen_kept links links' j (g.keeps j s) s

-- the roots stay the same ones
pub roots_grown : {z : Size} {f : ℕ} {links queue links' queue' : List ℕ} {tail tail' : ℕ} → Grown z links queue tail links' queue' tail' → Roots z f links → Roots z f links'
roots_grown {links} g r = record {
  only = λ j h is. r.only j h (g.rooted j h is);
  quotient = g.keeps _ (root_seen links _ r.quotient) ∙ r.quotient;
  remainder = g.keeps _ (root_seen links _ r.remainder) ∙ r.remainder;
}
