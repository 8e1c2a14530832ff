-- The queue of a breadth-first traversal over the buckets, and the link of each bucket, which says how it was reached. Assumes nothing.
use Rattle.std.specs.Prelude.{◌≡◌, ℕ, ◌+◌, ◌/◌, ◌%◌, ◌<◌, ◌≤◌, ◌⊎◌, List, slice_index, slice_index_or, slice_set}
use Rattle.seats.specs.Shapes.{Size}

-- the link of a bucket that was not reached
abbrev pub unseen : ℕ
unseen = 4294967295

-- the link of a bucket that the traversal began with; any other link is the seat from which the bucket was reached
abbrev pub root : ℕ
root = 4294967294

abbrev pub Seen : List ℕ → ℕ → Type 0
Seen links j = slice_index links j ≡ unseen → ⊥

-- a visit of the bucket j that was not seen: it is linked, and goes to the end of the queue
pub record Fresh (links queue : List ℕ) (tail j link : ℕ) (links' queue' : List ℕ) (tail' : ℕ) : Type 0 where
  pub was : slice_index_or links j 0 ≡ unseen
  pub linked : links' ≡ slice_set links j link
  pub queued : queue' ≡ slice_set queue tail j
  pub longer : tail' ≡ tail + 1

-- a visit of the bucket j that was seen: nothing changes
pub record Known (links queue : List ℕ) (tail j : ℕ) (links' queue' : List ℕ) (tail' : ℕ) : Type 0 where
  pub was : Seen links j
  pub linked : links' ≡ links
  pub queued : queue' ≡ queue
  pub longer : tail' ≡ tail

abbrev pub Visit : List ℕ → List ℕ → ℕ → ℕ → ℕ → List ℕ → List ℕ → ℕ → Type 0
Visit links queue tail j link links' queue' tail' = Fresh links queue tail j link links' queue' tail' ⊎ Known links queue tail j links' queue' tail'

-- the queue has each bucket that was seen, once
pub record Order (z : Size) (links queue : List ℕ) (tail : ℕ) : Type 0 where
  pub few : tail ≤ z.buckets
  pub low : (k : ℕ) → k < tail → slice_index queue k < z.buckets
  pub listed : (k : ℕ) → k < tail → Seen links (slice_index queue k)
  pub found : (j : ℕ) → j < z.buckets → Seen links j → (k : ℕ) × (k < tail) × (slice_index queue k ≡ j)
  pub apart : (k l : ℕ) → k < tail → l < tail → slice_index queue k ≡ slice_index queue l → k ≡ l

-- the roots are the two buckets of the fingerprint f, its quotient and its remainder
pub record Roots (z : Size) (f : ℕ) (links : List ℕ) : Type 0 where
  pub only : (j : ℕ) → j < z.buckets → slice_index links j ≡ root → (j ≡ f / z.buckets) ⊎ (j ≡ f % z.buckets)
  pub quotient : slice_index_or links (f / z.buckets) 0 ≡ root
  pub remainder : slice_index_or links (f % z.buckets) 0 ≡ root

-- the traversal begins: just the roots were seen
pub record Begun (z : Size) (f : ℕ) (links queue : List ℕ) (tail : ℕ) : Type 0 where
  pub order : Order z links queue tail
  pub roots : Roots z f links
  pub just : (j : ℕ) → j < z.buckets → Seen links j → slice_index links j ≡ root

-- the traversal goes on: what was seen keeps its link, the queue is only added to, and no root is new
pub record Grown (z : Size) (links queue : List ℕ) (tail : ℕ) (links' queue' : List ℕ) (tail' : ℕ) : Type 0 where
  pub longer : tail ≤ tail'
  pub same : (k : ℕ) → k < tail → slice_index queue' k ≡ slice_index queue k
  pub keeps : (j : ℕ) → Seen links j → slice_index links' j ≡ slice_index links j
  pub rooted : (j : ℕ) → j < z.buckets → slice_index links' j ≡ root → slice_index links j ≡ root
