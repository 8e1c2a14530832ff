-- The breadth-first traversal for the nearest free seat: what it keeps, and how it ends. `e` is the empty tally. Assumes nothing.
use Rattle.std.specs.Prelude.{◌≡◌, ℕ, ◌+◌, ◌*◌, ◌/◌, ◌%◌, ◌<◌, ◌≤◌, List, slice_index}
use Rattle.seats.specs.declared.seat.Seat.{Seat}
use Rattle.seats.specs.Shapes.{Size}
use Rattle.seats.specs.Seats.{at, Filled, Lies}
use Rattle.moves.specs.Queue.{Seen, Roots, Grown}
use Rattle.moves.specs.Tree.{other, Near, Tree, Reached}

-- no seat of the first n rows of the bucket is empty
abbrev pub Full : {X : Type 0} → X → List (Seat X) → Size → ℕ → ℕ → Type 0
Full e seats z bucket n = (row : ℕ) → row < n → Filled e seats (bucket * z.most + row)

-- the first n rows of the bucket at the queue's head were gone through: they are full, and the other buckets of what they hold are seen
pub record Expanding {X : Type 0} (e : X) (seats : List (Seat X)) (z : Size) (bucket n : ℕ) (links queue : List ℕ) (head tail : ℕ) (links' queue' : List ℕ) (tail' : ℕ) : Type 0 where
  pub reached : Reached e seats z links' queue' head tail'
  pub grown : Grown z links queue tail links' queue' tail'
  pub full : Full e seats z bucket n
  pub near : (row : ℕ) → row < n → Near e seats z links' reached.tree.rank bucket row

-- the seat i of the bucket is free, and the traversal stops there
pub record Stopped {X : Type 0} (e : X) (seats : List (Seat X)) (z : Size) (bucket i : ℕ) (links queue : List ℕ) (head tail : ℕ) (links' queue' : List ℕ) : Type 0 where
  pub end : ℕ
  pub reached : Reached e seats z links' queue' head end
  pub grown : Grown z links queue tail links' queue' end
  pub lies : Lies z bucket i
  pub empty : (at e seats i).tally ≡ e

-- under way: the buckets before the queue's head are full
pub record Traversing {X : Type 0} (e : X) (seats : List (Seat X)) (z : Size) (f : ℕ) (links queue : List ℕ) (head tail : ℕ) : Type 0 where
  pub reached : Reached e seats z links queue head tail
  pub roots : Roots z f links
  pub passed : head ≤ tail
  pub full : (k : ℕ) → k < head → Full e seats z (slice_index queue k) z.rows

-- no free seat: the buckets that were seen are full, and what they hold may move to such buckets alone
pub record Stuck {X : Type 0} (e : X) (seats : List (Seat X)) (z : Size) (f : ℕ) (links : List ℕ) : Type 0 where
  pub quotient : Seen links (f / z.buckets)
  pub remainder : Seen links (f % z.buckets)
  pub full : (j : ℕ) → j < z.buckets → Seen links j → Full e seats z j z.rows
  pub closed : (j row : ℕ) → j < z.buckets → Seen links j → row < z.rows → other e seats z j row < z.buckets → Seen links (other e seats z j row)

-- the links lead by a chain of moves to the free seat i
pub record Chain {X : Type 0} (e : X) (seats : List (Seat X)) (z : Size) (links : List ℕ) (i : ℕ) : Type 0 where
  pub tree : Tree e seats z links z.buckets
  pub bucket : ℕ
  pub in_table : bucket < z.buckets
  pub seen : Seen links bucket
  pub lies : Lies z bucket i
  pub empty : (at e seats i).tally ≡ e

-- a chain leads from a bucket of f to the free seat i, the nearest: the buckets of a lower rank are full, and what they hold
-- may move one rank further at most
pub record Found {X : Type 0} (e : X) (seats : List (Seat X)) (z : Size) (f : ℕ) (links : List ℕ) (i : ℕ) : Type 0 where
  pub chain : Chain e seats z links i
  pub roots : Roots z f links
  pub full : (j : ℕ) → j < z.buckets → Seen links j → chain.tree.rank j < chain.tree.rank chain.bucket → Full e seats z j z.rows
  pub near : (j row : ℕ) → j < z.buckets → Seen links j → chain.tree.rank j < chain.tree.rank chain.bucket → row < z.rows →
      Near e seats z links chain.tree.rank j row
