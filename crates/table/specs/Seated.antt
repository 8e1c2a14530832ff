-- A key's fingerprint in a table, and the seat that it sits in. Assumes nothing.
use Rattle.std.specs.Prelude.{◌≡◌, ℕ, ◌-◌, ◌<◌, false, List, slice_set}
use Rattle.tallies.specs.Kinds.{Kind}
use Rattle.rules.specs.Rules.{Meaning}
use Rattle.seats.specs.Shapes.{size}
use Rattle.seats.specs.Seats.{Sits, vacant}
use Rattle.book.specs.Books.{too_long}
use Rattle.table.specs.declared.table.Table.{Table}

-- f is the fingerprint that the table asks its rule for, of a key that is not too long
pub record Keyed {V : Type 0} (rule : Meaning) (t : Table V) (key : List ℕ) (f : ℕ) : Type 0 where
  pub short : too_long key ≡ false
  pub asked : f ≡ rule key (size t.shape).range
  pub below : f < (size t.shape).range

-- f sits in the seat i of the table
abbrev pub SitsIn : {V : Type 0} → Kind V → Table V → ℕ → ℕ → Type 0
SitsIn k t f i = Sits k.empty t.seats.now (size t.shape) f i

-- the seat i of the table t is emptied, and one fingerprint fewer is counted; nothing else changes
pub record TakenOut {V : Type 0} (k : Kind V) (t : Table V) (i : ℕ) (u : Table V) : Type 0 where
  pub seats : u.seats.now ≡ slice_set t.seats.now i (vacant k.empty)
  pub shape : u.shape ≡ t.shape
  pub fewer : u.held ≡ t.held - 1
  pub lent : u.seats.ghost_name ≡ t.seats.ghost_name
