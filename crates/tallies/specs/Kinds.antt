-- What a kind of tally means. Assumes nothing.
use Rattle.std.specs.Prelude.{◌≡◌, Bool, true, false, Some, None, Decides, Option, ◌≢◌}

-- A set of values, one of them empty; a subset called amounts; a joining, which gives nothing where it passes the ceiling;
-- and taking back, the way from a joined value to the one before. What is no value may stand in V too.
pub record Kind (V : Type 0) : Type 0 where
  -- the value of what is not held
  pub empty : V
  -- whether something is that value
  pub is-empty : V → Bool
  -- whether something is a value of the kind: V may also hold what is none, as octets beyond their ceiling
  pub is-value : V → Bool
  -- whether a value may be posted or reversed
  pub is-amount : V → Bool
  -- a value with an amount joined to it, or nothing where that passes the ceiling
  pub join : V → V → Option V
  -- what a value was before an amount was joined to it, or nothing where it cannot have been
  pub take_back : V → V → Option V

-- The kind keeps the laws of one.
pub record Lawful {V : Type 0} (k : Kind V) : Type 0 where
  pub empty-told : (v : V) → Decides (k.is-empty v) (v ≡ k.empty)
  pub empty-is-value : k.is-value k.empty ≡ true
  pub empty-is-no-amount : k.is-amount k.empty ≡ false
  pub amounts-are-values : (a : V) → k.is-amount a ≡ true → k.is-value a ≡ true
  pub joined-is-value : (v a r : V) → k.is-value v ≡ true → k.is-amount a ≡ true → k.join v a ≡ Some r → k.is-value r ≡ true
  pub empty-joins-to-amount : (a : V) → k.is-amount a ≡ true → k.join k.empty a ≡ Some a
  pub joined-is-never-empty : (v a r : V) → k.is-value v ≡ true → k.is-amount a ≡ true → k.join v a ≡ Some r → r ≢ k.empty
  pub joining-cancels : (v w a r : V) → k.is-value v ≡ true → k.is-value w ≡ true → k.is-amount a ≡ true → k.join v a ≡ Some r → k.join w a ≡ Some r → v ≡ w
  pub taken-back-joins : (v w a : V) → k.is-value v ≡ true → k.is-amount a ≡ true → k.take_back v a ≡ Some w → (k.is-value w ≡ true) × (k.join w a ≡ Some v)
  pub not-taken-back-never-joins : (v w a : V) → k.is-value v ≡ true → k.is-amount a ≡ true → k.take_back v a ≡ None → k.is-value w ≡ true → k.join w a ≢ Some v
