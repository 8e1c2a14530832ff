-- What an answer without a fault tells of the checks that led to it. Assumes nothing.
use Rattle.std.proofs.Common.{◌≡◌, Bool, true, false, cond, Ok, Err, Result, refl}
use Rattle.blocks.specs.Faults.{then}

pub cond_tells : {T E : Type 0} (b : Bool) (x : Result T E) (e : E) (y : T) → cond b x (Err e) ≡ Ok y → (b ≡ true) × (x ≡ Ok y)
cond_tells true x e y is = (refl, is)
cond_tells false x e y is = cc

pub then_tells : {T U E F : Type 0} (lift : E → F) (r : Result T E) (next : Result U F) (y : U) → then lift r next ≡ Ok y → ((x : T) × (r ≡ Ok x)) × (next ≡ Ok y)
then_tells lift (Ok x) next y is = ((x, refl), is)
then_tells lift (Err e) next y is = cc
