-- Parts of a block that are records. Assumes nothing.
use Rattle.std.proofs.Common.{◌≡◌, ℕ, zero, suc, ◌<◌, true, List, [], ◌∷◌, length, get_or, cond, Some, None, Ok, ap, arith}
use Rattle.std.proofs.lemmas.Bool.{and_parts}
use Rattle.blocks.proofs.Tells.{cond_tells}
use Rattle.paper.specs.Records.{is_code, named_record, record_fits, record_of}
use Rattle.paper.specs.Checks.{part_fits, records_checked}

-- a part that fits names a call
part_named : (kind : ℕ) (part : List ℕ) → part_fits kind part ≡ true → named_record part ≡ Some (record_of part)
part_named kind part fits =
    let code = (and_parts (is_code (get_or part 0 0)) (record_fits kind (record_of part)) fits).0 in
    ap (λ b. cond b (Some (record_of part)) None) code

-- so does each part that was checked
pub part_at : (kind place i : ℕ) (parts : List (List ℕ)) → records_checked kind place i parts ≡ Ok tt → (j : ℕ) → j < length parts → named_record (get_or parts j []) ≡ Some (record_of (get_or parts j []))
part_at kind place i [] sound j inside = absurd (omega arith)
part_at kind place i (p ∷ ps) sound zero inside = part_named kind p (cond_tells (part_fits kind p) _ _ tt sound).0
part_at kind place i (p ∷ ps) sound (suc j) inside = part_at kind place (suc i) ps (cond_tells (part_fits kind p) _ _ tt sound).1 j (omega arith)
