-- What the fit of a block's first bytes tells. Assumes nothing.
use Rattle.std.proofs.Common.{◌≡◌, ℕ, ◌≤◌, Bool, true, false, List, get_or, arith}
use Rattle.std.proofs.lemmas.Bool.{and_parts, leb-true, eqb-true}
use Rattle.paper.specs.Headers.{header_of, header_fits, same_header}
use Rattle.paper.specs.Checks.{count_fits, front_fits}
use Rattle.paper.specs.declared.header.Header.{Header}

count_some : (last : Bool) (n : ℕ) → count_fits last n ≡ true → (1 ≤ n) × (n ≤ 19)
count_some true n fits = let p = and_parts _ _ fits in (leb-true 1 n p.0, leb-true n 19 p.1)
count_some false n fits = let e = eqb-true n 19 fits in (omega arith, omega arith)

pub record Front (first : Header) (place : ℕ) (last : Bool) (block : List ℕ) : Type 0 where
  pub fits : header_fits (header_of block) ≡ true
  pub same : same_header (header_of block) first ≡ true
  pub count : count_fits last (get_or block 6 0) ≡ true
  pub some : 1 ≤ get_or block 6 0
  pub few : get_or block 6 0 ≤ 19
  pub placed : get_or block 7 0 ≡ place

pub front_tells : (first : Header) (place : ℕ) (last : Bool) (block : List ℕ) → front_fits first place last block ≡ true → Front first place last block
unfolding front_fits
front_tells first place last block fit =
    let p = and_parts (header_fits (header_of block)) _ fit in
    let q = and_parts (same_header (header_of block) first) _ p.1 in
    let r = and_parts (count_fits last (get_or block 6 0)) _ q.1 in
    let n = count_some last (get_or block 6 0) r.0 in
    record { fits = p.0; same = q.0; count = r.0; some = n.0; few = n.1; placed = eqb-true _ place r.1 }
