-- The steps of the loops over a block's records and a paper's blocks. Assumes nothing.
use Rattle.std.proofs.Common.{◌≡◌, ℕ, suc, ◌+◌, ◌-◌, ◌*◌, ◌/◌, ◌<◌, ◌≤◌, Bool, true, false, cond, eqb, List, [], ◌∷◌, length, get_or, take, drop, Some, None, Err, Result, sym, refl, ap, ◌∙◌, add-one, arith, length-drop, length-take}
use Rattle.std.proofs.lemmas.List.{at_drop_more}
use Rattle.std.proofs.lemmas.Bool.Decides.{nat_tests}
use Rattle.blocks.specs.Blocks.{blocks_in, count_in, is_length}
use Rattle.blocks.specs.Faults.{then}
use Rattle.blocks.specs.Pieces.{pieces}
use Rattle.blocks.proofs.Pieces.{pieces_take}
use Rattle.blocks.specs.declared.fault.BlockFault.{BlockFault}
use Rattle.blocks.specs.declared.fault.RecordFault.{RecordFault}
use Rattle.paper.specs.Headers.{header_of}
use Rattle.paper.specs.Checks.{block_checked, blocks_checked, is_nil, paper_checked, part_fits, records_checked}
use Rattle.paper.specs.declared.header.Header.{Header}
use Rattle.paper.specs.declared.fault.PaperFault.{PaperFault}
use Rattle.paper.specs.declared.fault.PaperFault.TheVariants.{Length, InBlock}

-- the records from the i-th on
abbrev pub records_left : ℕ → ℕ → List (List ℕ) → ℕ → Result (Unit {0}) RecordFault
records_left kind place parts i = records_checked kind place i (drop i parts)

pub records_step : (kind place : ℕ) (parts : List (List ℕ)) (i : ℕ) (fits : Bool) → i < length parts → part_fits kind (get_or parts i []) ≡ fits →
    records_left kind place parts i ≡ cond fits (records_left kind place parts (i + 1)) (Err (record { block = place; «record» = i + 1 }))
records_step kind place parts i fits inside is =
    at_drop_more (records_checked kind place i) parts i [] inside
    ∙ ap (λ t. cond t (records_checked kind place (suc i) (drop (i + 1) parts)) (Err (record { block = place; «record» = i + 1 }))) is
    ∙ ap (λ j. cond fits (records_checked kind place j (drop (i + 1) parts)) (Err (record { block = place; «record» = i + 1 }))) (sym (add-one i))

-- the parts that the code cuts out of a block with n records
pub block_parts : (block : List ℕ) (n end : ℕ) → length block ≡ 512 → n ≤ 19 → end ≡ 8 + 26 * n →
    pieces 26 (length (take (end - 8) (drop 8 block)) / 26) (take (end - 8) (drop 8 block)) ≡ pieces 26 n (drop 8 block)
block_parts block n end long few is =
    let width : end - 8 ≡ 26 * n = omega arith in
    let all : length (take (26 * n) (drop 8 block)) / 26 ≡ n = simp (length-take, length-drop) (omega arith) in
    ap (λ k. pieces 26 (length (take k (drop 8 block)) / 26) (take k (drop 8 block))) width
    ∙ ap (λ m. pieces 26 m (take (26 * n) (drop 8 block))) all
    ∙ pieces_take 26 n (drop 8 block)

-- the blocks from the i-th on
abbrev pub blocks_left : Header → List (List ℕ) → ℕ → Result Header PaperFault
blocks_left first bs i = blocks_checked first i (drop i bs)

nil_length : {X : Type 0} (xs : List X) → is_nil xs ≡ eqb (length xs) 0
nil_length [] = refl
nil_length (x ∷ xs) = grind (arith, nat_tests)

pub blocks_step : (first : Header) (bs : List (List ℕ)) (n i : ℕ) (answer : Result (Unit {0}) BlockFault) → i < length bs → n ≡ length bs →
    block_checked first i (eqb (i + 1) n) (get_or bs i []) ≡ answer →
    blocks_left first bs i ≡ then InBlock answer (blocks_left first bs (i + 1))
blocks_step first bs n i answer inside count is =
    let rest = drop (i + 1) bs in
    let left : length rest ≡ length bs - (i + 1) = length-drop (i + 1) bs in
    let last : is_nil rest ≡ eqb (i + 1) n = nil_length rest ∙ grind (arith, nat_tests) in
    at_drop_more (blocks_checked first i) bs i [] inside
    ∙ ap (λ r. then InBlock r (blocks_checked first (suc i) rest)) (ap (λ t. block_checked first i t (get_or bs i [])) last ∙ is)
    ∙ ap (λ j. then InBlock answer (blocks_checked first j rest)) (sym (add-one i))

counted : (b : Bool) (m n : ℕ) → Some n ≡ cond b (Some m) None → (b ≡ true) × (m ≡ n)
counted true m n is = (refl, cc)
counted false m n is = cc

pub blocks_counted : (paper : List ℕ) (n : ℕ) → Some n ≡ count_in (length paper) → length paper / 512 ≡ n
blocks_counted paper n long = (counted (is_length (length paper)) (length paper / 512) n long).1

-- the paper's check, where its length is right
pub paper_blocks : (paper : List ℕ) (h : Header) (n : ℕ) → Some n ≡ count_in (length paper) → h ≡ header_of paper → blocks_checked h 0 (blocks_in paper) ≡ paper_checked paper
unfolding paper_checked
paper_blocks paper h n long is =
    let p = counted (is_length (length paper)) (length paper / 512) n long in
    ap (λ g. blocks_checked g 0 (blocks_in paper)) is
    ∙ ap (λ b. cond b (blocks_checked (header_of paper) 0 (blocks_in paper)) (Err Length)) (sym p.0)
