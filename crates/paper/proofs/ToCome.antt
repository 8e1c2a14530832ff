-- The records still to come, one step on. Assumes nothing.
use Rattle.std.proofs.Common.{◌≡◌, ℕ, ◌+◌, ◌-◌, ◌*◌, ◌/◌, ◌<◌, ◌≤◌, List, [], ◌∷◌, ◌++◌, map, length, get_or, take, drop, sym, ap, ◌∙◌, ⊎_elim, arith, length-drop, length-take}
use lib.ListN.{length-map}
use Rattle.std.specs.List.{flat_map}
use Rattle.std.proofs.lemmas.List.{drop_all, drop_more, drop-take, take-take, get_or-map, get_or_past}
use Rattle.std.proofs.lemmas.Bool.{cases_lt}
use Rattle.blocks.specs.Blocks.{blocks_in}
use Rattle.blocks.specs.Pieces.{pieces}
use Rattle.blocks.proofs.Pieces.{slice_index_or_pieces, length_pieces}
use Rattle.paper.specs.Reading.{block_records, to_come}
use Rattle.paper.specs.Records.{record_of}

pub come_none : (paper : List ℕ) (j i : ℕ) → length paper / 512 ≤ j → to_come paper j i ≡ []
unfolding to_come
come_none paper j i past =
    let long = length_pieces 512 (length paper / 512) paper in
    let here : get_or (blocks_in paper) j [] ≡ [] = get_or_past (blocks_in paper) j [] (omega arith) in
    let behind : drop (j + 1) (blocks_in paper) ≡ [] = drop_all (j + 1) (blocks_in paper) (omega arith) in
    (λ k. drop i (block_records (here k)) ++ flat_map block_records (behind k)) ∙ ap (λ l. l ++ []) (drop_all i [] (omega arith))

-- all records of the blocks from the j-th on
pub come_block : (paper : List ℕ) (j : ℕ) → flat_map block_records (drop j (blocks_in paper)) ≡ to_come paper j 0
unfolding to_come
come_block paper j =
    let long = length_pieces 512 (length paper / 512) paper in
    ⊎_elim
    (λ inside. ap (flat_map block_records) (drop_more (blocks_in paper) j [] (omega arith)))
    (λ past. ap (flat_map block_records) (drop_all j (blocks_in paper) (omega arith)) ∙ sym (come_none paper j 0 (omega arith)))
    (cases_lt j (length paper / 512))

-- a block has room for 19 records
pub room_parts : (block : List ℕ) → length block ≡ 512 → length (take 496 (drop 8 block)) / 26 ≡ 19
room_parts block long = simp (length-take, length-drop) (omega arith)

-- the part in place i of the room for records, where a block has n of them
pub part_is : (block : List ℕ) (i n : ℕ) → length block ≡ 512 → i < n → n ≤ 19 →
    get_or (pieces 26 (length (take 496 (drop 8 block)) / 26) (take 496 (drop 8 block))) i [] ≡ get_or (pieces 26 n (drop 8 block)) i []
part_is block i n long inside few =
    let room = drop 8 block in
    let rest = 496 - 26 * i in
    let all : 496 ≡ 26 * i + rest = omega arith in
    ap (λ m. get_or (pieces 26 m (take 496 room)) i []) (room_parts block long)
    ∙ slice_index_or_pieces 26 i 19 (take 496 room) (omega arith)
    ∙ ap (λ k. take 26 (drop (26 * i) (take k room))) all
    ∙ ap (take 26) (drop-take (26 * i) rest room)
    ∙ take-take 26 rest (drop (26 * i) room) (omega arith)
    ∙ sym (slice_index_or_pieces 26 i n room inside)

-- the record in place i of a block, and those behind it
come_one : (paper : List ℕ) (j i : ℕ) (block : List ℕ) → j < length paper / 512 → get_or (blocks_in paper) j [] ≡ block → i < get_or block 6 0 →
    to_come paper j i ≡ record_of (get_or (pieces 26 (get_or block 6 0) (drop 8 block)) i []) ∷ (drop (i + 1) (block_records block) ++ flat_map block_records (drop (j + 1) (blocks_in paper)))
unfolding to_come
come_one paper j i block low is inside =
    let parts = pieces 26 (get_or block 6 0) (drop 8 block) in
    let long = length_pieces 26 (get_or block 6 0) (drop 8 block) in
    let rest = flat_map block_records (drop (j + 1) (blocks_in paper)) in
    ap (λ b. drop i (block_records b) ++ rest) is
    ∙ ap (λ l. l ++ rest) (drop_more (map record_of parts) i (record_of []) (omega (arith, length-map parts record_of)))
    ∙ (λ k. get_or-map record_of parts i [] (record_of []) (omega arith) k ∷ (drop (i + 1) (map record_of parts) ++ rest))

pub come_inside : (paper : List ℕ) (j i : ℕ) (block : List ℕ) → j < length paper / 512 → get_or (blocks_in paper) j [] ≡ block → i < get_or block 6 0 →
    to_come paper j i ≡ record_of (get_or (pieces 26 (get_or block 6 0) (drop 8 block)) i []) ∷ to_come paper j (i + 1)
unfolding to_come
come_inside paper j i block low is inside =
    come_one paper j i block low is inside
    ∙ ap (λ b. record_of (get_or (pieces 26 (get_or block 6 0) (drop 8 block)) i []) ∷ (drop (i + 1) (block_records b) ++ flat_map block_records (drop (j + 1) (blocks_in paper)))) (sym is)

pub come_last : (paper : List ℕ) (j i : ℕ) (block : List ℕ) → j < length paper / 512 → get_or (blocks_in paper) j [] ≡ block → i < get_or block 6 0 → get_or block 6 0 ≤ i + 1 →
    to_come paper j i ≡ record_of (get_or (pieces 26 (get_or block 6 0) (drop 8 block)) i []) ∷ to_come paper (j + 1) 0
come_last paper j i block low is inside last =
    let parts = pieces 26 (get_or block 6 0) (drop 8 block) in
    let long = length_pieces 26 (get_or block 6 0) (drop 8 block) in
    let none : drop (i + 1) (block_records block) ≡ [] = drop_all (i + 1) (map record_of parts) (omega (arith, length-map parts record_of)) in
    come_one paper j i block low is inside
    ∙ ap (λ l. record_of (get_or parts i []) ∷ (l ++ flat_map block_records (drop (j + 1) (blocks_in paper)))) none
    ∙ ap (λ l. record_of (get_or parts i []) ∷ l) (come_block paper (j + 1))
