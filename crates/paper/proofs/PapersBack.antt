-- A sound paper, read and written again. Assumes nothing.
use Rattle.std.proofs.Common.{◌≡◌, ℕ, suc, ◌*◌, ◌/◌, ◌%◌, ltb, leb, List, [], ◌∷◌, map, length, get_or, Ok, sym, refl, ap, ◌∙◌, arith}
use Rattle.std.specs.List.{flat_map, AllByRecursion}
use Rattle.std.proofs.lemmas.List.{take_all}
use Rattle.std.proofs.lemmas.Bool.{and_parts, eqb-true}
use Rattle.blocks.specs.Blocks.{blocks_in}
use Rattle.blocks.specs.Pieces.{pieces}
use Rattle.blocks.proofs.Bytes.{Bytes, pieces_bytes}
use Rattle.blocks.proofs.Pieces.{Full, joined_map, joined_pieces, joined_spans, pieces_even, pieces_joined}
use Rattle.paper.specs.Headers.{header_of}
use Rattle.paper.specs.Checks.{blocks_checked, paper_checked}
use Rattle.paper.specs.Reading.{block_records, paper_records}
use Rattle.paper.specs.Writing.{blocks_bytes, blocks_for, paper_bytes}
use Rattle.paper.specs.declared.header.Header.{Header}
use Rattle.paper.specs.declared.«record».Record.{Record}
use Rattle.paper.proofs.BlocksBack.{block_back, length_block_records}
use Rattle.paper.proofs.Sound.{blocks_tell, paper_tells}

blocks_back : (first : Header) (i : ℕ) (bs : List (List ℕ)) (h : Header) → AllByRecursion (λ b. length b ≡ 512) bs → AllByRecursion Bytes bs → blocks_checked first i bs ≡ Ok h →
    (blocks_bytes first i (map block_records bs) ≡ bs) × (first ≡ h)
blocks_back first i [] h long each sound = (refl, cc)
blocks_back first i (b ∷ bs) h long each sound =
    let p = blocks_tell first i b bs h sound in
    let one = block_back first i _ b long.0 each.0 p.0 in
    let rest = blocks_back first (suc i) bs h long.1 each.1 p.1 in
    ((λ k. one k ∷ rest.0 k), rest.1)

-- every block but the last has 19 records
blocks_full : (first : Header) (i : ℕ) (bs : List (List ℕ)) (h : Header) → blocks_checked first i bs ≡ Ok h → Full 19 (map block_records bs)
blocks_full first i [] h sound = tt
blocks_full first i (b ∷ []) h sound =
    let f = (blocks_tell first i b [] h sound).0.front in
    let n = length_block_records b in
    let some = f.some in
    let few = f.few in
    (omega arith, omega arith)
blocks_full first i (b ∷ c ∷ bs) h sound =
    let p = blocks_tell first i b (c ∷ bs) h sound in
    (length_block_records b ∙ eqb-true (get_or b 6 0) 19 p.0.front.count, blocks_full first (suc i) (c ∷ bs) h p.1)

regrouped : (rss : List (List Record)) → Full 19 rss → let rs = flat_map (λ (r : List Record). r) rss in pieces 19 (blocks_for (length rs)) rs ≡ rss
regrouped [] full = refl
regrouped (r ∷ rss) full =
    let all = flat_map (λ (r : List Record). r) (r ∷ rss) in
    let s = joined_spans 19 r rss full in
    let more = s.more in
    let room = s.room in
    let n : blocks_for (length all) ≡ suc (length rss) = omega arith in
    ap (λ k. pieces 19 k all) n ∙ pieces_joined 19 (r ∷ rss) full

pub paper_back : (paper : List ℕ) (h : Header) → Bytes paper → paper_checked paper ≡ Ok h → paper_bytes h (paper_records paper) ≡ paper
unfolding paper_bytes
paper_back paper h each sound =
    let p = paper_tells paper h sound in
    let n = length paper / 512 in
    let bs = blocks_in paper in
    let even = eqb-true (length paper % 512) 0 (and_parts (leb (length paper) 51200) _ (and_parts (ltb 0 (length paper)) _ p.0).1).1 in
    let back = blocks_back (header_of paper) 0 bs h (pieces_even 512 n paper (omega arith)) (pieces_bytes 512 n paper each) p.1 in
    let full = blocks_full (header_of paper) 0 bs h p.1 in
    let groups : pieces 19 (blocks_for (length (paper_records paper))) (paper_records paper) ≡ map block_records bs =
    ap (λ rs. pieces 19 (blocks_for (length rs)) rs) (joined_map block_records bs) ∙ regrouped (map block_records bs) full in
    (λ k. flat_map (λ b. b) (blocks_bytes (sym back.1 k) 0 (groups k)))
    ∙ ap (flat_map (λ b. b)) back.0
    ∙ joined_pieces 512 n paper
    ∙ take_all (512 * n) paper (omega arith)
