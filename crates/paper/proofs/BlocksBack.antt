-- A sound block, read and written again. Assumes nothing.
use Rattle.std.proofs.Common.{◌≡◌, ℕ, ◌+◌, ◌-◌, ◌*◌, ◌<◌, ◌≤◌, Bool, true, false, cond, not, eqb, List, [], ◌∷◌, ◌++◌, length, get_or, take, drop, replicate, Some, None, Ok, Option, sym, refl, ap, ◌∙◌, append_assoc, arith, length-drop, length-take, take-add}
use lib.ListN.{length-map}
use Rattle.std.specs.List.{flat_map}
use Rattle.std.proofs.lemmas.List.{drop-drop, drop_more}
use Rattle.std.proofs.lemmas.Bool.{and_parts, eqb-true}
use Rattle.blocks.specs.Blocks.{with_check}
use Rattle.blocks.specs.Pieces.{pieces}
use Rattle.blocks.proofs.Bytes.{Bytes, drop_bytes, part_back, pieces_bytes}
use Rattle.blocks.proofs.Checks.{check_written_back}
use Rattle.blocks.proofs.Pieces.{joined_pieces, length_pieces, pieces_even}
use Rattle.paper.specs.Headers.{header_bytes, header_of, same_header}
use Rattle.paper.specs.Records.{first_nonzero, record_bytes, record_of}
use Rattle.paper.specs.Checks.{stray}
use Rattle.paper.specs.Reading.{block_records}
use Rattle.paper.specs.Writing.{block_body, block_bytes}
use Rattle.paper.specs.declared.header.Header.{Header}
use Rattle.paper.proofs.RecordsBack.{records_back}
use Rattle.paper.proofs.Sound.{SoundBlock}

pub header_same : (g h : Header) → same_header g h ≡ true → g ≡ h
header_same g h is =
    let p = and_parts (eqb g.buckets h.buckets) _ is in
    let q = and_parts (eqb g.rows h.rows) _ p.1 in
    let r = and_parts (eqb g.most h.most) _ q.1 in
    let s = and_parts (eqb g.rule h.rule) _ r.1 in
    λ i. record {
      buckets = eqb-true _ _ p.0 i;
      rows = eqb-true _ _ q.0 i;
      most = eqb-true _ _ r.0 i;
      rule = eqb-true _ _ s.0 i;
      kind = eqb-true _ _ s.1 i;
    }

front_back : (block : List ℕ) → 8 ≤ length block → Bytes block → header_bytes (header_of block) ++ (get_or block 6 0 ∷ get_or block 7 0 ∷ []) ≡ take 8 block
front_back block long each =
    let step : (k : ℕ) → k < 8 → drop k block ≡ get_or block k 0 ∷ drop (k + 1) block = λ k small. drop_more block k 0 (omega arith) in
    let rest : drop 2 block ≡ get_or block 2 0 ∷ get_or block 3 0 ∷ get_or block 4 0 ∷ get_or block 5 0 ∷ get_or block 6 0 ∷ get_or block 7 0 ∷ drop 8 block =
    step 2 (omega arith) ∙ ap (λ l. get_or block 2 0 ∷ l) (step 3 (omega arith)
    ∙ ap (λ l. get_or block 3 0 ∷ l) (step 4 (omega arith) ∙ ap (λ l. get_or block 4 0 ∷ l) (step 5 (omega arith)
    ∙ ap (λ l. get_or block 5 0 ∷ l) (step 6 (omega arith) ∙ ap (λ l. get_or block 6 0 ∷ l) (step 7 (omega arith)))))) in
    ap (λ l. l ++ (get_or block 2 0 ∷ get_or block 3 0 ∷ get_or block 4 0 ∷ get_or block 5 0 ∷ get_or block 6 0 ∷ get_or block 7 0 ∷ [])) (part_back block 0 2 (omega arith) each)
    ∙ ap (λ l. take 2 block ++ take 6 l) (sym rest)
    ∙ sym (take-add 2 6 block)

none_tells : (b : Bool) (o : Option ℕ) (k : ℕ) → cond (not b) (Some k) o ≡ None → (b ≡ true) × (o ≡ None)
none_tells true o k is = (refl, is)
none_tells false o k is = cc

zeros_back : (bytes : List ℕ) (k : ℕ) → first_nonzero k bytes ≡ None → bytes ≡ replicate (length bytes) 0
zeros_back [] k none = refl
zeros_back (b ∷ bs) k none =
    let p = none_tells (eqb b 0) (first_nonzero (k + 1) bs) k none in
    let rest = zeros_back bs (k + 1) p.1 in
    λ i. eqb-true b 0 p.0 i ∷ rest i

stray_none : (place from : ℕ) (o : Option ℕ) → stray place from o ≡ Ok tt → o ≡ None
stray_none place from None is = refl
stray_none place from (Some k) is = cc

-- a block's first eight bytes, its records and the zeros behind them, put together again
whole_body : (block : List ℕ) (n : ℕ) → n ≤ 19 → take 8 block ++ (take (26 * n) (drop 8 block) ++ take (504 - (8 + 26 * n)) (drop (8 + 26 * n) block)) ≡ take 504 block
whole_body block n few =
    let long : 26 * n + (504 - (8 + 26 * n)) ≡ 496 = omega arith in
    ap (λ l. take 8 block ++ (take (26 * n) (drop 8 block) ++ take (504 - (8 + 26 * n)) l)) (sym (drop-drop (26 * n) 8 block))
    ∙ ap (λ l. take 8 block ++ l) (sym (take-add (26 * n) (504 - (8 + 26 * n)) (drop 8 block)) ∙ ap (λ m. take m (drop 8 block)) long)
    ∙ sym (take-add 8 496 block)

pub length_block_records : (block : List ℕ) → length (block_records block) ≡ get_or block 6 0
length_block_records block = length-map (pieces 26 (get_or block 6 0) (drop 8 block)) record_of ∙ length_pieces 26 (get_or block 6 0) (drop 8 block)

pub block_back : (first : Header) (place : ℕ) (last : Bool) (block : List ℕ) → length block ≡ 512 → Bytes block → SoundBlock first place last block → block_bytes first place (block_records block) ≡ block
unfolding block_bytes
block_back first place last block long each sound =
    let n = get_or block 6 0 in
    let few : n ≤ 19 = sound.front.few in
    let parts = pieces 26 n (drop 8 block) in
    let room : 26 * n ≤ length (drop 8 block) = omega (arith, length-drop 8 block) in
    let recs = block_records block in
    let count : length recs ≡ n = length_block_records block in
    let head : header_bytes (header_of block) ≡ header_bytes first = ap header_bytes (header_same (header_of block) first sound.front.same) in
    let written : flat_map record_bytes recs ≡ take (26 * n) (drop 8 block) =
    records_back _ place 0 parts (pieces_even 26 n (drop 8 block) room) (pieces_bytes 26 n (drop 8 block) (drop_bytes block 8 each)) sound.records
    ∙ joined_pieces 26 n (drop 8 block) in
    let tail = take (504 - (8 + 26 * n)) (drop (8 + 26 * n) block) in
    let lz : length tail ≡ 496 - 26 * length recs = length-take (504 - (8 + 26 * n)) (drop (8 + 26 * n) block) ∙ omega (arith, length-drop (8 + 26 * n) block) in
    let zeros : replicate (496 - 26 * length recs) 0 ≡ tail = ap (λ k. replicate k 0) (sym lz) ∙ sym (zeros_back tail 0 (stray_none place (8 + 26 * n) _ sound.zeros)) in
    let body : block_body first place recs ≡ take 504 block =
    (λ i. sym head i ++ (count i ∷ sym sound.front.placed i ∷ (written i ++ zeros i)))
    ∙ sym (append_assoc (header_bytes (header_of block)) (n ∷ get_or block 7 0 ∷ []) _)
    ∙ ap (λ l. l ++ (take (26 * n) (drop 8 block) ++ tail)) (front_back block (omega arith) each)
    ∙ whole_body block n few in
    ap with_check body ∙ check_written_back block long each sound.holds
