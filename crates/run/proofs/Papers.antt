-- What a sound paper tells of its table and of how many records it has. Assumes nothing.
use Rattle.std.proofs.Common.{◌≡◌, ℕ, suc, ◌*◌, ◌/◌, ◌<◌, ◌≤◌, true, ltb, leb, List, [], ◌∷◌, length, get_or, is_ok, Ok, ap, subst, arith, length-append}
use Rattle.std.specs.List.{flat_map}
use Rattle.std.proofs.lemmas.Bool.{and_parts, leb-true, ltb-true}
use Rattle.blocks.specs.Blocks.{blocks_in, is_length}
use Rattle.blocks.proofs.Pieces.{length_pieces}
use Rattle.paper.specs.declared.header.Header.{Header}
use Rattle.paper.specs.Checks.{blocks_checked, paper_checked}
use Rattle.paper.specs.Headers.{header_of, header_fits, shape_fits}
use Rattle.paper.specs.Reading.{block_records, paper_records}
use Rattle.paper.proofs.BlocksBack.{header_same, length_block_records}
use Rattle.paper.proofs.Sound.{blocks_tell, paper_tells, sound_counted}

records_few : (bs : List (List ℕ)) → ((j : ℕ) → j < length bs → get_or (get_or bs j []) 6 0 ≤ 19) → length (flat_map block_records bs) ≤ 19 * length bs
records_few [] each = omega arith
records_few (b ∷ bs) each =
    let here : get_or b 6 0 ≤ 19 = each 0 (omega arith) in
    let behind = records_few bs (λ j inside. each (suc j) (omega arith)) in
    let long = length-append (block_records b) (flat_map block_records bs) in
    let one = length_block_records b in
    omega arith

pub paper_few : (paper : List ℕ) → is_ok (paper_checked paper) ≡ true → length (paper_records paper) ≤ 1900
paper_few paper sound =
    let many = length_pieces 512 (length paper / 512) paper in
    let counted = sound_counted paper 0 sound in
    let all = records_few (blocks_in paper) (λ j inside.
    let here = sound_counted paper j sound in
    let low : j < length paper / 512 = omega arith in
    let few = (here.told low).few in
    let is = here.count low in
    omega arith) in
    omega arith

-- the header of a sound paper fits
header_is : (first : Header) (i : ℕ) (bs : List (List ℕ)) (h : Header) → blocks_checked first i bs ≡ Ok h → first ≡ h
header_is first i [] h is = cc
header_is first i (b ∷ bs) h is = header_is first (suc i) bs h (blocks_tell first i b bs h is).1

first_fits : (first : Header) (i : ℕ) (bs : List (List ℕ)) (h : Header) → 0 < length bs → blocks_checked first i bs ≡ Ok h → header_fits first ≡ true
first_fits first i [] h some is = absurd (omega arith)
first_fits first i (b ∷ bs) h some is =
    let front = (blocks_tell first i b bs h is).0.front in
    subst (λ x. header_fits x ≡ true) (header_same (header_of b) first front.same) front.fits

-- the limits of its numbers
pub record Fit (h : Header) : Type 0 where
  pub some : 2 ≤ h.buckets
  pub few : h.buckets ≤ 256
  pub narrow : h.most ≤ 8
  pub used : 1 ≤ h.rows
  pub within : h.rows ≤ h.most

pub shape_limits : (h : Header) → header_fits h ≡ true → Fit h
unfolding header_fits
shape_limits h fits =
    let a = and_parts (leb 2 h.buckets) _ (and_parts (shape_fits h) _ fits).0 in
    let b = and_parts (leb h.buckets 256) _ a.1 in
    let c = and_parts (leb h.most 8) _ b.1 in
    let d = and_parts (leb 1 h.rows) _ c.1 in
    record {
      some = leb-true 2 h.buckets a.0;
      few = leb-true h.buckets 256 b.0;
      narrow = leb-true h.most 8 c.0;
      used = leb-true 1 h.rows d.0;
      within = leb-true h.rows h.most d.1;
    }

paper_some : (n : ℕ) → is_length n ≡ true → 0 < n
paper_some n fits = ltb-true 0 n (and_parts (ltb 0 n) _ fits).0

pub header_sound : (paper : List ℕ) (h : Header) → paper_checked paper ≡ Ok h → header_fits h ≡ true
header_sound paper h is =
    let counted = sound_counted paper 0 (ap is_ok is) in
    let told = paper_tells paper h is in
    let some : 0 < length (blocks_in paper) = omega (arith, length_pieces 512 (length paper / 512) paper, paper_some (length paper) told.0) in
    subst (λ x. header_fits x ≡ true) (header_is (header_of paper) 0 (blocks_in paper) h told.1) (first_fits (header_of paper) 0 (blocks_in paper) h some told.1)
