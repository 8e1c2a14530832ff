-- What a sound block and a sound paper tell. Assumes nothing.
use Rattle.std.proofs.Common.{◌≡◌, ℕ, zero, suc, ◌+◌, ◌*◌, ◌/◌, ◌%◌, ◌<◌, ◌≤◌, Bool, true, ltb, leb, List, [], ◌∷◌, length, get_or, drop, is_ok, Ok, Err, Result, refl, ap, ◌∙◌, arith}
use Rattle.std.proofs.lemmas.List.{get_or-take, get_or-drop}
use Rattle.std.proofs.lemmas.Bool.{false≢true, and_parts, leb-true, eqb-true}
use Rattle.blocks.specs.Blocks.{blocks_in, check_holds, is_length}
use Rattle.blocks.specs.Pieces.{pieces}
use Rattle.blocks.proofs.Pieces.{slice_index_or_pieces, length_pieces}
use Rattle.blocks.proofs.Tells.{cond_tells, then_tells}
use Rattle.blocks.specs.declared.fault.BlockFault.TheVariants.{Check, Record}
use Rattle.paper.specs.Headers.{header_of}
use Rattle.paper.specs.Checks.{block_checked, blocks_checked, front_fits, is_nil, paper_checked, records_checked, zeros_checked}
use Rattle.paper.specs.declared.header.Header.{Header}
use Rattle.paper.specs.declared.fault.PaperFault.TheVariants.{Length, InBlock}
use Rattle.paper.proofs.Fronts.{Front, front_tells}

ok_tells : {T E : Type 0} (r : Result T E) → is_ok r ≡ true → (x : T) × (r ≡ Ok x)
ok_tells (Ok x) is = (x, refl)
ok_tells (Err e) is = absurd (false≢true is)

pub record SoundBlock (first : Header) (place : ℕ) (last : Bool) (block : List ℕ) : Type 0 where
  pub holds : check_holds block ≡ true
  pub front : Front first place last block
  pub records : records_checked (get_or block 5 0) place 0 (pieces 26 (get_or block 6 0) (drop 8 block)) ≡ Ok tt
  pub zeros : zeros_checked place (8 + 26 * get_or block 6 0) block ≡ Ok tt

pub block_tells : (first : Header) (place : ℕ) (last : Bool) (block : List ℕ) (t : Unit {0}) → block_checked first place last block ≡ Ok t → SoundBlock first place last block
unfolding block_checked
block_tells first place last block t is =
    let p = cond_tells (check_holds block) _ (Check place) t is in
    let q = cond_tells (front_fits first place last block) _ _ t p.1 in
    let r = then_tells Record (records_checked (get_or block 5 0) place 0 (pieces 26 (get_or block 6 0) (drop 8 block))) _ t q.1 in
    let s = then_tells Record (zeros_checked place (8 + 26 * get_or block 6 0) block) _ t r.1 in
    record { holds = p.0; front = front_tells first place last block q.0; records = r.0.1; zeros = s.0.1 }

pub blocks_tell : (first : Header) (i : ℕ) (b : List ℕ) (bs : List (List ℕ)) (h : Header) → blocks_checked first i (b ∷ bs) ≡ Ok h → SoundBlock first i (is_nil bs) b × (blocks_checked first (suc i) bs ≡ Ok h)
blocks_tell first i b bs h is =
    let p = then_tells InBlock (block_checked first i (is_nil bs) b) (blocks_checked first (suc i) bs) h is in
    (block_tells first i (is_nil bs) b p.0.0 p.0.1, p.1)

-- what the check of a paper tells of one of its blocks
pub record Told (block : List ℕ) : Type 0 where
  pub some : 1 ≤ get_or block 6 0
  pub few : get_or block 6 0 ≤ 19
  pub place : ℕ
  pub records : records_checked (get_or block 5 0) place 0 (pieces 26 (get_or block 6 0) (drop 8 block)) ≡ Ok tt

told : (first : Header) (i : ℕ) (bs : List (List ℕ)) (h : Header) → blocks_checked first i bs ≡ Ok h → (j : ℕ) → j < length bs → Told (get_or bs j [])
told first i [] h is j inside = absurd (omega arith)
told first i (b ∷ bs) h is zero inside = let p = blocks_tell first i b bs h is in record { some = p.0.front.some; few = p.0.front.few; place = i; records = p.0.records }
told first i (b ∷ bs) h is (suc j) inside = told first (suc i) bs h (blocks_tell first i b bs h is).1 j (omega arith)

pub paper_tells : (paper : List ℕ) (h : Header) → paper_checked paper ≡ Ok h → (is_length (length paper) ≡ true) × (blocks_checked (header_of paper) 0 (blocks_in paper) ≡ Ok h)
unfolding paper_checked
paper_tells paper h is = cond_tells (is_length (length paper)) _ Length h is

-- the length of a sound paper, and what is known of its block in place j
pub record Counted (paper : List ℕ) (j : ℕ) : Type 0 where
  pub whole : length paper ≡ 512 * (length paper / 512)
  pub short : length paper ≤ 51200
  pub count : j < length paper / 512 → get_or (get_or (blocks_in paper) j []) 6 0 ≡ get_or paper (512 * j + 6) 0
  pub told : j < length paper / 512 → Told (get_or (blocks_in paper) j [])

pub sound_counted : (paper : List ℕ) (j : ℕ) → is_ok (paper_checked paper) ≡ true → Counted paper j
sound_counted paper j sound =
    let o = ok_tells (paper_checked paper) sound in
    let p = paper_tells paper o.0 o.1 in
    let n = length paper / 512 in
    let q = and_parts (ltb 0 (length paper)) _ p.0 in
    let r = and_parts (leb (length paper) 51200) _ q.1 in
    let even = eqb-true (length paper % 512) 0 r.1 in
    record {
      whole = omega arith;
      short = leb-true (length paper) 51200 r.0;
      count =
          λ inside. ap (λ b. get_or b 6 0) (slice_index_or_pieces 512 j n paper inside) ∙ get_or-take 512 (drop (512 * j) paper) 6 0 (omega arith) ∙ get_or-drop (512 * j) paper 6 0;
      told = λ inside. told (header_of paper) 0 (blocks_in paper) o.0 p.1 j (omega (arith, length_pieces 512 n paper));
    }
