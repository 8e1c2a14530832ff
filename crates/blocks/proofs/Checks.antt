-- A block's check, written and read. Assumes nothing.
use Rattle.std.proofs.Common.{◌≡◌, ℕ, ◌+◌, ◌^◌, ◌<◌, true, List, [], ◌∷◌, ◌++◌, length, take, drop, fold, sym, ap, ◌∙◌, arith, length-append, length-drop, take-append-drop}
use Rattle.std.proofs.lemmas.Nat.{mod_below}
use Rattle.std.proofs.lemmas.List.{take_at, drop_at, take_all, drop_all}
use Rattle.std.proofs.lemmas.Bool.{eqb-true, eq-eqb}
use Rattle.numbers.specs.Buffers.{put}
use Rattle.numbers.specs.Fnv.{fnv_1a, fnv_step}
use Rattle.numbers.specs.LittleEndian.{number, bytes_of}
use Rattle.blocks.specs.Blocks.{with_check, check_holds}
use Rattle.blocks.proofs.Bytes.{Bytes, number_back, part_back}

pub written_check : (block : List ℕ) (check : ℕ) → length block ≡ 512 → check ≡ fnv_1a (take 504 block) →
    put block 504 (bytes_of 8 check) ≡ with_check (take 504 block)
unfolding put with_check
written_check block check long is =
    let none : drop 512 block ≡ [] = drop_all 512 block (omega arith) in
    ap (λ l. take 504 block ++ (bytes_of 8 check ++ l)) none
    ∙ ap (λ n. take 504 block ++ bytes_of 8 n) is

fnv_below : (bytes : List ℕ) (hash : ℕ) → hash < 2 ^ 64 → fold fnv_step hash bytes < 2 ^ 64
fnv_below [] hash small = small
fnv_below (b ∷ bs) hash small = fnv_below bs (fnv_step hash b) (mod_below _ (2 ^ 64) (omega arith))

pub length_with_check : (body : List ℕ) → length (with_check body) ≡ length body + 8
unfolding with_check
length_with_check body = length-append body _

-- what is written holds
pub check_read_back : (body : List ℕ) → length body ≡ 504 → check_holds (with_check body) ≡ true
unfolding with_check check_holds
check_read_back body long =
    let check = bytes_of 8 (fnv_1a body) in
    let sum : number (take 8 (drop 504 (body ++ check))) ≡ fnv_1a body =
    ap (λ l. number (take 8 l)) (drop_at body check 504 long) ∙ number_back 8 (fnv_1a body) (fnv_below body 14695981039346656037 (omega arith)) in
    eq-eqb _ _ (ap fnv_1a (take_at body check 504 long) ∙ sym sum)

-- where it holds, the same is written
pub check_written_back : (block : List ℕ) → length block ≡ 512 → Bytes block → check_holds block ≡ true → with_check (take 504 block) ≡ block
unfolding with_check check_holds
check_written_back block long each holds =
    let same : bytes_of 8 (fnv_1a (take 504 block)) ≡ take 8 (drop 504 block) = ap (bytes_of 8) (eqb-true _ _ holds) ∙ part_back block 504 8 (omega arith) each in
    let end : take 8 (drop 504 block) ≡ drop 504 block = take_all 8 (drop 504 block) (omega (arith, length-drop 504 block)) in
    ap (λ l. take 504 block ++ l) (same ∙ end) ∙ take-append-drop 504 block
