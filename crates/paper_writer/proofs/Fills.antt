-- What one write after another leaves of a record, a block and a paper. Assumes nothing.
use Rattle.std.proofs.Common.{◌≡◌, ℕ, suc, ◌+◌, ◌-◌, ◌*◌, ◌<◌, ◌≤◌, min, List, [], ◌∷◌, ◌++◌, length, get_or, take, drop, set, replicate, sym, refl, ap, ◌∙◌, subst, ⊎_elim, append_assoc, append-nil, add-one, arith, length-append}
use borrow.Rule.Slice.PartMut.{put_mid}
use Rattle.std.specs.List.{flat_map}
use Rattle.std.proofs.lemmas.List.{drop_all, drop_at, flat_map_more, length-replicate, nil_from_length, take_all, take_at, take_more}
use Rattle.std.proofs.lemmas.Slice.{take-put_mid}
use Rattle.std.proofs.lemmas.Bool.{cases_lt}
use Rattle.numbers.specs.Buffers.{put}
use Rattle.numbers.proofs.Puts.{put_byte, put_part, put_put}
use Rattle.blocks.specs.Pieces.{pieces}
use Rattle.paper.specs.Headers.{header_bytes}
use Rattle.paper.specs.Records.{record_bytes}
use Rattle.paper.specs.Writing.{block_body, block_bytes, blocks_bytes, blocks_for, paper_bytes}
use Rattle.paper.specs.declared.header.Header.{Header}
use Rattle.paper.specs.declared.«record».Record.{Record}

put_all : (buffer bytes : List ℕ) → length buffer ≡ length bytes → put buffer 0 bytes ≡ bytes
unfolding put
put_all buffer bytes long = ap (λ l. bytes ++ l) (drop_all (0 + length bytes) buffer (omega arith)) ∙ append-nil bytes

pub record_filled : (part second third key packets octets : List ℕ) (code : ℕ) → length part ≡ 26 → length key ≡ 13 → length packets ≡ 4 → length octets ≡ 8 →
    second ≡ put (put_mid 1 13 (set part 0 code) key) 14 packets → third ≡ put second 18 octets → third ≡ code ∷ (key ++ (packets ++ octets))
record_filled part second third key packets octets code long lk lp lo is-second is-third =
    let with_call : set part 0 code ≡ put part 0 (code ∷ []) = put_byte part 0 code (omega arith) in
    let with_key : put_mid 1 13 (set part 0 code) key ≡ put part 0 (code ∷ key) =
    ap (λ l. put_mid 1 13 l key) with_call ∙ put_part (put part 0 (code ∷ [])) key key 1 13 refl (sym lk) ∙ put_put part (code ∷ []) key 0 1 refl (omega arith) in
    let with_packets : second ≡ put part 0 ((code ∷ key) ++ packets) =
    is-second ∙ ap (λ l. put l 14 packets) with_key ∙ put_put part (code ∷ key) packets 0 14 (omega arith) (omega arith) in
    let before = length-append (code ∷ key) packets in
    let all = length-append ((code ∷ key) ++ packets) octets in
    is-third ∙ ap (λ l. put l 18 octets) with_packets
    ∙ put_put part ((code ∷ key) ++ packets) octets 0 18 (omega arith) (omega arith)
    ∙ put_all part (((code ∷ key) ++ packets) ++ octets) (omega arith)
    ∙ append_assoc (code ∷ key) packets octets

-- a part written behind what stands
part_next : (before after part front : List ℕ) (place width next : ℕ) → after ≡ put_mid place width before part → place ≤ length before → next ≡ place + length part → take place before ≡ front → take next after ≡ front ++ part
part_next before after part front place width next is room long stands = ap (take next) is ∙ take-put_mid place width before part next long room ∙ ap (λ l. l ++ part) stands

pub record_next : (front : List ℕ) (records : List Record) (before after part : List ℕ) (i width : ℕ) (d : Record) → i < length records →
    take (8 + 26 * i) before ≡ front ++ flat_map record_bytes (take i records) → after ≡ put_mid (8 + 26 * i) width before part → part ≡ record_bytes (get_or records i d) →
    length part ≡ 26 → 8 + 26 * i ≤ length before → take (8 + 26 * (i + 1)) after ≡ front ++ flat_map record_bytes (take (i + 1) records)
record_next front records before after part i width d inside stands is what long room =
    part_next before after part _ (8 + 26 * i) width (8 + 26 * (i + 1)) is room (omega arith) stands
    ∙ ap (λ l. (front ++ flat_map record_bytes (take i records)) ++ l) what
    ∙ flat_map_more record_bytes front (take i records) (get_or records i d)
    ∙ ap (λ l. front ++ flat_map record_bytes l) (sym (take_more records i d inside))

-- the zeros behind the records
pub body_filled : (h : Header) (place : ℕ) (front : List ℕ) (records : List Record) (before after zeros : List ℕ) (i width : ℕ) →
    front ≡ header_bytes h ++ (length records ∷ place ∷ []) → length records ≤ i → i ≤ length records → length records ≤ 19 →
    take (8 + 26 * i) before ≡ front ++ flat_map record_bytes (take i records) → length before ≡ 512 →
    after ≡ put_mid (8 + 26 * length records) width before zeros → zeros ≡ replicate (496 - 26 * length records) 0 → take 504 after ≡ block_body h place records
body_filled h place front records before after zeros i width head past within few stands long is blank =
    let n = length records in
    let same : i ≡ n = omega arith in
    let full : take (8 + 26 * n) before ≡ front ++ flat_map record_bytes records =
    ap (λ k. take (8 + 26 * k) before) (sym same) ∙ stands ∙ ap (λ l. front ++ flat_map record_bytes l) (take_all i records past) in
    let lz : length zeros ≡ 496 - 26 * n = ap length blank ∙ length-replicate (496 - 26 * n) 0 in
    part_next before after zeros _ (8 + 26 * n) width 504 is (omega arith) (omega arith) full
    ∙ append_assoc front (flat_map record_bytes records) zeros
    ∙ (λ k. head k ++ (flat_map record_bytes records ++ blank k))
    ∙ append_assoc (header_bytes h) (n ∷ place ∷ []) (flat_map record_bytes records ++ replicate (496 - 26 * n) 0)

-- a group of 19 records, or of all that are left
record Cut (group rest : List Record) : Type 0 where
  front : take 19 (group ++ rest) ≡ group
  back : drop 19 (group ++ rest) ≡ rest
  count : blocks_for (length (group ++ rest)) ≡ suc (blocks_for (length rest))

cut : (group rest : List Record) → length group ≡ min 19 (length (group ++ rest)) → 0 < length (group ++ rest) → Cut group rest
cut group rest long some =
    let all = length-append group rest in
    ⊎_elim
    (λ less.
    let none : rest ≡ [] = nil_from_length rest (omega arith) in
    record {
      front = take_all 19 (group ++ rest) (omega arith) ∙ ap (λ l. group ++ l) none ∙ append-nil group;
      back = drop_all 19 (group ++ rest) (omega arith) ∙ sym none;
      count = omega arith;
    })
    (λ more.
    let full : length group ≡ 19 = omega arith in
    record { front = take_at group rest 19 full; back = drop_at group rest 19 full; count = omega arith })
    (cases_lt (length group) 19)

-- the blocks of the records that are left, counted from i
abbrev pub blocks_rest : Header → ℕ → List Record → List ℕ
blocks_rest h i left = flat_map (λ (b : List ℕ). b) (blocks_bytes h i (pieces 19 (blocks_for (length left)) left))

-- i blocks are written, and these records are left
pub record Filling (h : Header) (records : List Record) (buffer : List ℕ) (i : ℕ) (left : List Record) : Type 0 where
  pub stands : take (512 * i) buffer ++ blocks_rest h i left ≡ paper_bytes h records
  pub count : i + blocks_for (length left) ≡ blocks_for (length records)

pub filling_first : (h : Header) (records : List Record) (buffer : List ℕ) (i : ℕ) (left : List Record) → i ≡ 0 → left ≡ records → Filling h records buffer i left
unfolding paper_bytes
filling_first h records buffer i left none all =
    let same : blocks_for (length left) ≡ blocks_for (length records) = ap (λ rs. blocks_for (length rs)) all in
    record { stands = λ k. take (512 * none k) buffer ++ blocks_rest h (none k) (all k); count = omega arith }

filling_more : (h : Header) (records : List Record) (before after block : List ℕ) (i width : ℕ) (left group rest : List Record) → Filling h records before i left →
    length before ≡ 512 * blocks_for (length records) → left ≡ group ++ rest → length group ≡ min 19 (length left) → 0 < length left →
    after ≡ put_mid (512 * i) width before block → block ≡ block_bytes h i group → length block ≡ 512 → Filling h records after (i + 1) rest
filling_more h records before after block i width left group rest filling room parts long some is what whole =
    let all : length left ≡ length (group ++ rest) = ap length parts in
    let c = cut group rest (omega arith) (omega arith) in
    let fewer : blocks_for (length left) ≡ suc (blocks_for (length rest)) = ap (λ rs. blocks_for (length rs)) parts ∙ c.count in
    let count = filling.count in
    let more : blocks_rest h i left ≡ block ++ blocks_rest h (i + 1) rest =
    ap (λ n. flat_map (λ (b : List ℕ). b) (blocks_bytes h i (pieces 19 n left))) fewer
    ∙ ap (λ rs. flat_map (λ (b : List ℕ). b) (blocks_bytes h i (pieces 19 (suc (blocks_for (length rest))) rs))) parts
    ∙ (λ k. block_bytes h i (c.front k) ++ flat_map (λ (b : List ℕ). b) (blocks_bytes h (sym (add-one i) k) (pieces 19 (blocks_for (length rest)) (c.back k))))
    ∙ ap (λ l. l ++ blocks_rest h (i + 1) rest) (sym what) in
    record {
      stands =
          ap (λ l. l ++ blocks_rest h (i + 1) rest) (part_next before after block (take (512 * i) before) (512 * i) width (512 * (i + 1)) is (omega arith) (omega arith) refl)
          ∙ append_assoc (take (512 * i) before) block (blocks_rest h (i + 1) rest)
          ∙ ap (λ l. take (512 * i) before ++ l) (sym more)
          ∙ filling.stands;
      count = omega arith;
    }

-- the same, where the count is the iterator's
pub filling_next : (h : Header) (records : List Record) (before after block : List ℕ) (i at next width : ℕ) (left group rest : List Record) → Filling h records before at left → i ≡ at → next ≡ at + 1 →
    length before ≡ 512 * blocks_for (length records) → left ≡ group ++ rest → length group ≡ min 19 (length left) → 0 < length left →
    after ≡ put_mid (512 * i) width before block → block ≡ block_bytes h i group → length block ≡ 512 → Filling h records after next rest
filling_next h records before after block i at next width left group rest filling here on room parts long some is what whole =
    let from = subst (λ n. Filling h records before n left) (sym here) filling in
    let one : i + 1 ≡ next = omega arith in
    subst (λ n. Filling h records after n rest) one (filling_more h records before after block i width left group rest from room parts long some is what whole)

pub filling_last : (h : Header) (records : List Record) (buffer : List ℕ) (i : ℕ) (left : List Record) → Filling h records buffer i left →
    length buffer ≡ 512 * blocks_for (length records) → length left ≡ 0 → buffer ≡ paper_bytes h records
filling_last h records buffer i left filling room none =
    let count = filling.count in
    let last : blocks_for (length left) ≡ 0 = omega arith in
    sym (ap (λ n. take (512 * i) buffer ++ flat_map (λ (b : List ℕ). b) (blocks_bytes h i (pieces 19 n left))) last
    ∙ append-nil (take (512 * i) buffer) ∙ take_all (512 * i) buffer (omega arith))
    ∙ filling.stands
