-- What is written of fit records is found fit, and read as the same. Assumes nothing.
use Rattle.std.proofs.Common.{◌≡◌, ℕ, zero, suc, ◌+◌, ◌-◌, ◌*◌, ◌/◌, ◌%◌, ◌≤◌, Bool, true, cond, leb, List, [], ◌∷◌, ◌++◌, map, length, get_or, take, drop, replicate, None, Ok, Err, sym, refl, ap, ◌∙◌, append_assoc, arith, length-append}
use lib.ListN.{length-map}
use Rattle.std.specs.List.{flat_map, AllByRecursion}
use Rattle.std.proofs.ByRecursion.{All-map, All-weaker}
use Rattle.std.proofs.lemmas.List.{drop_at, drop-drop, length-replicate, take_at}
use Rattle.std.proofs.lemmas.Bool.{and_from, and_parts, eq-eqb, leb-true}
use Rattle.numbers.specs.Fnv.{fnv_1a}
use Rattle.numbers.specs.LittleEndian.{bytes_of, number}
use Rattle.blocks.specs.Blocks.{check_holds, with_check}
use Rattle.blocks.specs.Pieces.{pieces}
use Rattle.blocks.proofs.Bytes.{number_back}
use Rattle.blocks.proofs.Checks.{check_read_back, length_with_check}
use Rattle.blocks.proofs.Pieces.{even_joined, joined_map, length_even}
use Rattle.paper.specs.Headers.{header_bytes, header_fits, header_of, same_header}
use Rattle.paper.specs.Records.{Held, call_of, code_of, first_nonzero, is_code, record_bytes, record_fits, record_of}
use Rattle.paper.specs.Checks.{block_checked, count_fits, front_fits, part_fits, records_checked, stray, zeros_checked}
use Rattle.paper.specs.Reading.{block_records}
use Rattle.paper.specs.Writing.{block_body, block_bytes}
use Rattle.paper.specs.declared.header.Header.{Header}
use Rattle.paper.specs.declared.«record».Call.{Call}
use Rattle.paper.specs.declared.«record».Call.TheVariants.{Post, Reverse, Erase, LookUp, Widen, Narrow}
use Rattle.paper.specs.declared.«record».Record.{Record}

call_back : (c : Call) → (call_of (code_of c) ≡ c) × (is_code (code_of c) ≡ true)
call_back Post = (refl, refl)
call_back Reverse = (refl, refl)
call_back Erase = (refl, refl)
call_back LookUp = (refl, refl)
call_back Widen = (refl, refl)
call_back Narrow = (refl, refl)

record_back : (r : Record) → Held r → record_of (record_bytes r) ≡ r
record_back r held =
    let tail = bytes_of 4 r.packets ++ bytes_of 8 r.octets in
    let key : take 13 (r.key ++ tail) ≡ r.key = take_at r.key tail 13 held.0 in
    let rest : drop 13 (r.key ++ tail) ≡ tail = drop_at r.key tail 13 held.0 in
    let last : drop 17 (r.key ++ tail) ≡ bytes_of 8 r.octets = sym (drop-drop 4 13 (r.key ++ tail)) ∙ ap (drop 4) rest in
    let packets : number (take 4 (drop 13 (r.key ++ tail))) ≡ r.packets = ap (λ l. number (take 4 l)) rest ∙ number_back 4 r.packets (omega arith) in
    let octets : number (take 8 (drop 17 (r.key ++ tail))) ≡ r.octets = ap (λ l. number (take 8 l)) last ∙ number_back 8 r.octets (omega arith) in
    λ i. record { call = (call_back r.call).0 i; key = key i; packets = packets i; octets = octets i }

-- a record that can be written
abbrev pub Fit : ℕ → Record → Type 0
Fit kind r = Held r × (record_fits kind r ≡ true)

length_record : (r : Record) → Held r → length (record_bytes r) ≡ 26
length_record r held = ap suc (length-append r.key _) ∙ omega (arith, held.0)

records_fit : (kind place i : ℕ) (records : List Record) → AllByRecursion (Fit kind) records → records_checked kind place i (map record_bytes records) ≡ Ok tt
records_fit kind place i [] fit = refl
records_fit kind place i (r ∷ rs) fit =
    let one : part_fits kind (record_bytes r) ≡ true = and_from _ _ (call_back r.call).1 (ap (record_fits kind) (record_back r fit.0.0) ∙ fit.0.1) in
    ap (λ t. cond t (records_checked kind place (suc i) (map record_bytes rs)) (Err (record { block = place; «record» = i + 1 }))) one
    ∙ records_fit kind place (suc i) rs fit.1

records_same : (kind : ℕ) (records : List Record) → AllByRecursion (Fit kind) records → map record_of (map record_bytes records) ≡ records
records_same kind [] fit = refl
records_same kind (r ∷ rs) fit = λ k. record_back r fit.0.0 k ∷ records_same kind rs fit.1 k

all_zeros : (n k : ℕ) → first_nonzero k (replicate n 0) ≡ None
all_zeros zero k = refl
all_zeros (suc n) k = all_zeros n (k + 1)

two_bytes : (n : ℕ) → n ≤ 256 → n % 256 + 256 * (n / 256 % 256 + 256 * 0) ≡ n
two_bytes n small = omega arith

-- the header of bytes that begin with it
header_back : (h : Header) (rest : List ℕ) → header_fits h ≡ true → header_of (header_bytes h ++ rest) ≡ h
unfolding header_fits
header_back h rest fits =
    let shape = (and_parts _ _ fits).0 in
    let small = leb-true h.buckets 256 (and_parts (leb h.buckets 256) _ (and_parts (leb 2 h.buckets) _ shape).1).0 in
    λ i. record { buckets = two_bytes h.buckets small i; rows = h.rows; most = h.most; rule = h.rule; kind = h.kind }

-- the header of a paper that begins with a block
pub header_begins : (h : Header) (place : ℕ) (records : List Record) (rest : List ℕ) → header_fits h ≡ true → header_of (block_bytes h place records ++ rest) ≡ h
unfolding block_bytes with_check
header_begins h place records rest fits = header_back h [] fits

same_self : (h : Header) → same_header h h ≡ true
same_self h =
    and_from _ _ (eq-eqb h.buckets _ refl) (and_from _ _ (eq-eqb h.rows _ refl) (and_from _ _ (eq-eqb h.most _ refl) (and_from _ _ (eq-eqb h.rule _ refl) (eq-eqb h.kind _ refl))))

-- a block's first eight bytes and its records, with something behind them
abbrev laid : Header → ℕ → List Record → List ℕ → List ℕ
laid h place records rest = header_bytes h ++ (length records ∷ place ∷ (flat_map record_bytes records ++ rest))

abbrev blank : List Record → List ℕ
blank records = replicate (496 - 26 * length records) 0

abbrev check_of : Header → ℕ → List Record → List ℕ
check_of h place records = bytes_of 8 (fnv_1a (block_body h place records))

block_laid : (h : Header) (place : ℕ) (records : List Record) → block_bytes h place records ≡ laid h place records (blank records ++ check_of h place records)
unfolding block_bytes with_check
block_laid h place records =
    append_assoc (header_bytes h) (length records ∷ place ∷ (flat_map record_bytes records ++ blank records)) (check_of h place records)
    ∙ ap (λ l. header_bytes h ++ (length records ∷ place ∷ l)) (append_assoc (flat_map record_bytes records) (blank records) (check_of h place records))

even_records : (kind : ℕ) (records : List Record) → AllByRecursion (Fit kind) records → AllByRecursion (λ (p : List ℕ). length p ≡ 26) (map record_bytes records)
even_records kind records fit = All-map (λ (p : List ℕ). length p ≡ 26) record_bytes records (All-weaker (Fit kind) _ (λ r f. length_record r f.0) records fit)

length_records : (kind : ℕ) (records : List Record) → AllByRecursion (Fit kind) records → length (flat_map record_bytes records) ≡ 26 * length records
length_records kind records fit =
    ap length (joined_map record_bytes records) ∙ length_even 26 (map record_bytes records) (even_records kind records fit) ∙ ap (λ n. 26 * n) (length-map records record_bytes)

parts_laid : (kind : ℕ) (records : List Record) (rest : List ℕ) → AllByRecursion (Fit kind) records → pieces 26 (length records) (flat_map record_bytes records ++ rest) ≡ map record_bytes records
parts_laid kind records rest fit =
    (λ i. pieces 26 (sym (length-map records record_bytes) i) (joined_map record_bytes records i ++ rest))
    ∙ even_joined 26 (map record_bytes records) rest (even_records kind records fit)

front_laid : (h : Header) (place : ℕ) (last : Bool) (records : List Record) (rest : List ℕ) → header_fits h ≡ true → count_fits last (length records) ≡ true → front_fits h place last (laid h place records rest) ≡ true
unfolding front_fits
front_laid h place last records rest fits count =
    let same = header_back h (length records ∷ place ∷ (flat_map record_bytes records ++ rest)) fits in
    and_from _ _ (ap header_fits same ∙ fits) (and_from _ _ (ap (λ g. same_header g h) same ∙ same_self h) (and_from _ _ count (eq-eqb place place refl)))

zeros_laid : (kind : ℕ) (h : Header) (place : ℕ) (records : List Record) (check : List ℕ) → AllByRecursion (Fit kind) records → length records ≤ 19 →
    zeros_checked place (8 + 26 * length records) (laid h place records (blank records ++ check)) ≡ Ok tt
zeros_laid kind h place records check fit few =
    let n = length records in
    let front = (header_bytes h ++ (n ∷ place ∷ [])) ++ flat_map record_bytes records in
    let long : length front ≡ 8 + 26 * n = length-append (header_bytes h ++ (n ∷ place ∷ [])) (flat_map record_bytes records) ∙ omega (arith, length_records kind records fit) in
    let lz : length (blank records) ≡ 504 - (8 + 26 * n) = length-replicate (496 - 26 * n) 0 ∙ omega arith in
    ap (λ l. stray place (8 + 26 * n) (first_nonzero 0 (take (504 - (8 + 26 * n)) l))) (drop_at front (blank records ++ check) (8 + 26 * n) long)
    ∙ ap (λ l. stray place (8 + 26 * n) (first_nonzero 0 l)) (take_at (blank records) check (504 - (8 + 26 * n)) lz)
    ∙ ap (stray place (8 + 26 * n)) (all_zeros (496 - 26 * n) 0)

length_body : (h : Header) (place : ℕ) (records : List Record) → AllByRecursion (Fit h.kind) records → length records ≤ 19 → length (block_body h place records) ≡ 504
length_body h place records fit few =
    let j = length_records h.kind records fit in
    let z : length (blank records) ≡ 496 - 26 * length records = length-replicate (496 - 26 * length records) 0 in
    let e = length-append (flat_map record_bytes records) (blank records) in
    omega arith

pub length_block : (h : Header) (place : ℕ) (records : List Record) → AllByRecursion (Fit h.kind) records → length records ≤ 19 → length (block_bytes h place records) ≡ 512
unfolding block_bytes
length_block h place records fit few = length_with_check (block_body h place records) ∙ omega (arith, length_body h place records fit few)

sound_from : (first : Header) (place : ℕ) (last : Bool) (block : List ℕ) → check_holds block ≡ true → front_fits first place last block ≡ true →
    records_checked (get_or block 5 0) place 0 (pieces 26 (get_or block 6 0) (drop 8 block)) ≡ Ok tt → zeros_checked place (8 + 26 * get_or block 6 0) block ≡ Ok tt → block_checked first place last block ≡ Ok tt
unfolding block_checked
sound_from first place last block holds front records zeros = rw (holds, front, records, zeros)

holds_written : (h : Header) (place : ℕ) (records : List Record) → AllByRecursion (Fit h.kind) records → length records ≤ 19 → check_holds (block_bytes h place records) ≡ true
unfolding block_bytes
holds_written h place records fit few = check_read_back (block_body h place records) (length_body h place records fit few)

pub block_read_back : (h : Header) (place : ℕ) (last : Bool) (records : List Record) → header_fits h ≡ true → count_fits last (length records) ≡ true → length records ≤ 19 → AllByRecursion (Fit h.kind) records →
    (block_checked h place last (block_bytes h place records) ≡ Ok tt) × (block_records (block_bytes h place records) ≡ records)
block_read_back h place last records fits count few fit =
    let rest = blank records ++ check_of h place records in
    let is = block_laid h place records in
    let parts = parts_laid h.kind records rest fit in
    let front = ap (front_fits h place last) is ∙ front_laid h place last records rest fits count in
    let recs = ap (λ b. records_checked (get_or b 5 0) place 0 (pieces 26 (get_or b 6 0) (drop 8 b))) is ∙ ap (records_checked h.kind place 0) parts ∙ records_fit h.kind place 0 records fit in
    let zeros = ap (λ b. zeros_checked place (8 + 26 * get_or b 6 0) b) is ∙ zeros_laid h.kind h place records (check_of h place records) fit few in (
      sound_from h place last (block_bytes h place records) (holds_written h place records fit few) front recs zeros,
      ap block_records is ∙ ap (map record_of) parts ∙ records_same h.kind records fit,
    )
