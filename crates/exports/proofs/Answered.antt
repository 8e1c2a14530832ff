-- The calls of a row, one after another. Assumes nothing.
use Rattle.std.proofs.Common.{◌≡◌, ℕ, ◌+◌, ◌-◌, ◌*◌, ◌<◌, List, [], ◌∷◌, ◌++◌, map, length, take, drop, set, sym, refl, ap, ◌∙◌, append_assoc, append-nil, arith, length-append}
use Rattle.numbers.specs.Buffers.{put}
use Rattle.numbers.proofs.Puts.{put_byte, put_put}
use Rattle.numbers.proofs.Puts.{put_none}
use Rattle.blocks.proofs.Pieces.{pieces_more}
use Rattle.tallies.specs.declared.replicas.Replicas.{Replicas}
use Rattle.tallies.specs.Replicas.{replicas_kind}
use Rattle.rules.specs.Rules.{plain_rule}
use Rattle.book.specs.Books.{Book, Call, blank, after}
use Rattle.book.specs.Answers.{Answer, answer_number}
use Rattle.seats.specs.Shapes.{Size}
use Rattle.table.specs.declared.table.Table.{Table}
use Rattle.table.specs.Tables.{Keeps, Did}
use Rattle.exports.specs.Calls.{piece_asks, row_of, told}

-- i of n calls are made; what is noted of them, with the numbers of the calls to come on the book that the table keeps, is all
pub record Going (all before : List ℕ) (t : Table Replicas) (bytes : List ℕ) (n : ℕ) (numbers : List ℕ) (i : ℕ) : Type 0 where
  pub book : Book Replicas
  pub keeps : Keeps replicas_kind t book
  pub so_far : List ℕ
  pub whole : so_far ++ told book (row_of (n - i) (drop (5 * i) bytes)) ≡ all
  pub written : numbers ≡ put before 0 so_far
  pub long : i ≡ length so_far

pub going_first : (t : Table Replicas) (z : Size) (bytes : List ℕ) (n : ℕ) (numbers : List ℕ) → Keeps replicas_kind t (blank z) →
    Going (told (blank z) (row_of n bytes)) numbers t bytes n numbers 0
going_first t z bytes n numbers keeps = record {
  book = blank z;
  keeps = keeps;
  so_far = [];
  whole = let all : n - 0 ≡ n = omega arith in ap (λ m. told (blank z) (row_of m bytes)) all;
  written = put_none numbers;
  long = refl;
}

pub going_on : {all before : List ℕ} {t : Table Replicas} {bytes : List ℕ} {n : ℕ} {numbers : List ℕ} {i : ℕ} → Going all before t bytes n numbers i →
    (c : Call Replicas) (a : Answer Replicas) (u : Table Replicas) (numbers' : List ℕ) (number : ℕ) → i < n → i < length before → length before ≡ length numbers →
    c ≡ piece_asks (take 5 (drop (5 * i) bytes)) → Did replicas_kind plain_rule t c a u → number ≡ answer_number a → numbers' ≡ set numbers i number →
    Going all before u bytes n numbers' (i + 1)
going_on {all} {before} {t} {bytes} {n} {numbers} {i} going c a u numbers' number inside room same is did told-so wrote =
    let b = going.book in
    let piece = take 5 (drop (5 * i) bytes) in
    let rest = row_of (n - (i + 1)) (drop (5 * (i + 1)) bytes) in
    let number_is : answer_number a ≡ number = sym told-so in
    let says = did.answers b going.keeps in
    let long = going.long in
    let step : told b (row_of (n - i) (drop (5 * i) bytes)) ≡ number ∷ told (after replicas_kind plain_rule b c) rest =
    ap (λ ps. told b (map piece_asks ps)) (pieces_more 5 i n bytes inside)
    ∙ ap (λ x. told b (x ∷ rest)) (sym is)
    ∙ ap (λ x. x ∷ told (after replicas_kind plain_rule b c) rest) (ap answer_number (sym says) ∙ number_is) in
    record {
      book = after replicas_kind plain_rule b c;
      keeps = did.keeps b going.keeps;
      so_far = going.so_far ++ number ∷ [];
      whole = append_assoc going.so_far (number ∷ []) _ ∙ ap (λ x. going.so_far ++ x) (sym step) ∙ going.whole;
      written =
          wrote ∙ put_byte numbers i number (omega arith) ∙ ap (λ x. put x i (number ∷ [])) going.written
          ∙ put_put before going.so_far (number ∷ []) 0 i (omega arith) (omega arith);
      long = simp length-append (omega arith);
    }

-- all calls are made
pub gone : {all before : List ℕ} {t : Table Replicas} {bytes : List ℕ} {n : ℕ} {numbers : List ℕ} {i : ℕ} → Going all before t bytes n numbers i → i ≡ n → numbers ≡ put before 0 all
gone {all} {before} {t} {bytes} {n} {numbers} {i} going done =
    let none : n - i ≡ 0 = omega arith in
    let is : going.so_far ≡ all =
    sym (append-nil going.so_far) ∙ ap (λ m. going.so_far ++ told going.book (row_of m (drop (5 * i) bytes))) (sym none) ∙ going.whole in
    going.written ∙ ap (put before 0) is
