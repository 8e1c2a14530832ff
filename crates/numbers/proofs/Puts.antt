-- Bytes put into a buffer, one piece after another. Assumes nothing.
use Rattle.std.proofs.Common.{◌≡◌, ℕ, zero, suc, ◌+◌, ◌-◌, ◌/◌, ◌<◌, ◌≤◌, List, [], ◌∷◌, ◌++◌, length, take, drop, set, sym, refl, ap, ◌∙◌, append_assoc, add-one, arith, length-append, length-drop}
use borrow.Rule.Slice.PartMut.{put_mid}
use Rattle.std.proofs.lemmas.List.{set_split, drop-drop, drop_at, take_at, length-take-le}
use Rattle.numbers.specs.Buffers.{put}
use Rattle.numbers.specs.LittleEndian.{bytes_of}

-- one byte
pub put_byte : (buffer : List ℕ) (place byte : ℕ) → place < length buffer → set buffer place byte ≡ put buffer place (byte ∷ [])
unfolding put
put_byte buffer place byte h = set_split buffer place byte h ∙ ap (λ k. take place buffer ++ (byte ∷ drop k buffer)) (sym (add-one place))

-- what a write of `width` bytes to a part of the buffer leaves
pub put_part : (buffer part bytes : List ℕ) (place width : ℕ) → part ≡ bytes → width ≡ length bytes → put_mid place width buffer part ≡ put buffer place bytes
unfolding put
put_part buffer part bytes place width is long =
    ap (λ p. take place buffer ++ (p ++ drop width (drop place buffer))) is
    ∙ ap (λ t. take place buffer ++ (bytes ++ t)) (drop-drop width place buffer)
    ∙ ap (λ w. take place buffer ++ (bytes ++ drop (place + w) buffer)) long

pub length_bytes_of : (width n : ℕ) → length (bytes_of width n) ≡ width
length_bytes_of zero n = refl
length_bytes_of (suc width) n = ap suc (length_bytes_of width (n / 256))

-- what a write to the part from a place on leaves
pub put_span : (buffer part bytes : List ℕ) (place width : ℕ) → part ≡ bytes → width ≡ length bytes → put_mid place (place + width - place) buffer part ≡ put buffer place bytes
put_span buffer part bytes place width is long = put_part buffer part bytes place (place + width - place) is (omega arith)

-- one piece, and another behind it
pub put_put : (buffer xs ys : List ℕ) (place next : ℕ) → next ≡ place + length xs → next + length ys ≤ length buffer →
    put (put buffer place xs) next ys ≡ put buffer place (xs ++ ys)
unfolding put
put_put buffer xs ys place next is room =
    let front = take place buffer in
    let written = front ++ (xs ++ drop (place + length xs) buffer) in
    let long : length (front ++ xs) ≡ next = length-append front xs ∙ ap (λ k. k + length xs) (length-take-le place buffer (omega arith)) ∙ sym is in
    let before : take next written ≡ front ++ xs = ap (take next) (sym (append_assoc front xs _)) ∙ take_at (front ++ xs) _ next long in
    let rest : drop next written ≡ drop (place + length xs) buffer = ap (drop next) (sym (append_assoc front xs _)) ∙ drop_at (front ++ xs) _ next long in
    let behind : drop (next + length ys) written ≡ drop (place + length (xs ++ ys)) buffer =
    sym (drop-drop (length ys) next _) ∙ ap (drop (length ys)) rest ∙ drop-drop (length ys) (place + length xs) buffer
    ∙ ap (λ k. drop k buffer) (let a = length-append xs ys in omega arith) in
    (λ i. before i ++ (ys ++ behind i))
    ∙ append_assoc front xs (ys ++ drop (place + length (xs ++ ys)) buffer)
    ∙ ap (λ l. front ++ l) (sym (append_assoc xs ys (drop (place + length (xs ++ ys)) buffer)))

-- no bytes, put at the start
pub put_none : (buffer : List ℕ) → buffer ≡ put buffer 0 []
unfolding put
put_none buffer = refl

pub length_put : (buffer bytes : List ℕ) (place : ℕ) → place + length bytes ≤ length buffer → length (put buffer place bytes) ≡ length buffer
unfolding put
length_put buffer bytes place room = simp (length-append, length-drop) (omega (arith, length-take-le place buffer (omega arith)))
