-- Pieces of a list: one more of them, the piece in a place, and the list put together again. Assumes nothing.
use Rattle.std.proofs.Common.{◌≡◌, ℕ, zero, suc, ◌+◌, ◌-◌, ◌*◌, ◌<◌, ◌≤◌, List, [], ◌∷◌, ◌++◌, map, length, get_or, take, drop, sym, refl, ap, ◌∙◌, append_assoc, append-nil, arith, length-append, length-drop, length-take, take-add}
use Rattle.std.specs.List.{flat_map, AllByRecursion}
use Rattle.std.proofs.ByRecursion.{All-take, All-drop}
use Rattle.std.proofs.lemmas.List.{drop-drop, drop-take, take-take, take_all, take_at, drop_at}
use Rattle.blocks.specs.Pieces.{pieces}

-- the pieces from the i-th on, one step further
pub pieces_more : {X : Type 0} (width i n : ℕ) (xs : List X) → i < n →
    pieces width (n - i) (drop (width * i) xs) ≡ take width (drop (width * i) xs) ∷ pieces width (n - (i + 1)) (drop (width * (i + 1)) xs)
pieces_more width i n xs inside =
    let one : n - i ≡ suc (n - (i + 1)) = omega arith in
    let next : width * i + width ≡ width * (i + 1) = omega arith in
    ap (λ m. pieces width m (drop (width * i) xs)) one
    ∙ ap (λ l. take width (drop (width * i) xs) ∷ pieces width (n - (i + 1)) l) (drop-drop width (width * i) xs ∙ ap (λ m. drop m xs) next)

pub length_pieces : {X : Type 0} (width n : ℕ) (xs : List X) → length (pieces width n xs) ≡ n
length_pieces width zero xs = refl
length_pieces width (suc n) xs = ap suc (length_pieces width n (drop width xs))

-- the piece in place i
pub slice_index_or_pieces : {X : Type 0} (width i n : ℕ) (xs : List X) → i < n → get_or (pieces width n xs) i [] ≡ take width (drop (width * i) xs)
slice_index_or_pieces width i zero xs inside = absurd (omega arith)
slice_index_or_pieces width zero (suc n) xs inside = let none : 0 ≡ width * 0 = omega arith in ap (λ k. take width (drop k xs)) none
slice_index_or_pieces width (suc i) (suc n) xs inside =
    let place : width + width * i ≡ width * suc i = omega arith in
    slice_index_or_pieces width i n (drop width xs) (omega arith) ∙ ap (take width) (drop-drop (width * i) width xs ∙ ap (λ k. drop k xs) place)

pub joined_pieces : {X : Type 0} (width n : ℕ) (xs : List X) → flat_map (λ (p : List X). p) (pieces width n xs) ≡ take (width * n) xs
joined_pieces width zero xs = let none : 0 ≡ width * 0 = omega arith in ap (λ k. take k xs) none
joined_pieces width (suc n) xs =
    let long : width + width * n ≡ width * suc n = omega arith in
    ap (λ l. take width xs ++ l) (joined_pieces width n (drop width xs)) ∙ sym (take-add width (width * n) xs) ∙ ap (λ k. take k xs) long

-- what lies behind the pieces does not matter
pub pieces_take : {X : Type 0} (width n : ℕ) (xs : List X) → pieces width n (take (width * n) xs) ≡ pieces width n xs
pieces_take width zero xs = refl
pieces_take width (suc n) xs =
    let long : width * suc n ≡ width + width * n = omega arith in
    ap (λ k. pieces width (suc n) (take k xs)) long
    ∙ (λ i. take-take width (width + width * n) xs (omega arith) i ∷ pieces width n (drop-take width (width * n) xs i))
    ∙ ap (λ l. take width xs ∷ l) (pieces_take width n (drop width xs))

pub pieces_even : {X : Type 0} (width n : ℕ) (xs : List X) → width * n ≤ length xs → AllByRecursion (λ (p : List X). length p ≡ width) (pieces width n xs)
pieces_even width zero xs room = tt
pieces_even width (suc n) xs room =
    let long : width + width * n ≡ width * suc n = omega arith in
    (length-take width xs ∙ omega arith, pieces_even width n (drop width xs) (omega (arith, length-drop width xs)))

pub pieces_all : {X : Type 0} (P : X → Type 0) (width n : ℕ) (xs : List X) → AllByRecursion P xs → AllByRecursion (AllByRecursion P) (pieces width n xs)
pieces_all P width zero xs each = tt
pieces_all P width (suc n) xs each = (All-take P width xs each, pieces_all P width n (drop width xs) (All-drop P width xs each))

pub joined_map : {X Y : Type 0} (f : X → List Y) (xs : List X) → flat_map f xs ≡ flat_map (λ (ys : List Y). ys) (map f xs)
joined_map f [] = refl
joined_map f (x ∷ xs) = ap (λ l. f x ++ l) (joined_map f xs)

-- pieces of one length, with something behind them
pub even_joined : {X : Type 0} (width : ℕ) (ps : List (List X)) (rest : List X) → AllByRecursion (λ (p : List X). length p ≡ width) ps →
    pieces width (length ps) (flat_map (λ (p : List X). p) ps ++ rest) ≡ ps
even_joined width [] rest even = refl
even_joined width (p ∷ ps) rest even =
    let behind = flat_map (λ p. p) ps ++ rest in
    ap (pieces width (suc (length ps))) (append_assoc p (flat_map (λ p. p) ps) rest)
    ∙ (λ i. take_at p behind width even.0 i ∷ pieces width (length ps) (drop_at p behind width even.0 i))
    ∙ ap (λ l. p ∷ l) (even_joined width ps rest even.1)

pub length_even : {X : Type 0} (width : ℕ) (ps : List (List X)) → AllByRecursion (λ (p : List X). length p ≡ width) ps → length (flat_map (λ (p : List X). p) ps) ≡ width * length ps
length_even width [] even = omega arith
length_even width (p ∷ ps) even =
    let e = length-append p (flat_map (λ p. p) ps) in
    let i = length_even width ps even.1 in
    let long : width + width * length ps ≡ width * suc (length ps) = omega arith in
    omega (arith, even.0)

-- every piece but the last has the whole length, and the last has something
abbrev pub Full : {X : Type 0} → ℕ → List (List X) → Type 0
Full width [] = Unit {0}
Full width (p ∷ []) = (1 ≤ length p) × (length p ≤ width)
Full width (p ∷ q ∷ ps) = (length p ≡ width) × Full width (q ∷ ps)

pub pieces_full : {X : Type 0} (width n : ℕ) (xs : List X) → width * n < length xs → length xs ≤ width * suc n → Full width (pieces width (suc n) xs)
pieces_full width zero xs more room = let e = length-take width xs in (omega arith, omega arith)
pieces_full width (suc n) xs more room =
    let e = length-drop width xs in
    let less : width * n + width ≡ width * suc n = omega arith in
    (length-take width xs ∙ omega arith, pieces_full width n (drop width xs) (omega arith) (omega arith))

pub pieces_joined : {X : Type 0} (width : ℕ) (ps : List (List X)) → Full width ps → pieces width (length ps) (flat_map (λ (p : List X). p) ps) ≡ ps
pieces_joined width [] full = refl
pieces_joined width (p ∷ []) full = ap (λ l. l ∷ []) (ap (take width) (append-nil p) ∙ take_all width p full.1)
pieces_joined width (p ∷ q ∷ ps) full =
    let rest = flat_map (λ p. p) (q ∷ ps) in
    (λ i. take_at p rest width full.0 i ∷ pieces width (suc (length ps)) (drop_at p rest width full.0 i))
    ∙ ap (λ l. p ∷ l) (pieces_joined width (q ∷ ps) full.1)

-- how long the list is that full pieces make
pub record Spans (width n long : ℕ) : Type 0 where
  pub more : width * n < long
  pub room : long ≤ width * suc n

pub joined_spans : {X : Type 0} (width : ℕ) (p : List X) (ps : List (List X)) → Full width (p ∷ ps) → Spans width (length ps) (length (flat_map (λ (p : List X). p) (p ∷ ps)))
joined_spans width p [] full = let e = length-append p [] in record { more = omega arith; room = omega arith }
joined_spans width p (q ∷ ps) full =
    let e = length-append p (flat_map (λ p. p) (q ∷ ps)) in
    let rest = joined_spans width q ps full.1 in
    let a : width * length ps + width ≡ width * suc (length ps) = omega arith in
    let b : width * suc (length ps) + width ≡ width * suc (suc (length ps)) = omega arith in
    record { more = omega (arith, full.0); room = omega (arith, full.0) }
