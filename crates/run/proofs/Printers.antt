-- Bytes printed one piece after another. Assumes nothing.
use Rattle.std.proofs.Common.{◌≡◌, ℕ, ◌≤◌, List, [], ◌++◌, length, sym, refl, ap, ◌∙◌, arith, length-append}
use Rattle.numbers.specs.Buffers.{put}
use Rattle.numbers.proofs.Puts.{put_put, length_put}
use Rattle.run.specs.declared.lines.Printer.{Printer}
use Rattle.run.specs.Printers.{Fits, Prints}
use Rattle.run.specs.Runs.{Wrote}

module _ {p q : Printer} {xs : List ℕ} (done : Prints p xs q) (ys : List ℕ) (room : Fits p (xs ++ ys)) where
  -- there is room for what comes behind
  pub fits_behind : Fits q ys
  fits_behind =
      let both = length-append xs ys in
      let long : length q.out.now ≡ length p.out.now = ap length done.after ∙ length_put p.out.now xs p.at (omega arith) in
      omega (arith, done.next)

  pub prints_on : {r : Printer} → Prints q ys r → Prints p (xs ++ ys) r
  prints_on {r} more =
      let both = length-append xs ys in
      record {
        next = omega (arith, done.next, more.next);
        after = more.after ∙ ap (λ b. put b q.at ys) done.after ∙ put_put p.out.now xs ys p.at q.at done.next (omega (arith, done.next));
        lent = more.lent ∙ done.lent;
      }

-- for the first of two pieces there is room
pub fits_front : (p : Printer) (xs ys : List ℕ) → Fits p (xs ++ ys) → Fits p xs
fits_front p xs ys room = let both = length-append xs ys in omega arith

-- nothing, at a buffer's start
pub prints_none : (p : Printer) → p.at ≡ 0 → Prints p [] p
unfolding put
prints_none p start = record { next = omega arith; after = ap (λ k. put p.out.now k []) (sym start); lent = refl }

-- what is printed from a buffer's start on is written there
pub wrote_all : {p q : Printer} {bytes : List ℕ} → Prints p bytes q → p.at ≡ 0 → length bytes ≤ length p.out.now → Wrote p.out.now bytes q.at q.out.now
wrote_all {p} {q} {bytes} done start roomy = record { room = roomy; next = omega (arith, done.next); after = done.after ∙ ap (λ k. put p.out.now k bytes) start }

-- where there is room for four pieces, there is for those before
pub record Rooms (p : Printer) (a b c : List ℕ) : Type 0 where
  pub one : Fits p a
  pub two : Fits p (a ++ b)
  pub three : Fits p ((a ++ b) ++ c)

pub rooms : (p : Printer) (a b c d : List ℕ) → Fits p (((a ++ b) ++ c) ++ d) → Rooms p a b c
rooms p a b c d room =
    let three = fits_front p ((a ++ b) ++ c) d room in
    let two = fits_front p (a ++ b) c three in
    record { one = fits_front p a b two; two = two; three = three }
