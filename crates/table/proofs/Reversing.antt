-- Erasing and reversing. Assumes nothing.
use Rattle.std.proofs.Common.{◌≡◌, ℕ, ◌+◌, ◌*◌, ◌<◌, Bool, true, false, cond, not, List, length, set, Some, None, Ok, Err, Option, sym, ap, ◌∙◌, subst, arith}
use Rattle.std.proofs.lemmas.Bool.{true≢false}
use Rattle.std.proofs.lemmas.List.{length-set}
use Rattle.std.proofs.lemmas.Option.{none-some, same_Some}
use Rattle.tallies.specs.Kinds.{Kind, Lawful}
use Rattle.rules.specs.Rules.{Meaning}
use Rattle.seats.specs.declared.refusal.Refusal.TheVariants.{LongKey, NoAmount, NotHeld}
use Rattle.seats.specs.Shapes.{Size, size}
use Rattle.seats.specs.Seats.{Shows, at, seat, vacant, changed}
use Rattle.seats.proofs.Sitting.{shape_sound}
use Rattle.book.specs.declared.answer.Outcome.TheVariants.{Tallied, Held}
use Rattle.book.specs.Books.{Book, erase, reverse, enter, fingerprint, too_long, check, turn, erased, reversed, taken_back}
use Rattle.table.specs.declared.table.Table.{Table}
use Rattle.table.specs.Tables.{Keeps, Did}
use Rattle.table.specs.Seated.{Keyed, SitsIn, TakenOut}
use Rattle.table.proofs.Counted.{one_fewer, as_many}
use Rattle.table.proofs.Reading.{Reads, passed, reads_some, sits_inside, same_fingerprint, same_entry, unmoved}
use Rattle.table.proofs.Changing.{Changes, did_change, past_rows, vacated, retallied}

-- the seat i of t, which f sits in, is written
module _ {V : Type 0} (k : Kind V) (t u : Table V) (f i : ℕ) (sits : SitsIn k t f i) (shape : u.shape ≡ t.shape) where
  pub empties : u.seats.now ≡ set t.seats.now i (vacant k.empty) → Changes k t u f None
  empties is =
      let e = k.empty in
      let xs = t.seats.now in
      let inside = sits_inside k t f i sits in
      record {
        shape = shape;
        long = ap length is ∙ length-set xs i (vacant e);
        writes = λ entries shows. subst (λ ys. Shows e ys (size t.shape) (changed entries f None)) (sym is) (vacated e (shape_sound t.shape) xs f i sits inside entries shows);
        past = λ bucket row _ far low. ap (λ ys. at e ys (bucket * t.shape.most + row)) is ∙ past_rows e (shape_sound t.shape) xs f i sits inside (vacant e) bucket row far low;
      }

  pub retallies : (w : V) → (w ≡ k.empty → ⊥) → u.seats.now ≡ set t.seats.now i (seat (at k.empty t.seats.now i).carry (at k.empty t.seats.now i).flag w) → Changes k t u f (Some w)
  retallies w some is =
      let e = k.empty in
      let xs = t.seats.now in
      let inside = sits_inside k t f i sits in
      let s = seat (at e xs i).carry (at e xs i).flag w in
      record {
        shape = shape;
        long = ap length is ∙ length-set xs i s;
        writes = λ entries shows. subst (λ ys. Shows e ys (size t.shape) (changed entries f (Some w))) (sym is) (retallied e (shape_sound t.shape) xs f i sits inside entries shows w some);
        past = λ bucket row _ far low. ap (λ ys. at e ys (bucket * t.shape.most + row)) is ∙ past_rows e (shape_sound t.shape) xs f i sits inside s bucket row far low;
      }

  -- a fingerprint that sits somewhere is below the book's range
  pub low : (b : Book V) → Keeps k t b → f < b.size.range
  low b keeps = subst (λ (z : Size). f < z.range) (sym keeps.sized) sits.below

module _ {V : Type 0} (k : Kind V) {rule : Meaning} {t : Table V} {key : List ℕ} {f : ℕ} (keyed : Keyed rule t key f) where
  pub erased_none : Reads k t f None → Did k rule t (erase key) (Err NotHeld) t
  erased_none reads =
      unmoved k rule t (erase key) (Err NotHeld)
      (λ b keeps. passed b (too_long key) LongKey _ keyed.short ∙ ap (erased b (fingerprint rule b key)) (same_entry k keyed b None reads keeps))

  pub erased_some : (u : Table V) (i : ℕ) (v : V) → SitsIn k t f i → v ≡ (at k.empty t.seats.now i).tally → TakenOut k t i u → Did k rule t (erase key) (Ok (Tallied v)) u
  erased_some u i v sits got out =
      let reads = reads_some k t f i v sits got in
      did_change k t u f None rule (erase key) (Tallied v) out.lent
      (λ b keeps. record {
        changes = empties k t u f i sits out.shape out.seats;
        turns =
            passed b (too_long key) LongKey _ keyed.short
            ∙ ap (erased b (fingerprint rule b key)) (same_entry k keyed b (Some v) reads keeps)
            ∙ ap (λ n. record { answer = Ok (Tallied v); book = enter b n None }) (same_fingerprint k keyed b keeps);
        value = λ w is. absurd (none-some w is);
        count = let one = one_fewer b f (low k t u f i sits out.shape b keeps) v (reads b.entries keeps.shows) in let fewer = out.fewer in omega (arith, keeps.counted);
      })

  module _ (amount : V) (real : k.is_amount amount ≡ true) where
    reversal : (b : Book V) (o : Option V) → Reads k t f o → Keeps k t b → turn k rule b (reverse key amount) ≡ reversed k b f amount o
    reversal b o reads keeps =
        passed b (too_long key) LongKey _ keyed.short
        ∙ ap (λ x. check b (not x) NoAmount (reversed k b (fingerprint rule b key) amount (b.entries (fingerprint rule b key)))) real
        ∙ ap (reversed k b (fingerprint rule b key) amount) (same_entry k keyed b o reads keeps)
        ∙ ap (λ n. reversed k b n amount o) (same_fingerprint k keyed b keeps)

    pub reversed_none : Reads k t f None → Did k rule t (reverse key amount) (Err NotHeld) t
    reversed_none reads = unmoved k rule t (reverse key amount) (Err NotHeld) (λ b keeps. reversal b None reads keeps)

    -- what is taken back leaves w
    module _ (u : Table V) (i : ℕ) (v w : V) (sits : SitsIn k t f i) (got : v ≡ (at k.empty t.seats.now i).tally) (back : k.take_back v amount ≡ Some w) where
      reads : Reads k t f (Some v)
      reads = reads_some k t f i v sits got

      leaves : (b : Book V) (gone : Bool) → k.is_empty w ≡ gone → Keeps k t b →
          turn k rule b (reverse key amount) ≡ cond gone (record { answer = Ok (Held None); book = enter b f None }) (record { answer = Ok (Held (Some w)); book = enter b f (Some w) })
      leaves b gone is keeps =
          reversal b (Some v) reads keeps ∙ ap (taken_back k b f) back
          ∙ ap (λ x. cond x (record { answer = Ok (Held None); book = enter b f None }) (record { answer = Ok (Held (Some w)); book = enter b f (Some w) })) is

      pub reversed_all : k.is_empty w ≡ true → TakenOut k t i u → Did k rule t (reverse key amount) (Ok (Held None)) u
      reversed_all gone out =
          did_change k t u f None rule (reverse key amount) (Held None) out.lent
          (λ b keeps. record {
            changes = empties k t u f i sits out.shape out.seats;
            turns = leaves b true gone keeps;
            value = λ x is. absurd (none-some x is);
            count = let one = one_fewer b f (low k t u f i sits out.shape b keeps) v (reads b.entries keeps.shows) in let fewer = out.fewer in omega (arith, keeps.counted);
          })

      pub reversed_part : Lawful k → k.is_empty w ≡ false → u.seats.now ≡ set t.seats.now i (seat (at k.empty t.seats.now i).carry (at k.empty t.seats.now i).flag w) →
          u.shape ≡ t.shape → u.held ≡ t.held → u.seats.ghost_name ≡ t.seats.ghost_name → Did k rule t (reverse key amount) (Ok (Held (Some w))) u
      reversed_part lawful stays seats shape same lent =
          let some : w ≡ k.empty → ⊥ = λ is. true≢false (sym ((lawful.empty_told w).1 is) ∙ stays) in
          did_change k t u f (Some w) rule (reverse key amount) (Held (Some w)) lent
          (λ b keeps. record {
            changes = retallies k t u f i sits shape w some seats;
            turns = leaves b false stays keeps;
            value = λ x is.
                let was = keeps.values f v (reads b.entries keeps.shows) in
                ap k.is_value (sym (same_Some w x is)) ∙ (lawful.taken_back_joins v w amount was real back).0;
            count = same ∙ keeps.counted ∙ sym (as_many b f (low k t u f i sits shape b keeps) v w (reads b.entries keeps.shows));
          })
