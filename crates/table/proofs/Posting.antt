-- Posting to a held fingerprint and to a new one. Assumes nothing.
use Rattle.std.proofs.Common.{◌≡◌, ℕ, ◌+◌, ◌-◌, ◌*◌, ◌<◌, ◌≤◌, min, Bool, true, false, cond, not, ◌||◌, eqb, ltb, ◌⊎◌, List, length, set, is_some, Some, None, Ok, Err, Option, sym, refl, ap, ◌∙◌, subst, ⊎_elim, arith}
use mathlib.Core.Path.{fun_ext}
use Rattle.std.proofs.lemmas.Nat.{mul-le}
use Rattle.std.proofs.lemmas.Bool.{le-ltb, eq-eqb, true≢false}
use Rattle.std.proofs.lemmas.Option.{none-some, same_Some}
use Rattle.tallies.specs.Kinds.{Kind, Lawful}
use Rattle.rules.specs.Rules.{Meaning}
use Rattle.seatings.specs.Seatings.{Seating, also, seatable}
use Rattle.seatings.proofs.Decided.{seatable_decides, unseatable}
use Rattle.seats.specs.declared.refusal.Refusal.{Refusal}
use Rattle.seats.specs.declared.refusal.Refusal.TheVariants.{Seats, Words, LongKey, NoAmount, Ceiling, NoSeating}
use Rattle.seats.specs.Shapes.{Size, size}
use Rattle.seats.specs.Seats.{at, seat, held, changed}
use Rattle.seats.proofs.Sitting.{shape_sound}
use Rattle.seats.proofs.Seated.{shows_seating}
use Rattle.moves.specs.Opening.{Unseatable}
use Rattle.moves.specs.Placed.{Accepted, bar}
use Rattle.book.specs.declared.answer.Outcome.TheVariants.{Tallied}
use Rattle.book.specs.Books.{Book, Turn, post, fingerprint, too_few, too_long, has_room, check, turn, turned_away, gets, joined, posted}
use Rattle.table.specs.declared.table.Table.{Table}
use Rattle.table.specs.Tables.{Keeps, Did}
use Rattle.table.specs.Seated.{Keyed, SitsIn}
use Rattle.table.proofs.Counted.{as_many, one_more, holding_few}
use Rattle.table.proofs.Reading.{Reads, passed, reads_some, same_fingerprint, same_entry, unmoved}
use Rattle.table.proofs.Changing.{did_change, keeps_same}
use Rattle.table.proofs.Reversing.{retallies, low}

-- a table that keeps a book is not barred from placing an amount
pub unbarred : {V : Type 0} (k : Kind V) → Lawful k → (t : Table V) (b : Book V) (amount : V) (words : ℕ) → Keeps k t b → 2 * t.shape.buckets ≤ words → k.is_amount amount ≡ true →
    bar k t.seats.now (size t.shape) amount words ≡ None
unbarred k lawful t b amount words keeps enough real =
    ap (λ x. cond (not x) (Some Seats) (cond (ltb words (2 * t.shape.buckets)) (Some Words) (cond (k.is_empty amount) (Some NoAmount) None))) (eq-eqb _ _ (sym keeps.room))
    ∙ ap (λ x. cond x (Some Words) (cond (k.is_empty amount) (Some NoAmount) None)) (le-ltb words (2 * t.shape.buckets) enough)
    ∙ ap (λ x. cond x (Some NoAmount) None) (filled (k.is_empty amount) refl)
  where
    filled : (x : Bool) → k.is_empty amount ≡ x → x ≡ false
    filled true is = absurd (true≢false (sym real ∙ ap k.is_amount ((lawful.empty_told amount).0 is) ∙ lawful.empty_is_no_amount))
    filled false is = refl

-- no table holds so many that one more cannot be counted
held_few : {V : Type 0} (k : Kind V) (t : Table V) (b : Book V) → Keeps k t b → t.held + 1 ≤ 4294967295
held_few k t b keeps =
    let m = t.shape.buckets in
    let range : b.size.range ≡ m * (m - 1) = ap (λ (z : Size). z.range) keeps.sized in
    let most : m * (m - 1) ≤ 4096 * 4096 = mul-le m (m - 1) 4096 4096 (omega arith) (omega arith) in
    omega (arith, keeps.counted, holding_few b)

-- what is held with f held too
held_also : {X : Type 0} (entries : ℕ → Option X) (f : ℕ) (v : X) → held (changed entries f (Some v)) ≡ also f (held entries)
held_also entries f v = fun_ext (λ g. by (eqb g f) (entries g))
  where
    by : (here : Bool) (o : Option _) → is_some (cond here (Some v) o) ≡ (here || is_some o)
    by true o = refl
    by false o = refl

module _ {V : Type 0} (k : Kind V) {rule : Meaning} {t : Table V} {key : List ℕ} {f : ℕ} (keyed : Keyed rule t key f) (amount : V) (words : ℕ)
    (enough : 2 * t.shape.buckets ≤ words) (real : k.is_amount amount ≡ true) where
  -- the checks before have passed
  posting : (b : Book V) (o : Option V) → Reads k t f o → Keeps k t b → turn k rule b (post key amount words) ≡ posted k b f amount o
  posting b o reads keeps =
      let buckets = ap (λ (z : Size). z.buckets) keeps.sized in
      passed b (too_few b words) Words _ (le-ltb words (2 * b.size.buckets) (omega arith))
      ∙ passed b (too_long key) LongKey _ keyed.short
      ∙ ap (λ x. check b (not x) NoAmount (posted k b (fingerprint rule b key) amount (b.entries (fingerprint rule b key)))) real
      ∙ ap (posted k b (fingerprint rule b key) amount) (same_entry k keyed b o reads keeps)
      ∙ ap (λ n. posted k b n amount o) (same_fingerprint k keyed b keeps)

  pub posted_over : (v : V) → Reads k t f (Some v) → k.join v amount ≡ None → Did k rule t (post key amount words) (Err Ceiling) t
  posted_over v reads over = unmoved k rule t (post key amount words) (Err Ceiling) (λ b keeps. posting b (Some v) reads keeps ∙ ap (joined b f) over)

  pub posted_more : Lawful k → (u : Table V) (i : ℕ) (v w : V) → SitsIn k t f i → v ≡ (at k.empty t.seats.now i).tally → k.join v amount ≡ Some w →
      u.seats.now ≡ set t.seats.now i (seat (at k.empty t.seats.now i).carry (at k.empty t.seats.now i).flag w) → u.shape ≡ t.shape → u.held ≡ t.held → u.seats.ghost_name ≡ t.seats.ghost_name →
      Did k rule t (post key amount words) (Ok (Tallied w)) u
  posted_more lawful u i v w sits got join seats shape same lent =
      let reads = reads_some k t f i v sits got in
      did_change k t u f (Some w) rule (post key amount words) (Tallied w) lent
      (λ b keeps.
      let held_v = reads b.entries keeps.shows in
      let value = keeps.values f v held_v in
      record {
        changes = retallies k t u f i sits shape w (lawful.joined_is_never_empty v amount w value real join) seats;
        turns = posting b (Some v) reads keeps ∙ ap (joined b f) join;
        value = λ x is. ap k.is_value (sym (same_Some w x is)) ∙ lawful.joined_is_value v amount w value real join;
        count = same ∙ keeps.counted ∙ sym (as_many b f (low k t u f i sits shape b keeps) v w held_v);
      })

  -- the fingerprint is new
  module _ (reads : Reads k t f None) where
    room_is : (b : Book V) → Keeps k t b → has_room b f ≡ seatable t.shape.buckets t.shape.rows (size t.shape).range (also f (held b.entries))
    room_is b keeps = ap (λ (z : Size). seatable z.buckets z.rows z.range (also f (held b.entries))) keeps.sized

    by_room : (b : Book V) (room : Bool) → has_room b f ≡ room → Keeps k t b → turn k rule b (post key amount words) ≡ check b (not room) NoSeating (gets b f amount)
    by_room b room is keeps = posting b None reads keeps ∙ ap (λ x. check b (not x) NoSeating (gets b f amount)) is

    pub posted_new : Lawful k → (u : Table V) → Accepted k.empty t.seats.now u.seats.now (size t.shape) f amount → length u.seats.now ≡ length t.seats.now →
        u.shape ≡ t.shape → u.held ≡ min (t.held + 1) 4294967295 → u.seats.ghost_name ≡ t.seats.ghost_name → Did k rule t (post key amount words) (Ok (Tallied amount)) u
    posted_new lawful u accepted long shape more lent =
        did_change k t u f (Some amount) rule (post key amount words) (Tallied amount) lent
        (λ b keeps.
        let z = size t.shape in
        let new : b.entries f ≡ None = reads b.entries keeps.shows in
        let shows = accepted.shows b.entries keeps.shows new in
        let seating : Seating z.buckets z.rows z.range (also f (held b.entries)) =
        subst (Seating z.buckets z.rows z.range) (held_also b.entries f amount) (shows_seating k.empty (shape_sound t.shape) u.seats.now (changed b.entries f (Some amount)) shows) in
        let room = (seatable_decides z.buckets z.rows z.range (also f (held b.entries))).1 seating in
        let below = subst (λ (y : Size). f < y.range) (sym keeps.sized) accepted.below in
        record {
          changes = record { shape = shape; long = long; writes = λ entries shown. accepted.shows entries shown (reads entries shown); past = accepted.beyond };
          turns = by_room b true (room_is b keeps ∙ room) keeps;
          value = λ x is. ap k.is_value (sym (same_Some amount x is)) ∙ lawful.amounts_are_values amount real;
          count = let few = held_few k t b keeps in let one = one_more b f below amount new in omega (arith, keeps.counted);
        })

    pub posted_full : (u : Table V) (why : Refusal) → u.seats.now ≡ t.seats.now → u.shape ≡ t.shape → u.held ≡ t.held → u.seats.ghost_name ≡ t.seats.ghost_name →
        Lawful k → (bar k t.seats.now (size t.shape) amount words ≡ Some why) ⊎ ((bar k t.seats.now (size t.shape) amount words ≡ None) × (why ≡ NoSeating) × Unseatable k.empty t.seats.now (size t.shape) f) →
        Did k rule t (post key amount words) (Err why) u
    posted_full u why seats shape same lent lawful reason =
        let full : (b : Book V) → Keeps k t b → (why ≡ NoSeating) × Unseatable k.empty t.seats.now (size t.shape) f = λ b keeps.
        ⊎_elim (λ is. absurd (none-some why (sym (unbarred k lawful t b amount words keeps enough real) ∙ is))) (λ h. (h.1, h.2)) reason in
        let turns : (b : Book V) → Keeps k t b → turn k rule b (post key amount words) ≡ turned_away b why = λ b keeps.
        let z = size t.shape in
        let (is, none) = full b keeps in
        by_room b false (room_is b keeps ∙ unseatable z.buckets z.rows z.range (also f (held b.entries)) (none keyed.below b.entries keeps.shows (reads b.entries keeps.shows))) keeps
        ∙ ap (turned_away b) (sym is) in
        record {
          answers = λ b keeps. sym (ap (λ (x : Turn V). x.answer) (turns b keeps));
          keeps = λ b keeps. subst (λ (x : Turn V). Keeps k u x.book) (sym (turns b keeps)) (keeps_same k t u seats shape same b keeps);
          still = λ _ _ _. seats;
          lent = lent;
        }
