use Rattle.std.proofs.Common.{◌≡◌, ℕ, ◌+◌, ◌*◌, ◌/◌, ◌<◌, ◌≤◌, true, List, [], ◌∷◌, length, get_or, drop, is_ok, Some, Option, sym, refl, ap, ◌∙◌, subst, arith, length-drop, length-take}
use Rattle.std.specs.Option.{MatchOption}
use Rattle.std.specs.Iterator.{MakesProgress, YieldsFirst, item_count}
use Rattle.blocks.specs.Blocks.{blocks_in}
use Rattle.blocks.specs.Pieces.{pieces}
use Rattle.blocks.proofs.Pieces.{slice_index_or_pieces, length_pieces}
use Rattle.paper.specs.Records.{named_record, record_of}
use Rattle.paper.specs.Checks.{paper_checked}
use Rattle.paper.specs.Walking.{records_left}
use Rattle.paper.specs.declared.«record».Record.{Record}
use Rattle.paper.proofs.Parts.{part_at}
use Rattle.paper.proofs.Sound.{Told, sound_counted}
use Rattle.paper.proofs.ToCome.{come_none, come_inside, come_last, part_is, room_parts}
use Rattle.paper.proofs.reader.walk.ReaderIterator.next.Goals as goal
use Rattle.paper.proofs.reader.walk.ReaderIterator.next.Goals.{In_ok-block}

-- what is known where the cursor stands on a record of a block
record Here (paper : List ℕ) (j i : ℕ) (block : List ℕ) : Type 0 where
  short : length paper ≤ 51200
  low : j < length paper / 512
  long : length block ≡ 512
  is : get_or (blocks_in paper) j [] ≡ block
  told : Told block
  count : get_or block 6 0 ≡ get_or paper (512 * j + 6) 0
  within : i < get_or block 6 0

here : (paper : List ℕ) (blocks : List (List ℕ)) (j i : ℕ) (block : List ℕ) → is_ok (paper_checked paper) ≡ true → blocks ≡ blocks_in paper → j < length blocks → block ≡ get_or blocks j [] →
    (j < length paper / 512 → i < get_or paper (512 * j + 6) 0) → Here paper j i block
here paper blocks j i block sound all inside stands within =
    let k = sound_counted paper j sound in
    let n = length_pieces 512 (length paper / 512) paper in
    let as_many : length blocks ≡ length (blocks_in paper) = ap length all in
    let low : j < length paper / 512 = omega arith in
    let is : get_or (blocks_in paper) j [] ≡ block = sym (stands ∙ ap (λ bs. get_or bs j []) all) in
    let cut = sym is ∙ slice_index_or_pieces 512 j (length paper / 512) paper low in
    let counted = k.count low in
    let w = within low in
    let same : get_or (get_or (blocks_in paper) j []) 6 0 ≡ get_or block 6 0 = ap (λ b. get_or b 6 0) is in
    record {
      short = k.short;
      low = low;
      long = ap length cut ∙ simp (length-take, length-drop) (omega arith);
      is = is;
      told = subst Told is (k.told low);
      count = omega arith;
      within = omega arith;
    }

standing : (c : In_ok-block) → Here c.args.self.now.paper.now c.args.self.now.block c.args.self.now.«record» c.in_ok-block.block.now
standing c =
    let s = c.args.self.now in
    let block = c.in_ok-block.ensures.lookup.3 in
    here s.paper.now _ s.block s.«record» c.in_ok-block.block.now s.sound c.as_chunks.ensures.front block.0 (block.1 []) s.within

-- what is read there
read_here : (paper : List ℕ) (j i : ℕ) (block part : List ℕ) (parts : List (List ℕ)) → Here paper j i block → part ≡ get_or parts i [] → get_or parts i [] ≡ get_or (pieces 26 (get_or block 6 0) (drop 8 block)) i [] →
    named_record part ≡ Some (record_of (get_or (pieces 26 (get_or block 6 0) (drop 8 block)) i []))
read_here paper j i block part parts h is same =
    let n = length_pieces 26 (get_or block 6 0) (drop 8 block) in
    let w = h.within in
    ap named_record (is ∙ same) ∙ part_at _ h.told.place 0 (pieces 26 (get_or block 6 0) (drop 8 block)) h.told.records i (omega arith)

-- a call that gave the first of what was left, and left the others
steps : {A : Type 0} (before after : List A) (found : Option A) (x : A) → found ≡ Some x → before ≡ x ∷ after → MatchOption found ((before ≡ []) × (after ≡ [])) (λ y. before ≡ y ∷ after)
steps before after found x is first = subst (λ o. MatchOption o ((before ≡ []) × (after ≡ [])) (λ y. before ≡ y ∷ after)) (sym is) first

goes : {S A : Type 0} (can : S → Type 0) (rest : S → List A) (s t : S) (found : Option A) (x : A) → can t → found ≡ Some x → rest s ≡ x ∷ rest t → MakesProgress can (item_count rest) s found t
goes can rest s t found x may is first =
    subst (λ o. MakesProgress can (item_count rest) s o t) (sym is) (record { on = λ ends. (may, tt, omega (arith, ap length first)); keeps = may; rests = λ ends. tt })

pub returns-in_err-block-clause-steps : goal.returns-in_err-block-clause-steps
returns-in_err-block-clause-steps c =
    let s = c.args.self.now in
    let many : length c.as_chunks.result.0.now ≤ s.block = c.in_err-block.ensures.lookup.3 in
    let long = length_pieces 512 (length s.paper.now / 512) s.paper.now in
    let all : length c.as_chunks.result.0.now ≡ length (blocks_in s.paper.now) = ap length c.as_chunks.ensures.front in
    let none = come_none s.paper.now s.block s.«record» (omega arith) in
    subst (λ (o : Option Record). YieldsFirst records_left s o s) (sym c.from_residual.ensures) (none, none)

pub offset_bounds-parts-self : goal.offset_bounds-parts-self
offset_bounds-parts-self c =
    let h = standing (goal.at.offset_bounds-parts-self c).In_ok-block in
    let few = h.told.few in
    let within = h.within in
    omega arith

pub bounds-parts-self : goal.bounds-parts-self
bounds-parts-self c =
    let h = standing (goal.at.bounds-parts-self c).In_ok-block in
    let few = h.told.few in
    let within = h.within in
    let long = c.as_chunks-2.ensures.front_len ∙ room_parts c.in_ok-block.block.now h.long in
    omega arith

pub overflow_add-self : goal.overflow_add-self
overflow_add-self c =
    let h = standing (goal.at.overflow_add-self c).In_ok-block in
    let few = h.told.few in
    let within = h.within in
    omega arith

pub invariant_of-self : goal.invariant_of-self
invariant_of-self c =
    let s = c.args.self.now in
    let h = standing (goal.at.invariant_of-self c).In_ok-block in
    let count = h.count in
    let low = h.low in
    record { sound = s.sound; inside = omega arith; within = λ _. omega arith }

pub invariant_of-self-else-self-from : goal.invariant_of-self-else-self-from
invariant_of-self-else-self-from c =
    let s = c.args.self.now in
    let h = standing (goal.at.invariant_of-self-else-self-from c).In_ok-block in
    let low = h.low in
    let k = sound_counted s.paper.now (s.block + 1) s.sound in
    record { sound = s.sound; inside = omega arith; within = λ inside. let some = (k.told inside).some in let count = k.count inside in omega arith }

pub returns-then-self-from-clause-steps : goal.returns-then-self-from-clause-steps
returns-then-self-from-clause-steps c =
    let s = c.args.self.now in
    let block = c.in_ok-block.block.now in
    let h = standing (goal.at.returns-then-self-from-clause-steps c).In_ok-block in
    let place = ap (λ ps. get_or ps s.«record» []) c.as_chunks-2.ensures.front ∙ part_is block s.«record» (get_or block 6 0) h.long h.within h.told.few in
    steps _ _ c.read-found.result _ (c.read-found.ensures ∙ read_here s.paper.now s.block s.«record» block _ c.as_chunks-2.result.0.now h refl place)
    (come_inside s.paper.now s.block s.«record» block h.low h.is h.within)

pub returns-then-self-from-clause-goes : goal.returns-then-self-from-clause-goes
returns-then-self-from-clause-goes c =
    let s = c.args.self.now in
    let block = c.in_ok-block.block.now in
    let h = standing (goal.at.returns-then-self-from-clause-goes c).In_ok-block in
    let place = ap (λ ps. get_or ps s.«record» []) c.as_chunks-2.ensures.front ∙ part_is block s.«record» (get_or block 6 0) h.long h.within h.told.few in
    goes _ records_left s _ c.read-found.result _ tt (c.read-found.ensures ∙ read_here s.paper.now s.block s.«record» block _ c.as_chunks-2.result.0.now h refl place)
    (come_inside s.paper.now s.block s.«record» block h.low h.is h.within)

pub returns-else-self-from-clause-steps : goal.returns-else-self-from-clause-steps
returns-else-self-from-clause-steps c =
    let s = c.args.self.now in
    let block = c.in_ok-block.block.now in
    let h = standing (goal.at.returns-else-self-from-clause-steps c).In_ok-block in
    let place = ap (λ ps. get_or ps s.«record» []) c.as_chunks-2.ensures.front ∙ part_is block s.«record» (get_or block 6 0) h.long h.within h.told.few in
    steps _ _ c.read-found.result _ (c.read-found.ensures ∙ read_here s.paper.now s.block s.«record» block _ c.as_chunks-2.result.0.now h refl place)
    (come_last s.paper.now s.block s.«record» block h.low h.is h.within (omega arith))

pub returns-else-self-from-clause-goes : goal.returns-else-self-from-clause-goes
returns-else-self-from-clause-goes c =
    let s = c.args.self.now in
    let block = c.in_ok-block.block.now in
    let h = standing (goal.at.returns-else-self-from-clause-goes c).In_ok-block in
    let place = ap (λ ps. get_or ps s.«record» []) c.as_chunks-2.ensures.front ∙ part_is block s.«record» (get_or block 6 0) h.long h.within h.told.few in
    goes _ records_left s _ c.read-found.result _ tt (c.read-found.ensures ∙ read_here s.paper.now s.block s.«record» block _ c.as_chunks-2.result.0.now h refl place)
    (come_last s.paper.now s.block s.«record» block h.low h.is h.within (omega arith))
