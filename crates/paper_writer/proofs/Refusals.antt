-- The steps of the checks before a paper is written, and what they tell. Assumes nothing.
use Rattle.std.proofs.Common.{◌≡◌, ℕ, ◌+◌, ◌*◌, ◌/◌, ◌%◌, ◌<◌, ◌≤◌, Bool, true, cond, List, [], ◌∷◌, length, get_or, drop, Ok, Err, ap, ◌∙◌, arith}
use Rattle.std.specs.List.{AllByRecursion}
use Rattle.std.proofs.lemmas.List.{at_drop_more}
use Rattle.std.proofs.lemmas.Bool.Decides.{nat_tests}
use Rattle.blocks.specs.Faults.{then}
use Rattle.blocks.specs.declared.fault.BlockFault.TheVariants as fault
use Rattle.blocks.proofs.Tells.{cond_tells, then_tells}
use Rattle.paper.specs.Headers.{header_fits}
use Rattle.paper.specs.Records.{Held, record_fits}
use Rattle.paper.specs.Writing.{blocks_for}
use Rattle.paper.specs.declared.header.Header.{Header}
use Rattle.paper.specs.declared.fault.PaperFault.TheVariants.{InBlock, Length}
use Rattle.paper.specs.declared.«record».Record.{Record}
use Rattle.paper_writer.specs.Refusing.{contents_checked, records_checked, room_fits, write_checked}
use Rattle.paper_writer.proofs.ReadBack.{Fit}

pub records_step : (kind k : ℕ) (records : List Record) (d : Record) (fits : Bool) → k < length records → record_fits kind (get_or records k d) ≡ fits →
    records_checked kind k (drop k records) ≡ cond fits (records_checked kind (k + 1) (drop (k + 1) records)) (Err (record { block = k / 19; «record» = k % 19 + 1 }))
records_step kind k records d fits inside is =
    at_drop_more (records_checked kind k) records k d inside
    ∙ ap (λ t. cond t (records_checked kind (k + 1) (drop (k + 1) records)) (Err (record { block = k / 19; «record» = k % 19 + 1 }))) is

pub room_checked : (room : ℕ) (h : Header) (records : List Record) → 1 ≤ length records → length records ≤ 1900 → room ≡ 512 * blocks_for (length records) →
    write_checked room h records ≡ then InBlock (contents_checked h records) (Ok tt)
unfolding write_checked
room_checked room h records some most is =
    let fits : room_fits room (length records) ≡ true = grind (arith, nat_tests) in
    ap (λ t. cond t (then InBlock (contents_checked h records) (Ok tt)) (Err Length)) fits

all_fit : (kind k : ℕ) (records : List Record) → AllByRecursion Held records → records_checked kind k records ≡ Ok tt → AllByRecursion (Fit kind) records
all_fit kind k [] held is = tt
all_fit kind k (r ∷ rs) held is =
    let p = cond_tells (record_fits kind r) _ _ tt is in
    ((held.0, p.0), all_fit kind (k + 1) rs held.1 p.1)

pub contents_tell : (h : Header) (records : List Record) (t : Unit {0}) → AllByRecursion Held records → contents_checked h records ≡ Ok t → (header_fits h ≡ true) × AllByRecursion (Fit h.kind) records
contents_tell h records t held is =
    let p = cond_tells (header_fits h) _ _ t is in
    let q = then_tells fault.Record (records_checked h.kind 0 records) (Ok tt) t p.1 in
    (p.0, all_fit h.kind 0 records held q.0.1)
