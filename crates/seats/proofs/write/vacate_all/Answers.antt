use Rattle.std.proofs.Common.{◌≡◌, ◌<◌, ◌≢◌, length, replicate, sym, ◌∙◌, arith, below_more}
use Rattle.std.proofs.lemmas.List.{get_or_default, get_or-set_same, get_or-set_other, length-replicate, get_or-replicate, same_lists}
use Rattle.seats.specs.Seats.{vacant}
use Rattle.seats.proofs.write.vacate_all.Goals as goal

pub loop-i-preserved : goal.loop-i-preserved
loop-i-preserved g c =
    let e = g.T.Tally.kind.empty in
    let xs = c.loop-i.seats in
    let i = c.loop-i.i in
    let s = c.empty.result in
    below_more _ _
    (λ k h. let apart : k ≢ i = omega arith in get_or-set_other xs i k s (vacant e) apart ∙ c.loop-i.invariant k h)
    (let inside : i < length xs = omega arith in get_or-set_same xs i s (vacant e) inside ∙ c.empty.ensures)

pub returns : goal.returns
returns g c =
    let e = g.T.Tally.kind.empty in
    let n = length c.args.seats.now in
    let long : length c.loop-i.seats ≡ n = omega arith in
    same_lists c.loop-i.seats (replicate n (vacant e)) (long ∙ sym (length-replicate n (vacant e)))
    (λ k d h. get_or_default c.loop-i.seats k d (vacant e) h ∙ c.loop-i.invariant k (omega arith) ∙ sym (get_or-replicate n k (vacant e) d (omega arith)))
