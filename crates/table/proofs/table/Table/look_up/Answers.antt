use Rattle.std.proofs.Common.{rules}
use Rattle.table.proofs.Reading.{reads_found, looked_up}
use Rattle.table.proofs.table.Table.look_up.Goals as goal

pub returns : goal.returns
returns g c =
    looked_up g.T.Tally.kind c.in_ok-fingerprint.ensures _
    (reads_found g.T.Tally.kind c.args.self.now c.in_ok-fingerprint.fingerprint c.seat_of.result c.map-held.result _ (λ i v told. search rules) c.seat_of.ensures c.map-held.ensures.cases)
