use Rattle.std.proofs.Common.{◌≡◌, take, drop}
use Rattle.std.specs.List.{AllByRecursion}
use Rattle.paper.specs.Records.{Held}
use Rattle.paper_writer.specs.Refusing.{records_checked}
use Rattle.paper_writer.proofs.check.check_records.Given as goal

abbrev pub invariant-loop-k : goal.invariant-loop-k
invariant-loop-k l = (records_checked l.kind l.k (drop l.k l.records.all.now) ≡ records_checked l.kind 0 l.records.all.now) × AllByRecursion Held (take l.k l.records.all.now)
