-- What is printed of a tally, and the tally that a record's figures stand for, in each kind. Assumes nothing.
use Rattle.std.specs.Prelude.{ℕ}
use Rattle.tallies.specs.declared.replicas.Replicas.{Replicas}
use Rattle.tallies.specs.declared.traffic.Traffic.{Traffic}
use Rattle.tallies.specs.Replicas.{replicas}
use Rattle.tallies.specs.Traffic.{traffic}

-- the count, and no octets
abbrev pub replicas_shown : Replicas → ℕ × ℕ
replicas_shown v = (v.0, 0)

abbrev pub replicas_made : ℕ → ℕ → Replicas
replicas_made packets octets = replicas packets

abbrev pub traffic_shown : Traffic → ℕ × ℕ
traffic_shown v = (v.packets, v.octets)

abbrev pub traffic_made : ℕ → ℕ → Traffic
traffic_made packets octets = traffic packets octets
