-- Traffic: packets and octets, each added up to a ceiling of its own. Assumes nothing.
use Rattle.std.specs.Prelude.{ℕ, ◌+◌, ◌-◌, Bool, cond, ◌&&◌, ◌||◌, Some, None, ◌==◌, nat_le, nat_lt}
use Rattle.tallies.specs.declared.traffic.Traffic.{Traffic}
use Rattle.tallies.specs.Kinds.{Kind}

-- so many packets and octets
abbrev pub traffic : ℕ → ℕ → Traffic
traffic packets octets = record { packets = packets; octets = octets }

-- the number by which papers name the kind
abbrev pub traffic-number : ℕ
traffic-number = 2

-- the ceilings of the two parts
abbrev pub most-packets : ℕ
most-packets = 4294967295

abbrev pub most-octets : ℕ
most-octets = 1000000000000000

-- whether both parts are
abbrev pub within-ceilings : Traffic → Bool
within-ceilings v = nat_le v.packets most-packets && nat_le v.octets most-octets

-- part by part
abbrev pub sum : Traffic → Traffic → Traffic
sum v a = traffic (v.packets + a.packets) (v.octets + a.octets)

-- the parts are added, each up to its ceiling
abbrev pub traffic-kind : Kind Traffic
traffic-kind =
    record {
      empty = traffic 0 0;
      is-empty = λ v. (v.packets == 0) && (v.octets == 0);
      is-value = within-ceilings;
      is-amount = λ a. within-ceilings a && (nat_lt 0 a.packets || nat_lt 0 a.octets);
      join = λ v a. cond (within-ceilings (sum v a)) (Some (sum v a)) None;
      take_back = λ v a. cond (nat_le a.packets v.packets && nat_le a.octets v.octets) (Some (traffic (v.packets - a.packets) (v.octets - a.octets))) None;
    }
