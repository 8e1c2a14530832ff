-- What the joining and the taking back of traffic say of packets and octets, and that the kind keeps the laws of one. Assumes nothing.
use Rattle.std.specs.Prelude.{◌≡◌, ℕ, ◌-◌, ◌≤◌, Bool, true, false, cond, ◌&&◌, Some, None, nat_le, refl}
use Rattle.std.proofs.Common.{sym, ap, ◌∙◌, arith}
use Rattle.std.proofs.lemmas.Bool.Decides.{nat_tests}
use Rattle.tallies.specs.declared.traffic.Traffic.{Traffic}
use Rattle.tallies.specs.Kinds.{Lawful}
use Rattle.tallies.specs.Traffic.{traffic, sum, within_ceilings, traffic_kind}

-- something that is there only under a test
some_if : {X : Type 0} (b : Bool) (x y : X) → cond b (Some x) None ≡ Some y → (b ≡ true) × (x ≡ y)
some_if true x y e = (refl, cc)
some_if false x y e = cc

none_if : {X : Type 0} (b : Bool) (x : X) → cond b (Some x) None ≡ None → b ≡ false
none_if true x e = cc
none_if false x e = refl

pub same_traffic : (v w : Traffic) → v.packets ≡ w.packets → v.octets ≡ w.octets → v ≡ w
same_traffic v w p o = λ i. record { packets = p i; octets = o i }

pub packets_of : {v w : Traffic} → v ≡ w → v.packets ≡ w.packets
packets_of e = ap (λ t. t.packets) e

pub octets_of : {v w : Traffic} → v ≡ w → v.octets ≡ w.octets
octets_of e = ap (λ t. t.octets) e

-- what joins is the sum, and within the ceilings
pub joined : (v a r : Traffic) → traffic_kind.join v a ≡ Some r → (within_ceilings (sum v a) ≡ true) × (sum v a ≡ r)
joined v a r e = some_if (within_ceilings (sum v a)) (sum v a) r e

pub joins : (v a r : Traffic) → within_ceilings (sum v a) ≡ true → sum v a ≡ r → traffic_kind.join v a ≡ Some r
joins v a r fits is = ap (λ b. cond b (Some (sum v a)) None) fits ∙ ap Some is

-- what is taken back leaves the difference, and no part falls short
pub taken : (v a w : Traffic) → traffic_kind.take_back v a ≡ Some w →
    (a.packets ≤ v.packets) × (a.octets ≤ v.octets) × (w.packets ≡ v.packets - a.packets) × (w.octets ≡ v.octets - a.octets)
taken v a w e =
    let (enough, is) = some_if (nat_le a.packets v.packets && nat_le a.octets v.octets) (traffic (v.packets - a.packets) (v.octets - a.octets)) w e in
    (grind (arith, nat_tests), grind (arith, nat_tests), sym (packets_of is), sym (octets_of is))

pub not_taken : (v a : Traffic) → traffic_kind.take_back v a ≡ None → (nat_le a.packets v.packets && nat_le a.octets v.octets) ≡ false
not_taken v a e = none_if (nat_le a.packets v.packets && nat_le a.octets v.octets) (traffic (v.packets - a.packets) (v.octets - a.octets)) e

pub traffic_lawful : Lawful traffic_kind
traffic_lawful = record {
  empty_told = λ v. (
    λ h. same_traffic v (traffic 0 0) (grind (arith, nat_tests)) (grind (arith, nat_tests)),
    λ e. let p = packets_of e in let o = octets_of e in grind (arith, nat_tests),
  );
  empty_is_value = refl;
  empty_is_no_amount = refl;
  amounts_are_values = λ a h. grind (arith, nat_tests);
  joined_is_value = λ v a r _ _ e. let (fits, is) = joined v a r e in ap within_ceilings (sym is) ∙ fits;
  empty_joins_to_amount = λ a h.
      joins (traffic 0 0) a a (grind (arith, nat_tests)) (same_traffic (sum (traffic 0 0) a) a (omega arith) (omega arith));
  joined_is_never_empty = λ v a r _ ha e z.
      let is = (joined v a r e).1 in
      let p = packets_of (is ∙ z) in
      let o = octets_of (is ∙ z) in
      grind (arith, nat_tests);
  joining_cancels = λ v w a r _ _ _ e d.
      let same = (joined v a r e).1 ∙ sym (joined w a r d).1 in
      let p = packets_of same in
      let o = octets_of same in
      same_traffic v w (omega arith) (omega arith);
  taken_back_joins = λ v w a hv _ e.
      let (packets, octets, p, o) = taken v a w e in
      (grind (arith, nat_tests), joins w a v (grind (arith, nat_tests)) (same_traffic (sum w a) v (omega arith) (omega arith)));
  not_taken_back_never_joins = λ v w a _ _ e _ d.
      let lacks = not_taken v a e in
      let is = (joined w a v d).1 in
      let p = packets_of is in
      let o = octets_of is in
      grind (arith, nat_tests);
}
