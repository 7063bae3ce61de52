use Rattle.std.proofs.Common.{◌≡◌, true, ap, sym, subst, ◌∙◌, map, nat_eq}
use Rattle.vt_spec.proofs.Common.{Private, group_of, regrouped, remove_entry}
use Rattle.vt_group.specs.ByNumber.{value_at}
use Rattle.vt_group.specs.Indexed.{group_at, is_listed, mount_at}
use Rattle.vt_group.proofs.Invariant.{left_each}
use Rattle.vt_group.specs.Grouping.{Grouping, Has, are_rising, propagation_in, with_propagation}
use Rattle.vt_group.specs.Leaving.{lost_group, type_once_ended}
use Rattle.vt_group.proofs.EndedTypes.{rising_numbers}
use Rattle.vt_group.proofs.groups.LeavingTypes.{types-left}
use Rattle.vt_group.proofs.Regrouping.{keys}
use Rattle.vt_location.specs.Numbers.{counted}
use Rattle.vt_location.specs.MountValue.{propagation_of}
use Rattle.vt_group.specs.Steps.{ended_if_lost, numbered_peer}
use Rattle.vt_group.proofs.Answering.{shown-type}
use Rattle.vt_group.proofs.Changes.{left_regroups}
use Rattle.vt_group.proofs.CountLemmas.{removed-numbered}
use Rattle.vt_group.proofs.groups.Groups.leave.Goals as goal

pub returns-clause-left : goal.returns-clause-left
returns-clause-left c world has live is =
    let es = c.self.inside.mounts.kinds.entries in
    let count = c.args.mount.count in
    let old = shown-type count es _ c.args.self.now c.self.view_is c.remove-old.result c.remove-old.ensures.value in
    let removed = ap (map numbered_peer) c.remove-old.ensures.entries ∙ removed-numbered propagation_of count es
    ∙ (λ i. remove_entry (nat_eq (counted count)) (c.self.view_is i).peers) in
    let new = c.end_if_lost.ensures.ended
    ∙ (λ i. ended_if_lost (group_of (old i)) (record { peers = removed i; masters = (c.self.view_is i).masters })) in
    subst (Has (regrouped nat_eq (with_propagation world (counted c.args.mount.count) Private))) (sym new)
    (left_regroups world c.args.self.now has live (counted c.args.mount.count))

pub returns-clause-types : goal.returns-clause-types
returns-clause-types c other =
    let es = c.self.inside.mounts.kinds.entries in
    let count = c.args.mount.count in
    let old = shown-type count es _ c.args.self.now c.self.view_is c.remove-old.result c.remove-old.ensures.value in
    let removed = ap (map numbered_peer) c.remove-old.ensures.entries ∙ removed-numbered propagation_of count es
    ∙ (λ i. remove_entry (nat_eq (counted count)) (c.self.view_is i).peers) in
    c.end_if_lost.ensures.types other
    ∙ (λ i. let now : Grouping = record { peers = removed i; masters = (c.self.view_is i).masters } in
    type_once_ended now (lost_group now (group_of (old i))) (propagation_in now other))
    ∙ types-left c.args.self.now (counted count) (ap (λ groups. are_rising (keys groups.peers)) (sym c.self.view_is)
    ∙ rising_numbers propagation_of c.self.inside.mounts.kinds.entries c.self.invariant.ordered) other

pub invariant_of-self : goal.invariant_of-self
invariant_of-self c = record {
  listed = left_each (λ mount kind. is_listed c.leave.new.self (mount_at mount) kind ≡ true)
      (value_at c.self.inside.mounts.kinds) (value_at c.remove-old.new.self.kinds) c.args.mount.count
      c.remove-old.ensures.updates (λ mount kind apart at. c.leave.ensures.others (mount_at mount) kind apart
      (c.self.invariant.listed mount kind at));
  lower = λ lower upper at. c.leave.ensures.lower (group_at lower) upper (c.self.invariant.lower lower upper at);
  ordered = c.remove-old.ensures.ordered;
  ordered_above = c.self.invariant.ordered_above;
}
