use Rattle.std.proofs.Common.{◌≡◌, ap, is_some, map, refl, sym, true, ◌||◌, ◌∙◌, nat_cmp}
use Rattle.vt_spec.proofs.Common.{group_of, insert_entry, list_any}
use Rattle.std.specs.BTreeMap.{is_at}
use Rattle.vt_location.specs.declared.mounts.Propagation.TheVariants.{Shared, Slave}
use Rattle.vt_location.specs.MountValue.{propagation_of}
use Rattle.vt_location.specs.Numbers.{counted, group_number}
use Rattle.vt_group.specs.ByNumber.{value_at}
use Rattle.vt_group.specs.Grouping.{Grouping, are_rising, propagation_in}
use Rattle.vt_group.specs.Indexed.{group_at, is_listed, mount_at}
use Rattle.vt_group.specs.Leaving.{lost_group, type_once_ended}
use Rattle.vt_group.specs.Steps.{ended_if_lost, numbered_peer}
use Rattle.vt_group.proofs.Coming.{kept_shared}
use Rattle.vt_group.proofs.CountLemmas.{inserted-numbered}
use Rattle.vt_group.proofs.EndedTypes.{rising_numbers}
use Rattle.vt_group.proofs.Invariant.{put_each}
use Rattle.vt_group.proofs.Regrouping.{keys}
use Rattle.vt_group.proofs.groups.LeavingTypes.{types-slave}
use Rattle.vt_group.proofs.groups.Groups.set_slave.Goals as goal

pub returns-clause-new : goal.returns-clause-new
returns-clause-new c =
    let es = c.self.inside.mounts.kinds.entries in
    let count = c.args.mount.count in
    let inserted = ap (map numbered_peer) c.set.ensures.entries
    ∙ inserted-numbered propagation_of count (Slave c.args.group) es
    ∙ (λ i. insert_entry nat_cmp (c.self.view_is i).peers (counted count) (propagation_of (Slave c.args.group))) in
    c.end_if_lost.ensures.ended
    ∙ (λ i. ended_if_lost (group_of (sym c.requires i)) (record { peers = inserted i; masters = (c.self.view_is i).masters }))

pub returns-clause-types : goal.returns-clause-types
returns-clause-types c other =
    let es = c.self.inside.mounts.kinds.entries in
    let count = c.args.mount.count in
    let inserted = ap (map numbered_peer) c.set.ensures.entries
    ∙ inserted-numbered propagation_of count (Slave c.args.group) es
    ∙ (λ i. insert_entry nat_cmp (c.self.view_is i).peers (counted count) (propagation_of (Slave c.args.group))) in
    c.end_if_lost.ensures.types other
    ∙ (λ i. let now : Grouping = record { peers = inserted i; masters = (c.self.view_is i).masters } in
    type_once_ended now (lost_group now (group_of (sym c.requires i))) (propagation_in now other))
    ∙ types-slave c.args.self.now (counted count) (group_number c.args.group)
    (ap (λ groups. are_rising (keys groups.peers)) (sym c.self.view_is)
    ∙ rising_numbers propagation_of es c.self.invariant.ordered) c.requires other

pub invariant_of-self : goal.invariant_of-self
invariant_of-self c =
    let es = c.self.inside.mounts.kinds.entries in
    let count = c.args.mount.count in
    let found = kept_shared es count c.args.group
    (ap (λ groups. propagation_in groups (counted count)) c.self.view_is ∙ c.requires) in
    record {
      listed = put_each (λ mount kind. is_listed c.leave.new.self (mount_at mount) kind ≡ true)
          (value_at c.self.inside.mounts.kinds) (value_at c.set.new.self.kinds) count (Slave c.args.group) c.set.ensures.updates
          (c.leave.ensures.own (Slave c.args.group) refl (c.self.invariant.listed count (Shared c.args.group) found))
          (λ mount kind apart at. c.leave.ensures.others (mount_at mount) kind apart
          (c.self.invariant.listed mount kind at));
      lower = λ lower upper at. c.leave.ensures.lower (group_at lower) upper (c.self.invariant.lower lower upper at);
      ordered = c.set.ensures.ordered;
      ordered_above = c.self.invariant.ordered_above;
    }

pub set-requires : goal.set-requires
set-requires c =
    let count = c.args.mount.count in
    let found = kept_shared c.self.inside.mounts.kinds.entries count c.args.group
    (ap (λ groups. propagation_in groups (counted count)) c.self.view_is ∙ c.requires) in
    (ap (λ value. is_some value || list_any (is_at (nat_cmp count)) c.self.inside.mounts.kinds.room) found, tt)
