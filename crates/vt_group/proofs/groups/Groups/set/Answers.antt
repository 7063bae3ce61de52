use Rattle.std.proofs.Common.{◌≡◌, true, Some, ap, cond, map, refl, ◌∙◌, nat_cmp}
use Rattle.vt_spec.proofs.Common.{group_of, insert_entry, lookup}
use Rattle.vt_group.specs.ByNumber.{value_at}
use Rattle.vt_group.specs.Indexed.{group_at, is_listed, mount_at}
use Rattle.vt_group.proofs.Invariant.{put_each}
use Rattle.std.specs.BTreeMap.{is_at}
use Rattle.vt_location.specs.Numbers.{counted}
use Rattle.vt_location.specs.MountValue.{propagation_of}
use Rattle.vt_group.specs.Grouping.{Grouping, propagation_in}
use Rattle.vt_group.specs.Leaving.{lost_group, type_once_ended}
use Rattle.vt_group.specs.Steps.{ended_if_lost, numbered_peer}
use Rattle.vt_group.proofs.Answering.{shown-type}
use Rattle.vt_group.proofs.CountLemmas.{inserted-numbered}
use Rattle.vt_group.proofs.groups.Groups.set.Goals as goal

pub returns-clause-ok : goal.returns-clause-ok
returns-clause-ok c =
    let es = c.self.inside.mounts.kinds.entries in
    let count = c.args.mount.count in
    let old = shown-type count es _ c.args.self.now c.self.view_is c.get-old.result
    (c.get-old.ensures ∙ ap (lookup (is_at (nat_cmp count))) c.in_ok-reserve.ensures.entries) in
    let inserted = ap (map numbered_peer) c.set.ensures.entries
    ∙ ap (λ es. map numbered_peer (insert_entry nat_cmp es count c.args.kind)) c.in_ok-reserve.ensures.entries
    ∙ inserted-numbered propagation_of count c.args.kind es
    ∙ (λ i. insert_entry nat_cmp (c.self.view_is i).peers (counted count) (propagation_of c.args.kind)) in
    c.end_if_lost.ensures.ended
    ∙ (λ i. ended_if_lost (group_of (old i)) (record { peers = inserted i; masters = (c.self.view_is i).masters }))

pub returns-clause-types : goal.returns-clause-types
returns-clause-types c other =
    let es = c.self.inside.mounts.kinds.entries in
    let count = c.args.mount.count in
    let old = shown-type count es _ c.args.self.now c.self.view_is c.get-old.result
    (c.get-old.ensures ∙ ap (lookup (is_at (nat_cmp count))) c.in_ok-reserve.ensures.entries) in
    let inserted = ap (map numbered_peer) c.set.ensures.entries
    ∙ ap (λ es. map numbered_peer (insert_entry nat_cmp es count c.args.kind)) c.in_ok-reserve.ensures.entries
    ∙ inserted-numbered propagation_of count c.args.kind es
    ∙ (λ i. insert_entry nat_cmp (c.self.view_is i).peers (counted count) (propagation_of c.args.kind)) in
    c.end_if_lost.ensures.types other
    ∙ (λ i. let now : Grouping = record { peers = inserted i; masters = (c.self.view_is i).masters } in
    type_once_ended now (lost_group now (group_of (old i))) (propagation_in now other))

pub invariant_of-self-2 : goal.invariant_of-self-2
invariant_of-self-2 c = record {
  listed = put_each (λ mount kind. is_listed c.leave.new.self (mount_at mount) kind ≡ true)
      (value_at c.self.inside.mounts.kinds) (value_at c.set.new.self.kinds) c.args.mount.count c.args.kind
      (λ other. c.set.ensures.updates other
      ∙ ap (λ es. cond (is_at (nat_cmp c.args.mount.count) other) (Some c.args.kind)
      (lookup (is_at (nat_cmp other)) es)) c.in_ok-reserve.ensures.entries) (c.leave.ensures.own c.args.kind refl
      c.in_ok-list.ensures.ok) (λ mount kind apart at. c.leave.ensures.others (mount_at mount) kind apart
      (c.in_ok-list.ensures.kept (mount_at mount) kind (c.self.invariant.listed mount kind at)));
  lower = λ lower upper at. c.leave.ensures.lower (group_at lower) upper
      (c.in_ok-list.ensures.lower (group_at lower) upper (c.self.invariant.lower lower upper at));
  ordered = c.set.ensures.ordered;
  ordered_above = c.self.invariant.ordered_above;
}

pub set-requires : goal.set-requires
set-requires c = c.in_ok-reserve.ensures.room
