use Rattle.std.proofs.Common.{◌≡◌, Some, ap, false, is_some, nat_eq, sym, true, true≢false, ◌∙◌, nat_cmp}
use Rattle.vt_spec.proofs.Common.{group_of, list_any, remove_entry, same_Some, then_some}
use Rattle.std.specs.BTreeMap.{is_at}
use Rattle.vt_location.specs.declared.mounts.Propagation.{Propagation}
use Rattle.vt_location.specs.declared.mounts.Propagation.TheVariants.{Private, Shared, Slave, Unbindable}
use Rattle.vt_location.specs.declared.numbers.GroupId.{GroupId}
use Rattle.vt_location.specs.MountValue.{propagation_of}
use Rattle.vt_location.specs.Numbers.{counted, group_number}
use Rattle.vt_group.specs.Grouping.{propagation_in}
use Rattle.vt_group.specs.Indexed.{group_of_kind}
use Rattle.vt_group.specs.Steps.{is_member}
use Rattle.vt_group.proofs.Coming.{kept_shared}
use Rattle.vt_group.proofs.CountLemmas.{removed-numbered}
use Rattle.vt_group.proofs.groups.Members.{any_numbered, lone_told}
use Rattle.vt_group.proofs.groups.Groups.ends_with.Goals as goal

own_kind : (kind : Propagation) (group : GroupId) → Some group ≡ group_of_kind kind → kind ≡ Shared group
own_kind (Shared own) group is = ap Shared (sym (same_Some group own is))
own_kind (Slave master) group is = absurd (true≢false (ap is_some is))
own_kind Private group is = absurd (true≢false (ap is_some is))
own_kind Unbindable group is = absurd (true≢false (ap is_some is))

pub has_others-requires : goal.has_others-requires
has_others-requires c =
    let count = c.args.mount.count in
    let group = c.in_ok-group.group in
    ap (λ found. then_some found group_of_kind) (kept_shared c.self.inside.mounts.kinds.entries count group
    (ap (λ groups. propagation_in groups (counted count)) c.self.view_is ∙ sym c.in_ok-propagation_of.ensures
    ∙ ap propagation_of (own_kind c.in_ok-propagation_of.field-0 group c.in_ok-group.ensures.kept)))

pub returns-then-has_others : goal.returns-then-has_others
returns-then-has_others c =
    let count = c.args.mount.count in
    let group = c.in_ok-group.group in
    let es = c.self.inside.mounts.kinds.entries in
    lone_told c.args.self.now (counted count) (group_number group)
    (ap group_of (sym c.in_ok-propagation_of.ensures) ∙ sym c.in_ok-group.ensures.number) true
    (sym c.if-has_others.true ∙ c.has_others.ensures ∙ any_numbered group (remove_entry (is_at (nat_cmp count)) es)
    ∙ ap (list_any (is_member (group_number group))) (removed-numbered propagation_of count es)
    ∙ ap (λ groups. list_any (is_member (group_number group)) (remove_entry (nat_eq (counted count)) groups.peers))
    c.self.view_is)

pub returns : goal.returns
returns c =
    let count = c.args.mount.count in
    let group = c.in_ok-group.group in
    let es = c.self.inside.mounts.kinds.entries in
    lone_told c.args.self.now (counted count) (group_number group)
    (ap group_of (sym c.in_ok-propagation_of.ensures) ∙ sym c.in_ok-group.ensures.number) false
    (sym c.if-has_others.false ∙ c.has_others.ensures ∙ any_numbered group (remove_entry (is_at (nat_cmp count)) es)
    ∙ ap (list_any (is_member (group_number group))) (removed-numbered propagation_of count es)
    ∙ ap (λ groups. list_any (is_member (group_number group)) (remove_entry (nat_eq (counted count)) groups.peers))
    c.self.view_is)
