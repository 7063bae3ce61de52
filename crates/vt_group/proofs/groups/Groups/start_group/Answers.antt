use Rattle.std.proofs.Common.{◌≡◌, None, Option, Some, ap, cond, false, is_some, map, nat_eq, option_map, refl, subst, sym, true, true≢false, ℕ, ◌∙◌, nat_cmp, IfSome}
use Rattle.vt_spec.proofs.Common.{OnOk_then, Shared, World, group_of, has_members, insert_entry, lookup, regrouped}
use Rattle.std.specs.BTreeMap.{is_at}
use Rattle.vt_location.specs.MountValue.{propagation_of}
use Rattle.vt_location.specs.Numbers.{counted, group_number}
use Rattle.vt_location.specs.declared.mounts.Propagation.TheVariants.{Shared as SharedIn}
use Rattle.vt_location.specs.declared.numbers.GroupId.{GroupId}
use Rattle.vt_group.specs.ByNumber.{value_at}
use Rattle.vt_group.specs.Grouping.{Grouping, Has, HasGroup, below, master_in, with_propagation}
use Rattle.vt_group.specs.Indexed.{group_at, is_listed, is_lower, mount_at}
use Rattle.vt_group.specs.Steps.{ended_if_lost, numbered_master, numbered_peer}
use Rattle.vt_group.proofs.Answering.{shown-type}
use Rattle.vt_group.proofs.Changes.{start_alone, start_below}
use Rattle.vt_group.proofs.CountLemmas.{inserted-numbered}
use Rattle.vt_group.proofs.Invariant.{put_each}
use Rattle.vt_group.proofs.groups.Groups.start_group.Goals as goal

-- a group with a master has members
has_master : (world : World ℕ) (groups : Grouping) (group : ℕ) (found : Option GroupId) → Has world groups
    → has_members nat_eq world.mounts group ≡ false
    → option_map group_number found ≡ master_in groups group → is_some found ≡ true → ⊥
has_master world groups group None has none is some = true≢false (sym some)
has_master world groups group (Some master) has none is some =
    true≢false (ap is_some (is ∙ has.masters group ∙ ap (λ b. cond b (world.master group) None) none))

pub returns-in_default-clause-ok : goal.returns-in_default-clause-ok
returns-in_default-clause-ok c = OnOk_then c.set.result (λ new world has live is.
    let group = counted c.args.group.count in
    let number = counted c.args.mount.count in
    subst (λ (above : Option ℕ). Has
    (regrouped nat_eq (below (with_propagation world number (Shared group)) group above)) c.set.new.self)
    (sym (ap (option_map group_number) c.in_default.is))
    (subst (Has (regrouped nat_eq (below (with_propagation world number (Shared group)) group None))) (sym new)
    (start_alone world c.args.self.now has live number group is.0 is.1))) c.set.ensures.ok

pub returns-then-is_some-clause-ok : goal.returns-then-is_some-clause-ok
returns-then-is_some-clause-ok c = OnOk_then c.set-then-is_some.result (λ new world has live is.
    absurd (has_master world c.args.self.now
    (counted c.args.group.count) c.master_of.result has is.1 c.master_of.ensures
    (sym c.is_some.ensures ∙ c.if-is_some.true))) c.set-then-is_some.ensures.ok

pub returns-clause-ok : goal.returns-clause-ok
returns-clause-ok c world has live is =
    let count = c.args.mount.count in
    let group = counted c.args.group.count in
    let es = c.self.inside.mounts.kinds.entries in
    let old = shown-type count es _ c.args.self.now c.self.view_is c.get-old.result
    (c.get-old.ensures ∙ ap (lookup (is_at (nat_cmp count))) c.reserve-2.ensures.entries) in
    let peers = ap (map numbered_peer) c.set-3.ensures.entries
    ∙ ap (λ es. map numbered_peer (insert_entry nat_cmp es count (SharedIn c.args.group))) c.reserve-2.ensures.entries
    ∙ inserted-numbered propagation_of count _ es
    ∙ (λ i. insert_entry nat_cmp (c.self.view_is i).peers (counted count) (Shared group)) in
    let masters = ap (map numbered_master) c.set-2.ensures.entries
    ∙ ap (λ es. map numbered_master (insert_entry nat_cmp es c.args.group.count c.in-Some.master))
    c.in_ok-reserve.ensures.entries
    ∙ inserted-numbered group_number c.args.group.count c.in-Some.master c.self.inside.above.entries
    ∙ (λ i. insert_entry nat_cmp (c.self.view_is i).masters group (group_number c.in-Some.master)) in
    let new = c.end_if_lost.ensures.ended
    ∙ (λ i. ended_if_lost (group_of (old i)) (record { peers = peers i; masters = masters i })) in
    let is_some = ap (option_map group_number) c.in-Some.is in
    let lives : HasGroup world (group_number c.in-Some.master) = subst
    (λ (above : Option ℕ). IfSome above (HasGroup world)) is_some is.2 in
    subst (λ (above : Option ℕ). Has (regrouped nat_eq (below (with_propagation world (counted count)
    (Shared group)) group above)) c.end_if_lost.new.self) (sym is_some)
    (subst (Has (regrouped nat_eq (below (with_propagation world (counted count) (Shared group)) group
    (Some (group_number c.in-Some.master))))) (sym new)
    (start_below world c.args.self.now has live (counted count) group (group_number c.in-Some.master) is.0 is.1 lives))

pub invariant_of-self-2 : goal.invariant_of-self-2
invariant_of-self-2 c =
    let count = c.args.mount.count in
    let group = c.args.group in
    let master = c.in-Some.master in
    record {
      listed = put_each (λ mount kind. is_listed c.leave.new.self (mount_at mount) kind ≡ true)
          (value_at c.self.inside.mounts.kinds) (value_at c.set-3.new.self.kinds) count (SharedIn group)
          (λ other. c.set-3.ensures.updates other ∙ ap (λ es. cond (is_at (nat_cmp count) other) (Some (SharedIn group))
          (lookup (is_at (nat_cmp other)) es)) c.reserve-2.ensures.entries)
          (c.leave.ensures.own (SharedIn group) refl (c.in_ok-join.ensures.kept c.args.mount (SharedIn group) c.in_ok-list.ensures.ok))
          (λ mount kind apart at. c.leave.ensures.others (mount_at mount) kind apart
          (c.in_ok-join.ensures.kept (mount_at mount) kind
          (c.in_ok-list.ensures.kept (mount_at mount) kind (c.self.invariant.listed mount kind at))));
      lower = put_each (λ lower upper. is_lower c.leave.new.self (group_at lower) upper ≡ true)
          (value_at c.self.inside.above) (value_at c.set-2.new.self) group.count master
          (λ other. c.set-2.ensures.updates other ∙ ap (λ es. cond (is_at (nat_cmp group.count) other) (Some master)
          (lookup (is_at (nat_cmp other)) es)) c.in_ok-reserve.ensures.entries)
          (c.leave.ensures.lower group master c.in_ok-join.ensures.ok)
          (λ lower upper apart at. c.leave.ensures.lower (group_at lower) upper
          (c.in_ok-join.ensures.lower (group_at lower) upper
          (c.in_ok-list.ensures.lower (group_at lower) upper (c.self.invariant.lower lower upper at))));
      ordered = c.set-3.ensures.ordered;
      ordered_above = c.set-2.ensures.ordered;
    }
