use Rattle.std.proofs.Common.{ap, map, subst, sym, ◌∙◌}
use Rattle.vt_spec.proofs.Common.{folded}
use Rattle.vt_group.specs.Additions.{typed_pair}
use Rattle.vt_group.specs.ByNumber.{Numbered, value_at}
use Rattle.vt_group.specs.Grouping.{Has}
use Rattle.vt_location.specs.declared.mounts.Propagation.{Propagation}
use Rattle.vt_location.specs.Numbers.{group_number}
use Rattle.vt_group.specs.Steps.{numbered_master, numbered_peer}
use Rattle.vt_group.specs.Together.{all_added, new_group, typed, with_master_of, with_type_of}
use Rattle.vt_group.proofs.Adding.{grown_has}
use Rattle.vt_group.proofs.Answering.{listed_ok}
use Rattle.vt_group.proofs.Coming.{FoundListed, FoundLower, all_listed, all_lower, each_joined_still}
use Rattle.vt_group.proofs.EndedTypes.{rising_numbers}
use Rattle.vt_group.proofs.groups.GrownMaps.{found_listed, found_lower, lists_found, lists_unlisted, still_ascends}
use Rattle.vt_group.proofs.groups.Groups.add_typed.Goals as goal

pub returns-clause-ok : goal.returns-clause-ok
returns-clause-ok c world after has grows =
    let inside = c.self.inside in
    let peers = c.set_all.ensures.types
    ∙ ap (λ es. folded with_type_of (map numbered_peer es) (map typed_pair c.args.types.now))
    c.reserve_all.ensures.types ∙ ap (folded with_type_of (map numbered_peer inside.mounts.kinds.entries))
    c.requires in
    let masters = c.set_all.ensures.masters
    ∙ ap (λ es. folded with_master_of (map numbered_master es) (map new_group c.args.new.now))
    c.reserve_all.ensures.masters in
    subst (Has after) (sym ((λ i. record { peers = peers i; masters = masters i })
    ∙ ap (λ groups. all_added groups (map typed c.args.mounts.now) (map new_group c.args.new.now)) c.self.view_is))
    (grown_has world after c.args.self.now (map typed c.args.mounts.now) (map new_group c.args.new.now) has grows)

pub invariant_of-self-2 : goal.invariant_of-self-2
invariant_of-self-2 c =
    let inside = c.self.inside in
    let index = c.list_all.new.self in
    let old_peers = map numbered_peer inside.mounts.kinds.entries in
    let old_masters = map numbered_master inside.above.entries in
    let peers = c.set_all.ensures.types
    ∙ ap (λ es. folded with_type_of (map numbered_peer es) (map typed_pair c.args.types.now))
    c.reserve_all.ensures.types
    ∙ ap (folded with_type_of old_peers) c.requires in
    let masters = c.set_all.ensures.masters
    ∙ ap (λ es. folded with_master_of (map numbered_master es) (map new_group c.args.new.now))
    c.reserve_all.ensures.masters in
    let listed = all_listed index c.args.mounts.now old_peers
    (listed_ok c.list_all.result c.list_all.ensures.ok (sym c.is_err-else-is_err.ensures.value ∙ c.if-is_err-2.false))
    (found_listed inside.index index inside.mounts.kinds inside.above c.self.invariant
    (λ mount kind is. c.list_all.ensures.kept mount kind (c.join_all.ensures.kept mount kind is))) in
    let lower = all_lower index c.args.new.now old_masters
    (each_joined_still c.join_all.new.self index c.list_all.ensures.lower c.list_all.ensures.kept c.args.new.now
    (listed_ok c.join_all.result c.join_all.ensures.ok (sym c.is_err.ensures.value ∙ c.if-is_err.false)))
    (rising_numbers group_number inside.above.entries c.self.invariant.ordered_above)
    (found_lower inside.index index inside.mounts.kinds inside.above c.self.invariant
    (λ low up is. c.list_all.ensures.lower low up (c.join_all.ensures.lower low up is))) in
    let lists = lists_found index c.set_all.new.types.kinds c.set_all.new.above (subst (FoundListed index) (sym peers) listed)
    (subst (FoundLower index) (sym masters) lower)
    (c.set_all.ensures.ordered (still_ascends inside.mounts.kinds c.reserve_all.new.types.kinds c.reserve_all.ensures.types
    c.self.invariant.ordered))
    (c.set_all.ensures.ordered_above (still_ascends inside.above c.reserve_all.new.above c.reserve_all.ensures.masters
    c.self.invariant.ordered_above)) in
    lists_unlisted index c.unlist_all.new.self c.set_all.new.types.kinds c.set_all.new.above lists
    (λ mount kind at. c.unlist_all.ensures.kept mount kind
    (ap (λ (kinds : Numbered Propagation). value_at kinds mount.count) c.kinds.ensures ∙ at))
    (λ low up at. c.unlist_all.ensures.lower low up)
