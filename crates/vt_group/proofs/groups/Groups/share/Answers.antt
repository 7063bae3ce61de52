use Rattle.std.proofs.Common.{ap, map, nat_eq, refl, subst, sym, ℕ, ◌∙◌}
use Rattle.vt_spec.proofs.Common.{ToShared, folded, retyped}
use Rattle.vt_group.specs.Additions.{typed_pair}
use Rattle.vt_group.specs.ByNumber.{Numbered, value_at}
use Rattle.vt_group.specs.Listing.{EachShared}
use Rattle.vt_group.specs.Grouping.{Has}
use Rattle.vt_location.specs.declared.mounts.Propagation.{Propagation}
use Rattle.vt_location.specs.Numbers.{group_number}
use Rattle.vt_group.specs.Steps.{numbered_master, numbered_peer}
use Rattle.vt_group.specs.Together.{all_added, new_group, pair_of, shared_group, shared_type, with_master_of, with_type_of}
use Rattle.vt_group.proofs.Answering.{listed_ok, shown-type}
use Rattle.vt_group.proofs.Coming.{FoundListed, FoundLower, all_shared_listed, all_shared_lower}
use Rattle.vt_group.proofs.EndedTypes.{rising_numbers}
use Rattle.vt_group.proofs.groups.GrownMaps.{found_listed, found_lower, lists_found, lists_unlisted, still_ascends}
use Rattle.vt_group.proofs.Sharing.{shared_has}
use Rattle.vt_group.proofs.groups.Groups.share.Goals as goal

pub returns-clause-ok : goal.returns-clause-ok
returns-clause-ok c world group named has live there same lacks =
    let inside = c.self.inside in
    let peers = c.set_all.ensures.types
    ∙ ap (λ es. folded with_type_of (map numbered_peer es) (map typed_pair c.as_slice-types.result.now))
    c.reserve_all.ensures.types ∙ ap (folded with_type_of (map numbered_peer inside.mounts.kinds.entries))
    (ap (map typed_pair) c.as_slice-types.ensures.value ∙ c.in_ok-types.ensures) in
    let masters = c.set_all.ensures.masters
    ∙ ap (λ es. folded with_master_of (map numbered_master es) (map new_group c.as_slice-new.result.now))
    c.reserve_all.ensures.masters ∙ ap (folded with_master_of (map numbered_master inside.above.entries))
    (ap (map new_group) c.as_slice-new.ensures.value ∙ c.in_ok-new.ensures) in
    subst (Has (retyped nat_eq world group ToShared named)) (sym ((λ i. record { peers = peers i; masters = masters i })
    ∙ ap (λ groups. all_added groups (map (λ pair. shared_type c.args.self.now (pair_of pair)) c.args.named.now)
    (map (λ pair. shared_group c.args.self.now (pair_of pair)) c.args.named.now)) c.self.view_is))
    (shared_has world live c.args.self.now has group lacks named there c.args.named.now same)

pub invariant_of-self-2 : goal.invariant_of-self-2
invariant_of-self-2 c =
    let inside = c.self.inside in
    let index = c.share.new.self in
    let named = c.args.named.now in
    let groups = c.args.self.now in
    let old_peers = map numbered_peer inside.mounts.kinds.entries in
    let old_masters = map numbered_master inside.above.entries in
    let told = λ (count : ℕ). shown-type count inside.mounts.kinds.entries old_masters groups c.self.view_is
    (value_at inside.mounts.kinds count) refl in
    let each = subst (λ kinds. EachShared index kinds named) c.kinds.ensures
    (listed_ok c.share.result c.share.ensures.ok (sym c.is_err.ensures.value ∙ c.if-is_err.false)) in
    let peers = c.set_all.ensures.types
    ∙ ap (λ es. folded with_type_of (map numbered_peer es) (map typed_pair c.as_slice-types.result.now))
    c.reserve_all.ensures.types
    ∙ ap (folded with_type_of old_peers) (ap (map typed_pair) c.as_slice-types.ensures.value ∙ c.in_ok-types.ensures) in
    let masters = c.set_all.ensures.masters
    ∙ ap (λ es. folded with_master_of (map numbered_master es) (map new_group c.as_slice-new.result.now))
    c.reserve_all.ensures.masters ∙ ap (folded with_master_of old_masters)
    (ap (map new_group) c.as_slice-new.ensures.value ∙ c.in_ok-new.ensures) in
    let listed = all_shared_listed groups inside.mounts.kinds told index named old_peers each
    (found_listed inside.index index inside.mounts.kinds inside.above c.self.invariant c.share.ensures.kept) in
    let lower = all_shared_lower groups inside.mounts.kinds told index named old_masters each
    (rising_numbers group_number inside.above.entries c.self.invariant.ordered_above)
    (found_lower inside.index index inside.mounts.kinds inside.above c.self.invariant c.share.ensures.lower) in
    let lists = lists_found index c.set_all.new.types.kinds c.set_all.new.above (subst (FoundListed index) (sym peers) listed)
    (subst (FoundLower index) (sym masters) lower)
    (c.set_all.ensures.ordered (still_ascends inside.mounts.kinds c.reserve_all.new.types.kinds c.reserve_all.ensures.types
    c.self.invariant.ordered))
    (c.set_all.ensures.ordered_above (still_ascends inside.above c.reserve_all.new.above c.reserve_all.ensures.masters
    c.self.invariant.ordered_above)) in
    lists_unlisted index c.unlist_all.new.self c.set_all.new.types.kinds c.set_all.new.above lists
    (λ mount kind at. c.unlist_all.ensures.kept mount kind
    (ap (λ (kinds : Numbered Propagation). value_at kinds mount.count) c.kinds-2.ensures ∙ at))
    (λ low up at. c.unlist_all.ensures.lower low up)
