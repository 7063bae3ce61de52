use Rattle.std.proofs.Common.{◌≡◌, List, None, Option, Some, ap, eq-eqb, is_some, map, nat_eq, option_map, refl, subst, sym, true≢false, ◌∙◌, ℕ, filter_map, if◌then◌else◌}
use Rattle.vt_spec.proofs.Common.{group_of, holds_of}
use Rattle.vt_location.specs.declared.mounts.Propagation.{Propagation}
use Rattle.vt_location.specs.declared.numbers.GroupId.{GroupId}
use Rattle.vt_location.specs.MountValue.{propagation_of}
use Rattle.vt_location.specs.Numbers.{counted, group_number}
use Rattle.vt_group.specs.ByNumber.{Numbered, value_at}
use Rattle.vt_group.specs.Grouping.{Grouping, are_rising, master_in, propagation_in}
use Rattle.vt_group.specs.Handing.{group_handed, kind_handed}
use Rattle.vt_group.specs.Indexed.{Lists, group_at, has_source, is_lower, mount_at}
use Rattle.vt_group.specs.Sets.{same_group}
use Rattle.vt_group.specs.Steps.{handed, handed_entry, handed_peer, handed_type, numbered_master, numbered_peer}
use Rattle.vt_group.proofs.CountLemmas.{lookup-numbered}
use Rattle.vt_group.proofs.groups.Ending.{entries_ended, held_not, none_or, not_removed, removed_at, was_handed}
use Rattle.vt_group.proofs.EndedTypes.{lookup-changed, rising_numbers, type-ended}
use Rattle.vt_group.proofs.Handed.{group_seen, kind_seen, left_at, unhanded_group, unhanded_kind}
use Rattle.vt_group.proofs.Regrouping.{keys}
use Rattle.vt_group.proofs.IndexLemmas.{relative_of_source}
use Rattle.vt_group.proofs.Invariant.{at_nat}
use Rattle.vt_group.proofs.groups.Members.{member_found}
use Rattle.vt_group.proofs.Answering.{shown-type}
use Rattle.vt_group.proofs.SetsLemmas.{same_number}
use Rattle.vt_group.proofs.groups.Groups.end.Goals as goal

-- the groups that these types and masters mean
abbrev the_groups : List (ℕ × Propagation) → List (ℕ × GroupId) → Grouping
the_groups peers masters = record { peers = map numbered_peer peers; masters = map numbered_master masters }

pub returns-clause-ended : goal.returns-clause-ended
returns-clause-ended c =
    let lists = subst (λ kinds. Lists c.self.inside.index kinds c.self.inside.above) (sym c.forget.ensures) c.self.invariant in
    let view = ap (λ (kinds : Numbered Propagation). the_groups kinds.entries c.self.inside.above.entries) c.forget.ensures
    ∙ c.self.view_is in
    let lost = c.args.group in
    let number = counted c.args.group.count in
    let left : Option ℕ = option_map group_number c.get-heir.result in
    let heir : Option GroupId = c.get-heir.result in
    let told = ap (option_map group_number) c.get-heir.ensures
    ∙ sym (lookup-numbered group_number c.args.group.count c.self.inside.above.entries)
    ∙ ap (λ groups. master_in groups (counted c.args.group.count)) view in
    (λ i. record {
      peers = entries_ended propagation_of (λ mount. handed_type number left)
          c.forget.new.self.kinds.entries c.hand_mounts.new.types.kinds.entries lists.ordered
          (c.hand_mounts.ensures.ordered lists.ordered)
          (λ count. left_at propagation_of (kind_handed lost heir) (handed_type number left) (kind_seen lost heir)
          (value_at c.forget.new.self.kinds count) (value_at c.hand_mounts.new.types.kinds count) _
          (c.hand_mounts.ensures.each count)
          (λ kind at apart. unhanded_kind lost heir kind (held_not (has_source lost kind) _
          (λ source. c.relatives.ensures (mount_at count)
          (relative_of_source c.self.inside.index (mount_at count) kind lost source (lists.listed count kind at)))
          apart))) i;
      masters = entries_ended group_number
          (λ group master. if nat_eq group number then None else handed number left master)
          c.self.inside.above.entries c.remove.new.self.entries lists.ordered_above c.remove.ensures.ordered
          (λ count. removed_at group_number (handed number left) c.args.group.count count
          (value_at c.self.inside.above count) (value_at c.hand_groups.new.above count)
          (value_at c.remove.new.self count) (c.remove.ensures.updates count)
          (left_at group_number (group_handed lost heir) (handed number left) (group_seen lost heir)
          (value_at c.self.inside.above count) (value_at c.hand_groups.new.above count) _
          (c.hand_groups.ensures.each count)
          (λ master at apart. unhanded_group lost heir master (held_not (same_group master lost) _
          (λ same. c.lowers.ensures (group_at count)
          (ap (is_lower c.self.inside.index (group_at count)) (same_number master lost same)
          ∙ lists.lower count master at)) apart)))) i;
    }) ∙ (λ i. record {
      peers = filter_map (handed_peer number (told i)) (view i).peers;
      masters = filter_map (handed_entry number (told i)) (view i).masters;
    })

pub returns-clause-types : goal.returns-clause-types
returns-clause-types c mount =
    let lists = subst (λ kinds. Lists c.self.inside.index kinds c.self.inside.above) (sym c.forget.ensures) c.self.invariant in
    let view = ap (λ (kinds : Numbered Propagation). the_groups kinds.entries c.self.inside.above.entries) c.forget.ensures
    ∙ c.self.view_is in
    let groups = c.args.self.now in
    ap (λ now. propagation_in now mount) (returns-clause-ended c)
    ∙ type-ended (counted c.args.group.count) (master_in groups (counted c.args.group.count)) groups.peers
    (ap (λ old. are_rising (keys old.peers)) (sym view)
    ∙ rising_numbers propagation_of c.forget.new.self.kinds.entries lists.ordered) mount

pub returns-clause-masters : goal.returns-clause-masters
returns-clause-masters c other =
    let lists = subst (λ kinds. Lists c.self.inside.index kinds c.self.inside.above) (sym c.forget.ensures) c.self.invariant in
    let view = ap (λ (kinds : Numbered Propagation). the_groups kinds.entries c.self.inside.above.entries) c.forget.ensures
    ∙ c.self.view_is in
    let groups = c.args.self.now in
    let number = counted c.args.group.count in
    ap (λ now. master_in now other) (returns-clause-ended c) ∙ lookup-changed
    (λ group master. if nat_eq group number then None else handed number (master_in groups number) master) groups.masters
    (ap (λ old. are_rising (keys old.masters)) (sym view)
    ∙ rising_numbers group_number c.self.inside.above.entries lists.ordered_above) other
    ∙ none_or (nat_eq other number) (master_in groups other) (handed number (master_in groups number))

pub invariant_of-self : goal.invariant_of-self
invariant_of-self c =
    let lists = subst (λ kinds. Lists c.self.inside.index kinds c.self.inside.above) (sym c.forget.ensures) c.self.invariant in
    let view = ap (λ (kinds : Numbered Propagation). the_groups kinds.entries c.self.inside.above.entries) c.forget.ensures
    ∙ c.self.view_is in
    let lost = c.args.group in
    let number = counted lost.count in
    let heir : Option GroupId = c.get-heir.result in
    let index = c.self.inside.index in
    let old = c.args.self.now in
    let above = λ (master : GroupId) (is : heir ≡ Some master). lists.lower lost.count master
    (sym c.get-heir.ensures ∙ is) in
    record {
      listed = λ mount kind at.
          let was = was_handed (kind_handed lost heir) (value_at c.forget.new.self.kinds mount)
          (value_at c.hand_mounts.new.types.kinds mount) _ kind (c.hand_mounts.ensures.each mount)
          (λ kind at apart. unhanded_kind lost heir kind (held_not (has_source lost kind) _
          (λ source. c.relatives.ensures (mount_at mount)
          (relative_of_source index (mount_at mount) kind lost source (lists.listed mount kind at))) apart)) at in
          let seen = shown-type mount c.forget.new.self.kinds.entries (map numbered_master c.self.inside.above.entries) old
          view (Some was.0) (sym was.1) in
          c.end.ensures.kept.mounts (mount_at mount) was.0 kind above
          (λ shared. true≢false (sym (member_found number (counted mount) old.peers
          (ap (λ type. holds_of (nat_eq number) (group_of type)) (sym seen ∙ ap propagation_of shared)
          ∙ eq-eqb number number refl)) ∙ c.requires))
          (ap (λ (kinds : Numbered Propagation). is_some (value_at kinds mount)) c.kinds.ensures ∙ ap is_some at) was.2
          (lists.listed mount was.0 was.1);
      lower = λ lower upper at.
          let mid = not_removed _ _ _ upper (c.remove.ensures.updates lower) at in
          let was = was_handed (group_handed lost heir) (value_at c.self.inside.above lower)
          (value_at c.hand_groups.new.above lower) _ upper (c.hand_groups.ensures.each lower)
          (λ master at apart. unhanded_group lost heir master (held_not (same_group master lost) _
          (λ same. c.lowers.ensures (group_at lower)
          (ap (is_lower index (group_at lower)) (same_number master lost same)
          ∙ lists.lower lower master at)) apart)) mid.0 in
          c.end.ensures.kept.groups (group_at lower) was.0 upper above (sym (at_nat lost.count lower) ∙ mid.1)
          (ap is_some at) was.2 (lists.lower lower was.0 was.1);
      ordered = c.hand_mounts.ensures.ordered lists.ordered;
      ordered_above = c.remove.ensures.ordered;
    }
