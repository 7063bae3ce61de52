use Rattle.std.proofs.Common.{List, ap, find, nat_eq, option_map, rules, sym, ◌∙◌, ℕ, filter_map, flat_map, take_all}
use Rattle.vt_spec.proofs.Common.{Mount, each_once, groups_shown}
use Rattle.std.proofs.lemmas.List.Folds.{flat_map-map}
use Rattle.vt_location.specs.MountValue.{mount_of}
use Rattle.vt_location.specs.Numbers.{counted}
use Rattle.vt_mount.specs.Attached.{attached_in}
use Rattle.vt_mount.specs.MountsValue.{mounts_in}
use Rattle.vt_mount.proofs.AttachedLemmas.{attached_picked}
use Rattle.vt_listing.specs.GroupsListed.{group_numbers}
use Rattle.vt_listing.specs.Shown.{world_shown}
use Rattle.vt_listing.proofs.MountLines.{next_groups, no_groups}
use Rattle.vt_listing.proofs.table.MountTable.groups_in.Goals as goal
use Rattle.vt_listing.proofs.table.MountTable.groups_in.Goals.{in-Some+in_ok-see_type, in_default}

pub loop-id-preserved : goal.loop-id-preserved
loop-id-preserved c =
    let change : Mount ℕ → List ℕ = groups_shown (world_shown c.args.self.now) in
    elim c.match-get.branch [
      | in-Some+in_ok-see_type w ↦ ap (λ seen. group_numbers seen.keys) w.seen-is ∙ next_groups (λ id. option_map change
          (find (λ mount. nat_eq (counted id.count) mount.number) (mounts_in c.args.self.now.mounts.now)))
          c.loop-id.id-index _ c.attached_in-id-items.result.now (let more = c.loop-id-test.true in search rules)
          c.loop-id.seen.keys c.loop-id.invariant _ _ (ap (option_map change) (sym c.get.ensures
          ∙ ap (option_map mount_of) w.in-Some.is)) w.in_ok-see_type.ensures.ok
      | in_default w ↦
          ap (λ seen. group_numbers seen.keys) w.seen-is ∙ no_groups (λ id. option_map change
          (find (λ mount. nat_eq (counted id.count) mount.number) (mounts_in c.args.self.now.mounts.now)))
          c.loop-id.id-index _ c.attached_in-id-items.result.now (let more = c.loop-id-test.true in search rules)
          c.loop-id.seen.keys c.loop-id.invariant
          (ap (option_map change) (sym c.get.ensures ∙ ap (option_map mount_of) w.in_default.is))
    ]

pub returns : goal.returns
returns c = record {
  ok = let mounts = c.args.self.now.mounts.now in
      let change : Mount ℕ → List ℕ = groups_shown (world_shown c.args.self.now) in
      c.loop-id.invariant ∙ ap (λ ids. each_once nat_eq (flat_map (λ more. more) (filter_map
      (λ id. option_map change (find (λ mount. nat_eq (counted id.count) mount.number) (mounts_in mounts))) ids)))
      (take_all c.loop-id.id-index c.attached_in-id-items.result.now (let done = c.loop-id-test.false in search rules))
      ∙ ap (λ some. each_once nat_eq (flat_map (λ more. more) some))
      (attached_picked (counted c.args.namespace.count) mounts c.attached_in-id-items.ensures.order
      c.attached_in-id-items.result.now c.attached_in-id-items.ensures.are change)
      ∙ ap (each_once nat_eq) (flat_map-map (λ more. more) change (attached_in (counted c.args.namespace.count) mounts));
}
