use Rattle.std.proofs.Common.{ap, arith, find, nat_eq, option_map, rules, sym, ◌++◌, ◌∷◌, [], ◌∙◌, ℕ, filter_map, map-id, take_all}
use Rattle.vt_spec.proofs.Common.{Mount, map-append}
use Rattle.vt_location.specs.MountValue.{mount_of}
use Rattle.vt_location.specs.Numbers.{counted}
use Rattle.vt_mount.specs.Attached.{attached_in}
use Rattle.vt_mount.specs.MountsValue.{mounts_in}
use Rattle.vt_mount.proofs.AttachedLemmas.{attached_picked}
use Rattle.vt_listing.specs.GroupsListed.{all_seen, placed_seen}
use Rattle.vt_listing.proofs.ListedPeers.{each_placed, mounts_next, mounts_same}
use Rattle.vt_listing.proofs.table.MountTable.push_placed.Goals as goal
use Rattle.vt_listing.proofs.table.MountTable.push_placed.Goals.{in-Some+in_ok-push, in_default}

pub loop-id-preserved : goal.loop-id-preserved
loop-id-preserved c =
    let same : Mount ℕ → Mount ℕ = λ mount. mount in
    let mounts = mounts_in c.args.self.now.mounts.now in
    let ids = c.attached_in-id-items.result.now in
    let old = c.loop-id.invariant in
    elim c.match-get.branch [
      | in-Some+in_ok-push w ↦
          let next = mounts_next (λ id. option_map same (find (λ mount. nat_eq (counted id.count) mount.number) mounts))
          c.loop-id.id-index _ ids (let more = c.loop-id-test.true in search rules) c.args.number c.loop-id.place
          (all_seen c.args.placed.now.items) (all_seen c.loop-id.placed.items) old.0 old.1 old.2
          (mount_of w.in-Some.mount)
          (ap (option_map same) (sym c.get.ensures ∙ ap (option_map mount_of) w.in-Some.is)) in (
            omega (arith, w.place-is, next.0),
            w.place-is ∙ next.1,
            ap (λ placed. all_seen placed.items) w.placed-is ∙ ap all_seen w.in_ok-push.ensures.items
                ∙ map-append placed_seen c.loop-id.placed.items (_ ∷ []) ∙ next.2,
          )
      | in_default w ↦
          let next = mounts_same (λ id. option_map same (find (λ mount. nat_eq (counted id.count) mount.number) mounts))
          c.loop-id.id-index _ ids (let more = c.loop-id-test.true in search rules) c.args.number c.loop-id.place
          (all_seen c.args.placed.now.items) (all_seen c.loop-id.placed.items) old.0 old.1 old.2
          (ap (option_map same) (sym c.get.ensures ∙ ap (option_map mount_of) w.in_default.is)) in (
            omega (arith, w.place-is, next.0),
            w.place-is ∙ next.1,
            ap (λ placed. all_seen placed.items) w.placed-is ∙ next.2,
          )
    ]

pub returns : goal.returns
returns c = record {
  ok = let mounts = c.args.self.now.mounts.now in
      let namespace = counted c.args.namespace.count in
      let same : Mount ℕ → Mount ℕ = λ mount. mount in
      c.loop-id.invariant.2 ∙ ap (λ ids. all_seen c.args.placed.now.items ++ each_placed c.args.number (filter_map
      (λ id. option_map same (find (λ mount. nat_eq (counted id.count) mount.number) (mounts_in mounts))) ids))
      (take_all c.loop-id.id-index c.attached_in-id-items.result.now (let done = c.loop-id-test.false in search rules))
      ∙ ap (λ some. all_seen c.args.placed.now.items ++ each_placed c.args.number some)
      (attached_picked namespace mounts c.attached_in-id-items.ensures.order c.attached_in-id-items.result.now
      c.attached_in-id-items.ensures.are same ∙ map-id (attached_in namespace mounts));
}
