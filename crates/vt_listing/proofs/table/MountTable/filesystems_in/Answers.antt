use Rattle.std.proofs.Common.{ap, find, nat_eq, option_map, rules, sym, ◌∙◌, ℕ, filter_map, take_all}
use Rattle.vt_spec.proofs.Common.{Mount, each_once}
use Rattle.vt_location.specs.MountValue.{mount_of}
use Rattle.vt_location.specs.Numbers.{counted}
use Rattle.vt_mount.specs.MountsValue.{mounts_in}
use Rattle.vt_mount.proofs.AttachedLemmas.{attached_picked}
use Rattle.vt_listing.proofs.MountLines.{next_seen, none_seen, numbers_of}
use Rattle.vt_listing.proofs.table.MountTable.filesystems_in.Goals as goal
use Rattle.vt_listing.proofs.table.MountTable.filesystems_in.Goals.{in-Some+in_ok-insert, in_default}

pub loop-id-preserved : goal.loop-id-preserved
loop-id-preserved c =
    let change : Mount ℕ → ℕ = λ mount. mount.filesystem in
    elim c.match-get.branch [
      | in-Some+in_ok-insert w ↦ ap (λ seen. numbers_of seen.keys) w.seen-is
          ∙ ap numbers_of (let inserted = w.in_ok-insert.ensures.keys in search rules)
          ∙ next_seen (λ id. option_map change
          (find (λ mount. nat_eq (counted id.count) mount.number) (mounts_in c.args.self.now.mounts.now)))
          c.loop-id.id-index _ c.attached_in-id-items.result.now (let more = c.loop-id-test.true in search rules)
          c.loop-id.seen.keys c.loop-id.invariant w.in-Some.mount.root.filesystem
          (ap (option_map change) (sym c.get.ensures ∙ ap (option_map mount_of) w.in-Some.is))
      | in_default w ↦
          ap (λ seen. numbers_of seen.keys) w.seen-is ∙ none_seen (λ id. option_map change
          (find (λ mount. nat_eq (counted id.count) mount.number) (mounts_in c.args.self.now.mounts.now)))
          c.loop-id.id-index _ c.attached_in-id-items.result.now (let more = c.loop-id-test.true in search rules)
          c.loop-id.seen.keys c.loop-id.invariant
          (ap (option_map change) (sym c.get.ensures ∙ ap (option_map mount_of) w.in_default.is))
    ]

pub returns : goal.returns
returns c = record {
  ok = let mounts = c.args.self.now.mounts.now in
      let change : Mount ℕ → ℕ = λ mount. mount.filesystem in
      c.loop-id.invariant ∙ ap (λ ids. each_once nat_eq (filter_map
      (λ id. option_map change (find (λ mount. nat_eq (counted id.count) mount.number) (mounts_in mounts))) ids))
      (take_all c.loop-id.id-index c.attached_in-id-items.result.now (let done = c.loop-id-test.false in search rules))
      ∙ ap (each_once nat_eq) (attached_picked (counted c.args.namespace.count) mounts c.attached_in-id-items.ensures.order
      c.attached_in-id-items.result.now c.attached_in-id-items.ensures.are change);
}
