use Rattle.std.proofs.Common.{[], ap, map, refl, subst, sym, is_some, true, ◌≡◌, ◌∙◌}
use Rattle.vt_mounting.proofs.Common.{Overlays, counted, number_of, shown, some_copied}
use Rattle.vt_mounting.specs.Detach.Stored.{merged_of}
use Rattle.vt_mounting.specs.Detach.Uses.{Kept, leave_filesystem, merged_at, unpinned_in}
use Rattle.vt_mounting.proofs.detach.CountNoUses.{still_left, unpins_plain}
use Rattle.vt_mounting.proofs.detach.OverlaysListed.{left_itself, left_twice}
use Rattle.vt_mounting.proofs.detach.Shown.{left_shown, unpins}
use Rattle.vt_mounting.proofs.detach.StoresLeft.{merged_leaves, merged_there, plain_leaves}
use Rattle.vt_mounting.proofs.detach.uses.leave_root.Goals as goal

pub returns-then-is_some-clause-left : goal.returns-then-is_some-clause-left
returns-then-is_some-clause-left c =
    let f = c.args.root.filesystem.count in
    let old = c.args.store.now.overlays in
    let done = unpins_plain c.args.store.now c.requires c.args.root c.unpin.new.self c.unpin.ensures in
    merged_leaves (counted f) c.unpin.new.self c.leave_overlay.new.store c.leave_overlay.ensures.left
    (subst (λ (overlays : Overlays). is_some (merged_at (counted f) (map merged_of overlays)) ≡ true) (sym done.1)
    (merged_there f old ∙ sym (ap is_some c.overlay.ensures.value) ∙ sym (some_copied c.overlay.result)
    ∙ sym c.is_some.ensures ∙ c.if-is_some.true))
    ∙ ap (leave_filesystem (counted f))
    (λ i. record { mounts = []; filesystems = done.0 i; overlays = map merged_of (done.1 i) })

pub returns-else-is_some-clause-left : goal.returns-else-is_some-clause-left
returns-else-is_some-clause-left c =
    let f = c.args.root.filesystem.count in
    let number = number_of c.args.root in
    let overlays = c.args.store.now.overlays in
    let left = c.leave_root.ensures in
    plain_leaves (counted f) (record { plain = left.between; overlays = overlays })
    (record { plain = c.leave_root.new.self; overlays = overlays })
    (merged_there f overlays ∙ sym (ap is_some c.overlay.ensures.value)
    ∙ sym (some_copied c.overlay.result) ∙ sym c.is_some.ensures ∙ c.if-is_some.false)
    (left_shown f left.between c.leave_root.new.self left.left) refl
    ∙ ap (leave_filesystem (counted f)) (λ i. record {
      mounts = [];
      filesystems = (unpins f number c.plain_mut.result.now left.between left.unpins
          ∙ ap (λ all. unpinned_in (counted f, number) (shown all)) c.plain_mut.ensures.value) i;
      overlays = map merged_of overlays;
    })

pub returns-then-is_some-clause-overlays : goal.returns-then-is_some-clause-overlays
returns-then-is_some-clause-overlays c =
    let done = unpins_plain c.args.store.now c.requires c.args.root c.unpin.new.self c.unpin.ensures in
    left_twice c.args.store.now.overlays c.unpin.new.self.overlays c.leave_overlay.new.store.overlays
    (left_itself c.args.store.now.overlays c.unpin.new.self.overlays done.1) c.leave_overlay.ensures.overlays

pub returns-else-is_some-clause-overlays : goal.returns-else-is_some-clause-overlays
returns-else-is_some-clause-overlays c = left_itself c.args.store.now.overlays c.args.store.now.overlays refl

pub returns-then-is_some-clause-still : goal.returns-then-is_some-clause-still
returns-then-is_some-clause-still c = still_left c.args.store.now c.requires (counted c.args.root.filesystem.count)
    (number_of c.args.root) (map merged_of c.args.store.now.overlays) c.leave_overlay.new.store
    (returns-then-is_some-clause-overlays c) (ap (λ (k : Kept). k.filesystems) (returns-then-is_some-clause-left c))

pub returns-else-is_some-clause-still : goal.returns-else-is_some-clause-still
returns-else-is_some-clause-still c = still_left c.args.store.now c.requires (counted c.args.root.filesystem.count)
    (number_of c.args.root) (map merged_of c.args.store.now.overlays)
    (record { plain = c.leave_root.new.self; overlays = c.args.store.now.overlays })
    (returns-else-is_some-clause-overlays c) (ap (λ (k : Kept). k.filesystems) (returns-else-is_some-clause-left c))
