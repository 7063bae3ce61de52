use Rattle.std.proofs.Common.{ap, is_some, refl, subst, sym, ◌<◌, ◌∙◌}
use Rattle.vt_spec.proofs.Common.{uses_in}
use Rattle.vt_location.specs.Numbers.{most_counted}
use Rattle.vt_mounting.proofs.Common.{Filesystems, counted, entry_at, inodes_at, number_of, shown, some_copied}
use Rattle.vt_mounting.specs.Detach.Stored.{has_count}
use Rattle.vt_mounting.specs.Detach.Uses.{inode_of, mounted_in, pinned_in}
use Rattle.vt_mounting.proofs.attach.RoomLemmas.{granted, held_shown, uses_are_shown}
use Rattle.vt_mounting.proofs.detach.CountNoUses.{mounted_root, none_mounted, none_pinned, pin_granted, pins_plain, still_pinned, still_same}
use Rattle.vt_mounting.proofs.detach.Shown.{mounts_are_shown}
use Rattle.vt_mounting.proofs.attach.attaching.show_root.Goals as goal

pub returns-then-is_some-clause-uses : goal.returns-then-is_some-clause-uses
returns-then-is_some-clause-uses c =
    let store = c.args.store.now in
    let root = c.args.root in
    (pins_plain store c.requires.none root c.pin.new.self (pin_granted store c.requires.none root c.pin.result
    c.pin.new.self c.requires.uses c.pin.ensures.limit.0 c.pin.ensures.ok)).0
    ∙ mounted_root store c.requires.none root (sym (ap is_some c.overlay.ensures.value)
    ∙ sym (some_copied c.overlay.result) ∙ sym c.is_some.ensures ∙ c.if-is_some.true)

pub returns-then-is_some-clause-overlays : goal.returns-then-is_some-clause-overlays
returns-then-is_some-clause-overlays c =
    let store = c.args.store.now in
    (pins_plain store c.requires.none c.args.root c.pin.new.self (pin_granted store c.requires.none c.args.root
    c.pin.result c.pin.new.self c.requires.uses c.pin.ensures.limit.0 c.pin.ensures.ok)).1

pub returns-then-is_some-clause-still : goal.returns-then-is_some-clause-still
returns-then-is_some-clause-still c =
    let store = c.args.store.now in
    still_pinned store c.requires.none c.args.root c.pin.new.self (pin_granted store c.requires.none c.args.root
    c.pin.result c.pin.new.self c.requires.uses c.pin.ensures.limit.0 c.pin.ensures.ok)

pub returns-else-is_some-clause-uses : goal.returns-else-is_some-clause-uses
returns-else-is_some-clause-uses c =
    let root = c.args.root in
    let count = root.filesystem.count in
    let old = c.args.store.now.plain in
    let uses = uses_are_shown count (number_of root) old in
    let mounts = mounts_are_shown count old in
    let few : uses_in ((inodes_at c.plain_mut.result.now count).inode (number_of root)) < most_counted =
    subst (λ (all : Filesystems). uses_in ((inodes_at all count).inode (number_of root)) < most_counted)
    (sym c.plain_mut.ensures.value) (subst (λ n. n < most_counted) (sym uses) c.requires.uses) in
    let fewer : (entry_at c.plain_mut.result.now count).mounts < most_counted =
    subst (λ (all : Filesystems). (entry_at all count).mounts < most_counted)
    (sym c.plain_mut.ensures.value) (subst (λ n. n < most_counted) (sym mounts) c.requires.mounts) in
    held_shown count (number_of root) c.plain_mut.result.now c.hold_root.new.self
    (granted c.hold_root.result (c.hold_root.ensures.few fewer few) c.hold_root.ensures.ok)
    ∙ ap (λ all. mounted_in (counted count) (pinned_in (inode_of root) (shown all))) c.plain_mut.ensures.value

pub returns-else-is_some-clause-still : goal.returns-else-is_some-clause-still
returns-else-is_some-clause-still c =
    let root = c.args.root in
    let all = shown c.args.store.now.plain in
    still_same c.args.store.now c.requires.none
    (record { plain = c.hold_root.new.self; overlays = c.args.store.now.overlays }) refl
    (λ count none. ap (has_count count) (returns-else-is_some-clause-uses c)
    ∙ none_mounted (counted root.filesystem.count) (pinned_in (inode_of root) all) count
    (none_pinned (inode_of root) all count none))
