use Rattle.std.proofs.Common.{ap, nat_eq, ◌∙◌, ℕ}
use Rattle.vt_spec.proofs.Common.{World, groups_seen, number_among, type_line}
use Rattle.vt_cred.specs.MountFlags.{flags_of}
use Rattle.vt_location.specs.MountValue.{propagation_of}
use Rattle.vt_location.specs.Numbers.{counted}
use Rattle.vt_listing.specs.Shown.{world_shown}
use Rattle.vt_listing.proofs.ShownWorlds.{same_world}
use Rattle.vt_listing.proofs.table.MountTable.mount_line.Goals as goal

pub returns : goal.returns
returns c = record {
  ok = λ world mounts shows are seen groups i. record {
    mount_point = c.in_ok-point_shown.ensures.ok world mounts shows are i;
    overlay = (c.is_overlay.ensures ∙ shows.overlays c.args.mount.now.root.filesystem.count) i;
    filesystem = (c.filesystem_place.ensures
        ∙ ap (λ numbers. number_among nat_eq numbers (counted c.args.mount.now.root.filesystem.count)) seen) i;
    root = c.in_ok-root_spot.ensures.ok world shows i;
    flags = flags_of c.args.mount.now.flags;
    kind = (c.type_shown.ensures ∙ ap (λ numbers. type_line nat_eq (world_shown c.args.self.now) numbers
        (propagation_of c.args.mount.now.propagation)) groups
        ∙ ap (λ (shown : World ℕ). type_line nat_eq shown (groups_seen nat_eq shown mounts)
        (propagation_of c.args.mount.now.propagation)) (same_world c.args.self.now world shows)) i;
  };
}
