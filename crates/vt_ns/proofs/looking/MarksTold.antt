-- What stat(2) and read(2) tell of what is lent is what the definitions tell of the inode.
use Rattle.std.proofs.Common.{◌≡◌, refl, sym, ℕ, nat_eq, true, false, Option, Some, None, is_some, option_map, arith}
use Rattle.vt_spec.proofs.Common.{Filesystem, Node, Overlay, filesystem_at, is_opaque_in, is_overlay_at, mount_at, node_at, none_is_some, stat_line, common_steps}
use Rattle.vt_spec.specs.Machine.Mounts as meant
use Rattle.vt_ns.proofs.Common.{IsHeld, WorldValue, looks_of_value, node_seen, world_of}
use Rattle.vt_world.specs.Lent.{count_of, lent_by}
use Rattle.vt_ns.specs.Lent.{as_lent, real_of_value}
use Rattle.vt_ns.specs.Told.{told_by}

-- what is lent of a plain tree has the mark
plain_told : (count : ℕ) (node : Option (Node ℕ))
    → told_by false (as_lent node (option_map (node_seen count) node)) ≡ stat_line node
plain_told count None = refl
plain_told count (Some node) = grind (arith, common_steps)

-- what is lent of an overlay is told without one
merged_told : (node lent : Option (Node ℕ)) → is_opaque_in node ≡ false → told_by true (as_lent node lent) ≡ stat_line node
merged_told None lent none = refl
merged_told (Some node) None none = λ i. record (stat_line (Some node)) { opaque = sym none i }
merged_told (Some node) (Some lent) none = grind (arith, common_steps)

-- where nothing is lent, nothing is there
pub none_lent : (node lent : Option (Node ℕ)) → as_lent node lent ≡ None → node ≡ None
none_lent None lent e = refl
none_lent (Some node) None e = none_is_some node (sym e)
none_lent (Some node) (Some lent) e = cc

module _ (value : WorldValue) (held : IsHeld value) (at : meant.Location ℕ) where
  abbrev filesystem : Filesystem ℕ
  filesystem = filesystem_at nat_eq (world_of value) at

  -- no inode of an overlay has a mark
  pub told_is : told_by (is_overlay_at (looks_of_value value) at) (real_of_value value at)
      ≡ stat_line (node_at nat_eq (world_of value) at)
  told_is = by filesystem.overlay refl
    where
      by : (o : Option (Overlay ℕ)) → filesystem.overlay ≡ o → told_by (is_some o)
          (as_lent (filesystem.files.tree.node at.node) (lent_by (world_of value) at.node filesystem o))
          ≡ stat_line (filesystem.files.tree.node at.node)
      by None e = plain_told (count_of filesystem.number) (filesystem.files.tree.node at.node)
      by (Some overlay) e = merged_told (filesystem.files.tree.node at.node)
          (lent_by (world_of value) at.node filesystem (Some overlay))
          ((held.in_world.overlays.overlays_merge (mount_at nat_eq (world_of value) at).filesystem overlay e).no_mark
          at.node)
