-- What a world shows, by what is kept of it.
use Rattle.std.proofs.Common.{◌≡◌, ◌≢◌, refl, sym, ap, ◌∙◌, ⊎_elim, true≢false, ℕ, nat_eq, eq-eqb, eqb-true, ne_eqb, Bool, true, false, ◌&&◌, List, [], ◌∷◌, filter, Option, Some, None, is_some, option_map, option_to_list, arith}
use Rattle.vt_spec.proofs.Common.{Among, Filesystem, IsTree, Layer, Overlay, among_from_list_all, and-false, and-true, and_parts, common_steps, filesystem_at, filesystem_numbered, holds_of, is_directory_at, is_directory_node, is_directory_under, is_point, is_removed, is_removed_at, list_all, list_any, mount_at, mount_numbered, mounts_on, no_mount, node_at, of_overlay, or-false, overlay_or, points_of, then_some, upper_object, upper_points}
use Rattle.vt_spec.specs.Machine.Mounts as meant
use Rattle.vt_mounting.proofs.Common.{IsHeld, WorldValue, born_in, counted, counted_test, directory_is_there, inode_number, is_small_node, location_of, mounts_in, number_numbered, number_of, numbered_all, world_of}
use Rattle.vt_laws_mounts.proofs.mounts.MountsFound.{found_or_none}
use Rattle.vt_location.specs.declared.locations.Location.{Location}
use Rattle.vt_location.specs.declared.locations.NodeRef.{NodeRef}
use Rattle.vt_location.proofs.NumberLemmas.{counted_inode}
use Rattle.vt_mount.specs.MountsValue.{stands_over}
pub use Rattle.vt_spec.proofs.Truths.{nat_eq_turned}
use Rattle.vt_mounting.specs.Detach.Looking.{is_seen}
use Rattle.vt_mounting.proofs.detach.NodesFound.{IsNodeIn, at_home, in_no_other, no_counted_inode, nodes_own}
use Rattle.vt_fs.proofs.TreesLookedAt.{nowhere_removed, nowhere_under, under_nowhere}

either_false : (a b : Bool) → (a && b) ≡ false → (P : Type 0) → (a ≡ false → P) → (a ≡ true → b ≡ false → P) → P
either_false true b e P first second = second refl e
either_false false b e P first second = first refl

-- a list is filtered by a test that is another one, or none at all
any_filtered : {A : Type 0} (seen : Bool) (on over test : A → Bool) (xs : List A)
    → ((x : A) → Among x xs → on x ≡ (seen && over x))
    → list_any test (filter on xs) ≡ (seen && list_any (λ x. over x && test x) xs)
any_filtered {A = A} seen on over test [] same = sym (and-false seen)
any_filtered {A = A} seen on over test (x ∷ xs) same = grind (arith, common_steps, any_filtered seen on over test xs)

module _ (value : WorldValue) (held : IsHeld value) where
  -- what is not in a tree is not its root
  root_there : (count owner slot : ℕ)
      → (filesystem_numbered nat_eq (world_of value) (counted count)).files.tree.node (inode_number owner slot) ≡ None
      → inode_number owner slot ≢ (filesystem_numbered nat_eq (world_of value) (counted count)).files.tree.root
  root_there count owner slot none same = ⊎_elim
      (λ tree. true≢false (sym (directory_is_there (found.files.tree.node found.files.tree.root) tree.root_directory)
      ∙ ap (λ n. is_some (found.files.tree.node n)) (sym same) ∙ ap is_some none))
      (λ missing. counted_inode count owner slot (sym (same ∙ ap (λ (f : Filesystem ℕ). f.files.tree.root) missing.0)))
      (numbered_all (λ (f : Filesystem ℕ). IsTree f.files.tree) (counted count) (world_of value).filesystems
      held.in_world.files.trees)
    where
      found : Filesystem ℕ
      found = filesystem_numbered nat_eq (world_of value) (counted count)

  -- a mount that is there has its root, and what its mount point is on
  mount_shows : (mount : meant.Mount ℕ) → Among mount (mounts_in value.mounts)
      → (is_directory_node ((filesystem_numbered nat_eq (world_of value) mount.filesystem).files.tree.node mount.root)
      ≡ true) × (list_all (is_directory_at nat_eq (world_of value)) (option_to_list mount.mount_point) ≡ true)
  mount_shows mount m = grind (arith, common_steps, and_parts, among_from_list_all)

  root_node : (mount : meant.Mount ℕ) → Among mount (mounts_in value.mounts) → IsNodeIn mount.filesystem mount.root
  root_node mount m = nodes_own value held mount.filesystem mount.root (directory_is_there _ (mount_shows mount m).0)

  -- the filesystem that a mount shows is counted
  pub shown_counted : (number : ℕ)
      → (count : ℕ) × ((mount_numbered nat_eq (world_of value) (counted number)).filesystem ≡ counted count)
  shown_counted number = ⊎_elim
      (λ m. let node = root_node (mount_numbered nat_eq (world_of value) (counted number)) m in
      (node.0.filesystem.count, node.2)) (λ none. (number, ap (λ (mount : meant.Mount ℕ). mount.filesystem) none))
      (found_or_none (mounts_in value.mounts) (counted number))

  module _ (at : Location) (small : is_small_node at.node ≡ true) where
    -- one that is not seen has no inode
    pub unseen_node : is_seen value at ≡ false → node_at nat_eq (world_of value) (location_of at) ≡ None
    unseen_node unseen =
        in_no_other value held (mount_at nat_eq (world_of value) (location_of at)).filesystem at.node small unseen

    -- and counts as removed
    pub unseen_removed : is_seen value at ≡ false → is_removed_at nat_eq (world_of value) (location_of at) ≡ true
    unseen_removed unseen =
        let shown = shown_counted at.mount.count in
        let is = ap (filesystem_numbered nat_eq (world_of value)) shown.1 in
        let none = ap (λ (filesystem : Filesystem ℕ). filesystem.files.tree.node (number_of at.node)) (sym is)
        ∙ unseen_node unseen in
        ap (λ (filesystem : Filesystem ℕ). is_removed nat_eq filesystem.files.tree (number_of at.node)) is
        ∙ nowhere_removed (filesystem_numbered nat_eq (world_of value) (counted shown.0)).files.tree
        (number_of at.node) none (ne_eqb (number_of at.node)
        (filesystem_numbered nat_eq (world_of value) (counted shown.0)).files.tree.root
        (root_there shown.0 (born_in at.node.filesystem.count at.node.birth) at.node.slot none))

    -- a directory lies under what is seen in another filesystem, or not seen, only where it is that itself
    pub under_another : (directory : NodeRef) → is_small_node directory ≡ true
        → (is_seen value at && nat_eq directory.filesystem.count at.node.filesystem.count) ≡ false
        → is_directory_under nat_eq (filesystem_at nat_eq (world_of value) (location_of at)).files (number_of at.node)
        (number_of directory) ≡ nat_eq (number_of at.node) (number_of directory)
    under_another directory directory_small apart =
        either_false (is_seen value at) (nat_eq directory.filesystem.count at.node.filesystem.count) apart _
        (λ unseen. under_nowhere (filesystem_at nat_eq (world_of value) (location_of at)).files (number_of at.node)
        (number_of directory) (unseen_node unseen)) (λ seen other.
        nowhere_under (filesystem_at nat_eq (world_of value) (location_of at)).files (number_of at.node)
        (number_of directory) (in_no_other value held (mount_at nat_eq (world_of value) (location_of at)).filesystem
        directory directory_small (ap (λ n. nat_eq n (counted directory.filesystem.count))
        (eqb-true (mount_at nat_eq (world_of value) (location_of at)).filesystem
        (counted at.node.filesystem.count) seen) ∙ counted_test at.node.filesystem.count directory.filesystem.count
        ∙ nat_eq_turned at.node.filesystem.count directory.filesystem.count ∙ other)))

    -- the mounts that stand on an inode, through whatever mount
    pub points_are : points_of nat_eq (world_of value) (location_of at)
        ≡ ((mount_at nat_eq (world_of value) (location_of at)).filesystem, number_of at.node) ∷ []
    points_are = λ i. (
      number_numbered shown (world_of value).filesystems i,
      number_of at.node,
    ) ∷ no_upper (filesystem_numbered nat_eq (world_of value) shown).overlay read_only i
      where
        shown : ℕ
        shown = (mount_at nat_eq (world_of value) (location_of at)).filesystem

        -- an overlay has no upper layer
        read_only : of_overlay false (λ overlay. is_some overlay.upper)
            (filesystem_numbered nat_eq (world_of value) shown) ≡ false
        read_only = ⊎_elim (λ none. none)
            (λ missing. ap (of_overlay false (λ overlay. is_some overlay.upper)) missing.0)
            (numbered_all (λ (f : Filesystem ℕ). of_overlay false (λ overlay. is_some overlay.upper) f ≡ false) shown
            (world_of value).filesystems held.overlays.read_only)

        without : (overlay : Overlay ℕ) (o : Option (Layer ℕ)) → is_some o ≡ false
            → option_to_list {X = ℕ × ℕ} (then_some o
            (λ layer. option_map (λ object. (layer.filesystem, object)) (upper_object (overlay.real (number_of at.node)))))
            ≡ []
        without overlay None e = refl
        without overlay (Some layer) e = absurd (true≢false e)

        no_upper : (o : Option (Overlay ℕ)) → overlay_or false (λ overlay. is_some overlay.upper) o ≡ false
            → overlay_or [] (λ overlay. upper_points (world_of value)
            (filesystem_numbered nat_eq (world_of value) shown) overlay (number_of at.node)) o ≡ []
        no_upper None e = refl
        no_upper (Some overlay) e = without overlay overlay.upper e

    -- a mount is a mount point of the location just where it stands over its inode
    pub point_seen : (mount : meant.Mount ℕ) → Among mount (mounts_in value.mounts)
        → list_any (λ (point : ℕ × ℕ). is_point nat_eq (world_of value) point.0 point.1 mount)
        (points_of nat_eq (world_of value) (location_of at))
        ≡ (is_seen value at && stands_over (number_of at.node) mount)
    point_seen mount m =
        ap (list_any (λ (point : ℕ × ℕ). is_point nat_eq (world_of value) point.0 point.1 mount)) points_are
        ∙ or-false _ ∙ by mount.mount_point (mount_shows mount m).1
      where
        there : (place : meant.Location ℕ) → is_some (node_at nat_eq (world_of value) place) ≡ true → (b : Bool)
            → nat_eq place.node (number_of at.node) ≡ b
            → (b && nat_eq (mount_at nat_eq (world_of value) place).filesystem
            (mount_at nat_eq (world_of value) (location_of at)).filesystem) ≡ (is_seen value at && b)
        there place is false e = sym (and-false (is_seen value at))
        there place is true e =
            let home = at_home held (mount_at nat_eq (world_of value) place).filesystem at.node small
            (ap (λ n. is_some ((filesystem_numbered nat_eq (world_of value)
            (mount_at nat_eq (world_of value) place).filesystem).files.tree.node n))
            (sym (eqb-true place.node (number_of at.node) e)) ∙ is) in
            cc (
              nat_eq_turned (counted at.node.filesystem.count) (mount_at nat_eq (world_of value) (location_of
                  at)).filesystem,
              and-true (is_seen value at),
            )

        by : (o : Option (meant.Location ℕ))
            → list_all (is_directory_at nat_eq (world_of value)) (option_to_list o) ≡ true
            → holds_of (λ place. nat_eq place.node (number_of at.node)
            && nat_eq (mount_at nat_eq (world_of value) place).filesystem
            (mount_at nat_eq (world_of value) (location_of at)).filesystem) o
            ≡ (is_seen value at && holds_of (λ place. nat_eq place.node (number_of at.node)) o)
        by None e = sym (and-false (is_seen value at))
        by (Some place) e = there place (directory_is_there (node_at nat_eq (world_of value) place)
            (and_parts (is_directory_at nat_eq (world_of value) place) true e).0)
            (nat_eq place.node (number_of at.node)) refl

    -- one that passes stands there just where one stands over the inode that is seen
    pub any_point : (test : meant.Mount ℕ → Bool) → list_any test (mounts_on nat_eq (world_of value) (location_of at))
        ≡ (is_seen value at && list_any (λ mount. stands_over (number_of at.node) mount && test mount)
        (mounts_in value.mounts))
    any_point test = any_filtered (is_seen value at)
        (λ mount. list_any (λ (point : ℕ × ℕ). is_point nat_eq (world_of value) point.0 point.1 mount)
        (points_of nat_eq (world_of value) (location_of at)))
        (stands_over (number_of at.node)) test (mounts_in value.mounts) point_seen

    -- the root of a mount that shows another filesystem is another inode
    root_apart : is_seen value at ≡ false
        → nat_eq (mount_at nat_eq (world_of value) (location_of at)).root (number_of at.node) ≡ false
    root_apart unseen = ne_eqb (mount_at nat_eq (world_of value) (location_of at)).root (number_of at.node) (⊎_elim
        (λ m same.
        let mount = mount_at nat_eq (world_of value) (location_of at) in
        let home = at_home held mount.filesystem at.node small
        (ap (λ n. is_some ((filesystem_numbered nat_eq (world_of value) mount.filesystem).files.tree.node n))
        (sym same) ∙ directory_is_there _ (mount_shows mount m).0) in
        true≢false (sym (eq-eqb mount.filesystem (counted at.node.filesystem.count) home) ∙ unseen)) (λ none same.
        counted_inode at.mount.count (born_in at.node.filesystem.count at.node.birth) at.node.slot
        (sym (ap (λ (mount : meant.Mount ℕ). mount.root) none) ∙ same))
        (found_or_none (mounts_in value.mounts) (counted at.mount.count)))

    -- a location that is not seen lies under no root
    pub unseen_root : is_seen value at ≡ false
        → is_directory_under nat_eq (filesystem_at nat_eq (world_of value) (location_of at)).files
        (mount_at nat_eq (world_of value) (location_of at)).root (number_of at.node) ≡ false
    unseen_root unseen = nowhere_under (filesystem_at nat_eq (world_of value) (location_of at)).files
        (mount_at nat_eq (world_of value) (location_of at)).root (number_of at.node) (unseen_node unseen)
        ∙ root_apart unseen

    -- nor does one on a mount that is not there
    pub missing_root : mount_at nat_eq (world_of value) (location_of at) ≡ no_mount (counted at.mount.count)
        → is_directory_under nat_eq (filesystem_at nat_eq (world_of value) (location_of at)).files
        (mount_at nat_eq (world_of value) (location_of at)).root (number_of at.node) ≡ false
    missing_root none =
        cc (
          under_nowhere (filesystem_numbered nat_eq (world_of value) (counted at.mount.count)).files (counted
              at.mount.count) (number_of at.node) (no_counted_inode value held (counted at.mount.count) at.mount.count),
          ne_eqb (counted at.mount.count) (number_of at.node) (counted_inode at.mount.count (born_in
              at.node.filesystem.count at.node.birth) at.node.slot),
        )
