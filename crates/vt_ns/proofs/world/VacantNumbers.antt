-- The number of an inode that its filesystem does not have is not in use.
use Rattle.std.proofs.Common.{◌≡◌, refl, ap, ◌∙◌, inl, inr, ℕ, ◌<◌, ◌≤◌, ◌%◌, ◌==◌, nat_eq, ne_eqb, eqb-true, true, false, ◌||◌, List, [], ◌∷◌, ◌++◌, map, flat_map, Option, Some, None, is_some, arith}
use Rattle.vt_spec.proofs.Common.{Filesystem, IsTree, ListsNumbers, Namespace, Node, and_parts, filesystem_numbered, is_among, list_all, list_any-append, node_in, used_by_filesystem, used_by_mount, common_steps}
use Rattle.vt_ns.proofs.Common.{Among, FilesystemEntry, IsHeld, MountEntry, NamespaceEntry, WorldValue, among_from_all, counted, directory_is_there, found_plain_one, here_number, inode_number, inodes_seen, is_counted_before, is_small_node, mounts_in, namespace_of, number_of, small_parts, world_of}
use Rattle.vt_laws_mounts.proofs.letting_go.sweeps.OfWorlds.{found_filesystem}
use Rattle.vt_location.specs.declared.births.Birth.TheVariants.{Here}
use Rattle.vt_location.specs.declared.locations.NodeRef.{NodeRef}
use Rattle.vt_location.specs.Births.{born_in}
use Rattle.vt_mount.specs.Sources.{has_counted_source}
use Rattle.vt_laws_worlds.proofs.permits.in_use.InUseServes.{leaves_two}
use Rattle.vt_laws_worlds.specs.Permits.InUse.{is_in_use}
use Rattle.vt_laws_rules.proofs.numbers.Supports.{used_numbers_are_named}
use Rattle.vt_world.specs.Held.{HasOwnNodes}
use Rattle.vt_ns.specs.Vacancy.{IsVacant, NextFilesystemIsNew, NextRootIsVacant}
use Rattle.vt_mounting.proofs.detach.NodesFound.{in_no_other, own_nodes}
use Rattle.vt_mounting.proofs.attach.NewFilesystems.{found_below}
use Rattle.vt_mounting.proofs.attach.OverlayNodes.{small_node}

module _ (count slot : ℕ) (small : slot < 18446744073709551616) where
  abbrev number : ℕ
  number = inode_number count slot

  -- the number of an inode is even
  pub is_even : number % 2 ≡ 0
  is_even = omega arith

  not_counted : (c : ℕ) → nat_eq number (counted c) ≡ false
  not_counted c = ne_eqb number (counted c) (λ e. omega (arith, e))

  in_no_mount : (all : List MountEntry) → list_all (λ mount. mount.number % 4 == 1) (mounts_in all) ≡ true
      → list_all has_counted_source (mounts_in all) ≡ true
      → is_among nat_eq number (flat_map used_by_mount (mounts_in all)) ≡ false
  in_no_mount [] odd sources = refl
  in_no_mount (entry ∷ rest) odd sources =
      let odds = and_parts _ _ odd in
      let own = and_parts (has_counted_source entry.mount) _ sources in
      grind (arith, common_steps, in_no_mount rest odds.1 own.1, eqb-true (entry.mount.number % 4) 1 odds.0)

  in_no_filesystem : (all : List (Filesystem ℕ)) → ((f : Filesystem ℕ) → Among f all
      → (nat_eq number f.number ≡ false) × (is_among nat_eq number f.files.numbers ≡ false))
      → is_among nat_eq number (flat_map used_by_filesystem all) ≡ false
  in_no_filesystem [] none = refl
  in_no_filesystem (f ∷ rest) none =
      let first = none f (inl refl) in
      (λ i. first.0 i || (list_any-append (nat_eq number) f.files.numbers (flat_map used_by_filesystem rest)
      ∙ (λ j. first.1 j || in_no_filesystem rest (λ other m. none other (inr m)) j)) i)

  in_no_namespace : (all : List NamespaceEntry)
      → is_among nat_eq number (map (λ (namespace : Namespace ℕ). namespace.number) (map namespace_of all)) ≡ false
  in_no_namespace [] = refl
  in_no_namespace (entry ∷ rest) = λ i. not_counted entry.count i || in_no_namespace rest i

-- a node that its filesystem does not have
module _ (value : WorldValue) (whole : IsHeld value)
    (odd : list_all (λ mount. mount.number % 4 == 1) (mounts_in value.mounts) ≡ true)
    (sources : list_all has_counted_source (mounts_in value.mounts) ≡ true)
    (node : NodeRef) (small_node : is_small_node node ≡ true)
    (missing : (filesystem_numbered nat_eq (world_of value) (counted node.filesystem.count)).files.tree.node
    (number_of node) ≡ None) where
  abbrev born : ℕ
  born = born_in node.filesystem.count node.birth

  small_slot : node.slot < 18446744073709551616
  small_slot = (small_parts node small_node).slot

  found : (f : Filesystem ℕ) → Among f (world_of value).filesystems
      → filesystem_numbered nat_eq (world_of value) f.number ≡ f
  found f m = found_filesystem (world_of value).filesystems whole.in_world.files.one_filesystem f m

  -- no filesystem has an inode of this number
  in_none : (f : Filesystem ℕ) → Among f (world_of value).filesystems → f.files.tree.node (number_of node) ≡ None
  in_none f m = grind (arith, common_steps, found, counted, eqb-true, in_no_other, small_node)

  -- nor this number itself
  numbered_otherwise : (f : Filesystem ℕ) → Among f (world_of value).filesystems → nat_eq (number_of node) f.number ≡ false
  numbered_otherwise f m =
      let root = among_from_all HasOwnNodes (world_of value).filesystems (own_nodes value whole) f m f.files.tree.root
      (directory_is_there (f.files.tree.node f.files.tree.root)
      (among_from_all (λ (g : Filesystem ℕ). IsTree g.files.tree) (world_of value).filesystems
      whole.in_world.files.trees f m).root_directory) in
      ap (nat_eq (number_of node)) root.2 ∙ not_counted born node.slot small_slot root.0.filesystem.count

  -- a number that is not counted yet is not in use
  pub is_unused : is_in_use (world_of value) (number_of node) ≡ false
  is_unused = list_any-append (nat_eq (number_of node))
      (flat_map used_by_mount (world_of value).mounts ++ flat_map used_by_filesystem (world_of value).filesystems)
      (map (λ (namespace : Namespace ℕ). namespace.number) (world_of value).namespaces) ∙ (λ i.
      (list_any-append (nat_eq (number_of node)) (flat_map used_by_mount (world_of value).mounts)
      (flat_map used_by_filesystem (world_of value).filesystems)
      ∙ (λ j. in_no_mount born node.slot small_slot value.mounts odd sources j
      || in_no_filesystem born node.slot small_slot (world_of value).filesystems (λ f m. (
        numbered_otherwise f m,
        among_from_all (λ (g : Filesystem ℕ). ListsNumbers nat_eq g.files) (world_of value).filesystems
            whole.in_world.files.numbers f m (number_of node) ∙ ap is_some (in_none f m),
      )) j)) i || in_no_namespace born node.slot small_slot value.namespaces i)

-- nothing is found in a filesystem that is not counted yet
none_there : (value : WorldValue) → IsHeld value → (node : NodeRef) → value.next ≤ node.filesystem.count
    → (filesystem_numbered nat_eq (world_of value) (counted node.filesystem.count)).files.tree.node (number_of node)
    ≡ None
none_there value whole node above =
    by ((filesystem_numbered nat_eq (world_of value) (counted node.filesystem.count)).files.tree.node (number_of node))
    refl
  where
    by : (o : Option (Node ℕ))
        → (filesystem_numbered nat_eq (world_of value) (counted node.filesystem.count)).files.tree.node (number_of node)
        ≡ o → o ≡ None
    by None e = refl
    by (Some found) e =
        let below = found_below value whole (counted node.filesystem.count) (number_of node) (ap is_some e) in
        absurd (omega (arith, below, above))

module _ (value : WorldValue) (whole : IsHeld value)
    (odd : list_all (λ mount. mount.number % 4 == 1) (mounts_in value.mounts) ≡ true)
    (sources : list_all has_counted_source (mounts_in value.mounts) ≡ true) where
  -- the number of an inode that its filesystem does not have
  pub is_vacant : (entry : FilesystemEntry) → Among entry value.filesystems → (next : NodeRef)
      → is_small_node next ≡ true → next.birth ≡ Here → next.filesystem.count ≡ entry.count
      → (inodes_seen entry).inode (number_of next) ≡ None → IsVacant value (number_of next)
  is_vacant entry among next small here count none = record {
    even = ap (λ n. n % 2) (here_number next here)
        ∙ is_even next.filesystem.count next.slot (small_parts next small).slot;
    unused = is_unused value whole odd sources next small
        (ap (λ n. (filesystem_numbered nat_eq (world_of value) (counted n)).files.tree.node (number_of next)) count
        ∙ ap (λ (f : Filesystem ℕ). f.files.tree.node (number_of next)) (found_plain_one value whole entry among)
        ∙ ap node_in none);
  }

  module _ (small_next : value.next < 18446744073709551616) where
    -- the root of the next filesystem
    pub root_is_vacant : NextRootIsVacant value
    root_is_vacant = record {
      even = is_even value.next 0 (omega arith);
      unused = is_unused value whole odd sources root small_root (none_there value whole root (omega arith));
    }
      where
        root : NodeRef
        root = record { filesystem = record { count = value.next }; slot = 0; birth = Here }

        small_root : is_small_node root ≡ true
        small_root = grind (arith, common_steps)

    -- so no number of a node of the next filesystem is in use
    pub next_is_new : NextFilesystemIsNew value
    next_is_new = record {
      small = small_next;
      counted_before = λ other used.
          used_numbers_are_named (is_counted_before value.next) (world_of value) whole.given (leaves_two value.next)
          other used;
      nodes = λ node small same. is_unused value whole odd sources node (small_node node small)
          (none_there value whole node (let count = ap (λ id. id.count) same in omega (arith, count)));
    }
