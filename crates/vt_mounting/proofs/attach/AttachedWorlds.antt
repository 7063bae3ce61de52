-- A world in which mounts were attached: what they use is counted, and nothing else changed.
use Rattle.std.proofs.Common.{◌≡◌, refl, sym, ap, subst, ◌∙◌, inl, inr, ℕ, nat_eq, eqb-true, Bool, true, false, not, ◌&&◌, ◌||◌, List, [], ◌∷◌, ◌++◌, map, Option, Some, None, option_map, is_some, All, option_to_list}
use Rattle.vt_spec.proofs.Common.{Filesystem, Inode as Counted, World, and_parts, filesystem_numbered, has_its_root, is_directory_at, is_directory_node, list_all, mount_at, node_at, node_in}
use Rattle.vt_spec.specs.Machine.Mounts as meant
use Rattle.vt_mounting.proofs.Common.{Among, AreThere, FilesystemEntry, HasOwnNodes, Inode, IsUnderWay, among-append_right, among-map, among_from_list_all, counted, directory_is_there, filesystem_seen, found_filesystem, found_itself, inodes_seen, is_small_node, location_of, mount_of, number_of}
use Rattle.vt_location.specs.declared.locations.Location.{Location}
use Rattle.vt_location.specs.declared.locations.NodeRef.{NodeRef}
use Rattle.vt_location.specs.declared.mounts.Mount.{Mount}
use Rattle.vt_mounting.proofs.detach.Detached.{inodes_of_point}
use Rattle.vt_mounting.specs.Attach.Room.{has_small_nodes, point_is_small}
use Rattle.vt_mounting.proofs.attach.AddedUses.{IsFoundIn, gained_by}
use Rattle.vt_mounting.proofs.detach.NodesFound.{node_at_home}

-- an inode of which there is a node is there
pub inode_is_there : (o : Option (Counted ℕ)) → is_some (node_in o) ≡ true → is_some o ≡ true
inode_is_there None e = e
inode_is_there (Some inode) e = refl

-- Mounts that were attached in a world, with these filesystems
-- Mounts were attached behind others in a world.
pub record WereAttached (after : World ℕ) (front : List (meant.Mount ℕ)) (new : List Mount) : Type 0 where
  pub is_world : IsUnderWay after
  pub after_mounts : after.mounts ≡ front ++ map mount_of new
  pub slots : list_all has_small_nodes new ≡ true
  pub own : All HasOwnNodes after.filesystems

module _ {after : World ℕ} {front : List (meant.Mount ℕ)} {new : List Mount} (attached : WereAttached after front new) where
  open attached use {is_world, after_mounts, slots, own}

  new_there : (mount : Mount) → Among mount new → Among (mount_of mount) after.mounts
  new_there mount m = subst (Among (mount_of mount)) (sym after_mounts)
      (among-append_right front (map mount_of new) (mount_of mount) (among-map mount_of new mount m))

  roots : (mount : Mount) → Among mount new
      → (is_directory_node ((filesystem_numbered nat_eq after (counted mount.root.filesystem.count)).files.tree.node
      (number_of mount.root)) ≡ true)
      × (list_all (is_directory_at nat_eq after) (option_to_list (option_map location_of mount.mount_point)) ≡ true)
  roots mount m = and_parts _ _
      (among_from_list_all (has_its_root nat_eq after) after.mounts is_world.roots (mount_of mount)
      (new_there mount m))

  -- a mount point is in the filesystem that its mount shows
  point_shown : (mount : Mount) → Among mount new → {point : Location} → mount.mount_point ≡ Some point
      → (mount_at nat_eq after (location_of point)).filesystem ≡ counted point.node.filesystem.count
  point_shown mount m {point} is =
      let directory : is_directory_at nat_eq after (location_of point) ≡ true =
      (and_parts _ _ (subst (λ o. list_all (is_directory_at nat_eq after) (option_to_list (option_map location_of o))
      ≡ true) is (roots mount m).1)).0 in
      node_at_home after own (mount_at nat_eq after (location_of point)).filesystem point.node
      (subst (λ o. point_is_small o ≡ true) is
      (and_parts (is_small_node mount.root) _ (among_from_list_all has_small_nodes new slots mount m)).1)
      (directory_is_there (node_at nat_eq after (location_of point)) directory)

  pub new_found : (mount : Mount) → Among mount new → IsFoundIn after mount
  new_found mount m = record {
    root = ap (λ (found : meant.Mount ℕ). (found.filesystem, number_of mount.root))
        (found_itself after.mounts is_world.mounts.one_number (mount_of mount) (new_there mount m));
    point = λ point is. ap (λ filesystem. (filesystem, number_of point.node)) (point_shown mount m is);
  }

  pub there_in : (entry : FilesystemEntry) → Among (filesystem_seen entry) after.filesystems → (node : NodeRef)
      → is_directory_node ((filesystem_numbered nat_eq after (counted node.filesystem.count)).files.tree.node
      (number_of node)) ≡ true → (not (nat_eq (counted entry.count) (counted node.filesystem.count))
      || is_some ((inodes_seen entry).inode (number_of node))) ≡ true
  there_in entry m node directory = by (nat_eq (counted entry.count) (counted node.filesystem.count)) refl
    where
      found : filesystem_numbered nat_eq after (counted entry.count) ≡ filesystem_seen entry
      found = found_filesystem after.filesystems is_world.files.one_filesystem (filesystem_seen entry) m

      by : (b : Bool) → nat_eq (counted entry.count) (counted node.filesystem.count) ≡ b
          → (not b || is_some ((inodes_seen entry).inode (number_of node))) ≡ true
      by false e = refl
      by true e = inode_is_there ((inodes_seen entry).inode (number_of node))
          (directory_is_there (node_in ((inodes_seen entry).inode (number_of node)))
          (ap (λ (f : Filesystem ℕ). is_directory_node (f.files.tree.node (number_of node)))
          (sym found ∙ ap (filesystem_numbered nat_eq after) (eqb-true _ _ e)) ∙ directory))

  pub new_uses_there : (entry : FilesystemEntry) → Among (filesystem_seen entry) after.filesystems
      → AreThere (counted entry.count) (inodes_seen entry) (gained_by new)
  new_uses_there entry m = each new (λ mount n. n)
    where
      point_there : (mount : Mount) → Among mount new → (o : Option Location) → mount.mount_point ≡ o
          → list_all (λ (inode : Inode). not (nat_eq (counted entry.count) inode.0)
          || is_some ((inodes_seen entry).inode inode.1)) (inodes_of_point o) ≡ true
      point_there mount n None is = refl
      point_there mount n (Some point) is =
          let directory : is_directory_at nat_eq after (location_of point) ≡ true =
          (and_parts _ _ (subst (λ o. list_all (is_directory_at nat_eq after)
          (option_to_list (option_map location_of o)) ≡ true) is (roots mount n).1)).0 in
          λ i. there_in entry m point.node (ap (λ number. is_directory_node
          ((filesystem_numbered nat_eq after number).files.tree.node (number_of point.node)))
          (sym (point_shown mount n is)) ∙ directory) i && true

      both : (test : Inode → Bool) (xs ys : List Inode) → list_all test xs ≡ true → list_all test ys ≡ true
          → list_all test (xs ++ ys) ≡ true
      both test [] ys a b = b
      both test (x ∷ xs) ys a b = let parts = and_parts (test x) (list_all test xs) a in λ i. parts.0 i
          && both test xs ys parts.1 b i

      each : (some : List Mount) → ((mount : Mount) → Among mount some → Among mount new)
          → AreThere (counted entry.count) (inodes_seen entry) (gained_by some)
      each [] within = refl
      each (mount ∷ rest) within = λ i. there_in entry m mount.root (roots mount (within mount (inl refl))).0 i
          && both (λ (inode : Inode). not (nat_eq (counted entry.count) inode.0)
          || is_some ((inodes_seen entry).inode inode.1)) (inodes_of_point mount.mount_point) (gained_by rest)
          (point_there mount (within mount (inl refl)) mount.mount_point refl)
          (each rest (λ other n. within other (inr n))) i
