-- A filesystem that a set uses is there.
use Rattle.std.proofs.Common.{arith, ◌≡◌, sym, subst, ⊎_elim, ℕ, nat_eq, true, true≢false, List, is_some, map, eqb-true, Contains}
use Rattle.vt_spec.proofs.Common.{Among, Filesystem, IsWorld, Location, Mount, TaskName, World, all_locations, among-append, among-flat_map, among-from_filter, among-from_flat_map, among-from_map, among_from_contains, among_from_list_all, and_parts, common_steps, contains_from_among, directory_is_there, filesystem_numbered, found_among, found_passes, is_among, is_directory_node, is_located_well, is_member_task, is_own_mount, is_there, locations, locations_of, members, mount_at, own_mounts, used_directly, used_filesystems}
use Rattle.vt_laws_containers.proofs.Common.{among-from_each_once, layer_directory}
use Rattle.vt_laws_sealed.proofs.outsiders.SeenLater.{changed_of}

-- a filesystem has this number
abbrev pub IsThere : World ℕ → ℕ → Type 0
IsThere world number = (filesystem : Filesystem ℕ) × Among filesystem world.filesystems × (filesystem.number ≡ number)

-- where an inode is found, the filesystem is there
pub there_with_inode : (world : World ℕ) (number inode : ℕ)
    → is_some ((filesystem_numbered nat_eq world number).files.tree.node inode) ≡ true → IsThere world number
there_with_inode world number inode h = grind (arith, common_steps, true≢false, found_among, eqb-true, found_passes)

module _ (world : World ℕ) (names : List TaskName) (is : IsWorld nat_eq world) where
  -- the filesystem of a mount
  pub mounted_is_there : (mount : Mount ℕ) → Among mount world.mounts → IsThere world mount.filesystem
  mounted_is_there mount m = there_with_inode world _ _ (directory_is_there _
      (and_parts (is_directory_node ((filesystem_numbered nat_eq world mount.filesystem).files.tree.node mount.root)) _
      (among_from_list_all _ _ is.roots mount m)).0)

  -- of a location
  pub located_is_there : (location : Location ℕ) → Among location (all_locations world)
      → IsThere world (mount_at nat_eq world location).filesystem
  located_is_there location m = there_with_inode world (mount_at nat_eq world location).filesystem location.node
      (and_parts (is_among nat_eq location.mount (map (λ (x : Mount ℕ). x.number) world.mounts))
      (is_there nat_eq world (mount_at nat_eq world location).filesystem location.node)
      (among_from_list_all (is_located_well nat_eq world) (all_locations world) is.tasks.locations_live location m)).1

  -- one that the set uses directly
  pub direct_is_there : (number : ℕ) → Among number (used_directly nat_eq world names) → IsThere world number
  direct_is_there number m = ⊎_elim (λ shown. let at = among-from_map (λ (x : Mount ℕ). x.filesystem) _ _ shown in
      subst (IsThere world) (sym at.2)
      (mounted_is_there at.0 (among-from_filter (is_own_mount nat_eq world names) _ at.0 at.1).0))
      (λ placed. let at = among-from_map (λ (l : Location ℕ). (mount_at nat_eq world l).filesystem)
      (locations (members world names)) _ placed in
      let of = among-from_flat_map locations_of (members world names) at.0 at.1 in
      subst (IsThere world) (sym at.2) (located_is_there at.0 (among-flat_map locations_of world.tasks of.0 at.0
      (among-from_filter (is_member_task names) world.tasks of.0 of.1).0 of.2)))
      (among-append (map (λ (x : Mount ℕ). x.filesystem) (own_mounts nat_eq world names))
      (map (λ (l : Location ℕ). (mount_at nat_eq world l).filesystem) (locations (members world names))) number m)

  pub used_among_is_there : (number : ℕ) → Among number (used_filesystems nat_eq world names) → IsThere world number
  used_among_is_there number m = ⊎_elim (direct_is_there _) (λ layered. let of = changed_of world names _ layered in
      subst (IsThere world) (sym of.5) (there_with_inode world _ _ (directory_is_there _
      (layer_directory world names is of.0 of.1 of.3 of.4)))) (among-append _ _ _ (among-from_each_once _ _ m))

pub used_is_there : (world : World ℕ) (names : List TaskName) → IsWorld nat_eq world → (number : ℕ)
    → Contains (used_filesystems nat_eq world names) number
    → (filesystem : Filesystem ℕ) × Contains world.filesystems filesystem × (filesystem.number ≡ number)
used_is_there world names is number used =
    let it = used_among_is_there world names is number
    (among_from_contains (used_filesystems nat_eq world names) number used) in
    (it.0, contains_from_among world.filesystems it.0 it.1, it.2)
