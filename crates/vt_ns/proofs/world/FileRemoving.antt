-- The event that removes a directory on which no mount stands: rmdir(2).
use Rattle.std.proofs.Common.{◌≡◌, refl, sym, ap, subst, ◌∙◌, ℕ, ◌&&◌, nat_eq, List, [], is_some, true}
use Rattle.vt_spec.proofs.Common.{Change, Fits, Inodes, Permit, Remove, TaskName, ToRemoveDirectory, entry_at, filesystem_at, filesystem_numbered, is_overlay, mount_numbered, mounts_on, tree_of, with_change, without_mounts_on}
use Rattle.vt_spec.specs.Machine.Detach.{trees_taken_away}
use Rattle.vt_spec.specs.Machine.Mounts as meant
use Rattle.vt_spec.specs.Inodes.{changed}
use Rattle.vt_ns.proofs.Common.{ChangesInodes, Filesystems, IsFilesEvent, IsHeld, IsLocated, IsPlainAt, IsSmall, Permits, SeesTo, WorldValue, also_there, changed_is_plain, files_are_changed, files_at, given_changes_fit, given_permits_are_seen_to, inodes_at, inodes_seen, kept_there, located, located_filesystem, located_inodes, location_of, number_of, permit_fits, supply_of, with_filesystems, world_of}
use Rattle.vt_group.proofs.Together.{regrouped_living}
use Rattle.vt_laws_mounts.proofs.letting_go.ends.NamespacesEnd.{nothing_taken}
use Rattle.vt_location.specs.declared.locations.Location.{Location}
use Rattle.vt_mounting.proofs.detach.FilesSeen.{tree_of_entry}

-- Where no mount stands nothing is detached

-- where no mount stands on a location none is detached with it
pub nothing_detached : (value : WorldValue) → IsHeld value → (at : meant.Location ℕ)
    → mounts_on nat_eq (world_of value) at ≡ [] → without_mounts_on nat_eq (world_of value) at ≡ world_of value
nothing_detached value held at none = ap (trees_taken_away nat_eq (world_of value)) none
    ∙ nothing_taken (world_of value) ∙ regrouped_living (world_of value) held.in_world.mounts.groups

module _ (value : WorldValue) (held : IsHeld value) (name : TaskName) (parent : Location) (entry : List ℕ)
    (directory : Location) (small : IsSmall parent) (small_directory : IsSmall directory)
    (permits : Permits value name (ToRemoveDirectory (location_of parent) entry (location_of directory))) where
  abbrev permit : Permit ℕ
  permit = ToRemoveDirectory (location_of parent) entry (location_of directory)

  -- what is removed is in no overlay
  parent_plain : IsPlainAt value parent
  parent_plain = changed_is_plain value held name permit permits (location_of parent) _ refl

  -- the parent stands where the world has it
  pub parent_seen : IsLocated value parent
  parent_seen =
      located value held parent small parent_plain (permit_fits value held name permit permits).names.0.reached.there

  sees : SeesTo (world_of value) permits.task permit
  sees = given_permits_are_seen_to (world_of value) (supply_of value permit) permits.task permit held.in_world
      permits.given

  -- and so does the directory, which is on the same mount
  pub directory_seen : IsLocated value directory
  directory_seen = located value held directory small_directory
      (ap (λ mount. is_overlay (filesystem_numbered nat_eq (world_of value)
      (mount_numbered nat_eq (world_of value) mount).filesystem)) sees.0 ∙ parent_plain)
      (permit_fits value held name permit permits).names.1.reached.there

  abbrev change : Change ℕ
  change = Remove (number_of parent.node) entry (number_of directory.node)

  removed_there : is_some ((filesystem_at nat_eq (world_of value) (location_of parent)).files.tree.node
      (number_of directory.node)) ≡ true
  removed_there = ap (λ filesystem. is_some (filesystem.files.tree.node (number_of directory.node)))
      (located_filesystem value held parent parent_seen)
      ∙ (tree_of_entry value held parent_seen.entry parent_seen.among).alive (number_of parent.node) entry
      (number_of directory.node) (ap (λ filesystem. entry_at filesystem.files.tree (number_of parent.node) entry)
      (sym (located_filesystem value held parent parent_seen)) ∙ sees.1.named)

  pub removed_is_kept : is_some ((files_at value.filesystems parent.node.filesystem.count).tree.node
      (number_of directory.node)) ≡ true
  removed_is_kept = kept_there value held parent parent_seen (number_of directory.node) removed_there

  -- a directory is in the filesystem of its parent
  pub removed_in : directory.node.filesystem ≡ parent.node.filesystem
  removed_in = also_there value held parent parent_seen directory.node small_directory removed_there

  -- the change can be made to the inodes that are kept
  change_fits : (inodes : Inodes ℕ) → inodes ≡ inodes_seen parent_seen.entry → Fits inodes change
  change_fits inodes same =
      given_changes_fit (world_of value) (supply_of value permit) permits.task permit (location_of parent)
      change inodes held.in_world permits.given refl (ap tree_of same
      ∙ ap (λ filesystem. filesystem.files.tree) (sym (located_filesystem value held parent parent_seen)))

  -- it can be removed
  pub removal_fits : Fits (inodes_at value.filesystems parent.node.filesystem.count) change
  removal_fits = change_fits (inodes_at value.filesystems parent.node.filesystem.count)
      (located_inodes value parent parent_seen)

  -- a directory on which no mount stands is removed
  pub removal_is_done : mounts_on nat_eq (world_of value) (location_of directory) ≡ [] → (filesystems : Filesystems)
      → ChangesInodes parent.node.filesystem.count
      (λ inodes. changed nat_eq inodes change) value.filesystems filesystems
      → IsFilesEvent value name permit (with_filesystems value filesystems)
  removal_is_done none filesystems changes =
      files_are_changed value name permit (location_of parent) change filesystems held permits (record {
        named = λ i. parent_seen.named i && directory_seen.named i;
        rest = supply_of value permit;
        applied = ap (λ world. with_change nat_eq (supply_of value permit) world (location_of parent) change)
            (nothing_detached value held (location_of directory) none);
        named_supply = λ k. 0;
        are_named = λ k. refl;
        named_rest = λ k. 0;
        applied_named = ap (λ world. with_change nat_eq (λ k. 0) world (location_of parent) change)
            (nothing_detached value held (location_of directory) none);
      }) (record {
        entry = parent_seen.entry;
        among = parent_seen.among;
        found = parent_seen.found;
        shows = parent_seen.shows;
        fits = change_fits (inodes_seen parent_seen.entry) refl;
        links = tt;
        changes =
            subst (λ count. ChangesInodes count (λ inodes. changed nat_eq inodes change) value.filesystems filesystems)
            (sym parent_seen.count_is) changes;
        own = λ number other. tt;
      })
