-- The events that change files and names.
use Rattle.std.proofs.Common.{◌≡◌, refl, sym, ap, subst, ◌∙◌, ℕ, ◌<◌, ◌&&◌, Bool, true, false, nat_eq, Some}
use Rattle.vt_spec.proofs.Common.{Change, Fits, Permit, SetAttr, SetMark, TaskName, ToChange, filesystem_at, is_overlay, tree_of}
use Rattle.vt_spec.specs.declared.attributes.Attr.{Attr}
use Rattle.vt_spec.specs.Machine.Mounts as meant
use Rattle.vt_spec.specs.Inodes.{changed}
use Rattle.vt_laws_trees.specs.Calls.Inodes.{change_of}
use Rattle.vt_laws_mounts.specs.Counts.Changing.{LinksWhatIsThere}
use Rattle.vt_mounting.proofs.Common.{ChangesInodes, Filesystems, IsHeld, WorldValue, inodes_at, inodes_seen, is_counted_before, is_own_number, location_of, number_of, world_of}
use Rattle.vt_location.specs.declared.locations.Location.{Location}
use Rattle.vt_laws_worlds.specs.Permits.Named.{change_named}
use Rattle.vt_laws_worlds.specs.Permits.Sees.{SeesToChange}
use Rattle.vt_laws_worlds.proofs.permits.sees.SeesFit.{given_changes_fit}
use Rattle.vt_laws_worlds.proofs.permits.sees.SeesTasks.{given_permits_are_seen_to}
use Rattle.vt_laws_worlds.proofs.overlays_read.Changes.{plain_ones_are_changed}
use Rattle.vt_laws_worlds.specs.Worlds.Permits.{IsFitPermit}
use Rattle.vt_laws_worlds.proofs.worlds.FitPermitsNamed.{all_permits_fit}
use Rattle.vt_mounting.specs.Detach.Events.{Permits, supply_of}
use Rattle.vt_mounting.proofs.detach.ChangedFiles.{IsFilesEvent, changed_by, files_are_changed, with_filesystems}
use Rattle.vt_mounting.proofs.detach.ChangedNumbers.{MakesOther}
use Rattle.vt_mounting.proofs.detach.FilesSeen.{IsLocated, IsPlainAt, nodes_named, located, located_filesystem, located_inodes}

-- what the permit of a call names is there
pub permit_fits : (value : WorldValue) → IsHeld value
    → (name : TaskName) (permit : Permit ℕ) (permits : Permits value name permit)
    → IsFitPermit (supply_of value permit) (world_of value) permits.task permit
permit_fits value held name permit permits =
    all_permits_fit (world_of value) (supply_of value permit) permits.task permits.given.call permit held.in_world
    permits.given.serves permits.given.called permits.given.no_overlay permits.given.judged

-- what the permit of a call changes is in no overlay
pub changed_is_plain : (value : WorldValue) → IsHeld value
    → (name : TaskName) (permit : Permit ℕ) (permits : Permits value name permit)
    → (location : meant.Location ℕ) (change : Change ℕ)
    → change_of (supply_of value permit) (world_of value) permit ≡ Some (location, change)
    → is_overlay (filesystem_at nat_eq (world_of value) location) ≡ false
changed_is_plain value held name permit permits location change =
    plain_ones_are_changed (world_of value) (supply_of value permit) permits.task permit location change
    held.overlays.read_only held.overlays.writers permits.given

-- an inode of a location that is there, in the slots of its filesystem
abbrev pub IsSmall : Location → Type 0
IsSmall at = at.node.slot < 18446744073709551616

-- A change by a call that names it: chmod(2), link(2), unlink(2), write(2)
module _ (value : WorldValue) (held : IsHeld value) (name : TaskName) (at : Location) (small : IsSmall at)
    (change : Change ℕ) (permits : Permits value name (ToChange (location_of at) change)) where
  change_is_plain : IsPlainAt value at
  change_is_plain =
      changed_is_plain value held name (ToChange (location_of at) change) permits (location_of at) change refl

  pub change_at : IsLocated value at
  change_at = located value held at small change_is_plain
      (permit_fits value held name (ToChange (location_of at) change) permits).names.0.there

  pub change_is_done : (filesystems : Filesystems) → change_named (is_counted_before value.next) change ≡ true
      → LinksWhatIsThere (inodes_seen change_at.entry) change
      → ((number : ℕ) → is_own_number change_at.entry.count number ≡ false → MakesOther number change)
      → ChangesInodes at.node.filesystem.count (changed_by change) value.filesystems filesystems
      → IsFilesEvent value name (ToChange (location_of at) change) (with_filesystems value filesystems)
  change_is_done filesystems named links own changes =
      files_are_changed value name (ToChange (location_of at) change) (location_of at) change filesystems held permits
      (record {
        named = λ i. change_at.named i && named i;
        rest = supply_of value (ToChange (location_of at) change);
        applied = refl;
        named_supply = λ k. 0;
        are_named = λ k. refl;
        named_rest = λ k. 0;
        applied_named = refl;
      }) (record {
        entry = change_at.entry;
        among = change_at.among;
        found = change_at.found;
        shows = change_at.shows;
        fits = given_changes_fit (world_of value) (supply_of value (ToChange (location_of at) change)) permits.task
            (ToChange (location_of at) change) (location_of at) change (inodes_seen change_at.entry) held.in_world
            permits.given refl
            (ap (λ filesystem. filesystem.files.tree) (sym (located_filesystem value held at change_at)));
        links = links;
        changes = subst (λ count. ChangesInodes count (changed_by change) value.filesystems filesystems)
            (sym change_at.count_is) changes;
        own = own;
      })

  pub change_sees : SeesToChange (world_of value) (location_of at) change
  change_sees =
      given_permits_are_seen_to (world_of value) (supply_of value (ToChange (location_of at) change)) permits.task
      (ToChange (location_of at) change) held.in_world permits.given

  pub change_fits : Fits (inodes_at value.filesystems at.node.filesystem.count) change
  change_fits = given_changes_fit (world_of value) (supply_of value (ToChange (location_of at) change)) permits.task
      (ToChange (location_of at) change) (location_of at) change
      (inodes_at value.filesystems at.node.filesystem.count) held.in_world permits.given refl
      (ap tree_of (located_inodes value at change_at)
      ∙ ap (λ filesystem. filesystem.files.tree) (sym (located_filesystem value held at change_at)))

-- chmod(2), chown(2)
pub attr_is_set : (value : WorldValue) → IsHeld value
    → (name : TaskName) (object : Location) (attr : Attr) (filesystems : Filesystems)
    → IsSmall object → Permits value name (ToChange (location_of object) (SetAttr (number_of object.node) attr))
    → ChangesInodes object.node.filesystem.count
    (λ inodes. changed nat_eq inodes (SetAttr (number_of object.node) attr)) value.filesystems filesystems
    → IsFilesEvent value name (ToChange (location_of object) (SetAttr (number_of object.node) attr))
    (with_filesystems value filesystems)
attr_is_set value held name object attr filesystems small permits changes =
    change_is_done value held name object small (SetAttr (number_of object.node) attr) permits filesystems
    (nodes_named value.next object.node) tt (λ number other. tt) changes

-- setxattr(2) of the opaque mark
pub mark_is_set : (value : WorldValue) → IsHeld value
    → (name : TaskName) (directory : Location) (opaque : Bool) (filesystems : Filesystems) → IsSmall directory
    → Permits value name (ToChange (location_of directory) (SetMark (number_of directory.node) opaque))
    → ChangesInodes directory.node.filesystem.count
    (λ inodes. changed nat_eq inodes (SetMark (number_of directory.node) opaque)) value.filesystems filesystems
    → IsFilesEvent value name (ToChange (location_of directory) (SetMark (number_of directory.node) opaque))
    (with_filesystems value filesystems)
mark_is_set value held name directory opaque filesystems small permits changes =
    change_is_done value held name directory small (SetMark (number_of directory.node) opaque) permits filesystems
    (nodes_named value.next directory.node) tt (λ number other. tt) changes
