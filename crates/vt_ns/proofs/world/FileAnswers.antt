-- What the events that change files and names answer.
use Rattle.std.proofs.Common.{◌≡◌, sym, ap, subst, ◌∙◌, ℕ, ◌<◌, ◌&&◌, true, nat_eq, List, is_some, OnErr, OnOk, Err, Ok, Result}
use Rattle.vt_spec.proofs.Common.{AddName, AllocError, OnOk_then, Permit, Remove, SetBytes, TaskName, ToChange, entry_at, filesystem_at}
use Rattle.vt_spec.specs.Inodes.{changed}
use Rattle.vt_ns.proofs.Common.{Becomes, ChangesInodes, Filesystems, IsFilesEvent, IsHeld, IsLocated, IsSmall, Permits, WorldValue, also_there, files_at, inodes_seen, kept_there, located_filesystem, location_of, nodes_named, number_of, with_filesystems, world_of}
use Rattle.vt_location.specs.declared.locations.Location.{Location}
use Rattle.vt_location.specs.declared.locations.NodeRef.{NodeRef}
use Rattle.vt_mounting.proofs.detach.FileEvents.{change_at, change_is_done, change_sees}
use Rattle.vt_mounting.proofs.detach.FilesSeen.{tree_of_entry}
use Rattle.vt_mounting.proofs.attach.AttachedWorlds.{inode_is_there}

-- what an event that is given a permit leaves, where it may be refused memory
pub record IsAnswered (value : WorldValue) (name : TaskName) (permit : Permit ℕ) (new : WorldValue)
    (result : Result (Unit {0}) AllocError) : Type 0 where
  pub held : IsHeld new
  pub ok : OnOk result (Becomes value name permit new)

-- a change of files is answered by its event
pub answered : (value : WorldValue) → IsHeld value → (name : TaskName) (permit : Permit ℕ) (filesystems : Filesystems)
    (result : Result (Unit {0}) AllocError)
    → OnOk result (IsFilesEvent value name permit (with_filesystems value filesystems))
    → OnErr result (filesystems ≡ value.filesystems)
    → IsAnswered value name permit (with_filesystems value filesystems) result
answered value held name permit filesystems (Ok done) event kept = record { held = event.held; ok = event.becomes }
answered value held name permit filesystems (Err refused) event kept =
    record { held = subst (λ fs. IsHeld (with_filesystems value fs)) (sym kept) held; ok = tt }

-- write(2)
module _ (value : WorldValue) (held : IsHeld value) (name : TaskName) (file : Location) (bytes : List ℕ)
    (small : IsSmall file)
    (permits : Permits value name (ToChange (location_of file) (SetBytes (number_of file.node) bytes))) where
  -- bytes are written to the file
  pub write_is_done : (filesystems : Filesystems) → ChangesInodes file.node.filesystem.count
      (λ inodes. changed nat_eq inodes (SetBytes (number_of file.node) bytes)) value.filesystems filesystems
      → IsFilesEvent value name (ToChange (location_of file) (SetBytes (number_of file.node) bytes))
      (with_filesystems value filesystems)
  write_is_done filesystems changes =
      change_is_done value held name file small (SetBytes (number_of file.node) bytes) permits filesystems
      (nodes_named value.next file.node) tt (λ number other. tt) changes

-- link(2)
module _ (value : WorldValue) (held : IsHeld value) (name : TaskName) (directory : Location) (entry : List ℕ)
    (object : NodeRef) (small : IsSmall directory) (small_object : object.slot < 18446744073709551616)
    (permits : Permits value name (ToChange (location_of directory)
    (AddName (number_of directory.node) entry (number_of object)))) where
  linked_there : is_some ((filesystem_at nat_eq (world_of value) (location_of directory)).files.tree.node
      (number_of object)) ≡ true
  linked_there = (change_sees value held name directory small
      (AddName (number_of directory.node) entry (number_of object)) permits).1.is_there

  pub linked_is_kept : is_some ((files_at value.filesystems directory.node.filesystem.count).tree.node
      (number_of object)) ≡ true
  linked_is_kept = kept_there value held directory
      (change_at value held name directory small (AddName (number_of directory.node) entry (number_of object)) permits)
      (number_of object) linked_there

  -- a link stays in one filesystem
  pub linked_in : object.filesystem ≡ directory.node.filesystem
  linked_in = also_there value held directory
      (change_at value held name directory small (AddName (number_of directory.node) entry (number_of object)) permits)
      object small_object linked_there

  -- a link is made, or the tree stays
  pub link_is_answered : (filesystems : Filesystems) (result : Result (Unit {0}) AllocError)
      → OnOk result (ChangesInodes directory.node.filesystem.count (λ inodes. changed nat_eq inodes
      (AddName (number_of directory.node) entry (number_of object))) value.filesystems filesystems)
      → OnErr result (filesystems ≡ value.filesystems) → IsAnswered value name (ToChange (location_of directory)
      (AddName (number_of directory.node) entry (number_of object))) (with_filesystems value filesystems) result
  link_is_answered filesystems result ok err =
      let seen = change_at value held name directory small
      (AddName (number_of directory.node) entry (number_of object)) permits in
      answered value held name (ToChange (location_of directory)
      (AddName (number_of directory.node) entry (number_of object))) filesystems result (OnOk_then result
      (change_is_done value held name directory small
      (AddName (number_of directory.node) entry (number_of object)) permits filesystems
      (λ i. nodes_named value.next directory.node i && nodes_named value.next object i)
      (inode_is_there ((inodes_seen seen.entry).inode (number_of object))
      (ap (λ filesystem. is_some (filesystem.files.tree.node (number_of object)))
      (sym (located_filesystem value held directory seen)) ∙ linked_there)) (λ number other. tt)) ok) err

-- unlink(2)
module _ (value : WorldValue) (held : IsHeld value) (name : TaskName) (directory : Location) (entry : List ℕ)
    (object : NodeRef) (small : IsSmall directory) (small_object : object.slot < 18446744073709551616)
    (permits : Permits value name (ToChange (location_of directory)
    (Remove (number_of directory.node) entry (number_of object)))) where
  seen : IsLocated value directory
  seen = change_at value held name directory small (Remove (number_of directory.node) entry (number_of object)) permits

  unlinked_there : is_some ((filesystem_at nat_eq (world_of value) (location_of directory)).files.tree.node
      (number_of object)) ≡ true
  unlinked_there =
      let sees = change_sees value held name directory small
      (Remove (number_of directory.node) entry (number_of object)) permits in
      ap (λ filesystem. is_some (filesystem.files.tree.node (number_of object)))
      (located_filesystem value held directory seen)
      ∙ (tree_of_entry value held seen.entry seen.among).alive (number_of directory.node) entry (number_of object)
      (ap (λ filesystem. entry_at filesystem.files.tree (number_of directory.node) entry)
      (sym (located_filesystem value held directory seen)) ∙ sees.1.named)

  pub unlinked_is_kept : is_some ((files_at value.filesystems directory.node.filesystem.count).tree.node
      (number_of object)) ≡ true
  unlinked_is_kept = kept_there value held directory seen (number_of object) unlinked_there

  -- the object of a removed name is in the filesystem of its directory
  pub unlinked_in : object.filesystem ≡ directory.node.filesystem
  unlinked_in = also_there value held directory seen object small_object unlinked_there

  -- a name is removed
  pub unlink_is_done : (filesystems : Filesystems) → ChangesInodes directory.node.filesystem.count
      (λ inodes. changed nat_eq inodes
      (Remove (number_of directory.node) entry (number_of object))) value.filesystems filesystems
      → IsFilesEvent value name (ToChange (location_of directory)
      (Remove (number_of directory.node) entry (number_of object))) (with_filesystems value filesystems)
  unlink_is_done filesystems changes = change_is_done value held name directory small
      (Remove (number_of directory.node) entry (number_of object)) permits filesystems
      (λ i. nodes_named value.next directory.node i && nodes_named value.next object i) tt (λ number other. tt) changes
