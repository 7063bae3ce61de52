-- The event that writes a part of a file: pwrite(2).
use Rattle.std.proofs.Common.{◌≡◌, refl, sym, ap, subst, ◌∙◌, inr, ℕ, ◌+◌, ◌≤◌, Bool, true, false, nat_eq, List, [], ◌∷◌, map, length, OnErr, OnOk, ltb-false, arith, Result, ◌==◌}
use Rattle.vt_spec.proofs.Common.{AllocError, Change, Descriptor, Fits, Inodes, OnOk_then, Permit, SetBytes, Task, TaskName, ToWritePart, all_locations, among_from_list_all, bytes_in, is_directory_node, is_located_well, largest_file, locations_of, node_at, overwritten, same_name, tree_of, common_steps}
use Rattle.vt_spec.specs.Inodes.{changed}
use Rattle.vt_ns.proofs.Common.{Among, Becomes, ChangesInodes, Filesystems, IsHeld, IsLocated, IsSmall, Permits, SeesTo, WorldValue, among-map, changed_is_plain, files_are_changed, files_at, given_changes_fit, given_permits_are_seen_to, inodes_at, inodes_seen, located, located_filesystem, located_inodes, location_of, number_of, sameness_is_an_equivalence, supply_of, with_filesystems, world_of}
use Rattle.vt_laws_mounts.proofs.letting_go.Lists.{among-flat_map}
use Rattle.vt_location.specs.declared.locations.Location.{Location}
use Rattle.vt_laws_worlds.specs.Permits.Sees.{HasOpen}
use Rattle.vt_laws_worlds.proofs.worlds.ReachedWalks.{found_among}
use Rattle.vt_ns.proofs.world.FileAnswers.{IsAnswered, answered}
use Rattle.vt_spec.specs.Machine.Mounts as meant

-- what a task has open is there
pub open_there : (value : WorldValue) → IsHeld value
    → (name : TaskName) (permit : Permit ℕ) (permits : Permits value name permit)
    → (file : meant.Location ℕ) (fits : Descriptor ℕ → Bool) → HasOpen permits.task file fits
    → is_located_well nat_eq (world_of value) file ≡ true
open_there value held name permit permits file fits held_open =
    among_from_list_all (is_located_well nat_eq (world_of value))
    (all_locations (world_of value)) held.in_world.tasks.locations_live file
    (among-flat_map locations_of (world_of value).tasks permits.task file
    (found_among (λ (other : Task ℕ). same_name permits.task.name other.name)
    (world_of value).tasks permits.task permits.given.called) (inr (inr (subst (λ location. Among location
    (map (λ (descriptor : Descriptor ℕ). descriptor.location) permits.task.descriptors)) held_open.4
    (among-map (λ (descriptor : Descriptor ℕ). descriptor.location) permits.task.descriptors held_open.1
    (found_among (λ (descriptor : Descriptor ℕ). nat_eq held_open.0 descriptor.number) permits.task.descriptors
    held_open.1 held_open.2))))))

-- whether there are bytes, as code asks it

-- a list of length zero has no bytes
pub no_bytes : (bytes : List ℕ) (b : Bool) → b ≡ (length bytes == 0) → b ≡ true → bytes ≡ []
no_bytes bytes b is e = grind (arith, common_steps)

-- and one of another length has some
pub some_bytes : (bytes : List ℕ) (b : Bool) → b ≡ (length bytes == 0) → b ≡ false → length bytes ≡ 0 → ⊥
some_bytes bytes b is e none = cc

-- no bytes change nothing
pub nothing_is_written : (value : WorldValue) → IsHeld value
    → (name : TaskName) (file : meant.Location ℕ) (offset : ℕ) (bytes : List ℕ)
    → bytes ≡ [] → Becomes value name (ToWritePart file offset bytes) value
nothing_is_written value held name file offset bytes none =
    grind (arith, common_steps, held.in_world.nothing_unused, sameness_is_an_equivalence.itself (world_of value))

module _ (value : WorldValue) (held : IsHeld value) (name : TaskName) (file : Location) (offset byte : ℕ)
    (rest : List ℕ) (small : IsSmall file)
    (permits : Permits value name (ToWritePart (location_of file) offset (byte ∷ rest))) where
  abbrev permit : Permit ℕ
  permit = ToWritePart (location_of file) offset (byte ∷ rest)

  sees : SeesTo (world_of value) permits.task permit
  sees = given_permits_are_seen_to (world_of value) (supply_of value permit) permits.task permit held.in_world
      permits.given

  -- the file stands where the world has it
  file_seen : IsLocated value file
  file_seen = located value held file small (changed_is_plain value held name permit permits (location_of file) _ refl)
      (open_there value held name permit permits (location_of file) (λ descriptor. descriptor.writes) sees.0)

  abbrev change : Change ℕ
  change = SetBytes (number_of file.node)
      (overwritten offset (byte ∷ rest) (bytes_in (node_at nat_eq (world_of value) (location_of file))))

  -- the change can be made to the inodes that are kept
  change_fits : (inodes : Inodes ℕ) → inodes ≡ inodes_seen file_seen.entry → Fits inodes change
  change_fits inodes same =
      given_changes_fit (world_of value) (supply_of value permit) permits.task permit (location_of file)
      change inodes held.in_world permits.given refl
      (ap tree_of same ∙ ap (λ filesystem. filesystem.files.tree) (sym (located_filesystem value held file file_seen)))

  abbrev here : Inodes ℕ
  here = inodes_at value.filesystems file.node.filesystem.count

  same_node : (files_at value.filesystems file.node.filesystem.count).tree.node (number_of file.node)
      ≡ node_at nat_eq (world_of value) (location_of file)
  same_node = ap (λ inodes. (tree_of inodes).node (number_of file.node)) (located_inodes value file file_seen)
      ∙ ap (λ filesystem. filesystem.files.tree.node (number_of file.node))
      (sym (located_filesystem value held file file_seen))

  -- the file is no directory, and the bytes end within the limit
  part_fits : (is_directory_node
      ((files_at value.filesystems file.node.filesystem.count).tree.node (number_of file.node)) ≡ false)
      × (offset + length (byte ∷ rest) ≤ largest_file)
  part_fits = (
    (change_fits here (located_inodes value file file_seen)).0,
    ltb-false largest_file (offset + length (byte ∷ rest)) sees.1,
  )

  part_is_answered : (filesystems : Filesystems) (result : Result (Unit {0}) AllocError)
      → OnOk result (ChangesInodes file.node.filesystem.count
      (λ inodes. changed nat_eq inodes (SetBytes (number_of file.node) (overwritten offset (byte ∷ rest)
      (bytes_in ((files_at value.filesystems file.node.filesystem.count).tree.node (number_of file.node))))))
      value.filesystems filesystems) → OnErr result (filesystems ≡ value.filesystems)
      → IsAnswered value name permit (with_filesystems value filesystems) result
  part_is_answered filesystems result ok err = answered value held name permit filesystems result
      (OnOk_then result (λ changes.
      files_are_changed value name permit (location_of file) change filesystems held permits (record {
        named = file_seen.named;
        rest = supply_of value permit;
        applied = refl;
        named_supply = λ k. 0;
        are_named = λ k. refl;
        named_rest = λ k. 0;
        applied_named = refl;
      }) (record {
        entry = file_seen.entry;
        among = file_seen.among;
        found = file_seen.found;
        shows = file_seen.shows;
        fits = change_fits (inodes_seen file_seen.entry) refl;
        links = tt;
        changes = subst (λ node. ChangesInodes file_seen.entry.count (λ inodes. changed nat_eq inodes
            (SetBytes (number_of file.node) (overwritten offset (byte ∷ rest) (bytes_in node))))
            value.filesystems filesystems) same_node (subst (λ count. ChangesInodes count
            (λ inodes. changed nat_eq inodes (SetBytes (number_of file.node) (overwritten offset (byte ∷ rest)
            (bytes_in ((files_at value.filesystems file.node.filesystem.count).tree.node (number_of file.node))))))
            value.filesystems filesystems) (sym file_seen.count_is) changes);
        own = λ number other. tt;
      })) ok) err

-- a part of a file is written, or the file stays
pub write_part_is_answered : (value : WorldValue) → IsHeld value
    → (name : TaskName) (file : Location) (offset : ℕ) (bytes : List ℕ) → IsSmall file
    → Permits value name (ToWritePart (location_of file) offset bytes) → (length bytes ≡ 0 → ⊥)
    → (filesystems : Filesystems) (result : Result (Unit {0}) AllocError)
    → OnOk result (ChangesInodes file.node.filesystem.count
    (λ inodes. changed nat_eq inodes (SetBytes (number_of file.node) (overwritten offset bytes (bytes_in
    ((files_at value.filesystems file.node.filesystem.count).tree.node (number_of file.node))))))
    value.filesystems filesystems) → OnErr result (filesystems ≡ value.filesystems)
    → IsAnswered value name (ToWritePart (location_of file) offset bytes) (with_filesystems value filesystems) result
write_part_is_answered value held name file offset [] small permits some filesystems result ok err = absurd (some refl)
write_part_is_answered value held name file offset (byte ∷ rest) small permits some filesystems result ok err =
    part_is_answered value held name file offset byte rest small permits filesystems result ok err

-- the part can be written
pub write_part_fits : (value : WorldValue) → IsHeld value
    → (name : TaskName) (file : Location) (offset : ℕ) (bytes : List ℕ) → IsSmall file
    → Permits value name (ToWritePart (location_of file) offset bytes) → (length bytes ≡ 0 → ⊥)
    → (is_directory_node ((files_at value.filesystems file.node.filesystem.count).tree.node (number_of file.node))
    ≡ false) × (offset + length bytes ≤ largest_file)
write_part_fits value held name file offset [] small permits some = absurd (some refl)
write_part_fits value held name file offset (byte ∷ rest) small permits some =
    part_fits value held name file offset byte rest small permits
