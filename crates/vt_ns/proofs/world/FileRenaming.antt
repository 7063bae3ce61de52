-- The event that renames, where no mount stands on what is replaced: rename(2).
use Rattle.std.proofs.Common.{◌≡◌, refl, sym, ap, subst, ◌∙◌, ℕ, ◌&&◌, true, nat_eq, List, [], map, Option, None, Some, option_map, is_some, IfSome}
use Rattle.vt_spec.proofs.Common.{Change, Fits, Inodes, Move, Permit, TaskName, ToRename, and_parts, filesystem_at, filesystem_numbered, is_among, is_located_well, is_overlay, is_there, mount_at, mount_numbered, mounts_on, tree_of, with_change, without_replaced}
use Rattle.vt_spec.specs.Machine.Mounts as meant
use Rattle.vt_spec.specs.Inodes.{changed}
use Rattle.vt_ns.proofs.Common.{ChangesInodes, Filesystems, IsFilesEvent, IsHeld, IsLocated, IsPlainAt, IsSmall, NamesWhatIsThere, Permits, WorldValue, also_there, changed_is_plain, files_are_changed, files_at, given_changes_fit, given_permits_are_seen_to, inodes_at, inodes_seen, is_counted_before, kept_there, located, located_filesystem, located_inodes, located_is_named, location_of, number_of, permit_fits, permit_named, supply_of, with_filesystems, world_of}
use Rattle.vt_laws_rules.specs.Numbers.{location_named, none_or}
use Rattle.vt_location.specs.declared.locations.Location.{Location}
use Rattle.vt_laws_worlds.specs.Permits.Sees.{MayBeRenamed}
use Rattle.vt_laws_worlds.specs.Worlds.Permits.{IsReached}
use Rattle.vt_ns.proofs.world.FileRemoving.{nothing_detached}

module _ (value : WorldValue) (held : IsHeld value) (name : TaskName) (from : Location) (old : List ℕ) (to : Location)
    (new : List ℕ) (object : Location) (replaced : Option Location) (small : IsSmall from) (small_to : IsSmall to)
    (small_object : IsSmall object)
    (permits : Permits value name (ToRename (location_of from) old (location_of to) new (location_of object)
    (option_map location_of replaced))) where
  abbrev permit : Permit ℕ
  permit = ToRename (location_of from) old (location_of to) new (location_of object) (option_map location_of replaced)

  abbrev change : Change ℕ
  change = Move (number_of from.node) old (number_of to.node) new (number_of object.node)

  -- the permit names what is there
  pub names : NamesWhatIsThere (world_of value) permits.task permit
  names = (permit_fits value held name permit permits).names

  -- the rename may be made
  pub sees : MayBeRenamed (world_of value) (location_of from) old (location_of to) new (location_of object)
      (option_map location_of replaced)
  sees = given_permits_are_seen_to (world_of value) (supply_of value permit) permits.task permit held.in_world
      permits.given

  -- nothing is renamed in an overlay
  from_plain : IsPlainAt value from
  from_plain = changed_is_plain value held name permit permits (location_of from) _ refl

  plain_there : (at : Location) → (location_of at).mount ≡ (location_of from).mount → IsPlainAt value at
  plain_there at same = ap (λ mount. is_overlay (filesystem_numbered nat_eq (world_of value)
      (mount_numbered nat_eq (world_of value) mount).filesystem)) same ∙ from_plain

  -- the directory of the old name stands where the world has it
  pub from_seen : IsLocated value from
  from_seen = located value held from small from_plain names.0.reached.there

  to_seen : IsLocated value to
  to_seen = located value held to small_to (plain_there to sees.to_mount) names.1.reached.there

  object_seen : IsLocated value object
  object_seen = located value held object small_object (plain_there object sees.object_mount) names.2.there

  -- an inode that is seen through the same mount is in the same filesystem
  same_there : (at : Location) → (location_of at).mount ≡ (location_of from).mount
      → is_located_well nat_eq (world_of value) (location_of at) ≡ true
      → is_some ((filesystem_at nat_eq (world_of value) (location_of from)).files.tree.node (number_of at.node)) ≡ true
  same_there at same well = ap (λ mount. is_some ((filesystem_numbered nat_eq (world_of value)
      (mount_numbered nat_eq (world_of value) mount).filesystem).files.tree.node (number_of at.node)))
      (sym same) ∙ (and_parts (is_among nat_eq (location_of at).mount
      (map (λ mount. mount.number) (world_of value).mounts))
      (is_there nat_eq (world_of value) (mount_at nat_eq (world_of value) (location_of at)).filesystem
      (location_of at).node) well).1

  same_filesystem : (at : Location) → IsSmall at → (location_of at).mount ≡ (location_of from).mount
      → is_located_well nat_eq (world_of value) (location_of at) ≡ true → at.node.filesystem ≡ from.node.filesystem
  same_filesystem at small_at same well =
      also_there value held from from_seen at.node small_at (same_there at same well)

  pub renamed_is_kept : is_some ((files_at value.filesystems from.node.filesystem.count).tree.node
      (number_of object.node)) ≡ true
  renamed_is_kept =
      kept_there value held from from_seen (number_of object.node) (same_there object sees.object_mount names.2.there)

  -- both directories are in one filesystem
  pub renamed_to : to.node.filesystem ≡ from.node.filesystem
  renamed_to = same_filesystem to small_to sees.to_mount names.1.reached.there

  -- and so is the object
  pub renamed_object : object.node.filesystem ≡ from.node.filesystem
  renamed_object = same_filesystem object small_object sees.object_mount names.2.there

  -- the change can be made to the inodes that are kept
  pub change_fits : (inodes : Inodes ℕ) → inodes ≡ inodes_seen from_seen.entry → Fits inodes change
  change_fits inodes same =
      given_changes_fit (world_of value) (supply_of value permit) permits.task permit (location_of from)
      change inodes held.in_world permits.given refl
      (ap tree_of same ∙ ap (λ filesystem. filesystem.files.tree) (sym (located_filesystem value held from from_seen)))

  -- the rename can be made
  pub rename_fits : Fits (inodes_at value.filesystems from.node.filesystem.count) change
  rename_fits = change_fits (inodes_at value.filesystems from.node.filesystem.count)
      (located_inodes value from from_seen)

  -- the permit names numbers that were counted
  pub is_named : permit_named (is_counted_before value.next) permit ≡ true
  is_named = λ i. from_seen.named i && to_seen.named i && object_seen.named i && by replaced names.3 i
    where
      by : (o : Option Location) → ((other : meant.Location ℕ) → option_map location_of o ≡ Some other
          → IsReached (world_of value) permits.task other)
          → none_or (location_named (is_counted_before value.next)) (option_map location_of o) ≡ true
      by None there = refl
      by (Some other) there = located_is_named value held (location_of other) (there (location_of other) refl).there

  nothing_replaced : (o : Option Location)
      → IfSome o (λ other. mounts_on nat_eq (world_of value) (location_of other) ≡ [])
      → without_replaced nat_eq (world_of value) (option_map location_of o) ≡ world_of value
  nothing_replaced None none = refl
  nothing_replaced (Some other) none = nothing_detached value held (location_of other) none

  -- an object is renamed where no mount stands on what it replaces
  pub rename_alone_is_done : IfSome replaced (λ other. mounts_on nat_eq (world_of value) (location_of other) ≡ [])
      → (filesystems : Filesystems)
      → ChangesInodes from.node.filesystem.count (λ inodes. changed nat_eq inodes change) value.filesystems filesystems
      → IsFilesEvent value name permit (with_filesystems value filesystems)
  rename_alone_is_done none filesystems changes =
      files_are_changed value name permit (location_of from) change filesystems held permits (record {
        named = is_named;
        rest = supply_of value permit;
        applied = ap (λ world. with_change nat_eq (supply_of value permit) world (location_of from) change)
            (nothing_replaced replaced none);
        named_supply = λ k. 0;
        are_named = λ k. refl;
        named_rest = λ k. 0;
        applied_named = ap (λ world. with_change nat_eq (λ k. 0) world (location_of from) change)
            (nothing_replaced replaced none);
      }) (record {
        entry = from_seen.entry;
        among = from_seen.among;
        found = from_seen.found;
        shows = from_seen.shows;
        fits = change_fits (inodes_seen from_seen.entry) refl;
        links = tt;
        changes =
            subst (λ count. ChangesInodes count (λ inodes. changed nat_eq inodes change) value.filesystems filesystems)
            (sym from_seen.count_is) changes;
        own = λ number other. tt;
      })
