-- A call is granted to make a file and open it: its directory, whatever numbers it is handed, and that it is permitted
-- with the number of the next inode.
use Rattle.std.proofs.Common.{◌≡◌, refl, sym, ap, subst, ◌∙◌, ℕ, ◌%◌, ◌==◌, true, List, Option, None, Some, is_some, option_map, arith}
use Rattle.vt_spec.proofs.Common.{Inodes, Node, Permit, TaskName, ToOpenNew, list_all, same_Some, common_steps}
use Rattle.vt_spec.specs.Language.Calls.{Access}
use Rattle.vt_ns.proofs.Common.{IsHeld, IsLocated, IsPlainAt, IsSmall, Permits, WorldValue, counts_from, entry_of, inodes_at, is_small_node, is_some_mapped, located, located_inodes, location_of, mounts_in, next_inode, next_seen, no_entry, number_of, world_of, is_own_number}
use Rattle.vt_fs.specs.FilesystemsValue.{entry_at}
use Rattle.vt_location.specs.declared.births.Birth.TheVariants.{Here}
use Rattle.vt_location.specs.declared.locations.Location.{Location}
use Rattle.vt_location.specs.declared.locations.NodeRef.{NodeRef}
use Rattle.vt_location.proofs.NodeLemmas.{here_is_own, small_parts}
use Rattle.vt_permits.specs.GrantValue.{node_in}
use Rattle.vt_laws_worlds.proofs.overlays_read.Changes.{plain_ones_are_changed}
use Rattle.vt_laws_worlds.proofs.worlds.FitPermitsNamed.{all_permits_fit}
use Rattle.vt_laws_worlds.specs.Permits.Left.{IsGiven}
use Rattle.vt_laws_worlds.specs.Worlds.Permits.{IsFitPermit}
use Rattle.vt_mount.specs.Sources.{has_counted_source}
use Rattle.vt_ns.specs.Grants.{Grants}
use Rattle.vt_ns.specs.Vacancy.{IsVacant, NextInodeIsVacant}
use Rattle.vt_ns.proofs.Granting.{counts, given_with, handed, permitted}
use Rattle.vt_ns.proofs.world.FileMaking.{next_of_entry}
use Rattle.vt_ns.proofs.world.VacantNumbers.{is_vacant}

-- A task is granted to make a file in a directory, and to open it.
pub record MayOpen (value : WorldValue) : Type 0 where
  pub held : IsHeld value
  pub name : TaskName
  pub directory : Location
  pub entry : List ℕ
  pub node : Node ℕ
  pub access : Access
  pub small : IsSmall directory
  pub granted : Grants value name (ToOpenNew (location_of directory) entry (node_in directory node) access)

module _ (value : WorldValue) (may : MayOpen value) where
  open may use {held, name, directory, entry, node, access, small, granted}

  abbrev count : ℕ
  count = directory.node.filesystem.count

  abbrev permit : Permit ℕ
  permit = ToOpenNew (location_of directory) entry (node_in directory node) access

  -- What is granted does not go by the numbers that are handed in, so counts serve here.
  given : IsGiven (counts_from value.next) (world_of value) granted.task permit
  given = given_with value name permit granted (counts_from value.next) (counts value held)

  -- what is made is made in no overlay
  directory_plain : IsPlainAt value directory
  directory_plain =
      plain_ones_are_changed (world_of value) (counts_from value.next) granted.task permit (location_of directory) _
      held.overlays.read_only held.overlays.writers given refl

  permit_fits : IsFitPermit (counts_from value.next) (world_of value) granted.task permit
  permit_fits = all_permits_fit (world_of value) (counts_from value.next) granted.task given.call permit held.in_world
      given.serves given.called given.no_overlay given.judged

  -- the directory stands where the world has it
  pub directory_seen : IsLocated value directory
  directory_seen = located value held directory small directory_plain permit_fits.names.0.reached.there

  has_filesystem : entry_of value.filesystems count ≡ Some directory_seen.entry
  has_filesystem = ap (entry_of value.filesystems) (sym directory_seen.count_is) ∙ directory_seen.found

  -- its filesystem has a slot for one inode more,
  pub has_next : (next : Option NodeRef)
      → option_map number_of next ≡ option_map next_seen (entry_of value.filesystems count) → is_some next ≡ true
  has_next next is = grind (arith, common_steps, is_some_mapped number_of next, has_filesystem)

  -- the next inode of its filesystem
  pub record IsNext : Type 0 where
    pub odd : list_all (λ mount. mount.number % 4 == 1) (mounts_in value.mounts) ≡ true
    pub sources : list_all has_counted_source (mounts_in value.mounts) ≡ true
    pub made : NodeRef
    pub number : Some (number_of made) ≡ option_map next_seen (entry_of value.filesystems count)
    pub inside : made.filesystem ≡ directory.node.filesystem
    pub born : made.birth ≡ Here
    pub nowhere : (inodes_at value.filesystems count).inode (number_of made) ≡ None
    pub small_made : is_small_node made ≡ true

  module _ (next : IsNext) where
    open next use {odd, sources, made, number, inside, born, nowhere, small_made}

    -- it gets the number of the slot,
    pub made_is_numbered : number_of made ≡ next_seen (entry_at value.filesystems count)
    made_is_numbered = grind (arith, common_steps, same_Some, made, next_seen, has_filesystem, no_entry)

    pub own_made : is_own_number made.filesystem.count (number_of made) ≡ true
    own_made = let small = small_parts made small_made in here_is_own made small.filesystem small.slot born

    -- which no inode has,
    pub open_vacant : NextInodeIsVacant value (location_of directory)
    open_vacant = subst (IsVacant value) (sym (next_of_entry value (location_of directory) directory_seen.entry count
        directory_seen.shows directory_seen.found directory_seen.count_is ∙ sym made_is_numbered))
        (is_vacant value held odd sources directory_seen.entry directory_seen.among made small_made born
        (ap (λ filesystem. filesystem.count) inside ∙ sym directory_seen.count_is)
        (ap (λ (inodes : Inodes ℕ). inodes.inode (number_of made))
        (sym (located_inodes value directory directory_seen)) ∙ nowhere))

    -- so it is permitted
    pub open_permitted : Permits value name permit
    open_permitted = permitted value name permit granted
        (handed value held 0 (next_inode value (location_of directory)) open_vacant)
