-- A change of a filesystem in the world, and what the mounter of an overlay needs for it (profile; the kernel's
-- overlayfs document, "permission model").
use Rattle.std.specs.Prelude.{Bool, List, None, Option, Some, [], false, filter, find, flat_map, if◌then◌else◌, is_some, map, not, option_map, option_to_list, unwrap_or, ℕ, ◌&&◌, ◌++◌, ◌+◌, ◌==◌, ◌||◌, ◌∷◌}
use Rattle.std.specs.List.{list_any}
use Rattle.vt_spec.specs.declared.attributes.Attr.{Attr}
use Rattle.vt_spec.specs.declared.attributes.Kind.TheVariants.{File}
use Rattle.vt_spec.specs.declared.errors.Rule.TheVariants.{B1, B2}
use Rattle.vt_spec.specs.Language.Changes.{Change, changed}
use Rattle.vt_spec.specs.Language.Changes.Change.{AddName, CopyUp, Make, Move, Remove, SetAttr, SetBytes, SetMark}
use Rattle.vt_spec.specs.Language.Limits.{largest_change}
use Rattle.vt_spec.specs.Machine.CopyUp.{Merge, Stack, merge_changed}
use Rattle.vt_spec.specs.Errors.{Rules}
use Rattle.vt_spec.specs.FileTree.{FileTree, a_name, ancestors, attr_in, is_kind_in, path_down}
use Rattle.vt_spec.specs.Machine.Layers.{has_lower_directory}
use Rattle.vt_spec.specs.Lists.{Fresh, before_first}
use Rattle.vt_spec.specs.Machine.Locked.{of_overlay}
use Rattle.vt_spec.specs.Machine.Mounts.{Location}
use Rattle.vt_spec.specs.Machine.Rightful.{node_allows}
use Rattle.vt_spec.specs.Rights.{Credentials, cap_chown, execute_right, has_all, is_member, read_right, write_right}
use Rattle.vt_spec.specs.Machine.World.{Filesystem, Layer, Overlay, World, files_at, filesystem_at, filesystem_numbered, open_layer, upper_object, with_filesystem}

-- a change number that is raised by one, and stays at the largest one (profile)
abbrev pub raised : ℕ → ℕ
raised number = if number == largest_change then number else number + 1

-- the capability, or the same owner and a group of his: what a copy's owner takes
abbrev pub can_give_owner : Credentials → Attr → Bool
can_give_owner who attr =
    has_all who.capabilities cap_chown || (who.uid == attr.uid && is_member who attr.gid)

module _ {N : Type 0} where
  -- the objects that a change of an overlay copies up if they are only in lower layers: the object itself, if it exists
  -- before the change
  abbrev pub object_copied : Change N → List N
  object_copied (Make directory name number node) = []
  object_copied (AddName directory name object) = object ∷ []
  object_copied (Remove directory name object) = []
  object_copied (Move from old to new object) = object ∷ []
  object_copied (SetBytes file bytes) = file ∷ []
  object_copied (SetAttr object attr) = object ∷ []
  object_copied (SetMark directory opaque) = directory ∷ []
  object_copied (CopyUp object) = object ∷ []

  -- the directories in which a change makes, removes or renames
  abbrev pub directories_changed : Change N → List N
  directories_changed (Make directory name number node) = directory ∷ []
  directories_changed (AddName directory name object) = directory ∷ []
  directories_changed (Remove directory name object) = directory ∷ []
  directories_changed (Move from old to new object) = from ∷ to ∷ []
  directories_changed (SetBytes file bytes) = []
  directories_changed (SetAttr object attr) = []
  directories_changed (SetMark directory opaque) = []
  directories_changed (CopyUp object) = []

  -- the filesystem with another tree
  abbrev pub with_files : Filesystem N → FileTree N → Filesystem N
  with_files filesystem files = record filesystem { files = files }

  -- the real object of an inode is not in the upper layer
  abbrev pub lies_only_in_lowers : Overlay N → N → Bool
  lies_only_in_lowers overlay number = not (is_some (upper_object (overlay.real number)))

  -- the objects that a change copies up: overlayfs, "upper and lower"
  abbrev pub objects_copied : Filesystem N → Overlay N → Change N → List N
  objects_copied filesystem overlay change = filter (lies_only_in_lowers overlay) (object_copied change)

  -- B1: a regular file that the mounter may not read (profile)
  abbrev pub cannot_read_copied : Filesystem N → Overlay N → N → Bool
  cannot_read_copied filesystem overlay number =
      is_kind_in File (filesystem.files.tree.node number)
      && not (node_allows overlay.mounter read_right (filesystem.files.tree.node number))

  -- B1: a directory that the mounter may not write and search (profile)
  abbrev pub cannot_change_directory : Filesystem N → Overlay N → N → Bool
  cannot_change_directory filesystem overlay number =
      not (node_allows overlay.mounter (write_right + execute_right) (filesystem.files.tree.node number))

  -- B2: an object whose owner the mounter may not give to a copy (profile)
  abbrev pub cannot_give_owner : Filesystem N → Overlay N → N → Bool
  cannot_give_owner filesystem overlay number =
      not (can_give_owner overlay.mounter (attr_in (filesystem.files.tree.node number)))

module _ {N : Type 0} (eq : N → N → Bool) where
  -- the layers of an overlay, as a change needs them
  abbrev pub stack_of : World N → Overlay N → Layer N → Stack N
  stack_of world overlay upper =
      record {
        directory = upper.directory;
        lowers = map
            (open_layer eq world) overlay.lowers;
        mounter = overlay.mounter;
      }

  -- the merged tree of an overlay, with that of its upper layer
  abbrev pub merge_of : World N → Filesystem N → Overlay N → Layer N → Merge N
  merge_of world filesystem overlay upper =
      record {
        files = filesystem.files;
        real = overlay.real;
        upper =
            (filesystem_numbered eq world upper.filesystem).files;
      }

  -- the world with a merged tree and its upper layer changed
  abbrev pub with_merge : World N → Filesystem N → Overlay N → Layer N → Merge N → World N
  with_merge world filesystem overlay upper merge =
      with_filesystem eq
      (with_filesystem eq world
      (record filesystem { files = merge.files; overlay = Some (record overlay { real = merge.real }) }))
      (with_files (filesystem_numbered eq world upper.filesystem) merge.upper)

  -- the world with a change of an overlay; without an upper layer there is none
  abbrev pub overlay_changed : Fresh N → World N → Filesystem N → Overlay N → Option (Layer N) → Change N → World N
  overlay_changed fresh world filesystem overlay None change = world
  overlay_changed fresh world filesystem overlay (Some upper) change =
      with_merge world filesystem overlay upper
      (merge_changed eq fresh (stack_of world overlay upper) (merge_of world filesystem overlay upper) change)

  -- the world with a change of a filesystem, plain or overlay
  abbrev pub filesystem_changed : Fresh N → World N → Filesystem N → Option (Overlay N) → Change N → World N
  filesystem_changed fresh world filesystem None change =
      with_filesystem eq world (with_files filesystem (changed eq filesystem.files change))
  filesystem_changed fresh world filesystem (Some overlay) change =
      overlay_changed fresh world filesystem overlay overlay.upper change

  -- the world with a change of the filesystem that a location is in. Its change number is raised last, by the policy
  abbrev pub with_change : Fresh N → World N → Location N → Change N → World N
  with_change fresh world location change =
      filesystem_changed fresh world (filesystem_at eq world location)
      (filesystem_at eq world location).overlay change

  -- an overlay and its upper layer's filesystem
  abbrev pub numbers_over : World N → Filesystem N → Option (Layer N) → List N
  numbers_over world filesystem None = []
  numbers_over world filesystem (Some upper) =
      filesystem.number ∷ (filesystem_numbered eq world upper.filesystem).number ∷ []

  -- the filesystem that is changed, and of an overlay the upper layer's
  abbrev pub numbers_of_change : World N → Filesystem N → Option (Overlay N) → List N
  numbers_of_change world filesystem None = filesystem.number ∷ []
  numbers_of_change world filesystem (Some overlay) = numbers_over world filesystem overlay.upper

  -- the filesystems whose numbers a change at a location raises: its own, and of an overlay the upper layer's too
  -- (profile)
  abbrev pub changed_at : World N → Location N → List N
  changed_at world location =
      numbers_of_change world (filesystem_at eq world location) (filesystem_at eq world location).overlay

  -- a filesystem with its change number raised, if it is one of these
  abbrev pub raised_if_changed : List N → Filesystem N → Filesystem N
  raised_if_changed changed filesystem =
      if list_any (λ number. eq number filesystem.number) changed
      then record filesystem { change = raised filesystem.change } else filesystem

  -- the world with the numbers of these filesystems raised
  abbrev pub filesystems_raised : List N → World N → World N
  filesystems_raised changed world =
      record world { filesystems = map (raised_if_changed changed) world.filesystems }

  -- What the mounter of an overlay is asked (profile), on real objects as they are before the call

  -- the directory that has a name of an object
  abbrev pub directory_of_name : FileTree N → N → List N
  directory_of_name files object = option_to_list (option_map (λ name. name.0) (a_name eq files object))

  -- the directories whose names, or whose objects' copies, are made, removed or renamed
  abbrev pub directories_asked : Filesystem N → Overlay N → Change N → List N
  directories_asked filesystem overlay change =
      flat_map (directory_of_name filesystem.files) (objects_copied filesystem overlay change)
      ++ directories_changed change

  -- the directories above, from the nearest one in the upper layer down
  abbrev pub ancestors_from_upper_layer : FileTree N → Overlay N → N → List N
  ancestors_from_upper_layer files overlay directory =
      before_first (λ d. not (lies_only_in_lowers overlay d)) (ancestors eq files directory)
      ++ option_to_list (find (λ d. not (lies_only_in_lowers overlay d)) (ancestors eq files directory))

  -- the directories that the mounter has to be able to write and search
  abbrev pub parents_asked : Filesystem N → Overlay N → Change N → List N
  parents_asked filesystem overlay change =
      flat_map (ancestors_from_upper_layer filesystem.files overlay) (directories_asked filesystem overlay change)

  -- the objects that are copied up, missing parents included
  abbrev pub copies : Filesystem N → Overlay N → Change N → List N
  copies filesystem overlay change =
      objects_copied filesystem overlay change
      ++ filter (lies_only_in_lowers overlay) (parents_asked filesystem overlay change)

  -- B1 and B2 of a change of an overlay (profile)
  abbrev pub overlay_rules : Filesystem N → Change N → Overlay N → Rules
  overlay_rules filesystem change overlay =
      (list_any (cannot_read_copied filesystem overlay) (copies filesystem overlay change), B1)
      ∷ (list_any (cannot_change_directory filesystem overlay) (parents_asked filesystem overlay change), B1)
      ∷ (list_any (cannot_give_owner filesystem overlay) (copies filesystem overlay change), B2)
      ∷ []

  -- B1 and B2 of a change, beside the rights that the caller is asked for
  abbrev pub mounter_rules : World N → Location N → Change N → Rules
  mounter_rules world location change =
      of_overlay [] (overlay_rules (filesystem_at eq world location) change) (filesystem_at eq world location)

  -- the path of a name in a directory, from the root of its filesystem
  abbrev pub path_of_name : World N → Location N → List ℕ → List (List ℕ)
  path_of_name world directory name =
      unwrap_or (path_down eq (files_at eq world directory) (files_at eq world directory).tree.root directory.node) []
      ++ (name ∷ [])

  -- O1: a lower layer that is not cut has a directory under a name: overlayfs, "renaming directories"
  abbrev pub has_lower_directory_at : World N → Location N → List ℕ → Bool
  has_lower_directory_at world directory name =
      of_overlay false (λ overlay. has_lower_directory
      (map (open_layer eq world) (option_to_list overlay.upper)) (map (open_layer eq world) overlay.lowers)
      (path_of_name world directory name))
      (filesystem_at eq world directory)
