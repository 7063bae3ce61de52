-- What an overlay keeps: its inodes that have lost their last name, and the upper objects of these. unlink(2) and
-- rmdir(2) of what is in use, and the kernel's overlayfs document, "upper and lower".
use Rattle.std.specs.Prelude.{Bool, List, [], filter, filter_map, flat_map, if◌then◌else◌, nat_eq, not, ℕ, ◌||◌}
use Rattle.vt_spec.specs.FileTree.{FileTree}
use Rattle.vt_spec.specs.Lists.{holds_of, is_among}
use Rattle.vt_spec.specs.Machine.Locked.{of_overlay}
use Rattle.vt_spec.specs.Machine.Settled.{named_in}
use Rattle.vt_spec.specs.Machine.World.{Filesystem, World, upper_object}

-- an inode is neither the root nor has a name
abbrev pub is_unnamed : FileTree ℕ → ℕ → Bool
is_unnamed files number = not (nat_eq number files.tree.root || is_among nat_eq number (named_in files))

-- those of a tree
abbrev pub unnamed_in : FileTree ℕ → List ℕ
unnamed_in files = filter (is_unnamed files) files.numbers

-- the objects in a filesystem that an overlay keeps: the upper objects of its unnamed inodes, if its upper layer is
-- there
abbrev pub objects_kept : ℕ → Filesystem ℕ → List ℕ
objects_kept filesystem merged =
    of_overlay [] (λ overlay.
    if holds_of (λ layer. nat_eq filesystem layer.filesystem) overlay.upper
    then filter_map (λ number. upper_object (overlay.real number)) (unnamed_in merged.files) else []) merged

-- those that all overlays keep
abbrev pub kept_in : World ℕ → ℕ → List ℕ
kept_in world filesystem = flat_map (objects_kept filesystem) world.filesystems
