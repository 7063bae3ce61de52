-- The limits of names, link texts and files.
use Rattle.std.specs.Prelude.{All, Bool, List, Some, [], length, nat_eq, nat_le, not, false, true, ℕ, ⊤, ◌&&◌, ◌≡◌}
use Rattle.std.specs.List.{list_all}
use Rattle.vt_spec.specs.Language.Calls.{Call, TaskName}
use Rattle.vt_spec.specs.Language.Changes.{Change, changed}
use Rattle.vt_spec.specs.Language.Changes.Change.{AddName, CopyUp, Make, Move, Remove, SetAttr, SetBytes, SetMark}
use Rattle.vt_spec.specs.FileTree.{FileTree}
use Rattle.vt_spec.specs.Lists.{Fresh}
use Rattle.vt_spec.specs.Language.Limits.{largest_file, longest_name}
use Rattle.vt_spec.specs.Machine.Policy.{policy}
use Rattle.vt_spec.specs.Machine.Settled.{settled}
use Rattle.vt_spec.specs.Machine.World.{World, is_overlay, opening}
use Rattle.vt_spec.specs.Machine.Invariants.{has_fit_names, has_fit_text, is_fit_filesystem, is_no_larger}
use Rattle.vt_spec.specs.PathText.{is_empty}
use Rattle.vt_spec.specs.Tree.{Node}
use Rattle.vt_laws_trees.specs.Trees.Calls.{mounts_overlay}

-- a name is not empty and has at most 255 bytes: NAME_MAX of limits.h
abbrev pub is_fit_name : List ℕ → Bool
is_fit_name name = not (is_empty name) && nat_le (length name) longest_name

-- an inode within the limits of files, of link texts and of names
abbrev pub is_fit_node : Node ℕ → Bool
is_fit_node node =
    let files : FileTree ℕ = record { tree = record { root = 0; node = λ number. Some node }; numbers = [] } in
    is_no_larger files 0 && has_fit_names files 0 && has_fit_text files 0

abbrev pub is_fit_tree : FileTree ℕ → Bool
is_fit_tree files = list_all (λ number. is_no_larger files number && has_fit_names files number
    && has_fit_text files number) files.numbers

-- what a change gives is within the limits
abbrev pub IsFitChange : Change ℕ → Type 0
IsFitChange (Make directory name number node) = (is_fit_name name ≡ true) × (is_fit_node node ≡ true)
IsFitChange (AddName directory name object) = is_fit_name name ≡ true
IsFitChange (Remove directory name object) = ⊤
IsFitChange (Move from old to new object) = is_fit_name new ≡ true
IsFitChange (SetBytes file bytes) = nat_le (length bytes) largest_file ≡ true
IsFitChange (SetAttr object attr) = ⊤
IsFitChange (SetMark directory opaque) = ⊤
IsFitChange (CopyUp object) = ⊤

-- A change keeps a tree within the limits: path_resolution(7), ENAMETOOLONG; write(2), EFBIG; symlink(2).
abbrev pub ChangesKeepSizes : Type 0
ChangesKeepSizes =
    (files : FileTree ℕ) (change : Change ℕ) → is_fit_tree files ≡ true → IsFitChange change
    → is_fit_tree (changed nat_eq files change) ≡ true

-- So does what forgets the inodes that nothing uses.
abbrev pub SettlingKeepsSizes : Type 0
SettlingKeepsSizes =
    (world : World ℕ) → list_all is_fit_filesystem world.filesystems ≡ true
    → list_all is_fit_filesystem (settled nat_eq world).filesystems ≡ true

-- A world without overlays, within the limits; the opening world is one.
pub record IsFitWorld (world : World ℕ) : Type 0 where
  pub plain : All (λ filesystem. is_overlay filesystem ≡ false) world.filesystems
  pub fit : list_all is_fit_filesystem world.filesystems ≡ true

abbrev pub OpeningIsFit : Type 0
OpeningIsFit = (fresh : Fresh ℕ) → IsFitWorld (opening nat_eq fresh)

-- In a world of plain filesystems every call but the mount of an overlay keeps names, link texts and files within them.
abbrev pub CallsKeepSizes : Type 0
CallsKeepSizes =
    (world : World ℕ) (fresh : Fresh ℕ) (name : TaskName) (call : Call)
    → IsFitWorld world → mounts_overlay call ≡ false → IsFitWorld (policy nat_eq fresh world name call).world
