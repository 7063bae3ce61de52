-- What lies or counts under layers, and which layers overlap, found without a look at a whole tree: the kernel's
-- overlayfs document, "changes to underlying filesystems" and "sharing and copying layers" (that a layer in use is
-- locked is the profile's).
use Rattle.std.specs.Prelude.{Bool, List, false, nat_eq, true, ℕ, ◌&&◌, ◌++◌, ◌||◌, ◌∷◌, ◌≡◌, ◌≢◌}
use Rattle.std.specs.List.{list_all, list_any}
use Rattle.vt_spec.specs.FileTree.{FileTree, has_entry_to, is_directory_under, is_file_under}
use Rattle.vt_spec.specs.Lists.{holds_of, is_among}
use Rattle.vt_spec.specs.Machine.Invariants.{IsWorld, ListsNumbers, is_plain_layer}
use Rattle.vt_spec.specs.Machine.Locked.{is_locked, lies_in_layer, lies_or_counts_under, live_layers, of_overlay, overlaps_one_of, overlays}
use Rattle.vt_spec.specs.Machine.World.{Filesystem, Layer, World, filesystem_numbered}
use Rattle.vt_laws_kept.specs.Kept.{kept_in, objects_kept}

-- an overlay keeps the object, and its upper directory lies in the layer
abbrev pub keeps_in_layer : World ℕ → ℕ → ℕ → Layer ℕ → Filesystem ℕ → Bool
keeps_in_layer world filesystem object layer merged =
    of_overlay false (λ overlay.
    holds_of (λ upper. lies_in_layer nat_eq world upper.filesystem upper.directory layer) overlay.upper) merged
    && is_among nat_eq object (objects_kept filesystem merged)

-- What counts as under a layer lies there, or is kept by an overlay whose upper directory lies there.
abbrev pub CountsUnderWhereKept : Type 0
CountsUnderWhereKept =
    (world : World ℕ) (filesystem object : ℕ) (layer : Layer ℕ) → IsWorld nat_eq world
    → lies_or_counts_under nat_eq world filesystem object layer
    ≡ (lies_in_layer nat_eq world filesystem object layer
    || list_any (keeps_in_layer world filesystem object layer) (overlays world))

-- So what is locked lies in a layer of a live overlay, or is kept.
abbrev pub IsLockedWhereKept : Type 0
IsLockedWhereKept =
    (world : World ℕ) (filesystem object : ℕ) → IsWorld nat_eq world
    → is_locked nat_eq world filesystem object
    ≡ (list_any (lies_in_layer nat_eq world filesystem object) (live_layers world)
    || is_among nat_eq object (kept_in world filesystem))

-- a directory has a name for a file, and lies under another one
abbrev pub names_under : FileTree ℕ → ℕ → ℕ → ℕ → Bool
names_under files top file directory =
    has_entry_to nat_eq files.tree directory file && is_directory_under nat_eq files top directory

-- Whether a file lies under a directory is asked of any directories, among them all that have a name for it.
abbrev pub FilesLieByTheirNames : Type 0
FilesLieByTheirNames =
    (files : FileTree ℕ) (top file : ℕ) (directories : List ℕ) → ListsNumbers nat_eq files
    → ((directory : ℕ) → has_entry_to nat_eq files.tree directory file ≡ true
    → is_among nat_eq directory directories ≡ true)
    → is_file_under nat_eq files top file ≡ list_any (names_under files top file) directories

-- inodes of a tree, among them each that has names in two directories: link(2)
abbrev pub ListsLinked : FileTree ℕ → List ℕ → Type 0
ListsLinked files inodes =
    (one other inode : ℕ) → one ≢ other → has_entry_to nat_eq files.tree one inode ≡ true
    → has_entry_to nat_eq files.tree other inode ≡ true → is_among nat_eq inode inodes ≡ true

-- the directory of one of two layers lies in the other
abbrev pub are_nested : World ℕ → Layer ℕ → Layer ℕ → Bool
are_nested world one other =
    lies_in_layer nat_eq world one.filesystem one.directory other
    || lies_in_layer nat_eq world other.filesystem other.directory one

-- an inode lies or counts under a layer, and under one of others
abbrev pub is_in_both : World ℕ → List (Layer ℕ) → Layer ℕ → ℕ → Bool
is_in_both world others layer inode =
    lies_or_counts_under nat_eq world layer.filesystem inode layer
    && list_any (lies_or_counts_under nat_eq world layer.filesystem inode) others

-- A layer overlaps one of others just if it is nested with one, or one of those inodes or of the kept ones is in both.
abbrev pub OverlapsAreFound : Type 0
OverlapsAreFound =
    (world : World ℕ) (layer : Layer ℕ) (others : List (Layer ℕ)) (inodes : List ℕ) → IsWorld nat_eq world
    → list_all (is_plain_layer nat_eq world) (layer ∷ others) ≡ true
    → ListsLinked (filesystem_numbered nat_eq world layer.filesystem).files inodes
    → overlaps_one_of nat_eq world others layer
    ≡ (list_any (are_nested world layer) others
    || list_any (is_in_both world others layer) (inodes ++ kept_in world layer.filesystem))

-- an inode lies in a layer, and in one of others
abbrev pub lies_in_both : World ℕ → List (Layer ℕ) → Layer ℕ → ℕ → Bool
lies_in_both world others layer inode =
    lies_in_layer nat_eq world layer.filesystem inode layer
    && list_any (lies_in_layer nat_eq world layer.filesystem inode) others

-- So a layer overlaps one of the layers of live overlays, or one of those that changes write to, just if it is nested
-- with one, or one of those inodes lies in both, or a kept one lies in it.
abbrev pub OverlapsWithLiveAreFound : (World ℕ → List (Layer ℕ)) → Type 0
OverlapsWithLiveAreFound live =
    (world : World ℕ) (layer : Layer ℕ) (inodes : List ℕ) → IsWorld nat_eq world
    → is_plain_layer nat_eq world layer ≡ true
    → ListsLinked (filesystem_numbered nat_eq world layer.filesystem).files inodes
    → overlaps_one_of nat_eq world (live world) layer
    ≡ (list_any (are_nested world layer) (live world) || list_any (lies_in_both world (live world) layer) inodes
    || list_any (λ inode. lies_in_layer nat_eq world layer.filesystem inode layer) (kept_in world layer.filesystem))
