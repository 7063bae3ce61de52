-- The sweep, one thing at a time, in worlds with overlays: first inodes of overlays go, then those of plain trees, and
-- among them the upper inodes of what went. The kernel's overlayfs document, path_resolution(7), unlink(2).
use Rattle.std.specs.Prelude.{All, Bool, List, None, Option, Some, [], flat_map, if◌then◌else◌, map, nat_eq, not, option_map, option_to_list, true, ℕ, ◌&&◌, ◌++◌, ◌+◌, ◌∷◌, ◌≡◌}
use Rattle.std.specs.List.{list_all}
use Rattle.vt_spec.specs.Lists.{folded}
use Rattle.vt_spec.specs.Machine.Locked.{of_overlay}
use Rattle.vt_spec.specs.Machine.Settled.{settled, without_dead_filesystems, without_dead_in, without_dead_inodes}
use Rattle.vt_spec.specs.Machine.World.{Filesystem, Layer, Overlay, Real, World, is_overlay, layers_of, upper_object}
use Rattle.vt_spec.specs.Machine.World.Real.{Upper}
use Rattle.vt_laws_mounts.specs.LettingGo.Counts.{inode_uses, times}
use Rattle.vt_laws_mounts.specs.LettingGo.InUse.{HasTrees, UppersArePlain, is_inode_used}
use Rattle.vt_laws_mounts.specs.LettingGo.OneByOne.{AllInUseBut, FilesystemsInUseBut, Inode, InodesInUseBut, Losers, is_used_or_among, let_go_filesystems, let_go_groups, let_go_mounts, without_inode}

abbrev pub is_plain : Filesystem ℕ → Bool
is_plain filesystem = not (is_overlay filesystem)

abbrev pub without_real : ℕ → Overlay ℕ → Overlay ℕ
without_real number overlay =
    record overlay { real = λ other. if nat_eq other number then None else overlay.real other }

-- a filesystem without an inode; an overlay without its real object, too
abbrev pub without_inode_of : ℕ → Filesystem ℕ → Filesystem ℕ
without_inode_of number filesystem = record filesystem {
  files = without_inode number filesystem.files;
  overlay = option_map (without_real number) filesystem.overlay;
}

abbrev pub let_go_in_of : (Filesystem ℕ → Bool) → World ℕ → Inode → Filesystem ℕ → Filesystem ℕ
let_go_in_of chosen world inode filesystem =
    if (chosen filesystem && nat_eq filesystem.number inode.0) && not (is_inode_used world filesystem inode.1)
    then without_inode_of inode.1 filesystem else filesystem

-- The inode goes if its filesystem is of a kind, unless something uses it.
abbrev pub let_go_in : (Filesystem ℕ → Bool) → World ℕ → Inode → World ℕ
let_go_in chosen world inode = record world { filesystems = map (let_go_in_of chosen world inode) world.filesystems }

-- one after the other: those of overlays, and those of plain trees
abbrev pub let_go_merged : World ℕ → List Inode → World ℕ
let_go_merged world inodes = folded (let_go_in is_overlay) world inodes

abbrev pub let_go_plain : World ℕ → List Inode → World ℕ
let_go_plain world inodes = folded (let_go_in is_plain) world inodes

-- the real object of an inode of an overlay
abbrev pub real_in : Filesystem ℕ → ℕ → Option (Real ℕ)
real_in filesystem number = of_overlay None (λ overlay. overlay.real number) filesystem

-- an inode that is not there has no real object
abbrev pub RealsAreThere : World ℕ → Type 0
RealsAreThere world =
    All (λ filesystem. (number : ℕ) → filesystem.files.tree.node number ≡ None → real_in filesystem number ≡ None)
    world.filesystems

-- the upper inode that is an inode's real object, if it has one
abbrev pub uppers_in : ℕ → Overlay ℕ → List Inode
uppers_in number overlay =
    flat_map (λ layer. map (λ object. (layer.filesystem, object)) (option_to_list (upper_object (overlay.real number))))
    (option_to_list overlay.upper)

abbrev pub uppers_of_inode_in : Inode → Filesystem ℕ → List Inode
uppers_of_inode_in inode filesystem =
    if nat_eq filesystem.number inode.0 then of_overlay [] (uppers_in inode.1) filesystem else []

abbrev pub uppers_of_inode : World ℕ → Inode → List Inode
uppers_of_inode world inode = flat_map (uppers_of_inode_in inode) world.filesystems

abbrev pub uppers_of : World ℕ → List Inode → List Inode
uppers_of world inodes = flat_map (uppers_of_inode world) inodes

-- The losers in overlays are looked at, then all losers in plain trees, and the upper inodes of the former.
abbrev pub let_go_all_inodes : World ℕ → List Inode → World ℕ
let_go_all_inodes world inodes = let_go_plain (let_go_merged world inodes) (inodes ++ uppers_of world inodes)

abbrev pub let_go_all : World ℕ → Losers → World ℕ
let_go_all world losers =
    let_go_groups
    (let_go_all_inodes (let_go_filesystems (let_go_mounts world losers.mounts) losers.filesystems) losers.inodes)
    losers.groups

abbrev pub InodesOfOverlaysInUseBut : List Inode → World ℕ → Type 0
InodesOfOverlaysInUseBut losers world =
    All (λ filesystem. is_overlay filesystem ≡ true
    → list_all (is_used_or_among losers world filesystem) filesystem.files.numbers ≡ true) world.filesystems

-- Where all other inodes of overlays are used, the sweep of overlays is to look at these, one after the other.
abbrev pub MergedGoOneByOne : Type 0
MergedGoOneByOne =
    (world : World ℕ) (losers : List Inode) → HasTrees world → UppersArePlain world → RealsAreThere world
    → InodesOfOverlaysInUseBut losers world → without_dead_in nat_eq is_overlay world ≡ let_go_merged world losers

-- So is the sweep of all inodes: what lost its use when an inode of an overlay went is its upper inode.
abbrev pub AllInodesGoOneByOne : Type 0
AllInodesGoOneByOne =
    (world : World ℕ) (losers : List Inode) → HasTrees world → UppersArePlain world → RealsAreThere world
    → InodesInUseBut losers world → without_dead_inodes nat_eq world ≡ let_go_all_inodes world losers

-- So is the whole sweep.
abbrev pub WithOverlaysAllGoes : Type 0
WithOverlaysAllGoes =
    (world : World ℕ) (losers : Losers) → HasTrees world → UppersArePlain world → RealsAreThere world
    → AllInUseBut losers world → settled nat_eq world ≡ let_go_all world losers

-- Where an inode of an overlay goes whose real object is an upper inode, that upper inode has one use less, and no
-- other inode has.
abbrev pub OneUpperUseLess : Type 0
OneUpperUseLess =
    (world : World ℕ) (front back : List (Filesystem ℕ)) (merged : Filesystem ℕ) (overlay : Overlay ℕ) (layer : Layer ℕ)
    (inode object : ℕ)
    → world.filesystems ≡ front ++ (merged ∷ back) → merged.overlay ≡ Some overlay → overlay.upper ≡ Some layer
    → overlay.real inode ≡ Some (Upper object) → times (nat_eq inode) merged.files.numbers ≡ 1
    → (filesystem : Filesystem ℕ) (number : ℕ)
    → inode_uses world filesystem number
    ≡ inode_uses (record world { filesystems = front ++ (without_inode_of inode merged ∷ back) }) filesystem number
    + (if nat_eq filesystem.number layer.filesystem && nat_eq number object then 1 else 0)

-- what an overlay uses: the directories of its layers, and its upper objects
abbrev pub used_by_filesystem : Filesystem ℕ → List Inode
used_by_filesystem filesystem =
    map (λ layer. (layer.filesystem, layer.directory)) (of_overlay [] layers_of filesystem)
    ++ flat_map (λ number. of_overlay [] (uppers_in number) filesystem) filesystem.files.numbers

abbrev pub used_by_numbered : World ℕ → ℕ → List Inode
used_by_numbered world number =
    flat_map (λ filesystem. if nat_eq filesystem.number number then used_by_filesystem filesystem else [])
    world.filesystems

abbrev pub used_by_filesystems : World ℕ → List ℕ → List Inode
used_by_filesystems world numbers = flat_map (used_by_numbered world) numbers

-- Where filesystems go, all inodes are used but those that were not before, and what overlays among these used.
abbrev pub FilesystemsTakeTheirUses : Type 0
FilesystemsTakeTheirUses =
    (world : World ℕ) (filesystems : List ℕ) (inodes : List Inode)
    → FilesystemsInUseBut filesystems world → InodesInUseBut inodes world
    → InodesInUseBut (inodes ++ used_by_filesystems world filesystems) (without_dead_filesystems nat_eq world)
