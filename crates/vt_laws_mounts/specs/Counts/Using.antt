-- Uses of inodes that come and go with locations and mounts: open(2), close(2), chdir(2), mount(2), umount(2).
use Rattle.std.specs.Prelude.{Bool, List, None, Some, [], false, filter_map, if◌then◌else◌, is_some, map, nat_eq, not, option_to_list, true, ℕ, ◌&&◌, ◌+◌, ◌++◌, ◌||◌, ◌∷◌, ◌≡◌}
use Rattle.std.specs.List.{list_all}
use Rattle.vt_spec.specs.Lists.{Fresh, any_pair, folded, is_among}
use Rattle.vt_spec.specs.Machine.Mounts.{Location, Mount, root_of}
use Rattle.vt_spec.specs.Machine.World.{World, all_locations, filesystem_numbered, mount_at, new_plain, opening, root_attr}
use Rattle.vt_spec.specs.Inodes as Trees
use Rattle.vt_spec.specs.Inodes.{Inodes, one_directory, pinned, unpinned}
use Rattle.vt_spec.specs.Tree.{new_directory}
use Rattle.vt_laws_mounts.specs.LettingGo.Counts.{inode_uses, mounts_showing, times}
use Rattle.vt_laws_mounts.specs.LettingGo.InUse.{HasTrees, InodesInUse}
use Rattle.vt_laws_mounts.specs.LettingGo.Keeping.{LocationsStand}
use Rattle.vt_laws_mounts.specs.LettingGo.Leaving.{MountsStand}
use Rattle.vt_laws_mounts.specs.LettingGo.Mounting.{inode_at, root_inode}
use Rattle.vt_laws_mounts.specs.LettingGo.OneByOne.{Inode, is_mount_used, let_go_inodes, without_mount}
use Rattle.vt_laws_mounts.specs.Counts.Counted.{IsCounted, IsPlain}

-- this inode of this filesystem
abbrev pub is_inode : ℕ → ℕ → Inode → Bool
is_inode filesystem number inode = nat_eq filesystem inode.0 && nat_eq number inode.1

-- From one world to the next the inodes of a filesystem get these uses and lose those, each as often as it stands
-- there.
pub record Exchanges (gained lost : List Inode) (filesystem : ℕ) (world after : World ℕ) : Type 0 where
  pub same : filesystem_numbered nat_eq after filesystem ≡ filesystem_numbered nat_eq world filesystem
  pub uses : (number : ℕ)
      → inode_uses world (filesystem_numbered nat_eq world filesystem) number + times
      (is_inode filesystem number) gained
      ≡ inode_uses after (filesystem_numbered nat_eq after filesystem) number + times (is_inode filesystem number) lost

-- those of a list that are of this filesystem are used once more, or once less
abbrev pub pinned_if : ℕ → Inodes ℕ → Inode → Inodes ℕ
pinned_if filesystem inodes inode = if nat_eq filesystem inode.0 then pinned nat_eq inodes inode.1 else inodes

abbrev pub unpinned_if : ℕ → Inodes ℕ → Inode → Inodes ℕ
unpinned_if filesystem inodes inode = if nat_eq filesystem inode.0 then unpinned nat_eq inodes inode.1 else inodes

abbrev pub exchanged : ℕ → List Inode → List Inode → Inodes ℕ → Inodes ℕ
exchanged filesystem gained lost inodes =
    folded (unpinned_if filesystem) (folded (pinned_if filesystem) inodes gained) lost

-- what gets a use is there
abbrev pub AreThere : ℕ → Inodes ℕ → List Inode → Type 0
AreThere filesystem inodes gained =
    list_all (λ inode. not (nat_eq filesystem inode.0) || is_some (inodes.inode inode.1)) gained ≡ true

-- Where all inodes were in use: those that lost a use are looked at in the world; counted inodes are pinned, and then
-- unpinned.
abbrev pub UsesAreExchanged : Type 0
UsesAreExchanged =
    (world after : World ℕ) (gained lost : List Inode) (filesystem : ℕ) (inodes : Inodes ℕ)
    → HasTrees world → InodesInUse world → IsPlain after → Exchanges gained lost filesystem world after
    → IsCounted world (filesystem_numbered nat_eq world filesystem) inodes → AreThere filesystem inodes gained
    → IsCounted (let_go_inodes after lost) (filesystem_numbered nat_eq (let_go_inodes after lost) filesystem)
    (exchanged filesystem gained lost inodes)

-- what was gained is lost on the way back
abbrev pub ExchangesTurn : Type 0
ExchangesTurn =
    (world after : World ℕ) (gained lost : List Inode) (filesystem : ℕ)
    → Exchanges gained lost filesystem world after → Exchanges lost gained filesystem after world

-- One exchange follows another.
abbrev pub ExchangesFollow : Type 0
ExchangesFollow =
    (world between after : World ℕ) (gained lost more less : List Inode) (filesystem : ℕ)
    → Exchanges gained lost filesystem world between → Exchanges more less filesystem between after
    → Exchanges (gained ++ more) (lost ++ less) filesystem world after

-- Roots, working directories and descriptors come to locations and leave others.
abbrev pub LocationsAreUses : Type 0
LocationsAreUses =
    (world after : World ℕ) (gained lost front back : List (Location ℕ))
    → after.mounts ≡ world.mounts → after.filesystems ≡ world.filesystems
    → all_locations world ≡ front ++ (lost ++ back) → all_locations after ≡ front ++ (gained ++ back)
    → (filesystem : ℕ) → Exchanges (map (inode_at world) gained) (map (inode_at world) lost) filesystem world after

-- the locations that mounts use: their roots and their mount points
abbrev pub places_of : List (Mount ℕ) → List (Location ℕ)
places_of mounts = map root_of mounts ++ filter_map (λ mount. mount.mount_point) mounts

-- the location is on one of the mounts
abbrev pub is_on : List (Mount ℕ) → Location ℕ → Bool
is_on mounts location = is_among nat_eq location.mount (map (λ mount. mount.number) mounts)

-- Mounts come, with numbers of their own.
abbrev pub MountsAreUses : Type 0
MountsAreUses =
    (world after : World ℕ) (front added back : List (Mount ℕ))
    → after.filesystems ≡ world.filesystems → all_locations after ≡ all_locations world
    → world.mounts ≡ front ++ back → after.mounts ≡ front ++ (added ++ back)
    → any_pair (λ (a b : Mount ℕ). nat_eq a.number b.number) after.mounts ≡ false
    → list_all (is_on world.mounts) (all_locations world ++ places_of world.mounts) ≡ true
    → (filesystem : ℕ) → Exchanges (map (inode_at after) (places_of added)) [] filesystem world after

-- A mount gets another mount point, or loses its own.
abbrev pub MountIsPlaced : Type 0
MountIsPlaced =
    (world after : World ℕ) (front back : List (Mount ℕ)) (old new : Mount ℕ)
    → after.filesystems ≡ world.filesystems → all_locations after ≡ all_locations world
    → world.mounts ≡ front ++ (old ∷ back) → after.mounts ≡ front ++ (new ∷ back)
    → new.number ≡ old.number → new.filesystem ≡ old.filesystem → new.root ≡ old.root
    → (filesystem : ℕ)
    → Exchanges (map (inode_at world) (option_to_list new.mount_point))
    (map (inode_at world) (option_to_list old.mount_point))
    filesystem world after

-- Where other plain filesystems come and go, the uses in this one stay.
abbrev pub OthersUseNothing : Type 0
OthersUseNothing =
    (world after : World ℕ) (filesystem : ℕ) → IsPlain world → IsPlain after
    → after.mounts ≡ world.mounts → all_locations after ≡ all_locations world
    → filesystem_numbered nat_eq after filesystem ≡ filesystem_numbered nat_eq world filesystem
    → Exchanges [] [] filesystem world after

-- Where locations stand, so do the roots and the mount points of mounts.
abbrev pub PlacesStand : Type 0
PlacesStand =
    (world : World ℕ) → MountsStand world → LocationsStand world
    → list_all (is_on world.mounts) (all_locations world ++ places_of world.mounts) ≡ true

-- A mount that nothing uses takes one use of its root with it.
abbrev pub MountsLeaveTheirRoots : Type 0
MountsLeaveTheirRoots =
    (world : World ℕ) (number : ℕ) → MountsStand world → LocationsStand world
    → is_among nat_eq number (map (λ mount. mount.number) world.mounts) ≡ true → is_mount_used world number ≡ false
    → (filesystem : ℕ) → Exchanges [] (root_inode world number ∷ []) filesystem world (without_mount world number)

-- an empty directory that is its own parent, with this count
abbrev pub root_counted : ℕ → ℕ → Trees.Inode ℕ
root_counted root uses = record { node = record { attr = root_attr; content = new_directory root }; uses = uses }

-- a tree of one such directory
abbrev pub one_counted : ℕ → ℕ → Inodes ℕ
one_counted root uses = record (one_directory nat_eq root root_attr) {
  inode = λ other. if nat_eq other root then Some (root_counted root uses) else None;
}

-- a location is in another filesystem
abbrev pub is_outside : World ℕ → ℕ → Location ℕ → Bool
is_outside world filesystem location = not (nat_eq filesystem (mount_at nat_eq world location).filesystem)

-- A tree of one directory on which no location is counts the directory as its root and for each mount that shows it.
abbrev pub NewTreeIsCounted : Type 0
NewTreeIsCounted =
    (world : World ℕ) (number root : ℕ) → IsPlain world
    → any_pair (λ (a b : Mount ℕ). nat_eq a.number b.number) world.mounts ≡ false
    → list_all (λ mount. not (nat_eq number mount.filesystem) || nat_eq root mount.root) world.mounts ≡ true
    → list_all (is_outside world number) (all_locations world ++ filter_map (λ mount. mount.mount_point) world.mounts) ≡ true
    → IsCounted world (new_plain nat_eq number root) (one_counted root (1 + mounts_showing world number))

-- The root directory of the opening world counts itself, the mount, and the root and the working directory of the task.
abbrev pub OpeningIsCounted : Type 0
OpeningIsCounted =
    (fresh : Fresh ℕ)
    → IsCounted (opening nat_eq fresh) (filesystem_numbered nat_eq (opening nat_eq fresh) (fresh 2))
    (one_counted (fresh 3) 4)
