-- Counts of inodes in worlds with overlays. An overlay uses the directories of its layers, and of its upper layer's
-- tree the inodes that are its objects: the kernel's overlayfs document, "upper and lower" and "multiple lower layers".
use Rattle.std.specs.Prelude.{All, Bool, List, [], false, filter, filter_map, flat_map, is_some, nat_eq, not, true, ℕ, ◌+◌, ◌++◌, ◌||◌, ◌≡◌, ◌≢◌}
use Rattle.std.specs.List.{list_all}
use Rattle.vt_spec.specs.FileTree.{FileTree}
use Rattle.vt_spec.specs.Fits.{Fits}
use Rattle.vt_spec.specs.Inodes.{Inodes, changed, tree_of}
use Rattle.vt_spec.specs.Language.Changes.{Change}
use Rattle.vt_spec.specs.Lists.{Fresh, any_pair}
use Rattle.vt_spec.specs.Machine.Filesystems.{with_change}
use Rattle.vt_spec.specs.Machine.Invariants.{IsWorld, ListsNumbers}
use Rattle.vt_spec.specs.Machine.Locked.{of_overlay}
use Rattle.vt_spec.specs.Machine.Mounts.{Location, Mount}
use Rattle.vt_spec.specs.Machine.SameWorlds.{SameWorlds}
use Rattle.vt_spec.specs.Machine.Settled.{has_layer_on, settled}
use Rattle.vt_spec.specs.Machine.World.{Filesystem, World, all_locations, filesystem_at, filesystem_numbered, is_overlay, new_plain}
use Rattle.vt_laws_mounts.specs.LettingGo.Counts.{mounts_showing}
use Rattle.vt_laws_mounts.specs.LettingGo.InUse.{AllInUse, HasTrees, InodesInUse, has_upper_in}
use Rattle.vt_laws_mounts.specs.LettingGo.OneByOne.{Inode, let_go_inodes}
use Rattle.vt_laws_mounts.specs.LettingGo.Overlays.{used_by_filesystem}
use Rattle.vt_laws_mounts.specs.LettingGo.TreeChanges.{with_tree}
use Rattle.vt_laws_mounts.specs.LettingGo.TreesOverlays.{in_use_of}
use Rattle.vt_laws_mounts.specs.Counts.Changing.{LinksWhatIsThere, TakesNoName, after_change, filesystem_of}
use Rattle.vt_laws_mounts.specs.Counts.Counted.{IsCounted}
use Rattle.vt_laws_mounts.specs.Counts.Using.{AreThere, Exchanges, exchanged, is_outside, one_counted}

-- no overlay has its upper layer in the filesystem of this number
abbrev pub HasNoUpperIn : ℕ → World ℕ → Type 0
HasNoUpperIn number world = All (λ merged. has_upper_in number merged ≡ false) world.filesystems

-- no overlay has an upper layer: all are read-only
abbrev pub OverlaysHaveNoUpper : World ℕ → Type 0
OverlaysHaveNoUpper world =
    All (λ filesystem. of_overlay false (λ overlay. is_some overlay.upper) filesystem ≡ false) world.filesystems

-- So none has one in the filesystem of any number.
abbrev pub NoUpperIsInAny : Type 0
NoUpperIsInAny = (world : World ℕ) (number : ℕ) → OverlaysHaveNoUpper world → HasNoUpperIn number world

-- Exchanges

-- Where all inodes were in use, and no overlay has its upper layer in the filesystem afterwards: those that lost a use
-- are looked at in the world; counted inodes are pinned, and then unpinned.
abbrev pub UsesAreExchangedBesideOverlays : Type 0
UsesAreExchangedBesideOverlays =
    (world after : World ℕ) (gained lost : List Inode) (filesystem : ℕ) (inodes : Inodes ℕ)
    → HasTrees world → InodesInUse world → HasNoUpperIn filesystem after
    → Exchanges gained lost filesystem world after
    → IsCounted world (filesystem_numbered nat_eq world filesystem) inodes → AreThere filesystem inodes gained
    → IsCounted (let_go_inodes after lost) (filesystem_numbered nat_eq (let_go_inodes after lost) filesystem)
    (exchanged filesystem gained lost inodes)

-- So the sweep takes those that the exchange left without a use.
abbrev pub UsesAreSweptBesideOverlays : Type 0
UsesAreSweptBesideOverlays =
    (world after : World ℕ) (gained lost : List Inode) (filesystem : ℕ) (inodes : Inodes ℕ)
    → HasTrees world → InodesInUse world → HasNoUpperIn filesystem after
    → Exchanges gained lost filesystem world (in_use_of after)
    → IsCounted world (filesystem_numbered nat_eq world filesystem) inodes → AreThere filesystem inodes gained
    → IsCounted (settled nat_eq after) (filesystem_numbered nat_eq (settled nat_eq after) filesystem)
    (exchanged filesystem gained lost inodes)

-- Where overlays come and go, and plain filesystems beside them, a filesystem that stays gets what those overlays use
-- that come, and loses what those use that go. These are directories of layers, and upper objects.
abbrev pub OverlaysAreUses : Type 0
OverlaysAreUses =
    (world after : World ℕ) (gained lost front back : List (Filesystem ℕ)) (filesystem : ℕ)
    → after.mounts ≡ world.mounts → all_locations after ≡ all_locations world
    → filter is_overlay world.filesystems ≡ front ++ (lost ++ back)
    → filter is_overlay after.filesystems ≡ front ++ (gained ++ back)
    → filesystem_numbered nat_eq after filesystem ≡ filesystem_numbered nat_eq world filesystem
    → Exchanges (flat_map used_by_filesystem gained) (flat_map used_by_filesystem lost) filesystem world after

-- So where those go that do not pass a test,
abbrev pub OverlaysTakeTheirUses : Type 0
OverlaysTakeTheirUses =
    (world after : World ℕ) (stays : Filesystem ℕ → Bool) (filesystem : ℕ)
    → after.mounts ≡ world.mounts → all_locations after ≡ all_locations world
    → filter is_overlay after.filesystems ≡ filter stays (filter is_overlay world.filesystems)
    → filesystem_numbered nat_eq after filesystem ≡ filesystem_numbered nat_eq world filesystem
    → Exchanges []
    (flat_map used_by_filesystem (filter (λ merged. not (stays merged)) (filter is_overlay world.filesystems)))
    filesystem world after

-- and where plain filesystems come and go alone, nothing is exchanged.
abbrev pub PlainOnesUseNothing : Type 0
PlainOnesUseNothing =
    (world after : World ℕ) (filesystem : ℕ)
    → after.mounts ≡ world.mounts → all_locations after ≡ all_locations world
    → filter is_overlay after.filesystems ≡ filter is_overlay world.filesystems
    → filesystem_numbered nat_eq after filesystem ≡ filesystem_numbered nat_eq world filesystem
    → Exchanges [] [] filesystem world after

-- Counts depend neither on change numbers nor on the order of the numbers beside trees, overlays or not.
abbrev pub AnySameWorldsCountAlike : Type 0
AnySameWorldsCountAlike =
    (one other : World ℕ) (filesystem : ℕ) (inodes : Inodes ℕ) → SameWorlds one other
    → IsCounted one (filesystem_numbered nat_eq one filesystem) inodes
    → IsCounted other (filesystem_numbered nat_eq other filesystem) inodes

-- A tree of one directory in which no overlay has a layer, and on which no location is, counts the directory as its
-- root and for each mount that shows it.
abbrev pub NewTreeIsCountedBesideOverlays : Type 0
NewTreeIsCountedBesideOverlays =
    (world : World ℕ) (number root : ℕ) → All (λ merged. has_layer_on nat_eq number merged ≡ false) world.filesystems
    → any_pair (λ (a b : Mount ℕ). nat_eq a.number b.number) world.mounts ≡ false
    → list_all (λ mount. not (nat_eq number mount.filesystem) || nat_eq root mount.root) world.mounts ≡ true
    → list_all (is_outside world number)
    (all_locations world ++ filter_map (λ mount. mount.mount_point) world.mounts) ≡ true
    → IsCounted world (new_plain nat_eq number root) (one_counted root (1 + mounts_showing world number))

-- Changes

-- a change of a plain filesystem at a location of a world in which all is in use, overlays beside it or not, and its
-- counted inodes before it; filesystems are trees, with numbers of their own
pub record IsChangeInUse (world : World ℕ) (location : Location ℕ) (inodes : Inodes ℕ) (change : Change ℕ)
    : Type 0 where
  pub in_use : AllInUse world
  pub trees : HasTrees world
  pub one_filesystem : any_pair (λ (a b : Filesystem ℕ). nat_eq a.number b.number) world.filesystems ≡ false
  pub plain : is_overlay (filesystem_at nat_eq world location) ≡ false
  pub counted : IsCounted world (filesystem_at nat_eq world location) inodes
  pub fits : Fits inodes change
  pub links : LinksWhatIsThere inodes change

-- such a change of a world with all invariants
pub record IsChangeOfPlain (world : World ℕ) (location : Location ℕ) (inodes : Inodes ℕ) (change : Change ℕ)
    : Type 0 where
  pub in_world : IsWorld nat_eq world
  pub plain : is_overlay (filesystem_at nat_eq world location) ≡ false
  pub counted : IsCounted world (filesystem_at nat_eq world location) inodes
  pub fits : Fits inodes change
  pub links : LinksWhatIsThere inodes change

abbrev pub WorldsAreInUse : Type 0
WorldsAreInUse =
    (world : World ℕ) (location : Location ℕ) (inodes : Inodes ℕ) (change : Change ℕ)
    → IsChangeOfPlain world location inodes change → IsChangeInUse world location inodes change

-- what is said of a change of either kind
abbrev pub OfChanges : (World ℕ → Location ℕ → Inodes ℕ → Change ℕ → Type 0)
    → (Fresh ℕ → World ℕ → Location ℕ → Inodes ℕ → Change ℕ → Type 0) → Type 0
OfChanges Is Said =
    (fresh : Fresh ℕ) (world : World ℕ) (location : Location ℕ) (inodes : Inodes ℕ) (change : Change ℕ)
    → Is world location inodes change → Said fresh world location inodes change

-- The world differs in the files of that filesystem alone.
abbrev pub OnlyFilesChangeOf : (World ℕ → Location ℕ → Inodes ℕ → Change ℕ → Type 0) → Type 0
OnlyFilesChangeOf Is = OfChanges Is (λ fresh world location inodes change.
    after_change fresh world location change
    ≡ with_tree world (filesystem_of world location)
    (filesystem_at nat_eq (after_change fresh world location change) location).files)

-- The changed inodes are those of the filesystem then, with the counts of their uses.
abbrev pub CountsFollowChangesOf : (World ℕ → Location ℕ → Inodes ℕ → Change ℕ → Type 0) → Type 0
CountsFollowChangesOf Is = OfChanges Is (λ fresh world location inodes change.
    IsCounted (after_change fresh world location change)
    (filesystem_at nat_eq (after_change fresh world location change) location) (changed nat_eq inodes change))

-- Those of each other filesystem stay as they are.
abbrev pub OtherCountsStayOf : (World ℕ → Location ℕ → Inodes ℕ → Change ℕ → Type 0) → Type 0
OtherCountsStayOf Is = OfChanges Is (λ fresh world location inodes change.
    (other : ℕ) (others : Inodes ℕ) → other ≢ filesystem_of world location
    → IsCounted world (filesystem_numbered nat_eq world other) others
    → IsCounted (after_change fresh world location change)
    (filesystem_numbered nat_eq (after_change fresh world location change) other) others)

-- So the world with the changed inodes in that filesystem, their numbers in whatever order, is the world after the
-- change.
abbrev pub CountedChangesAreSweptOf : (World ℕ → Location ℕ → Inodes ℕ → Change ℕ → Type 0) → Type 0
CountedChangesAreSweptOf Is = OfChanges Is (λ fresh world location inodes change.
    (files : FileTree ℕ) → files.tree ≡ tree_of (changed nat_eq inodes change)
    → any_pair nat_eq files.numbers ≡ false → ListsNumbers nat_eq files
    → SameWorlds (with_tree world (filesystem_of world location) files) (after_change fresh world location change))

-- Where no name goes, nothing goes.
abbrev pub NamesKeepAllOf : (World ℕ → Location ℕ → Inodes ℕ → Change ℕ → Type 0) → Type 0
NamesKeepAllOf Is = OfChanges Is (λ fresh world location inodes change.
    TakesNoName change
    → after_change fresh world location change ≡ with_change nat_eq fresh world location change)

-- All of it in worlds with all invariants.
abbrev pub OnlyFilesChangeBesideOverlays : Type 0
OnlyFilesChangeBesideOverlays = OnlyFilesChangeOf IsChangeOfPlain

abbrev pub CountsFollowChangesBesideOverlays : Type 0
CountsFollowChangesBesideOverlays = CountsFollowChangesOf IsChangeOfPlain

abbrev pub OtherCountsStayBesideOverlays : Type 0
OtherCountsStayBesideOverlays = OtherCountsStayOf IsChangeOfPlain

abbrev pub CountedChangesAreSweptBesideOverlays : Type 0
CountedChangesAreSweptBesideOverlays = CountedChangesAreSweptOf IsChangeOfPlain

abbrev pub NamesKeepAllBesideOverlays : Type 0
NamesKeepAllBesideOverlays = NamesKeepAllOf IsChangeOfPlain
