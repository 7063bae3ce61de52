-- What is kept of names says what a world shows.
use Rattle.std.specs.Prelude.{Contains, List, Option, Some, nat_eq, option_map, ℕ, ◌≡◌}
use Rattle.vt_spec.specs.Machine.Looks.{Looks, looks_of}
use Rattle.vt_spec.specs.Machine.World.{World}
use Rattle.vt_spec.specs.Tree.{entries_in, entry_named}
use Rattle.vt_location.specs.declared.locations.NodeRef.{NodeRef}
use Rattle.vt_location.specs.Locations.{number_of}
use Rattle.vt_location.specs.Numbers.{filesystem_number}
use Rattle.vt_names.specs.NamesValue.{KeptEntry, first_in_place, kept_first, others_than, said}

-- the number that a name of a directory leads to, as a mount shows it
abbrev pub named_on : Looks ℕ → (mount : ℕ) → NodeRef → List ℕ → Option ℕ
named_on looks mount directory name =
    entry_named name (entries_in (looks.node (record { mount = mount; node = number_of directory })))

-- the mount shows the filesystem of the directory
abbrev pub IsMountOf : Looks ℕ → NodeRef → (mount : ℕ) → Type 0
IsMountOf looks directory mount = (looks.mount mount).filesystem ≡ filesystem_number directory.filesystem

-- each mount of the filesystem shows that the name leads there
abbrev pub IsShown : Looks ℕ → KeptEntry → Type 0
IsShown looks entry =
    (mount : ℕ) → IsMountOf looks entry.directory mount
    → named_on looks mount entry.directory entry.name ≡ option_map number_of entry.node

-- all that is kept is shown
abbrev pub Says : Looks ℕ → List KeptEntry → Type 0
Says looks entries = (entry : KeptEntry) → Contains entries entry → IsShown looks entry

-- what is shown stays so, but for one name of one directory
abbrev pub ShowsAllBut : NodeRef → List ℕ → Looks ℕ → Looks ℕ → Type 0
ShowsAllBut directory name old new =
    (entry : KeptEntry) → (entry.directory ≡ directory → entry.name ≡ name → ⊥) → IsShown old entry → IsShown new entry

-- two mounts of one filesystem show the same nodes
abbrev pub ShowsByFilesystem : Looks ℕ → Type 0
ShowsByFilesystem looks =
    (one other node : ℕ) → (looks.mount one).filesystem ≡ (looks.mount other).filesystem
    → looks.node (record { mount = one; node = node }) ≡ looks.node (record { mount = other; node = node })

-- Statements

-- a look is answered with what the world shows
abbrev pub AnswersAreShown : Type 0
AnswersAreShown =
    (looks : Looks ℕ) (entries : List KeptEntry) → Says looks entries → (directory : NodeRef) (name : List ℕ)
    (node : Option NodeRef) → said entries directory name ≡ Some node
    → IsShown looks (record { directory = directory; name = name; node = node })

-- a look leaves what says so
abbrev pub LooksLeaveWhatIsSaid : Type 0
LooksLeaveWhatIsSaid =
    (looks : Looks ℕ) (entries : List KeptEntry) → Says looks entries → (directory : NodeRef) (name : List ℕ)
    → Says looks (first_in_place directory name entries)

-- so does what keeps a name that the world shows
abbrev pub ShownNamesMayBeKept : Type 0
ShownNamesMayBeKept =
    (looks : Looks ℕ) (entries : List KeptEntry) → Says looks entries → (capacity : ℕ) (entry : KeptEntry)
    → IsShown looks entry → Says looks (kept_first capacity entry entries)

-- where one name changes, it is enough to forget it
abbrev pub ChangedNamesAreForgotten : Type 0
ChangedNamesAreForgotten =
    (old new : Looks ℕ) (entries : List KeptEntry) → Says old entries → (directory : NodeRef) (name : List ℕ)
    → ShowsAllBut directory name old new → Says new (others_than directory name entries)

-- what one mount of a filesystem shows is shown
abbrev pub OneMountShows : Type 0
OneMountShows =
    (looks : Looks ℕ) → ShowsByFilesystem looks → (entry : KeptEntry) (mount : ℕ)
    → IsMountOf looks entry.directory mount
    → named_on looks mount entry.directory entry.name ≡ option_map number_of entry.node → IsShown looks entry

-- so it is in each world
abbrev pub WorldsShowByFilesystem : Type 0
WorldsShowByFilesystem = (world : World ℕ) → ShowsByFilesystem (looks_of nat_eq world)
