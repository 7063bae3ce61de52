-- Which directories have names for an object, and which are listed for it.
use Rattle.std.specs.Prelude.{List, Some, [], if◌then◌else◌, length, nat_eq, slice_index_or, true, ℕ, ◌+◌, ◌-◌, ◌<◌, ◌∷◌, ◌≡◌, ◌≤◌}
use Rattle.smallvec.specs.SmallVec.{HasRoomFor, SmallVec}
use Rattle.vt_spec.specs.FileTree.{has_entry_to, targets_in}
use Rattle.vt_spec.specs.Lists.{is_among}
use Rattle.vt_spec.specs.Tree.{Tree}
use Rattle.vt_spec.specs.TreeInvariant.{entry_at}
use Rattle.vt_fs.specs.Trees.Slots.{Slots, slots_len}

-- the lists of all objects, from the number 0 on
abbrev pub Lists : Type 0
Lists = List (SmallVec ℕ)

-- the list of an object; one that never had a name has none
abbrev pub list_for : Lists → ℕ → SmallVec ℕ
list_for lists object = slice_index_or lists object (record { items = []; capacity = 0 })

abbrev pub directories_for : Lists → ℕ → List ℕ
directories_for lists object = (list_for lists object).items

-- one more can be listed
abbrev pub HasRoom : Lists → ℕ → Type 0
HasRoom lists object = (object < length lists) × HasRoomFor (list_for lists object) 1

-- one if it is this number
abbrev pub one_if : ℕ → ℕ → ℕ
one_if number other = if nat_eq number other then 1 else 0

-- how often a number stands in a list
abbrev pub how_often : ℕ → List ℕ → ℕ
how_often number [] = 0
how_often number (other ∷ rest) = one_if number other + how_often number rest

-- how often a directory is listed for an object
abbrev pub listings : Lists → ℕ → ℕ → ℕ
listings lists = λ object directory. how_often directory (directories_for lists object)

-- of one directory so many for each object, and of the others none
abbrev pub at_place : ℕ → (ℕ → ℕ) → ℕ → ℕ → ℕ
at_place place many = λ object directory. if nat_eq directory place then many object else 0

-- with one more for an object and a directory, and with one less
abbrev pub more_at : ℕ → ℕ → (ℕ → ℕ → ℕ) → ℕ → ℕ → ℕ
more_at object directory listed =
    λ other place. listed other place + at_place directory (λ other. one_if other object) other place

abbrev pub less_at : ℕ → ℕ → (ℕ → ℕ → ℕ) → ℕ → ℕ → ℕ
less_at object directory listed =
    λ other place. listed other place - at_place directory (λ other. one_if other object) other place

-- how many names of a directory lead to an object
abbrev pub names_at : Tree ℕ → ℕ → ℕ → ℕ
names_at tree object directory = how_often object (targets_in (tree.node directory))

-- no directory has more names for an object than it is listed for it
abbrev pub NamesAtMost : Tree ℕ → (ℕ → ℕ → ℕ) → Type 0
NamesAtMost tree most = (object directory : ℕ) → names_at tree object directory ≤ most object directory

abbrev pub AreListed : Tree ℕ → Lists → Type 0
AreListed tree lists = NamesAtMost tree (listings lists)

-- so many inodes fit, and there is a list for each number that they may get
pub record HasPromised (promised : ℕ) (slots : Slots) (lists : Lists) : Type 0 where
  pub room : promised ≤ slots.room
  pub reach : 0 < promised → slots_len slots + slots.room ≤ length lists

-- with nothing listed for an object
abbrev pub none_at : ℕ → (ℕ → ℕ → ℕ) → ℕ → ℕ → ℕ
none_at object listed = λ other place. if nat_eq other object then 0 else listed other place

-- each directory that has a name for an object is among these
abbrev pub HoldsNames : Tree ℕ → ℕ → List ℕ → Type 0
HoldsNames tree object directories =
    (directory : ℕ) → has_entry_to nat_eq tree directory object ≡ true → is_among nat_eq directory directories ≡ true

-- with these listed for an object
abbrev pub listed_as : ℕ → List ℕ → (ℕ → ℕ → ℕ) → ℕ → ℕ → ℕ
listed_as object directories listed =
    λ other place. if nat_eq other object then how_often place directories else listed other place

-- no directory has more names for an object than it stands among these
abbrev pub ListsNames : Tree ℕ → ℕ → List ℕ → Type 0
ListsNames tree object directories = (directory : ℕ) → names_at tree object directory ≤ how_often directory directories

-- an object has a name
pub record IsNamed (tree : Tree ℕ) (object : ℕ) : Type 0 where
  pub directory : ℕ
  pub name : List ℕ
  pub leads : entry_at tree directory name ≡ Some object
