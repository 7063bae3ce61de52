-- The births of what was copied up: inodes of the upper layer, each with the inode of the overlay whose copy it is. The
-- inode of the merged tree stays the same: the kernel's overlayfs document, "upper and lower" (copy_up), "inode
-- properties".
use Rattle.std.specs.Prelude.{Bool, List, None, Option, Some, [], false, if◌then◌else◌, is_some, nat_eq, true, unwrap_or, ℕ, ⊤, ◌+◌, ◌∷◌, ◌≡◌}
use Rattle.std.specs.Option.{option_map_or}
use Rattle.vt_spec.specs.Language.Changes.{Change}
use Rattle.vt_spec.specs.Language.Changes.Change.{AddName, CopyUp, Make, Move, Remove, SetAttr, SetBytes, SetMark}
use Rattle.vt_spec.specs.Lists.{Fresh, evens, odds, then_some, when}
use Rattle.vt_spec.specs.Machine.CopyUp.{Merge, copied_up, copy_of, is_in_upper, line_to, merge_changed}
use Rattle.vt_spec.specs.Machine.World.{Real}
use Rattle.vt_spec.specs.Machine.World.Real.{Lower, Upper}
use Rattle.vt_spec.specs.Tree.{Node}
use Rattle.vt_laws_trees.specs.Overlays.WholeChanges.{IsAskedWell}
use Rattle.vt_laws_worlds.specs.Merging.UpperChanges.{OfCopies}

-- the inode of the overlay whose copy an inode of the upper layer is
abbrev pub Births : Type 0
Births = ℕ → Option ℕ

-- The number of a real object: a copy has that of the inode that was copied, and everything else the number with which
-- it was born.
abbrev pub number_by : (Real ℕ → ℕ) → Births → Real ℕ → ℕ
number_by born births (Upper object) = unwrap_or (births object) (born (Upper object))
number_by born births (Lower layer path) = born (Lower layer path)

-- Each inode of an overlay has the number of its real object, and the copy of each birth is the inode's real object.
pub record AreBirths (born : Real ℕ → ℕ) (births : Births) (real : ℕ → Option (Real ℕ)) : Type 0 where
  pub numbered : (number : ℕ) (object : Real ℕ) → real number ≡ Some object → number ≡ number_by born births object
  pub copies : (copy number : ℕ) → births copy ≡ Some number → real number ≡ Some (Upper copy)

-- Copies

-- the births with that of one copy
abbrev pub with_birth : Births → ℕ → ℕ → Births
with_birth births copy number upper = if nat_eq upper copy then Some number else births upper

-- that, of an inode that exists and is not in the upper layer yet
abbrev pub birth_of : Births → ℕ → ℕ → Option (Node ℕ) → (in_upper : Bool) → Births
birth_of births object copy None in_upper = births
birth_of births object copy (Some node) true = births
birth_of births object copy (Some node) false = with_birth births copy object

-- those of all that are copied, as `copied_each` copies them
abbrev pub births_each : Fresh ℕ → ℕ → Merge ℕ → Births → List ℕ → Births
births_each fresh k merge births [] = births
births_each fresh k merge births (object ∷ rest) =
    births_each fresh (k + 1)
    (copy_of nat_eq merge object (fresh k) (merge.files.tree.node object) (is_in_upper merge object))
    (birth_of births object (fresh k) (merge.files.tree.node object) (is_in_upper merge object)) rest

-- those of an object with its missing parents
abbrev pub births_up : Fresh ℕ → Merge ℕ → Births → ℕ → Births
births_up fresh merge births object = births_each fresh 0 merge births (line_to nat_eq merge.files object)

abbrev pub BirthsFollowCopies : Type 0
BirthsFollowCopies =
    OfCopies (λ fresh stack merge.
    (born : Real ℕ → ℕ) (births : Births) (object : ℕ) → AreBirths born births merge.real
    → AreBirths born (births_up fresh merge births object) (copied_up nat_eq fresh merge object).real)

-- Changes

-- the births of all that a change copies
abbrev pub births_after : Fresh ℕ → Merge ℕ → Births → Change ℕ → Births
births_after fresh merge births (Make directory name number node) = births_up (evens fresh) merge births directory
births_after fresh merge births (AddName directory name object) =
    births_up (odds fresh) (copied_up nat_eq (evens fresh) merge object)
    (births_up (evens fresh) merge births object) directory
births_after fresh merge births (Remove directory name object) = births_up (evens fresh) merge births directory
births_after fresh merge births (Move from old to new object) =
    births_up (evens (odds fresh)) (copied_up nat_eq (evens fresh) merge object)
    (births_up (evens fresh) merge births object) to
births_after fresh merge births (SetBytes file bytes) = births_up fresh merge births file
births_after fresh merge births (SetAttr object attr) = births_up fresh merge births object
births_after fresh merge births (SetMark directory opaque) = births_up fresh merge births directory
births_after fresh merge births (CopyUp object) = births_up fresh merge births object

-- what is made has the number of its upper inode
abbrev pub IsBornAbove : (Real ℕ → ℕ) → Fresh ℕ → Change ℕ → Type 0
IsBornAbove born fresh (Make directory name number node) = number ≡ born (Upper (odds fresh 0))
IsBornAbove born fresh change = ⊤

-- So after each kind of change the births are those, and those of what it copied.
abbrev pub BirthsFollowChanges : Type 0
BirthsFollowChanges =
    OfCopies (λ fresh stack merge.
    (born : Real ℕ → ℕ) (births : Births) (change : Change ℕ)
    → IsAskedWell stack merge change → IsBornAbove born fresh change → AreBirths born births merge.real
    → AreBirths born (births_after fresh merge births change) (merge_changed nat_eq fresh stack merge change).real)

-- Sweeps

-- the births of inodes that are left
abbrev pub births_left : (ℕ → Option (Real ℕ)) → Births → Births
births_left real births copy = then_some (births copy) (λ number. when (is_some (real number)) number)

-- A birth goes with its inode.
abbrev pub BirthsGoWithInodes : Type 0
BirthsGoWithInodes =
    (born : Real ℕ → ℕ) (births : Births) (real later : ℕ → Option (Real ℕ))
    → ((number : ℕ) (object : Real ℕ) → later number ≡ Some object → real number ≡ Some object)
    → AreBirths born births real → AreBirths born (births_left later births) later

-- Looks

-- No two inodes have one real object, and no inode has two copies.
abbrev pub InodesHaveOwnObjects : Type 0
InodesHaveOwnObjects =
    (born : Real ℕ → ℕ) (births : Births) (real : ℕ → Option (Real ℕ)) (a b : ℕ) (object : Real ℕ)
    → AreBirths born births real → real a ≡ Some object → real b ≡ Some object → a ≡ b

abbrev pub InodesHaveOneCopy : Type 0
InodesHaveOneCopy =
    (born : Real ℕ → ℕ) (births : Births) (real : ℕ → Option (Real ℕ)) (a b number : ℕ)
    → AreBirths born births real → births a ≡ Some number → births b ≡ Some number → a ≡ b

-- the births looked up by inodes
pub record AreTurned (births copies : ℕ → Option ℕ) : Type 0 where
  pub there : (copy number : ℕ) → births copy ≡ Some number → copies number ≡ Some copy
  pub back : (copy number : ℕ) → copies number ≡ Some copy → births copy ≡ Some number

-- the object that an inode was born with, by its number
abbrev pub AreOrigins : (ℕ → Real ℕ) → (Real ℕ → ℕ) → (ℕ → Option (Real ℕ)) → Type 0
AreOrigins origin born real =
    (number : ℕ) (object : Real ℕ) → real number ≡ Some object → origin (born object) ≡ object

-- An inode's real object is its copy, if it has a birth, else what it was born with.
abbrev pub object_by : (ℕ → Real ℕ) → (ℕ → Option ℕ) → ℕ → Real ℕ
object_by origin copies number = option_map_or (λ copy. Upper copy) (copies number) (origin number)

abbrev pub InodesFindTheirObjects : Type 0
InodesFindTheirObjects =
    (origin : ℕ → Real ℕ) (born : Real ℕ → ℕ) (births copies : Births) (real : ℕ → Option (Real ℕ)) (number : ℕ)
    (object : Real ℕ)
    → AreBirths born births real → AreTurned births copies → AreOrigins origin born real → real number ≡ Some object
    → object_by origin copies number ≡ object
