-- Copies for two objects, whose paths may lack the same parents: the kernel's overlayfs document, "upper and lower" (copy_up).
use Rattle.std.specs.Prelude.{List, Some, if◌then◌else◌, length, nat_eq, reverse, slice_get, take, ℕ, ⊤, [], ◌++◌, ◌+◌, ◌<◌, ◌∷◌, ◌≡◌, ◌≢◌}
use Rattle.vt_spec.specs.Tree.{entries_in}
use Rattle.vt_location.specs.declared.locations.InodeRef.{InodeRef}
use Rattle.vt_location.specs.Locations.{inode_of}
use Rattle.vt_fs.specs.FilesystemsValue.{Filesystems, files_at}
use Rattle.vt_births.specs.Births.{BirthsValue}
use Rattle.vt_copyup.specs.Made.{AreMade, parent_made}
use Rattle.vt_copyup.specs.Planned.{names_of}
use Rattle.vt_copyup.specs.Plans.{CopiesAreThere, EntriesAreThere, IsReady, copies_of, in_turn}
use Rattle.vt_copyup.specs.declared.forks.Branch.{Branch}
use Rattle.vt_copyup.specs.declared.forks.Fork.{Fork}
use Rattle.vt_copyup.specs.declared.forks.Forked.{Forked}
use Rattle.vt_copyup.specs.declared.plans.Piece.{Piece}
use Rattle.vt_copyup.specs.declared.plans.Plan.{Plan}

-- the pieces of a branch in the order in which they are made, and its copies as a plan from a directory on
abbrev pub pieces_in : Branch → List Piece
pieces_in branch = reverse branch.pieces.items

abbrev pub branch_at : InodeRef → Branch → Plan
branch_at directory branch = record { directory = directory; pieces = branch.pieces }

-- how many copies there are
abbrev pub all_in : Fork → ℕ
all_in fork =
    length fork.shared.pieces.items + length fork.first.pieces.items + length fork.second.pieces.items

-- where the copies of the second object begin: in the last shared one, if any is shared
abbrev pub start_in : Fork → InodeRef → InodeRef
start_in fork here = if nat_eq (length fork.shared.pieces.items) 0 then fork.other else here

-- the names of the first copies differ
abbrev pub HeadsDiffer : List (List ℕ) → List (List ℕ) → Type 0
HeadsDiffer [] others = ⊤
HeadsDiffer (name ∷ names) [] = ⊤
HeadsDiffer (name ∷ names) (other ∷ others) = name ≢ other

-- So many first copies of two plans have the same names, in one directory, and no more.
pub record AreShared (first second : Plan) (shared : ℕ) : Type 0 where
  pub beside : 0 < shared → first.directory.slot ≡ second.directory.slot
  pub same : take shared (names_of (in_turn first)) ≡ take shared (names_of (in_turn second))
  pub differ : first.directory.slot ≡ second.directory.slot → (name other : List ℕ)
      → slice_get (names_of (in_turn first)) shared ≡ Some name
      → slice_get (names_of (in_turn second)) shared ≡ Some other → name ≢ other

-- a branch that begins in a directory that is there has room for two names more in it
abbrev pub HasRoom : Filesystems → InodeRef → Branch → Type 0
HasRoom trees directory branch =
    length (entries_in ((files_at trees directory.filesystem.count).tree.node (inode_of directory))) + 1 < branch.room

-- The copies of two plans: the second one begins in the last copy that it shares with the first.
pub record IsForkOf (trees : Filesystems) (first second : Plan) (fork : Fork) : Type 0 where
  pub directory : fork.directory ≡ first.directory
  pub other : fork.other ≡ second.directory
  pub twice : List Piece
  pub first_is : in_turn first ≡ pieces_in fork.shared ++ pieces_in fork.first
  pub second_is : in_turn second ≡ twice ++ pieces_in fork.second
  pub same : names_of twice ≡ names_of (pieces_in fork.shared)
  pub beside : 0 < length fork.shared.pieces.items → first.directory.slot ≡ second.directory.slot
  pub differ : first.directory.slot ≡ second.directory.slot
      → HeadsDiffer (names_of (pieces_in fork.first)) (names_of (pieces_in fork.second))
  pub shared_room : 0 < length fork.shared.pieces.items → HasRoom trees first.directory fork.shared
  pub first_room : 0 < length fork.first.pieces.items
      → (1 < fork.first.room) × (length fork.shared.pieces.items ≡ 0 → HasRoom trees first.directory fork.first)
  pub second_room : 0 < length fork.second.pieces.items
      → (1 < fork.second.room) × (length fork.shared.pieces.items ≡ 0 → HasRoom trees second.directory fork.second)

-- The copies of both objects are ready once the shared ones are made, those of the second once those of the first are, too.
pub record AreNextReady (fork : Fork) (here : InodeRef) (one : Filesystems) (one_births : BirthsValue) : Type 0 where
  pub first : IsReady (branch_at here fork.first) one one_births fork.first.room
  pub second : (two : Filesystems) (two_births : BirthsValue) (object : InodeRef)
      → AreMade here (copies_of (pieces_in fork.first)) one one_births two two_births object
      → EntriesAreThere (files_at two object.filesystem.count).tree
      → CopiesAreThere two object.filesystem.count two_births
      → IsReady (branch_at (start_in fork here) fork.second) two two_births fork.second.room

pub record IsForkReady (fork : Fork) (trees : Filesystems) (births : BirthsValue) : Type 0 where
  pub shared : IsReady (branch_at fork.directory fork.shared) trees births fork.shared.room
  pub next : (one : Filesystems) (one_births : BirthsValue) (here : InodeRef)
      → AreMade fork.directory (copies_of (pieces_in fork.shared)) trees births one one_births here
      → EntriesAreThere (files_at one here.filesystem.count).tree → CopiesAreThere one here.filesystem.count one_births
      → AreNextReady fork here one one_births

-- They were made so.
pub record AreForked (fork : Fork) (trees : Filesystems) (births : BirthsValue) (trees_after : Filesystems)
    (births_after : BirthsValue) (ends : Forked) : Type 0 where
  pub one : Filesystems
  pub one_births : BirthsValue
  pub here : InodeRef
  pub two : Filesystems
  pub two_births : BirthsValue
  pub shared : AreMade fork.directory (copies_of (pieces_in fork.shared)) trees births one one_births here
  pub shared_entries : EntriesAreThere (files_at one here.filesystem.count).tree
  pub shared_there : CopiesAreThere one here.filesystem.count one_births
  pub first : AreMade here (copies_of (pieces_in fork.first)) one one_births two two_births ends.object
  pub first_entries : EntriesAreThere (files_at two ends.object.filesystem.count).tree
  pub first_there : CopiesAreThere two ends.object.filesystem.count two_births
  pub parent : ends.parent ≡ parent_made here first.made
  pub second : AreMade (start_in fork here) (copies_of (pieces_in fork.second)) two two_births trees_after births_after
      ends.second
  pub entries : EntriesAreThere (files_at trees_after ends.second.filesystem.count).tree
  pub there : CopiesAreThere trees_after ends.second.filesystem.count births_after
