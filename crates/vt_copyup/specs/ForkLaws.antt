-- What forks make, as the definitions see it: the kernel's overlayfs document, "upper and lower" (copy_up).
use Rattle.std.specs.Prelude.{Bool, List, Some, [], false, length, map, true, ℕ, ⊤, ◌++◌, ◌<◌, ◌∷◌, ◌≡◌, ◌≤◌}
use Rattle.vt_spec.specs.FileTree.{FileTree}
use Rattle.vt_spec.specs.Lists.{Fresh, evens, odds}
use Rattle.vt_spec.specs.Machine.CopyUp.{Merge}
use Rattle.vt_spec.specs.Machine.Invariants.{number_at_path}
use Rattle.vt_spec.specs.Rights.{Credentials, is_directory}
use Rattle.vt_spec.specs.Tree.{kind_of}
use Rattle.vt_spec.specs.TreeInvariant.{IsDirectory}
use Rattle.vt_laws_trees.specs.Overlays.WhatIsShown.{IsWhole}
use Rattle.vt_location.specs.declared.locations.NodeRef.{NodeRef}
use Rattle.vt_location.specs.declared.numbers.FilesystemId.{FilesystemId}
use Rattle.vt_location.specs.Locations.{inode_of}
use Rattle.vt_location.specs.SameNodes.{same_node}
use Rattle.vt_fs.specs.FilesystemsValue.{Filesystems, files_at, inodes_promised}
use Rattle.vt_births.specs.Births.{BirthsValue}
use Rattle.vt_overlay.specs.declared.merge.layers.LayerRef.{LayerRef}
use Rattle.vt_overlay.specs.MergedTree.{AreLayers}
use Rattle.vt_laws_worlds.specs.Merging.UpperChanges.{AreNew, copied_to}
use Rattle.vt_laws_worlds.specs.Seen.CopySteps.{made_in_turn}
use Rattle.vt_copyup.specs.Forks.{IsForkOf, IsForkReady, all_in, pieces_in, start_in}
use Rattle.vt_copyup.specs.Laws.{AreHanded}
use Rattle.vt_copyup.specs.Made.{Made, last_made, made_copies}
use Rattle.vt_copyup.specs.Planned.{IsPlanOf, names_of, stack_of}
use Rattle.vt_copyup.specs.Plans.{IsReady, copies_of, in_turn}
use Rattle.vt_copyup.specs.declared.forks.Fork.{Fork}
use Rattle.vt_copyup.specs.declared.plans.Piece.{Piece}
use Rattle.vt_copyup.specs.declared.plans.Plan.{Plan}
use Rattle.vt_copyup.specs.declared.plans.PlannedCopy.{PlannedCopy}

-- None of these copies is that of a node, or of a node of any of these.
abbrev pub NoneOf : List PlannedCopy → NodeRef → Type 0
NoneOf [] node = ⊤
NoneOf (copy ∷ copies) node = (same_node copy.born node ≡ false) × NoneOf copies node

abbrev pub Elsewhere : List PlannedCopy → List Piece → Type 0
Elsewhere copies [] = ⊤
Elsewhere copies (piece ∷ pieces) = NoneOf copies piece.copy.born × Elsewhere copies pieces

-- these are all copies of directories
abbrev pub AreDirectories : List Piece → Type 0
AreDirectories [] = ⊤
AreDirectories (piece ∷ pieces) =
    (is_directory (kind_of piece.copy.node.content) ≡ true) × AreDirectories pieces

-- A fork of two plans that are ready is ready, once inodes and births are promised for all its copies.
abbrev pub ForksAreReady : Type 0
ForksAreReady =
    (first second : Plan) (trees : Filesystems) (births : BirthsValue) (room other_room : ℕ)
    → IsReady first trees births room → IsReady second trees births other_room
    → second.directory.filesystem ≡ first.directory.filesystem → (fork : Fork) → IsForkOf trees first second fork
    → all_in fork ≤ inodes_promised trees first.directory.filesystem.count → all_in fork ≤ births.promised
    → Elsewhere (copies_of (in_turn first)) (pieces_in fork.second)
    → (0 < length fork.shared.pieces.items → 0 < length fork.first.pieces.items) → IsForkReady fork trees births

-- The copies of a directory that a plan does not share with another one are of other nodes than those of that.
abbrev pub CopiesArePlannedApart : Type 0
CopiesArePlannedApart =
    (fresh : Fresh ℕ) (mounter : Credentials) (with_bytes other_bytes : Bool) (trees : Filesystems) (upper : LayerRef)
    (lowers : List LayerRef) (overlay : FilesystemId) (path other : List (List ℕ)) (first second : Plan) (fork : Fork)
    → AreLayers trees (upper ∷ lowers) → IsPlanOf with_bytes trees upper lowers overlay path first
    → IsPlanOf other_bytes trees upper lowers overlay other second → IsForkOf trees first second fork
    → AreDirectories (pieces_in fork.second) → Elsewhere (copies_of (in_turn first)) (pieces_in fork.second)

-- these were made for the copies of a fork: the shared ones, then those of each object
pub record AreMadeOf (fork : Fork) (shared made last : List Made) : Type 0 where
  pub shared_are : map (λ (one : Made). one.copy) shared ≡ copies_of (pieces_in fork.shared)
  pub made_are : map (λ (one : Made). one.copy) made ≡ copies_of (pieces_in fork.first)
  pub last_are : map (λ (one : Made). one.copy) last ≡ copies_of (pieces_in fork.second)

-- a directory's tree with all of them
abbrev pub with_fork : FileTree ℕ → ℕ → Fork → (shared made last : List Made) → FileTree ℕ
with_fork files upper fork shared made last =
    made_in_turn
    (made_in_turn (made_in_turn files (inode_of fork.directory) (made_copies upper shared))
    (inode_of (last_made fork.directory shared)) (made_copies upper made))
    (inode_of (start_in fork (last_made fork.directory shared))) (made_copies upper last)

-- The copies of the second object begin where those of the first have ended. So what a fork makes is the definitions' copy of
-- the first path, and then that of the second one, if the copies have the numbers that are handed out.
abbrev pub ForksMakeCopies : Type 0
ForksMakeCopies =
    (fresh : Fresh ℕ) (mounter : Credentials) (merge : Merge ℕ) (trees : Filesystems) (upper : LayerRef)
    (lowers : List LayerRef) (overlay : FilesystemId) (path other : List (List ℕ)) (object : ℕ) (first second : Plan)
    (fork : Fork) (shared made last : List Made)
    → (is : IsPlanOf true trees upper lowers overlay path first)
    → (next : IsPlanOf true trees upper lowers overlay other second)
    → (forked : IsForkOf trees first second fork)
    → IsWhole (stack_of trees upper lowers mounter) merge
    → merge.upper ≡ files_at trees upper.directory.filesystem.count → AreNew fresh merge.upper
    → number_at_path merge.files path ≡ Some object
    → (0 < length fork.shared.pieces.items → IsDirectory merge.upper.tree (inode_of fork.directory))
    → AreMadeOf fork shared made last
    → AreHanded (evens fresh) upper.directory.filesystem.count (length is.front) (shared ++ made)
    → AreHanded (odds fresh) upper.directory.filesystem.count (length (next.front ++ names_of forked.twice)) last
    → copied_to (odds fresh) (stack_of trees upper lowers mounter)
    (copied_to (evens fresh) (stack_of trees upper lowers mounter) merge.upper path) other
    ≡ with_fork merge.upper upper.directory.filesystem.count fork shared made last
