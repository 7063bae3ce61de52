-- What plans of further names make of the upper layer's tree, as the definitions see it: link(2), and the kernel's overlayfs
-- document, "upper and lower" (copy_up), "whiteouts and opaque directories".
use Rattle.std.specs.Prelude.{Bool, List, Some, [], length, option_map, true, ℕ, ◌++◌, ◌≡◌, ◌≢◌}
use Rattle.vt_spec.specs.Language.Changes.Change.{AddName}
use Rattle.vt_spec.specs.Lists.{Fresh, evens, odds}
use Rattle.vt_spec.specs.Machine.CopyUp.{Merge}
use Rattle.vt_spec.specs.Machine.Invariants.{number_at_path}
use Rattle.vt_spec.specs.Rights.{Credentials}
use Rattle.vt_spec.specs.TreeInvariant.{led}
use Rattle.vt_births.specs.Births.{BirthsValue}
use Rattle.vt_copyup.specs.declared.plans.Plan.{Plan}
use Rattle.vt_copyup.specs.Forks.{IsForkOf}
use Rattle.vt_copyup.specs.Laws.{AreHanded}
use Rattle.vt_copyup.specs.Planned.{IsPlanOf, names_of, stack_of}
use Rattle.vt_fs.specs.FilesystemsValue.{Filesystems, files_at}
use Rattle.vt_laws_trees.specs.Overlays.WhatIsShown.{IsWhole}
use Rattle.vt_laws_trees.specs.Overlays.WholeChanges.{IsAskedWell}
use Rattle.vt_laws_worlds.specs.Merging.UpperCalls.{changed_above}
use Rattle.vt_laws_worlds.specs.Merging.UpperCalls.ChangeAt.{LinkAt}
use Rattle.vt_laws_worlds.specs.Merging.UpperChanges.{AreNew, LeadsToDirectory}
use Rattle.vt_laws_worlds.specs.Merging.UpperChanges.Place.{Named}
use Rattle.vt_location.specs.declared.locations.InodeRef.{InodeRef}
use Rattle.vt_location.specs.declared.numbers.FilesystemId.{FilesystemId}
use Rattle.vt_location.specs.Locations.{inode_of}
use Rattle.vt_overlay.specs.declared.merge.layers.LayerRef.{LayerRef}
use Rattle.vt_upper.specs.declared.linking.LinkPlan.{LinkPlan}
use Rattle.vt_upper.specs.Linking.{IsLinked, IsLinkReady}
use Rattle.vt_upper.specs.New.{object_in}

-- An object at a path gets a further name, for which plans have the copies of its path and of that of the directory: each
-- inode of the upper layer's tree is then that after the change by the definitions, but for a whiteout that had the name,
-- which nothing needs any more.
abbrev pub LinksAreMade : Type 0
LinksAreMade =
    (fresh : Fresh ℕ) (mounter : Credentials) (merge : Merge ℕ) (trees promised : Filesystems) (upper : LayerRef)
    (lowers : List LayerRef) (overlay : FilesystemId) (path other : List (List ℕ)) (directory object : ℕ)
    (plan : LinkPlan) (first second : Plan) (births : BirthsValue) (room : ℕ) (after : Filesystems)
    (births_after : BirthsValue) (above : InodeRef)
    → IsWhole (stack_of trees upper lowers mounter) merge → AreNew fresh merge.upper
    → merge.upper ≡ files_at trees upper.directory.filesystem.count
    → merge.upper ≡ files_at promised upper.directory.filesystem.count
    → number_at_path merge.files path ≡ Some object → LeadsToDirectory merge other directory
    → IsAskedWell (stack_of trees upper lowers mounter) merge (AddName directory plan.name.items object)
    → (is : IsPlanOf true trees upper lowers overlay path first)
    → (next : IsPlanOf true trees upper lowers overlay other second)
    → (forked : IsForkOf trees first second plan.copies) → IsLinkReady plan promised births room
    → (linked : IsLinked plan promised births after births_after above)
    → AreHanded (evens fresh) upper.directory.filesystem.count (length is.front)
    (linked.made.shared.made ++ linked.made.first.made)
    → AreHanded (odds fresh) upper.directory.filesystem.count (length (next.front ++ names_of forked.twice))
    linked.made.second.made
    → (inode : ℕ) → option_map object_in plan.leaving ≢ Some inode
    → (files_at after upper.directory.filesystem.count).tree.node inode
    ≡ (changed_above fresh (stack_of trees upper lowers mounter) merge.upper
    (LinkAt (Named path) other plan.name.items)).tree.node inode

-- What the upper layer has needs no copies: a plan of none is that of each path that leads there.
abbrev pub PlansAboveAreOfPaths : Type 0
PlansAboveAreOfPaths =
    (with_bytes : Bool) (trees : Filesystems) (upper : LayerRef) (lowers : List LayerRef) (overlay : FilesystemId)
    (path : List (List ℕ)) (plan : Plan)
    → led (files_at trees upper.directory.filesystem.count).tree (inode_of upper.directory) path
    ≡ Some (inode_of plan.directory)
    → plan.directory.filesystem ≡ upper.directory.filesystem → plan.pieces.items ≡ []
    → IsPlanOf with_bytes trees upper lowers overlay path plan
