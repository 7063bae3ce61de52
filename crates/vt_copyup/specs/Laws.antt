-- What plans make, as the definitions see it: the kernel's overlayfs document, "upper and lower" (copy_up).
use Rattle.std.specs.Prelude.{List, [], length, map, suc, true, ℕ, ⊤, ◌∷◌, ◌≡◌}
use Rattle.vt_spec.specs.Lists.{Fresh}
use Rattle.vt_spec.specs.Machine.CopyUp.{Merge}
use Rattle.vt_spec.specs.Rights.{Credentials}
use Rattle.vt_laws_trees.specs.Overlays.WhatIsShown.{IsWhole}
use Rattle.vt_location.specs.declared.numbers.FilesystemId.{FilesystemId}
use Rattle.vt_location.specs.Locations.{inode_of}
use Rattle.vt_location.specs.Numbers.{inode_number}
use Rattle.vt_fs.specs.FilesystemsValue.{Filesystems, files_at, giving_back, promising, with_changed}
use Rattle.vt_overlay.specs.declared.merge.layers.LayerRef.{LayerRef}
use Rattle.vt_laws_worlds.specs.Merging.UpperChanges.{AreNew, copied_to}
use Rattle.vt_laws_worlds.specs.Seen.CopySteps.{made_in_turn}
use Rattle.vt_copyup.specs.Made.{Made, made_copies}
use Rattle.vt_copyup.specs.Planned.{IsPlanOf, stack_of}
use Rattle.vt_copyup.specs.Plans.{copies_of, in_turn}
use Rattle.vt_copyup.specs.declared.plans.Plan.{Plan}

-- copies have the numbers that are handed out: each that at the place which is how many names its path has
abbrev pub AreHanded : Fresh ℕ → (upper names : ℕ) → List Made → Type 0
AreHanded fresh upper names [] = ⊤
AreHanded fresh upper names (one ∷ rest) =
    (inode_number upper one.slot ≡ fresh (suc names)) × AreHanded fresh upper (suc names) rest

-- So what a plan makes is the definitions' copy of the path with its missing parents.
abbrev pub PlansMakeCopies : Type 0
PlansMakeCopies =
    (fresh : Fresh ℕ) (mounter : Credentials) (merge : Merge ℕ) (trees : Filesystems) (upper : LayerRef)
    (lowers : List LayerRef) (overlay : FilesystemId) (path : List (List ℕ)) (plan : Plan) (made : List Made)
    → (is : IsPlanOf true trees upper lowers overlay path plan)
    → IsWhole (stack_of trees upper lowers mounter) merge
    → merge.upper ≡ files_at trees upper.directory.filesystem.count → AreNew fresh merge.upper
    → map (λ (one : Made). one.copy) made ≡ copies_of (in_turn plan)
    → AreHanded fresh upper.directory.filesystem.count (length is.front) made
    → copied_to fresh (stack_of trees upper lowers mounter) merge.upper path
    ≡ made_in_turn merge.upper (inode_of plan.directory) (made_copies upper.directory.filesystem.count made)

-- Promises that are given back leave the filesystems as they were.
abbrev pub PromisesAreGivenBack : Type 0
PromisesAreGivenBack =
    (count inodes : ℕ) (trees : Filesystems)
    → with_changed count (giving_back inodes) (with_changed count (promising inodes) trees) ≡ trees
