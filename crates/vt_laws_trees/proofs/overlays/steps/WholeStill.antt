-- An overlay in which all inodes and their real objects are as they were, but for names.
use Rattle.std.proofs.Common.{arith, ◌≡◌, ℕ, List, Option, Some, None}
use Rattle.vt_spec.proofs.Common.{FileTree, Lower, Merge, Real, SameObject, Stack, Upper, common_steps, none_before, number_at_path, then_some}
use Rattle.vt_laws_trees.specs.Layers.Layers.Mounted.{IsAlike}
use Rattle.vt_laws_trees.specs.Overlays.WhatIsShown.{inode_behind, real_seen}
use Rattle.vt_laws_trees.proofs.layers.layers.ShownAlike.{white_alike}
use Rattle.vt_laws_trees.proofs.overlays.steps.WholeGrown.{alike_objects}
use Rattle.vt_laws_trees.proofs.overlays.steps.WholeParts.{IsFine}
use Rattle.vt_laws_trees.proofs.layers.views.Names.{make_seen}

module _ (stack : Stack ℕ) (merge : Merge ℕ) (is_fine : IsFine stack merge) (files upper : FileTree ℕ)
    (others : (n : ℕ) → IsAlike (merge.files.tree.node n) (files.tree.node n))
    (above : (n u : ℕ) → merge.real n ≡ Some (Upper u) → IsAlike (merge.upper.tree.node u) (upper.tree.node u)) where
  abbrev pub rearranged : Merge ℕ
  rearranged = record merge { files = files; upper = upper }

  object_same : (n : ℕ) (o : Option (Real ℕ)) → merge.real n ≡ o
      → SameObject (merge.files.tree.node n) (then_some o (inode_behind stack merge))
      → SameObject (files.tree.node n) (then_some o (inode_behind stack rearranged))
  object_same n None r same = alike_objects _ None (files.tree.node n) None same (others n) (make_seen None)
  object_same n (Some (Upper u)) r same = alike_objects _ _ (files.tree.node n) _ same (others n) (above n u r)
  object_same n (Some (Lower layer path)) r same = alike_objects _ _ (files.tree.node n) _ same (others n) (make_seen _)

  pub rearranged_is_fine : ((path : List (List ℕ))
      → then_some (number_at_path files path) merge.real ≡ real_seen stack rearranged path) → IsFine stack rearranged
  rearranged_is_fine paths = grind (arith, common_steps, object_same, none_before, white_alike)
