-- That the tree of an overlay is what its layers show, as one equation for each path.
use Rattle.std.proofs.Common.{arith, ◌≡◌, refl, sym, ℕ, zero, suc, true, false, List, Option, Some, None, is_some, option_map}
use Rattle.vt_spec.proofs.Common.{Merge, Node, OpenLayer, Real, SameObject, Shown, Stack, Upper, common_steps, is_kind_in, is_opaque_in, layer_node, none_is_some, number_at_path, real_object, shown, then_some}
use Rattle.vt_spec.specs.declared.attributes.Kind.TheVariants.{White}
use Rattle.vt_laws_trees.specs.Layers.Layers.Shown.{IsShown}
use Rattle.vt_laws_trees.specs.Overlays.WhatIsShown.{IsWhatIsShown, inode_behind, layers_under, real_seen}
use Rattle.vt_laws_trees.proofs.layers.layers.ShownAtPath.{computed}
use Rattle.vt_laws_trees.proofs.layers.layers.ShownDirectories.{AreOpen, led_is_there}

-- the real object of something that is shown
abbrev pub real_by : List (List ℕ) → Option (Shown ℕ) → Option (Real ℕ)
real_by path o = option_map (λ object. real_object true object.seen.layer object)
    (option_map (λ seen. record { path = path; seen = seen }) o)

pub real_by_none : (path : List (List ℕ)) (o : Option (Shown ℕ)) → real_by path o ≡ None → o ≡ None
real_by_none path None e = refl
real_by_none path (Some seen) e = none_is_some _ (sym e)

-- nothing is not the same object as what is there
pub object_is_not_none : (node : Option (Node ℕ)) → is_some node ≡ true → SameObject None node → ⊥
object_is_not_none None t same = cc
object_is_not_none (Some node) t same = same

-- what is shown is there
pub shown_is_there : (layers : List (OpenLayer ℕ)) → AreOpen layers → (path : List (List ℕ)) (seen : Shown ℕ)
    → shown layers path ≡ Some seen → is_some (layer_node layers seen) ≡ true
shown_is_there layers are_open path seen e =
    let is = (computed layers path seen).0 e in
    let open_one = are_open seen.layer is.has_uncut.0.0 is.has_uncut.0.1 in
    grind (arith, common_steps, led_is_there)

module _ (stack : Stack ℕ) (merge : Merge ℕ) where
  pub record IsFine : Type 0 where
    pub paths : (path : List (List ℕ))
        → then_some (number_at_path merge.files path) merge.real ≡ real_seen stack merge path
    pub objects : (number : ℕ) → SameObject (merge.files.tree.node number)
        (then_some (merge.real number) (inode_behind stack merge))
    pub there : (number : ℕ) → merge.files.tree.node number ≡ None → merge.real number ≡ None
    pub whiteout : (number : ℕ) → is_kind_in White (merge.files.tree.node number) ≡ false
    pub mark : (number : ℕ) → is_opaque_in (merge.files.tree.node number) ≡ false
    pub upper : (number object : ℕ) → merge.real number ≡ Some (Upper object)
        → is_some (merge.upper.tree.node object) ≡ true
    pub one : (a b : ℕ) → is_some (merge.real a) ≡ true → merge.real a ≡ merge.real b → a ≡ b

  abbrev layers : List (OpenLayer ℕ)
  layers = layers_under stack merge

  pub fine : AreOpen layers → IsWhatIsShown stack merge → IsFine
  fine are_open is = record {
    paths = λ path. by path (number_at_path merge.files path) refl (is.shows path);
    objects = is.real_objects;
    there = is.real_there;
    whiteout = is.no_whiteout;
    mark = is.no_mark;
    upper = is.upper_there;
    one = is.one_to_one;
  }
    where
      none_there : (path : List (List ℕ)) (o : Option (Shown ℕ)) → shown layers path ≡ o
          → SameObject None (then_some o (layer_node layers)) → None ≡ real_by path o
      none_there path None e same = refl
      none_there path (Some seen) e same =
          absurd (object_is_not_none (layer_node layers seen) (shown_is_there layers are_open path seen e) same)

      by : (path : List (List ℕ)) (o : Option ℕ) → number_at_path merge.files path ≡ o
          → SameObject (then_some o merge.files.tree.node) (then_some (shown layers path) (layer_node layers))
          → then_some o merge.real ≡ real_seen stack merge path
      by path None e same = none_there path (shown layers path) refl same
      by path (Some number) e same = is.names path number e

  -- the inode of a real object is the one that is shown
  pub behind_shown : (path : List (List ℕ)) (seen : Shown ℕ) → shown layers path ≡ Some seen
      → inode_behind stack merge (real_object true seen.layer (record { path = path; seen = seen }))
      ≡ layer_node layers seen
  behind_shown path seen e = by seen.layer seen.object ((computed layers path seen).0 e)
    where
      by : (layer object : ℕ) → IsShown layers path (record { layer = layer; object = object })
          → inode_behind stack merge (real_object true layer
          (record { path = path; seen = record { layer = layer; object = object } }))
          ≡ layer_node layers (record { layer = layer; object = object })
      by zero object is = refl
      by (suc layer) object is = cc (is.has_uncut.0.1, is.has_uncut.0.2)

  pub what_is_shown : IsFine → IsWhatIsShown stack merge
  what_is_shown is = grind (arith, common_steps, behind_shown, real_by_none)
