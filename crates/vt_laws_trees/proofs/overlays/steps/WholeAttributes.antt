-- Bytes and attributes of what stands in the upper layer are set: the tree is still what the layers show.
use Rattle.std.proofs.Common.{arith, ◌≡◌, refl, sym, ap, subst, ◌∙◌, true≢false, eqb-true, eq-eqb, ℕ, zero, suc, nat_eq, Bool, true, false, cond, List, map, Option, Some, None, is_some, slice_get}
use Rattle.vt_spec.proofs.Common.{IsTree, ListsNumbers, Lower, Merge, Node, OpenLayer, Real, SameObject, SetAttr, SetBytes, Stack, Upper, bytes_eq_itself, changed_both, changed_node, common_steps, is_kind_in, is_opaque_in, node_with_attr, node_with_bytes, none_is_some, number_at_path, part-changed_node, same_Some, then_some, upper_object, upper_of, view_of}
use Rattle.vt_spec.specs.declared.attributes.Attr.{Attr}
use Rattle.vt_spec.specs.declared.attributes.Kind.TheVariants.{White}
use Rattle.vt_laws_trees.proofs.trees.ChangesKeepTrees.{changes_keep_numbers, changes_keep_trees}
use Rattle.vt_laws_trees.specs.Layers.Layers.ChangesUpper.{StandsInUpper}
use Rattle.vt_laws_trees.specs.Overlays.WhatIsShown.{AttrKeepsWhole, BytesKeepWhole, IsWhole, inode_behind, layers_under, real_seen}
use Rattle.vt_laws_trees.proofs.layers.views.After.{shown_elsewhere_stays}
use Rattle.vt_laws_trees.proofs.layers.views.Stay.{attr_changes_one_inode, bytes_change_one_inode}
use Rattle.vt_laws_trees.proofs.overlays.steps.WholeParts.{IsFine, fine, real_by, what_is_shown}

-- the object that an inode of the upper layer has there
pub upper_real : (merge : Merge ℕ) (number : ℕ) → StandsInUpper merge number
    → merge.real number ≡ Some (Upper (upper_of merge number))
upper_real merge number h = grind (arith, common_steps)

-- what a change of one inode keeps of its shape
pub record KeepsShape (change : Option (Node ℕ) → Option (Node ℕ)) : Type 0 where
  pub there : (o : Option (Node ℕ)) → is_some (change o) ≡ is_some o
  pub white : (o : Option (Node ℕ)) → is_kind_in White (change o) ≡ is_kind_in White o
  pub mark : (o : Option (Node ℕ)) → is_opaque_in (change o) ≡ is_opaque_in o
  pub same : (a b : Option (Node ℕ)) → SameObject a b → SameObject (change a) (change b)

attr_shape : (attr : Attr) → KeepsShape (node_with_attr attr)
attr_shape attr = record {
  there = λ o. elim o as (λ o. is_some (node_with_attr attr o) ≡ is_some o) [ None ↦ refl | Some node ↦ refl ];
  white = λ o. elim o as (λ o. is_kind_in White (node_with_attr attr o)
      ≡ is_kind_in White o) [ None ↦ refl | Some node ↦ refl ];
  mark = λ o. elim o as (λ o. is_opaque_in (node_with_attr attr o) ≡ is_opaque_in o) [ None ↦ refl | Some node ↦ refl ];
  same = by;
}
  where
    by : (a b : Option (Node ℕ)) → SameObject a b → SameObject (node_with_attr attr a) (node_with_attr attr b)
    by None None s = tt
    by None (Some b) s = absurd s
    by (Some a) None s = absurd s
    by (Some a) (Some b) s = (refl, s.1)

bytes_shape : (bytes : List ℕ) → KeepsShape (node_with_bytes bytes)
bytes_shape bytes = grind (arith, common_steps, bytes_eq_itself)

module _ {stack : Stack ℕ} {merge : Merge ℕ} (whole : IsWhole stack merge) (file : ℕ)
    (stands : StandsInUpper merge file) {change : Option (Node ℕ) → Option (Node ℕ)} (shape : KeepsShape change)
    (one_path : (path : List (List ℕ))
    → number_at_path (changed_node nat_eq merge.files file change) path ≡ number_at_path merge.files path)
    (one_seen : (path : List (List ℕ))
    → real_seen stack (changed_both nat_eq merge file change) path ≡ real_seen stack merge path) where
  abbrev later : Merge ℕ
  later = changed_both nat_eq merge file change

  is_fine : IsFine stack merge
  is_fine = fine stack merge whole.layers whole.shown

  real : merge.real file ≡ Some (Upper (upper_of merge file))
  real = upper_real merge file stands

  -- an object that is another's is not changed
  object_same : (number : ℕ) → SameObject (later.files.tree.node number)
      (then_some (merge.real number) (inode_behind stack later))
  object_same number = by (merge.real number) refl (nat_eq number file) refl (is_fine.objects number)
    where
      at_upper : (u : ℕ) → merge.real number ≡ Some (Upper u) → (b : Bool) → nat_eq number file ≡ b → (c : Bool)
          → nat_eq u (upper_of merge file) ≡ c → SameObject (merge.files.tree.node number) (merge.upper.tree.node u)
          → SameObject (cond b (change (merge.files.tree.node file)) (merge.files.tree.node number))
          (cond c (change (merge.upper.tree.node (upper_of merge file))) (merge.upper.tree.node u))
      at_upper u r true n true v same =
          shape.same _ _ (subst (λ k. SameObject (merge.files.tree.node file) (merge.upper.tree.node k))
          (eqb-true u (upper_of merge file) v)
          (subst (λ k. SameObject (merge.files.tree.node k) (merge.upper.tree.node u)) (eqb-true number file n) same))
      at_upper u r true n false v same = absurd (true≢false (sym (ap (λ k. nat_eq k (upper_of merge file))
          (upper_one u (upper_of merge file) (sym r ∙ ap merge.real (eqb-true number file n) ∙ real))
          ∙ eq-eqb (upper_of merge file) (upper_of merge file) refl) ∙ v))
        where
          upper_one : (a b : ℕ) → Some (Upper a) ≡ Some (Upper b) → a ≡ b
          upper_one a b e = same_Some a b (ap upper_object e)
      at_upper u r false n true v same = absurd (true≢false (sym (ap (λ k. nat_eq k file)
          (is_fine.one number file (ap is_some r)
          (r ∙ ap (λ k. Some (Upper k)) (eqb-true u (upper_of merge file) v) ∙ sym real)) ∙ eq-eqb file file refl) ∙ n))
      at_upper u r false n false v same = same

      by : (o : Option (Real ℕ)) → merge.real number ≡ o → (b : Bool) → nat_eq number file ≡ b
          → SameObject (merge.files.tree.node number) (then_some o (inode_behind stack merge))
          → SameObject (cond b (change (merge.files.tree.node file)) (merge.files.tree.node number))
          (then_some o (inode_behind stack later))
      by None r true n same = grind (arith, common_steps, none_is_some, real, eqb-true)
      by None r false n same = same
      by (Some (Upper u)) r b n same = at_upper u r b n (nat_eq u (upper_of merge file)) refl same
      by (Some (Lower layer path)) r true n same = grind (arith, common_steps, true≢false, real, eqb-true)
      by (Some (Lower layer path)) r false n same = same

  not_there : (o p : Option (Node ℕ)) → is_some o ≡ is_some p → o ≡ None → p ≡ None
  not_there o None e n = refl
  not_there o (Some node) e n = cc

  fine_later : IsFine stack later
  fine_later = record {
    paths = λ path. cc (one_path path, is_fine.paths path, one_seen path);
    objects = object_same;
    there = λ number none. is_fine.there number (not_there (later.files.tree.node number) (merge.files.tree.node number)
        (part-changed_node is_some merge.files file change shape.there number) none);
    whiteout = λ number. part-changed_node _ merge.files file change shape.white number ∙ is_fine.whiteout number;
    mark = λ number. part-changed_node is_opaque_in merge.files file change shape.mark number ∙ is_fine.mark number;
    upper = λ number object r. part-changed_node is_some merge.upper (upper_of merge file) change shape.there object
        ∙ is_fine.upper number object r;
    one = is_fine.one;
  }

  whole_later : IsTree later.files.tree → ListsNumbers nat_eq later.files → IsTree later.upper.tree
      → Rattle.vt_spec.specs.TreeInvariant.IsDirectory later.upper.tree stack.directory
      → Rattle.vt_spec.specs.TreeInvariant.IsReached later.upper.tree stack.directory → IsWhole stack later
  whole_later tree numbers upper directory reached = record {
    tree = tree;
    numbers = numbers;
    layers = by;
    reached = reached;
    shown = what_is_shown stack later fine_later;
  }
    where
      by : (depth : ℕ) (layer : OpenLayer ℕ) → slice_get (layers_under stack later) depth ≡ Some layer
          → IsTree layer.tree × Rattle.vt_spec.specs.TreeInvariant.IsDirectory layer.tree layer.directory
      by zero layer e = subst (λ l. IsTree l.tree × Rattle.vt_spec.specs.TreeInvariant.IsDirectory l.tree l.directory)
          (same_Some _ layer e) (upper, directory)
      by (suc depth) layer e = whole.layers (suc depth) layer e

-- the upper layer of a whole overlay
pub top_open : (stack : Stack ℕ) (merge : Merge ℕ) → IsWhole stack merge
    → IsTree merge.upper.tree × Rattle.vt_spec.specs.TreeInvariant.IsDirectory merge.upper.tree stack.directory
top_open stack merge whole = whole.layers 0 (record { tree = merge.upper.tree; directory = stack.directory }) refl

pub attr_keeps_whole : AttrKeepsWhole
attr_keeps_whole stack merge object attr whole stands =
    let top = top_open stack merge whole in
    whole_later whole object stands (attr_shape attr)
    ((attr_changes_one_inode merge.files merge.files.tree.root object attr).0) (λ path. ap (real_by path)
    (shown_elsewhere_stays merge.upper (SetAttr (upper_of merge object) attr) stack.directory (map view_of stack.lowers)
    top.0 top.1 tt path refl)) (changes_keep_trees merge.files (SetAttr object attr) whole.tree tt)
    (changes_keep_numbers merge.files (SetAttr object attr) whole.numbers)
    (changes_keep_trees merge.upper (SetAttr (upper_of merge object) attr) top.0 tt) (part-changed_node _ merge.upper
    (upper_of merge object) _ (λ o. elim o as (λ o. Rattle.vt_spec.specs.Tree.is_directory_node (node_with_attr attr o)
    ≡ Rattle.vt_spec.specs.Tree.is_directory_node o) [ None ↦ refl | Some node ↦ refl ]) stack.directory ∙ top.1) (
      whole.reached.0,
      (attr_changes_one_inode merge.upper merge.upper.tree.root
          (upper_of merge object) attr).0 whole.reached.0 ∙ whole.reached.1,
    )

pub bytes_keep_whole : BytesKeepWhole
bytes_keep_whole stack merge file bytes whole stands =
    let top = top_open stack merge whole in
    whole_later whole file stands (bytes_shape bytes)
    ((bytes_change_one_inode merge.files merge.files.tree.root file bytes).0) (λ path. ap (real_by path)
    (shown_elsewhere_stays merge.upper (SetBytes (upper_of merge file) bytes) stack.directory (map view_of stack.lowers)
    top.0 top.1 tt path refl)) (changes_keep_trees merge.files (SetBytes file bytes) whole.tree tt)
    (changes_keep_numbers merge.files (SetBytes file bytes) whole.numbers)
    (changes_keep_trees merge.upper (SetBytes (upper_of merge file) bytes) top.0 tt) (part-changed_node _ merge.upper
    (upper_of merge file) _ (Rattle.vt_spec.proofs.Nodes.is_directory-node_with_bytes bytes) stack.directory ∙ top.1) (
      whole.reached.0,
      (bytes_change_one_inode merge.upper merge.upper.tree.root
          (upper_of merge file) bytes).0 whole.reached.0 ∙ whole.reached.1,
    )
