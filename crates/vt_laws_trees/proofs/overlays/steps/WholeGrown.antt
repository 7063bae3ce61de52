-- An overlay in which one inode has a new object in the upper layer, and all others are as they were but for names.
use Rattle.std.proofs.Common.{arith, ◌≡◌, ◌≢◌, refl, sym, ap, subst, ◌∙◌, true≢false, eqb-true, eq-eqb, ℕ, nat_eq, Bool, true, false, cond, List, Option, Some, None, is_some, bytes_eq}
use Rattle.vt_spec.proofs.Common.{Content, FileTree, Merge, Node, Real, SameObject, Stack, Upper, bytes_of, common_steps, eqb_tells, is_directory, is_directory_node, is_kind_in, is_opaque_in, kind_of, none_before, number_at_path, same_Some, same_content, then_some, with_real}
use Rattle.vt_spec.specs.declared.attributes.Kind.{Kind}
use Rattle.vt_spec.specs.declared.attributes.Kind.TheVariants.{Dir, File, Symlink, White}
use Rattle.vt_laws_trees.specs.Layers.Layers.Mounted.{IsAlike}
use Rattle.vt_laws_trees.specs.Overlays.WhatIsShown.{inode_behind, real_seen}
use Rattle.vt_laws_trees.proofs.layers.layers.ShownAlike.{white_alike}
use Rattle.vt_laws_trees.proofs.overlays.steps.WholeParts.{IsFine}
use Rattle.vt_laws_trees.proofs.layers.views.Names.{make_seen}

-- Objects that are alike are the same objects
same_by : Kind → Kind → List ℕ → List ℕ → Bool
same_by Dir Dir a b = true
same_by File File a b = bytes_eq a b
same_by Symlink Symlink a b = bytes_eq a b
same_by one other a b = false

content_by : (a b : Content ℕ) → same_content a b ≡ same_by (kind_of a) (kind_of b) (bytes_of a) (bytes_of b)
unfolding same_by
content_by a b = grind (arith, common_steps)

pub alike_objects : (a b c d : Option (Node ℕ)) → SameObject a b → IsAlike a c → IsAlike b d → SameObject c d
alike_objects a b c d s x y = grind (arith, common_steps, true≢false, content_by)

pub directory_alike : (one other : Option (Node ℕ)) → IsAlike one other
    → is_directory_node other ≡ is_directory_node one
directory_alike None None x = refl
directory_alike None (Some other) x = absurd (true≢false x.there)
directory_alike (Some one) None x = absurd (true≢false (sym x.there))
directory_alike (Some one) (Some other) x = ap is_directory x.kind

module _ (stack : Stack ℕ) (merge : Merge ℕ) (is_fine : IsFine stack merge) (files upper : FileTree ℕ) (number copy : ℕ)
    (vacant : merge.upper.tree.node copy ≡ None)
    (others : (n : ℕ) → n ≢ number → IsAlike (merge.files.tree.node n) (files.tree.node n))
    (above : (u : ℕ) → u ≢ copy → IsAlike (merge.upper.tree.node u) (upper.tree.node u))
    (new : SameObject (files.tree.node number) (upper.tree.node copy)) (there : is_some (files.tree.node number) ≡ true)
    (white : is_kind_in White (files.tree.node number) ≡ false)
    (mark : is_opaque_in (files.tree.node number) ≡ false) where
  abbrev real : ℕ → Option (Real ℕ)
  real = with_real nat_eq merge.real number (Upper copy)

  abbrev pub grown : Merge ℕ
  grown = record { files = files; real = real; upper = upper }

  differs : (n : ℕ) → nat_eq n number ≡ false → n ≢ number
  differs n e same = cc (eq-eqb n number same)

  not_new : (n u : ℕ) → merge.real n ≡ Some (Upper u) → u ≢ copy
  not_new n u r same = cc (is_fine.upper n u r)

  object_same : (n : ℕ) (b : Bool) → nat_eq n number ≡ b → SameObject (files.tree.node n)
      (then_some (cond b (Some (Upper copy)) (merge.real n)) (inode_behind stack grown))
  object_same n true e = subst (λ k. SameObject (files.tree.node k) (upper.tree.node copy))
      (sym (eqb-true n number e)) new
  object_same n false e = grind (arith, common_steps, alike_objects, differs, make_seen, not_new)

  real_there : (n : ℕ) (b : Bool) → nat_eq n number ≡ b → files.tree.node n ≡ None
      → cond b (Some (Upper copy)) (merge.real n) ≡ None
  real_there n true e none = cc (eqb-true n number e)
  real_there n false e none = is_fine.there n (none_before _ (files.tree.node n) (others n (differs n e)).there none)

  upper_there : (n object : ℕ) (b : Bool) → cond b (Some (Upper copy)) (merge.real n) ≡ Some (Upper object)
      → is_some (upper.tree.node object) ≡ true
  upper_there n object b r = grind (arith, common_steps, same_Some, true≢false, not_new)

  one_to_one : (a b : ℕ) (x y : Bool) → nat_eq a number ≡ x → nat_eq b number ≡ y
      → is_some (cond x (Some (Upper copy)) (merge.real a)) ≡ true
      → cond x (Some (Upper copy)) (merge.real a) ≡ cond y (Some (Upper copy)) (merge.real b) → a ≡ b
  one_to_one a b true true e f h s = eqb-true a number e ∙ sym (eqb-true b number f)
  one_to_one a b true false e f h s = absurd (not_new b copy (sym s) refl)
  one_to_one a b false true e f h s = absurd (not_new a copy s refl)
  one_to_one a b false false e f h s = is_fine.one a b h s

  pub grown_is_fine : ((path : List (List ℕ))
      → then_some (number_at_path files path) real ≡ real_seen stack grown path) → IsFine stack grown
  grown_is_fine paths =
      grind (arith, common_steps, object_same, real_there, white_alike, eqb_tells, upper_there, one_to_one)
