-- What is copied up stands in the upper layer: each inode has its own object there, of its kind, and a copy is what is
-- shown.
use Rattle.std.proofs.Common.{arith, ◌≡◌, ◌≢◌, ◌⊎◌, inl, inr, refl, sym, ap, subst, ◌∙◌, ℕ, nat_eq, eq-eqb, ne_eqb, true, false, cond, List, Option, Some, None, is_some, ⊎_elim}
use Rattle.vt_spec.proofs.Common.{Content, Directory, FileTree, Merge, Node, Real, Regular, Symlink, Upper, Whiteout, a_name, bytes_of, common_steps, copied_content, copy_named, copy_of_node, copy_parent, eqb_tells, is_directory, is_directory_node, none_is_some, number_at_path, opaque_of, part-changed_node, same_Some, upper_object, with_inode, with_real}
use Rattle.vt_laws_trees.specs.Layers.Layers.ChangesUpper.{IsCopyOf}
use Rattle.vt_laws_trees.proofs.layers.layers.CopyingParts.{entry_keeps, kept_copy}
use Rattle.vt_spec.proofs.NodeChanges.{kind_of-copied_content}

copy_bytes : (parent : ℕ) (content : Content ℕ) → bytes_of (copied_content parent content) ≡ bytes_of content
copy_bytes parent (Directory old entries opaque) = refl
copy_bytes parent (Regular bytes) = refl
copy_bytes parent (Symlink text) = refl
copy_bytes parent Whiteout = refl

copy_mark : (parent : ℕ) (content : Content ℕ) → opaque_of (copied_content parent content) ≡ false
copy_mark parent (Directory old entries opaque) = refl
copy_mark parent (Regular bytes) = refl
copy_mark parent (Symlink text) = refl
copy_mark parent Whiteout = refl

-- a copied inode is a copy of what is shown
pub is_copy_of : (parent : ℕ) (seen : Option (Node ℕ)) (node : Node ℕ) → seen ≡ Some node
    → IsCopyOf seen (Some (record { attr = node.attr; content = copied_content parent node.content }))
is_copy_of parent seen node e = grind (arith, common_steps, kind_of-copied_content, copy_bytes, copy_mark)

module _ (files : FileTree ℕ) (first : ℕ → Option (Real ℕ)) (spare : ℕ → Type 0) where
  abbrev pub State : (ℕ → Option (Real ℕ)) → FileTree ℕ → Merge ℕ
  State real upper = record { files = files; real = real; upper = upper }

  -- Two inodes have two upper objects, of their own kind; each is the one that it had, or a copy; and some numbers are
  -- spared.
  pub record IsSound (real : ℕ → Option (Real ℕ)) (upper : FileTree ℕ) : Type 0 where
    pub one : (a b object : ℕ) → upper_object (real a) ≡ Some object → upper_object (real b) ≡ Some object → a ≡ b
    pub kinds : (path : List (List ℕ)) (number object : ℕ) → number_at_path files path ≡ Some number
        → upper_object (real number) ≡ Some object
        → is_directory_node (upper.tree.node object) ≡ is_directory_node (files.tree.node number)
    pub stands : (number object : ℕ) → upper_object (real number) ≡ Some object
        → (upper_object (first number) ≡ Some object) ⊎ IsCopyOf (files.tree.node number) (upper.tree.node object)
    pub spared : (number object : ℕ) → upper_object (real number) ≡ Some object → ¬ (spare object)

  pub record Soundly (before : ℕ → Option (Real ℕ)) (used : ℕ → Type 0) (merge : Merge ℕ) : Type 0 where
    pub real : ℕ → Option (Real ℕ)
    pub upper : FileTree ℕ
    pub is : merge ≡ State real upper
    pub sound : IsSound real upper
    pub grows : (number object : ℕ) → upper_object (before number) ≡ Some object
        → upper_object (real number) ≡ Some object
    pub told : (number object : ℕ) → upper_object (real number) ≡ Some object
        → (upper_object (before number) ≡ Some object) ⊎ used object

  -- one copy
  module _ (real : ℕ → Option (Real ℕ)) (upper : FileTree ℕ) (sound : IsSound real upper) (object copy : ℕ)
      (unused : (number : ℕ) → upper_object (real number) ≢ Some copy) (not_spare : ¬ (spare copy)) (node : Node ℕ)
      (is_node : files.tree.node object ≡ Some node) (below : upper_object (real object) ≡ None) where
    abbrev copied_node : Node ℕ
    copied_node = record {
      attr = node.attr;
      content = copied_content (copy_parent (State real upper) copy (a_name nat_eq files object)) node.content;
    }

    abbrev with_copy : FileTree ℕ
    with_copy = with_inode nat_eq upper copy copied_node

    abbrev later : FileTree ℕ
    later = copy_named nat_eq (State real upper) copy (a_name nat_eq files object) with_copy

    abbrev real_later : ℕ → Option (Real ℕ)
    real_later = with_real nat_eq real object (Upper copy)

    -- the object of an inode is the copy, or the one that it was
    told_later : (number seen : ℕ) → upper_object (real_later number) ≡ Some seen
        → ((number ≡ object) × (seen ≡ copy)) ⊎ (upper_object (real number) ≡ Some seen)
    told_later number seen e = ⊎_elim (λ t. inl (
      t.1,
      sym (same_Some copy seen (cc (t.0))),
    )) (λ t. inr (cc (t.0))) (eqb_tells number object)

    directory_named : (named : Option (ℕ × List ℕ)) (inode : ℕ)
        → is_directory_node ((copy_named nat_eq (State real upper) copy named with_copy).tree.node inode)
        ≡ is_directory_node (with_copy.tree.node inode)
    directory_named None inode = refl
    directory_named (Some name) inode = part-changed_node _ with_copy _ _ (entry_keeps name.1 copy).directory inode

    copy_named_so : (seen : Option (Node ℕ)) (named : Option (ℕ × List ℕ)) (inode : ℕ)
        → IsCopyOf seen (with_copy.tree.node inode)
        → IsCopyOf seen ((copy_named nat_eq (State real upper) copy named with_copy).tree.node inode)
    copy_named_so seen None inode is = is
    copy_named_so seen (Some name) inode is = kept_copy seen with_copy _ _ (entry_keeps name.1 copy) inode is

    at_copy : with_copy.tree.node copy ≡ Some copied_node
    at_copy = ap (λ b. cond b (Some copied_node) (upper.tree.node copy)) (eq-eqb copy copy refl)

    at_other : (inode : ℕ) → inode ≢ copy → with_copy.tree.node inode ≡ upper.tree.node inode
    at_other inode differ = ap (λ b. cond b (Some copied_node) (upper.tree.node inode)) (ne_eqb inode copy differ)

    is_copy : IsCopyOf (files.tree.node object) (with_copy.tree.node copy)
    is_copy = subst (IsCopyOf (files.tree.node object)) (sym at_copy) (is_copy_of _ _ node is_node)

    other_object : (number seen : ℕ) → upper_object (real number) ≡ Some seen → seen ≢ copy
    other_object number seen e same = unused number (cc)

    later_sound : IsSound real_later later
    later_sound = record {
      one = λ a b seen e f. ⊎_elim
          (λ s. ⊎_elim (λ t. s.0 ∙ sym t.0) (λ t. absurd (other_object b seen t s.1)) (told_later b seen f))
          (λ s. ⊎_elim (λ t. absurd (other_object a seen s t.1)) (λ t. sound.one a b seen s t) (told_later b seen f))
          (told_later a seen e);
      kinds = λ path number seen way e. ⊎_elim (λ t. directory_named (a_name nat_eq files object) seen
          ∙ ap (λ n. is_directory_node (with_copy.tree.node n)) t.1 ∙ ap is_directory_node at_copy
          ∙ ap is_directory (kind_of-copied_content _ node.content) ∙ sym (ap is_directory_node is_node) ∙ ap
          (λ n. is_directory_node (files.tree.node n)) (sym t.0)) (λ t. directory_named _ seen ∙ ap is_directory_node
          (at_other seen (other_object number seen t)) ∙ sound.kinds path number seen way t) (told_later number seen e);
      stands = λ number seen e. ⊎_elim
          (λ t. inr (copy_named_so (files.tree.node number) (a_name nat_eq files object) seen
          (subst (λ n. IsCopyOf (files.tree.node n) (with_copy.tree.node seen)) (sym t.0)
          (subst (λ n. IsCopyOf (files.tree.node object) (with_copy.tree.node n)) (sym t.1) is_copy)))) (λ t. ⊎_elim
          (λ old. inl old) (λ copied. inr (copy_named_so (files.tree.node number) (a_name nat_eq files object) seen
          (subst (IsCopyOf (files.tree.node number)) (sym (at_other seen (other_object number seen t))) copied)))
          (sound.stands number seen t)) (told_later number seen e);
      spared = λ number seen e. ⊎_elim (λ t. subst (λ n. ¬ (spare n)) (sym t.1) not_spare)
          (λ t. sound.spared number seen t) (told_later number seen e);
    }

    pub record CopiesOne (merge : Merge ℕ) : Type 0 where
      pub soundly : Soundly real (λ seen. seen ≡ copy) merge
      pub copied : is_some (upper_object (soundly.real object)) ≡ true
      pub others : (number : ℕ) → nat_eq number object ≡ false → soundly.real number ≡ real number

    pub soundly_copied : CopiesOne (copy_of_node nat_eq (State real upper) object copy node)
    soundly_copied = record {
      soundly = soundly;
      copied = ap (λ b. is_some (upper_object (cond b (Some (Upper copy)) (real object)))) (eq-eqb object object refl);
      others = λ number e. ap (λ b. cond b (Some (Upper copy)) (real number)) e;
    }
      where
        soundly : Soundly real (λ seen. seen ≡ copy) (copy_of_node nat_eq (State real upper) object copy node)
        soundly = grind (arith, common_steps, later_sound, none_is_some, eqb_tells, told_later)
