-- A rename is a rearrangement of a tree: the object gets another name, and what had that is gone.
use Rattle.std.proofs.Common.{◌≡◌, ◌≢◌, refl, sym, ap, subst, ◌∙◌, ℕ, nat_eq, List, [], ◌∷◌, ◌++◌, ◌⊎◌, inl, inr, ⊎_elim, Option, Some, is_some}
use Rattle.vt_spec.proofs.Common.{FileTree, IsDirectory, IsReached, IsTree, entries-node_with_parent, entries-without_parent, entries_in, entry_at, entry_named, eqb_tells, is_directory-node_with_entry, is_directory-node_with_parent, is_directory-node_without_entry, is_directory_node, is_some-node_with_entry, is_some-node_with_parent, is_some-node_without_entry, is_sorted, led, led-append, name_cmp, node_with_entry, node_with_parent, node_without_entry, parent-node_with_entry, parent-node_without_entry, parent_in, root-without_parent, root_reached, same_Some, with_moved, with_name, without_name, without_parent}
use Rattle.vt_spec.proofs.Trees.{entry_reached}
use Rattle.vt_laws_trees.specs.Trees.{MayMove}
use Rattle.vt_laws_trees.proofs.trees.ChangesNodes.{changed_node_there, elsewhere, part_stays}
use Rattle.vt_laws_trees.proofs.trees.ChangesNames.{given_elsewhere, given_entry, given_in_order, given_kept, given_told, untaken_empty, untaken_in_order, untaken_kept, untaken_told}
use Rattle.vt_laws_trees.proofs.trees.ChangesOfNames.{decided_some, not_root, only_name, unparented_kind, unparented_own, unparented_parent, unparented_used}
use Rattle.vt_laws_trees.proofs.trees.TreesRearranged.{IsRearranged, Vanishes, led_closed, no_entries}
use Rattle.vt_spec.proofs.NodeChanges.{parent-node_with_parent}

module _ (files : FileTree ℕ) {from : ℕ} {old : List ℕ} {to : ℕ} {new : List ℕ} {object : ℕ}
    (conditions : IsTree files.tree) (may : MayMove files.tree from old to new object) where
  -- what had the new name
  abbrev replaced : Option ℕ
  replaced = entry_at files.tree to new

  -- the steps
  abbrev unparented : FileTree ℕ
  unparented = without_parent nat_eq files replaced

  abbrev untaken : FileTree ℕ
  untaken = without_name nat_eq unparented from old

  abbrev given : FileTree ℕ
  given = with_name nat_eq untaken to new object

  -- with the root that stays
  abbrev moved : FileTree ℕ
  moved = record {
    tree = record { root = files.tree.root; node = (with_moved nat_eq files from old to new object).tree.node };
    numbers = files.numbers;
  }

  pub moved_alike : moved.tree ≡ (with_moved nat_eq files from old to new object).tree
  moved_alike = λ i. record {
    root = sym (root-without_parent files replaced) i;
    node = (with_moved nat_eq files from old to new object).tree.node;
  }

  -- the object leaves its name, and what had the new one
  abbrev LeavesName : ℕ → Type 0
  LeavesName number = (number ≡ object) ⊎ (replaced ≡ Some number)

  abbrev IsNewName : ℕ → List ℕ → ℕ → Type 0
  IsNewName directory name number = (directory ≡ to) × (name ≡ new) × (number ≡ object)

  untaken_kind : (k : ℕ) → is_directory_node (untaken.tree.node k) ≡ is_directory_node (files.tree.node k)
  untaken_kind k =
      part_stays unparented from (node_without_entry old) is_directory_node (is_directory-node_without_entry old) k
      ∙ unparented_kind files replaced k

  to_there : IsDirectory untaken.tree to
  to_there = untaken_kind to ∙ may.in_directory

  moved_kind : (k : ℕ) → is_directory_node (moved.tree.node k) ≡ is_directory_node (files.tree.node k)
  moved_kind k = part_stays given object (node_with_parent to) is_directory_node (is_directory-node_with_parent to) k
      ∙ part_stays untaken to _ is_directory_node (is_directory-node_with_entry new object) k ∙ untaken_kind k

  moved_used : (k : ℕ) → is_some (moved.tree.node k) ≡ is_some (files.tree.node k)
  moved_used k = part_stays given object (node_with_parent to) is_some (is_some-node_with_parent to) k
      ∙ part_stays untaken to (node_with_entry new object) is_some (is_some-node_with_entry new object) k
      ∙ part_stays unparented from (node_without_entry old) is_some (is_some-node_without_entry old) k
      ∙ unparented_used files replaced k

  moved_entries : (d : ℕ) → entries_in (moved.tree.node d) ≡ entries_in (given.tree.node d)
  moved_entries d = part_stays given object (node_with_parent to) entries_in (entries-node_with_parent to) d

  moved_entry : (d : ℕ) (n : List ℕ) → entry_at moved.tree d n ≡ entry_at given.tree d n
  moved_entry d n = ap (entry_named n) (moved_entries d)

  first_entry : (d : ℕ) (n : List ℕ) → entry_at unparented.tree d n ≡ entry_at files.tree d n
  first_entry d n = ap (entry_named n) (entries-without_parent files replaced d)

  -- each entry is the new one, or was there, and is neither that of the old name nor of the new one
  moved_told : (d : ℕ) (n : List ℕ) (k : ℕ) → entry_at moved.tree d n ≡ Some k
      → IsNewName d n k ⊎ ((entry_at files.tree d n ≡ Some k) × ¬ ((d ≡ from) × (n ≡ old)) × ¬ ((d ≡ to) × (n ≡ new)))
  moved_told d n k e = ⊎_elim inl (λ second.
      let first = untaken_told unparented from old d n k second.0 in
      inr (sym (first_entry d n) ∙ first.0, first.1, second.1))
      (given_told untaken to new object to_there d n k (sym (moved_entry d n) ∙ e))

  -- each entry stays, but for those of the old and the new name
  moved_kept : (d : ℕ) (n : List ℕ) (k : ℕ) → entry_at files.tree d n ≡ Some k
      → LeavesName k ⊎ (entry_at moved.tree d n ≡ Some k)
  moved_kept d n k e = ⊎_elim (λ same. inl (inl (same_Some k object (cc (same.0, same.1, may.named))))) (λ first. ⊎_elim
      (λ same. inl (inr (cc (same.0, same.1))))
      (λ second. inr (moved_entry d n ∙ second)) (given_kept untaken to new object to_there d n k first))
      (untaken_kept unparented from old d n k (first_entry d n ∙ e))

  moved_new : entry_at moved.tree to new ≡ Some object
  moved_new = moved_entry to new ∙ given_entry untaken to new object to_there

  -- the directory that the object goes to is reached still: no way there goes through the object
  abbrev IsUnder : ℕ → Type 0
  IsUnder number = (names : List (List ℕ)) × (led files.tree object names ≡ Some number)

  abbrev Remains : ℕ → Type 0
  Remains number = IsUnder number ⊎ (replaced ≡ Some number) ⊎ IsReached moved.tree number

  remains_along : (d : ℕ) (n : List ℕ) (k : ℕ) → Remains d → entry_at files.tree d n ≡ Some k → Remains k
  remains_along d n k remains e = ⊎_elim
      (λ under. inl (under.0 ++ n ∷ [], led-append files.tree object under.0 n d k under.1 e)) (λ rest. ⊎_elim
      (λ gone. no_entries files.tree d n k (may.replaced_empty d gone) e) (λ reached. ⊎_elim (λ leaves. ⊎_elim
      (λ same. inl ([], ap Some (sym same))) (λ gone. inr (inl gone)) leaves)
      (λ entry. inr (inr (entry_reached moved.tree d n k reached entry))) (moved_kept d n k e)) rest) remains

  to_reached : IsReached moved.tree to
  to_reached = ⊎_elim (λ under. absurd (may.not_under under.0 under.1)) (λ rest. ⊎_elim
      (λ gone. no_entries files.tree to new to (may.replaced_empty to gone) gone) (λ reached. reached) rest)
      (led_closed files.tree Remains remains_along files.tree.root may.reached.0 to
      (inr (inr (root_reached moved.tree))) may.reached.1)

  -- parents
  moved_object_parent : IsDirectory files.tree object → parent_in object (moved.tree.node object) ≡ to
  moved_object_parent is = ap (parent_in object) (changed_node_there given object (node_with_parent to))
      ∙ parent-node_with_parent to object (given.tree.node object)
      (part_stays untaken to (node_with_entry new object) is_directory_node
      (is_directory-node_with_entry new object) object ∙ untaken_kind object ∙ is)

  moved_first_parent : (k : ℕ) → k ≢ object → parent_in k (moved.tree.node k) ≡ parent_in k (unparented.tree.node k)
  moved_first_parent k differ = ap (parent_in k) (elsewhere given object (node_with_parent to) k differ)
      ∙ part_stays untaken to (node_with_entry new object) (parent_in k) (parent-node_with_entry new object k) k
      ∙ part_stays unparented from (node_without_entry old) (parent_in k) (parent-node_without_entry old k) k

  moved_empty : (k : ℕ) → k ≢ to → entries_in (files.tree.node k) ≡ [] → entries_in (moved.tree.node k) ≡ []
  moved_empty k differ empty = moved_entries k ∙ given_elsewhere untaken to new object to_there k differ
      ∙ untaken_empty unparented from old k (entries-without_parent files replaced k ∙ empty)

  moved_vanishes : (k : ℕ) → replaced ≡ Some k → Vanishes (files.tree.node k) (moved.tree.node k) k
  moved_vanishes k gone = record {
    was_empty = may.replaced_empty k gone;
    is_empty = moved_empty k (λ same. no_entries files.tree k new k (may.replaced_empty k gone)
        (cc)) (may.replaced_empty k gone);
    own_parent = moved_first_parent k (λ same. may.replaced_other (cc)) ∙ unparented_own files replaced k gone;
  }

  moved_decided : (k : ℕ) → LeavesName k ⊎ (¬ (LeavesName k))
  moved_decided k = ⊎_elim (λ t. inl (inl t.1))
      (λ t. ⊎_elim (λ gone. inl (inr gone)) (λ differ. inr (⊎_elim t.1 differ)) (decided_some _ k)) (eqb_tells k object)

  pub moved_rearranged : IsRearranged files.tree moved.tree.node LeavesName IsNewName
  moved_rearranged = record {
    directories = moved_kind;
    in_order = λ d. ap (is_sorted name_cmp) (moved_entries d) ∙ given_in_order untaken to new object to_there
        (untaken_in_order unparented from old (λ m. ap (is_sorted name_cmp) (entries-without_parent files replaced m)
        ∙ conditions.in_order m)) d;
    alive = λ d n k e. moved_used k ∙ ⊎_elim (λ arrives. cc (arrives.2, conditions.alive from old object may.named))
        (λ before. conditions.alive d n k before.0) (moved_told d n k e);
    kept = λ d n k e is. moved_kept d n k e;
    told = λ d n k e is. ⊎_elim inl (λ before. inr (
      before.0,
      ⊎_elim (λ same. before.1 (only_name files.tree conditions from old object may.named d n k before.0 is same))
          (λ gone. before.2 (only_name files.tree conditions to new k gone d n k before.0 is refl)),
    )) (moved_told d n k e);
    decided = moved_decided;
    arrives_entry = λ d n k arrives. cc (arrives.0, arrives.1, moved_new, arrives.2);
    arrives_leaves = λ d n k arrives. inl arrives.2;
    arrives_once = λ d other n again k arrives once. arrives.1 ∙ sym once.1;
    arrives_reached = λ d n k arrives. subst (IsReached moved.tree) (sym arrives.0) to_reached;
    arrives_parent = λ d n k arrives is. ap (λ m. parent_in m (moved.tree.node m)) arrives.2
        ∙ moved_object_parent (ap (λ m. is_directory_node (files.tree.node m)) (sym arrives.2) ∙ is) ∙ sym arrives.0;
    stays_parent = λ k is stays. moved_first_parent k (λ same. stays (inl same))
        ∙ unparented_parent files replaced k (λ gone. stays (inr gone));
    leaves_how = λ k is leaves. ⊎_elim (λ same. inl (to, new, (refl, refl, same)))
        (λ gone. inr (moved_vanishes k gone)) leaves;
    root_stays = ⊎_elim (not_root files.tree conditions from old object may.named)
        (λ gone. conditions.root_unnamed to new gone);
    fills = λ k empty. ⊎_elim (λ t. inr (subst (IsReached files.tree) (sym t.1) may.reached))
        (λ t. inl (moved_empty k t.1 empty)) (eqb_tells k to);
  }
