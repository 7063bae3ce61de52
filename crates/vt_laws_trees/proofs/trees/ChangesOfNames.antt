-- Changes of inodes, links, removals and renames are rearrangements of a tree.
use Rattle.std.proofs.Common.{arith, ◌≡◌, ◌≢◌, refl, sym, ap, subst, ◌∙◌, ℕ, nat_eq, List, ◌⊎◌, inl, inr, ⊎_elim, Option, Some, None, is_some}
use Rattle.vt_spec.proofs.Common.{FileTree, IsDirectory, IsReached, IsTree, Node, Tree, changed_node, common_steps, entries-node_with_parent, entries_in, entry_at, entry_named, eqb_tells, is_directory-node_with_entry, is_directory-node_with_parent, is_directory-node_without_entry, is_directory_node, is_some-node_with_entry, is_some-node_with_parent, is_some-node_without_entry, node_with_entry, node_with_parent, node_without_entry, none_is_not, parent-node_with_entry, parent-node_without_entry, parent_in, same_Some, with_name, without_name, without_parent}
use Rattle.vt_laws_trees.specs.Trees.{MayAddName, MayRemove}
use Rattle.vt_laws_trees.proofs.trees.ChangesNodes.{KeepsPlace, changed_node_there, elsewhere, own_parent-node_with_parent, part_stays}
use Rattle.vt_laws_trees.proofs.trees.ChangesNames.{given_elsewhere, given_in_order, given_kept, given_told, untaken_empty, untaken_in_order, untaken_kept, untaken_told}
use Rattle.vt_laws_trees.proofs.trees.TreesRearranged.{IsRearranged, Vanishes}

-- nobody leaves, nobody arrives
abbrev pub Nobody : ℕ → Type 0
Nobody number = ⊥

abbrev pub Nowhere : ℕ → List ℕ → ℕ → Type 0
Nowhere directory name number = ⊥

-- an option is this number or it is not
pub decided_some : (o : Option ℕ) (number : ℕ) → (o ≡ Some number) ⊎ (o ≢ Some number)
decided_some None number = inr (λ e. none_is_not None number refl e)
decided_some (Some other) number =
    ⊎_elim (λ t. inl (ap Some t.1)) (λ t. inr (λ e. t.1 (same_Some other number e))) (eqb_tells other number)

-- Other attributes, bytes or marks
module _ (files : FileTree ℕ) (number : ℕ) (change : Option (Node ℕ) → Option (Node ℕ)) (keeps : KeepsPlace change)
    (conditions : IsTree files.tree) where
  still_entries : (directory : ℕ) → entries_in ((changed_node nat_eq files number change).tree.node directory)
      ≡ entries_in (files.tree.node directory)
  still_entries directory = part_stays files number change entries_in keeps.entries directory

  still_entry : (directory : ℕ) (name : List ℕ)
      → entry_at (changed_node nat_eq files number change).tree directory name ≡ entry_at files.tree directory name
  still_entry directory name = ap (entry_named name) (still_entries directory)

  pub still_rearranged : IsRearranged files.tree (changed_node nat_eq files number change).tree.node Nobody Nowhere
  still_rearranged = record {
    directories = part_stays files number change is_directory_node keeps.kind;
    in_order = λ d. cc (still_entries d, conditions.in_order d);
    alive = λ d n k e. part_stays files number change is_some keeps.used k
        ∙ conditions.alive d n k (sym (still_entry d n) ∙ e);
    kept = λ d n k e is. inr (still_entry d n ∙ e);
    told = λ d n k e is. inr (sym (still_entry d n) ∙ e, λ nobody. nobody);
    decided = λ k. inr (λ nobody. nobody);
    arrives_entry = λ d n k nobody. absurd nobody;
    arrives_leaves = λ d n k nobody. nobody;
    arrives_once = λ d other n again k nobody nor. absurd nobody;
    arrives_reached = λ d n k nobody. absurd nobody;
    arrives_parent = λ d n k nobody is. absurd nobody;
    stays_parent = λ k is stays. part_stays files number change (parent_in k) (keeps.parent k) k;
    leaves_how = λ k is nobody. absurd nobody;
    root_stays = λ nobody. nobody;
    fills = λ k empty. inl (still_entries k ∙ empty);
  }

-- Another name of an object
module _ (files : FileTree ℕ) {directory : ℕ} {name : List ℕ} {object : ℕ} (conditions : IsTree files.tree)
    (may : MayAddName files.tree directory name object) where
  abbrev linked : FileTree ℕ
  linked = with_name nat_eq files directory name object

  linked_told : (d : ℕ) (n : List ℕ) (k : ℕ) → entry_at linked.tree d n ≡ Some k
      → ((d ≡ directory) × (n ≡ name) × (k ≡ object))
      ⊎ ((entry_at files.tree d n ≡ Some k) × ¬ ((d ≡ directory) × (n ≡ name)))
  linked_told d n k e = given_told files directory name object may.name_is_free.in_directory d n k e

  pub linked_rearranged : IsRearranged files.tree linked.tree.node Nobody Nowhere
  linked_rearranged = record {
    directories = part_stays files directory _ is_directory_node (is_directory-node_with_entry name object);
    in_order = given_in_order files directory name object may.name_is_free.in_directory conditions.in_order;
    alive = λ d n k e. part_stays files directory _ is_some (is_some-node_with_entry name object) k
        ∙ ⊎_elim (λ new. cc (new.2, may.is_there)) (λ old. conditions.alive d n k old.0) (linked_told d n k e);
    kept = λ d n k e is. ⊎_elim (λ same. none_is_not _ k may.name_is_free.free (cc (same.0, same.1)))
        inr (given_kept files directory name object may.name_is_free.in_directory d n k e);
    told = λ d n k e is. ⊎_elim (λ new. absurd (cc (new.2, may.no_directory)))
        (λ old. inr (old.0, λ nobody. nobody)) (linked_told d n k e);
    decided = λ k. inr (λ nobody. nobody);
    arrives_entry = λ d n k nobody. absurd nobody;
    arrives_leaves = λ d n k nobody. nobody;
    arrives_once = λ d other n again k nobody nor. absurd nobody;
    arrives_reached = λ d n k nobody. absurd nobody;
    arrives_parent = λ d n k nobody is. absurd nobody;
    stays_parent = λ k is stays. part_stays files directory (node_with_entry name object) (parent_in k)
        (parent-node_with_entry name object k) k;
    leaves_how = λ k is nobody. absurd nobody;
    root_stays = λ nobody. nobody;
    fills = λ k empty. ⊎_elim (λ t. inr (subst (IsReached files.tree) (sym t.1) may.name_is_free.reached))
        (λ t. inl (given_elsewhere files _ name object may.name_is_free.in_directory k t.1 ∙ empty)) (eqb_tells k _);
  }

-- An object that has this name has no other, if it is a directory.
module _ (tree : Tree ℕ) (conditions : IsTree tree) (directory : ℕ) (name : List ℕ) (object : ℕ)
    (named : entry_at tree directory name ≡ Some object) where
  pub only_name : (d : ℕ) (n : List ℕ) (k : ℕ) → entry_at tree d n ≡ Some k → IsDirectory tree k → k ≡ object
      → (d ≡ directory) × (n ≡ name)
  only_name d n k e is same =
      let here : entry_at tree directory name ≡ Some k = cc in
      let one : d ≡ directory = sym (conditions.one_parent d n k e is) ∙ conditions.one_parent _ name k here is in
      (one, conditions.one_name directory n name k (cc) here is)

  pub not_root : tree.root ≢ object
  not_root same = conditions.root_unnamed directory name (cc)

-- A name of an object taken away
module _ (files : FileTree ℕ) {directory : ℕ} {name : List ℕ} {object : ℕ} (conditions : IsTree files.tree)
    (may : MayRemove files.tree directory name object) where
  abbrev untaken : FileTree ℕ
  untaken = without_name nat_eq files directory name

  abbrev removed : FileTree ℕ
  removed = without_parent nat_eq untaken (Some object)

  abbrev IsObject : ℕ → Type 0
  IsObject number = number ≡ object

  removed_entries : (d : ℕ) → entries_in (removed.tree.node d) ≡ entries_in (untaken.tree.node d)
  removed_entries d = part_stays untaken object (node_with_parent object) entries_in (entries-node_with_parent object) d

  removed_entry : (d : ℕ) (n : List ℕ) → entry_at removed.tree d n ≡ entry_at untaken.tree d n
  removed_entry d n = ap (entry_named n) (removed_entries d)

  removed_used : (k : ℕ) → is_some (removed.tree.node k) ≡ is_some (files.tree.node k)
  removed_used k = part_stays untaken object (node_with_parent object) is_some (is_some-node_with_parent object) k
      ∙ part_stays files directory (node_without_entry name) is_some (is_some-node_without_entry name) k

  removed_kind : (k : ℕ) → is_directory_node (removed.tree.node k) ≡ is_directory_node (files.tree.node k)
  removed_kind k = part_stays untaken object _ is_directory_node (is_directory-node_with_parent object) k
      ∙ part_stays files directory (node_without_entry name) is_directory_node (is_directory-node_without_entry name) k

  removed_told : (d : ℕ) (n : List ℕ) (k : ℕ) → entry_at removed.tree d n ≡ Some k
      → (entry_at files.tree d n ≡ Some k) × ¬ ((d ≡ directory) × (n ≡ name))
  removed_told d n k e = untaken_told files directory name d n k (sym (removed_entry d n) ∙ e)

  removed_own : parent_in object (removed.tree.node object) ≡ object
  removed_own = ap (parent_in object) (changed_node_there untaken object (node_with_parent object))
      ∙ own_parent-node_with_parent object (untaken.tree.node object)

  removed_parent : (k : ℕ) → k ≢ object → parent_in k (removed.tree.node k) ≡ parent_in k (files.tree.node k)
  removed_parent k differ = ap (parent_in k) (elsewhere untaken object (node_with_parent object) k differ)
      ∙ part_stays files directory (node_without_entry name) (parent_in k) (parent-node_without_entry name k) k

  removed_vanishes : Vanishes (files.tree.node object) (removed.tree.node object) object
  removed_vanishes = record {
    was_empty = may.empty;
    is_empty = removed_entries object ∙ untaken_empty files directory name object may.empty;
    own_parent = removed_own;
  }

  pub removed_rearranged : IsRearranged files.tree removed.tree.node IsObject Nowhere
  removed_rearranged = record {
    directories = removed_kind;
    in_order = λ d. cc (removed_entries d, untaken_in_order files directory name conditions.in_order d);
    alive = λ d n k e. removed_used k ∙ conditions.alive d n k (removed_told d n k e).0;
    kept = λ d n k e is. ⊎_elim (λ same. inl (same_Some k object (cc (same.0, same.1, may.named))))
        (λ entry. inr (removed_entry d n ∙ entry)) (untaken_kept files directory name d n k e);
    told = λ d n k e is.
        let old = removed_told d n k e in
        inr (
          old.0,
          λ same. old.1 (only_name files.tree conditions directory name object may.named d n k old.0 is same),
        );
    decided = λ k. ⊎_elim (λ t. inl t.1) (λ t. inr t.1) (eqb_tells k object);
    arrives_entry = λ d n k nobody. absurd nobody;
    arrives_leaves = λ d n k nobody. absurd nobody;
    arrives_once = λ d other n again k nobody nor. absurd nobody;
    arrives_reached = λ d n k nobody. absurd nobody;
    arrives_parent = λ d n k nobody is. absurd nobody;
    stays_parent = λ k is stays. removed_parent k stays;
    leaves_how = λ k is same. inr (subst (λ m. Vanishes (files.tree.node m) (removed.tree.node m) m)
        (sym same) removed_vanishes);
    root_stays = not_root files.tree conditions directory name object may.named;
    fills = λ k empty. inl (removed_entries k ∙ untaken_empty files directory name k empty);
  }

-- What loses its parent, if there is such an object
module _ (files : FileTree ℕ) where
  pub unparented_kind : (o : Option ℕ) (k : ℕ)
      → is_directory_node ((without_parent nat_eq files o).tree.node k) ≡ is_directory_node (files.tree.node k)
  unparented_kind None k = refl
  unparented_kind (Some object) k = part_stays files object _ is_directory_node (is_directory-node_with_parent object) k

  pub unparented_used : (o : Option ℕ) (k : ℕ)
      → is_some ((without_parent nat_eq files o).tree.node k) ≡ is_some (files.tree.node k)
  unparented_used None k = refl
  unparented_used (Some object) k = part_stays files object _ is_some (is_some-node_with_parent object) k

  pub unparented_own : (o : Option ℕ) (k : ℕ) → o ≡ Some k
      → parent_in k ((without_parent nat_eq files o).tree.node k) ≡ k
  unparented_own None k e = none_is_not None k refl e
  unparented_own (Some object) k e =
      grind (arith, common_steps, same_Some, changed_node_there, own_parent-node_with_parent)

  pub unparented_parent : (o : Option ℕ) (k : ℕ) → o ≢ Some k
      → parent_in k ((without_parent nat_eq files o).tree.node k) ≡ parent_in k (files.tree.node k)
  unparented_parent None k differ = refl
  unparented_parent (Some object) k differ =
      ap (parent_in k) (elsewhere files object (node_with_parent object) k (λ same. differ (ap Some (sym same))))
