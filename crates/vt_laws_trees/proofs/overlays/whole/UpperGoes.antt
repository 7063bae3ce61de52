-- A plain tree after a change that its call's rules let pass: it is a tree, and the directory of a layer in it is still
-- reached.
use Rattle.std.proofs.Common.{arith, ◌≡◌, ◌≢◌, refl, sym, ap, subst, ◌∙◌, ℕ, nat_eq, false, List, [], ⊎_elim, inl, inr, Option, Some, is_some}
use Rattle.vt_spec.proofs.Common.{AddName, Change, CopyUp, FileTree, HasName, HasOwnParents, IsDirectory, IsReached, IsTree, ListsNumbers, Make, Move, Node, Remove, SetAttr, SetBytes, SetMark, Tree, changed, changed_node, common_steps, directory_used, entries-node_without_entries, entries_in, entry_at, eqb_tells, is_directory_node, node_with_bytes, node_with_mark, node_without_entries, none_is_some, parent_in, reached_named, root-without_parent, ⊤}
use Rattle.vt_spec.proofs.Trees.{directory_kept, entry_kept, used_differs}
use Rattle.vt_laws_trees.specs.Trees.{IsProper, MayMake}
use Rattle.vt_laws_trees.proofs.trees.ChangesKeepTrees.{bytes_keep_place, changes_keep_numbers, changes_keep_own_parents, changes_keep_trees, made_alike, numbers_stay}
use Rattle.vt_laws_trees.proofs.trees.ChangesNodes.{KeepsPlace, attr_keeps_place, changed_node_there, elsewhere, mark_keeps_place, part_stays}
use Rattle.vt_laws_trees.proofs.trees.ChangesOfNames.{Nobody, Nowhere, linked_rearranged, removed_rearranged, still_rearranged}
use Rattle.vt_laws_trees.proofs.trees.ChangesOfPlace.{moved_rearranged}
use Rattle.vt_laws_trees.proofs.trees.TreesRearranged.{IsRearranged, is_tree-rearranged, own_parent-rearranged}
use Rattle.vt_laws_trees.proofs.layers.layers.CopyingParts.{without_entries_keeps}

-- a tree in which names lead to a directory
pub record IsGood (top : ℕ) (files : FileTree ℕ) : Type 0 where
  pub tree : IsTree files.tree
  pub directory : IsDirectory files.tree top
  pub reached : IsReached files.tree top

-- such a tree after a change, with what else the change keeps
pub record Goes (top : ℕ) (before after : FileTree ℕ) : Type 0 where
  pub good : IsGood top after
  pub numbers : ListsNumbers nat_eq before → ListsNumbers nat_eq after
  pub own_parents : HasOwnParents before.tree → HasOwnParents after.tree

pub goes_none : (top : ℕ) (files : FileTree ℕ) → IsGood top files → Goes top files files
goes_none top files is = record { good = is; numbers = λ n. n; own_parents = λ o. o }

pub goes_both : (top : ℕ) (one middle other : FileTree ℕ) → Goes top one middle → Goes top middle other
    → Goes top one other
goes_both top one middle other a b = record {
  good = b.good;
  numbers = λ n. b.numbers (a.numbers n);
  own_parents = λ o. b.own_parents (a.own_parents o);
}

-- what was reached and keeps a name is reached
pub stays_reached : (before after : Tree ℕ) (number : ℕ) → IsTree after → after.root ≡ before.root
    → IsDirectory after number
    → IsReached before number → ((d : ℕ) (w : List ℕ) → entry_at before d w ≡ Some number → HasName after number)
    → IsReached after number
stays_reached before after number conditions root is reached named =
    ⊎_elim (λ same. ([], ap Some (cc))) (λ has. conditions.reached number is (named has.0 has.1 has.2))
    (reached_named before number reached)

-- in a tree whose names are rearranged, what does not leave its name
pub rearranged_reached : (before after : Tree ℕ) (Leaves : ℕ → Type 0) (Arrives : ℕ → List ℕ → ℕ → Type 0)
    → IsRearranged before after.node Leaves Arrives → IsTree after → after.root ≡ before.root
    → (number : ℕ) → ¬ (Leaves number) → IsDirectory before number → IsReached before number → IsReached after number
rearranged_reached before after Leaves Arrives moves conditions root number stays is reached =
    stays_reached before after number conditions root (moves.directories number ∙ is) reached
    (λ d w e. ⊎_elim (λ leaves. absurd (stays leaves)) (λ entry. (d, w, entry)) (moves.kept d w number e is))

-- A change that does not take the name of a directory
abbrev pub Spares : ℕ → FileTree ℕ → Change ℕ → Type 0
Spares number files (Remove directory name object) = number ≢ object
Spares number files (Move from old to new object) = (number ≢ object) × (entry_at files.tree to new ≢ Some number)
Spares number files change = ⊤

made_reached : (files : FileTree ℕ) (d : ℕ) (w : List ℕ) (c : ℕ) (node : Node ℕ) → IsTree files.tree
    → (may : MayMake files.tree d w c node) → (number : ℕ) → IsDirectory files.tree number → IsReached files.tree number
    → IsDirectory (changed nat_eq files (Make d w c node)).tree number
    × IsReached (changed nat_eq files (Make d w c node)).tree number
made_reached files d w c node conditions may number is reached =
    subst (λ t. IsDirectory t number × IsReached t number) (made_alike files d w c node differ) (
      still,
      stays_reached files.tree (with_it) number (subst IsTree (sym (made_alike files d w c node differ))
          (changes_keep_trees files (Make d w c node) conditions may)) refl still reached (λ e n f. (
            e,
            n,
            entry_kept files.tree d w c node conditions may.name_is_free.in_directory
                may.name_is_free.reached may.name_is_free.free may.number_is_new may.fits e n number f,
          )),
    )
  where
    with_it : Tree ℕ
    with_it = Rattle.vt_spec.specs.Tree.with_object nat_eq files.tree d w c node

    differ : d ≢ c
    differ = used_differs files.tree d w c node conditions may.name_is_free.in_directory may.name_is_free.reached
        may.name_is_free.free may.number_is_new may.fits d (directory_used files.tree d may.name_is_free.in_directory)

    still : IsDirectory with_it number
    still = directory_kept files.tree d w c node conditions may.name_is_free.in_directory may.name_is_free.reached
        may.name_is_free.free may.number_is_new may.fits number is

still_reached : (files : FileTree ℕ) (object : ℕ) (change : Option (Node ℕ) → Option (Node ℕ)) → KeepsPlace change
    → IsTree files.tree → IsTree (changed_node nat_eq files object change).tree
    → (number : ℕ) → IsDirectory files.tree number → IsReached files.tree number
    → IsDirectory (changed_node nat_eq files object change).tree number
    × IsReached (changed_node nat_eq files object change).tree number
still_reached files object change keeps conditions later number is reached =
    let moves = still_rearranged files object change keeps conditions in (
      moves.directories number ∙ is,
      rearranged_reached files.tree _ Nobody Nowhere moves later refl number (λ no. no) is reached,
    )

-- each directory that is reached is so after a change that spares it
pub change_reaches : (files : FileTree ℕ) (change : Change ℕ) → IsTree files.tree → IsProper files.tree change
    → (number : ℕ) → Spares number files change → IsDirectory files.tree number → IsReached files.tree number
    → IsDirectory (changed nat_eq files change).tree number × IsReached (changed nat_eq files change).tree number
change_reaches files (Make d w c node) conditions may number spares is reached =
    made_reached files d w c node conditions may number is reached
change_reaches files (AddName d w object) conditions may number spares is reached =
    let moves = linked_rearranged files conditions may in (
      moves.directories number ∙ is,
      rearranged_reached files.tree (changed nat_eq files (AddName d w object)).tree Nobody Nowhere moves
          (changes_keep_trees files (AddName d w object) conditions may) refl number (λ no. no) is reached,
    )
change_reaches files (Remove d w object) conditions may number spares is reached =
    let moves = removed_rearranged files conditions may in (
      moves.directories number ∙ is,
      rearranged_reached files.tree (changed nat_eq files (Remove d w object)).tree _ Nowhere moves
          (changes_keep_trees files (Remove d w object) conditions may) refl number spares is reached,
    )
change_reaches files (Move from old to new object) conditions may number spares is reached =
    let moves = moved_rearranged files conditions may in (
      moves.directories number ∙ is,
      rearranged_reached files.tree _ _ _ moves (changes_keep_trees files (Move from old to new object) conditions may)
          (root-without_parent files (entry_at files.tree to new)) number (⊎_elim spares.0 spares.1) is reached,
    )
change_reaches files (SetBytes file bytes) conditions may number spares is reached =
    still_reached files file (node_with_bytes bytes) (bytes_keep_place bytes) conditions
    (changes_keep_trees files (SetBytes file bytes) conditions may) number is reached
change_reaches files (SetAttr object attr) conditions may number spares is reached = still_reached files object _
    (attr_keeps_place attr) conditions (changes_keep_trees files (SetAttr object attr) conditions may) number is reached
change_reaches files (SetMark directory opaque) conditions may number spares is reached =
    still_reached files directory (node_with_mark opaque) (mark_keeps_place opaque) conditions
    (changes_keep_trees files (SetMark directory opaque) conditions may) number is reached
change_reaches files (CopyUp object) conditions may number spares is reached = (is, reached)

-- so such a tree goes on to be one
pub goes_by : (top : ℕ) (files : FileTree ℕ) (change : Change ℕ) → IsGood top files → IsProper files.tree change
    → Spares top files change → Goes top files (changed nat_eq files change)
goes_by top files change is may spares =
    let kept = change_reaches files change is.tree may top spares is.directory is.reached in
    record {
      good = record { tree = changes_keep_trees files change is.tree may; directory = kept.0; reached = kept.1 };
      numbers = changes_keep_numbers files change;
      own_parents = λ own. changes_keep_own_parents files change is.tree own may;
    }

-- A directory loses its names, none of which leads to a directory
module _ (files : FileTree ℕ) (r : ℕ) (conditions : IsTree files.tree)
    (leaves : (word : List ℕ) (k : ℕ) → entry_at files.tree r word ≡ Some k
    → is_directory_node (files.tree.node k) ≡ false) where
  abbrev pub bare : FileTree ℕ
  bare = changed_node nat_eq files r node_without_entries

  parent_same : (own : ℕ) (o : Option (Node ℕ)) → parent_in own (node_without_entries o) ≡ parent_in own o
  parent_same own o = grind (arith, common_steps)

  pub bare_there : entries_in (bare.tree.node r) ≡ []
  bare_there = cc (changed_node_there files r node_without_entries, entries-node_without_entries (files.tree.node r))

  pub bare_elsewhere : (d : ℕ) → d ≢ r → bare.tree.node d ≡ files.tree.node d
  bare_elsewhere d differ = elsewhere files r node_without_entries d differ

  -- what is left was there, elsewhere
  pub bare_told : (d : ℕ) (n : List ℕ) (k : ℕ) → entry_at bare.tree d n ≡ Some k
      → (d ≢ r) × (entry_at files.tree d n ≡ Some k)
  bare_told d n k e = ⊎_elim (λ t. none_is_some k (cc (t.1, bare_there)))
      (λ t. (t.1, cc (bare_elsewhere d t.1))) (eqb_tells d r)

  pub bare_kept : (d : ℕ) (n : List ℕ) (k : ℕ) → d ≢ r → entry_at files.tree d n ≡ Some k
      → entry_at bare.tree d n ≡ Some k
  bare_kept d n k differ e = cc (bare_elsewhere d differ)

  pub bare_kind : (k : ℕ) → is_directory_node (bare.tree.node k) ≡ is_directory_node (files.tree.node k)
  bare_kind k = part_stays files r node_without_entries is_directory_node without_entries_keeps.directory k

  pub bare_used : (k : ℕ) → is_some (bare.tree.node k) ≡ is_some (files.tree.node k)
  bare_used k = part_stays files r node_without_entries is_some without_entries_keeps.there k

  bare_rearranged : IsRearranged files.tree bare.tree.node Nobody Nowhere
  bare_rearranged = record {
    directories = bare_kind;
    in_order = λ d. ⊎_elim (λ t. cc (t.1, bare_there)) (λ t. cc (bare_elsewhere d t.1, conditions.in_order d))
        (eqb_tells d r);
    alive = λ d n k e. bare_used k ∙ conditions.alive d n k (bare_told d n k e).1;
    kept = λ d n k e is. ⊎_elim (λ t. absurd (cc (leaves n k (ap (λ m. entry_at files.tree m n) (sym t.1) ∙ e))))
        (λ t. inr (bare_kept d n k t.1 e)) (eqb_tells d r);
    told = λ d n k e is. inr ((bare_told d n k e).1, λ nobody. nobody);
    decided = λ k. inr (λ nobody. nobody);
    arrives_entry = λ d n k nobody. absurd nobody;
    arrives_leaves = λ d n k nobody. nobody;
    arrives_once = λ d other n again k nobody nor. absurd nobody;
    arrives_reached = λ d n k nobody. absurd nobody;
    arrives_parent = λ d n k nobody is. absurd nobody;
    stays_parent = λ k is stays. part_stays files r node_without_entries (parent_in k) (parent_same k) k;
    leaves_how = λ k is nobody. absurd nobody;
    root_stays = λ nobody. nobody;
    fills = λ k empty. ⊎_elim (λ t. inl (cc (t.1, bare_there))) (λ t. inl (cc (bare_elsewhere k t.1))) (eqb_tells k r);
  }

  pub bare_tree : IsTree bare.tree
  bare_tree = is_tree-rearranged files.tree bare.tree.node Nobody Nowhere conditions bare_rearranged

  pub bare_reached : (number : ℕ) → IsDirectory files.tree number → IsReached files.tree number
      → IsReached bare.tree number
  bare_reached number is reached =
      rearranged_reached files.tree bare.tree Nobody Nowhere bare_rearranged bare_tree refl number
      (λ nobody. nobody) is reached

  pub bare_goes : (top : ℕ) → IsGood top files → Goes top files bare
  bare_goes top is = record {
    good = record {
      tree = bare_tree;
      directory = bare_kind top ∙ is.directory;
      reached = bare_reached top is.directory is.reached;
    };
    numbers = numbers_stay files r node_without_entries without_entries_keeps.there;
    own_parents = own_parent-rearranged files.tree bare.tree.node Nobody Nowhere conditions bare_rearranged;
  }
