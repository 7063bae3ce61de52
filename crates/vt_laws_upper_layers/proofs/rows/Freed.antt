-- A name is removed, and then given to something else.
use Rattle.std.proofs.Common.{◌≡◌, refl, sym, ap, ◌∙◌, ℕ, nat_eq, false, List, [], ◌∷◌, ◌++◌, Option, Some, None}
use Rattle.vt_spec.proofs.Common.{AddName, Change, FileTree, Make, Remove, changed, entry_at, is_directory_node, node_with_parent, node_without_entry, without_name}
use Rattle.vt_spec.proofs.NodeChanges.{is_directory-node_without_entry, node_with_parent-no_directory}
use Rattle.vt_laws_trees.proofs.overlays.whole.UpperNames.{freed_made, freed_named, node_without_none, unchanged_node}
use Rattle.vt_laws_trees.proofs.trees.ChangesNodes.{part_stays}
use Rattle.vt_laws_upper_layers.specs.Rows.{AreInOrder, IsPlainAt, LinkedInARow, MadeInARow, after_row, freeing, removal}

-- a row after another
pub after_row-append : (files : FileTree ℕ) (row more : List (Change ℕ))
    → after_row files (row ++ more) ≡ after_row (after_row files row) more
after_row-append files [] more = refl
after_row-append files (first ∷ row) more = after_row-append (changed nat_eq files first) row more

-- what is no directory has no parent to lose
pub removed-plain : (files : FileTree ℕ) (d : ℕ) (w : List ℕ) (object : ℕ)
    → is_directory_node (files.tree.node object) ≡ false
    → changed nat_eq files (Remove d w object) ≡ without_name nat_eq files d w
removed-plain files d w object plain =
    unchanged_node (without_name nat_eq files d w) object (node_with_parent object)
    (node_with_parent-no_directory object ((without_name nat_eq files d w).tree.node object)
    (part_stays files d (node_without_entry w) is_directory_node (is_directory-node_without_entry w) object ∙ plain))

-- a name that nothing has is not taken away
pub without_name-none : (files : FileTree ℕ) → AreInOrder files → (d : ℕ) (w : List ℕ)
    → entry_at files.tree d w ≡ None → without_name nat_eq files d w ≡ files
without_name-none files order d w none =
    unchanged_node files d (node_without_entry w) (node_without_none w (files.tree.node d) (order d) none)

pub freed : (files : FileTree ℕ) → AreInOrder files → (d : ℕ) (w : List ℕ) → IsPlainAt files d w
    → after_row files (freeing files d w) ≡ without_name nat_eq files d w
freed files order d w plain = by (entry_at files.tree d w) refl
  where
    by : (o : Option ℕ) → entry_at files.tree d w ≡ o → after_row files (freeing files d w) ≡ without_name nat_eq files d w
    by None e = ap (λ o. after_row files (removal d w o)) e ∙ sym (without_name-none files order d w e)
    by (Some object) e = ap (λ o. after_row files (removal d w o)) e ∙ removed-plain files d w object (plain object e)

pub made_in_a_row : MadeInARow
made_in_a_row files d number w node order plain differ =
    after_row-append files (freeing files d w) (Make d w number node ∷ [])
    ∙ ap (λ f. changed nat_eq f (Make d w number node)) (freed files order d w plain)
    ∙ freed_made files d w (order d) number node differ

pub linked_in_a_row : LinkedInARow
linked_in_a_row files d object w order plain =
    after_row-append files (freeing files d w) (AddName d w object ∷ [])
    ∙ ap (λ f. changed nat_eq f (AddName d w object)) (freed files order d w plain)
    ∙ freed_named files d w (order d) object
