-- Changes that move no path of a layer: bytes, attributes and marks, and changes elsewhere in its tree.
use Rattle.std.proofs.Common.{arith, ◌≡◌, refl, sym, ap, subst, ◌∙◌, true≢false, ne_eqb, ℕ, nat_eq, true, false, List, [], ◌∷◌, Option, Some, None, is_some, option_and_then}
use Rattle.vt_spec.proofs.Common.{Change, FileTree, Node, Tree, changed, changed_node, common_steps, entries-node_with_attr, entries-node_with_bytes, entries-node_with_mark, entries_in, entries_of, entry_at, entry_named, is_among, led, node_with_attr, node_with_bytes, node_with_mark, then_some, with_inode}
use Rattle.vt_laws_trees.specs.Layers.Layers.Mounted.{IsAlike}
use Rattle.vt_laws_trees.specs.Layers.Layers.Untouched.{IsKept, inodes_changed}
use Rattle.vt_laws_trees.specs.Layers.Layers.Views.{AttrChangesOneInode, BytesChangeOneInode, ElsewhereKeepsView, MakesWithNewNumber, MarkChangesOneInode, old_inodes_changed}
use Rattle.vt_laws_trees.proofs.layers.layers.LowersKept.{others_stay}
use Rattle.vt_laws_trees.proofs.layers.layers.ShownDirectories.{led_is_there}
use Rattle.vt_laws_trees.proofs.layers.views.Entries.{entries_stay}
use Rattle.vt_laws_trees.proofs.layers.views.Names.{alike_kept, alike_same, inode_entries}

-- where entries are as they were at all that a directory leads to, so are paths
pub led_where : (before after : Tree ℕ) (path : List (List ℕ)) (start : ℕ)
    → ((way : List (List ℕ)) (inode : ℕ) → led before start way ≡ Some inode → (word : List ℕ)
    → entry_at after inode word ≡ entry_at before inode word) → led after start path ≡ led before start path
led_where before after [] start same = refl
led_where before after (word ∷ rest) start same = cc (same [] start refl word, by _ refl (led_where before after rest))
  where
    by : (o : Option ℕ) → entry_at before start word ≡ o
        → ((next : ℕ) → ((way : List (List ℕ)) (inode : ℕ) → led before next way ≡ Some inode → (word : List ℕ)
        → entry_at after inode word ≡ entry_at before inode word) → led after next rest ≡ led before next rest)
        → option_and_then (λ next. led after next rest) o ≡ option_and_then (λ next. led before next rest) o
    by None e later = refl
    by (Some next) e later = later next (λ way inode l. same (word ∷ way) inode (cc))

-- a change of one inode that keeps its entries
stays_led : (files : FileTree ℕ) (number : ℕ) (change : Option (Node ℕ) → Option (Node ℕ))
    → ((o : Option (Node ℕ)) → entries_in (change o) ≡ entries_in o) → (top : ℕ) (path : List (List ℕ))
    → led (changed_node nat_eq files number change).tree top path ≡ led files.tree top path
stays_led files number change keeps top path =
    led_where files.tree (changed_node nat_eq files number change).tree path top
    (λ way inode l word. ap (entry_named word) (entries_stay files number change keeps inode))

-- so does a new inode without names in it, before it has a name
pub inode_moves_no_path : (files : FileTree ℕ) (number : ℕ) (node : Node ℕ) → files.tree.node number ≡ None
    → entries_of node.content ≡ [] → (top : ℕ) (path : List (List ℕ))
    → led (with_inode nat_eq files number node).tree top path ≡ led files.tree top path
inode_moves_no_path files number node vacant bare top path =
    led_where files.tree (with_inode nat_eq files number node).tree path top
    (λ way inode l word. ap (entry_named word) (inode_entries files number node vacant bare inode))

pub bytes_change_one_inode : BytesChangeOneInode
bytes_change_one_inode files top file bytes =
    (stays_led files file (node_with_bytes bytes) (entries-node_with_bytes bytes) top, λ inode. refl)

pub attr_changes_one_inode : AttrChangesOneInode
attr_changes_one_inode files top object attr =
    (stays_led files object (node_with_attr attr) (entries-node_with_attr attr) top, λ inode. refl)

pub mark_changes_one_inode : MarkChangesOneInode
mark_changes_one_inode files top directory opaque =
    (stays_led files directory (node_with_mark opaque) (entries-node_with_mark opaque) top, λ inode. refl)

-- what is there and is not changed has no new number
among_the_old : (files : FileTree ℕ) (change : Change ℕ) → MakesWithNewNumber files.tree change → (inode : ℕ)
    → is_some (files.tree.node inode) ≡ true → is_among nat_eq inode (old_inodes_changed change) ≡ false
    → is_among nat_eq inode (inodes_changed change) ≡ false
among_the_old files change new inode there e = grind (arith, common_steps, ne_eqb, true≢false)

pub elsewhere_keeps_view : ElsewhereKeepsView
elsewhere_keeps_view files change top tree is new apart path = (leads, by (led files.tree top path) refl)
  where
    kept : (way : List (List ℕ)) (inode : ℕ) → led files.tree top way ≡ Some inode
        → IsKept (files.tree.node inode) ((changed nat_eq files change).tree.node inode)
    kept way inode l = others_stay files change inode (among_the_old files change new inode
        (led_is_there (record { tree = files.tree; directory = top }) tree is way inode l) (apart way inode l))

    leads : led (changed nat_eq files change).tree top path ≡ led files.tree top path
    leads = led_where files.tree (changed nat_eq files change).tree path top
        (λ way inode l word. ap (entry_named word) (kept way inode l).names)

    by : (o : Option ℕ) → led files.tree top path ≡ o → IsAlike (then_some (led files.tree top path) files.tree.node)
        (then_some (led (changed nat_eq files change).tree top path) (changed nat_eq files change).tree.node)
    by None e = subst (λ o. IsAlike (then_some (led files.tree top path) files.tree.node)
        (then_some o (changed nat_eq files change).tree.node)) (sym (leads ∙ e))
        (subst (λ o. IsAlike (then_some o files.tree.node) None) (sym e) (alike_same None None refl))
    by (Some inode) e = subst (λ o. IsAlike (then_some (led files.tree top path) files.tree.node)
        (then_some o (changed nat_eq files change).tree.node)) (sym (leads ∙ e))
        (subst (λ o. IsAlike (then_some o files.tree.node) ((changed nat_eq files change).tree.node inode)) (sym e)
        (alike_kept (files.tree.node inode) _ (kept path inode e)))
