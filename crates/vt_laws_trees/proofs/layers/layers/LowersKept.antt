-- What each change of a tree leaves as it was.
use Rattle.std.proofs.Common.{arith, ◌≡◌, refl, sym, ap, subst, ◌∙◌, ℕ, nat_eq, false, cond, List, ⊎_elim, Option, Some, None}
use Rattle.vt_spec.proofs.Common.{AddName, Change, CopyUp, FileTree, Make, Move, Node, Remove, SetAttr, SetBytes, SetMark, changed, changed_node, common_steps, entries_in, entry_named, eqb_tells, is_among, node_with_attr, node_with_bytes, node_with_entry, node_with_mark, node_with_parent, node_without_entry, or_false_left, or_false_right, with_inode, with_moved, with_name, without_name, without_parent}
use Rattle.vt_laws_trees.specs.Layers.Layers.Untouched.{IsKept, inodes_changed}

pub kept_itself : (inode : Option (Node ℕ)) → IsKept inode inode
kept_itself inode = record { there = refl; kind = refl; attr = refl; names = refl; bytes = refl; mark = refl }

pub kept_same : (old new : Option (Node ℕ)) → new ≡ old → IsKept old new
kept_same old new e = grind (arith, common_steps)

pub kept_both : (old middle new : Option (Node ℕ)) → IsKept old middle → IsKept middle new → IsKept old new
kept_both old middle new a b = grind (arith, common_steps)

-- another parent leaves an inode as it was
kept_parent : (parent : ℕ) (node : Option (Node ℕ)) → IsKept node (node_with_parent parent node)
kept_parent parent None = kept_itself None
kept_parent parent (Some node) = grind (arith, common_steps)

-- a change of one inode leaves the others as they were
pub kept_elsewhere : (files : FileTree ℕ) (number : ℕ) (change : Option (Node ℕ) → Option (Node ℕ)) (inode : ℕ)
    → nat_eq inode number ≡ false → (changed_node nat_eq files number change).tree.node inode ≡ files.tree.node inode
kept_elsewhere files number change inode e =
    ap (λ b. cond b (change (files.tree.node number)) (files.tree.node inode)) e

-- and one that keeps that inode keeps all
pub kept_everywhere : (files : FileTree ℕ) (number : ℕ) (change : Option (Node ℕ) → Option (Node ℕ))
    → ((node : Option (Node ℕ)) → IsKept node (change node)) → (inode : ℕ)
    → IsKept (files.tree.node inode) ((changed_node nat_eq files number change).tree.node inode)
kept_everywhere files number change keeps inode = ⊎_elim
    (λ t. subst (λ b. IsKept (files.tree.node inode) (cond b (change (files.tree.node number)) (files.tree.node inode)))
    (sym t.0) (subst (λ n. IsKept (files.tree.node n) (change (files.tree.node number))) (sym t.1) (keeps _)))
    (λ t. kept_same (files.tree.node inode) _ (kept_elsewhere files number change inode t.0)) (eqb_tells inode number)

pub kept_by_parent : (files : FileTree ℕ) (number parent inode : ℕ)
    → IsKept (files.tree.node inode) ((changed_node nat_eq files number (node_with_parent parent)).tree.node inode)
kept_by_parent files number parent inode = kept_everywhere files number _ (kept_parent parent) inode

pub kept_without_parent : (files : FileTree ℕ) (object : Option ℕ) (inode : ℕ)
    → IsKept (files.tree.node inode) ((without_parent nat_eq files object).tree.node inode)
kept_without_parent files None inode = kept_itself (files.tree.node inode)
kept_without_parent files (Some object) inode = kept_by_parent files object object inode

pub kept_moved : (files : FileTree ℕ) (from : ℕ) (old : List ℕ) (to : ℕ) (new : List ℕ) (object inode : ℕ)
    → nat_eq inode from ≡ false → nat_eq inode to ≡ false
    → IsKept (files.tree.node inode) ((with_moved nat_eq files from old to new object).tree.node inode)
kept_moved files from old to new object inode f t =
    let freed = without_parent nat_eq files (entry_named new (entries_in (files.tree.node to))) in
    let left = without_name nat_eq freed from old in
    let named = with_name nat_eq left to new object in
    kept_both (files.tree.node inode) (named.tree.node inode) _ (kept_both (files.tree.node inode) _ _
    (kept_without_parent files _ inode) (kept_same _ _ (kept_elsewhere left to (node_with_entry new object) inode t
    ∙ kept_elsewhere freed from (node_without_entry old) inode f))) (kept_by_parent named object to inode)

pub others_stay : (files : FileTree ℕ) (change : Change ℕ) (inode : ℕ)
    → is_among nat_eq inode (inodes_changed change) ≡ false
    → IsKept (files.tree.node inode) ((changed nat_eq files change).tree.node inode)
others_stay files (Make directory name number node) inode e = kept_same (files.tree.node inode) _
    (kept_elsewhere (with_inode nat_eq files number node) directory (node_with_entry name number) inode
    (or_false_left _ false (or_false_right (nat_eq inode number) _ e))
    ∙ ap (λ b. cond b (Some node) (files.tree.node inode)) (or_false_left (nat_eq inode number) _ e))
others_stay files (AddName directory name object) inode e = kept_same (files.tree.node inode) _
    (kept_elsewhere files directory (node_with_entry name object) inode (or_false_left _ false e))
others_stay files (Remove directory name object) inode e = kept_both (files.tree.node inode) _ _
    (kept_same _ _ (kept_elsewhere files directory (node_without_entry name) inode (or_false_left _ false e)))
    (kept_by_parent (without_name nat_eq files directory name) object object inode)
others_stay files (Move from old to new object) inode e =
    kept_moved files from old to new object inode (or_false_left (nat_eq inode from) _ e)
    (or_false_left _ false (or_false_right (nat_eq inode from) _ e))
others_stay files (SetBytes file bytes) inode e = kept_same (files.tree.node inode) _
    (kept_elsewhere files file (node_with_bytes bytes) inode (or_false_left _ false e))
others_stay files (SetAttr object attr) inode e = kept_same (files.tree.node inode) _
    (kept_elsewhere files object (node_with_attr attr) inode (or_false_left _ false e))
others_stay files (SetMark directory opaque) inode e = kept_same (files.tree.node inode) _
    (kept_elsewhere files directory (node_with_mark opaque) inode (or_false_left _ false e))
others_stay files (CopyUp object) inode e = kept_itself (files.tree.node inode)
