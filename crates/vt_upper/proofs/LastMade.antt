-- The inode in which copies end.
use Rattle.std.proofs.Common.{◌≡◌, ◌∙◌, ◌∷◌, [], ap, cond, List, map, nat_eq, Option, refl, Some, subst, sym, ℕ}
use Rattle.vt_spec.proofs.Common.{Content, Inodes, Make, Node, is_directory_node, nat_eq_itself, node_in}
use Rattle.vt_spec.specs.Inodes as counting
use Rattle.vt_spec.specs.Tree.Content.{Directory, Regular, Symlink, Whiteout}
use Rattle.vt_copyup.specs.declared.plans.Piece.{Piece}
use Rattle.vt_copyup.specs.declared.plans.Plan.{Plan}
use Rattle.vt_copyup.specs.declared.plans.PlannedCopy.{PlannedCopy}
use Rattle.vt_copyup.specs.Made.{AreMade, Made, last_made, made_copies, with_copies}
use Rattle.vt_copyup.specs.Plans.{FirstFits, IsReady, copies_of, in_turn}
use Rattle.vt_copyup.proofs.Changed.{inodes_after, is_there}
use Rattle.vt_births.specs.Births.{BirthsValue}
use Rattle.vt_fs.specs.FilesystemsValue.{Filesystems, files_at, inodes_at}
use Rattle.vt_laws_worlds.specs.Merging.UpperChanges.{copy_node}
use Rattle.vt_location.specs.declared.locations.InodeRef.{InodeRef}
use Rattle.vt_location.specs.declared.numbers.FilesystemId.{FilesystemId}
use Rattle.vt_location.specs.Locations.{inode_of}
use Rattle.vt_location.specs.Numbers.{inode_number}
use Rattle.vt_upper.specs.Changes.{IsFit}
use Rattle.vt_upper.specs.Copies.{IsLastFit, IsLastOf}
use Rattle.vt_upper.specs.declared.changing.ObjectChange.{ObjectChange}
use Rattle.vt_upper.specs.declared.changing.ObjectChange.TheVariants.{Attr, Bytes, Copied}

-- a copy is a directory if that is copied
pub copy_kind : (parent : ℕ) (node : Node ℕ) → is_directory_node (Some (copy_node parent node)) ≡ is_directory_node (Some node)
copy_kind parent node = by node.content
  where
    by : (content : Content ℕ) → is_directory_node (Some (copy_node parent (record { attr = node.attr; content = content })))
        ≡ is_directory_node (Some (record { attr = node.attr; content = content }))
    by (Directory old entries opaque) = refl
    by (Regular bytes) = refl
    by (Symlink text) = refl
    by Whiteout = refl

-- so what is fit for an object is fit for its copy
pub fit_of : (change : ObjectChange) (a b : Option (Node ℕ)) → is_directory_node a ≡ is_directory_node b
    → IsFit change a → IsFit change b
fit_of Copied a b same fit = tt
fit_of (Attr attr) a b same fit = tt
fit_of (Bytes bytes) a b same fit = (sym same ∙ fit.0, fit.1)

-- with copies after it, nothing else is asked of an inode
any_node : (IsCopied IsThere : Option (Node ℕ) → Type 0) (piece : Piece) (rest : List Piece) (a b : Option (Node ℕ))
    → IsLastOf IsCopied IsThere (piece ∷ rest) a → IsLastOf IsCopied IsThere (piece ∷ rest) b
any_node IsCopied IsThere piece [] a b is = is
any_node IsCopied IsThere piece (next ∷ rest) a b is = any_node IsCopied IsThere next rest a b is

module _ (IsCopied IsThere : Option (Node ℕ) → Type 0)
    (made_so : (parent : ℕ) (node : Node ℕ) → IsCopied (Some node) → IsThere (Some (copy_node parent node))) where
  module _ (f : FilesystemId) where
    abbrev at : ℕ → ℕ
    at slot = inode_number f.count slot

    last_in : (pieces : List Piece) (made : List Made) (inodes : Inodes ℕ) (slot : ℕ)
        → map (λ (one : Made). one.copy) made ≡ copies_of pieces
        → IsLastOf IsCopied IsThere pieces (node_in (inodes.inode (at slot)))
        → IsThere (node_in ((with_copies inodes (at slot) (made_copies f.count made)).inode
        (inode_of (last_made (record { filesystem = f; slot = slot }) made))))
    last_in [] [] inodes slot same is = is
    last_in [] (one ∷ made) inodes slot same is = absurd cc
    last_in (piece ∷ rest) [] inodes slot same is = absurd cc
    last_in (piece ∷ []) (one ∷ other ∷ made) inodes slot same is = absurd cc
    last_in (piece ∷ []) (one ∷ []) inodes slot same is =
        let first : one.copy ≡ piece.copy = cc in
        let node : Node ℕ = copy_node (at slot) one.copy.node in
        let there : node_in (cond (nat_eq (at one.slot) (at one.slot)) (Some (record { node = node; uses = 1 }))
        ((counting.with_changed nat_eq inodes (at slot)
        (Rattle.vt_spec.specs.Tree.node_with_entry one.copy.name.items (at one.slot))).inode (at one.slot))) ≡ Some node =
        ap (λ b. node_in (cond b (Some (record { node = node; uses = 1 }))
        ((counting.with_changed nat_eq inodes (at slot)
        (Rattle.vt_spec.specs.Tree.node_with_entry one.copy.name.items (at one.slot))).inode (at one.slot))))
        (nat_eq_itself (at one.slot)) in
        subst IsThere (sym there) (made_so (at slot) one.copy.node
        (subst (λ (copy : PlannedCopy). IsCopied (Some copy.node)) (sym first) is))
    last_in (piece ∷ next ∷ rest) (one ∷ made) inodes slot same is =
        let after : map (λ (m : Made). m.copy) made ≡ copies_of (next ∷ rest) = cc in
        last_in (next ∷ rest) made (counting.changed nat_eq inodes (Make (at slot) one.copy.name.items (at one.slot)
        (copy_node (at slot) one.copy.node))) one.slot after
        (any_node IsCopied IsThere next rest (node_in (inodes.inode (at slot))) _ is)

  module _ (plan : Plan) (trees : Filesystems) (births : BirthsValue) (room : ℕ)
      (ready : IsReady plan trees births room) (after : Filesystems)
      (births_after : BirthsValue) (object : InodeRef)
      (are : AreMade plan.directory (copies_of (in_turn plan)) trees births after births_after object) where
    abbrev count : ℕ
    count = plan.directory.filesystem.count

    -- what was said of the last copy holds of the inode in which copies end
    pub last_is : (node : Option (Node ℕ)) → node ≡ (files_at trees count).tree.node (inode_of plan.directory)
        → IsLastOf IsCopied IsThere (in_turn plan) node
        → IsThere ((files_at after count).tree.node (inode_of object))
    last_is node here said = by (in_turn plan) refl ready.first said
      where
        by : (pieces : List Piece) → in_turn plan ≡ pieces → FirstFits pieces room plan.directory trees
            → IsLastOf IsCopied IsThere pieces node
            → IsThere ((files_at after count).tree.node (inode_of object))
        by [] e first is = none are.made (are.all ∙ ap copies_of e) are.tree are.is_last
          where
            none : (made : List Made) → map (λ (one : Made). one.copy) made ≡ []
                → (files_at after count).tree ≡ (Rattle.vt_laws_worlds.specs.Seen.CopySteps.made_in_turn
                (files_at trees count) (inode_of plan.directory) (made_copies count made)).tree
                → object ≡ last_made plan.directory made
                → IsThere ((files_at after count).tree.node (inode_of object))
            none [] same tree last = subst IsThere (here ∙ (λ i. (sym tree i).node (inode_of (sym last i)))) is
            none (one ∷ made) same tree last = absurd cc
        by (piece ∷ rest) e first is =
            let inodes = inodes_after count
            (λ inodes. with_copies inodes (inode_of plan.directory) (made_copies count are.made))
            trees after are.inodes (is_there trees count (inode_of plan.directory) first.there) in
            subst IsThere (λ i. node_in ((sym inodes i).inode (inode_of (sym are.is_last i))))
            (last_in plan.directory.filesystem (piece ∷ rest) are.made (inodes_at trees count) plan.directory.slot
            (are.all ∙ ap copies_of e) (any_node IsCopied IsThere piece rest node _ is))

-- the object is fit once it was copied
pub fit_last : (change : ObjectChange) (plan : Plan) (trees : Filesystems) (births : BirthsValue) (room : ℕ)
    → IsReady plan trees births room → IsLastFit (IsFit change) plan trees → (after : Filesystems)
    (births_after : BirthsValue) (object : InodeRef)
    → AreMade plan.directory (copies_of (in_turn plan)) trees births after births_after object
    → IsFit change ((files_at after plan.directory.filesystem.count).tree.node (inode_of object))
fit_last change plan trees births room ready fit after births_after object are =
    last_is (IsFit change) (IsFit change) (λ parent node. fit_of change (Some node) (Some (copy_node parent node))
    (sym (copy_kind parent node))) plan trees births room ready after births_after object are _ refl fit
