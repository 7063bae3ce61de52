-- What is left where inodes of plain trees are looked at: mounts, groups, filesystems, and every other inode.
use Rattle.std.proofs.Common.{arith, ◌≡◌, refl, ◌∙◌, ◌⊎◌, inl, inr, ⊎_elim, ℕ, eqb-true, List, [], ◌∷◌, map, Option, None}
use Rattle.vt_spec.proofs.Common.{Among, Filesystem, Node, World, and_parts, common_steps, contains_from_among}
use Rattle.vt_laws_later_calls.proofs.Common.{Inode, inode_in, is_plain, let_go_in, let_go_in_of, let_go_plain, numbered}
use Rattle.vt_laws_later_calls.specs.Whiteouts.{LeavesAllBut}

-- nothing changes but filesystems
only_filesystems : (list : List Inode) (world : World ℕ)
    → let_go_plain world list ≡ record world { filesystems = (let_go_plain world list).filesystems }
only_filesystems [] world = refl
only_filesystems (inode ∷ rest) world = only_filesystems rest (let_go_in is_plain world inode)

module _ (world : World ℕ) (inode : Inode) where
  abbrev change : Filesystem ℕ → Filesystem ℕ
  change = let_go_in_of is_plain world inode

  same_number : (f : Filesystem ℕ) → (change f).number ≡ f.number
  same_number f = grind (arith, common_steps)

  same_numbers : (list : List (Filesystem ℕ)) → map (λ (f : Filesystem ℕ). f.number) (map change list)
      ≡ map (λ (f : Filesystem ℕ). f.number) list
  same_numbers [] = refl
  same_numbers (f ∷ rest) = cc (same_number f, same_numbers rest)

  -- what becomes of an inode: it stays, or it is the one that is looked at, and goes
  module _ (filesystem number : ℕ) where
    abbrev StaysOrGoes : Option (Node ℕ) → Option (Node ℕ) → Type 0
    StaysOrGoes was now = (now ≡ was) ⊎ (((filesystem, number) ≡ inode) × (now ≡ None))

    in_one : (f : Filesystem ℕ) → filesystem ≡ f.number
        → StaysOrGoes (f.files.tree.node number) ((change f).files.tree.node number)
    in_one f at = grind (arith, common_steps, eqb-true, and_parts)

    in_list : (list : List (Filesystem ℕ)) → StaysOrGoes ((numbered filesystem list).files.tree.node number)
        ((numbered filesystem (map change list)).files.tree.node number)
    in_list [] = inl refl
    in_list (first ∷ rest) = grind (arith, common_steps, eqb-true, same_number, in_one, in_list rest)

-- one after the other
numbers_stay : (list : List Inode) (world : World ℕ)
    → map (λ (f : Filesystem ℕ). f.number) (let_go_plain world list).filesystems
    ≡ map (λ (f : Filesystem ℕ). f.number) world.filesystems
numbers_stay [] world = refl
numbers_stay (inode ∷ rest) world =
    numbers_stay rest (let_go_in is_plain world inode) ∙ same_numbers world inode world.filesystems

inodes_stay : (list : List Inode) (world : World ℕ) (filesystem number : ℕ)
    → (inode_in (let_go_plain world list) filesystem number ≡ inode_in world filesystem number)
    ⊎ (Among (filesystem, number) list × (inode_in (let_go_plain world list) filesystem number ≡ None))
inodes_stay [] world filesystem number = inl refl
inodes_stay (inode ∷ rest) world filesystem number = ⊎_elim (λ same. ⊎_elim (λ stays. inl (cc))
    (λ goes. inr (inl goes.0, same ∙ goes.1)) (in_list world inode filesystem number world.filesystems))
    (λ gone. inr (inr gone.0, gone.1)) (inodes_stay rest _ filesystem number)

pub leaves_all_but : (world : World ℕ) (list : List Inode) → LeavesAllBut list world (let_go_plain world list)
leaves_all_but world list =
    grind (arith, common_steps, only_filesystems, numbers_stay, contains_from_among, inodes_stay)
