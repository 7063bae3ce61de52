-- Copies that have births, where names are removed.
use Rattle.std.proofs.Common.{◌≡◌, ◌≢◌, ◌∙◌, ◌∷◌, ◌||◌, [], All, ap, arith, Bool, cond, eqb-true, false, is_some, List, map, nat_eq, None, Option, refl, Some, sym, true, true≢false, ⊎_elim, ℕ}
use Rattle.vt_spec.proofs.Common.{AddName, All-head, All-tail, Change, Entries, FileTree, Inode, Inodes, Make, Move, Node, Remove, SetAttr, SetBytes, SetMark, Tree, changed, changed_node, common_steps, entries_in, inode_with_node, is_among, nat_eq_itself, node_in, node_with_entry, node_with_parent, node_without_entry, none_is_some, unpinned, without_name, ⊤}
use Rattle.vt_spec.specs.Inodes as counting
use Rattle.vt_spec.specs.Language.Changes.Change.{CopyUp}
use Rattle.vt_spec.specs.Lists.{folded, holds_of}
use Rattle.vt_births.specs.Births.{BirthsValue, copy_of, node_of}
use Rattle.vt_copyup.specs.Plans.{CopiesAreThere}
use Rattle.vt_copyup.proofs.Changed.{inodes_after}
use Rattle.vt_fs.specs.FilesystemsValue.{ChangesInodes, FilesystemEntry, Filesystems, entry_of, files_at, inodes_at}
use Rattle.vt_laws_worlds.specs.Merging.UpperChanges.{copy_node}
use Rattle.vt_location.specs.declared.locations.NodeRef.{NodeRef}
use Rattle.vt_location.specs.Locations.{inode_of}
use Rattle.vt_location.specs.Numbers.{inode_number}
use Rattle.vt_upper.specs.CopyLaws.{CopiesStay, CopiesStayHidden, IsCopyOf}
use Rattle.vt_upper.specs.declared.making.Place.{Place}
use Rattle.vt_upper.specs.Leaving.{freed, going, gone_from, let_go, made_over, within_of}
use Rattle.vt_upper.specs.Losing.{IsForgotten}
use Rattle.vt_upper.specs.New.{LosesNoName, keeps_in, leaves_in, start_of}
use Rattle.vt_upper.proofs.RowsAlike.{KeepsNodes, entry_less, parent_set, stays_other}
use Rattle.vt_upper.proofs.RowsReplaced.{Gone, all_gone, freed_alike, freeing_row, goes_with}

-- What is there stays where a node is changed,
module _ (files : FileTree ℕ) (m : ℕ) (there : is_some (files.tree.node m) ≡ true) where
  node_there : (object : ℕ) (change : Option (Node ℕ) → Option (Node ℕ)) → KeepsNodes change
      → is_some ((changed_node nat_eq files object change).tree.node m) ≡ true
  node_there object change keeps = by (nat_eq m object) refl
    where
      some : (o : Option (Node ℕ)) → is_some o ≡ true → is_some (change o) ≡ true
      some None e = absurd (true≢false (sym e))
      some (Some node) e = keeps.some node

      by : (b : Bool) → nat_eq m object ≡ b
          → is_some (cond b (change (files.tree.node object)) (files.tree.node m)) ≡ true
      by true e = some (files.tree.node object)
          (ap (λ n. is_some (files.tree.node n)) (sym (eqb-true m object e)) ∙ there)
      by false e = there

-- and where names are removed
abbrev Removes : Change ℕ → Type 0
Removes (Make directory name number node) = ⊥
Removes (AddName directory name object) = ⊥
Removes (Remove directory name object) = ⊤
Removes (Move from old to new object) = ⊥
Removes (SetBytes file bytes) = ⊥
Removes (SetAttr object attr) = ⊥
Removes (SetMark directory opaque) = ⊥
Removes (CopyUp object) = ⊥

change_there : (files : FileTree ℕ) (m : ℕ) (change : Change ℕ) → Removes change → is_some (files.tree.node m) ≡ true
    → is_some ((changed nat_eq files change).tree.node m) ≡ true
change_there files m (Make directory name number node) removes there = absurd removes
change_there files m (AddName directory name object) removes there = absurd removes
change_there files m (Remove directory name object) removes there =
    node_there (without_name nat_eq files directory name) m
    (node_there files m there directory (node_without_entry name) (entry_less name)) object (node_with_parent object)
    (parent_set object)
change_there files m (Move from old to new object) removes there = absurd removes
change_there files m (SetBytes file bytes) removes there = absurd removes
change_there files m (SetAttr object attr) removes there = absurd removes
change_there files m (SetMark directory opaque) removes there = absurd removes
change_there files m (CopyUp object) removes there = absurd removes

abbrev AllRemove : List (Change ℕ) → Type 0
AllRemove [] = ⊤
AllRemove (change ∷ rest) = Removes change × AllRemove rest

row_there : (row : List (Change ℕ)) (files : FileTree ℕ) (m : ℕ) → AllRemove row → is_some (files.tree.node m) ≡ true
    → is_some ((folded (changed nat_eq) files row).tree.node m) ≡ true
row_there [] files m remove there = there
row_there (change ∷ rest) files m remove there =
    row_there rest (changed nat_eq files change) m remove.1 (change_there files m change remove.0 there)

all_remove : (d : ℕ) (name : List ℕ) (had : Option ℕ) (within : Entries ℕ) → AllRemove (freeing_row d name had within)
all_remove d name None within = tt
all_remove d name (Some h) [] = (tt, tt)
all_remove d name (Some h) (e ∷ within) = (tt, all_remove d name (Some h) within)

-- so it does where an inode is made,
make_there : (inodes : Inodes ℕ) (d o : ℕ) (name : List ℕ) (node : Node ℕ) (m : ℕ)
    → is_some (node_in (inodes.inode m)) ≡ true
    → is_some (node_in ((counting.changed nat_eq inodes (Make d name o node)).inode m)) ≡ true
make_there inodes d o name node m there = by (nat_eq m o) (nat_eq m d) refl
  where
    with_in : (inode : Option (Inode ℕ)) → is_some (node_in inode) ≡ true
        → is_some (node_in (inode_with_node (node_with_entry name o (node_in inode)) inode)) ≡ true
    with_in None e = absurd (true≢false (sym e))
    with_in (Some inode) e = refl

    by : (new here : Bool) → nat_eq m d ≡ here
        → is_some (node_in (cond new (Some (record { node = node; uses = 1 })) (cond here (inode_with_node
        (node_with_entry name o (node_in (inodes.inode d))) (inodes.inode d)) (inodes.inode m)))) ≡ true
    by true here e = refl
    by false true e = with_in (inodes.inode d)
        (ap (λ n. is_some (node_in (inodes.inode n))) (sym (eqb-true m d e)) ∙ there)
    by false false e = there

-- and where other inodes are let go
let_go_there : (gone : ℕ → Bool) (held : List ℕ) (inodes : Inodes ℕ) (m : ℕ) → All (Gone gone) held → gone m ≡ false
    → (let_go held inodes).inode m ≡ inodes.inode m
let_go_there gone [] inodes m goes stays = refl
let_go_there gone (n ∷ held) inodes m goes stays =
    let_go_there gone held (unpinned nat_eq inodes n) m (All-tail (Gone gone) n held goes) stays
    ∙ ap (λ b. cond b (counting.used_once_less (inodes.inode n)) (inodes.inode m))
    (stays_other gone m n stays (All-head (Gone gone) n held goes))

-- what loses no name does not go
loses_none : (tree : Tree ℕ) (had : Option ℕ) (inode : ℕ) → LosesNoName tree had inode
    → goes_with had (within_of tree had) inode ≡ false
loses_none tree None inode loses = refl
loses_none tree (Some h) inode loses =
    ap (λ b. b || is_among nat_eq inode (map (λ (e : List ℕ × ℕ). e.1) (entries_in (tree.node h))))
    (other (nat_eq inode h) refl) ∙ loses.1
  where
    other : (b : Bool) → nat_eq inode h ≡ b → nat_eq inode h ≡ false
    other false e = e
    other true e = absurd (loses.0 (sym (eqb-true inode h e)))

-- a birth that is left was there, and is not that of the node
left_birth : (node : NodeRef) (old new : BirthsValue) → IsForgotten node old new → (slot : ℕ) (other : NodeRef)
    → node_of new slot ≡ Some other → (node_of old slot ≡ Some other) × (copy_of old node ≢ Some slot)
left_birth node old new is slot other e = by (holds_of (λ s. nat_eq s slot) (copy_of old node)) refl
  where
    by : (b : Bool) → holds_of (λ s. nat_eq s slot) (copy_of old node) ≡ b
        → (node_of old slot ≡ Some other) × (copy_of old node ≢ Some slot)
    by true h = none_is_some other (sym (is.nodes slot ∙ ap (λ b. cond b None (node_of old slot)) h) ∙ e)
    by false h = (
      sym (is.nodes slot ∙ ap (λ b. cond b None (node_of old slot)) h) ∙ e,
      λ same. true≢false (sym (ap (holds_of (λ s. nat_eq s slot)) same ∙ nat_eq_itself slot) ∙ h),
    )

-- a filesystem with an inode exists
filesystem_there : (trees : Filesystems) (f n : ℕ) → is_some ((files_at trees f).tree.node n) ≡ true
    → is_some (entry_of trees f) ≡ true
filesystem_there trees f n there = by (entry_of trees f) refl
  where
    by : (o : Option FilesystemEntry) → entry_of trees f ≡ o → is_some (entry_of trees f) ≡ true
    by None e = grind (arith, common_steps)
    by (Some entry) e = ap is_some e

module _ (place : Place) (between : Filesystems) (births births_after : BirthsValue) (node : NodeRef)
    (copies : CopiesAreThere between (start_of place).filesystem.count births)
    (is_copy : IsCopyOf (files_at between (start_of place).filesystem.count).tree place births node)
    (forgotten : IsForgotten node births births_after) where
  abbrev f : ℕ
  f = (start_of place).filesystem.count

  abbrev had : Option ℕ
  had = leaves_in place

  abbrev tree : Tree ℕ
  tree = (files_at between f).tree

  abbrev within : Entries ℕ
  within = within_of tree had

  -- a copy whose birth is left is there, and loses no name
  left_copy : (slot : ℕ) (other : NodeRef) → node_of births_after slot ≡ Some other
      → (is_some (tree.node (inode_number f slot)) ≡ true) × (goes_with had within (inode_number f slot) ≡ false)
  left_copy slot other e =
      let left = left_birth node births births_after forgotten slot other e in (
        copies slot other left.0,
        ⊎_elim (λ same. absurd (left.1 same)) (λ loses. loses_none tree had (inode_number f slot) loses)
            (is_copy slot other left.0),
      )

  -- so it is there once names are gone
  freed_there : (d : ℕ) (name : List ℕ) (m : ℕ) → is_some (tree.node m) ≡ true → goes_with had within m ≡ false
      → is_some (node_in ((freed d name had within (inodes_at between f)).inode m)) ≡ true
  freed_there d name m there stays =
      ap is_some (freed_alike d name had within (inodes_at between f) (files_at between f) (λ n s. refl) m stays)
      ∙ row_there (freeing_row d name had within) (files_at between f) m (all_remove d name had within) there

  pub gone_there : (d : ℕ) (name : List ℕ) (after : Filesystems)
      → ChangesInodes f (gone_from (keeps_in place) name had within d) between after → CopiesAreThere after f births_after
  gone_there d name after changes slot other e =
      let n = inode_number f slot in
      let left = left_copy slot other e in
      let all = inodes_at between f in
      ap (λ (inodes : Inodes ℕ). is_some (node_in (inodes.inode n)))
      (inodes_after f (gone_from (keeps_in place) name had within d) between after changes
      (filesystem_there between f n left.0))
      ∙ ap (λ inode. is_some (node_in inode)) (let_go_there (goes_with had within) (going (keeps_in place) had within)
      (freed d name had within all) n (all_gone d name had within all (files_at between f) (λ m s. refl) (keeps_in place))
      left.1)
      ∙ freed_there d name n left.0 left.1

  pub made_there : (d o : ℕ) (name : List ℕ) (white : Node ℕ) (after : Filesystems)
      → ChangesInodes f (made_over (keeps_in place) name white had within d o) between after
      → CopiesAreThere after f births_after
  made_there d o name white after changes slot other e =
      let n = inode_number f slot in
      let left = left_copy slot other e in
      let all = inodes_at between f in
      ap (λ (inodes : Inodes ℕ). is_some (node_in (inodes.inode n)))
      (inodes_after f (made_over (keeps_in place) name white had within d o) between after changes
      (filesystem_there between f n left.0))
      ∙ ap (λ inode. is_some (node_in inode)) (let_go_there (goes_with had within) (going (keeps_in place) had within)
      (counting.changed nat_eq (freed d name had within all) (Make d name o white)) n
      (all_gone d name had within all (files_at between f) (λ m s. refl) (keeps_in place)) left.1)
      ∙ make_there (freed d name had within all) d o name white n (freed_there d name n left.0 left.1)

pub copies_stay : CopiesStay
copies_stay place name trees births after between births_after node copies gone is_copy forgotten =
    gone_there place gone.between between births_after node (gone.there copies) is_copy forgotten (inode_of gone.directory)
    name after gone.removing

pub copies_stay_hidden : CopiesStayHidden
copies_stay_hidden mounter place name trees births after between births_after node white copies new is_copy forgotten =
    made_there place new.between between births_after node (new.there copies) is_copy forgotten (inode_of new.directory)
    (inode_of white) name (copy_node (inode_of new.directory) (Rattle.vt_spec.specs.Machine.CopyUp.whiteout_of mounter))
    after new.making
