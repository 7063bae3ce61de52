-- The world that a granted call leaves which changed a tree: mounts are as they were, and each inode is as the change
-- left it, or is gone.
use Rattle.std.proofs.Common.{arith, ◌≡◌, refl, sym, ap, subst, ◌∙◌, inl, inr, ◌⊎◌, ⊎_elim, true≢false, ℕ, nat_eq, eqb-true, Bool, true, false, cond, ◌++◌, List, [], ◌∷◌, map, Some, None, is_some}
use Rattle.vt_spec.proofs.Common.{ToChange, cases_Bool, Answer, Call, Change, Credentials, FileTree, Filesystem, Fresh, IsWorld, Location, TaskName, World, apply, changed, common_steps, denial, entries_in, entry_named, files_at, filesystem_numbered, filesystems_changed, folded, is_among, is_directory_node, is_overlay, mount_at, node_allows, node_at, numbers_raised, parent_in, policy, raised, settled, symlink_text, with_change}
use Rattle.vt_laws_later_calls.proofs.Common.{SeesTo, given_permits_are_seen_to, unsettled_of, file_trees, numbered_all, Deny, FilesBy, Inode, IsFileTree, IsListedTree, IsPlain, MayChange, W6, change_of, changes_keep_numbers, changes_keep_trees, file_changes_let_go, given_changes_are_proper, inodes_lost, is_plain, let_go_all_inodes, let_go_in, let_go_in_of, mounts-with_change, names_lost, namespace_if, number_if, numbered, numbers_raised_are, plain_numbered, raising_numbers_keeps_world, same_files, settling_leaves_a_world, task_if, uppers_of, without_inode_of, worlds_are_settled}
use Rattle.vt_laws_trees.proofs.calls.inodes.InodesSettled.{settled_holds}
use Rattle.vt_laws_later_calls.proofs.Changed.{files_changed, files_other}
use Rattle.vt_laws_later_calls.proofs.Granted.{HasSucceeded}
use Rattle.vt_laws_later_calls.proofs.OpenedNew.{given_of}
use Rattle.vt_laws_later_calls.proofs.Stays.{spent_unsettled}
use Rattle.vt_laws_later_calls.proofs.WaysChanges.{RightsStay, TreeStays}
use Rattle.vt_laws_later_calls.proofs.WaysStay.{WorldStays, node_in, tree_in}

-- Filesystems of which each was changed, but not its number or root
mapped_root : (change : Filesystem ℕ → Filesystem ℕ) → ((f : Filesystem ℕ) → (change f).number ≡ f.number)
    → ((f : Filesystem ℕ) → (change f).files.tree.root ≡ f.files.tree.root) → (number : ℕ) (list : List (Filesystem ℕ))
    → (numbered number (map change list)).files.tree.root ≡ (numbered number list).files.tree.root
mapped_root change same root number [] = refl
mapped_root change same root number (first ∷ rest) =
    grind (arith, common_steps, same, root, mapped_root change same root number rest)

-- What is let go of
module _ (chosen : Filesystem ℕ → Bool) where
  let_go_root : (list : List Inode) (world : World ℕ) (number : ℕ)
      → (tree_in (folded (let_go_in chosen) world list) number).root ≡ (tree_in world number).root
  let_go_root [] world number = refl
  let_go_root (inode ∷ rest) world number = let_go_root rest (let_go_in chosen world inode) number
      ∙ mapped_root (let_go_in_of chosen world inode) (λ f. same_number f _)
      (λ f. same_root f _) number world.filesystems
    where
      same_number : (f : Filesystem ℕ) (b : Bool) → (cond b (without_inode_of inode.1 f) f).number ≡ f.number
      same_number f true = refl
      same_number f false = refl

      same_root : (f : Filesystem ℕ) (b : Bool)
          → (cond b (without_inode_of inode.1 f) f).files.tree.root ≡ f.files.tree.root
      same_root f true = refl
      same_root f false = refl

  let_go_mounts_stay : (list : List Inode) (world : World ℕ)
      → (folded (let_go_in chosen) world list).mounts ≡ world.mounts
  let_go_mounts_stay [] world = refl
  let_go_mounts_stay (inode ∷ rest) world = let_go_mounts_stay rest (let_go_in chosen world inode)

module _ (world : World ℕ) (inodes : List Inode) where
  all_let_go_root : (number : ℕ) → (tree_in (let_go_all_inodes world inodes) number).root ≡ (tree_in world number).root
  all_let_go_root number =
      let_go_root is_plain (inodes ++ uppers_of world inodes) (folded (let_go_in is_overlay) world inodes) number
      ∙ let_go_root is_overlay inodes world number

  all_let_go_mounts : (let_go_all_inodes world inodes).mounts ≡ world.mounts
  all_let_go_mounts =
      let_go_mounts_stay is_plain (inodes ++ uppers_of world inodes) (folded (let_go_in is_overlay) world inodes)
      ∙ let_go_mounts_stay is_overlay inodes world

-- a filesystem that shows something is one of the list
pub listed : (number : ℕ) (list : List (Filesystem ℕ)) (object : ℕ)
    → is_some ((numbered number list).files.tree.node object) ≡ true
    → is_among nat_eq number (map (λ (f : Filesystem ℕ). f.number) list) ≡ true
listed number [] object there = cc
listed number (first ∷ rest) object there = grind (arith, common_steps, listed number rest object)

-- where something is, there is a tree
pub tree_there : (world : World ℕ) → IsWorld nat_eq world → IsPlain world → (location : Location ℕ)
    → is_some (node_at nat_eq world location) ≡ true → IsFileTree (files_at nat_eq world location)
tree_there world is plain location something = ⊎_elim (λ tree. tree) (λ missing. absurd (true≢false
    (sym something ∙ ap (λ (f : Filesystem ℕ). is_some (f.files.tree.node location.node)) missing.0)))
    (numbered_all (λ (f : Filesystem ℕ). IsFileTree f.files) (mount_at nat_eq world location).filesystem
    world.filesystems (file_trees world (unsettled_of world is plain)))

-- what is raised shows the same
pub raised_files : (before : World ℕ) (name : TaskName) (changes : List ℕ) (world : World ℕ) (number : ℕ)
    → (filesystem_numbered nat_eq (numbers_raised nat_eq before name changes world) number).files
    ≡ (filesystem_numbered nat_eq world number).files
raised_files before name changes world number =
    ap (λ w. (filesystem_numbered nat_eq w number).files) (numbers_raised_are before name changes world)
    ∙ ap (λ (files : FilesBy). files number)
    (same_files (number_if changes world) (namespace_if before name changes world) (task_if before name changes world)
    (raised world.change) world)

module _ {world : World ℕ} {fresh : Fresh ℕ} {name : TaskName} {call : Call} {answer : Answer}
    (it : HasSucceeded world fresh name call answer) where
  abbrev pub spent : World ℕ
  spent = (apply nat_eq fresh world it.did.task it.did.permit).world

  abbrev pub later : World ℕ
  later = (policy nat_eq fresh world name call).world

  abbrev left : World ℕ
  left = settled nat_eq spent

  -- it is a world
  pub later_is : IsWorld nat_eq later × IsPlain later
  later_is = rw it.did.left (let settles = settling_leaves_a_world spent (spent_unsettled it) in
      raising_numbers_keeps_world world name (filesystems_changed nat_eq world it.did.permit) left settles.0 settles.1)

  pub later_files : (number : ℕ)
      → (filesystem_numbered nat_eq later number).files ≡ (filesystem_numbered nat_eq left number).files
  later_files number = ap (λ w. (filesystem_numbered nat_eq w number).files) it.did.left
      ∙ raised_files world name (filesystems_changed nat_eq world it.did.permit) left number

  -- each inode is as it was, or is gone
  or_gone : (filesystem number : ℕ) → (node_in later filesystem number ≡ node_in spent filesystem number)
      ⊎ (node_in later filesystem number ≡ None)
  or_gone filesystem number = subst (λ (files : FileTree ℕ). (files.tree.node number ≡ node_in spent filesystem number)
      ⊎ (files.tree.node number ≡ None)) (sym (later_files filesystem))
      (settled_holds (λ o. (o ≡ node_in spent filesystem number) ⊎ (o ≡ None)) filesystem number (inr refl) spent
      (inl refl))

  pub as_spent : (filesystem number : ℕ) → is_some (node_in later filesystem number) ≡ true
      → node_in later filesystem number ≡ node_in spent filesystem number
  as_spent filesystem number there =
      ⊎_elim (λ same. same) (λ gone. absurd (true≢false (cc))) (or_gone filesystem number)

  pub sees_to : SeesTo world it.did.task it.did.permit
  sees_to = given_permits_are_seen_to world fresh it.did.task it.did.permit it.is
      (given_of world fresh name call answer it.serves it.other it.few it.did)

  -- A change of a tree, where there is something
  pub record ChangesTree (location : Location ℕ) (change : Change ℕ) (from : Fresh ℕ) : Type 0 where
    pub asks : change_of fresh world it.did.permit ≡ Some (location, change)
    pub does : spent ≡ with_change nat_eq from world location change
    pub something : is_some (node_at nat_eq world location) ≡ true
    pub may : MayChange (files_at nat_eq world location) change
    pub tree : IsFileTree (files_at nat_eq world location)

  pub changes_there : {location : Location ℕ} {change : Change ℕ} → it.did.permit ≡ ToChange location change
      → is_some (node_at nat_eq world location) ≡ true → MayChange (files_at nat_eq world location) change
      → ChangesTree location change fresh
  changes_there {location} permit_is something may = record {
    asks = ap (change_of fresh world) permit_is;
    does = ap (λ p. (apply nat_eq fresh world it.did.task p).world) permit_is;
    something = something;
    may = may;
    tree = tree_there world it.is it.plain location something;
  }

  module _ {location : Location ℕ} {change : Change ℕ} {from : Fresh ℕ}
      (changes : ChangesTree location change from) where
    abbrev files : FileTree ℕ
    files = files_at nat_eq world location

    abbrev shown : ℕ
    shown = (mount_at nat_eq world location).filesystem

    after_tree : IsListedTree (changed nat_eq files change)
    after_tree = record {
      tree = changes_keep_trees files change changes.tree.tree
          (given_changes_are_proper world fresh it.did.task it.did.permit location change it.is
          (given_of world fresh name call answer it.serves it.other it.few it.did) changes.asks).0;
      numbers = changes_keep_numbers files change changes.tree.numbers;
    }

    goes : left ≡ let_go_all_inodes (with_change nat_eq from world location change) (inodes_lost world location change)
    goes = ap (settled nat_eq) changes.does
        ∙ file_changes_let_go from world location change (worlds_are_settled world it.is) it.is.files.one_filesystem
        (listed shown world.filesystems location.node changes.something)
        (ap is_some (plain_numbered world it.plain shown)) after_tree changes.may

    pub later_mounts : later.mounts ≡ world.mounts
    later_mounts = ap (λ (w : World ℕ). w.mounts) (it.did.left) ∙ ap (λ (w : World ℕ). w.mounts) goes
        ∙ all_let_go_mounts (with_change nat_eq from world location change) (inodes_lost world location change)
        ∙ mounts-with_change world from location change

    later_root : (number : ℕ) → (tree_in later number).root
        ≡ (tree_in (with_change nat_eq from world location change) number).root
    later_root number = ap (λ (f : FileTree ℕ). f.tree.root) (later_files number)
        ∙ ap (λ w. (tree_in w number).root) goes
        ∙ all_let_go_root (with_change nat_eq from world location change) (inodes_lost world location change) number

    spent_files : (number : ℕ) → (filesystem_numbered nat_eq spent number).files
        ≡ (filesystem_numbered nat_eq (with_change nat_eq from world location change) number).files
    spent_files number = cc changes.does

    pub spent_shown : (filesystem_numbered nat_eq spent shown).files ≡ changed nat_eq files change
    spent_shown = spent_files shown ∙ files_changed from world it.plain location change changes.something

    -- what is seen where the mount of the location shows it
    pub node_changed : (number : ℕ) → is_some (node_in later shown number) ≡ true
        → node_in later shown number ≡ (changed nat_eq files change).tree.node number
    node_changed number there_later = cc (as_spent shown number there_later, spent_shown)

    -- where no name is lost nothing goes
    pub all_stays : names_lost files change ≡ [] → (number : ℕ)
        → node_in later shown number ≡ (changed nat_eq files change).tree.node number
    all_stays none number = ap (λ (f : FileTree ℕ). f.tree.node number) (later_files shown)
        ∙ ap (λ w. node_in w shown number) goes
        ∙ ap (λ names. node_in (let_go_all_inodes (with_change nat_eq from world location change) (map (λ inode.
        (shown, inode)) names)) shown number) none ∙ ap (λ (f : FileTree ℕ). f.tree.node number)
        (files_changed from world it.plain location change changes.something)

    -- what holds in the changed filesystem, and in the others, holds
    pub in_each : (P : ℕ → FileTree ℕ → Type 0) → P shown (changed nat_eq files change)
        → ((number : ℕ) → P number (filesystem_numbered nat_eq world number).files)
        → (number : ℕ) → P number (filesystem_numbered nat_eq spent number).files
    in_each P here elsewhere number = elim (cases_Bool (nat_eq shown number)) [
      | inl e ↦ rw (← eqb-true shown number e) (subst (P shown) (sym spent_shown) here)
      | inr e ↦ subst (P number)
          (sym (spent_files number ∙ files_other from world it.plain location change number e)) (elsewhere number)
    ]

    -- So ways that stay in the changed tree stay in the world.
    pub world_stays : (Refused : Deny → Type 0) → TreeStays files.tree (changed nat_eq files change).tree Refused
        → WorldStays world later Refused
    world_stays Refused stay = record {
      mounts = later_mounts;
      root = λ number. later_root number ∙ ap (λ (f : FileTree ℕ). f.tree.root) (sym (spent_files number))
          ∙ (each number).root;
      directory = λ number n was now. ap is_directory_node (as_spent number n now) ∙ (each number).directory n was;
      parent = λ number n was now. ap (parent_in n) (as_spent number n now) ∙ (each number).parent n was;
      link = λ number n was now. ap symlink_text (as_spent number n now) ∙ (each number).link n was;
      entry = λ number directory entry n e now. subst (λ o. (entry_named entry (entries_in o) ≡ Some n)
          ⊎ ((entry_named entry (entries_in o) ≡ None) × (is_directory_node (node_in world number n) ≡ false)
          × Refused (denial W6))) (sym (as_spent number directory now)) ((each number).entry directory entry n e);
    }
      where
        itself : (t : FileTree ℕ) → TreeStays t.tree t.tree Refused
        itself t = grind (arith, common_steps)

        each : (number : ℕ) → TreeStays (tree_in world number) (tree_in spent number) Refused
        each = in_each (λ number t. TreeStays (tree_in world number) t.tree Refused) stay (λ number. itself
            (filesystem_numbered nat_eq world number).files)

    -- and so do rights
    pub world_rights : RightsStay files.tree (changed nat_eq files change).tree
        → (filesystem number wanted : ℕ) (who : Credentials) → is_some (node_in world filesystem number) ≡ true
        → is_some (node_in later filesystem number) ≡ true → node_allows who wanted (node_in later filesystem number)
        ≡ node_allows who wanted (node_in world filesystem number)
    world_rights rights filesystem number wanted who was now =
        ap (node_allows who wanted) (as_spent filesystem number now)
        ∙ in_each (λ f t. is_some (node_in world f number) ≡ true
        → node_allows who wanted (t.tree.node number) ≡ node_allows who wanted (node_in world f number))
        (λ there_before. rights who wanted number there_before) (λ f there_before. refl) filesystem was
