-- A directory that is not removed lies under the root of its filesystem; and which directories are lost on their
-- mounts.
use Rattle.std.proofs.Common.{◌≡◌, refl, sym, ap, subst, ◌∙◌, ⊎_elim, true≢false, ℕ, zero, suc, nat_eq, eq-eqb, eqb-true, Bool, true, false, cond, not, ◌||◌, List, [], ◌∷◌, length, Option, Some, None, is_some}
use Rattle.vt_spec.proofs.Common.{Among, Content, Directory, FileTree, Filesystem, HasOwnParents, IsDirectory, IsTree, ListsNumbers, Node, Regular, Symlink, Tree, Whiteout, all_from_among, among_from_all, chain, chain_ends, chain_goes_on, directory_from_entry, entries_in, entry_at, entry_from, entry_named, filesystem_numbered, has_entry_to, is_among, is_directory_node, is_directory_under, is_removed, mount_at, named_parent, nat_eq_turned, no_filesystem, node_at, or_right, parent_in, reached_named, targets_in, when}
use Rattle.vt_spec.specs.Machine.Mounts as meant
use Rattle.vt_spec.specs.Machine.Walking.{is_lost}
use Rattle.vt_ns.proofs.Common.{IsFileTree, IsHeld, WorldValue, looks_of_value, world_of}
use Rattle.vt_laws_trees.proofs.trees.TreesAbove.{parent_named, under_seen}
use Rattle.vt_laws_trees.proofs.trees.TreesReached.{filled_reached, not_removed_reached}
use Rattle.vt_laws_trees.proofs.trees.TreesOfWorlds.{numbered_anyhow}
use Rattle.vt_fs.specs.Laws.{LieUnderRoot, is_lost_under}
use Rattle.vt_fs.proofs.TreesLookedAt.{nowhere_under}
use Rattle.vt_looks.specs.Looking.{StaysFound}

-- what is no directory is its own parent, and has no entries
no_directory : (number : ℕ) (o : Option (Node ℕ)) → is_directory_node o ≡ false
    → (parent_in number o ≡ number) × (targets_in o ≡ [])
no_directory number None isnt = (refl, refl)
no_directory number (Some node) isnt = by node.content isnt
  where
    here : Content ℕ → Option (Node ℕ)
    here content = Some (record { attr = node.attr; content = content })

    by : (content : Content ℕ) → is_directory_node (here content) ≡ false
        → (parent_in number (here content) ≡ number) × (targets_in (here content) ≡ [])
    by (Directory parent entries opaque) isnt = absurd (true≢false isnt)
    by (Regular bytes) isnt = (refl, refl)
    by (Symlink text) isnt = (refl, refl)
    by Whiteout isnt = (refl, refl)

-- so it counts as removed
not_removed_directory : (tree : Tree ℕ) → IsTree tree → (number : ℕ) → is_removed nat_eq tree number ≡ false
    → IsDirectory tree number
not_removed_directory tree conditions number stays = by (is_directory_node (tree.node number)) refl
  where
    parent : ℕ
    parent = parent_in number (tree.node number)

    unnamed : is_directory_node (tree.node number) ≡ false → has_entry_to nat_eq tree parent number ≡ false
    unnamed isnt =
        let none = no_directory number (tree.node number) isnt in
        ap (λ p. is_among nat_eq number (targets_in (tree.node p))) none.0 ∙ ap (is_among nat_eq number) none.1

    at_root : (b : Bool) → nat_eq number tree.root ≡ b → has_entry_to nat_eq tree parent number ≡ false
        → not (b || is_some (cond b None (when (has_entry_to nat_eq tree parent number) parent))) ≡ false
        → IsDirectory tree number
    at_root true e none stays = subst (IsDirectory tree) (sym (eqb-true number tree.root e)) conditions.root_directory
    at_root false e none stays = absurd (true≢false (sym (ap (λ b. not (is_some (when b parent))) none) ∙ stays))

    by : (b : Bool) → is_directory_node (tree.node number) ≡ b → IsDirectory tree number
    by true is = is
    by false isnt = at_root (nat_eq number tree.root) refl (unnamed isnt) stays

-- what is not removed lies under the root
pub lie_under_root : (files : FileTree ℕ) → IsFileTree files → LieUnderRoot files
lie_under_root files conditions directory stays =
    let is = not_removed_directory files.tree conditions.tree directory stays in
    let reached = not_removed_reached files.tree conditions.tree directory is stays in
    under_seen files conditions directory is reached files.tree.root reached.0 reached.1

-- where no inode is there, none but the root is not removed
pub lie_nowhere : (number : ℕ) → LieUnderRoot (no_filesystem number).files
lie_nowhere number directory stays = by (nat_eq directory (no_filesystem number).files.tree.root) refl stays
  where
    files : FileTree ℕ
    files = (no_filesystem number).files

    by : (b : Bool) → nat_eq directory files.tree.root ≡ b
        → not (b || is_some (cond b None (when false (parent_in directory (files.tree.node directory))))) ≡ false
        → is_directory_under nat_eq files files.tree.root directory ≡ true
    by true e stays =
        ap (λ b. b || false) (eq-eqb files.tree.root directory (sym (eqb-true directory files.tree.root e)))
    by false e stays = absurd (true≢false stays)

module _ (value : WorldValue) (held : IsHeld value) where
  pub file_tree : (filesystem : Filesystem ℕ) → Among filesystem (world_of value).filesystems → IsFileTree filesystem.files
  file_tree filesystem m = record {
    tree = among_from_all (λ (x : Filesystem ℕ). IsTree x.files.tree)
        (world_of value).filesystems held.in_world.files.trees filesystem m;
    numbers = among_from_all (λ (x : Filesystem ℕ). ListsNumbers nat_eq x.files)
        (world_of value).filesystems held.in_world.files.numbers filesystem m;
    own_parents = among_from_all (λ (x : Filesystem ℕ). HasOwnParents x.files.tree)
        (world_of value).filesystems held.in_world.files.own_parents filesystem m;
  }

-- Up from a directory by parents

module _ (up : ℕ → Option ℕ) where
  -- the directories on the way up from one, of which this is the parent
  abbrev above_from : ℕ → ℕ → Option ℕ → List ℕ
  above_from most directory o = elim o [ None ↦ directory ∷ [] | Some above ↦ directory ∷ chain most up above ]

  abbrev meets : ℕ → ℕ → ℕ → Option ℕ → Bool
  meets top most directory o = is_among nat_eq top (above_from most directory o)

  -- one more step meets no less
  further : (top most directory : ℕ) → is_among nat_eq top (chain most up directory) ≡ true
      → is_among nat_eq top (chain (suc most) up directory) ≡ true
  further top zero directory met = by (up directory) (nat_eq top directory) met
    where
      here : (b c : Bool) → (b || false) ≡ true → (b || c) ≡ true
      here true c met = refl
      here false c met = absurd (true≢false (sym met))

      by : (o : Option ℕ) (b : Bool) → (nat_eq top directory || false) ≡ true → meets top zero directory o ≡ true
      by None b met = met
      by (Some above) b met = here (nat_eq top directory) _ met
  further top (suc most) directory met = by (up directory) met (λ above m. further top most above m)
    where
      either : (a b c : Bool) → (b ≡ true → c ≡ true) → (a || b) ≡ true → (a || c) ≡ true
      either true b c more met = refl
      either false b c more met = more met

      by : (o : Option ℕ) → meets top most directory o ≡ true
          → ((above : ℕ) → is_among nat_eq top (chain most up above) ≡ true
          → is_among nat_eq top (chain (suc most) up above) ≡ true) → meets top (suc most) directory o ≡ true
      by None met rest = met
      by (Some above) met rest = either (nat_eq top directory) _ _ (rest above) met

  -- where the way up has come to an end, one more step meets nothing more
  pub ended : (end most directory : ℕ) → up end ≡ None → is_among nat_eq end (chain most up directory) ≡ true
      → chain (suc most) up directory ≡ chain most up directory
  ended end zero directory none met = chain_ends up zero directory (at (nat_eq end directory) refl met)
    where
      at : (b : Bool) → nat_eq end directory ≡ b → (b || false) ≡ true → up directory ≡ None
      at true e met = ap up (sym (eqb-true end directory e)) ∙ none
      at false e met = absurd (true≢false (sym met))
  ended end (suc most) directory none met = by (up directory) refl met (λ above m. ended end most above none m)
    where
      not_there : (above : ℕ) → up directory ≡ Some above → (b : Bool) → nat_eq end directory ≡ b
          → (b || is_among nat_eq end (chain most up above)) ≡ true → is_among nat_eq end (chain most up above) ≡ true
      not_there above e true same met =
          let wrong : Some above ≡ None = sym e ∙ ap up (sym (eqb-true end directory same)) ∙ none in
          absurd cc
      not_there above e false same met = met

      by : (o : Option ℕ) → up directory ≡ o → meets end most directory o ≡ true
          → ((above : ℕ) → is_among nat_eq end (chain most up above) ≡ true
          → chain (suc most) up above ≡ chain most up above)
          → above_from (suc most) directory o ≡ above_from most directory o
      by None e met rest = refl
      by (Some above) e met rest =
          ap (λ l. directory ∷ l) (rest above (not_there above e (nat_eq end directory) refl met))

-- Ways that stay found

module _ (files : FileTree ℕ) (conditions : IsFileTree files) where
  abbrev up : ℕ → Option ℕ
  up = named_parent nat_eq files.tree

  abbrev most : ℕ
  most = length files.numbers

  pub root_has_none : up files.tree.root ≡ None
  root_has_none = ap (λ b. cond b None (when (has_entry_to nat_eq files.tree
      (parent_in files.tree.root (files.tree.node files.tree.root)) files.tree.root)
      (parent_in files.tree.root (files.tree.node files.tree.root)))) (eq-eqb files.tree.root files.tree.root refl)

  -- what has a parent is not removed
  with_parent : (directory parent : ℕ) → up directory ≡ Some parent → is_removed nat_eq files.tree directory ≡ false
  with_parent directory parent e =
      ap (λ o. not (nat_eq directory files.tree.root || is_some o)) e ∙ by (nat_eq directory files.tree.root)
    where
      by : (b : Bool) → not (b || true) ≡ false
      by true = refl
      by false = refl

  -- nor is a directory that has an entry
  with_entry : (directory : ℕ) (name : List ℕ) (object : ℕ) → entry_at files.tree directory name ≡ Some object
      → is_removed nat_eq files.tree directory ≡ false
  with_entry directory name object entry =
      let is = directory_from_entry name object (files.tree.node directory) entry in
      ⊎_elim (λ root. ap (λ b. not (b || is_some (up directory))) (eq-eqb directory files.tree.root (sym root)))
      (λ named. with_parent directory named.0
      (parent_named files.tree conditions.tree named.0 named.1 directory named.2 is))
      (reached_named files.tree directory (filled_reached files.tree conditions.tree directory is name object entry))

  parts : (root directory : ℕ) → is_lost_under files root directory ≡ false
      → (is_removed nat_eq files.tree directory ≡ false) × (is_directory_under nat_eq files root directory ≡ true)
  parts root directory found = by _ _ found
    where
      by : (a b : Bool) → (a || not b) ≡ false → (a ≡ false) × (b ≡ true)
      by true b found = absurd (true≢false found)
      by false true found = (refl, refl)
      by false false found = absurd (true≢false found)

  together : (root directory : ℕ) → is_removed nat_eq files.tree directory ≡ false
      → is_directory_under nat_eq files root directory ≡ true → is_lost_under files root directory ≡ false
  together root directory stays under = λ i. stays i || not (under i)

  -- the parent of a directory that is found is found
  found_upward : (root directory : ℕ) → is_lost_under files root directory ≡ false → nat_eq directory root ≡ false
      → is_lost_under files root (parent_in directory (files.tree.node directory)) ≡ false
  found_upward root directory found other = counted most refl (parts root directory found).1
    where
      parent : ℕ
      parent = parent_in directory (files.tree.node directory)

      same_parent : (above : ℕ) → up directory ≡ Some above → (above ≡ parent)
          × (has_entry_to nat_eq files.tree parent directory ≡ true)
      same_parent above e = by (nat_eq directory files.tree.root) (has_entry_to nat_eq files.tree parent directory) refl e
        where
          by : (a b : Bool) → has_entry_to nat_eq files.tree parent directory ≡ b
              → cond a None (when b parent) ≡ Some above
              → (above ≡ parent) × (has_entry_to nat_eq files.tree parent directory ≡ true)
          by true b named e = absurd cc
          by false true named e = ((let s : Some parent ≡ Some above = e in cc), named)
          by false false named e = absurd cc

      not_here : (b : Bool) → nat_eq root directory ≡ b → b ≡ false
      not_here true e = absurd (true≢false (sym (eq-eqb directory root (sym (eqb-true root directory e))) ∙ other))
      not_here false e = refl

      above_met : (n above : ℕ) → (nat_eq root directory || is_among nat_eq root (chain n up above)) ≡ true
          → is_among nat_eq root (chain n up above) ≡ true
      above_met n above met = sym (ap (λ b. b || is_among nat_eq root (chain n up above)) (not_here _ refl)) ∙ met

      so : (n above : ℕ) → suc n ≡ most → up directory ≡ Some above
          → is_among nat_eq root (chain n up above) ≡ true → is_lost_under files root parent ≡ false
      so n above count e met =
          let parent_is = same_parent above e in
          let entry = entry_from files.tree conditions.tree parent directory parent_is.1 in
          together root parent (with_entry parent entry.0 directory entry.1)
          (ap (λ m. is_among nat_eq root (chain m up parent)) (sym count)
          ∙ ap (λ d. is_among nat_eq root (chain (suc n) up d)) (sym parent_is.0) ∙ further up root n above met)

      step : (n : ℕ) → suc n ≡ most → (o : Option ℕ) → up directory ≡ o → meets up root n directory o ≡ true
          → is_lost_under files root parent ≡ false
      step n count None e met = absurd (true≢false (sym met ∙ ap (λ b. b || false) (not_here _ refl)))
      step n count (Some above) e met = so n above count e (above_met n above met)

      counted : (n : ℕ) → n ≡ most → is_among nat_eq root (chain n up directory) ≡ true
          → is_lost_under files root parent ≡ false
      counted zero count met = absurd (true≢false (sym met ∙ ap (λ b. b || false) (not_here _ refl)))
      counted (suc n) count met = step n count (up directory) refl met

  -- so is a directory that it has an entry of
  found_downward : (root directory object : ℕ) (name : List ℕ) → is_lost_under files root directory ≡ false
      → entry_at files.tree directory name ≡ Some object → IsDirectory files.tree object
      → is_lost_under files root object ≡ false
  found_downward root directory object name found entry is =
      together root object stays (counted most refl (lie_under_root files conditions object stays) (parts root directory found).1)
    where
      parent_is : up object ≡ Some directory
      parent_is = parent_named files.tree conditions.tree directory name object entry is

      stays : is_removed nat_eq files.tree object ≡ false
      stays = with_parent object directory parent_is

      no_root : (b : Bool) → nat_eq files.tree.root object ≡ b → b ≡ false
      no_root true e =
          let wrong : Some directory ≡ None = sym parent_is ∙ ap up (sym (eqb-true files.tree.root object e))
          ∙ root_has_none in
          absurd cc
      no_root false e = refl

      counted : (n : ℕ) → n ≡ most → is_among nat_eq files.tree.root (chain n up object) ≡ true
          → is_among nat_eq root (chain n up directory) ≡ true → is_among nat_eq root (chain n up object) ≡ true
      counted zero count rooted met = absurd (true≢false (sym rooted ∙ ap (λ b. b || false) (no_root _ refl)))
      counted (suc n) count rooted met =
          let long = chain_goes_on up n object directory parent_is in
          let root_met : is_among nat_eq files.tree.root (chain n up directory) ≡ true =
          sym (ap (λ b. b || is_among nat_eq files.tree.root (chain n up directory)) (no_root _ refl))
          ∙ sym (ap (is_among nat_eq files.tree.root) long) ∙ rooted in
          ap (is_among nat_eq root) long ∙ or_right (nat_eq root object) (is_among nat_eq root (chain n up directory))
          (ap (is_among nat_eq root) (sym (ended up files.tree.root n directory root_has_none root_met)) ∙ met)

-- what is found in a tree goes on to be found
record Ways (files : FileTree ℕ) : Type 0 where
  pub upward : (root directory : ℕ) → is_lost_under files root directory ≡ false → nat_eq directory root ≡ false
      → is_lost_under files root (parent_in directory (files.tree.node directory)) ≡ false
  pub downward : (root directory object : ℕ) (name : List ℕ) → is_lost_under files root directory ≡ false
      → entry_at files.tree directory name ≡ Some object → IsDirectory files.tree object
      → is_lost_under files root object ≡ false

nowhere_ways : (files : FileTree ℕ) → ((number : ℕ) → files.tree.node number ≡ None) → Ways files
nowhere_ways files none = record {
  upward = λ root directory found other. absurd (true≢false
      (sym (under (is_removed nat_eq files.tree directory) (is_directory_under nat_eq files root directory) found)
      ∙ nowhere_under files root directory (none directory) ∙ nat_eq_turned root directory ∙ other));
  downward = λ root directory object name found entry is.
      let wrong : None ≡ Some object = sym (ap (λ o. entry_named name (entries_in o)) (none directory)) ∙ entry in
      absurd cc;
}
  where
    under : (a b : Bool) → (a || not b) ≡ false → b ≡ true
    under true b found = absurd (true≢false found)
    under false true found = refl
    under false false found = absurd (true≢false found)

module _ (value : WorldValue) (held : IsHeld value) where
  ways_at : (number : ℕ) → Ways (filesystem_numbered nat_eq (world_of value) number).files
  ways_at number =
      numbered_anyhow (λ (filesystem : Filesystem ℕ). Ways filesystem.files) number (world_of value).filesystems
      (all_from_among (λ (filesystem : Filesystem ℕ). Ways filesystem.files) (world_of value).filesystems
      (λ filesystem m.
      let is = file_tree value held filesystem m in
      record { upward = found_upward filesystem.files is; downward = found_downward filesystem.files is }))
      (nowhere_ways (no_filesystem number).files (λ number. refl))

  -- the parent of a directory, unless that is the root of its mount
  pub parent_stays_found : (here : meant.Location ℕ) (parent : ℕ)
      → parent ≡ parent_in here.node (node_at nat_eq (world_of value) here)
      → nat_eq here.node (mount_at nat_eq (world_of value) here).root ≡ false
      → StaysFound (looks_of_value value) here (record { mount = here.mount; node = parent })
  parent_stays_found here parent is other found directory =
      let mount = mount_at nat_eq (world_of value) here in
      ap (λ number. is_lost nat_eq (looks_of_value value) (record { mount = here.mount; node = number })) is
      ∙ (ways_at mount.filesystem).upward mount.root here.node found other

  -- what an entry leads to
  pub entry_stays_found : (here : meant.Location ℕ) (name : List ℕ) (object : ℕ)
      → Some object ≡ entry_named name (entries_in (node_at nat_eq (world_of value) here))
      → StaysFound (looks_of_value value) here (record { mount = here.mount; node = object })
  entry_stays_found here name object entry found directory =
      let mount = mount_at nat_eq (world_of value) here in
      (ways_at mount.filesystem).downward mount.root here.node object name found (sym entry) directory
