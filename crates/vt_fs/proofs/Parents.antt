-- In a tree of a world, a directory has a name in its parent or is its own parent.
use Rattle.std.proofs.Common.{◌≡◌, ◌≢◌, refl, sym, ap, ◌∙◌, true≢false, ℕ, zero, suc, nat_eq, eq-eqb, eqb-true, ne_eqb, Bool, true, false, not, ◌||◌, List, [], ◌∷◌, length, Option, Some, None, is_some, if◌then◌else◌}
use Rattle.vt_spec.proofs.Common.{Content, Directory, HasOwnParents, Inodes, IsDirectory, IsTree, Node, Regular, Symlink, Tree, Whiteout, chain, entry_at, entry_from, entry_to, found, has_entry_to, is_among, is_directory_node, is_directory_under, is_removed, led, named_parent, or-false, parent_above, parent_in, same_Some, targets_in, tree_of, when}
use Rattle.vt_spec.specs.Inodes.{is_directory_under as is_under_in}
use Rattle.vt_fs.specs.Laws.{ParentsAreNamed, TreesNameParents}

nothing : {P : Type 0} (a : ℕ) → None ≡ Some a → P
nothing a e = absurd cc

-- names lead to what has a name nowhere but in itself from itself alone
led_from : (tree : Tree ℕ) (number : ℕ)
    → ((directory : ℕ) (name : List ℕ) → entry_at tree directory name ≡ Some number → directory ≡ number)
    → (from : ℕ) (names : List (List ℕ)) → led tree from names ≡ Some number → from ≡ number
led_from tree number only from [] e = same_Some from number e
led_from tree number only from (name ∷ names) e =
    let step = found (λ next. led tree next names) (entry_at tree from name) number e in
    only from name (step.1 ∙ ap Some (led_from tree number only step.0 names step.2))

module _ (tree : Tree ℕ) (conditions : IsTree tree) (own : HasOwnParents tree) (directory : ℕ)
    (other : directory ≢ tree.root) where
  abbrev parent : ℕ
  parent = parent_in directory (tree.node directory)

  -- a directory with a name in its parent is not its own parent
  apart : IsDirectory tree directory → has_entry_to nat_eq tree parent directory ≡ true → directory ≢ parent
  apart is named same =
      let name = entry_from tree conditions parent directory named in
      let reached = conditions.reached directory is (parent, name.0, name.1) in
      other (sym (led_from tree directory
      (λ above last entry. sym (conditions.one_parent above last directory entry is) ∙ sym same)
      tree.root reached.0 reached.1))

  -- and one without a name there has none
  unnamed : IsDirectory tree directory → has_entry_to nat_eq tree parent directory ≡ false → parent ≡ directory
  unnamed is none = own directory is (λ named.
      true≢false (sym (entry_to tree parent named.1 directory
      (ap (λ above. entry_at tree above named.1) (conditions.one_parent named.0 named.1 directory named.2 is)
      ∙ named.2)) ∙ none))

  of_directory : IsDirectory tree directory → has_entry_to nat_eq tree parent directory ≡ not (nat_eq directory parent)
  of_directory is = by (has_entry_to nat_eq tree parent directory) refl
    where
      by : (b : Bool) → has_entry_to nat_eq tree parent directory ≡ b
          → has_entry_to nat_eq tree parent directory ≡ not (nat_eq directory parent)
      by true e = e ∙ ap not (sym (ne_eqb directory parent (apart is e)))
      by false e = e ∙ ap not (sym (eq-eqb directory parent (sym (unnamed is e))))

  -- what is no directory is its own parent, and has no entries
  of_another : (o : Option (Node ℕ)) → tree.node directory ≡ o → is_directory_node o ≡ false
      → has_entry_to nat_eq tree (parent_in directory o) directory ≡ not (nat_eq directory (parent_in directory o))
  of_another None e isnt = ap (λ o. is_among nat_eq directory (targets_in o)) e
      ∙ ap not (sym (eq-eqb directory directory refl))
  of_another (Some node) e isnt = by node.content (λ i. e i) isnt
    where
      by : (content : Content ℕ) → tree.node directory ≡ Some (record { attr = node.attr; content = content })
          → is_directory_node (Some (record { attr = node.attr; content = content })) ≡ false
          → has_entry_to nat_eq tree (parent_in directory
          (Some (record { attr = node.attr; content = content }))) directory
          ≡ not (nat_eq directory (parent_in directory (Some (record { attr = node.attr; content = content }))))
      by (Directory above entries opaque) e isnt = absurd (true≢false isnt)
      by (Regular bytes) e isnt = ap (λ o. is_among nat_eq directory (targets_in o)) e
          ∙ ap not (sym (eq-eqb directory directory refl))
      by (Symlink text) e isnt = ap (λ o. is_among nat_eq directory (targets_in o)) e
          ∙ ap not (sym (eq-eqb directory directory refl))
      by Whiteout e isnt = ap (λ o. is_among nat_eq directory (targets_in o)) e
          ∙ ap not (sym (eq-eqb directory directory refl))

pub parents_named : TreesNameParents
parents_named tree conditions own directory other = by (is_directory_node (tree.node directory)) refl
  where
    by : (b : Bool) → is_directory_node (tree.node directory) ≡ b
        → has_entry_to nat_eq tree (parent_in directory (tree.node directory)) directory
        ≡ not (nat_eq directory (parent_in directory (tree.node directory)))
    by true is = of_directory tree conditions own directory other is
    by false isnt = of_another tree conditions own directory other (tree.node directory) refl isnt

-- Where that is so, going up by parents and by names meets the same.
module _ (inodes : Inodes ℕ) (named : ParentsAreNamed (tree_of inodes)) where
  abbrev up : ℕ → Option ℕ
  up = parent_above nat_eq inodes

  abbrev up_named : ℕ → Option ℕ
  up_named = named_parent nat_eq (tree_of inodes)

  abbrev parent_of : ℕ → ℕ
  parent_of directory = parent_in directory ((tree_of inodes).node directory)

  either_way : (a b : Bool) → b ≡ a → (a || b) ≡ (a || false)
  either_way true b e = refl
  either_way false b e = e

  -- a directory that is its own parent is met again and again
  stays : (top directory n : ℕ) → up directory ≡ Some directory
      → is_among nat_eq top (chain n up directory) ≡ nat_eq top directory
  stays top directory zero e = or-false (nat_eq top directory)
  stays top directory (suc n) e =
      ap (λ o. is_among nat_eq top (elim o [ None ↦ directory ∷ [] | Some b ↦ directory ∷ chain n up b ])) e
      ∙ by (nat_eq top directory) (is_among nat_eq top (chain n up directory)) (stays top directory n e)
    where
      by : (a b : Bool) → b ≡ a → (a || b) ≡ a
      by true b e = refl
      by false b e = e

  -- the top is met on the way up from a directory, from which the next is this
  abbrev meets : ℕ → (ℕ → Option ℕ) → ℕ → ℕ → Option ℕ → Bool
  meets top next n directory o = is_among nat_eq top
      (elim o [ None ↦ directory ∷ [] | Some b ↦ directory ∷ chain n next b ])

  climbs : (top n directory : ℕ)
      → is_among nat_eq top (chain n up directory) ≡ is_among nat_eq top (chain n up_named directory)
  climbs top zero directory = refl
  climbs top (suc n) directory = by (nat_eq directory inodes.root) refl (climbs top n (parent_of directory))
    where
      differs : nat_eq directory inodes.root ≡ false → directory ≢ inodes.root
      differs e same = true≢false (sym (eq-eqb directory inodes.root same) ∙ e)

      last : is_among nat_eq top (chain n up (parent_of directory))
          ≡ is_among nat_eq top (chain n up_named (parent_of directory))
          → (own : Bool) → nat_eq directory (parent_of directory) ≡ own → up directory ≡ Some (parent_of directory)
          → meets top up n directory (Some (parent_of directory))
          ≡ meets top up_named n directory (when (not own) (parent_of directory))
      last rest true o above =
          let same = eqb-true directory (parent_of directory) o in
          either_way (nat_eq top directory) (is_among nat_eq top (chain n up (parent_of directory)))
          (ap (λ d. is_among nat_eq top (chain n up d)) (sym same) ∙ stays top directory n (above ∙ ap Some (sym same)))
      last rest false o above = ap (λ b. nat_eq top directory || b) rest

      below : is_among nat_eq top (chain n up (parent_of directory))
          ≡ is_among nat_eq top (chain n up_named (parent_of directory))
          → (own : Bool) → nat_eq directory (parent_of directory) ≡ own → nat_eq directory inodes.root ≡ false
          → meets top up n directory (up directory) ≡ meets top up_named n directory (up_named directory)
      below rest own o e =
          let above : up directory ≡ Some (parent_of directory) = ap
          (λ b. if b then None else Some (parent_of directory)) e in
          let by_name : up_named directory ≡ when (not own) (parent_of directory) =
          ap (λ b. if b then None else when (has_entry_to nat_eq (tree_of inodes) (parent_of directory) directory)
          (parent_of directory)) e ∙ ap (λ b. when b (parent_of directory)) (named directory (differs e) ∙ ap not o) in
          ap (meets top up n directory) above ∙ last rest own o above
          ∙ ap (meets top up_named n directory) (sym by_name)

      by : (root : Bool) → nat_eq directory inodes.root ≡ root → is_among nat_eq top (chain n up (parent_of directory))
          ≡ is_among nat_eq top (chain n up_named (parent_of directory))
          → meets top up n directory (up directory) ≡ meets top up_named n directory (up_named directory)
      by true e rest = ap (meets top up n directory) (ap (λ b. if b then None else Some (parent_of directory)) e)
          ∙ ap (meets top up_named n directory)
          (sym (ap (λ b. if b then None else when (has_entry_to nat_eq (tree_of inodes) (parent_of directory) directory)
          (parent_of directory)) e))
      by false e rest = below rest (nat_eq directory (parent_of directory)) refl e

  pub under_by_names : (numbers : List ℕ) → length numbers ≡ inodes.count → (top directory : ℕ)
      → is_under_in nat_eq inodes top directory
      ≡ is_directory_under nat_eq (record { tree = tree_of inodes; numbers = numbers }) top directory
  under_by_names numbers counted top directory =
      climbs top inodes.count directory ∙ ap (λ n. is_among nat_eq top (chain n up_named directory)) (sym counted)

  -- a directory that is removed is its own parent
  pub removed_by_parent : (directory : ℕ) → nat_eq directory inodes.root ≡ false
      → is_removed nat_eq (tree_of inodes) directory ≡ nat_eq directory (parent_of directory)
  removed_by_parent directory e = (λ i. not (e i || is_some (up_named directory)))
      ∙ ap (λ b. not (is_some (if b then None
      else when (has_entry_to nat_eq (tree_of inodes) (parent_of directory) directory) (parent_of directory)))) e
      ∙ ap (λ b. not (is_some (when b (parent_of directory))))
      (named directory (λ same. true≢false (sym (eq-eqb directory inodes.root same) ∙ e)))
      ∙ by (nat_eq directory (parent_of directory))
    where
      by : (own : Bool) → not (is_some (when (not own) (parent_of directory))) ≡ own
      by true = refl
      by false = refl

-- the root is not removed
pub root_stays : (tree : Tree ℕ) (directory : ℕ) → nat_eq directory tree.root ≡ true
    → is_removed nat_eq tree directory ≡ false
root_stays tree directory e = ap (λ b. not (b || is_some (named_parent nat_eq tree directory))) e
