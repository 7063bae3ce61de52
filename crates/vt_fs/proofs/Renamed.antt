-- A tree by the numbers of its inodes: whatever is made of it is what is made of it by slots, renamed.
use Rattle.std.proofs.Common.{◌≡◌, refl, sym, ap, ◌∙◌, ◌+◌, ◌∷◌, [], ℕ, nat_eq, Bool, List, map, Option, option_map, if◌then◌else◌}
use Rattle.vt_spec.proofs.Common.{Change, Inodes, Node, entry_at, has_entry_to, one_directory, parent_in, pinned, renamed_node, targets_in, tree_of, unpinned, uses_in}
use Rattle.vt_spec.specs.declared.attributes.Attr.{Attr}
use Rattle.vt_spec.specs.Inodes.{changed, is_directory_under, renamed_inodes}
use Rattle.vt_laws_rules.specs.Renaming.{Renaming, renamed_change}
use Rattle.vt_laws_rules.proofs.numbers.Commuting.{Named, commutes_nat, map_itself, node_itself, option_itself, inode_itself, change_itself}
use Rattle.vt_fs.specs.Trees.Names.{how_often, names_at}
use Rattle.vt_fs.specs.Trees.Paths.{path_in}
use Rattle.vt_fs.specs.Trees.TreeValue.{with_unnamed}
use Rattle.vt_location.specs.Numbers.{exchanged}
use Rattle.vt_location.proofs.NumberLemmas.{exchanged_back}

-- slots and numbers of a filesystem, exchanged
abbrev pub exchange : ℕ → Renaming ℕ ℕ
exchange f = record {
  there = exchanged f;
  back = exchanged f;
  there_back = exchanged_back f;
  back_there = exchanged_back f;
}

-- a tree, a node and a change with other numbers
abbrev pub by_numbers : ℕ → Inodes ℕ → Inodes ℕ
by_numbers f inodes = renamed_inodes (exchanged f) (exchanged f) inodes

-- With each number for itself nothing is renamed.
module _ {N : Type 0} where
  inodes_itself : (inodes : Inodes N) → renamed_inodes (λ n. n) (λ n. n) inodes ≡ inodes
  inodes_itself inodes = λ i. record {
    root = inodes.root;
    inode = λ number. inode_itself (inodes.inode number) i;
    count = inodes.count;
  }

-- What is handed in: a tree, with a change, or with a number, or with more
abbrev WithChange : Type 0 → Type 0
WithChange A = Inodes A × Change A

abbrev WithOne : Type 0 → Type 0
WithOne A = Inodes A × A

abbrev WithTwo : Type 0 → Type 0
WithTwo A = Inodes A × A × A

abbrev named_change : Named WithChange
named_change = record {
  rename = λ A B there back s. (renamed_inodes there back s.0, renamed_change there back s.1);
  itself = λ A s i. (inodes_itself s.0 i, change_itself s.1 i);
}

abbrev named_one : Named WithOne
named_one = record {
  rename = λ A B there back s. (renamed_inodes there back s.0, there s.1);
  itself = λ A s i. (inodes_itself s.0 i, s.1);
}

abbrev named_two : Named WithTwo
named_two = record {
  rename = λ A B there back s. (renamed_inodes there back s.0, there s.1, there s.2);
  itself = λ A s i. (inodes_itself s.0 i, s.1, s.2);
}

-- What is made of it: a tree, a number, a node, or what has no numbers in it
abbrev named_inodes : Named Inodes
named_inodes = record {
  rename = λ A B there back inodes. renamed_inodes there back inodes;
  itself = λ A inodes. inodes_itself inodes;
}

abbrev named_number : Named Option
named_number = record {
  rename = λ A B there back number. option_map there number;
  itself = λ A number. option_itself (λ n. n) (λ n. refl) number;
}

abbrev Nodes : Type 0 → Type 0
Nodes A = Option (Node A)

abbrev named_node : Named Nodes
named_node = record {
  rename = λ A B there back node. option_map (renamed_node there back) node;
  itself = λ A node. option_itself (renamed_node (λ n. n) (λ n. n)) node_itself node;
}

abbrev named_nothing : (X : Type 0) → Named (λ (A : Type 0). X)
named_nothing X = record { rename = λ A B there back x. x; itself = λ A x. refl }

-- Changes
module _ (f : ℕ) (inodes : Inodes ℕ) where
  pub changed_by_numbers : (change : Change ℕ)
      → changed nat_eq (by_numbers f inodes) (renamed_change (exchanged f) (exchanged f) change)
      ≡ by_numbers f (changed nat_eq inodes change)
  changed_by_numbers change =
      commutes_nat WithChange Inodes named_change named_inodes (λ A eq s. changed eq s.0 s.1) (exchange f)
      (inodes, change)

  pub pinned_by_numbers : (object : ℕ)
      → pinned nat_eq (by_numbers f inodes) (exchanged f object) ≡ by_numbers f (pinned nat_eq inodes object)
  pinned_by_numbers object = commutes_nat WithOne Inodes named_one named_inodes (λ A eq s. pinned eq s.0 s.1)
      (exchange f) (inodes, object)

  pub unpinned_by_numbers : (object : ℕ)
      → unpinned nat_eq (by_numbers f inodes) (exchanged f object) ≡ by_numbers f (unpinned nat_eq inodes object)
  unpinned_by_numbers object = commutes_nat WithOne Inodes named_one named_inodes (λ A eq s. unpinned eq s.0 s.1)
      (exchange f) (inodes, object)

-- An inode without a name
abbrev WithNode : Type 0 → Type 0
WithNode A = Inodes A × A × Node A

abbrev named_new : Named WithNode
named_new = record {
  rename = λ A B there back s. (renamed_inodes there back s.0, there s.1, renamed_node there back s.2);
  itself = λ A s i. (inodes_itself s.0 i, s.1, node_itself s.2 i);
}

pub unnamed_by_numbers : (f : ℕ) (inodes : Inodes ℕ) (number : ℕ) (node : Node ℕ)
    → with_unnamed nat_eq (by_numbers f inodes) (exchanged f number) (renamed_node (exchanged f) (exchanged f) node)
    ≡ by_numbers f (with_unnamed nat_eq inodes number node)
unnamed_by_numbers f inodes number node = commutes_nat WithNode Inodes named_new named_inodes
    (λ A eq s. with_unnamed eq s.0 s.1 s.2) (exchange f) (inodes, number, node)

-- Looks
module _ (f : ℕ) (inodes : Inodes ℕ) where
  pub node_by_numbers : (number : ℕ) → (tree_of (by_numbers f inodes)).node (exchanged f number)
      ≡ option_map (renamed_node (exchanged f) (exchanged f)) ((tree_of inodes).node number)
  node_by_numbers number = commutes_nat WithOne Nodes named_one named_node (λ A eq s. (tree_of s.0).node s.1)
      (exchange f) (inodes, number)

  -- of a node what has no numbers in it
  pub plain_by_numbers : (X : Type 0) (look : (A : Type 0) → Option (Node A) → X) (number : ℕ)
      → look ℕ ((tree_of (by_numbers f inodes)).node (exchanged f number)) ≡ look ℕ ((tree_of inodes).node number)
  plain_by_numbers X look number =
      commutes_nat WithOne (λ (A : Type 0). X) named_one (named_nothing X) (λ A eq s. look A ((tree_of s.0).node s.1))
      (exchange f) (inodes, number)

  pub uses_by_numbers : (number : ℕ)
      → uses_in ((by_numbers f inodes).inode (exchanged f number)) ≡ uses_in (inodes.inode number)
  uses_by_numbers number =
      commutes_nat WithOne (λ (A : Type 0). ℕ) named_one (named_nothing ℕ) (λ A eq s. uses_in (s.0.inode s.1))
      (exchange f) (inodes, number)

  pub entry_by_numbers : (directory : ℕ) (name : List ℕ)
      → entry_at (tree_of (by_numbers f inodes)) (exchanged f directory) name
      ≡ option_map (exchanged f) (entry_at (tree_of inodes) directory name)
  entry_by_numbers directory name =
      commutes_nat WithOne Option named_one named_number (λ A eq s. entry_at (tree_of s.0) s.1 name) (exchange f)
      (inodes, directory)

  pub under_by_numbers : (top directory : ℕ)
      → is_directory_under nat_eq (by_numbers f inodes) (exchanged f top) (exchanged f directory)
      ≡ is_directory_under nat_eq inodes top directory
  under_by_numbers top directory = commutes_nat WithTwo (λ (A : Type 0). Bool) named_two (named_nothing Bool)
      (λ A eq s. is_directory_under eq s.0 s.1 s.2) (exchange f) (inodes, top, directory)

  pub names_by_numbers : (directory object : ℕ)
      → has_entry_to nat_eq (tree_of (by_numbers f inodes)) (exchanged f directory) (exchanged f object)
      ≡ has_entry_to nat_eq (tree_of inodes) directory object
  names_by_numbers directory object = commutes_nat WithTwo (λ (A : Type 0). Bool) named_two (named_nothing Bool)
      (λ A eq s. has_entry_to eq (tree_of s.0) s.1 s.2) (exchange f) (inodes, directory, object)

  pub path_by_numbers : (top directory : ℕ)
      → path_in nat_eq (by_numbers f inodes) (exchanged f top) (exchanged f directory)
      ≡ path_in nat_eq inodes top directory
  path_by_numbers top directory =
      commutes_nat WithTwo (λ (A : Type 0). Option (List (List ℕ))) named_two (named_nothing (Option (List (List ℕ))))
      (λ A eq s. path_in eq s.0 s.1 s.2) (exchange f) (inodes, top, directory)

-- one directory, whose number is renamed
abbrev Number : Type 0 → Type 0
Number A = A

abbrev named_itself : Named Number
named_itself = record { rename = λ A B there back n. there n; itself = λ A n. refl }

pub one_by_numbers : (f slot : ℕ) (attr : Attr)
    → one_directory nat_eq (exchanged f slot) attr ≡ by_numbers f (one_directory nat_eq slot attr)
one_by_numbers f slot attr = commutes_nat Number Inodes named_itself named_inodes (λ A eq n. one_directory eq n attr)
    (exchange f) slot

-- what is told of a directory by its place
module _ (f : ℕ) (inodes : Inodes ℕ) (slot : ℕ) where
  pub root_by_numbers : nat_eq (exchanged f slot) (by_numbers f inodes).root ≡ nat_eq slot inodes.root
  root_by_numbers =
      commutes_nat WithOne (λ (A : Type 0). Bool) named_one (named_nothing Bool) (λ A eq s. eq s.1 s.0.root)
      (exchange f) (inodes, slot)

  pub own_by_numbers : nat_eq (exchanged f slot)
      (parent_in (exchanged f slot) ((tree_of (by_numbers f inodes)).node (exchanged f slot)))
      ≡ nat_eq slot (parent_in slot ((tree_of inodes).node slot))
  own_by_numbers = commutes_nat WithOne (λ (A : Type 0). Bool) named_one (named_nothing Bool)
      (λ A eq s. eq s.1 (parent_in s.1 ((tree_of s.0).node s.1))) (exchange f) (inodes, slot)

-- How often a number is in a list
abbrev often : {A : Type 0} → (A → A → Bool) → A → List A → ℕ
often eq number [] = 0
often eq number (other ∷ rest) = (if eq number other then 1 else 0) + often eq number rest

often_same : (number : ℕ) (list : List ℕ) → often nat_eq number list ≡ how_often number list
often_same number [] = refl
often_same number (other ∷ rest) = ap (λ n. (if nat_eq number other then 1 else 0) + n) (often_same number rest)

abbrev WithList : Type 0 → Type 0
WithList A = A × List A

abbrev named_list : Named WithList
named_list = record {
  rename = λ A B there back s. (there s.0, map there s.1);
  itself = λ A s i. (s.0, map_itself (λ n. n) (λ n. refl) s.1 i);
}

pub often_by_numbers : (f number : ℕ) (list : List ℕ)
    → how_often (exchanged f number) (map (exchanged f) list) ≡ how_often number list
often_by_numbers f number list = sym (often_same (exchanged f number) (map (exchanged f) list))
    ∙ commutes_nat WithList (λ (A : Type 0). ℕ) named_list (named_nothing ℕ) (λ A eq s. often eq s.0 s.1) (exchange f)
    (number, list)
    ∙ often_same number list

-- and how many names of a directory lead to an object
pub counted_by_numbers : (f : ℕ) (inodes : Inodes ℕ) (object directory : ℕ)
    → names_at (tree_of (by_numbers f inodes)) (exchanged f object) (exchanged f directory)
    ≡ names_at (tree_of inodes) object directory
counted_by_numbers f inodes object directory =
    sym (often_same (exchanged f object)
    (targets_in ((tree_of (by_numbers f inodes)).node (exchanged f directory))))
    ∙ commutes_nat WithTwo (λ (A : Type 0). ℕ) named_two (named_nothing ℕ)
    (λ A eq s. often eq s.2 (targets_in ((tree_of s.0).node s.1))) (exchange f) (inodes, directory, object)
    ∙ often_same object (targets_in ((tree_of inodes).node directory))
