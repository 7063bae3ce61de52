-- What does not depend on the order of the numbers that stand beside a tree.
use Rattle.std.proofs.Common.{◌≡◌, refl, sym, ap, ◌∙◌, ℕ, nat_eq, true≢false, Bool, true, cond, ◌||◌, ◌&&◌, List, [], ◌∷◌, length, map, find, filter_map, Option, Some, None, is_some, option_map, IsPermutation, arith}
use Rattle.vt_spec.proofs.Common.{FileTree, SameFiles, Tree, ancestors, chain, cons_option, entries_in, first_of_list, has_entry_to, is_among, is_directory_under, is_file_under, is_under, length_permutation, list_any, list_any-IsPermutation, name_in, named_parent, path_down, common_steps}
use Rattle.vt_spec.specs.Machine.Filesystems.{directory_of_name}

module _ (one other : FileTree ℕ) (same : SameFiles one other) where
  pub as_many : length one.numbers ≡ length other.numbers
  as_many = sym (length_permutation one.numbers other.numbers same.numbers)

  -- what is above a directory is told by the tree and by how many inodes there are
  pub ancestors_same : (directory : ℕ) → ancestors nat_eq one directory ≡ ancestors nat_eq other directory
  ancestors_same directory = λ i. chain (as_many i) (named_parent nat_eq (same.tree i)) directory

  pub directory_under_same : (top directory : ℕ)
      → is_directory_under nat_eq one top directory ≡ is_directory_under nat_eq other top directory
  directory_under_same top directory = ap (is_among nat_eq top) (ancestors_same directory)

  file_under_same : (top file : ℕ) → is_file_under nat_eq one top file ≡ is_file_under nat_eq other top file
  file_under_same top file = list_any-IsPermutation
      (λ directory. has_entry_to nat_eq one.tree directory file && is_directory_under nat_eq one top directory)
      one.numbers other.numbers same.numbers ∙ (λ i. list_any
      (λ directory. has_entry_to nat_eq (same.tree i) directory file && directory_under_same top directory i)
      other.numbers)

  pub under_same : (top object : ℕ) → is_under nat_eq one top object ≡ is_under nat_eq other top object
  under_same top object = cc (same.tree, directory_under_same top object, file_under_same top object)

  pub path_same : (top directory : ℕ) → path_down nat_eq one top directory ≡ path_down nat_eq other top directory
  path_same top directory = grind (arith, common_steps, directory_under_same top directory, ancestors_same directory)

-- the directories that have a name of an object, among some
abbrev pub named_among : Tree ℕ → ℕ → List ℕ → Option ℕ
named_among tree object numbers = option_map (λ name. name.0)
    (first_of_list (filter_map (name_in nat_eq (record { tree = tree; numbers = [] }) object) numbers))

module _ (tree : Tree ℕ) (object : ℕ) where
  abbrev bare : FileTree ℕ
  bare = record { tree = tree; numbers = [] }

  abbrev first_name : Option (ℕ × List ℕ) → List (ℕ × List ℕ) → Option ℕ
  first_name found names = option_map (λ name. name.0) (first_of_list (cons_option found names))

  -- the directory has a name of the object
  named : (directory : ℕ) (names : List (ℕ × List ℕ)) (entries : List (List ℕ × ℕ))
      → first_name (option_map (λ entry. (directory, entry.0)) (find (λ entry. nat_eq object entry.1) entries)) names
      ≡ cond (is_among nat_eq object (map (λ entry. entry.1) entries)) (Some directory)
      (option_map (λ name. name.0) (first_of_list names))
  named directory names [] = refl
  named directory names (entry ∷ entries) = by (nat_eq object entry.1) (named directory names entries)
    where
      by : (b : Bool) → first_name (option_map (λ entry. (directory, entry.0))
          (find (λ entry. nat_eq object entry.1) entries)) names
          ≡ cond (is_among nat_eq object (map (λ entry. entry.1) entries)) (Some directory)
          (option_map (λ name. name.0) (first_of_list names)) → first_name (option_map (λ entry. (directory, entry.0))
          (cond b (Some entry) (find (λ entry. nat_eq object entry.1) entries))) names
          ≡ cond (b || is_among nat_eq object (map (λ entry. entry.1) entries)) (Some directory)
          (option_map (λ name. name.0) (first_of_list names))
      by b later = grind (arith, common_steps)

  -- the first of some directories that has one
  pub first_named : (numbers : List ℕ)
      → named_among tree object numbers ≡ find (λ directory. has_entry_to nat_eq tree directory object) numbers
  first_named [] = refl
  first_named (directory ∷ rest) =
      named directory (filter_map (name_in nat_eq bare object) rest) (entries_in (tree.node directory))
      ∙ ap (λ o. cond (has_entry_to nat_eq tree directory object) (Some directory) o) (first_named rest)

module _ (test : ℕ → Bool) where
  found_passes : (list : List ℕ) (a : ℕ) → find test list ≡ Some a → test a ≡ true
  found_passes [] a e = cc
  found_passes (first ∷ rest) a e = grind (arith, common_steps, found_passes rest a, cond)

  found_if_any : (list : List ℕ) → is_some (find test list) ≡ list_any test list
  found_if_any [] = refl
  found_if_any (first ∷ rest) = grind (arith, common_steps, found_if_any rest, test first)

  -- the one that passes is found in whatever order
  pub one_found : (ones others : List ℕ) → IsPermutation ones others
      → ((a b : ℕ) → test a ≡ true → test b ≡ true → a ≡ b) → find test ones ≡ find test others
  one_found ones others permuted alone = by (find test ones) (find test others) refl refl
    where
      alike : is_some (find test ones) ≡ is_some (find test others)
      alike = found_if_any ones ∙ list_any-IsPermutation test ones others permuted ∙ sym (found_if_any others)

      by : (a b : Option ℕ) → find test ones ≡ a → find test others ≡ b → a ≡ b
      by None None e h = refl
      by None (Some b) e h = absurd (true≢false (sym (sym (ap is_some e) ∙ alike ∙ ap is_some h)))
      by (Some a) None e h = absurd (true≢false (sym (ap is_some e) ∙ alike ∙ ap is_some h))
      by (Some a) (Some b) e h = ap Some (alone a b (found_passes ones a e) (found_passes others b h))

-- the directory of a name is told by the tree, where there is one alone
pub directory_same : (one other : FileTree ℕ) → SameFiles one other → (object : ℕ)
    → ((a b : ℕ) → has_entry_to nat_eq one.tree a object ≡ true → has_entry_to nat_eq one.tree b object ≡ true → a ≡ b)
    → directory_of_name nat_eq one object ≡ directory_of_name nat_eq other object
directory_same one other same object alone =
    grind (
      arith,
      common_steps,
      first_named one.tree object one.numbers,
      one_found (λ directory. has_entry_to nat_eq
          one.tree directory object) one.numbers other.numbers same.numbers alone,
      same.tree,
      first_named other.tree object
          other.numbers,
    )
