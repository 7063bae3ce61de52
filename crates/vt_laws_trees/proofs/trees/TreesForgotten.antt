-- A tree without the inodes that are not used is a tree.
use Rattle.std.proofs.Common.{arith, eqb-true, ◌≡◌, refl, sym, ap, subst, ◌∙◌, true≢false, ℕ, nat_eq, eq-eqb, Bool, true, false, cond, List, [], ◌∷◌, ◌++◌, ◌&&◌, ◌||◌, ⊎_elim, Some, None, is_some, filter, flat_map}
use Rattle.vt_spec.proofs.Common.{All-filter, All-map, All-weaker, FileTree, Filesystem, HasName, IsDirectory, IsTree, Tree, World, among_targets, any-filter_same, cases_Bool, common_steps, directory_from_entry, directory_used, entries_in, entry_at, is_among, is_among_left, is_among_right, is_overlay, is_sorted, layers_in, list_all, list_any, located_in, name_cmp, named_in, none_from_not_some, objects_of_overlay, only_among, only_used, only_used_by, only_used_of, or_right, parent_in, used_in, without_dead_filesystems, without_dead_in, without_dead_mounts}
use Rattle.vt_spec.proofs.Trees.{led_kept}
use Rattle.vt_laws_trees.specs.Trees.{HasOwnParents, IsFileTree}
use Rattle.vt_laws_trees.specs.Trees.Settling.{HasFileTrees, HoldsTree, SettlingKeepsTrees, UnusedIsGone, UsedStays}
use Rattle.vt_laws_trees.proofs.trees.TreesRearranged.{no_entries}

pub among_flat_map : (f : ℕ → List ℕ) (xs : List ℕ) (x y : ℕ) → is_among nat_eq x xs ≡ true
    → is_among nat_eq y (f x) ≡ true → is_among nat_eq y (flat_map f xs) ≡ true
among_flat_map f [] x y h k = cc
among_flat_map f (z ∷ zs) x y h k = by (nat_eq x z) refl (λ e. among_flat_map f zs x y e k) h
  where
    by : (b : Bool) → nat_eq x z ≡ b → (list_any (nat_eq x) zs ≡ true → is_among nat_eq y (flat_map f zs) ≡ true)
        → (b || list_any (nat_eq x) zs) ≡ true → is_among nat_eq y (f z ++ flat_map f zs) ≡ true
    by true same rest e = is_among_left y (f z) (flat_map f zs) (cc (eqb-true x z same))
    by false differ rest e = is_among_right y (f z) (flat_map f zs) (rest e)

-- the named ones are those that have a name
pub named_among : (files : FileTree ℕ) → IsFileTree files → (number : ℕ) → HasName files.tree number
    → is_among nat_eq number (named_in files) ≡ true
named_among files conditions number named = among_flat_map _ files.numbers named.0 number (conditions.numbers named.0
    ∙ directory_used files.tree named.0 (directory_from_entry named.1 number (files.tree.node named.0) named.2))
    (among_targets named.1 (entries_in (files.tree.node named.0)) number named.2)

module _ (used : List ℕ) (files : FileTree ℕ) (holds : HoldsTree used files) (conditions : IsFileTree files) where
  abbrev kept : Tree ℕ
  kept = (only_among nat_eq used files).tree

  abbrev IsUsed : ℕ → Type 0
  IsUsed number = is_among nat_eq number used ≡ true

  kept_node : (number : ℕ) → IsUsed number → kept.node number ≡ files.tree.node number
  kept_node number is = ap (λ b. cond b (files.tree.node number) None) is

  -- what is there is used
  kept_used : (number : ℕ) → is_some (kept.node number) ≡ true → IsUsed number
  kept_used number there = grind (arith, common_steps, is_among)

  kept_directory : (number : ℕ) → IsDirectory kept number → IsUsed number
  kept_directory number is = kept_used number (directory_used kept number is)

  was_directory : (number : ℕ) → IsDirectory kept number → IsDirectory files.tree number
  was_directory number is = cc (kept_node number (kept_directory number is))

  is_directory_kept : (number : ℕ) → IsUsed number → IsDirectory files.tree number → IsDirectory kept number
  is_directory_kept number used_there is = cc (kept_node number used_there)

  -- a directory with an entry is used: without a name it would be empty
  pub entry_used : (directory : ℕ) (name : List ℕ) (number : ℕ) → entry_at files.tree directory name ≡ Some number
      → IsUsed directory
  entry_used directory name number e = ⊎_elim (λ is. is) (λ unused. no_entries files.tree directory name
      number (conditions.tree.unnamed_empty directory (directory_from_entry name number _ e) (λ root. cc (holds.root))
      (λ named. cc (holds.named directory named))) e) (cases_Bool (is_among nat_eq directory used))

  entry_kept : (directory : ℕ) (name : List ℕ) (number : ℕ) → entry_at files.tree directory name ≡ Some number
      → entry_at kept directory name ≡ Some number
  entry_kept directory name number e = cc (kept_node directory (entry_used directory name number e), e)

  entry_was : (directory : ℕ) (name : List ℕ) (number : ℕ) → entry_at kept directory name ≡ Some number
      → entry_at files.tree directory name ≡ Some number
  entry_was directory name number e = cc (kept_node directory (kept_directory _ (directory_from_entry name number _ e)))

  name_was : (number : ℕ) → HasName kept number → HasName files.tree number
  name_was number named = (named.0, named.1, entry_was named.0 named.1 number named.2)

  name_kept : (number : ℕ) → HasName files.tree number → HasName kept number
  name_kept number named = (named.0, named.1, entry_kept named.0 named.1 number named.2)

  parent_kept : (number : ℕ) → IsUsed number
      → parent_in number (kept.node number) ≡ parent_in number (files.tree.node number)
  parent_kept number is = ap (parent_in number) (kept_node number is)

  kept_in_order : (directory : ℕ) → is_sorted name_cmp (entries_in (kept.node directory)) ≡ true
  kept_in_order directory = by (is_among nat_eq directory used)
    where
      by : (b : Bool) → is_sorted name_cmp (entries_in (cond b (files.tree.node directory) None)) ≡ true
      by true = conditions.tree.in_order directory
      by false = refl

  -- the parent of a directory that is used is used: it has an entry, or is the directory itself
  parent_used : (number : ℕ) → IsDirectory files.tree number → IsUsed number
      → IsUsed (parent_in number (files.tree.node number))
  parent_used number is used_there = ⊎_elim (λ is_used. is_used)
      (λ unused. absurd (true≢false (sym used_there ∙ ap (λ n. is_among nat_eq n used)
      (sym (conditions.own_parents number is (λ named. true≢false (sym (entry_used named.0 named.1 number named.2)
      ∙ ap (λ n. is_among nat_eq n used) (sym (conditions.tree.one_parent named.0 named.1 number named.2 is))
      ∙ unused)))) ∙ unused))) (cases_Bool (is_among nat_eq (parent_in number (files.tree.node number)) used))

  kept_tree : IsTree kept
  kept_tree = record {
    root_directory = is_directory_kept files.tree.root holds.root conditions.tree.root_directory;
    root_parent = parent_kept files.tree.root holds.root ∙ conditions.tree.root_parent;
    root_unnamed = λ d n e. conditions.tree.root_unnamed d n (entry_was d n files.tree.root e);
    in_order = kept_in_order;
    alive = λ d n k e. ap is_some (kept_node k (holds.named k (d, n, entry_was d n k e)))
        ∙ conditions.tree.alive d n k (entry_was d n k e);
    one_parent = λ d n k e is. parent_kept k (kept_directory k is)
        ∙ conditions.tree.one_parent d n k (entry_was d n k e) (was_directory k is);
    one_name = λ d n other k e f is.
        conditions.tree.one_name d n other k (entry_was d n k e) (entry_was d other k f) (was_directory k is);
    parent_directory = λ k is. subst (IsDirectory kept) (sym (parent_kept k (kept_directory k is)))
        (is_directory_kept (parent_in k (files.tree.node k)) (parent_used k (was_directory k is) (kept_directory k is))
        (conditions.tree.parent_directory k (was_directory k is)));
    reached = λ k is named.
        let way = conditions.tree.reached k (was_directory k is) (name_was k named) in
        (way.0, led_kept files.tree kept entry_kept files.tree.root way.0 k way.1);
    unnamed_empty = λ k is root unnamed. ap entries_in (kept_node k (kept_directory k is))
        ∙ conditions.tree.unnamed_empty k (was_directory k is) root (λ named. unnamed (name_kept k named));
  }

  kept_own_parents : HasOwnParents kept
  kept_own_parents k is unnamed = parent_kept k (kept_directory k is)
      ∙ conditions.own_parents k (was_directory k is) (λ named. unnamed (name_kept k named))

  kept_numbers : (k : ℕ) → is_among nat_eq k (filter (λ m. is_among nat_eq m used) files.numbers)
      ≡ is_some (kept.node k)
  kept_numbers k = any-filter_same _ _ _ (λ m same. ap (λ n. is_among nat_eq n used) (sym (eqb-true k m same))) _ ∙ by _
    where
      by : (b : Bool) → (b && is_among nat_eq k files.numbers) ≡ is_some (cond b (files.tree.node k) None)
      by true = conditions.numbers k
      by false = refl

  pub kept_file_tree : IsFileTree (only_among nat_eq used files)
  kept_file_tree = record { tree = kept_tree; numbers = kept_numbers; own_parents = kept_own_parents }

-- Worlds
module _ (world : World ℕ) (filesystem : Filesystem ℕ) where
  -- what is used, beside the root
  abbrev pub used_under_root : List ℕ
  used_under_root =
      named_in filesystem.files ++ located_in nat_eq world filesystem.number ++ layers_in nat_eq world filesystem.number
      ++ flat_map (objects_of_overlay nat_eq filesystem.number) world.filesystems

  -- what a task, a mount or a place is at is used, and so are the named
  pub among_named_or_located : (number : ℕ)
      → is_among nat_eq number (named_in filesystem.files ++ located_in nat_eq world filesystem.number) ≡ true
      → is_among nat_eq number (used_in nat_eq world filesystem) ≡ true
  among_named_or_located number h = grind (arith, common_steps, or_right, is_among_left)

  pub among_located : (number : ℕ) → is_among nat_eq number (located_in nat_eq world filesystem.number) ≡ true
      → is_among nat_eq number (used_in nat_eq world filesystem) ≡ true
  among_located number h = among_named_or_located number (is_among_right number (named_in filesystem.files) _ h)

  pub named_is_used : IsFileTree filesystem.files → HoldsTree (used_in nat_eq world filesystem) filesystem.files
  named_is_used conditions = record {
    root = ap (λ b. b || is_among nat_eq filesystem.files.tree.root used_under_root)
        (eq-eqb filesystem.files.tree.root filesystem.files.tree.root refl);
    named = λ number named. among_named_or_located number
        (is_among_left number (named_in filesystem.files) (located_in nat_eq world filesystem.number)
        (named_among filesystem.files conditions number named));
  }

pub only_used_of_is : (used : List ℕ) (filesystem : Filesystem ℕ) → HoldsTree used filesystem.files
    → IsFileTree filesystem.files → IsFileTree (only_used_of nat_eq used filesystem).files
only_used_of_is used filesystem holds conditions = by _
  where
    by : (b : Bool) → IsFileTree (only_used_by nat_eq b used filesystem).files
    by true = conditions
    by false = kept_file_tree used filesystem.files holds conditions

pub only_used_is : (world : World ℕ) (chosen : Bool) (filesystem : Filesystem ℕ) → IsFileTree filesystem.files
    → IsFileTree (only_used nat_eq world chosen filesystem).files
only_used_is world true filesystem conditions =
    only_used_of_is (used_in nat_eq world filesystem) filesystem (named_is_used world filesystem conditions) conditions
only_used_is world false filesystem conditions = conditions

pub without_dead_in_is : (chosen : Filesystem ℕ → Bool) (world : World ℕ) → HasFileTrees world
    → HasFileTrees (without_dead_in nat_eq chosen world)
without_dead_in_is chosen world trees = All-map (λ filesystem. IsFileTree filesystem.files) _
    world.filesystems (All-weaker (λ filesystem. IsFileTree filesystem.files)
    (λ filesystem. IsFileTree (only_used nat_eq world (chosen filesystem) filesystem).files)
    (λ filesystem conditions. only_used_is world (chosen filesystem) filesystem conditions) world.filesystems trees)

pub settling_keeps_trees : SettlingKeepsTrees
settling_keeps_trees world trees =
    let mounted = without_dead_mounts nat_eq world in
    let living = without_dead_filesystems nat_eq mounted in
    let trees_living : HasFileTrees living = All-filter _ (λ filesystem. IsFileTree filesystem.files) _ trees in
    without_dead_in_is _ (without_dead_in nat_eq is_overlay living) (without_dead_in_is is_overlay living trees_living)

-- what is used stays, and what is not is gone
pub used_stays : UsedStays
used_stays world filesystem number is = grind (arith, common_steps)

-- a list of which each passes has none that does not
all_pass : (test : ℕ → Bool) (xs : List ℕ) (x : ℕ) → list_all test xs ≡ true → test x ≡ false
    → is_among nat_eq x xs ≡ false
all_pass test [] x h k = refl
all_pass test (y ∷ ys) x h k = by (nat_eq x y) refl (test y) refl (λ e. all_pass test ys x e k) h
  where
    by : (b : Bool) → nat_eq x y ≡ b → (c : Bool) → test y ≡ c
        → (list_all test ys ≡ true → is_among nat_eq x ys ≡ false) → (c && list_all test ys) ≡ true
        → (b || is_among nat_eq x ys) ≡ false
    by b e false f rest h = cc
    by true e true f rest h = cc (eqb-true x y e)
    by false e true f rest h = rest h

pub unused_is_gone : UnusedIsGone
unused_is_gone world filesystem number conditions unused = by _ refl
  where
    by : (b : Bool) → list_all (λ m. is_among nat_eq m (used_in nat_eq world filesystem)) filesystem.files.numbers ≡ b
        → (only_used_by nat_eq b (used_in nat_eq world filesystem) filesystem).files.tree.node number ≡ None
    by true all = none_from_not_some _ (sym (conditions.numbers number) ∙ all_pass _ _ number all unused)
    by false all = ap (λ b. cond b (filesystem.files.tree.node number) None) unused
