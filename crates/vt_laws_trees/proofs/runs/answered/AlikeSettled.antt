-- What nothing uses goes alike in two worlds that are alike.
use Rattle.std.proofs.Common.{arith, ◌≡◌, refl, ap, subst, ◌∙◌, ℕ, nat_eq, Bool, true, false, cond, not, ◌||◌, List, [], ◌∷◌, ◌++◌, map, filter, filter_map, flat_map, Option, Some, None, is_some, option_to_list, if◌then◌else◌, IsPermutation}
use Rattle.vt_spec.proofs.Common.{FileTree, Filesystem, IsPermutation-append_left, IsPermutation-append_right, IsPermutation-cons, IsPermutation-refl, IsPermutation-trans, Location, Mount, Namespace, Overlay, SameFiles, SameFilesystem, Task, TaskName, World, common_steps, filesystem_lives, holds_of, is_among, is_overlay, layers_in, layers_of, list_all, list_any, list_any-IsPermutation, located_in, mount_in, numbers_raised, objects_of_overlay, of_overlay, only_among, only_used, only_used_by, only_used_of, overlay_or, root_of, settled, targets_in, upper_object, used_in, without_dead_filesystems, without_dead_groups, without_dead_in, without_dead_inodes, without_dead_mounts}
use Rattle.vt_laws_trees.proofs.runs.answered.AlikeChanges.{locations_same}
use Rattle.vt_laws_trees.proofs.runs.answered.AlikeMounts.{with_mounts_alike}
use Rattle.vt_laws_trees.proofs.runs.answered.AlikeWorlds.{Alike, SameNamespace, SameTask}
use Rattle.vt_laws_trees.proofs.runs.Each.{Each, each_any, each_filter, each_flat, each_map}
use Rattle.vt_laws_trees.proofs.runs.Permuted.{IsPermutation-filter, IsPermutation-flat_map, list_all-IsPermutation}

filter_map_as_flat_map : {A B : Type 0} (h : A → Option B) (xs : List A)
    → filter_map h xs ≡ flat_map (λ x. option_to_list (h x)) xs
filter_map_as_flat_map h [] = refl
filter_map_as_flat_map h (x ∷ xs) = grind (arith, common_steps, filter_map_as_flat_map h xs)

filter_map_permuted : {A B : Type 0} (h : A → Option B) (xs ys : List A) → IsPermutation xs ys
    → IsPermutation (filter_map h xs) (filter_map h ys)
filter_map_permuted h xs ys permuted = rw (filter_map_as_flat_map h xs, filter_map_as_flat_map h ys)
    (IsPermutation-flat_map (λ x. option_to_list (h x)) xs ys permuted)

-- what is made of two lists, where of each two elements the same is made in another order
each_permuted : {A B C : Type 0} (R : A → B → Type 0) (f : A → List C) (g : B → List C)
    → ((a : A) (b : B) → R a b → IsPermutation (f a) (g b)) → (ones : List A) (others : List B)
    → Each R ones others → IsPermutation (flat_map f ones) (flat_map g others)
each_permuted R f g alike [] [] each = IsPermutation-refl []
each_permuted R f g alike [] (b ∷ others) each = absurd each
each_permuted R f g alike (a ∷ ones) [] each = absurd each
each_permuted R f g alike (a ∷ ones) (b ∷ others) each =
    IsPermutation-trans _ _ _ (IsPermutation-append_left (flat_map f ones) _ _ (alike a b each.0))
    (IsPermutation-append_right (g b) _ _ (each_permuted R f g alike ones others each.1))

-- the upper inodes that are real objects of an overlay
abbrev pub objects_by : ℕ → Filesystem ℕ → Overlay ℕ → List ℕ
objects_by filesystem merged overlay = if holds_of (λ layer. nat_eq filesystem layer.filesystem) overlay.upper
    then filter_map (λ number. upper_object (overlay.real number)) merged.files.numbers else []

-- the numbers in use are the same in another order
abbrev pub SameAmong : List ℕ → List ℕ → Type 0
SameAmong used again = (number : ℕ) → is_among nat_eq number used ≡ is_among nat_eq number again

pub among_alike : (one other : FileTree ℕ) → SameFiles one other → (used again : List ℕ) → SameAmong used again
    → SameFiles (only_among nat_eq used one) (only_among nat_eq again other)
among_alike one other same used again among = record {
  tree = λ i. record {
    root = (same.tree i).root;
    node = λ number. cond (among number i) ((same.tree i).node number) None;
  };
  numbers = subst (IsPermutation (filter (λ number. is_among nat_eq number used) one.numbers))
      (λ i. filter (λ number. among number i) other.numbers) (IsPermutation-filter _ one.numbers _ same.numbers);
}

used_alike : (one other : Filesystem ℕ) → SameFilesystem one other → (used again : List ℕ) → SameAmong used again
    → SameFilesystem (only_used_of nat_eq used one) (only_used_of nat_eq again other)
used_alike one other same used again among =
    subst (λ b. SameFilesystem (only_used_of nat_eq used one) (only_used_by nat_eq b again other)) all_alike (by _)
  where
    all_alike : list_all (λ number. is_among nat_eq number used) one.files.numbers
        ≡ list_all (λ number. is_among nat_eq number again) other.files.numbers
    all_alike = list_all-IsPermutation (λ number. is_among nat_eq number used) one.files.numbers other.files.numbers
        same.files.numbers ∙ (λ i. list_all (λ number. among number i) other.files.numbers)

    by : (b : Bool) → SameFilesystem (only_used_by nat_eq b used one) (only_used_by nat_eq b again other)
    by b = grind (arith, common_steps, among_alike)

module _ (one other : World ℕ) (same : Alike one other) where
  layers_same : (a b : ℕ) → a ≡ b → layers_in nat_eq one a ≡ layers_in nat_eq other b
  layers_same a b alike = λ i. map (λ layer. layer.directory) (filter (λ layer. nat_eq (alike i) layer.filesystem)
      (each_flat SameFilesystem (of_overlay [] layers_of) (of_overlay [] layers_of)
      (λ first second known. ap (overlay_or [] layers_of) known.overlay)
      one.filesystems other.filesystems same.filesystems i))

  objects_permuted : (a b : ℕ) → a ≡ b → IsPermutation (flat_map (objects_of_overlay nat_eq a) one.filesystems)
      (flat_map (objects_of_overlay nat_eq b) other.filesystems)
  objects_permuted a b alike = subst (λ n. IsPermutation (flat_map (objects_of_overlay nat_eq a) one.filesystems)
      (flat_map (objects_of_overlay nat_eq n) other.filesystems)) alike (each_permuted SameFilesystem
      (objects_of_overlay nat_eq a) _ of_one one.filesystems other.filesystems same.filesystems)
    where
      by : (b : Bool) (overlay : Overlay ℕ) (first second : List ℕ) → IsPermutation first second
          → IsPermutation (cond b (filter_map (λ number. upper_object (overlay.real number)) first) [])
          (cond b (filter_map (λ number. upper_object (overlay.real number)) second) [])
      by true overlay first second permuted = filter_map_permuted _ first second permuted
      by false overlay first second permuted = IsPermutation-refl []

      over : (first second : Filesystem ℕ) → SameFilesystem first second → (overlay : Option (Overlay ℕ))
          → IsPermutation (overlay_or [] (objects_by a first) overlay) (overlay_or [] (objects_by a second) overlay)
      over first second known None = IsPermutation-refl []
      over first second known (Some overlay) = by _ overlay first.files.numbers second.files.numbers known.files.numbers

      of_one : (first second : Filesystem ℕ) → SameFilesystem first second
          → IsPermutation (objects_of_overlay nat_eq a first) (objects_of_overlay nat_eq a second)
      of_one first second known = subst (λ overlay. IsPermutation (objects_of_overlay nat_eq a first)
          (overlay_or [] (objects_by a second) overlay)) known.overlay (over first second known first.overlay)

  located_same : (a b : ℕ) → a ≡ b → located_in nat_eq one a ≡ located_in nat_eq other b
  located_same a b alike = λ i. map (λ (location : Location ℕ). location.node)
      (filter (λ (location : Location ℕ). nat_eq (alike i) (mount_in nat_eq (same.mounts i) location.mount).filesystem)
      (locations_same one other same i ++ map root_of (same.mounts i)
      ++ filter_map (λ (mount : Mount ℕ). mount.mount_point) (same.mounts i)))

  pub used_permuted : (a b : Filesystem ℕ) → SameFilesystem a b
      → IsPermutation (used_in nat_eq one a) (used_in nat_eq other b)
  used_permuted a b alike = subst (IsPermutation (used_in nat_eq one a)) (λ i. (alike.files.tree i).root ∷ (flat_map
      (λ directory. targets_in ((alike.files.tree i).node directory)) b.files.numbers ++ located_same a.number b.number
      alike.number i ++ layers_same a.number b.number alike.number i ++ flat_map (objects_of_overlay nat_eq b.number)
      other.filesystems)) (IsPermutation-cons a.files.tree.root _ _ (IsPermutation-trans _ _ _
      (IsPermutation-append_left (flat_map (objects_of_overlay nat_eq a.number) one.filesystems) _ _
      (IsPermutation-append_left (layers_in nat_eq one a.number) _ _ (IsPermutation-append_left
      (located_in nat_eq one a.number) _ _ (IsPermutation-flat_map _ a.files.numbers _ alike.files.numbers))))
      (IsPermutation-append_right (flat_map (λ directory. targets_in (a.files.tree.node directory)) b.files.numbers
      ++ located_in nat_eq one a.number ++ layers_in nat_eq one a.number) _ _ (objects_permuted _ _ alike.number))))

  only_used_alike : (b : Bool) (first second : Filesystem ℕ) → SameFilesystem first second
      → SameFilesystem (only_used nat_eq one b first) (only_used nat_eq other b second)
  only_used_alike true first second alike =
      used_alike first second alike (used_in nat_eq one first) (used_in nat_eq other second)
      (λ number. list_any-IsPermutation (nat_eq number) (used_in nat_eq one first) (used_in nat_eq other second)
      (used_permuted first second alike))
  only_used_alike false first second alike = alike

  without_dead_in_alike : (chosen : Filesystem ℕ → Bool)
      → ((first second : Filesystem ℕ) → SameFilesystem first second → chosen first ≡ chosen second)
      → Alike (without_dead_in nat_eq chosen one) (without_dead_in nat_eq chosen other)
  without_dead_in_alike chosen by_one = record {
    mounts = same.mounts;
    master = same.master;
    filesystems = each_map SameFilesystem SameFilesystem _ _ (λ first second alike. subst
        (λ b. SameFilesystem (only_used nat_eq one (chosen first) first) (only_used nat_eq other b second))
        (by_one first second alike) (only_used_alike (chosen first) first second alike)) _ _ same.filesystems;
    namespaces = same.namespaces;
    tasks = same.tasks;
  }

  without_dead_mounts_alike : Alike (without_dead_mounts nat_eq one) (without_dead_mounts nat_eq other)
  without_dead_mounts_alike = with_mounts_alike one other same _ _
      (λ i. filter (λ (mount : Mount ℕ). is_some mount.namespace
      || list_any (λ (location : Location ℕ). nat_eq mount.number location.mount) (locations_same one other same i))
      (same.mounts i))

  abbrev is_shown : List (Mount ℕ) → ℕ → Bool
  is_shown mounts filesystem = list_any (λ (mount : Mount ℕ). nat_eq filesystem mount.filesystem) mounts

  pub lives_same : (first second : Filesystem ℕ) → SameFilesystem first second
      → filesystem_lives nat_eq one first ≡ filesystem_lives nat_eq other second
  lives_same first second alike = grind (arith, common_steps, each_any)

  without_dead_filesystems_alike : Alike (without_dead_filesystems nat_eq one) (without_dead_filesystems nat_eq other)
  without_dead_filesystems_alike = record {
    mounts = same.mounts;
    master = same.master;
    filesystems = each_filter SameFilesystem _ _ lives_same one.filesystems other.filesystems same.filesystems;
    namespaces = same.namespaces;
    tasks = same.tasks;
  }

  without_dead_groups_alike : Alike (without_dead_groups nat_eq one) (without_dead_groups nat_eq other)
  without_dead_groups_alike = grind (arith, common_steps)

without_dead_inodes_alike : (one other : World ℕ) → Alike one other
    → Alike (without_dead_inodes nat_eq one) (without_dead_inodes nat_eq other)
without_dead_inodes_alike one other same = without_dead_in_alike (without_dead_in nat_eq is_overlay one) _
    (without_dead_in_alike one other same is_overlay (λ first second alike. ap is_some alike.overlay)) _
    (λ first second alike. ap (λ overlay. not (is_some overlay)) alike.overlay)

pub settled_alike : (one other : World ℕ) → Alike one other → Alike (settled nat_eq one) (settled nat_eq other)
settled_alike one other same = without_dead_groups_alike _ _ (without_dead_inodes_alike _ _
    (without_dead_filesystems_alike _ _ (without_dead_mounts_alike one other same)))

-- Change numbers, however they are raised
filesystem_raised : (a b : Filesystem ℕ) → SameFilesystem a b → (raise again : Bool) (change other : ℕ)
    → SameFilesystem (cond raise (record a { change = change }) a) (cond again (record b { change = other }) b)
filesystem_raised a b alike raise again change other = grind (arith, common_steps)

namespace_raised : (a b : Namespace ℕ) → SameNamespace a b → (keep again : Bool) (change other : ℕ)
    → SameNamespace (cond keep a (record a { change = change })) (cond again b (record b { change = other }))
namespace_raised a b alike true true change other = alike
namespace_raised a b alike true false change other = alike
namespace_raised a b alike false true change other = alike
namespace_raised a b alike false false change other = alike

task_raised : (a b : Task ℕ) → SameTask a b → (raise again : Bool) (change other : ℕ)
    → SameTask (cond raise (record a { change = change }) a) (cond again (record b { change = other }) b)
task_raised a b alike true true change other = alike
task_raised a b alike true false change other = alike
task_raised a b alike false true change other = alike
task_raised a b alike false false change other = alike

pub raised_alike : (before again : World ℕ) (name : TaskName) (changed others : List ℕ) (one other : World ℕ)
    → Alike one other
    → Alike (numbers_raised nat_eq before name changed one) (numbers_raised nat_eq again name others other)
raised_alike before again name changed others one other same = record {
  mounts = same.mounts;
  master = same.master;
  filesystems = each_map SameFilesystem _ _ _ (λ a b alike. filesystem_raised a b alike _ _ _ _) _ _ same.filesystems;
  namespaces = each_map SameNamespace _ _ _ (λ a b alike. namespace_raised a b alike _ _ _ _) _ _ same.namespaces;
  tasks = each_map SameTask SameTask _ _ (λ a b alike. task_raised a b alike _ _ _ _) one.tasks other.tasks same.tasks;
}
