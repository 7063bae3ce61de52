-- The parts of a set of tasks in two worlds that are alike.
use Rattle.std.proofs.Common.{◌≡◌, ap, subst, ◌∙◌, ℕ, nat_eq, Bool, true, false, cond, ◌&&◌, ◌||◌, List, [], ◌∷◌, filter, filter_map, flat_map, Option, Some, None, IsPermutation}
use Rattle.vt_spec.proofs.Common.{FileTree, Filesystem, Layer, Mount, Namespace, Overlay, SameFiles, SameFilesystem, Task, TaskName, World, cons_option, filesystem_numbered, holds_of, is_among, is_at, is_member_of, is_own_namespace, lies_in_layer, lies_in_own_lower, list_any, list_any-IsPermutation, locations, members, only_among, overlay_or, own_lowers, part_of, part_of_filesystem, part_of_lower, part_of_master, part_of_mount, roots_and_directories, seen_by_descriptor, when}
use Rattle.vt_laws_containers.proofs.Common.{Alike, Each, IfAny, SameTask, alike_from_same, directly_same, each_filter, each_flat, found_alike, members_alike, mounts_of_one, own_same, places_same, same_from_alike, used_same, with_mounts_of}
use Rattle.vt_laws_rules.proofs.same.SameFiles.{under_same}
use Rattle.vt_laws_trees.proofs.runs.Permuted.{IsPermutation-filter}
use Rattle.vt_laws_containers.specs.SameSets.Sets.{SameWorldsHaveSameParts}

-- what is kept of each of two lists, where of each two elements the like is kept
module _ {A B : Type 0} (R : A → A → Type 0) (S : B → B → Type 0) (f g : A → Option B)
    (alike : (a b : A) → R a b → IfAny S (f a) (g b)) where
  kept : (one other : Option B) (ones others : List B) → IfAny S one other → Each S ones others
      → Each S (cons_option one ones) (cons_option other others)
  kept None None ones others first rest = rest
  kept None (Some b) ones others first rest = absurd first
  kept (Some a) None ones others first rest = absurd first
  kept (Some a) (Some b) ones others first rest = (first, rest)

  each_filter_map : (ones others : List A) → Each R ones others → Each S (filter_map f ones) (filter_map g others)
  each_filter_map [] [] each = tt
  each_filter_map [] (b ∷ others) each = absurd each
  each_filter_map (a ∷ ones) [] each = absurd each
  each_filter_map (a ∷ ones) (b ∷ others) each = kept (f a) (g b) _ _ (alike a b each.0) (each_filter_map ones _ each.1)

-- a tree with the numbers that pass alone
files_among : (one other : FileTree ℕ) → SameFiles one other → (test again : ℕ → Bool) → test ≡ again
    → SameFiles (only_among nat_eq (filter test one.numbers) one) (only_among nat_eq (filter again other.numbers) other)
files_among one other same test again alike = record {
  tree = λ i. record {
    root = (same.tree i).root;
    node = λ number. cond (among number i) ((same.tree i).node number) None;
  };
  numbers = subst (IsPermutation (filter (λ number. is_among nat_eq number (filter test one.numbers)) one.numbers))
      (λ i. filter (λ number. among number i) other.numbers)
      (IsPermutation-filter (λ number. is_among nat_eq number (filter test one.numbers)) one.numbers other.numbers
      same.numbers);
}
  where
    among : (number : ℕ)
        → is_among nat_eq number (filter test one.numbers) ≡ is_among nat_eq number (filter again other.numbers)
    among number = list_any-IsPermutation _ _ _ (IsPermutation-filter test _ _ same.numbers)
        ∙ (λ i. is_among nat_eq number (filter (alike i) other.numbers))

-- Two worlds with the very same mounts
module _ (one other : World ℕ) (same : Alike one (with_mounts_of one other)) (names : List TaskName) where
  abbrev second : World ℕ
  second = with_mounts_of one other

  bases_same : roots_and_directories (members one names) ≡ roots_and_directories (members second names)
  bases_same = each_flat SameTask (λ task. task.root ∷ task.directory ∷ []) (λ task. task.root ∷ task.directory ∷ [])
      (λ a b alike. ap (λ (task : Task ℕ). task.root ∷ task.directory ∷ []) alike) (members one names)
      (members second names) (members_alike one other same names)

  located_same : locations (members one names) ≡ locations (members second names)
  located_same = places_same one other same names _ _ (members_alike one other same names)

  mount_same : part_of_mount nat_eq one names ≡ part_of_mount nat_eq second names
  mount_same = λ i mount.
      cond (holds_of (own_same one other same names i) mount.namespace || is_at nat_eq (bases_same i) mount)
      (Some mount) (when (is_at nat_eq (located_same i) mount) (seen_by_descriptor mount))

  master_same : part_of_master nat_eq one names ≡ part_of_master nat_eq second names
  master_same = λ i group. cond (list_any (is_member_of nat_eq group)
      (filter (λ (mount : Mount ℕ). holds_of (own_same one other same names i) mount.namespace) one.mounts))
      (one.master group) None

  lowers_at : (number : ℕ)
      → overlay_or [] (λ (overlay : Overlay ℕ). overlay.lowers) (filesystem_numbered nat_eq one number).overlay
      ≡ overlay_or [] (λ (overlay : Overlay ℕ). overlay.lowers) (filesystem_numbered nat_eq second number).overlay
  lowers_at number = ap (overlay_or [] (λ (overlay : Overlay ℕ). overlay.lowers)) (found_alike one _ same _).overlay

  lowers_same : own_lowers nat_eq one names ≡ own_lowers nat_eq second names
  lowers_same = λ i. flat_map (λ number. lowers_at number i) (directly_same one other same names i)

  lies_same : (filesystem object : ℕ) (layer : Layer ℕ)
      → lies_in_layer nat_eq one filesystem object layer ≡ lies_in_layer nat_eq second filesystem object layer
  lies_same filesystem object layer = ap (λ b. nat_eq filesystem layer.filesystem && b)
      (under_same _ _ (found_alike one second same filesystem).files layer.directory object)

  lower_same : (a b : ℕ) → a ≡ b → lies_in_own_lower nat_eq one names a ≡ lies_in_own_lower nat_eq second names b
  lower_same a b alike = (λ i object. list_any (λ layer. lies_same a object layer i) (lowers_same i))
      ∙ ap (lies_in_own_lower nat_eq second names) alike

  lower_alike : (a b : Filesystem ℕ) → SameFilesystem a b
      → SameFilesystem (part_of_lower nat_eq one names a) (part_of_lower nat_eq second names b)
  lower_alike a b alike = record {
    number = alike.number;
    files = files_among _ _ alike.files _ _ (lower_same _ _ alike.number);
    overlay = alike.overlay;
  }

  -- whole, by its lower layers, or not there
  by_tests : (a b : Filesystem ℕ) → SameFilesystem a b → (used lower : Bool)
      → IfAny SameFilesystem (cond used (Some a) (when lower (part_of_lower nat_eq one names a)))
      (cond used (Some b) (when lower (part_of_lower nat_eq second names b)))
  by_tests a b alike true lower = alike
  by_tests a b alike false true = lower_alike a b alike
  by_tests a b alike false false = tt

  filesystem_alike : (a b : Filesystem ℕ) → SameFilesystem a b
      → IfAny SameFilesystem (part_of_filesystem nat_eq one names a) (part_of_filesystem nat_eq second names b)
  filesystem_alike a b alike = subst (IfAny SameFilesystem (part_of_filesystem nat_eq one names a))
      (λ i. cond (is_among nat_eq (alike.number i) (used_same one other same names i)) (Some b)
      (when (list_any (λ (layer : Layer ℕ). nat_eq (alike.number i) layer.filesystem) (lowers_same i))
      (part_of_lower nat_eq second names b))) (by_tests a b alike _ _)

  part_alike : Alike (part_of nat_eq one names) (part_of nat_eq second names)
  part_alike = record {
    mounts = λ i. filter_map (mount_same i) one.mounts;
    master = master_same;
    filesystems = each_filter_map _ _ _ _ filesystem_alike _ _ same.filesystems;
    namespaces = each_filter _ (λ (namespace : Namespace ℕ). is_own_namespace nat_eq one names namespace.number)
        (λ (namespace : Namespace ℕ). is_own_namespace nat_eq second names namespace.number)
        (λ a b alike. λ i. own_same one other same names i (alike i).number) one.namespaces other.namespaces
        same.namespaces;
    tasks = members_alike one other same names;
  }

pub same_worlds_have_same_parts : SameWorldsHaveSameParts
same_worlds_have_same_parts one other same names = same_from_alike _ _
    (mounts_of_one (λ world. Alike one world → Alike (part_of nat_eq one names) (part_of nat_eq world names)) one other
    alike (λ alike. part_alike one other alike names) alike)
  where
    alike : Alike one other
    alike = alike_from_same one other same
