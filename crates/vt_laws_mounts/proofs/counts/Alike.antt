-- Worlds that differ in change numbers and in the order of numbers have the same counts.
use Rattle.std.proofs.Common.{◌≡◌, refl, sym, ap, ◌∙◌, ℕ, ◌+◌, nat_eq, List, [], ◌∷◌, ◌++◌, filter, map, find, flat_map, Option, unwrap_or, arith, filter_map, option_to_list, sum_by}
use Rattle.vt_spec.proofs.Common.{Filesystem, Node, SameFilesystem, SameFilesystems, SameWorlds, Task, World, all_locations, common_steps, filesystem_numbered, layers_in, layers_of, length_permutation, located_in, locations_of, no_filesystem, objects_of_overlay, of_overlay, root_of, sum_by-IsPermutation, sum_by-cons, targets_in}
use Rattle.vt_laws_mounts.proofs.letting_go.Lists.{flat_map-map}
use Rattle.vt_laws_mounts.proofs.counts.counting.Entries.{named_by, one_if}
use Rattle.vt_laws_mounts.proofs.counts.counting.Times.{times_append, times_in}
use Rattle.vt_laws_mounts.specs.Counts.BesideOverlays.{AnySameWorldsCountAlike}
use Rattle.vt_laws_mounts.specs.Counts.Sweeping.{SameWorldsCountAlike}
use Rattle.vt_laws_mounts.proofs.counts.Listed.{no_repeats, once_times}
use Rattle.vt_laws_mounts.proofs.counts.using.Places.{count_in}
use Rattle.vt_laws_mounts.proofs.counts.using.Swept.{uses_are}
use Rattle.vt_laws_rules.proofs.same.SameMany.{same_filesystem_itself}

-- sums over a list do not hang on its order
times_sum : (n : ℕ) (list : List ℕ) → times_in n list ≡ sum_by (one_if n) list
times_sum n [] = refl
times_sum n (first ∷ rest) = let later = times_sum n rest in let all = sum_by-cons (one_if n) first rest in omega arith

named_sum : (n : ℕ) (node : ℕ → Option (Node ℕ)) (list : List ℕ)
    → times_in n (named_by node list) ≡ sum_by (λ d. times_in n (targets_in (node d))) list
named_sum n node [] = refl
named_sum n node (first ∷ rest) =
    grind (arith, common_steps, sum_by-cons, times_in, named_by, times_append, named_sum n node rest)

found_same : (ones others : List (Filesystem ℕ)) → SameFilesystems ones others → (k : ℕ)
    → SameFilesystem (unwrap_or (find (λ f. nat_eq k f.number) ones) (no_filesystem k))
    (unwrap_or (find (λ f. nat_eq k f.number) others) (no_filesystem k))
found_same [] [] same k = same_filesystem_itself _
found_same [] (other ∷ others) same k = absurd same
found_same (one ∷ ones) [] same k = absurd same
found_same (one ∷ ones) (other ∷ others) same k = grind (arith, common_steps, found_same ones others same.1 k)

-- overlays have the same layers, and in each filesystem the same objects, as often
layers_same : (ones others : List (Filesystem ℕ)) → SameFilesystems ones others
    → flat_map (of_overlay [] layers_of) ones ≡ flat_map (of_overlay [] layers_of) others
layers_same [] [] same = refl
layers_same [] (other ∷ others) same = absurd same
layers_same (one ∷ ones) [] same = absurd same
layers_same (one ∷ ones) (other ∷ others) same = grind (arith, common_steps, layers_same ones others same.1)

objects_sum : (n : ℕ) (object : ℕ → Option ℕ) (list : List ℕ)
    → times_in n (filter_map object list) ≡ sum_by (λ d. times_in n (option_to_list (object d))) list
objects_sum n object [] = refl
objects_sum n object (first ∷ rest) = grind (arith, common_steps, sum_by-cons, times_in, objects_sum n object rest)

objects_one : (k n : ℕ) (one other : Filesystem ℕ) → SameFilesystem one other
    → times_in n (objects_of_overlay nat_eq k one) ≡ times_in n (objects_of_overlay nat_eq k other)
objects_one k n one other same = grind (arith, common_steps, times_in, objects_sum, sum_by-IsPermutation)

objects_same : (k n : ℕ) (ones others : List (Filesystem ℕ)) → SameFilesystems ones others
    → times_in n (flat_map (objects_of_overlay nat_eq k) ones)
    ≡ times_in n (flat_map (objects_of_overlay nat_eq k) others)
objects_same k n [] [] same = refl
objects_same k n [] (other ∷ others) same = absurd same
objects_same k n (one ∷ ones) [] same = absurd same
objects_same k n (one ∷ ones) (other ∷ others) same =
    grind (arith, common_steps, times_append, objects_one, objects_same k n ones others same.1)

module _ (one other : World ℕ) (same : SameWorlds one other) where
  same_locations : all_locations one ≡ all_locations other
  same_locations =
      sym (flat_map-map (λ (task : Task ℕ). record task { change = 0 }) locations_of one.tasks (λ task. refl))
      ∙ ap (λ tasks. flat_map locations_of tasks) same.tasks
      ∙ flat_map-map (λ (task : Task ℕ). record task { change = 0 }) locations_of other.tasks (λ task. refl)

  same_located : (k n : ℕ) → times_in n (located_in nat_eq one k) ≡ times_in n (located_in nat_eq other k)
  same_located k n = (λ i. count_in (same.mounts i) k n (same_locations i ++ map root_of (same.mounts i)
      ++ filter_map (λ mount. mount.mount_point) (same.mounts i)))

pub any_same_worlds_count_alike : AnySameWorldsCountAlike
any_same_worlds_count_alike one other k inodes same counted = record {
  root = cc (counted.root, alike.files.tree);
  node = λ n. cc (counted.node n, alike.files.tree);
  uses = λ n. counted.uses n ∙ uses_are one f n
      ∙ (λ i. (one_if n (alike.files.tree i).root + ((times_in n (located_in nat_eq one (alike.number i))
      + times_in n (layers_in nat_eq one (alike.number i)))
      + times_in n (flat_map (objects_of_overlay nat_eq (alike.number i)) one.filesystems)))
      + times_in n (named_by (alike.files.tree i).node f.files.numbers))
      ∙ (λ i. (one_if n g.files.tree.root + ((same_located one other same g.number n i
      + times_in n (map (λ layer. layer.directory) (filter (λ layer. nat_eq g.number layer.filesystem)
      (layers_same one.filesystems other.filesystems same.filesystems i))))
      + objects_same g.number n one.filesystems other.filesystems same.filesystems i)) + named_alike n i)
      ∙ sym (uses_are other g n);
  count = counted.count ∙ sym (length_permutation f.files.numbers g.files.numbers alike.files.numbers);
  once = no_repeats g.files.numbers
      (λ n. let few = once_times n f.files.numbers counted.once in let e = times_alike n in omega arith);
}
  where
    f : Filesystem ℕ
    f = filesystem_numbered nat_eq one k

    g : Filesystem ℕ
    g = filesystem_numbered nat_eq other k

    alike : SameFilesystem f g
    alike = found_same _ _ same.filesystems k

    named_alike : (n : ℕ) → times_in n (named_by g.files.tree.node f.files.numbers)
        ≡ times_in n (named_by g.files.tree.node g.files.numbers)
    named_alike n = named_sum n g.files.tree.node f.files.numbers ∙ sym (sum_by-IsPermutation _ _ _ alike.files.numbers)
        ∙ sym (named_sum n g.files.tree.node g.files.numbers)

    times_alike : (n : ℕ) → times_in n f.files.numbers ≡ times_in n g.files.numbers
    times_alike n = cc (times_sum n _, sum_by-IsPermutation _ _ _ alike.files.numbers)

pub same_worlds_count_alike : SameWorldsCountAlike
same_worlds_count_alike one other k inodes same plain counted =
    any_same_worlds_count_alike one other k inodes same counted
