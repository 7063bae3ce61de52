-- Permits that attach nothing leave no namespace with too many mounts.
use Rattle.std.proofs.Common.{◌≡◌, refl, ap, ◌∙◌, true≢false, arith, ◌⊎◌, eqb-true, eq-eqb, ℕ, nat_eq, nat_lt, Bool, true, false, List, [], ◌∷◌, ◌++◌, ◌+◌, ◌≤◌, ◌&&◌, filter, map, length, Option, Some, None, length-append}
use Rattle.vt_spec.proofs.Common.{Among, CopyUp, Fresh, IsWorld, Location, Mount, MountFlags, Namespace, Permit, Serves, Task, ToBind, ToChange, ToEnterNamespace, ToExit, ToMake, ToMountOverlay, ToMountPlain, ToMove, ToOpen, ToOpenNew, ToPivot, ToRemoveDirectory, ToRename, ToSetFlags, ToSetType, ToUnmount, ToUnmountLazily, ToUnshare, ToWritePart, TypeWord, World, among-append, among-append_right, among-from_map, among_from_list_all, among_numbers, apply, common_steps, copied_mount, evens, filter-append, has_too_many, is_among_numbers, is_copied_up, is_listed, length-map, most_mounts, mount_at, mount_numbered, mounts_of, named_mounts, namespace_entered, none_from_among, number-mount_in, numbers_by, odds, pivoted_mount, pwritten, replaced_if_same, retyped_mount, task_called, unshared, with_copy, with_new_groups, with_type, without_mounts_on, without_replaced, without_task}
use Rattle.vt_laws_mounts.proofs.mounts.MountsReplaced.{found_itself}
use Rattle.vt_laws_worlds.proofs.worlds.FewMounts.{Shrinks, StaysOrLeaves, change_shrinks, ended_few, few_of, lazily_shrinks, mapped_no_more, none_counted, not_too_many, regrouped_shrinks, shrinks_few, shrinks_itself, shrinks_then, taken_shrinks}
use Rattle.vt_laws_trees.proofs.trees.TreesTasks.{called_there}
use Rattle.vt_laws_rules.proofs.same.SameMany.{attaches}
use Rattle.vt_laws_mounts.specs.Mounts.Ending.{count_in, is_in}
use Rattle.vt_laws_trees.proofs.trees.Lists.{length-filter_le}

and_first : (a : Bool) → (a && true) ≡ true → a ≡ true
and_first true e = refl
and_first false e = e

module _ (world : World ℕ) where
  -- other flags of a mount
  flags_stay : IsWorld nat_eq world → (number : ℕ) (flags : MountFlags) (mount : Mount ℕ) → Among mount world.mounts
      → StaysOrLeaves (replaced_if_same nat_eq (record (mount_numbered nat_eq world number) { flags = flags })) mount
  flags_stay whole number flags mount m = grind (arith, common_steps, number-mount_in, eqb-true, found_itself)

  typed_stays : (group : ℕ → ℕ) (word : TypeWord) (named : List (Mount ℕ)) (mount : Mount ℕ)
      → StaysOrLeaves (retyped_mount nat_eq group word named) mount
  typed_stays group word named mount = grind (arith, common_steps)

  pub typed_shrinks : (fresh : Fresh ℕ) (number : ℕ) (word : TypeWord) (recursive : Bool)
      → Shrinks (with_type nat_eq fresh world number word recursive) world
  typed_shrinks fresh number word recursive =
      let named : List (Mount ℕ) = named_mounts nat_eq world number recursive in
      let group : (ℕ → ℕ) = numbers_by nat_eq fresh named in
      let typed : World ℕ = record world {
        mounts = map (retyped_mount nat_eq group word named) world.mounts;
        master = with_new_groups nat_eq group world.master named;
      } in
      shrinks_then world typed (with_type nat_eq fresh world number word recursive) (regrouped_shrinks typed) (
        mapped_no_more (retyped_mount nat_eq group word named) world.mounts
            (λ mount m. typed_stays group word named mount),
        refl,
      )

  pivot_stays : (root new : Mount ℕ) (put : Location ℕ) (mount : Mount ℕ) → StaysOrLeaves
      (pivoted_mount nat_eq root new put) mount
  pivot_stays root new put mount = grind (arith, common_steps)

  copy_shrinks : (b : Bool) (fresh : Fresh ℕ) (file : Location ℕ) → Shrinks (with_copy nat_eq b fresh world file) world
  copy_shrinks true fresh file = change_shrinks fresh world file (CopyUp file.node)
  copy_shrinks false fresh file = shrinks_itself world

  pwritten_shrinks : (fresh : Fresh ℕ) (file : Location ℕ) (offset : ℕ) (bytes : List ℕ)
      → Shrinks (pwritten nat_eq fresh world file offset bytes) world
  pwritten_shrinks fresh file offset [] = shrinks_itself world
  pwritten_shrinks fresh file offset (byte ∷ bytes) = change_shrinks fresh world file _

  replaced_shrinks : (o : Option (Location ℕ)) → Shrinks (without_replaced nat_eq world o) world
  replaced_shrinks None = shrinks_itself world
  replaced_shrinks (Some new) = taken_shrinks world _

-- unshare(2): the new namespace has as many mounts as the old one
module _ (fresh : Fresh ℕ) (world : World ℕ) (whole : IsWorld nat_eq world) (serves : Serves nat_eq world fresh)
    (task : Task ℕ) (called : task_called world task.name ≡ Some task) where
  abbrev new : ℕ
  new = evens fresh 0

  abbrev own : List (Mount ℕ)
  own = mounts_of nat_eq world task.namespace

  abbrev copies : List (Mount ℕ)
  copies = map (copied_mount (numbers_by nat_eq (odds fresh) own) new) own

  -- no mount is in it yet
  none_in : (mount : Mount ℕ) → Among mount world.mounts → is_in new mount ≡ false
  none_in mount m = grind (
    arith,
    common_steps,
    among_from_list_all,
    is_among_numbers,
    among_numbers,
    among-append_right,
    new,
    true≢false,
    and_first,
    eqb-true,
  )

  counts : (number : ℕ) → count_in (world.mounts ++ copies) number
      ≡ count_in world.mounts number + count_in copies number
  counts number = cc (
    filter-append (is_in number) world.mounts copies,
    length-append (filter (is_in number) world.mounts) (filter (is_in number) copies),
  )

  copy_is_new : (number : ℕ) → nat_eq number new ≡ false → (mount : Mount ℕ) → Among mount copies
      → is_in number mount ≡ false
  copy_is_new number other mount m =
      let from = among-from_map (copied_mount (numbers_by nat_eq (odds fresh) own) new) own mount m in
      ap (is_in number) from.2 ∙ other

  few_own : nat_lt most_mounts (length own) ≡ false
  few_own =
      let from = among-from_map (λ (n : Namespace ℕ). n.number) world.namespaces task.namespace
      (among_numbers (map (λ (n : Namespace ℕ). n.number) world.namespaces) task.namespace
      (among_from_list_all (λ (t : Task ℕ). is_listed nat_eq world t.namespace) world.tasks
      whole.namespaces.tasks_listed task (called_there world.tasks task.name task called))) in
      ap (λ n. nat_lt most_mounts (count_in world.mounts n)) from.2
      ∙ few_of world whole.namespaces.few_mounts from.0 from.1

  in_new : (number : ℕ) → nat_eq number new ≡ true → nat_lt most_mounts (count_in (world.mounts ++ copies) number)
      ≡ false
  in_new number e = not_too_many _ _ (bound (counts number) (cc (
    eqb-true number new e,
    none_counted world.mounts new
        none_in,
  )) (length-filter_le (is_in number) copies) (length-map own
      (copied_mount (numbers_by nat_eq (odds fresh) own) new))) few_own
    where
      bound : count_in (world.mounts ++ copies) number ≡ count_in world.mounts number + count_in copies number
          → count_in world.mounts number ≡ 0 → count_in copies number ≤ length copies → length copies ≡ length own
          → count_in (world.mounts ++ copies) number ≤ length own
      bound a b c d = omega (arith, a, b, c, d)

  in_old : (number : ℕ) → nat_eq number new ≡ false → count_in (world.mounts ++ copies) number
      ≤ count_in world.mounts number
  in_old number other =
      grind (arith, common_steps, counts number, none_counted copies number (copy_is_new number other))

  unshared_few : has_too_many nat_eq (unshared nat_eq world fresh task) ≡ false
  unshared_few = none_from_among (λ (n : Namespace ℕ). nat_lt most_mounts (count_in (world.mounts ++ copies) n.number))
      (world.namespaces ++ (record { number = new; change = 0 } ∷ [])) (λ namespace m.
      by _ _ refl (among-append world.namespaces (record { number = new; change = 0 } ∷ []) namespace m))
    where
      by : (namespace : Namespace ℕ) (b : Bool) → nat_eq namespace.number new ≡ b
          → Among namespace world.namespaces ⊎ Among namespace (record { number = new; change = 0 } ∷ [])
          → nat_lt most_mounts (count_in (world.mounts ++ copies) namespace.number) ≡ false
      by namespace b e m = grind (arith, common_steps, in_new, not_too_many, in_old, few_of, true≢false, eq-eqb)

  -- each permit
  abbrev after : Permit ℕ → World ℕ
  after permit = (apply nat_eq fresh world task permit).world

  pub few_left : (permit : Permit ℕ) → attaches permit ≡ false
      → has_too_many nat_eq (apply nat_eq fresh world task permit).world ≡ false
  few_left (ToChange location change) other =
      shrinks_few world (after (ToChange location change)) (change_shrinks fresh world location change)
      whole.namespaces.few_mounts
  few_left (ToMake directory name node) other =
      shrinks_few world (after (ToMake directory name node)) (change_shrinks (odds fresh) world directory _)
      whole.namespaces.few_mounts
  few_left (ToRemoveDirectory parent name directory) other =
      shrinks_few (without_mounts_on nat_eq world directory) (after (ToRemoveDirectory parent name directory))
      (change_shrinks fresh (without_mounts_on nat_eq world directory) parent _)
      (shrinks_few world (without_mounts_on nat_eq world directory) (taken_shrinks world _) whole.namespaces.few_mounts)
  few_left (ToRename from old to name object replaced) other =
      shrinks_few (without_replaced nat_eq world replaced) (after (ToRename from old to name object replaced))
      (change_shrinks fresh (without_replaced nat_eq world replaced) from _)
      (shrinks_few world (without_replaced nat_eq world replaced) (replaced_shrinks world replaced)
      whole.namespaces.few_mounts)
  few_left (ToOpen file access) other =
      shrinks_few world (with_copy nat_eq (is_copied_up nat_eq world file access) fresh world file)
      (copy_shrinks world (is_copied_up nat_eq world file access) fresh file) whole.namespaces.few_mounts
  few_left (ToOpenNew directory name node access) other =
      shrinks_few world (after (ToOpenNew directory name node access))
      (change_shrinks (odds fresh) world directory _) whole.namespaces.few_mounts
  few_left (ToWritePart file offset bytes) other =
      shrinks_few world (after (ToWritePart file offset bytes)) (pwritten_shrinks world
      fresh file offset bytes) whole.namespaces.few_mounts
  few_left ToExit other = ended_few (without_task world task.name) whole.namespaces.few_mounts
  few_left ToUnshare other = ended_few (unshared nat_eq world fresh task) unshared_few
  few_left (ToEnterNamespace namespace) other = ended_few (namespace_entered nat_eq world task namespace)
      whole.namespaces.few_mounts
  few_left (ToMountPlain place flags) other = absurd (true≢false other)
  few_left (ToMountOverlay place overlay flags) other = absurd (true≢false other)
  few_left (ToBind source place recursive) other = absurd (true≢false other)
  few_left (ToMove mount place) other = absurd (true≢false other)
  few_left (ToUnmount mount) other = shrinks_few world (after (ToUnmount mount))
      (taken_shrinks world _) whole.namespaces.few_mounts
  few_left (ToUnmountLazily mount) other = shrinks_few world (after (ToUnmountLazily mount))
      (lazily_shrinks world mount) whole.namespaces.few_mounts
  few_left (ToSetFlags mount flags) other = shrinks_few world (after (ToSetFlags mount flags)) (
    mapped_no_more (replaced_if_same nat_eq (record (mount_numbered nat_eq world mount) { flags = flags })) world.mounts
        (flags_stay world whole mount flags),
    refl,
  ) whole.namespaces.few_mounts
  few_left (ToSetType mount word recursive) other =
      shrinks_few world (after (ToSetType mount word recursive)) (typed_shrinks world fresh mount word
      recursive) whole.namespaces.few_mounts
  few_left (ToPivot root put) other = shrinks_few world (after (ToPivot root put)) (
    mapped_no_more (pivoted_mount nat_eq (mount_at nat_eq world task.root)
        (mount_numbered nat_eq world root) put) world.mounts
        (λ mount m. pivot_stays world (mount_at nat_eq world task.root) (mount_numbered nat_eq world root) put mount),
    refl,
  ) whole.namespaces.few_mounts
  few_left permit other = whole.namespaces.few_mounts
