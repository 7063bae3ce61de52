-- A task that ends takes its namespace with it, and a descriptor that is closed its inode.
use Rattle.std.proofs.Common.{◌≡◌, refl, sym, ap, subst, append_assoc, ◌∙◌, ⊎_elim, ℕ, nat_eq, eq-eqb, Bool, true, false, cond, ◌+◌, ◌||◌, List, [], ◌∷◌, ◌++◌, flat_map, map, arith, Contains, nat_le, nat_lt, ◌==◌}
use Rattle.vt_spec.proofs.Common.{Descriptor, IsWorld, Location, Task, World, all_locations, among_from_contains, and_parts, any_pair, are_ascending_from, flat_map-append, is_within_limits, locations_of, map-append, namespaces_ended, nat_eq-swapped, nat_tests, replaced_if_called, same_name, same_name-swapped, same_name_itself, with_task, without_descriptor}
use Rattle.vt_laws_later_calls.proofs.Common.{Among, among_from_list_all, none_from_among, with_tasks, without_namespace}
use Rattle.vt_laws_later_calls.specs.LastUse.{CloseTakesItsFilesystem, CloseTakesItsInode, ExitEndsItsNamespace, task_count}
use Rattle.vt_laws_later_calls.proofs.Opened.{descriptors_in_order}
use Rattle.vt_laws_later_calls.proofs.last_use.LastLocations.{location_takes_its_filesystem}
use Rattle.vt_laws_later_calls.proofs.last_use.LocationsLeft.{location_takes_its_inode}
use Rattle.vt_laws_later_calls.proofs.last_use.Namespaces.{namespace_ends_with_its_last_task}
use Rattle.vt_laws_later_calls.proofs.last_use.OneLess.{IsSplit, split_around}

-- tasks have the same name
abbrev called_alike : Task ℕ → Task ℕ → Bool
called_alike a b = same_name a.name b.name

-- the tasks around one of them
around_task : (world : World ℕ) → IsWorld nat_eq world → (task : Task ℕ) → Contains world.tasks task
    → IsSplit called_alike world.tasks task
around_task world whole task there =
    split_around called_alike (λ a. same_name_itself a.name) (λ a b. same_name-swapped a.name b.name) world.tasks
    whole.tasks.one_task task (among_from_contains world.tasks task there)

pub exit_ends_its_namespace : ExitEndsItsNamespace
exit_ends_its_namespace fresh world task whole there = subst (λ tasks. namespaces_ended nat_eq (with_tasks world tasks)
    ≡ cond (nat_lt 1 (task_count world task.namespace)) (with_tasks world tasks)
    (without_namespace (with_tasks world tasks) task.namespace)) (sym split.left)
    (namespace_ends_with_its_last_task world split.front split.back task whole.mounts whole.namespaces split.whole)
  where
    split : IsSplit called_alike world.tasks task
    split = around_task world whole task there

-- descriptors have the same number
abbrev numbered_alike : Descriptor ℕ → Descriptor ℕ → Bool
numbered_alike a b = a.number == b.number

-- those that stand in order from a number on have no smaller one
at_least : (least : ℕ) (list : List (Descriptor ℕ)) → are_ascending_from least list ≡ true → (d : Descriptor ℕ)
    → Among d list → nat_le least d.number ≡ true
at_least least [] order d m = absurd m
at_least least (first ∷ rest) order d m = ⊎_elim (λ is. cc parts.0) (λ later. between least first.number d.number
    parts.0 (at_least (first.number + 1) rest parts.1 d later)) m
  where
    parts : (nat_le least first.number ≡ true) × (are_ascending_from (first.number + 1) rest ≡ true)
    parts = and_parts (nat_le least first.number) (are_ascending_from (first.number + 1) rest) order

    between : (a b c : ℕ) → nat_le a b ≡ true → nat_le (b + 1) c ≡ true → nat_le a c ≡ true
    between a b c e f = grind (arith, nat_tests)

-- and no two of them are the same
no_two : (least : ℕ) (list : List (Descriptor ℕ)) → are_ascending_from least list ≡ true
    → any_pair numbered_alike list ≡ false
no_two least [] order = refl
no_two least (first ∷ rest) order = (λ i. none_from_among (numbered_alike first) rest
    (λ d m. apart first.number d.number (at_least (first.number + 1) rest parts.1 d m)) i
    || no_two (first.number + 1) rest parts.1 i)
  where
    parts : (nat_le least first.number ≡ true) × (are_ascending_from (first.number + 1) rest ≡ true)
    parts = and_parts (nat_le least first.number) (are_ascending_from (first.number + 1) rest) order

    apart : (a b : ℕ) → nat_le (a + 1) b ≡ true → nat_eq a b ≡ false
    apart a b e = grind (arith, nat_tests)

-- A descriptor is closed: the locations before and after
module _ {world : World ℕ} (whole : IsWorld nat_eq world) {task : Task ℕ} (there : Contains world.tasks task)
    {descriptor : Descriptor ℕ} (is_open : Contains task.descriptors descriptor) where
  abbrev closed : Task ℕ
  closed = without_descriptor task descriptor.number

  abbrev at : Descriptor ℕ → Location ℕ
  at d = d.location

  split : IsSplit called_alike world.tasks task
  split = around_task world whole task there

  of : IsSplit numbered_alike task.descriptors descriptor
  of = split_around numbered_alike (λ d. eq-eqb d.number d.number refl) (λ a b. nat_eq-swapped a.number b.number false)
      task.descriptors (no_two 0 task.descriptors (descriptors_in_order task
      (among_from_list_all is_within_limits world.tasks whole.tasks.small_tasks task
      (among_from_contains world.tasks task there))))
      descriptor (among_from_contains task.descriptors descriptor is_open)

  abbrev own : List (Descriptor ℕ) → List (Location ℕ)
  own list = task.root ∷ task.directory ∷ map at list

  abbrev ahead : List (Location ℕ)
  ahead = flat_map locations_of split.front ++ own of.front

  abbrev behind : List (Location ℕ)
  behind = map at of.back ++ flat_map locations_of split.back

  -- the locations of all tasks, by those of this one
  spread : (other : Task ℕ) (list : List (Descriptor ℕ)) → locations_of other ≡ own (of.front ++ list)
      → flat_map locations_of (split.front ++ (other ∷ split.back))
      ≡ ahead ++ (map at list ++ flat_map locations_of split.back)
  spread other list e = flat_map-append locations_of split.front (other ∷ split.back)
      ∙ ap (λ l. flat_map locations_of split.front ++ (l ++ flat_map locations_of split.back))
      (e ∙ ap (λ l. task.root ∷ task.directory ∷ l) (map-append at of.front list))
      ∙ regrouped (flat_map locations_of split.front) (own of.front) (map at list) (flat_map locations_of split.back)
    where
      regrouped : (a b c d : List (Location ℕ)) → a ++ ((b ++ c) ++ d) ≡ (a ++ b) ++ (c ++ d)
      regrouped a b c d = cc (append_assoc b c d, append_assoc a b (c ++ d))

  located_before : all_locations world ≡ ahead ++ (descriptor.location ∷ behind)
  located_before = cc (split.whole, spread task (descriptor ∷ of.back) (ap own of.whole))

  located_after : all_locations (with_task world closed) ≡ ahead ++ behind
  located_after = ap (flat_map locations_of) (split.changed (replaced_if_called closed) (λ other differs. cc)) ∙
      ap (λ b. flat_map locations_of (split.front ++ (cond b closed task ∷ split.back))) (same_name_itself task.name) ∙
      spread closed of.back (ap own of.left)

pub close_takes_its_inode : CloseTakesItsInode
close_takes_its_inode fresh world task descriptor whole there is_open plain stays =
    location_takes_its_inode world (with_task world (without_descriptor task descriptor.number)).tasks
    (ahead whole there is_open) (behind whole there is_open)
    descriptor.location whole plain (located_before whole there is_open) (located_after whole there is_open) stays

pub close_takes_its_filesystem : CloseTakesItsFilesystem
close_takes_its_filesystem fresh world task descriptor whole plain there is_open goes last =
    location_takes_its_filesystem world (with_task world (without_descriptor task descriptor.number)).tasks
    (ahead whole there is_open) (behind whole there is_open)
    descriptor.location whole plain (located_before whole there is_open) (located_after whole there is_open) goes last
