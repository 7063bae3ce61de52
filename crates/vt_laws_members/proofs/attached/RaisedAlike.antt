-- Where a set sees the same after a change of mounts, masters and filesystems in the world and in its part, the worlds
-- that are left have one part, with their change numbers.
use Rattle.std.proofs.Common.{arith, ◌≡◌, refl, sym, ap, ◌∙◌, ⊎_elim, ℕ, nat_eq, Bool, true, cond, true≢false, List, [], ◌∷◌, Option, Some, None, filter, map, eqb-true}
use Rattle.vt_spec.proofs.Common.{Among, Filesystem, Mount, Namespace, Task, TaskName, World, among-filter, among-from_filter, common_steps, holds_of, is_at, is_member_task, is_own_mount, list_any, locations_of, map_alike, map_same, master_above, members, mounts_of, numbers_raised, or_left, own_mounts, part_of, raised, raised_if_changed, raised_namespace, raised_task, roots_and_directories, same_mount, same_mounts_in, source_of, then_some}
use Rattle.vt_laws_members.proofs.Common.{IsSealed, filter-map, filter_again, filter_both, is_own, keep, kept_how, kept_whole, same_members}
use Rattle.vt_laws_members.proofs.changes.Common.{heard_by_own, master_same, own_in, raised_is, raised_number, retasked, same_list_alike, sees_alike, space_in_part}

-- the namespaces of these tasks
abbrev pub spaces : List (Task ℕ) → Namespace ℕ → Bool
spaces tasks n = list_any (λ (t : Task ℕ). nat_eq n.number t.namespace) tasks

-- the part of a world with other namespaces, in which a task's change number is raised
pub part_respaced : (w : World ℕ) (names : List TaskName) (name : TaskName) (namespaces : List (Namespace ℕ))
    → part_of nat_eq (record w {
      namespaces = namespaces;
      tasks = map (raised_task name) w.tasks;
      change = raised w.change;
    }) names ≡ record (part_of nat_eq w names) {
      namespaces = filter (spaces (members w names)) namespaces;
      tasks = filter (is_member_task names) (map (raised_task name) w.tasks);
    }
part_respaced w names name namespaces =
    retasked (record w { namespaces = namespaces }) names names (map (raised_task name) w.tasks) (raised w.change)
    (sees_alike (record w { namespaces = namespaces }) names (raised_task name)
    (raised_is name (λ (t : Task ℕ). t.name) (λ t. refl))
    (λ t m. raised_is name (λ (t : Task ℕ). t.namespace) (λ t. refl) t)
    (λ t m. raised_is name (λ (t : Task ℕ). t.root ∷ t.directory ∷ []) (λ t. refl) t) (raised w.change)
    (λ t m. raised_is name locations_of (λ t. refl) t))

-- the tasks of the set, with the caller's change number raised
pub raised_members_alike : (world : World ℕ) (names : List TaskName) (name : TaskName)
    → filter (is_member_task names) (map (raised_task name) world.tasks)
    ≡ filter (is_member_task names) (map (raised_task name) (part_of nat_eq world names).tasks)
raised_members_alike world names name = grind (arith, common_steps, same_members, filter-map, raised_is)

-- the mount is in the namespace
abbrev its_in : ℕ → Mount ℕ → Bool
its_in n m = holds_of (nat_eq n) m.namespace

-- one of these tasks is in the namespace
abbrev has_one : List (Task ℕ) → ℕ → Bool
has_one tasks n = list_any (λ (t : Task ℕ). nat_eq n t.namespace) tasks

-- the part has the mounts of a namespace of theirs
shown_in : (w : World ℕ) (names : List TaskName) (n : ℕ) → has_one (members w names) n ≡ true
    → mounts_of nat_eq (part_of nat_eq w names) n ≡ mounts_of nat_eq w n
shown_in w names n own = filter_both (keep w names theirs) (its_in n) (its_in n) w.mounts (λ m at h. (
  kept_whole w names theirs m
      (or_left (is_own w names theirs m) (is_at nat_eq (roots_and_directories theirs) m) (its m h)),
  h,
)) (λ m y at h e. ⊎_elim (λ same. ap (its_in n) (sym same) ∙ h) (λ stub. ap (its_in n) (sym stub.0))
    (kept_how w names theirs m y e))
  where
    theirs : List (Task ℕ)
    theirs = members w names

    its : (m : Mount ℕ) → its_in n m ≡ true → is_own w names (members w names) m ≡ true
    its m = grind (arith, common_steps, true≢false, eqb-true)

-- masters of groups of theirs, in the part
module _ {world : World ℕ} {names : List TaskName} (sealing : IsSealed world names) where
  pub above_in_part : (m : Mount ℕ) → Among m (own_mounts nat_eq world names)
      → master_above (part_of nat_eq world names) m ≡ master_above world m
  above_in_part m n = by (source_of m.propagation) refl
    where
      by : (o : Option ℕ) → source_of m.propagation ≡ o
          → then_some o (part_of nat_eq world names).master ≡ then_some o world.master
      by None e = refl
      by (Some g) e = master_same sealing g (heard_by_own sealing m n g e)

module _ {world : World ℕ} {names : List TaskName} (sealing : IsSealed world names) (mounts mounts_too : List (Mount ℕ))
    (master master_too : ℕ → Option ℕ) (filesystems filesystems_too : List (Filesystem ℕ)) where
  abbrev part : World ℕ
  part = part_of nat_eq world names

  abbrev theirs : List (Task ℕ)
  theirs = members world names

  abbrev pub later : World ℕ
  later = record world { mounts = mounts; master = master; filesystems = filesystems }

  abbrev pub later_part : World ℕ
  later_part = record part { mounts = mounts_too; master = master_too; filesystems = filesystems_too }

  module _ (same : part_of nat_eq later_part names ≡ part_of nat_eq later names)
      (masters : (m : Mount ℕ) → Among m mounts → is_own world names theirs m ≡ true
      → master_above later_part m ≡ master_above later m) where
    module _ (n : ℕ) (space : has_one theirs n ≡ true) where
      later_alike : mounts_of nat_eq later_part n ≡ mounts_of nat_eq later n
      later_alike = sym (shown_in later_part names n (ap (λ ts. has_one ts n) (same_members world names) ∙ space))
          ∙ ap (λ (w : World ℕ). mounts_of nat_eq w n) same ∙ shown_in later names n space

      -- the mounts of a namespace of theirs changed in both, or in none
      spaces_alike : same_mounts_in nat_eq part later_part n ≡ same_mounts_in nat_eq world later n
      spaces_alike = cc (
        space_in_part sealing n space,
        later_alike,
        same_list_alike
            (same_mount nat_eq part later_part) (same_mount nat_eq world later) (mounts_of nat_eq world n)
            (mounts_of nat_eq later n) (λ x y m l. let first = among-from_filter
            (its_in n) world.mounts x m in let second = among-from_filter
            (its_in n) mounts y l in compared x y (above_in_part sealing x (among-filter
            (is_own_mount nat_eq world names) world.mounts x first.0
            (own_in sealing n space x first.1))) (masters y second.0 (own_in sealing n space y second.1))),
      )
        where
          compared : (x y : Mount ℕ) → master_above part x ≡ master_above world x
              → master_above later_part y ≡ master_above later y
              → same_mount nat_eq part later_part x y ≡ same_mount nat_eq world later x y
          compared x y e f = cc

    raised_alike : filter (spaces theirs) (map (raised_namespace nat_eq part later_part) part.namespaces)
        ≡ filter (spaces theirs) (map (raised_namespace nat_eq world later) world.namespaces)
    raised_alike = filter-map (spaces theirs) (raised_namespace nat_eq part later_part) part.namespaces
        (λ n. ap (has_one theirs) (raised_number part later_part n))
        ∙ ap (map (raised_namespace nat_eq part later_part)) (filter_again (spaces theirs) world.namespaces)
        ∙ map_alike (raised_namespace nat_eq part later_part) (raised_namespace nat_eq world later)
        (filter (spaces theirs) world.namespaces) (λ n m. ap (λ c. cond c n (record n { change = raised n.change }))
        (spaces_alike n.number (among-from_filter (spaces theirs) world.namespaces n m).1))
        ∙ sym (filter-map (spaces theirs) (raised_namespace nat_eq world later) world.namespaces
        (λ n. ap (has_one theirs) (raised_number world later n)))

    module _ (name : TaskName) where
      -- what a call leaves in which a world becomes another with the same tasks and namespaces
      abbrev left : World ℕ → World ℕ → World ℕ
      left before after = record after {
        namespaces = map (raised_namespace nat_eq before after) after.namespaces;
        tasks = map (raised_task name) after.tasks;
        change = raised after.change;
      }

      left_so : (before after : World ℕ) → numbers_raised nat_eq before name [] after ≡ left before after
      left_so before after i = record {
        mounts = after.mounts;
        master = after.master;
        filesystems = map_same (raised_if_changed nat_eq []) after.filesystems (λ f m. refl) i;
        namespaces = map (raised_namespace nat_eq before after) after.namespaces;
        tasks = map (raised_task name) after.tasks;
        change = raised after.change;
      }

      pub parts_left : part_of nat_eq (numbers_raised nat_eq world name [] later) names
          ≡ part_of nat_eq (numbers_raised nat_eq part name [] later_part) names
      parts_left = ap (λ w. part_of nat_eq w names) (left_so world later)
          ∙ part_respaced later names name (map (raised_namespace nat_eq world later) world.namespaces)
          ∙ (λ i. record (sym same i) {
            namespaces = sym raised_alike i;
            tasks = raised_members_alike world names name i;
          }) ∙ (λ i. record (part_of nat_eq later_part names) {
            namespaces = filter (spaces (sym (same_members world names) i))
                (map (raised_namespace nat_eq part later_part) part.namespaces);
            tasks = filter (is_member_task names) (map (raised_task name) part.tasks);
          }) ∙ sym (part_respaced later_part names name _) ∙ sym (cc (left_so part later_part))
