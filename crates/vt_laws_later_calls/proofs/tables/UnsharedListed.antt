-- What the list of mounts tells after an unshare.
use Rattle.std.proofs.Common.{arith, ◌≡◌, refl, sym, ap, subst, ◌∙◌, inr, ⊎_elim, ℕ, nat_eq, eq-eqb, eqb-true, Bool, true, false, cond, List, [], ◌∷◌, ◌++◌, Option, Some, None, Ok, Err, Result, filter, find, flat_map, map, option_and_then, option_map, true≢false, unwrap_or}
use Rattle.vt_spec.proofs.Common.{Answer, Done, Filesystem, Fresh, IsWorld, ListMounts, Location, Looks, Mount, MountInvariants, MountList, Namespace, Permit, Private, Propagation, Serves, Shared, Slave, Spot, Task, TaskName, ToUnshare, Unbindable, Unshare, World, bytes_decides, cases_Bool, common_steps, denial, evens, false_from_ne_true, filesystems_seen, groups_in_type, groups_seen, groups_shown, is_among_numbers, is_going, is_listed, is_member_of, is_overlay, judging, map_alike, map_same, mount_line, mount_lines, mount_lives, mount_numbered, inherited_mount_point, mount_point_spot, mounts_of, no_filesystem, number_among, numbers_in_use, numbers_raised, path_down, policy, raised, raised_if_changed, raised_task, replaced_if_called, same_Some, same_name, same_task_name, spot_of, task_called, type_line, used_by_filesystem, used_by_mount, without_dead_groups}
use Rattle.vt_laws_later_calls.proofs.Common.{Among, Deny, IsGranted, IsListedIn, Parent, S2, UnshareListsOthersTheSame, UnshareListsTheSame, among-append_left, among-append_right, among-from_filter, among-map, any_from_among, called_there, filter_here, filter_skip, flat_map_alike, found_itself, is_in, is_mount, is_one_of, listed_in, name_found, number_of, parent_of, shared_member, unshares}
use Rattle.vt_laws_mounts.proofs.letting_go.mounting.MountingTaken
use Rattle.vt_laws_mounts.proofs.mounts.MountPointSpots.{numbered_found}
use Rattle.vt_laws_mounts.proofs.namespaces.UnsharingNamespaces.{new_namespace_is_empty}
use Rattle.vt_laws_later_calls.specs.Tables.{UnshareGivesANamespace, UnshareThenMounts}
use Rattle.vt_laws_later_calls.proofs.Granted.{IsPermitted, permitted}
use Rattle.vt_laws_later_calls.proofs.tables.UnsharedLeft

-- a list that is changed and then shortened, of which those that pass a test stay as they are
filter_left : {A : Type 0} (p q : A → Bool) (f : A → A) (xs : List A)
    → ((x : A) → Among x xs → p x ≡ true → (f x ≡ x) × (q (f x) ≡ true))
    → ((x : A) → Among x xs → p x ≡ false → p (f x) ≡ false) → filter p (filter q (map f xs)) ≡ filter p xs
filter_left p q f [] same out = refl
filter_left p q f (y ∷ ys) same out =
    by (p y) refl (filter_left p q f ys (λ x m. same x (inr m)) (λ x m. out x (inr m)))
  where
    skipped : (c : Bool) → q (f y) ≡ c → p (f y) ≡ false
        → filter p (filter q (f y ∷ map f ys)) ≡ filter p (filter q (map f ys))
    skipped true g h = cc (filter_here q (f y) (map f ys) g, filter_skip p (f y) (filter q (map f ys)) h)
    skipped false g h = cc (filter_skip q (f y) (map f ys) g)

    by : (b : Bool) → p y ≡ b → filter p (filter q (map f ys)) ≡ filter p ys
        → filter p (filter q (f y ∷ map f ys)) ≡ filter p (y ∷ ys)
    by b e rest = grind (arith, common_steps, filter_here, skipped, filter_skip)

-- the mount that a mount point is on
abbrev parent_in : World ℕ → Location ℕ → Option (Mount ℕ)
parent_in world place = find (λ (mount : Mount ℕ). nat_eq place.mount mount.number) world.mounts

-- A list of mounts reads the same where its mounts, what they stand on, filesystems and masters are the same.
module _ (before later : World ℕ) (namespace : ℕ) (filesystems : later.filesystems ≡ before.filesystems)
    (mounts : mounts_of nat_eq later namespace ≡ mounts_of nat_eq before namespace)
    (found : (mount : Mount ℕ) → Among mount (mounts_of nat_eq before namespace) → (place : Location ℕ)
    → mount.mount_point ≡ Some place → parent_in later place ≡ parent_in before place)
    (masters : (mount : Mount ℕ) → Among mount (mounts_of nat_eq before namespace) → (group : ℕ)
    → mount.propagation ≡ Shared group → later.master group ≡ before.master group) where
  abbrev list : List (Mount ℕ)
  list = mounts_of nat_eq before namespace

  abbrev listed : List (Filesystem ℕ) → ℕ → Filesystem ℕ
  listed those number = unwrap_or (find (λ (f : Filesystem ℕ). nat_eq number f.number) those) (no_filesystem number)

  groups_alike : (mount : Mount ℕ) → Among mount list → groups_shown later mount ≡ groups_shown before mount
  groups_alike mount m = by mount.propagation refl
    where
      by : (kind : Propagation ℕ) → mount.propagation ≡ kind → groups_in_type later kind ≡ groups_in_type before kind
      by (Shared group) e = cc (masters mount m group e)
      by (Slave group) e = refl
      by Private e = refl
      by Unbindable e = refl

  abbrev seen : List ℕ
  seen = groups_seen nat_eq before list

  same_seen : groups_seen nat_eq later list ≡ seen
  same_seen = cc (flat_map_alike (groups_shown later) (groups_shown before) list groups_alike)

  type_alike : (mount : Mount ℕ) → Among mount list
      → type_line nat_eq later (groups_seen nat_eq later list) mount.propagation
      ≡ type_line nat_eq before seen mount.propagation
  type_alike mount m = cc (same_seen, by mount.propagation refl)
    where
      by : (kind : Propagation ℕ) → mount.propagation ≡ kind
          → type_line nat_eq later seen kind ≡ type_line nat_eq before seen kind
      by (Shared group) e = cc (masters mount m group e)
      by (Slave group) e = refl
      by Private e = refl
      by Unbindable e = refl

  abbrev spot_in : List (Filesystem ℕ) → Option (Mount ℕ) → ℕ → Spot
  spot_in those parent node = spot_of (option_and_then
      (λ (mount : Mount ℕ). path_down nat_eq (listed those mount.filesystem).files mount.root node) parent)

  abbrev cell : World ℕ → Location ℕ → ℕ × Spot
  cell world place = (
    number_among nat_eq (map (λ (other : Mount ℕ). other.number) list) place.mount,
    mount_point_spot nat_eq world
        place,
  )

  place_alike : (mount : Mount ℕ) → Among mount list
      → option_map (cell later) mount.mount_point ≡ option_map (cell before) mount.mount_point
  place_alike mount m = by mount.mount_point refl
    where
      by : (o : Option (Location ℕ)) → mount.mount_point ≡ o → option_map (cell later) o ≡ option_map (cell before) o
      by None e = refl
      by (Some place) e =
          ap (λ s. Some (number_among nat_eq (map (λ (other : Mount ℕ). other.number) list) place.mount, s))
          (ap (λ parent. spot_in later.filesystems parent place.node) (found mount m place e)
          ∙ ap (λ those. spot_in those (parent_in before place) place.node) filesystems)

  line_alike : (mount : Mount ℕ) → Among mount list
      → mount_line nat_eq later list mount ≡ mount_line nat_eq before list mount
  line_alike mount m = λ i. record {
    mount_point = place_alike mount m i;
    overlay = is_overlay (listed (filesystems i) mount.filesystem);
    filesystem = number_among nat_eq (filesystems_seen nat_eq list) mount.filesystem;
    root = spot_of (path_down nat_eq (listed (filesystems i) mount.filesystem).files
        (listed (filesystems i) mount.filesystem).files.tree.root mount.root);
    flags = mount.flags;
    kind = type_alike mount m i;
  }

  lines_alike : mount_lines nat_eq later namespace ≡ mount_lines nat_eq before namespace
  lines_alike = cc (map_alike (mount_line nat_eq later list) (mount_line nat_eq before list) list line_alike)

-- a task is found by its name where each has the name that it had
find_named : (f : Task ℕ → Task ℕ) → ((t : Task ℕ) → (f t).name ≡ t.name) → (name : TaskName) (tasks : List (Task ℕ))
    → find (λ (t : Task ℕ). same_name name t.name) (map f tasks)
    ≡ option_map f (find (λ (t : Task ℕ). same_name name t.name) tasks)
find_named f names name [] = refl
find_named f names name (t ∷ tasks) = grind (arith, common_steps, names, find_named f names name tasks)

-- what the list of mounts answers
abbrev answer_by : World ℕ → Option (Task ℕ) → Result Answer Deny
answer_by world None = Err (denial S2)
answer_by world (Some task) = Ok (MountList (mount_lines nat_eq world task.namespace))

told : (world : World ℕ) (fresh : Fresh ℕ) (name : TaskName) (o : Option (Task ℕ)) → task_called world name ≡ o
    → (policy nat_eq fresh world name ListMounts).answer ≡ answer_by world o
unfolding judging
told world fresh name o e = grind (arith, common_steps)

-- an unshare is permitted as it is
permit_is : (looks : Looks ℕ) (too_many : Permit ℕ → Bool) (task : Task ℕ) (permit : Permit ℕ)
    → IsGranted nat_eq looks too_many task Unshare permit → permit ≡ ToUnshare
permit_is looks too_many task permit (unshares admin) = refl

module _ {world : World ℕ} {fresh : Fresh ℕ} {task : Task ℕ} (is : IsWorld nat_eq world)
    (serves : Serves nat_eq world fresh) (called : task_called world task.name ≡ Some task) (name : TaskName) where
  abbrev base : World ℕ
  base = UnsharedLeft.base is serves called

  abbrev ended : List ℕ
  ended = UnsharedLeft.ended is serves called

  abbrev lasting : List (Namespace ℕ)
  lasting = UnsharedLeft.lasting is serves called

  abbrev change : Mount ℕ → Mount ℕ
  change = UnsharedLeft.change is serves called

  abbrev moved : Task ℕ
  moved = UnsharedLeft.moved is serves called

  abbrev new : Namespace ℕ
  new = UnsharedLeft.new is serves called

  abbrev mounted : World ℕ
  mounted = UnsharedLeft.mounted is serves called

  abbrev last : World ℕ
  last = numbers_raised nat_eq world name [] (without_dead_groups nat_eq mounted)

  base_is : MountInvariants nat_eq base
  base_is = UnsharedLeft.base_mounts is serves called

  -- The list of a namespace that has a task
  module _ (namespace : Namespace ℕ) (other : Task ℕ) (known : Among namespace base.namespaces)
      (there : Among other base.tasks) (same : namespace.number ≡ other.namespace) where
    abbrev IsInside : Mount ℕ → Type 0
    IsInside mount = mount.namespace ≡ Some namespace.number

    inside : (mount : Mount ℕ) → is_in namespace.number mount ≡ true → IsInside mount
    inside mount e = grind (arith, common_steps, true≢false, eqb-true)

    stays : (mount : Mount ℕ) → Among mount base.mounts → IsInside mount → is_going nat_eq ended mount.number ≡ false
    stays mount m e = UnsharedLeft.stays_if is serves called mount m
        (UnsharedLeft.not_ended is serves called namespace other mount known there same e)

    below : (mount : Mount ℕ) → Among mount base.mounts → (place : Location ℕ) → mount.mount_point ≡ Some place
        → Parent base mount place
    below mount m place e = parent_of base base_is mount m place e

    unchanged : (mount : Mount ℕ) → Among mount base.mounts → IsInside mount → change mount ≡ mount
    unchanged mount m e = MountingTaken.stays_there base ended lasting mount isnt
        ∙ (λ i. record mount { mount_point = points mount.mount_point refl i })
      where
        isnt : is_going nat_eq ended mount.number ≡ false
        isnt = stays mount m e

        points : (o : Option (Location ℕ)) → mount.mount_point ≡ o
            → option_map (inherited_mount_point nat_eq base ended) mount.mount_point ≡ mount.mount_point
        points None f = cc
        points (Some place) f =
            let on = below mount m place f in
            cc (
              MountingTaken.stays_there base ended lasting mount isnt,
              MountingTaken.same_place base ended lasting
                  false mount place f isnt (ap (is_going nat_eq ended) (sym on.number) ∙ stays on.parent on.there
                  (sym on.namespace ∙ e)),
            )

    lives : (mount : Mount ℕ) → Among mount base.mounts → IsInside mount → UnsharedLeft.Alive is serves called mount
    lives mount m e = UnsharedLeft.lives_in is serves called mount (stays mount m e) (cc)

    mounts_same : mounts_of nat_eq last namespace.number ≡ mounts_of nat_eq base namespace.number
    mounts_same = filter_left (is_in namespace.number)
        (mount_lives nat_eq (UnsharedLeft.ended_world is serves called)) change base.mounts
        (λ mount m e. (unchanged mount m (inside mount e), lives mount m (inside mount e)))
        (λ mount m e. by mount e (is_going nat_eq ended mount.number) refl)
      where
        by : (mount : Mount ℕ) → is_in namespace.number mount ≡ false → (b : Bool)
            → is_going nat_eq ended mount.number ≡ b → is_in namespace.number (change mount) ≡ false
        by mount e true goes = cc (UnsharedLeft.goes is serves called mount goes)
        by mount e false isnt = cc (MountingTaken.stays_there base ended lasting mount isnt)

    found_parent : {mount : Mount ℕ} (place : Location ℕ) (on : Parent base mount place) → IsInside on.parent
        → mount_numbered nat_eq last place.mount ≡ mount_numbered nat_eq base place.mount
    found_parent place on too = ap (mount_numbered nat_eq mounted) (sym on.number)
        ∙ UnsharedLeft.shown is serves called on.parent on.there (lives on.parent on.there too)
        ∙ unchanged on.parent on.there too ∙ sym (found_itself base.mounts base_is.one_number on.parent on.there)
        ∙ ap (mount_numbered nat_eq base) on.number

    found_same : (mount : Mount ℕ) → Among mount (mounts_of nat_eq base namespace.number) → (place : Location ℕ)
        → mount.mount_point ≡ Some place → parent_in last place ≡ parent_in base place
    found_same mount m place e =
        let from = among-from_filter (is_in namespace.number) base.mounts mount m in
        let on = below mount from.0 place e in
        let too : IsInside on.parent = sym on.namespace ∙ inside mount from.1 in
        let left : Among on.parent mounted.mounts = rw (← unchanged on.parent on.there too)
        (UnsharedLeft.alive_there is serves called on.parent on.there (lives on.parent on.there too)) in
        cc (
          numbered_found last.mounts place.mount (subst (λ n. is_mount last n ≡ true) on.number
              (is_one_of last.mounts on.parent left)),
          found_parent place on too,
          numbered_found base.mounts place.mount
              (subst (λ n. is_mount base n ≡ true) on.number (is_one_of base.mounts on.parent on.there)),
        )

    masters_same : (mount : Mount ℕ) → Among mount (mounts_of nat_eq base namespace.number) → (group : ℕ)
        → mount.propagation ≡ Shared group → last.master group ≡ base.master group
    masters_same mount m group e =
        let from = among-from_filter (is_in namespace.number) base.mounts mount m in
        let it = inside mount from.1 in
        ap (λ b. cond b (base.master group) None) (any_from_among (is_member_of nat_eq group) mounted.mounts
        (change mount) (UnsharedLeft.alive_there is serves called mount from.0 (lives mount from.0 it))
        (cc (unchanged mount from.0 it, shared_member group mount e)))

    reads_so : mount_lines nat_eq last namespace.number ≡ mount_lines nat_eq base namespace.number
    reads_so = lines_alike base last namespace.number
        (map_same (raised_if_changed nat_eq []) base.filesystems (λ filesystem m. refl))
        mounts_same found_same masters_same

  -- no namespace of the world has the new number
  new_is_unused : (number : ℕ) → IsListedIn world.namespaces number → nat_eq number (evens fresh 0) ≡ false
  new_is_unused number at = false_from_ne_true (nat_eq number (evens fresh 0)) (λ e.
      true≢false (sym (is_among_numbers (numbers_in_use world) (evens fresh 0)
      (subst (λ n. Among n (numbers_in_use world)) (sym at.2 ∙ eqb-true number (evens fresh 0) e)
      (among-append_right (flat_map used_by_mount world.mounts ++ flat_map used_by_filesystem world.filesystems)
      (map number_of world.namespaces) at.0.number (among-map number_of world.namespaces at.0 at.1))))
      ∙ serves.unused 0))

  -- The tasks after it

  abbrev after_it : Task ℕ → Task ℕ
  after_it t = raised_task name (replaced_if_called moved t)

  called_last : (other : TaskName) → task_called last other ≡ option_map after_it (task_called world other)
  called_last other = find_named (raised_task name) (λ t. raised_name t (same_name name t.name)) other
      (map (replaced_if_called moved) world.tasks) ∙ ap (option_map (raised_task name))
      (find_named (replaced_if_called moved) (λ t. moved_name t (same_name task.name t.name) refl) other world.tasks)
      ∙ twice (task_called world other)
    where
      raised_name : (t : Task ℕ) (b : Bool) → (cond b (record t { change = raised t.change }) t).name ≡ t.name
      raised_name t true = refl
      raised_name t false = refl

      moved_name : (t : Task ℕ) (b : Bool) → same_name task.name t.name ≡ b → (cond b moved t).name ≡ t.name
      moved_name t true e = same_task_name task.name t.name e
      moved_name t false e = refl

      twice : (o : Option (Task ℕ))
          → option_map (raised_task name) (option_map (replaced_if_called moved) o) ≡ option_map after_it o
      twice None = refl
      twice (Some t) = refl

  raised_namespace : (t : Task ℕ) → (raised_task name t).namespace ≡ t.namespace
  raised_namespace t = grind (arith, common_steps)

  -- the caller is in the new namespace, and each other task where it was
  namespace_of_caller : (t : Task ℕ) → same_name task.name t.name ≡ true → (after_it t).namespace ≡ evens fresh 0
  namespace_of_caller t e = raised_namespace (replaced_if_called moved t) ∙ ap (λ b. (cond b moved t).namespace) e

  namespace_of_other : (t : Task ℕ) → same_name task.name t.name ≡ false → (after_it t).namespace ≡ t.namespace
  namespace_of_other t e = raised_namespace (replaced_if_called moved t) ∙ ap (λ b. (cond b moved t).namespace) e

  module _ (lists_caller : UnshareListsTheSame) (lists_others : UnshareListsOthersTheSame) where
    lines_stay : (t : Task ℕ) → Among t world.tasks
        → mount_lines nat_eq last (after_it t).namespace ≡ mount_lines nat_eq world t.namespace
    lines_stay t m =
        ⊎_elim (λ e. cc (
          namespace_of_caller t e,
          reads_so new moved (UnsharedLeft.new_there is serves called) (UnsharedLeft.moved_there is serves called) refl,
          lists_caller world fresh task serves is.mounts
              (new_namespace_is_empty world fresh serves is.namespaces.mounts_listed),
          UnsharedLeft.that_task is serves called
              t m e,
        )) (λ e. let at = (UnsharedLeft.were is serves called).listed.of_tasks t m in cc (
          namespace_of_other t e,
          at.2,
          reads_so at.0 t (among-append_left world.namespaces (new ∷ []) at.0 at.1)
              (UnsharedLeft.other_there is serves called t m e) (sym at.2),
          lists_others world fresh task t.namespace serves
              is.mounts (new_is_unused t.namespace at),
        )) (cases_Bool (same_name task.name t.name))

    told_alike : (later : Fresh ℕ) (other : TaskName)
        → (policy nat_eq later last other ListMounts).answer ≡ (policy nat_eq later world other ListMounts).answer
    told_alike later other =
        told last later other (option_map after_it (task_called world other)) (called_last other)
        ∙ by (task_called world other) refl ∙ sym (told world later other (task_called world other) refl)
      where
        by : (found : Option (Task ℕ)) → task_called world other ≡ found
            → answer_by last (option_map after_it found) ≡ answer_by world found
        by (Some t) called = ap (λ lines. Ok (MountList lines)) (lines_stay t (called_there world.tasks other t called))
        by None called = refl

-- What a granted unshare left
module _ {world : World ℕ} {fresh : Fresh ℕ} {name : TaskName} (is : IsWorld nat_eq world)
    (serves : Serves nat_eq world fresh) (did : IsPermitted world fresh name Unshare Done) where
  called_own : task_called world did.task.name ≡ Some did.task
  called_own = cc (name_found world name did.task did.called, did.called)

  left_so : (policy nat_eq fresh world name Unshare).world ≡ last is serves called_own name
  left_so = cc (did.left, permit_is _ _ did.task did.permit did.granted, UnsharedLeft.settles_so is serves called_own)

pub unshare_then_mounts : UnshareListsTheSame → UnshareListsOthersTheSame → UnshareThenMounts
unshare_then_mounts lists_caller lists_others world fresh later name other is serves granted =
    let did = permitted world fresh name Unshare Done refl granted in
    cc (
      left_so is serves did,
      told_alike is serves (called_own is serves did) name lists_caller lists_others later
          other,
    )

pub unshare_gives_a_namespace : UnshareGivesANamespace
unshare_gives_a_namespace world fresh name task is serves granted called =
    let did = permitted world fresh name Unshare Done refl granted in
    let own = called_own is serves did in
    let now : Some (after_it is serves own name did.task) ≡ Some task =
    sym (called_last is serves own name name ∙ ap (option_map (after_it is serves own name)) did.called) ∙
    ap (λ w. task_called w name) (sym (left_so is serves did)) ∙ called in
    let number : task.namespace ≡ evens fresh 0 = cc (
      same_Some _ task now,
      namespace_of_caller is serves own name
          did.task ((bytes_decides did.task.name did.task.name).1 refl),
    ) in
    false_from_ne_true (is_listed nat_eq world task.namespace) (λ e. let at = listed_in world task.namespace e in
    true≢false (sym (eq-eqb task.namespace (evens fresh 0) number) ∙ new_is_unused is serves own name task.namespace
    at))
