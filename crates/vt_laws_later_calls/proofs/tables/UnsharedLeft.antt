-- What is left of a world after an unshare: the mounts of a namespace that ends have copies, so that nothing else goes.
use Rattle.std.proofs.Common.{arith, ◌≡◌, refl, sym, ap, subst, ◌∙◌, ◌⊎◌, inl, inr, ⊎_elim, ℕ, nat_eq, eqb-true, eq-eqb, Bool, true, false, cond, not, ◌||◌, ◌&&◌, List, [], ◌∷◌, ◌++◌, filter, map, flat_map, Option, Some, None, is_some, option_map, true≢false, filter_map}
use Rattle.vt_spec.proofs.Common.{Filesystem, Fresh, HasLivingGroups, IsWorld, Lives, Location, Mount, MountInvariants, Namespace, Serves, Task, World, after_going, all_locations, and_parts, any_pair, bytes_decides, cases_Bool, common_steps, copied_mount, detached, evens, false_from_ne_true, filesystem_lives, has_layer_on, has_master, has_members, has_no_master, has_tasks, holds_of, is_among, is_among_left, is_among_right, is_copied, is_going, is_in_ended, is_located, is_lost_group, is_member_of, is_mounted, is_overlay, layers_in, list_all, list_any, list_any-append, located_in, location_on_copy, locations_of, lost_a_group, mount_at, mount_in, mount_lives, mount_numbered, inherited_mount_point, mounts_of, moved_location, named_in, namespaces_ended, none_among, number-mount_in, numbers_by, objects_of_overlay, odds, or_cases, or_parts, pair-filter, regrouped_by, replaced_if_called, root_of, same_name, same_task_name, settled, source_of, task_called, then_some, unshared, unshared_task, with_mounts, without_dead_groups, without_dead_in, without_dead_inodes, without_dead_mounts}
use Rattle.vt_laws_later_calls.proofs.Common.{Among, AreNamespaces, FilesystemsInUse, InodesInUse, OneNumberAMount, Parent, all_from_among, all_in_use, among-append, among-append_left, among-append_right, among-filter, among-filter_map, among-flat_map, among-from_filter, among-from_filter_map, among-from_flat_map, among-from_map, among-map, among_from_all, among_from_list_all, among_numbers, any_among, any_from_among, are_namespaces, called_there, ended_mounts, filesystems_stay, found_itself, found_there, inodes_stay, is_among_numbers, is_in, is_inode_used, list_all_from_among, locations_of_worlds_stand, mounts_of_worlds_stand, none_from_among, numbers-map, one_number_by_numbers, or_left, or_right, parent_of, placed_inside, unshare_keeps_mounts, used_at}
use Rattle.vt_laws_mounts.proofs.letting_go.mounting.MountingLosers.{places_of, places_stand}
use Rattle.vt_laws_mounts.proofs.letting_go.mounting.MountingTaken

-- where no two of a list pass a test, those that do are one
only_one : {A : Type 0} (test : A → A → Bool) (xs : List A) → any_pair test xs ≡ false → (a b : A) → Among a xs
    → Among b xs → test a b ≡ true → test b a ≡ true → a ≡ b
only_one test [] apart a b m n e f = absurd m
only_one test (first ∷ rest) apart a b m n e f =
    ⊎_elim (λ same. ⊎_elim (λ too. cc) (λ later. cc (none_among (test first) rest parts.0 b later)) n)
    (λ before. ⊎_elim (λ too. cc (none_among (test first) rest parts.0 a before))
    (λ later. only_one test rest parts.1 a b before later e f) n) m
  where
    parts : (list_any (test first) rest ≡ false) × (any_pair test rest ≡ false)
    parts = or_parts (list_any (test first) rest) (any_pair test rest) apart

module _ {world : World ℕ} {fresh : Fresh ℕ} {task : Task ℕ} (is : IsWorld nat_eq world)
    (serves : Serves nat_eq world fresh) (called : task_called world task.name ≡ Some task) where
  -- The world with the copies, and the task on them

  abbrev pub base : World ℕ
  base = unshared nat_eq world fresh task

  abbrev pub copied : List (Mount ℕ)
  copied = mounts_of nat_eq world task.namespace

  abbrev pub new_number : ℕ → ℕ
  new_number = numbers_by nat_eq (odds fresh) copied

  abbrev pub copy : Mount ℕ → Mount ℕ
  copy = copied_mount new_number (evens fresh 0)

  abbrev pub moved : Task ℕ
  moved = unshared_task nat_eq copied new_number (evens fresh 0) task

  abbrev pub new : Namespace ℕ
  new = record { number = evens fresh 0; change = 0 }

  pub base_mounts : MountInvariants nat_eq base
  base_mounts = unshare_keeps_mounts world fresh task serves is.mounts

  pub were : AreNamespaces world
  were = are_namespaces world is.namespaces

  own_name : same_name task.name task.name ≡ true
  own_name = (bytes_decides task.name task.name).1 refl

  pub moved_there : Among moved base.tasks
  moved_there = subst (λ t. Among t base.tasks) (cc own_name) (among-map (replaced_if_called moved) world.tasks task
      (called_there world.tasks task.name task called))

  -- a task of another name stays
  pub other_there : (other : Task ℕ) → Among other world.tasks → same_name task.name other.name ≡ false
      → Among other base.tasks
  other_there other m e =
      rw (← ap (λ b. cond b moved other) e) (among-map (replaced_if_called moved) world.tasks other m)

  pub that_task : (other : Task ℕ) → Among other world.tasks → same_name task.name other.name ≡ true → other ≡ task
  that_task other m e = only_one (λ (a b : Task ℕ). same_name a.name b.name) world.tasks is.tasks.one_task other task m
      (called_there world.tasks task.name task called) (cc (
        same_task_name task.name other.name e,
        (bytes_decides other.name other.name).1 refl,
      )) e

  -- Namespaces that end

  abbrev pub ended : List ℕ
  ended = ended_mounts base

  -- a mount of this namespace, or of none, goes with it
  abbrev ended_by : Option ℕ → Bool
  ended_by namespace = holds_of (λ number. not (list_any (λ (n : Namespace ℕ). nat_eq number n.number
      && has_tasks nat_eq base n) base.namespaces)) namespace

  -- a mount in a namespace that has a task is in none that ends
  pub not_ended : (namespace : Namespace ℕ) (other : Task ℕ) (mount : Mount ℕ) → Among namespace base.namespaces
      → Among other base.tasks → namespace.number ≡ other.namespace → mount.namespace ≡ Some namespace.number
      → is_in_ended nat_eq base mount ≡ false
  not_ended namespace other mount m n e f = ap ended_by f ∙ ap not (any_from_among (is_kept namespace.number)
      base.namespaces namespace m (cc (
        eq-eqb namespace.number namespace.number refl,
        any_from_among (λ (t : Task ℕ). nat_eq namespace.number t.namespace) base.tasks other n
            (eq-eqb namespace.number other.namespace e),
      )))
    where
      is_kept : ℕ → Namespace ℕ → Bool
      is_kept number namespace = nat_eq number namespace.number && has_tasks nat_eq base namespace

  pub new_there : Among new base.namespaces
  new_there = among-append_right world.namespaces (new ∷ []) new (inl refl)

  -- those that go are the mounts of namespaces that end
  pub stays_if : (mount : Mount ℕ) → Among mount base.mounts → is_in_ended nat_eq base mount ≡ false
      → is_going nat_eq ended mount.number ≡ false
  stays_if mount m outside = false_from_ne_true (is_going nat_eq ended mount.number) (λ going.
      let from = among-from_map (λ (x : Mount ℕ). x.number) (filter (is_in_ended nat_eq base) base.mounts) mount.number
      (among_numbers mount.number ended going) in
      let one = among-from_filter (is_in_ended nat_eq base) base.mounts from.0 from.1 in
      let same : from.0 ≡ mount = sym (found_itself base.mounts base_mounts.one_number from.0 one.0)
      ∙ ap (mount_in nat_eq base.mounts) (sym from.2) ∙ found_itself base.mounts base_mounts.one_number mount m in
      true≢false (sym one.1 ∙ ap (is_in_ended nat_eq base) same ∙ outside))

  goes_if : (mount : Mount ℕ) → Among mount base.mounts → is_in_ended nat_eq base mount ≡ true
      → is_going nat_eq ended mount.number ≡ true
  goes_if mount m inside = is_among_numbers mount.number ended
      (among-map (λ (x : Mount ℕ). x.number) (filter (is_in_ended nat_eq base) base.mounts) mount
      (among-filter (is_in_ended nat_eq base) base.mounts mount m inside))

  pub copy_there : (mount : Mount ℕ) → Among mount copied → Among (copy mount) base.mounts
  copy_there mount m = among-append_right world.mounts (map copy copied) (copy mount) (among-map copy copied mount m)

  pub old_there : (mount : Mount ℕ) → Among mount world.mounts → Among mount base.mounts
  old_there mount m = among-append_left world.mounts (map copy copied) mount m

  pub was_there : (mount : Mount ℕ) → Among mount copied → Among mount world.mounts
  was_there mount m = (among-from_filter (is_in task.namespace) world.mounts mount m).0

  -- a copy stays
  pub copy_stays : (mount : Mount ℕ) → Among mount copied → is_going nat_eq ended (copy mount).number ≡ false
  copy_stays mount m =
      stays_if (copy mount) (copy_there mount m) (not_ended new moved (copy mount) new_there moved_there refl refl)

  -- what goes has a copy
  pub going_is_copied : (mount : Mount ℕ) → Among mount base.mounts → is_going nat_eq ended mount.number ≡ true
      → Among mount copied
  going_is_copied mount m going =
      ⊎_elim (λ old. by old mount.namespace refl) (λ copy_m. let from = among-from_map copy copied mount copy_m in cc
      (from.2, copy_stays from.0 from.1)) (among-append world.mounts (map copy copied) mount m)
    where
      inside : is_in_ended nat_eq base mount ≡ true
      inside = ⊎_elim (λ e. e) (λ e. cc (stays_if mount m e)) (cases_Bool (is_in_ended nat_eq base mount))

      by : Among mount world.mounts → (o : Option ℕ) → mount.namespace ≡ o → Among mount copied
      by old None e = absurd (cc inside)
      by old (Some number) e =
          let at = were.listed.of_mounts mount old number e in
          let live = were.live at.0 at.1 in
          let mine : mount.namespace ≡ Some at.0.number = e ∙ ap Some at.2 in
          ⊎_elim (λ same. among-filter (is_in task.namespace) world.mounts mount old
          (ap (holds_of (nat_eq task.namespace)) mine ∙ eq-eqb task.namespace at.0.number
          (sym (live.2 ∙ ap (λ (t : Task ℕ). t.namespace) (that_task live.0 live.1 same)))))
          (λ another. absurd (true≢false (sym inside
          ∙ not_ended at.0 live.0 mount (among-append_left world.namespaces (new ∷ []) at.0 at.1)
          (other_there live.0 live.1 another) live.2 mine))) (cases_Bool (same_name task.name live.0.name))

  -- The mounts after it

  abbrev pub lasting : List (Namespace ℕ)
  lasting = filter (has_tasks nat_eq base) base.namespaces

  abbrev pub change : Mount ℕ → Mount ℕ
  change = after_going nat_eq base ended

  abbrev without : World ℕ
  without = with_mounts base (map change base.mounts)

  pub same_number : (mount : Mount ℕ) → (change mount).number ≡ mount.number
  same_number mount = MountingTaken.same_number base ended lasting false mount

  same_filesystem : (mount : Mount ℕ) → (change mount).filesystem ≡ mount.filesystem
  same_filesystem mount = MountingTaken.same_filesystem base ended lasting false mount

  pub goes : (mount : Mount ℕ) → is_going nat_eq ended mount.number ≡ true → change mount ≡ detached mount
  goes mount e = ap (λ b. cond b (detached mount) (record mount {
    mount_point = option_map (inherited_mount_point nat_eq base ended) mount.mount_point;
  })) e

  -- each group keeps a member
  kept_member : (group : ℕ) → has_members nat_eq base.mounts group ≡ true
      → has_members nat_eq without.mounts group ≡ true
  kept_member group has = by one.0 one.1 one.2 (is_going nat_eq ended one.0.number) refl
    where
      one : (mount : Mount ℕ) × Among mount base.mounts × (is_member_of nat_eq group mount ≡ true)
      one = any_among (is_member_of nat_eq group) base.mounts has

      stays_member : (mount : Mount ℕ) → Among mount base.mounts → is_member_of nat_eq group mount ≡ true
          → is_going nat_eq ended mount.number ≡ false → has_members nat_eq without.mounts group ≡ true
      stays_member mount m member isnt = any_from_among (is_member_of nat_eq group) without.mounts (change mount)
          (among-map change base.mounts mount m) (cc (MountingTaken.stays_there base ended lasting mount isnt))

      by : (mount : Mount ℕ) → Among mount base.mounts → is_member_of nat_eq group mount ≡ true
          → (b : Bool) → is_going nat_eq ended mount.number ≡ b → has_members nat_eq without.mounts group ≡ true
      by mount m member true going =
          let c = going_is_copied mount m going in
          stays_member (copy mount) (copy_there mount c) member (copy_stays mount c)
      by mount m member false isnt = stays_member mount m member isnt

  lives_member : (group : ℕ) → Lives (has_members nat_eq base.mounts) base.master group
      → has_members nat_eq without.mounts group ≡ true
  lives_member group (has_no_master it has e) = kept_member it has
  lives_member group (has_master it above has e later) = kept_member it has

  group_kept : (group : ℕ) → Lives (has_members nat_eq base.mounts) base.master group
      → is_lost_group nat_eq without (Some group) ≡ false
  group_kept group lives = ap not (lives_member group lives)

  master_kept : (group : ℕ) → Lives (has_members nat_eq base.mounts) base.master group
      → is_lost_group nat_eq without (base.master group) ≡ false
  master_kept group (has_no_master it has e) = cc
  master_kept group (has_master it above has e later) = cc (group_kept above later)

  not_lost : (mount : Mount ℕ) → Among mount base.mounts → lost_a_group nat_eq without (change mount) ≡ false
  not_lost mount m = elim (cases_Bool (is_going nat_eq ended mount.number)) [
    | inl e ↦ cc (goes mount e)
    | inr e ↦ cc (MountingTaken.stays_there base ended lasting mount e, of_source (source_of mount.propagation) refl)
  ]
    where
      living : HasLivingGroups nat_eq base mount
      living = among_from_all (HasLivingGroups nat_eq base) base.mounts base_mounts.groups mount m

      of_source : (o : Option ℕ) → source_of mount.propagation ≡ o
          → (is_lost_group nat_eq without o || is_lost_group nat_eq without (then_some o base.master)) ≡ false
      of_source o e = grind (arith, common_steps, living, group_kept, master_kept)

  abbrev pub ended_world : World ℕ
  ended_world = record without { namespaces = lasting }

  -- so no group is handed on
  pub ends_so : namespaces_ended nat_eq base ≡ ended_world
  ends_so = ap (λ b. record (regrouped_by nat_eq b without) { namespaces = lasting })
      (none_from_among (lost_a_group nat_eq without) without.mounts (λ mount m. let from = among-from_map change
      base.mounts mount m in cc (from.2, not_lost from.0 from.1)))

  -- Mounts that live

  abbrev pub mounted : World ℕ
  mounted = without_dead_mounts nat_eq ended_world

  abbrev pub Alive : Mount ℕ → Type 0
  Alive mount = mount_lives nat_eq ended_world (change mount) ≡ true

  pub alive_there : (mount : Mount ℕ) → Among mount base.mounts → Alive mount → Among (change mount) mounted.mounts
  alive_there mount m lives = among-filter (mount_lives nat_eq ended_world) (map change base.mounts) (change mount)
      (among-map change base.mounts mount m) lives

  one_mounted : OneNumberAMount mounted.mounts
  one_mounted = pair-filter (λ (a b : Mount ℕ). nat_eq a.number b.number) (mount_lives nat_eq ended_world)
      (map change base.mounts)
      (one_number_by_numbers base.mounts (map change base.mounts) (numbers-map change same_number base.mounts)
      base_mounts.one_number)

  pub shown : (mount : Mount ℕ) → Among mount base.mounts → Alive mount
      → mount_numbered nat_eq mounted mount.number ≡ change mount
  shown mount m lives =
      cc (same_number mount, found_itself mounted.mounts one_mounted (change mount) (alive_there mount m lives))

  pub lives_in : (mount : Mount ℕ) → is_going nat_eq ended mount.number ≡ false → is_some mount.namespace ≡ true
      → Alive mount
  lives_in mount isnt inside = or_left (is_some (change mount).namespace) (is_located nat_eq ended_world
      (change mount).number) (cc (MountingTaken.same_namespace base ended lasting false mount isnt, inside))

  lives_at : (mount : Mount ℕ) (location : Location ℕ) → Among location (all_locations base)
      → mount.number ≡ location.mount → Alive mount
  lives_at mount location m e =
      or_right (is_some (change mount).namespace) (is_located nat_eq ended_world (change mount).number)
      (any_from_among (λ (l : Location ℕ). nat_eq (change mount).number l.mount) (all_locations ended_world) location m
      (eq-eqb (change mount).number location.mount (same_number mount ∙ e)))

  pub copy_lives : (mount : Mount ℕ) → Among mount copied → Alive (copy mount)
  copy_lives mount m = lives_in (copy mount) (copy_stays mount m) refl

  -- Locations

  -- a location is one still, or one on the copy is
  still_located : (location : Location ℕ) → Among location (all_locations world) → Among location (all_locations base)
      ⊎ ((is_copied nat_eq copied location ≡ true) × Among (location_on_copy new_number location) (all_locations base))
  still_located location m =
      let from = among-from_flat_map locations_of world.tasks location m in
      ⊎_elim (λ same. mine (rw (← that_task from.0 from.1 same) from.2))
      (λ another. inl (among-flat_map locations_of base.tasks from.0 location (other_there from.0 from.1 another)
      from.2)) (cases_Bool (same_name task.name from.0.name))
    where
      Still : Location ℕ → Type 0
      Still at = Among at (all_locations base)
          ⊎ ((is_copied nat_eq copied at ≡ true) × Among (location_on_copy new_number at) (all_locations base))

      moves : (at : Location ℕ) → Among (moved_location nat_eq copied new_number at) (all_locations base) → Still at
      moves at n = grind (arith, common_steps)

      here : (at : Location ℕ) → Among at (locations_of moved) → Among at (all_locations base)
      here at n = among-flat_map locations_of base.tasks moved at moved_there n

      mine : Among location (locations_of task) → Still location
      mine n = ⊎_elim (λ root. rw root (moves task.root (here (moved_location nat_eq copied new_number task.root)
          (inl refl)))) (λ rest. ⊎_elim (λ directory. subst Still (sym directory)
          (moves task.directory (here (moved_location nat_eq copied new_number task.directory) (inr (inl refl)))))
          (λ opened. inl (here location (inr (inr opened)))) rest) n

  -- the copied mount of a location
  copied_at : (location : Location ℕ) → is_copied nat_eq copied location ≡ true
      → (mount : Mount ℕ) × Among mount copied × (location.mount ≡ mount.number)
  copied_at location e =
      let one = any_among (λ (mount : Mount ℕ). nat_eq location.mount mount.number) copied e in
      (one.0, one.1, eqb-true location.mount one.0.number one.2)

  pub itself : (mount : Mount ℕ) → Among mount world.mounts → mount_numbered nat_eq world mount.number ≡ mount
  itself mount m = found_itself world.mounts is.mounts.one_number mount m

  -- What shows each filesystem still

  record StandIn (mount : Mount ℕ) : Type 0 where
    image : Mount ℕ
    there : Among image base.mounts
    alive : Alive image
    filesystem : image.filesystem ≡ mount.filesystem
    root : image.root ≡ mount.root

  its_copy : (mount : Mount ℕ) → Among mount copied → StandIn mount
  its_copy mount m = record {
    image = copy mount;
    there = copy_there mount m;
    alive = copy_lives mount m;
    filesystem = refl;
    root = refl;
  }

  as_it_was : (mount : Mount ℕ) → Among mount world.mounts → Alive mount → StandIn mount
  as_it_was mount m lives =
      record { image = mount; there = old_there mount m; alive = lives; filesystem = refl; root = refl }

  stand_in : (mount : Mount ℕ) → Among mount world.mounts → StandIn mount
  stand_in mount m = ⊎_elim (λ going. its_copy mount (going_is_copied mount (old_there mount m) going))
      (λ isnt. ⊎_elim (λ inside. as_it_was mount m (lives_in mount isnt inside)) (λ located.
      let one = any_among (λ (l : Location ℕ). nat_eq mount.number l.mount) (all_locations world) located in
      let number : mount.number ≡ one.0.mount = eqb-true mount.number one.0.mount one.2 in
      ⊎_elim (λ still. as_it_was mount m (lives_at mount one.0 still number))
      (λ moves. let at = copied_at one.0 moves.0 in
      its_copy mount (subst (λ x. Among x copied)
      (sym (itself at.0 (was_there at.0 at.1)) ∙ ap (mount_numbered nat_eq world) (sym (number ∙ at.2))
      ∙ itself mount m) at.1)) (still_located one.0 one.1))
      (or_cases (is_some mount.namespace) (is_located nat_eq world mount.number)
      (among_from_list_all (mount_lives nat_eq world) world.mounts (all_in_use world is).mounts mount m)))
      (cases_Bool (is_going nat_eq ended mount.number))

  still_mounted : (number : ℕ) → is_mounted nat_eq world number ≡ true → is_mounted nat_eq mounted number ≡ true
  still_mounted number was =
      let one = any_among (λ (x : Mount ℕ). nat_eq number x.filesystem) world.mounts was in
      let other = stand_in one.0 one.1 in
      any_from_among (λ (x : Mount ℕ). nat_eq number x.filesystem) mounted.mounts (change other.image)
      (alive_there other.image other.there other.alive) (cc (same_filesystem other.image, other.filesystem, one.2))

  filesystems_live : FilesystemsInUse mounted
  filesystems_live = list_all_from_among (filesystem_lives nat_eq mounted) world.filesystems (λ filesystem m.
      by filesystem (or_cases (is_mounted nat_eq world filesystem.number)
      (list_any (λ (merged : Filesystem ℕ). has_layer_on nat_eq filesystem.number merged
      && is_mounted nat_eq world merged.number) world.filesystems)
      (among_from_list_all (filesystem_lives nat_eq world) world.filesystems (all_in_use world is).filesystems
      filesystem m)))
    where
      shows : World ℕ → Filesystem ℕ → Filesystem ℕ → Bool
      shows which filesystem merged = has_layer_on nat_eq filesystem.number merged
          && is_mounted nat_eq which merged.number

      by : (filesystem : Filesystem ℕ) → (is_mounted nat_eq world filesystem.number ≡ true)
          ⊎ (list_any (shows world filesystem) world.filesystems ≡ true)
          → filesystem_lives nat_eq mounted filesystem ≡ true
      by filesystem (inl here) =
          or_left (is_mounted nat_eq mounted filesystem.number) (list_any (shows mounted filesystem) world.filesystems)
          (still_mounted filesystem.number here)
      by filesystem (inr layered) =
          let one = any_among (shows world filesystem) world.filesystems layered in
          let parts = and_parts (has_layer_on nat_eq filesystem.number one.0) (is_mounted nat_eq world one.0.number)
          one.2 in
          or_right (is_mounted nat_eq mounted filesystem.number) (list_any (shows mounted filesystem) world.filesystems)
          (any_from_among (shows mounted filesystem) world.filesystems one.0 one.1
          (cc (parts.0, still_mounted one.0.number parts.1)))

  -- Places that are used still

  -- another place of the same inode
  abbrev SamePlace : Location ℕ → Type 0
  SamePlace location = (other : Location ℕ) × Among other (places_of mounted) × (other.node ≡ location.node)
      × ((mount_at nat_eq mounted other).filesystem ≡ (mount_at nat_eq world location).filesystem)

  abbrev points : List (Mount ℕ) → List (Location ℕ)
  points mounts = filter_map (λ (mount : Mount ℕ). mount.mount_point) mounts

  location_place : (other : Location ℕ) → Among other (all_locations base) → Among other (places_of mounted)
  location_place other m =
      among-append_left (all_locations mounted ++ map root_of mounted.mounts) (points mounted.mounts) other
      (among-append_left (all_locations mounted) (map root_of mounted.mounts) other m)

  point_place : (mount : Mount ℕ) → Among mount base.mounts → Alive mount → (other : Location ℕ)
      → (change mount).mount_point ≡ Some other → Among other (places_of mounted)
  point_place mount m lives other e =
      among-append_right (all_locations mounted ++ map root_of mounted.mounts) (points mounted.mounts) other
      (among-filter_map (λ (x : Mount ℕ). x.mount_point) mounted.mounts (change mount) other
      (alive_there mount m lives) e)

  -- what is shown at a number that a mount of the world has
  shown_by : (mount : Mount ℕ) → Among mount world.mounts → (location : Location ℕ) → mount.number ≡ location.mount
      → mount.filesystem ≡ (mount_at nat_eq world location).filesystem
  shown_by mount m location e = cc (itself mount m)

  of_copy : (mount : Mount ℕ) → Among mount copied → (location : Location ℕ) → mount.number ≡ location.mount
      → (mount_at nat_eq mounted (location_on_copy new_number location)).filesystem
      ≡ (mount_at nat_eq world location).filesystem
  of_copy mount m location e = ap (λ n. (mount_numbered nat_eq mounted (new_number n)).filesystem) (sym e)
      ∙ ap (λ (x : Mount ℕ). x.filesystem) (shown (copy mount) (copy_there mount m) (copy_lives mount m))
      ∙ same_filesystem (copy mount) ∙ shown_by mount (was_there mount m) location e

  of_itself : (mount : Mount ℕ) → Among mount world.mounts → Alive mount → (location : Location ℕ)
      → mount.number ≡ location.mount
      → (mount_at nat_eq mounted location).filesystem ≡ (mount_at nat_eq world location).filesystem
  of_itself mount m lives location e =
      cc (shown mount (old_there mount m) lives, same_filesystem mount, shown_by mount m location e)

  of_location : (location : Location ℕ) → Among location (places_of world) → Among location (all_locations world)
      → SamePlace location
  of_location location m n = ⊎_elim (λ still. (
    location,
    location_place location still,
    refl,
    of_itself mount there (lives_at mount location still number) location number,
  )) (λ moves. let at = copied_at location moves.0 in (
    location_on_copy new_number location,
    location_place (location_on_copy new_number location) moves.1,
    refl,
    of_copy at.0 at.1 location (sym at.2),
  )) (still_located location n)
    where
      mount : Mount ℕ
      mount = mount_numbered nat_eq world location.mount

      number : mount.number ≡ location.mount
      number = number-mount_in world.mounts location.mount

      there : Among mount world.mounts
      there = found_there world.mounts location.mount
          (places_stand world (mounts_of_worlds_stand world is) (locations_of_worlds_stand world is) location m)

  of_root : (mount : Mount ℕ) → Among mount world.mounts → SamePlace (root_of mount)
  of_root mount m =
      let other = stand_in mount m in (
        root_of (change other.image),
        among-append_left (all_locations mounted ++ map root_of mounted.mounts) (points mounted.mounts)
            (root_of (change other.image))
            (among-append_right (all_locations mounted) (map root_of mounted.mounts) (root_of (change other.image))
            (among-map root_of mounted.mounts (change other.image) (alive_there other.image other.there other.alive))),
        ap (λ (l : Location ℕ). l.node) (MountingTaken.same_root base ended lasting false other.image) ∙ other.root,
        ap (λ (x : Mount ℕ). x.filesystem) (found_itself mounted.mounts one_mounted (change other.image)
            (alive_there other.image other.there other.alive))
            ∙ same_filesystem other.image ∙ other.filesystem ∙ shown_by mount m (root_of mount) refl,
      )

  of_point : (mount : Mount ℕ) → Among mount world.mounts → (place : Location ℕ) → mount.mount_point ≡ Some place
      → SamePlace place
  of_point mount m place e = elim (cases_Bool (is_going nat_eq ended mount.number)) [
    | inl going ↦ let c = going_is_copied mount (old_there mount m) going in
        let below_copied : Among below.parent copied = among-filter (is_in task.namespace) world.mounts below.parent
        below.there (cc (below.namespace, (among-from_filter (is_in task.namespace) world.mounts mount c).1)) in
        let on : is_going nat_eq ended (new_number place.mount) ≡ false =
        cc (below.number, copy_stays below.parent below_copied) in (
          location_on_copy new_number place,
          point_place (copy mount) (copy_there mount c) (copy_lives mount c) (location_on_copy new_number place)
              (MountingTaken.same_place base ended lasting false (copy mount) (location_on_copy new_number place)
              (cc) (copy_stays mount c) on),
          refl,
          of_copy below.parent below_copied place below.number,
        )
    | inr isnt ↦ let below_stays : is_going nat_eq ended below.parent.number ≡ false =
        stays_if below.parent (old_there below.parent below.there) (cc (below.namespace, outside isnt)) in
        let in_one = inside mount.namespace refl in (
          place,
          point_place mount (old_there mount m) (lives_in mount isnt in_one) place
              (MountingTaken.same_place base ended lasting false mount place e isnt (cc below.number)),
          refl,
          of_itself below.parent below.there
              (lives_in below.parent below_stays (cc below.namespace)) place below.number,
        )
  ]
    where
      below : Parent world mount place
      below = parent_of world is.mounts mount m place e

      inside : (o : Option ℕ) → mount.namespace ≡ o → is_some mount.namespace ≡ true
      inside None f = absurd (placed_inside world is.mounts mount m place e f)
      inside (Some namespace) f = cc

      outside : is_going nat_eq ended mount.number ≡ false → is_in_ended nat_eq base mount ≡ false
      outside isnt = false_from_ne_true (is_in_ended nat_eq base mount) (λ it. true≢false
          (cc (goes_if mount (old_there mount m) it)))

  same_place : (location : Location ℕ) → Among location (places_of world) → SamePlace location
  same_place location m =
      ⊎_elim (λ front. ⊎_elim (λ at. of_location location m at) (λ root. let from = among-from_map root_of world.mounts
      location root in rw from.2 (of_root from.0 from.1)) (among-append (all_locations world) (map root_of world.mounts)
      location front)) (λ point. let from = among-from_filter_map (λ (x : Mount ℕ). x.mount_point) world.mounts location
      point in of_point from.0 from.1 location from.2) (among-append (all_locations world ++ map root_of world.mounts)
      (points world.mounts) location m)

  -- Inodes

  used_still : (filesystem : Filesystem ℕ) (number : ℕ) → is_inode_used world filesystem number ≡ true
      → is_inode_used mounted filesystem number ≡ true
  used_still filesystem number used = ⊎_elim (λ root. or_left (nat_eq number filesystem.files.tree.root) _ root)
      (λ rest. ⊎_elim (λ front. ⊎_elim (λ first. ⊎_elim (λ name. later (is_among_left number (named ++ now) layers
      (is_among_left number named now name))) (λ there. located there) (apart named was first))
      (λ layer. later (is_among_right number (named ++ now) layers layer)) (apart (named ++ was) layers front))
      (λ object. or_right (nat_eq number filesystem.files.tree.root) _
      (is_among_right number (named ++ now ++ layers) objects object)) (apart (named ++ was ++ layers) objects rest))
      (or_cases (nat_eq number filesystem.files.tree.root) _ used)
    where
      named : List ℕ
      named = named_in filesystem.files

      was : List ℕ
      was = located_in nat_eq world filesystem.number

      now : List ℕ
      now = located_in nat_eq mounted filesystem.number

      layers : List ℕ
      layers = layers_in nat_eq world filesystem.number

      objects : List ℕ
      objects = flat_map (objects_of_overlay nat_eq filesystem.number) world.filesystems

      apart : (xs ys : List ℕ) → is_among nat_eq number (xs ++ ys) ≡ true
          → (is_among nat_eq number xs ≡ true) ⊎ (is_among nat_eq number ys ≡ true)
      apart xs ys h = or_cases (is_among nat_eq number xs) (is_among nat_eq number ys)
          (sym (list_any-append (nat_eq number) xs ys) ∙ h)

      later : is_among nat_eq number (named ++ now ++ layers) ≡ true → is_inode_used mounted filesystem number ≡ true
      later h = or_right (nat_eq number filesystem.files.tree.root) _
          (is_among_left number (named ++ now ++ layers) objects h)

      shows : Location ℕ → Bool
      shows location = nat_eq filesystem.number (mount_at nat_eq world location).filesystem

      located : is_among nat_eq number was ≡ true → is_inode_used mounted filesystem number ≡ true
      located there =
          let from = among-from_map (λ (l : Location ℕ). l.node) (filter shows (places_of world)) number
          (among_numbers number was there) in
          let here = among-from_filter shows (places_of world) from.0 from.1 in
          let other = same_place from.0 here.0 in
          cc (
            from.2,
            other.2,
            used_at mounted filesystem other.0 other.1
                (eqb-true filesystem.number (mount_at nat_eq world from.0).filesystem here.1 ∙ sym other.3),
          )

  inodes_live : InodesInUse mounted
  inodes_live = all_from_among (λ (f : Filesystem ℕ). list_all (is_inode_used mounted f) f.files.numbers ≡ true)
      world.filesystems (λ filesystem m.
      list_all_from_among (is_inode_used mounted filesystem) filesystem.files.numbers (λ number n.
      used_still filesystem number (among_from_list_all (is_inode_used world filesystem) filesystem.files.numbers
      (among_from_all (λ (f : Filesystem ℕ). list_all (is_inode_used world f) f.files.numbers ≡ true) world.filesystems
      (all_in_use world is).inodes filesystem m) number n)))

  -- No filesystem and no inode goes.
  pub settles_so : settled nat_eq (namespaces_ended nat_eq base) ≡ without_dead_groups nat_eq mounted
  settles_so = ap (settled nat_eq) ends_so
      ∙ ap (λ w. without_dead_groups nat_eq (without_dead_inodes nat_eq w)) (filesystems_stay mounted filesystems_live)
      ∙ ap (λ w. without_dead_groups nat_eq (without_dead_in nat_eq (λ filesystem. not (is_overlay filesystem)) w))
      (inodes_stay is_overlay mounted inodes_live)
      ∙ ap (without_dead_groups nat_eq) (inodes_stay (λ filesystem. not (is_overlay filesystem)) mounted inodes_live)
