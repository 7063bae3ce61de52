-- Others that get a namespace of their own, with copies of the mounts of theirs: unshare(2) with CLONE_NEWNS.
use Rattle.std.proofs.Common.{arith, ◌≡◌, refl, sym, ap, subst, ◌∙◌, ◌⊎◌, inl, inr, ⊎_elim, ℕ, nat_eq, Bool, true, false, cond, true≢false, List, [], ◌∷◌, ◌++◌, append-nil, Option, Some, None, filter, flat_map, map, ◌+◌, ◌*◌, not, eqb-true, filter_map}
use Rattle.vt_spec.proofs.Common.{cases_Bool, Among, Call, Fresh, Location, Mount, Namespace, Propagation, Serves, Task, TaskName, ToUnshare, World, all_locations, among-append, among-append_left, among-filter, among-flat_map, among-from_filter, among-from_flat_map, among-from_map, among-map, among_from_list_all, among_numbers, and_from, and_parts, any_among, apply, common_steps, copied_mount, evens, false_from_ne_true, filter-append, filter_map-append, holds_of, index_of, is_among_numbers, is_among_right, is_at, is_copied, is_listed, is_member_task, is_own_mount, is_own_namespace, list_all, list_all_from_among, list_any, location_on_copy, locations, locations_of, master_of, members, mount_at, mount_numbered, mounts_of, namespaces_ended, no_outsider_on, none_among, none_from_among, not-true, numbers_by, odds, other_mounts, outsiders, roots_and_directories, settled, unshared, unshared_task, used_by_filesystem, used_by_mount}
use Rattle.vt_laws_mounts.proofs.ends.Ending.{ended_namespaces_keep_mounts}
use Rattle.vt_laws_sealed.proofs.Common.{among-flat_map_filter, unshare_keeps_mounts}
use Rattle.vt_laws_sealed.proofs.outsiders.OthersCalls.{IsOthersCall, apart_from}
use Rattle.vt_laws_worlds.proofs.worlds.Roots.{found_copy}
use Rattle.vt_laws_sealed.specs.Part.Parts.{SeesTheSame}
use Rattle.vt_laws_sealed.specs.Part.Seals.{IsApart}
use Rattle.vt_laws_sealed.proofs.part.part.Observed.{own_mounts_same}
use Rattle.vt_laws_sealed.proofs.part.part.PartOfPart.{keep}
use Rattle.vt_laws_sealed.proofs.outsiders.Attaching.{found_first, none_kept}
use Rattle.vt_laws_sealed.proofs.outsiders.Ending.{ended_leaves_apart, filesystems_ended}
use Rattle.vt_laws_sealed.proofs.outsiders.OtherMounts.{HearsGroup, events_stay_apart, is_other, located_there, namespace_outside, not_stood_on, number_not_new, other_hears_foreign, standing_apart}
use Rattle.vt_laws_sealed.proofs.outsiders.OwnTasks.{caller_outside, replaced_members}
use Rattle.vt_laws_sealed.proofs.outsiders.StandingApart.{NothingNew, StandsApart}
use Rattle.vt_laws_sealed.proofs.outsiders.Staying.{IsOfTheWorld, LeavesApart, free_from}
use Rattle.vt_laws_sealed.proofs.outsiders.Steps.{leaves_on}
use Rattle.vt_laws_sealed.proofs.outsiders.Sweeping.{sweeping_leaves_apart}

module _ {world : World ℕ} {names : List TaskName} (apart : IsApart world names) (fresh : Fresh ℕ)
    (serves : Serves nat_eq world fresh) (task : Task ℕ) (caller : Among task (outsiders world names)) where
  abbrev copied : List (Mount ℕ)
  copied = mounts_of nat_eq world task.namespace

  abbrev copy : ℕ → ℕ
  copy = numbers_by nat_eq (odds fresh) (mounts_of nat_eq world task.namespace)

  abbrev number : ℕ
  number = evens fresh 0

  abbrev on_copies : Mount ℕ → Mount ℕ
  on_copies = copied_mount copy number

  abbrev copies : List (Mount ℕ)
  copies = map on_copies copied

  abbrev moved : Task ℕ
  moved = unshared_task nat_eq copied copy number task

  abbrev left : World ℕ
  left = unshared nat_eq world fresh task

  abbrev theirs : List (Task ℕ)
  theirs = members world names

  abbrev own_by : List (Task ℕ) → ℕ → Bool
  own_by some namespace = list_any (λ (t : Task ℕ). nat_eq namespace t.namespace) some

  abbrev is_own : ℕ → Bool
  is_own = own_by theirs

  abbrev kept : Mount ℕ → Option (Mount ℕ)
  kept = keep world names theirs

  abbrev so_far : StandsApart world names NothingNew
  so_far = standing_apart world names apart

  -- the new namespace is none of theirs
  new_namespace : is_own number ≡ false
  new_namespace = false_from_ne_true (is_own number) (λ own.
      true≢false (sym (is_among_right number (flat_map_mounts ++ flat_map_filesystems)
      (map (λ (n : Namespace ℕ). n.number) world.namespaces) (so_far.own_listed number own)) ∙ serves.unused 0))
    where
      flat_map_mounts : List ℕ
      flat_map_mounts = flat_map used_by_mount world.mounts

      flat_map_filesystems : List ℕ
      flat_map_filesystems = flat_map used_by_filesystem world.filesystems

  -- A copy is of a mount of others, has a new number, and is in the new namespace.
  abbrev IsCopy : Mount ℕ → Type 0
  IsCopy mount = (old : Mount ℕ) × Among old copied × (mount ≡ on_copies old)

  copies_are : (mount : Mount ℕ) → Among mount copies → IsCopy mount
  copies_are mount m = among-from_map on_copies copied mount m

  old_other : (old : Mount ℕ) → Among old copied → Among old (other_mounts nat_eq world names)
  old_other old m =
      let at = among-from_filter (λ (x : Mount ℕ). holds_of (nat_eq task.namespace) x.namespace) world.mounts old m in
      by old.namespace refl at.1 at.0
    where
      by : (o : Option ℕ) → old.namespace ≡ o → holds_of (nat_eq task.namespace) o ≡ true → Among old world.mounts
          → Among old (other_mounts nat_eq world names)
      by None e h there = cc
      by (Some n) e h there =
          is_other world names (namespace_outside world names apart task caller) old there
          (cc (eqb-true task.namespace n h))

  not_located : (places : List (Location ℕ))
      → ((location : Location ℕ) → Among location places → Among location (all_locations world))
      → (mount : Mount ℕ) → IsCopy mount → is_at nat_eq places mount ≡ false
  not_located places all mount is_copy =
      none_from_among (λ (l : Location ℕ). nat_eq l.mount mount.number) places (λ l m.
      false_from_ne_true (nat_eq l.mount mount.number) (λ e.
      let there = located_there apart l (all l m) in
      number_not_new world fresh serves there.0 (2 * index_of nat_eq copied is_copy.0.number + 1) there.1
      (sym (eqb-true l.mount there.0.number there.2) ∙ eqb-true l.mount mount.number e
      ∙ ap (λ (x : Mount ℕ). x.number) is_copy.2)))

  of_members : (location : Location ℕ) → Among location (locations theirs) → Among location (all_locations world)
  of_members = among-flat_map_filter locations_of (is_member_task names) world.tasks

  of_others : (location : Location ℕ) → Among location (locations (outsiders world names))
      → Among location (all_locations world)
  of_others = among-flat_map_filter locations_of (λ t. not (is_member_task names t)) world.tasks

  roots_located : (location : Location ℕ) → Among location (roots_and_directories theirs)
      → Among location (all_locations world)
  roots_located location m =
      let of = among-from_flat_map (λ (t : Task ℕ). t.root ∷ t.directory ∷ []) theirs location m in
      of_members location (among-flat_map locations_of theirs of.0 location of.1 (⊎_elim (λ root. inl root)
      (λ rest. ⊎_elim (λ directory. inr (inl directory)) (λ none. absurd none) rest) of.2))

  copy_not_kept : (mount : Mount ℕ) → IsCopy mount → kept mount ≡ None
  copy_not_kept mount is_copy = search (arith, common_steps, new_namespace, not_located, roots_located, of_members)

  module _ (same : filter (is_member_task names) left.tasks ≡ members world names) where
    sees : SeesTheSame world left names
    sees = record {
      tasks = same;
      mounts = ap (λ some. filter_map (keep world names some) left.mounts) same
          ∙ filter_map-append kept world.mounts copies ∙ ap (λ l. filter_map kept world.mounts ++ l)
          (none_kept kept copies (λ mount m. copy_not_kept mount (copies_are mount m)))
          ∙ append-nil (filter_map kept world.mounts);
      masters = λ group h. refl;
      direct = λ n m. refl;
      filesystems = refl;
      namespaces = ap (λ some. filter (λ (n : Namespace ℕ). own_by some n.number) left.namespaces) same
          ∙ filter-append (λ (n : Namespace ℕ). is_own n.number) world.namespaces new_ones
          ∙ ap (λ b. filter (λ (n : Namespace ℕ). is_own n.number) world.namespaces ++ cond b new_ones []) new_namespace
          ∙ append-nil (filter (λ (n : Namespace ℕ). is_own n.number) world.namespaces);
    }
      where
        new_ones : List (Namespace ℕ)
        new_ones = record { number = number; change = 0 } ∷ []

    -- one of the others was one, or is the caller
    out_from : (t : Task ℕ) → Among t (outsiders left names) → (t ≡ moved) ⊎ Among t (outsiders world names)
    out_from t m = grind (arith, common_steps, among-from_filter, among-from_map, among-filter)

    out_placed : (t : Task ℕ) → Among t (outsiders left names) → is_own t.namespace ≡ false
    out_placed t m = ⊎_elim (λ it. cc (new_namespace))
        (namespace_outside world names apart t) (out_from t m)

    -- a location of others was one, or is on a copy
    abbrev IsOnCopy : Location ℕ → Type 0
    IsOnCopy location = (old : Mount ℕ) × Among old copied × (mount_at nat_eq left location ≡ on_copies old)

    moved_from : (location : Location ℕ) → Among location (locations_of task) → (new : Location ℕ)
        → new ≡ cond (is_copied nat_eq copied location) (location_on_copy copy location) location
        → Among new (locations (outsiders world names)) ⊎ IsOnCopy new
    moved_from location m new e = elim (cases_Bool (is_copied nat_eq copied location)) [
      | inl f ↦ let at = any_among (λ (x : Mount ℕ). nat_eq location.mount x.number) copied f in
          inr (
            at.0,
            at.1,
            ap (mount_at nat_eq left) (e ∙ ap (λ b. cond b (location_on_copy copy location) location) f)
                ∙ ap (λ n. mount_numbered nat_eq left (copy n)) (eqb-true location.mount at.0.number at.2)
                ∙ found_copy world fresh task apart.is serves at.0 at.1,
          )
      | inr f ↦ inl (subst (λ l. Among l (locations (outsiders world names)))
          (sym (cc))
          (among-flat_map locations_of (outsiders world names) task location caller m))
    ]

    located_from : (location : Location ℕ) → Among location (locations (outsiders left names))
        → Among location (locations (outsiders world names)) ⊎ IsOnCopy location
    located_from location m =
        let of = among-from_flat_map locations_of (outsiders left names) location m in
        ⊎_elim (λ it. of_moved (subst (λ (t : Task ℕ). Among location (locations_of t)) it of.2))
        (λ old. inl (among-flat_map locations_of (outsiders world names) of.0 location old of.2)) (out_from of.0 of.1)
      where
        of_moved : Among location (locations_of moved)
            → Among location (locations (outsiders world names)) ⊎ IsOnCopy location
        of_moved m = ⊎_elim (λ root. moved_from task.root (inl refl) location root)
            (λ rest. ⊎_elim (λ directory. moved_from task.directory (inr (inl refl)) location directory)
            (λ files. inl (among-flat_map locations_of (outsiders world names) task location caller (inr (inr files))))
            rest) m

    old_at : (location : Location ℕ) → Among location (locations (outsiders world names))
        → mount_at nat_eq left location ≡ mount_at nat_eq world location
    old_at location m =
        let there = located_there apart location (of_others location m) in
        found_first location.mount world.mounts copies there.0 there.1 there.2

    -- a mount of others was one, or is a copy
    others_from : (other : Mount ℕ) → Among other (other_mounts nat_eq left names)
        → Among other (other_mounts nat_eq world names) ⊎ IsCopy other
    others_from other m =
        let out = among-from_filter (λ (x : Mount ℕ). holds_of (λ n. not (is_own n)) x.namespace) left.mounts other
        (subst (λ some. Among other (filter (λ (x : Mount ℕ). holds_of (λ n. not (own_by some n)) x.namespace)
        left.mounts)) same m) in
        ⊎_elim
        (λ old. inl (among-filter (λ (x : Mount ℕ). holds_of (λ n. not (is_own n)) x.namespace) world.mounts other old
        out.1)) (λ new. inr (copies_are other new)) (among-append world.mounts copies other out.0)

    masters_are : (kind : Propagation ℕ) → master_of left kind ≡ master_of world kind
    masters_are kind = grind (arith, common_steps)

    hears : (kind : Propagation ℕ) (group : ℕ) → HearsGroup so_far left kind group
        → HearsGroup so_far world kind group
    hears kind group how = ⊎_elim inl (λ e. inr (sym (masters_are kind) ∙ e)) how

    fewer : (n : ℕ) → IsOfTheWorld world names n → no_outsider_on nat_eq world names n ≡ true
        → no_outsider_on nat_eq left names n ≡ true
    fewer n of alone = search (
      arith,
      common_steps,
      and_parts,
      none_among,
      not-true,
      and_from,
      none_from_among,
      old_other,
      others_from,
      old_at,
      located_from,
    )

    copied_leaves_apart : LeavesApart world left names []
    copied_leaves_apart = record {
      sees = sees;
      others = record {
        tasks = ap (λ some. list_all (λ (t : Task ℕ). not (own_by some t.namespace)) (outsiders left names)) same
            ∙ list_all_from_among (λ (t : Task ℕ). not (is_own t.namespace)) (outsiders left names)
            (λ t m. ap not (out_placed t m));
        events = events_stay_apart so_far left (own_mounts_same world left names sees)
            (λ own m. masters_are own.propagation) (λ other m group how. ⊎_elim
            (λ old. other_hears_foreign so_far other old group (hears other.propagation group how))
            (λ is_copy. other_hears_foreign so_far is_copy.0 (old_other is_copy.0 is_copy.1) group
            (hears is_copy.0.propagation group (subst (λ (x : Mount ℕ). HearsGroup so_far left x.propagation group)
            is_copy.2 how)))
            (others_from other m));
        locations =
            ap (λ some. list_all (λ location. not (holds_of (own_by some) (mount_at nat_eq left location).namespace))
            (locations (outsiders left names))) same
            ∙ list_all_from_among (λ location. not (holds_of is_own (mount_at nat_eq left location).namespace))
            (locations (outsiders left names)) (λ location m. ⊎_elim
            (λ old. ap (λ (x : Mount ℕ). not (holds_of is_own x.namespace)) (old_at location old)
            ∙ among_from_list_all (λ place. not (is_own_mount nat_eq world names (mount_at nat_eq world place)))
            (locations (outsiders world names)) apart.locations location old)
            (λ new. ap (λ (x : Mount ℕ). not (holds_of is_own x.namespace)) new.2 ∙ ap not new_namespace)
            (located_from location m));
        free = free_from world left names refl fewer;
      };
      unraised = λ n m. refl;
    }

    own_left : (n : ℕ) → is_own_namespace nat_eq left names n ≡ is_own n
    own_left n = ap (λ some. own_by some n) same

    copied_standing : StandsApart left names NothingNew
    copied_standing = record {
      mounts = unshare_keeps_mounts world fresh task serves apart.is.mounts;
      tasks = copied_leaves_apart.others.tasks;
      events = copied_leaves_apart.others.events;
      locations = copied_leaves_apart.others.locations;
      not_stood = λ namespace outside mount there placed.
          ap (λ some. is_at nat_eq (roots_and_directories some) mount) same ∙ ⊎_elim
          (λ old. not_stood_on apart (sym (own_left namespace) ∙ outside) mount old placed)
          (λ new. not_located (roots_and_directories theirs) roots_located mount (copies_are mount new))
          (among-append world.mounts copies mount there);
      own_listed = λ n own.
          let from = among-from_map (λ (x : Namespace ℕ). x.number) world.namespaces n
          (among_numbers (map (λ (x : Namespace ℕ). x.number) world.namespaces) n
          (so_far.own_listed n (sym (own_left n) ∙ own))) in
          subst (λ k. is_listed nat_eq left k ≡ true) (sym from.2)
          (is_among_numbers (map (λ (x : Namespace ℕ). x.number) left.namespaces) from.0.number
          (among-map (λ (x : Namespace ℕ). x.number) left.namespaces from.0
          (among-append_left world.namespaces (record { number = number; change = 0 } ∷ []) from.0 from.1)));
      new_group = λ mount group m is_in new. new;
      new_master = λ group new. absurd new;
    }

    -- then the old namespace may end
    left_placed : (t : Task ℕ) → Among t (outsiders left names) → is_own_namespace nat_eq left names t.namespace ≡ false
    left_placed t m = own_left t.namespace ∙ out_placed t m

    pub unsharing_leaves_apart : LeavesApart world (namespaces_ended nat_eq left) names []
    unsharing_leaves_apart = leaves_on world left (namespaces_ended nat_eq left) names refl copied_leaves_apart
        (ended_leaves_apart copied_standing left.tasks refl left_placed (λ location m. inl (location, m, refl)))

    pub filesystems_unshared : (namespaces_ended nat_eq left).filesystems ≡ world.filesystems
    filesystems_unshared =
        filesystems_ended copied_standing left.tasks refl left_placed (λ location m. inl (location, m, refl))

module _ {world : World ℕ} {fresh : Fresh ℕ} {names : List TaskName} {name : TaskName} {call : Call}
    {task : Task ℕ} (outsider : IsOthersCall world fresh names name call task) where
  pub unshare_leaves : LeavesApart world (settled nat_eq (apply nat_eq fresh world task ToUnshare).world) names []
  unshare_leaves =
      let set_apart = apart_from outsider.it in
      let caller = caller_outside outsider in
      let moved_task = unshared_task nat_eq (mounts_of nat_eq world task.namespace)
      (numbers_by nat_eq (odds fresh) (mounts_of nat_eq world task.namespace)) (evens fresh 0) task in
      let same = replaced_members outsider moved_task refl in
      sweeping_leaves_apart world (namespaces_ended nat_eq (unshared nat_eq world fresh task)) names set_apart
      outsider.sealed_off (filesystems_unshared set_apart fresh outsider.serves task caller same)
      (ended_namespaces_keep_mounts (unshared nat_eq world fresh task) (unshare_keeps_mounts world fresh task
      outsider.serves outsider.is.mounts)).one_number [] (unsharing_leaves_apart set_apart fresh outsider.serves task
      caller same)
