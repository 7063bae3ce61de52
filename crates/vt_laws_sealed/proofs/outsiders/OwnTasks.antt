-- Calls of others that set something of the task alone, or give it a child.
use Rattle.std.proofs.Common.{◌≡◌, refl, sym, ap, subst, ◌∙◌, ◌⊎◌, inl, inr, ⊎_elim, ℕ, nat_eq, Bool, true, false, cond, List, [], ◌∷◌, ◌++◌, ◌+◌, append-nil, None, Ok, filter, is_some, map, not, arith, filter_map}
use Rattle.vt_spec.proofs.Common.{Among, Call, Credentials, Drop, Fork, Fresh, Location, Mount, Namespace, Outcome, Permit, Task, TaskName, ToFork, ToSetCredentials, ToSetUmask, Umask, World, after, among-append, among-filter, among-flat_map, among-from_filter, among-from_flat_map, among-from_map, among_from_list_all, and_from, and_parts, any_among, apply, call_outcome, child_name, child_of, common_steps, contains_from_among, false_from_ne_true, filter-append, found_among, holds_of, is_among, is_member_task, is_own_mount, judge_in, list_all, list_all_from_among, list_any, locations, locations_of, map_same, members, mount_at, mount_numbered, name-replaced_if_called, no_outsider_on, none_among, none_from_among, not-true, other_mounts, outsiders, replaced_if_called, same_name, same_task_name, settled, share_events, some_from_is_some, task_called}
use Rattle.vt_laws_sealed.proofs.Common.{call_is_judged_then_applied, change_asked, filter-map, name_found, permits_are_for_their_calls, sets_type, takes_uses}
use Rattle.vt_laws_sealed.proofs.outsiders.OthersCalls.{IsOthersCall, apart_from}
use Rattle.vt_laws_later_calls.proofs.ends.EndedBy.{other_calls_keep_all}
use Rattle.vt_laws_later_calls.specs.Whiteouts.{replaced_as, replaced_if}
use Rattle.vt_laws_sealed.proofs.part.part.PartOfPart.{keep}
use Rattle.vt_laws_sealed.specs.Part.Seals.{IsApart}
use Rattle.vt_laws_sealed.proofs.outsiders.Staying.{LeavesApart, free_from}

-- a location is on a mount on which one of the others was, or on a mount of another namespace
abbrev pub IsOutside : World ℕ → List TaskName → Location ℕ → Type 0
IsOutside world names location =
    ((old : Location ℕ) × Among old (locations (outsiders world names)) × (location.mount ≡ old.mount))
    ⊎ Among (mount_at nat_eq world location) (other_mounts nat_eq world names)

-- Other tasks, with the members as they were: each task of others is where one of others was
module _ {world : World ℕ} {names : List TaskName} (apart : IsApart world names) (tasks : List (Task ℕ))
    (same : filter (is_member_task names) tasks ≡ members world names)
    (from : (task : Task ℕ) → Among task tasks → is_member_task names task ≡ false
    → (old : Task ℕ) × Among old (outsiders world names) × (task.namespace ≡ old.namespace)
    × ((location : Location ℕ) → Among location (locations_of task) → IsOutside world names location)) where
  abbrev left : World ℕ
  left = record world { tasks = tasks }

  -- so are the locations of others
  out_there : (location : Location ℕ) → Among location (locations (outsiders left names))
      → IsOutside world names location
  out_there location m =
      let of = among-from_flat_map locations_of (outsiders left names) location m in
      let out = among-from_filter (λ (t : Task ℕ). not (is_member_task names t)) tasks of.0 of.1 in
      (from of.0 out.0 (not-true (is_member_task names of.0) out.1)).3 location of.2

  abbrev own_by : List (Task ℕ) → ℕ → Bool
  own_by some namespace = list_any (λ (task : Task ℕ). nat_eq namespace task.namespace) some

  abbrev others_by : List (Task ℕ) → List (Mount ℕ)
  others_by some =
      filter (λ (mount : Mount ℕ). holds_of (λ namespace. not (own_by some namespace)) mount.namespace) world.mounts

  fewer : (number : ℕ) → no_outsider_on nat_eq world names number ≡ true
      → no_outsider_on nat_eq left names number ≡ true
  fewer number alone =
      let parts = and_parts (not (list_any (λ (mount : Mount ℕ). nat_eq number mount.filesystem)
      (other_mounts nat_eq world names)))
      (not (list_any (λ location. nat_eq number (mount_at nat_eq world location).filesystem)
      (locations (outsiders world names)))) alone in
      and_from (not (list_any (λ (mount : Mount ℕ). nat_eq number mount.filesystem) (other_mounts nat_eq left names)))
      (not (list_any (λ location. nat_eq number (mount_at nat_eq left location).filesystem)
      (locations (outsiders left names))))
      (ap (λ some. not (list_any (λ (mount : Mount ℕ). nat_eq number mount.filesystem) (others_by some))) same
      ∙ parts.0) (ap not (none_from_among (λ location. nat_eq number (mount_at nat_eq world location).filesystem)
      (locations (outsiders left names)) (λ location m. ⊎_elim
      (λ old. ap (λ n. nat_eq number (mount_numbered nat_eq world n).filesystem) old.2
      ∙ none_among (λ place. nat_eq number (mount_at nat_eq world place).filesystem)
      (locations (outsiders world names)) (not-true _ parts.1) old.0 old.1)
      (none_among (λ (mount : Mount ℕ). nat_eq number mount.filesystem) (other_mounts nat_eq world names)
      (not-true _ parts.0) (mount_at nat_eq world location)) (out_there location m))))

  other_not_own : (mount : Mount ℕ) → Among mount (other_mounts nat_eq world names)
      → not (is_own_mount nat_eq world names mount) ≡ true
  other_not_own mount m = grind (arith, common_steps, among-from_filter)

  pub tasks_leave_apart : LeavesApart world left names []
  tasks_leave_apart = record {
    sees = record {
      tasks = same;
      mounts = ap (λ some. filter_map (keep world names some) world.mounts) same;
      masters = λ group e. refl;
      direct = λ number m. refl;
      filesystems = refl;
      namespaces = ap (λ some. filter (λ (n : Namespace ℕ). own_by some n.number) world.namespaces) same;
    };
    others = record {
      tasks = ap (λ some. list_all (λ (task : Task ℕ). not (own_by some task.namespace)) (outsiders left names)) same
          ∙ list_all_from_among (λ (task : Task ℕ). not (own_by (members world names) task.namespace))
          (outsiders left names) (λ task m.
          let out = among-from_filter (λ (t : Task ℕ). not (is_member_task names t)) tasks task m in
          let was = from task out.0 (not-true (is_member_task names task) out.1) in
          ap (λ n. not (own_by (members world names) n)) was.2
          ∙ among_from_list_all (λ (t : Task ℕ). not (own_by (members world names) t.namespace)) (outsiders world names)
          apart.tasks was.0 was.1);
      events =
          ap (λ some. list_all (λ own. list_all (λ other. not (share_events nat_eq world own other)) (others_by some))
          (filter (λ (mount : Mount ℕ). holds_of (own_by some) mount.namespace) world.mounts)) same ∙ apart.events;
      locations =
          ap (λ some. list_all (λ location. not (holds_of (own_by some) (mount_at nat_eq world location).namespace))
          (locations (outsiders left names))) same
          ∙ list_all_from_among (λ location. not (is_own_mount nat_eq world names (mount_at nat_eq world location)))
          (locations (outsiders left names)) (λ location m. ⊎_elim
          (λ old. ap (λ n. not (is_own_mount nat_eq world names (mount_numbered nat_eq world n))) old.2
          ∙ among_from_list_all (λ place. not (is_own_mount nat_eq world names (mount_at nat_eq world place)))
          (locations (outsiders world names)) apart.locations old.0 old.1)
          (other_not_own (mount_at nat_eq world location)) (out_there location m));
      free = free_from world left names refl (λ number of alone. fewer number alone);
    };
    unraised = λ number m. refl;
  }

-- A call of one of others
module _ {world : World ℕ} {fresh : Fresh ℕ} {names : List TaskName} {name : TaskName} {call : Call}
    {task : Task ℕ} (outsider : IsOthersCall world fresh names name call task) where
  -- The sweep takes nothing at the end of a call that takes no use away and asks for no change.
  pub nothing_is_swept : (permit : Permit ℕ) → judge_in nat_eq fresh world task call ≡ Ok permit
      → takes_uses call ≡ false → sets_type call ≡ false → change_asked fresh world permit ≡ None
      → settled nat_eq (apply nat_eq fresh world task permit).world ≡ (apply nat_eq fresh world task permit).world
  nothing_is_swept permit judged only no_type none =
      let left : (call_outcome nat_eq fresh world task call).world ≡ (apply nat_eq fresh world task permit).world =
      ap (λ (o : Outcome ℕ). o.world) (call_is_judged_then_applied fresh world task call
      ∙ ap (λ j. after world j (apply nat_eq fresh world task)) judged) in
      subst (λ w. settled nat_eq w ≡ w) left (other_calls_keep_all world fresh task call outsider.is outsider.serves
      (ap (task_called world) (sym (name_found world name task outsider.called)) ∙ outsider.called) only no_type
      (ap (replaced_as fresh world) judged ∙ ap (replaced_if world) none))

  -- the caller is one of the others
  pub caller_outside : Among task (outsiders world names)
  caller_outside = grind (arith, common_steps, among-filter, found_among, name_found)

  -- the caller's locations are outside
  pub callers_outside : (location : Location ℕ) → Among location (locations_of task) → IsOutside world names location
  callers_outside location m = inl (
    location,
    among-flat_map locations_of (outsiders world names) task location caller_outside m,
    refl,
  )

  -- one task of others is replaced by one of its name, in its namespace and at its locations
  module _ (new : Task ℕ) (same_called : new.name ≡ task.name) where
    abbrev replaced : List (Task ℕ)
    replaced = map (replaced_if_called new) world.tasks

    not_member : (other : Task ℕ) → same_name new.name other.name ≡ true → is_member_task names other ≡ false
    not_member other e =
        cc (same_task_name new.name other.name e, name_found world name task outsider.called, outsider.outside)

    pub replaced_members : filter (is_member_task names) replaced ≡ members world names
    replaced_members = filter-map (is_member_task names) (replaced_if_called new) world.tasks
        (λ other. ap (λ n. is_among same_name n names) (name-replaced_if_called new other))
        ∙ map_same (replaced_if_called new) (members world names)
        (λ other m. by other (among-from_filter (is_member_task names) world.tasks other m).1
        (same_name new.name other.name) refl)
      where
        by : (other : Task ℕ) → is_member_task names other ≡ true → (b : Bool) → same_name new.name other.name ≡ b
            → cond b new other ≡ other
        by other member true e = cc (not_member other e)
        by other member false e = refl

    module _ (same_place : new.namespace ≡ task.namespace)
        (no_more : (location : Location ℕ) → Among location (locations_of new) → IsOutside world names location) where
      pub replaced_from : (other : Task ℕ) → Among other replaced → is_member_task names other ≡ false
          → (old : Task ℕ) × Among old (outsiders world names) × (other.namespace ≡ old.namespace)
          × ((location : Location ℕ) → Among location (locations_of other) → IsOutside world names location)
      replaced_from other m outside =
          let at = among-from_map (replaced_if_called new) world.tasks other m in
          by at.0 at.1 at.2 (same_name new.name at.0.name) refl
        where
          by : (old : Task ℕ) → Among old world.tasks → other ≡ replaced_if_called new old → (b : Bool)
              → same_name new.name old.name ≡ b
              → (was : Task ℕ) × Among was (outsiders world names) × (other.namespace ≡ was.namespace)
              × ((location : Location ℕ) → Among location (locations_of other) → IsOutside world names location)
          by old there e true f =
              let it : other ≡ new = cc in (
                task,
                caller_outside,
                cc (it),
                λ location at. no_more location (subst (λ (t : Task ℕ). Among location (locations_of t)) it at),
              )
          by old there e false f =
              let it : other ≡ old = cc in
              let among = among-filter (λ (t : Task ℕ). not (is_member_task names t)) world.tasks old there
              (ap not (ap (is_member_task names) (sym it) ∙ outside)) in (
                old,
                among,
                ap (λ (t : Task ℕ). t.namespace) it,
                λ location at. inl (
                  location,
                  among-flat_map locations_of (outsiders world names) old location among
                      (subst (λ (t : Task ℕ). Among location (locations_of t)) it at),
                  refl,
                ),
              )

      pub replacing_leaves_apart : LeavesApart world (record world { tasks = replaced }) names []
      replacing_leaves_apart = tasks_leave_apart (apart_from outsider.it) replaced replaced_members replaced_from

  -- a child of one of others is none of the set's
  child_outside : is_among same_name (child_name task) names ≡ false
  child_outside = false_from_ne_true (is_among same_name (child_name task) names) (λ h.
      let member = any_among (same_name (child_name task)) names h in
      let found = some_from_is_some (task_called world member.0)
      (among_from_list_all (λ n. is_some (task_called world n)) names outsider.there member.0 member.1) in
      let its_name : found.0.name ≡ child_name task =
      cc (name_found world member.0 found.0 found.1, same_task_name (child_name task) member.0 member.2) in
      let counted = outsider.is.tasks.forks_counted task found.0 (task.forks + 1) []
      (contains_from_among world.tasks task (found_among (λ (t : Task ℕ). same_name name t.name) world.tasks task
      outsider.called)) (contains_from_among world.tasks found.0
      (found_among (λ (t : Task ℕ). same_name member.0 t.name) world.tasks found.0 found.1)) its_name in
      omega (arith, counted))

  abbrev parent : Task ℕ
  parent = record task { forks = task.forks + 1 }

  module _ (child : Task ℕ) (named : child.name ≡ child_name task) (same_place : child.namespace ≡ task.namespace)
      (no_more : (location : Location ℕ) → Among location (locations_of child) → IsOutside world names location)
    where
      abbrev forked : List (Task ℕ)
      forked = map (replaced_if_called parent) world.tasks ++ child ∷ []

      child_is_none : is_member_task names child ≡ false
      child_is_none = cc (child_outside)

      forked_members : filter (is_member_task names) forked ≡ members world names
      forked_members =
          grind (arith, common_steps, filter-append, child_is_none, append-nil, replaced_members parent refl)

      forked_from : (other : Task ℕ) → Among other forked → is_member_task names other ≡ false
          → (old : Task ℕ) × Among old (outsiders world names) × (other.namespace ≡ old.namespace)
          × ((location : Location ℕ) → Among location (locations_of other) → IsOutside world names location)
      forked_from other m outside = ⊎_elim
          (λ old. replaced_from parent refl refl callers_outside other old outside)
          (λ new. ⊎_elim (λ it. (
            task,
            caller_outside,
            cc (it),
            λ location at. no_more location (subst (λ (t : Task ℕ). Among location (locations_of t)) it at),
          )) (λ none. absurd none) new)
          (among-append (map (replaced_if_called parent) world.tasks) (child ∷ []) other m)

      pub forking_leaves_apart : LeavesApart world (record world { tasks = forked }) names []
      forking_leaves_apart = tasks_leave_apart (apart_from outsider.it) forked forked_members forked_from

  unswept : (permit : Permit ℕ) → judge_in nat_eq fresh world task call ≡ Ok permit → (asked : Call) → call ≡ asked
      → takes_uses asked ≡ false → sets_type asked ≡ false → change_asked fresh world permit ≡ None
      → LeavesApart world (apply nat_eq fresh world task permit).world names []
      → LeavesApart world (settled nat_eq (apply nat_eq fresh world task permit).world) names []
  unswept permit judged asked e only no_type none leaves = subst (λ w. LeavesApart world w names [])
      (sym (nothing_is_swept permit judged (cc) (cc) none)) leaves

  pub umask_leaves : (umask : ℕ) → judge_in nat_eq fresh world task call ≡ Ok (ToSetUmask umask)
      → LeavesApart world (settled nat_eq (apply nat_eq fresh world task (ToSetUmask umask)).world) names []
  umask_leaves umask judged =
      let for = permits_are_for_their_calls fresh world task call (ToSetUmask umask) judged in
      unswept (ToSetUmask umask) judged (Umask for.0) for.1 refl refl refl
      (replacing_leaves_apart (record task { umask = umask }) refl refl callers_outside)

  pub credentials_leave : (credentials : Credentials)
      → judge_in nat_eq fresh world task call ≡ Ok (ToSetCredentials credentials)
      → LeavesApart world (settled nat_eq (apply nat_eq fresh world task (ToSetCredentials credentials)).world) names []
  credentials_leave credentials judged =
      let for = permits_are_for_their_calls fresh world task call (ToSetCredentials credentials) judged in
      unswept (ToSetCredentials credentials) judged (Drop for.0) for.1 refl refl refl
      (replacing_leaves_apart (record task { credentials = credentials }) refl refl callers_outside)

  pub fork_leaves : (credentials : Credentials) → judge_in nat_eq fresh world task call ≡ Ok (ToFork credentials)
      → LeavesApart world (settled nat_eq (apply nat_eq fresh world task (ToFork credentials)).world) names []
  fork_leaves credentials judged =
      let for = permits_are_for_their_calls fresh world task call (ToFork credentials) judged in
      unswept (ToFork credentials) judged (Fork for.0) for.1 refl refl refl
      (forking_leaves_apart (child_of task credentials) refl refl (λ location m. callers_outside location
      (⊎_elim inl (λ rest. inr (⊎_elim inl (λ none. absurd none) rest)) m)))
