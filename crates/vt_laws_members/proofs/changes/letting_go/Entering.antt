-- A setns(2) that ends no namespace ends in the part as in the world.
use Rattle.std.proofs.Common.{arith, ◌≡◌, refl, sym, ap, ◌∙◌, ⊎_elim, ℕ, nat_eq, Bool, true, false, List, [], Option, Some, None, Ok, map, not, eq-eqb, IfOk, is_some, ok_or, option_map, unwrap_or}
use Rattle.vt_spec.proofs.Common.{Among, Done, Exit, Fresh, Location, Mount, Namespace, Permit, Setns, Task, TaskName, ToEnterNamespace, World, among-from_filter, among-from_map, among-map, among_from_list_all, any_among, any_from_among, common_steps, denial, entered_at, found_among, granted, has_tasks, holds_of, is_among, is_own_namespace, judge, judge_in, judging, list_all_from_among, list_any, members, mounts_of, namespace_root, namespaces_ended, numbers_raised, part_of, replaced_if_called, root_mount, root_of, same_name, same_truth, settled, task_called, topmost}
use Rattle.vt_laws_members.proofs.Common.{S2, none_lost, own_topmost, same_topmost}
use Rattle.vt_laws_members.proofs.judging.Common.{IsMember, IsTheirs, caller_in, member_called, own_theirs, root_theirs, sealing_of, theirs_from, theirs_test}
use Rattle.vt_laws_members.specs.Changes.Changes.{EndsAlike, IsCallOfTheirs}
use Rattle.vt_laws_members.proofs.changes.letting_go.Callers.{StandsOnTheirs, moved_alike, replaced_how}
use Rattle.vt_laws_members.proofs.changes.Common.{On, alike, in_old, none_ends, judged_so, one, own_in, part_keeps, ran_there, run_by, space_in_part}
use Rattle.vt_laws_members.proofs.changes.letting_go.Leaving.{in_world, its_name, part_listed}

-- The permit of setns(2)
module _ {world : World ℕ} {names : List TaskName} {task : Task ℕ} (member : IsMember world names task) where
  abbrev pub Enters : Permit ℕ → Type 0
  Enters permit = (target : Task ℕ) × Among target (members world names) × (permit ≡ ToEnterNamespace target.namespace)

  enters_by : (called : TaskName) → is_among same_name called names ≡ true → (o : Option (Task ℕ))
      → task_called world called ≡ o → (namespace : ℕ)
      → ok_or (option_map (λ (t : Task ℕ). t.namespace) o) (denial S2) ≡ Ok namespace
      → Enters (ToEnterNamespace namespace)
  enters_by called theirs None e namespace found = cc
  enters_by called theirs (Some target) e namespace found =
      (target, (member_called member.sealing called theirs target e).among, cc)

  pub enters : (full : Permit ℕ → Bool) (called : TaskName) → is_among same_name called names ≡ true → IfOk
      (judge nat_eq (one member) full task (Setns called)) Enters
  unfolding judging
  enters full called theirs = judged_so (one member) full task Enters (Setns called) (λ namespace found capable.
      enters_by called theirs (task_called world called) refl namespace found)

-- A call that enters the namespace of another task of theirs
pub record EntersTheirs (world : World ℕ) (names : List TaskName) (name called_so : TaskName) (task target : Task ℕ)
    : Type 0 where
  pub it : IsCallOfTheirs world names name (Setns called_so)
  pub called : task_called world name ≡ Some task
  pub target_in : Among target (members world names)

module _ {world : World ℕ} {names : List TaskName} {name called_so : TaskName} {task target : Task ℕ}
    (enter : EntersTheirs world names name called_so task target) where
  abbrev part : World ℕ
  part = part_of nat_eq world names

  abbrev theirs : List (Task ℕ)
  theirs = members world names

  abbrev pub space : ℕ
  space = target.namespace

  pub exit_it : IsCallOfTheirs world names name Exit
  exit_it = record {
    is = enter.it.is;
    sealed_off = enter.it.sealed_off;
    theirs = enter.it.theirs;
    among_them = λ member e. cc;
  }

  member : IsMember world names task
  member = caller_in enter.it enter.called

  pub space_own : is_own_namespace nat_eq world names space ≡ true
  space_own = any_from_among _ theirs target enter.target_in (eq-eqb space space refl)

  -- The root of the namespace
  abbrev is_root : Mount ℕ → Bool
  is_root m = not (is_some m.mount_point)

  on_root : (m : Mount ℕ) → root_mount nat_eq world space ≡ Some m
      → On member m.number
  on_root m e =
      let from = among-from_filter (λ (x : Mount ℕ). holds_of (nat_eq space) x.namespace) world.mounts m
      (found_among is_root (mounts_of nat_eq world space) m e) in
      theirs_test world names enter.it.is.mounts m.number (own_theirs world names enter.it.is m from.0
      (own_in (sealing_of enter.it) space space_own m from.1))

  pub root_alike : namespace_root nat_eq part space ≡ namespace_root nat_eq world space
  root_alike = cc (space_in_part (sealing_of enter.it) space space_own, by (root_mount nat_eq world space) refl)
    where
      by : (o : Option (Mount ℕ)) → root_mount nat_eq world space ≡ o
          → option_map (λ m. topmost nat_eq part.mounts (root_of m)) o
          ≡ option_map (λ m. topmost nat_eq world.mounts (root_of m)) o
      by None e = refl
      by (Some m) e = cc (same_topmost (alike member).walks (root_of m) (on_root m e))

  abbrev pub root : Location ℕ
  root = unwrap_or (namespace_root nat_eq world space) task.root

  pub root_on : IsTheirs world names enter.it.is.mounts root.mount
  root_on = by (root_mount nat_eq world space) refl
    where
      by : (o : Option (Mount ℕ)) → root_mount nat_eq world space ≡ o → IsTheirs world names enter.it.is.mounts
          (unwrap_or (option_map (λ m. topmost nat_eq world.mounts (root_of m)) o) task.root).mount
      by None e = root_theirs world names enter.it.is task member.among
      by (Some m) e = theirs_from world names enter.it.is.mounts (topmost nat_eq world.mounts (root_of m)).mount
          (own_topmost (alike member).walks (root_of m) (on_root m e))

  -- The caller in it
  abbrev pub mine : Task ℕ
  mine = entered_at task space root

  abbrev pub replaced : Task ℕ → Task ℕ
  replaced = replaced_if_called mine

  -- the caller is in a namespace of theirs
  pub entered_was : (n : ℕ) → list_any (λ (t : Task ℕ). nat_eq n t.namespace) (map replaced theirs) ≡ true
      → list_any (λ (t : Task ℕ). nat_eq n t.namespace) theirs ≡ true
  entered_was n h =
      let at = any_among (λ (t : Task ℕ). nat_eq n t.namespace) (map replaced theirs) h in
      let from = among-from_map replaced theirs at.0 at.1 in
      let here : nat_eq n (replaced from.0).namespace ≡ true =
      ap (λ (x : Task ℕ). nat_eq n x.namespace) (sym from.2) ∙ at.2 in
      ⊎_elim (λ its. any_from_among (λ (t : Task ℕ). nat_eq n t.namespace) theirs target enter.target_in
      (ap (λ (x : Task ℕ). nat_eq n x.namespace) (sym its.0) ∙ here))
      (λ same. any_from_among (λ (t : Task ℕ). nat_eq n t.namespace) theirs from.0 from.1
      (ap (λ (x : Task ℕ). nat_eq n x.namespace) (sym same) ∙ here))
      (replaced_how enter.it task enter.called mine refl from.0 (in_world exit_it task enter.called from.0 from.1))

  pub stands : StandsOnTheirs world names name (Setns called_so) enter.it task mine
  stands = grind (arith, common_steps, root_on)

  -- A namespace with a task still has one
  module _ (entered : (n : ℕ) → (list : List (Task ℕ)) → ((t : Task ℕ) → Among t list → Among t world.tasks)
      → ((t : Task ℕ) → Among t theirs → Among t list) → list_any (λ (t : Task ℕ). nat_eq n t.namespace) list ≡ true
      → list_any (λ (t : Task ℕ). nat_eq n t.namespace) (map replaced list) ≡ true) where
    own : (n : ℕ) → list_any (λ (t : Task ℕ). nat_eq n t.namespace) (map replaced theirs)
        ≡ list_any (λ (t : Task ℕ). nat_eq n t.namespace) theirs
    own n = same_truth (list_any (λ (t : Task ℕ). nat_eq n t.namespace) (map replaced theirs))
        (list_any (λ (t : Task ℕ). nat_eq n t.namespace) theirs) (entered_was n)
        (λ h. entered n theirs (in_world exit_it task enter.called) (λ t m. m) h)

    -- No namespace ends
    world_stays : namespaces_ended nat_eq (record world { tasks = map replaced world.tasks })
        ≡ record world { tasks = map replaced world.tasks }
    world_stays = none_ends (record world { tasks = map replaced world.tasks }) enter.it.is.namespaces.mounts_listed
        (list_all_from_among (has_tasks nat_eq (record world { tasks = map replaced world.tasks })) world.namespaces
        (λ n m. entered n.number world.tasks (λ t k. k) (in_world exit_it task enter.called)
        (among_from_list_all (has_tasks nat_eq world) world.namespaces enter.it.is.namespaces.namespaces_live n m)))
        (none_lost world enter.it.is.mounts)

    part_stays : namespaces_ended nat_eq (record part { tasks = map replaced part.tasks })
        ≡ record part { tasks = map replaced part.tasks }
    part_stays = none_ends (record part { tasks = map replaced part.tasks }) (part_listed exit_it task enter.called)
        (list_all_from_among (has_tasks nat_eq (record part { tasks = map replaced part.tasks })) part.namespaces
        (λ n m. entered n.number theirs (in_world exit_it task enter.called) (λ t k. k)
        (among-from_filter (λ (s : Namespace ℕ). list_any (λ (t : Task ℕ). nat_eq s.number t.namespace) theirs)
        world.namespaces n m).1)) (part_keeps exit_it task enter.called)

    pub entering_alike : (fresh supply : Fresh ℕ)
        → judge_in nat_eq fresh world task (Setns called_so) ≡ Ok (ToEnterNamespace space)
        → EndsAlike world names name (Setns called_so) fresh supply
    entering_alike fresh supply judged = moved_alike enter.it task enter.called mine stands fresh supply refl own
        (ap (run_by enter.it world fresh task) judged ∙ ap (λ w. granted Done (numbers_raised nat_eq world name []
        (settled nat_eq w))) world_stays) (ran_there enter.it fresh supply task enter.called judged ∙ ap
        (λ o. granted Done (numbers_raised nat_eq part name [] (settled nat_eq (namespaces_ended nat_eq (record part {
          tasks = map (replaced_if_called (entered_at task space (unwrap_or o task.root))) part.tasks;
        }))))) root_alike ∙ ap (λ w. granted Done (numbers_raised nat_eq part name [] (settled nat_eq w))) part_stays)

  -- Another task is in the namespace that it leaves
  module _ (other_task : Task ℕ) (there : Among other_task world.tasks)
      (together : other_task.namespace ≡ task.namespace) (differ : same_name name other_task.name ≡ false) where
    other_same : replaced other_task ≡ other_task
    other_same = cc (its_name exit_it task enter.called, differ)

    other_in : Among other_task theirs
    other_in = in_old exit_it enter.called other_task there together differ

    pub entered : (n : ℕ) (list : List (Task ℕ)) → ((t : Task ℕ) → Among t list → Among t world.tasks)
        → ((t : Task ℕ) → Among t theirs → Among t list) → list_any (λ (t : Task ℕ). nat_eq n t.namespace) list ≡ true
        → list_any (λ (t : Task ℕ). nat_eq n t.namespace) (map replaced list) ≡ true
    entered n list within all h =
        let at = any_among (λ (t : Task ℕ). nat_eq n t.namespace) list h in
        ⊎_elim (λ its. any_from_among _ _ (replaced other_task) (among-map replaced list other_task
        (all other_task other_in)) (cc (other_same, its.1, at.2))) (λ same. any_from_among _ _ (replaced at.0)
        (among-map replaced list at.0 at.1) (cc at.2))
        (replaced_how enter.it task enter.called mine refl at.0 (within at.0 at.1))

  -- It stays in its namespace
  pub entered_itself : space ≡ task.namespace → (n : ℕ) (list : List (Task ℕ))
      → ((t : Task ℕ) → Among t list → Among t world.tasks) → ((t : Task ℕ) → Among t theirs → Among t list)
      → list_any (λ (t : Task ℕ). nat_eq n t.namespace) list ≡ true
      → list_any (λ (t : Task ℕ). nat_eq n t.namespace) (map replaced list) ≡ true
  entered_itself same_space n list within all h =
      let at = any_among (λ (t : Task ℕ). nat_eq n t.namespace) list h in
      any_from_among (λ (t : Task ℕ). nat_eq n t.namespace) (map replaced list) (replaced at.0)
      (among-map replaced list at.0 at.1) (cc (
        ⊎_elim (λ its. ap (λ (x : Task ℕ). x.namespace) its.0 ∙ same_space ∙
            ap (λ (x : Task ℕ). x.namespace) its.1) (λ same. ap (λ (x : Task ℕ). x.namespace) same)
            (replaced_how enter.it task enter.called mine refl at.0 (within at.0 at.1)),
        at.2,
      ))
