-- Permits that take mounts of a sealed set away leave others as they were: umount(2), _exit(2), setns(2).
use Rattle.std.proofs.Common.{◌≡◌, refl, sym, ap, subst, ◌∙◌, ◌⊎◌, inl, inr, ⊎_elim, ℕ, nat_eq, Bool, true, false, true≢false, List, [], ◌∷◌, Option, Some, None, Ok, filter, map, not, is_some, ◌&&◌, ◌||◌, eq-eqb, eqb-true, arith, IfOk, option_to_list}
use Rattle.vt_spec.proofs.Common.{Among, Call, Exit, Fresh, IsWorld, Location, Mount, Namespace, Permit, Setns, Task, TaskName, ToEnterNamespace, ToExit, ToUnmount, World, among-filter, among-flat_map, among-from_filter, among-from_flat_map, among-from_map, among_from_list_all, among_numbers, and_from, and_parts, any_among, any_from_among, apply, common_steps, false_from_ne_true, found_or_none, going, has_tasks, holds_of, is_going, is_in_ended, is_listed, is_located, is_member_task, is_own_namespace, judge_in, list_all, list_any, locations, locations_of, members, mount_lives, mount_numbered, namespaces_ended, none_is_some, not-false, not-true, numbers_raised, outsiders, raised_task, settled, taken_away, task_called, without_task}
use Rattle.vt_laws_containers.proofs.footholds.ServedCalls.{IsServedCall}
use Rattle.vt_laws_containers.proofs.Common.{IsApart, IsCallOfTheirs, IsMember, IsTheirs, NothingNew, all_permits_fit, apart_if_sealed, caller_in, filter_less, found_itself, left, mounts_overlay, name_found, namespaces_taken_away, of_set, permits_are_for_their_calls, places_left, raised_is, sealing_of}
use Rattle.vt_laws_sealed.proofs.outsiders.Unmounting.{others_go}
use Rattle.vt_laws_members.proofs.changes.letting_go.Entering.{Enters, EntersTheirs, entered_was, enters, stands}
use Rattle.vt_laws_members.proofs.changes.letting_go.Leaving.{is_task, its, its_name, member, new_old, set_from, set_parts, stays}
use Rattle.vt_laws_containers.proofs.footholds.PermitFootholds.{DetachingGivesNoFoothold, is_of_detaching}
use Rattle.vt_laws_containers.proofs.footholds.AsBefore.{OthersAsBefore}
use Rattle.vt_laws_containers.proofs.footholds.Granting.{EndsInAWorld}
use Rattle.vt_laws_containers.proofs.footholds.Mirror.{mirror_stands, side, ours_is_not_out, own_out, placed_listed}
use Rattle.vt_laws_containers.proofs.footholds.TakenAsBefore.{TakesOwn, taken_as_before, taken_mounts, taken_tasks}
use Rattle.vt_laws_containers.proofs.footholds.TasksAsBefore.{others_unmoved}
use Rattle.vt_laws_containers.proofs.footholds.TasksPermits.{Before, kept, permit_out}

-- In a world that a call leaves a namespace with a mount has a task, and had it before the sweep.
pub tasked_later : (before left : World ℕ) (name : TaskName) (changed : List ℕ)
    → IsWorld nat_eq (numbers_raised nat_eq before name changed (settled nat_eq left)) → (mount : Mount ℕ)
    → Among mount left.mounts → (n : ℕ) → mount.namespace ≡ Some n
    → (t : Task ℕ) × Among t left.tasks × (t.namespace ≡ n)
tasked_later before left name changed is mount m n e =
    let later = numbers_raised nat_eq before name changed (settled nat_eq left) in
    let lives : mount_lives nat_eq left mount ≡ true = ap (λ o. is_some o || is_located nat_eq left mount.number) e in
    let listed : is_listed nat_eq later n ≡ true =
    (and_parts (is_listed nat_eq later n) true (sym (ap (λ o. list_all (is_listed nat_eq later) (option_to_list o)) e)
    ∙ among_from_list_all (λ (x : Mount ℕ). list_all (is_listed nat_eq later) (option_to_list x.namespace))
    _ is.namespaces.mounts_listed mount (among-filter _ _ mount m lives))).0 in
    let at = any_among (nat_eq n) (map (λ (s : Namespace ℕ). s.number) later.namespaces) listed in
    let space = among-from_map (λ (s : Namespace ℕ). s.number) later.namespaces at.0 at.1 in
    let task = any_among (λ (t : Task ℕ). nat_eq space.0.number t.namespace) _
    (among_from_list_all (has_tasks nat_eq later) later.namespaces is.namespaces.namespaces_live space.0 space.1) in
    let was = among-from_map (raised_task name) _ _ task.1 in (
      was.0,
      was.1,
      sym (raised_is name (λ (t : Task ℕ). t.namespace) (λ t. refl) was.0)
          ∙ sym (ap (λ (t : Task ℕ). t.namespace) was.2) ∙ sym (eqb-true n at.0 at.2 ∙ space.2 ∙ eqb-true _ _ task.2),
    )

-- what two filters leave
filter_twice : {A : Type 0} (p q r : A → Bool) (xs : List A)
    → ((x : A) → Among x xs → q x ≡ true → p x ≡ r x) → ((x : A) → Among x xs → q x ≡ false → r x ≡ false)
    → filter p (filter q xs) ≡ filter r xs
filter_twice p q r [] same none = refl
filter_twice {A} p q r (x ∷ xs) same none =
    grind (arith, common_steps, filter_twice p q r xs (λ y m. same y (inr m)) (λ y m. none y (inr m)))

module _ {world : World ℕ} {names : List TaskName} {name : TaskName} {call : Call}
    (it : IsCallOfTheirs world names name call) where
  apart : IsApart world names
  apart = apart_if_sealed (sealing_of it)

  abbrev ours : ℕ → Bool
  ours = is_own_namespace nat_eq world names

  its_own : (t : Task ℕ) → Among t (members world names) → ours t.namespace ≡ true
  its_own t m = any_from_among (λ (x : Task ℕ). nat_eq t.namespace x.namespace) _ t m (eq-eqb _ _ refl)

  -- the mount of a number is there, if it is in a namespace
  there_in : (number n : ℕ) → (mount_numbered nat_eq world number).namespace ≡ Some n
      → Among (mount_numbered nat_eq world number) world.mounts
  there_in number n e = ⊎_elim (λ m. m) (λ none. none_is_some n (sym (ap (λ (x : Mount ℕ). x.namespace) none) ∙ e))
      (found_or_none world.mounts number)

  -- Namespaces that lose their last tasks end, and the others' are not among them.
  module _ (set : List TaskName) (tasks : List (Task ℕ))
      (others : filter (λ (t : Task ℕ). not (is_member_task set t)) tasks ≡ outsiders world names)
      (own_less : (n : ℕ) → list_any (λ (t : Task ℕ). nat_eq n t.namespace) (filter (is_member_task set) tasks) ≡ true
      → ours n ≡ true)
      (located : (location : Location ℕ) → Among location (locations (filter (is_member_task set) tasks))
      → Among location (locations (members world names)) ⊎ IsTheirs world names it.is.mounts location.mount)
      (changed : List ℕ) (ends : IsWorld nat_eq (numbers_raised nat_eq world name changed
      (settled nat_eq (namespaces_ended nat_eq (record world { tasks = tasks }))))) where
    abbrev before : World ℕ
    before = record world { tasks = tasks }

    abbrev gone : List ℕ
    gone = map (λ (mount : Mount ℕ). mount.number) (filter (is_in_ended nat_eq before) world.mounts)

    -- a namespace of others has a task
    out_stays : (n : ℕ) → list_any (λ (t : Task ℕ). nat_eq n t.namespace) (outsiders world names) ≡ true
        → list_any (λ (t : Task ℕ). nat_eq n t.namespace) tasks ≡ true
    out_stays n h = grind (arith, common_steps, any_among, any_from_among, among-from_filter)

    lives_on : (n : ℕ) → is_listed nat_eq world n ≡ true
        → list_any (λ (t : Task ℕ). nat_eq n t.namespace) (outsiders world names) ≡ true
        → list_any (λ (s : Namespace ℕ). nat_eq n s.number && has_tasks nat_eq before s) world.namespaces ≡ true
    lives_on n listed theirs =
        let at = any_among (nat_eq n) (map (λ (s : Namespace ℕ). s.number) world.namespaces) listed in
        let space = among-from_map (λ (s : Namespace ℕ). s.number) world.namespaces at.0 at.1 in
        let same : n ≡ space.0.number = eqb-true n at.0 at.2 ∙ space.2 in
        any_from_among (λ (s : Namespace ℕ). nat_eq n s.number && has_tasks nat_eq before s) world.namespaces space.0
        space.1 (and_from (nat_eq n space.0.number) (has_tasks nat_eq before space.0) (eq-eqb n space.0.number same)
        (subst (λ k. list_any (λ (t : Task ℕ). nat_eq k t.namespace) tasks ≡ true) same (out_stays n theirs)))

    ended_ours : (mount : Mount ℕ) → Among mount world.mounts → is_in_ended nat_eq before mount ≡ true
        → (n : ℕ) × (mount.namespace ≡ Some n) × (ours n ≡ true)
    ended_ours mount m h = by mount.namespace refl h
      where
        by : (o : Option ℕ) → mount.namespace ≡ o
            → holds_of (λ n. not (list_any (λ (s : Namespace ℕ). nat_eq n s.number && has_tasks nat_eq before s)
            world.namespaces)) o ≡ true → (n : ℕ) × (mount.namespace ≡ Some n) × (ours n ≡ true)
        by None e ended = absurd (true≢false (sym ended))
        by (Some n) e ended =
            let listed = placed_listed apart mount m n e in (
              n,
              e,
              ⊎_elim (λ own. own) (λ theirs. absurd (true≢false (sym (lives_on n listed theirs) ∙ not-true _ ended)))
                  (side apart n listed),
            )

    ended_takes : TakesOwn world names set it.is tasks (filter (has_tasks nat_eq before) world.namespaces) gone
    ended_takes = record {
      going = λ number h.
          let from = among-from_map (λ (mount : Mount ℕ). mount.number) _ _ (among_numbers gone _ h) in
          let at = among-from_filter _ _ _ from.1 in
          let its_space = ended_ours _ at.0 at.1 in (
            its_space.0,
            ap (λ (x : Mount ℕ). x.namespace) (ap (mount_numbered nat_eq world) from.2
                ∙ found_itself _ it.is.mounts.one_number _ at.0) ∙ its_space.1,
            its_space.2,
          );
      others = others;
      own_less = own_less;
      tasked = λ mount m n e.
          let of = tasked_later world (namespaces_ended nat_eq before) name _ ends mount
          (subst (Among mount) (sym (taken_mounts world tasks gone)) m) n e in
          (of.0, subst (Among of.0) (taken_tasks world tasks gone) of.1, of.2);
      located = located;
      listed = filter_less
          (λ (s : Namespace ℕ). list_any (λ (t : Task ℕ). nat_eq s.number t.namespace) (outsiders world names)) _ _
          (λ s m ended. false_from_ne_true _ (λ h. true≢false (sym (out_stays s.number h) ∙ ended)));
    }

    pub ended_as_before : OthersAsBefore world (namespaces_ended nat_eq (record world { tasks = tasks })) names set
    ended_as_before = taken_as_before (sealing_of it) ended_takes

-- _exit(2)
module _ {world : World ℕ} {names : List TaskName} {name : TaskName} (it : IsCallOfTheirs world names name Exit)
    (task : Task ℕ) (called : task_called world name ≡ Some task) where
  abbrev rest : List (Task ℕ)
  rest = filter (stays it task called) world.tasks

  abbrev is_left : Task ℕ → Bool
  is_left = its it task called

  others_rest : filter (λ (t : Task ℕ). not (is_left t)) rest ≡ outsiders world names
  others_rest = filter_twice (λ (t : Task ℕ). not (is_left t)) _ (λ (t : Task ℕ). not (is_member_task names t)) _
      (λ t m stay. ap not (same t stay _ refl))
      (λ t m gone. ap not (ap (is_member_task names) (sym (is_task it task called t m (not-false _ gone)))
      ∙ (among-from_filter (is_member_task names) world.tasks task (member it task called).among).1))
    where
      same : (t : Task ℕ) → stays it task called t ≡ true → (b : Bool) → is_member_task names t ≡ b
          → is_left t ≡ b
      same t stay true e = set_from it task called t e stay
      same t stay false e = false_from_ne_true (is_left t) (λ h. true≢false (sym (set_parts it task called t h).0 ∙ e))

  exit_before : (changed : List ℕ) → IsWorld nat_eq (numbers_raised nat_eq world name changed
      (settled nat_eq (namespaces_ended nat_eq (without_task world name))))
      → OthersAsBefore world (namespaces_ended nat_eq (without_task world name)) names (left names name Exit)
  exit_before changed ends = ended_as_before it _ rest others_rest
      (λ n h. let at = any_among (λ (t : Task ℕ). nat_eq n t.namespace) _ h in
      any_from_among (λ (t : Task ℕ). nat_eq n t.namespace) _ at.0 (new_old it task called at.0 at.1) at.2)
      (λ l m. let from = among-from_flat_map locations_of _ l m in
      inl (among-flat_map locations_of _ _ l (new_old it task called _ from.1) from.2)) _ ends

  pub exits_before : (fresh : Fresh ℕ) (changed : List ℕ) → IsWorld nat_eq (numbers_raised nat_eq world name changed
      (settled nat_eq (apply nat_eq fresh world task ToExit).world))
      → OthersAsBefore world (apply nat_eq fresh world task ToExit).world names (left names name Exit)
  exits_before fresh changed = subst (λ n. IsWorld nat_eq (numbers_raised nat_eq world name changed
      (settled nat_eq (namespaces_ended nat_eq (without_task world n))))
      → OthersAsBefore world (namespaces_ended nat_eq (without_task world n)) names (left names name Exit))
      (its_name it task called) (exit_before changed)

-- setns(2)
pub entering_before : {world : World ℕ} {names : List TaskName} {name target_name : TaskName} {task target : Task ℕ}
    (enter : EntersTheirs world names name target_name task target) (fresh : Fresh ℕ) (changed : List ℕ)
    → IsWorld nat_eq (numbers_raised nat_eq world name changed
    (settled nat_eq (apply nat_eq fresh world task (ToEnterNamespace target.namespace)).world))
    → OthersAsBefore world (apply nat_eq fresh world task (ToEnterNamespace target.namespace)).world names names
entering_before {world} {names} {name} {target_name} {task} enter fresh changed ends =
    ended_as_before enter.it names _ (others_unmoved world names name _ enter.it task enter.called _ refl)
    (λ n h. entered_was enter n (sym (ap (list_any (λ (t : Task ℕ). nat_eq n t.namespace))
    (of_set enter.it task enter.called _ (stands enter) _)) ∙ h))
    (places_left enter.it task enter.called _ (stands enter)) _ ends

-- umount(2)
module _ {world : World ℕ} {names : List TaskName} {name : TaskName} {call : Call} {fresh : Fresh ℕ}
    {task : Task ℕ} (it : IsServedCall world names name call fresh task) where
  its_apart : IsApart world names
  its_apart = apart_if_sealed (sealing_of it.it)

  its_member : IsMember world names task
  its_member = caller_in it.it it.called

  -- mounts that go without a change of tasks
  pub gone_as_before : (gone : List ℕ) → (changed : List ℕ) → ((number : ℕ) → is_going nat_eq gone number ≡ true
      → (n : ℕ) × ((mount_numbered nat_eq world number).namespace ≡ Some n)
      × (is_own_namespace nat_eq world names n ≡ true))
      → ((mount : Mount ℕ) → Among mount (taken_away nat_eq world gone).mounts → (n : ℕ) → mount.namespace ≡ Some n
      → (t : Task ℕ) × Among t world.tasks × (t.namespace ≡ n))
      → OthersAsBefore world (taken_away nat_eq world gone) names names
  gone_as_before gone changed goes tasked =
      subst (λ w. OthersAsBefore world w names names) (namespaces_taken_away world gone)
      (taken_as_before (sealing_of it.it) (record {
        going = goes;
        others = refl;
        own_less = λ n h. h;
        tasked = tasked;
        located = λ l m. inl m;
        listed = refl;
      }))

  umount_goes : (number : ℕ) → (mount_numbered nat_eq world number).namespace ≡ Some task.namespace → (k : ℕ)
      → is_going nat_eq (going nat_eq world (mount_numbered nat_eq world number)) k ≡ true
      → (n : ℕ) × ((mount_numbered nat_eq world k).namespace ≡ Some n) × (is_own_namespace nat_eq world names n ≡ true)
  umount_goes number placed k h =
      let goes = others_go (mirror_stands its_apart NothingNew (λ mount group m is_in new. new)) task.namespace
      (own_out its_apart task.namespace
      ∙ ours_is_not_out its_apart task.namespace (its_own it.it task its_member.among)) number placed k h in (
        goes.0,
        goes.1,
        ⊎_elim (λ own. own)
            (λ theirs. absurd (true≢false (sym (own_out its_apart goes.0 ∙ theirs) ∙ goes.2)))
            (side its_apart goes.0 (placed_listed its_apart (mount_numbered nat_eq world k)
            (there_in it.it k goes.0 goes.1) goes.0 goes.1)),
      )

  umount_before : (number : ℕ) → judge_in nat_eq fresh world task call ≡ Ok (ToUnmount number)
      → EndsInAWorld it.it fresh it.serves it.few task (ToUnmount number)
      → Before it (ToUnmount number)
  umount_before number judged ends =
      let for = permits_are_for_their_calls fresh world task call (ToUnmount number) judged in
      let placed = (all_permits_fit world fresh task call (ToUnmount number) it.is it.serves
      (ap (task_called world) (sym (name_found world name task it.called)) ∙ it.called) (ap mounts_overlay for.1)
      judged).names.0 in
      kept it (ToUnmount number) judged refl (apply nat_eq fresh world task (ToUnmount number)).world
      (gone_as_before (going nat_eq world (mount_numbered nat_eq world number)) [] (umount_goes number placed)
      (λ mount m n e.
      let of = tasked_later world (taken_away nat_eq world (going nat_eq world (mount_numbered nat_eq world number)))
      name [] ends mount m n e in (
        of.0,
        subst (Among of.0) (taken_tasks world world.tasks
            (going nat_eq world (mount_numbered nat_eq world number))) of.1,
        of.2,
      )))

  of_detaching : (permit : Permit ℕ) → judge_in nat_eq fresh world task call ≡ Ok permit → is_of_detaching permit ≡ true
      → EndsInAWorld it.it fresh it.serves it.few task permit
      → Before it permit
  of_detaching ToExit judged e ends =
      let for : call ≡ Exit = permits_are_for_their_calls fresh world task call ToExit judged in
      subst (λ c. OthersAsBefore world (apply nat_eq fresh world task ToExit).world names (left names name c)) (sym for)
      (exits_before (subst (IsCallOfTheirs world names name) for it.it) task it.called fresh [] ends)
  of_detaching (ToEnterNamespace namespace) judged e ends =
      let for = permits_are_for_their_calls fresh world task call (ToEnterNamespace namespace) judged in
      kept it (ToEnterNamespace namespace) judged refl (apply nat_eq fresh world task
      (ToEnterNamespace namespace)).world (enters_before namespace for.0
      (subst (IsCallOfTheirs world names name) for.1 it.it) (sym (ap (judge_in nat_eq fresh world task) for.1) ∙ judged)
      ends)
    where
      space_of : ℕ → Permit ℕ → ℕ
      space_of other (ToEnterNamespace n) = n
      space_of other permit = other

      enters_before : (n : ℕ) (target_name : TaskName) (its_call : IsCallOfTheirs world names name (Setns target_name))
          → judge_in nat_eq fresh world task (Setns target_name) ≡ Ok (ToEnterNamespace n)
          → EndsInAWorld it.it fresh it.serves it.few task (ToEnterNamespace n)
          → OthersAsBefore world (apply nat_eq fresh world task (ToEnterNamespace n)).world names names
      enters_before n target_name its_call so ended =
          let target : Enters its_member (ToEnterNamespace n) =
          subst (λ j. IfOk j (Enters its_member)) so
          (enters its_member _ target_name (its_call.among_them target_name refl)) in
          subst (λ k. IsWorld nat_eq (numbers_raised nat_eq world name []
          (settled nat_eq (apply nat_eq fresh world task (ToEnterNamespace k)).world))
          → OthersAsBefore world (apply nat_eq fresh world task (ToEnterNamespace k)).world names names)
          (sym (ap (space_of n) target.2)) (entering_before
          (record { it = its_call; called = it.called; target_in = target.1 }) fresh []) ended
  of_detaching (ToUnmount number) judged e ends = umount_before number judged ends
  of_detaching permit judged e ends = absurd (true≢false (sym e))

pub detaching_gives_no_foothold : DetachingGivesNoFoothold
detaching_gives_no_foothold world names name call it few fresh serves task called permit judged is_one =
    permit_out (record { it = it; few = few; serves = serves; called = called }) permit judged
    (of_detaching (record { it = it; few = few; serves = serves; called = called }) permit judged is_one)
