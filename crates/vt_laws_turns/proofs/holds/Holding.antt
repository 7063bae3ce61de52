-- Turns keep it that calls under way hold what their tasks see.
use Rattle.std.proofs.Common.{◌≡◌, ◌≢◌, refl, sym, ap, subst, ◌∙◌, ◌⊎◌, inl, inr, ⊎_elim, ℕ, nat_eq, Bool, true, false, true≢false, cond, not, List, [], ◌∷◌, ◌++◌, ◌*◌, Some, map, reverse, is_some, eq-eqb, eqb-true, arith, Contains}
use Rattle.vt_spec.proofs.Common.{Among, Call, Fresh, IsWorld, Location, Mount, Namespace, Outcome, Progress, Route, Sched, Serves, Task, TaskName, Turned, World, among-append, among-append_right, among-flat_map, among-from_filter, among-from_map, among-map, among_from_contains, among_from_list_all, among_numbers, apply, call_outcome, common_steps, contains_from_among, filesystem_change_of, finished_unless, folded, found_among, is_among, is_listed, is_stale, list_any, looks_of, mount_at, mount_numbered, namespace_change_of, number-mount_in, one_further, policy, routes, same_name, same_name_itself, some_from_is_some, task_called, turn, without_progress, words_of}
use Rattle.std.proofs.lemmas.Grind.{reverse_onto}
use Rattle.vt_laws_turns.proofs.Common.{call_is_judged_then_applied, every_call_keeps_worlds, found_itself, found_there, hold_one, name_found, names_few_groups, nth_among, numbers_of, other_tasks_stay, own_directory_found, policy_leads, root_found, unused_number}
use Rattle.vt_laws_turns.specs.Commits.{Turn}
use Rattle.vt_laws_turns.specs.Restarts.{under_way_of}
use Rattle.vt_laws_turns.proofs.TurnShapes.{Before, Shape, turn_shape}
use Rattle.vt_laws_turns.proofs.TurnShapes.Shape.{CallDone, Further, Idle, OtherDone}
use Rattle.vt_laws_turns.proofs.TurnKinds.{GoesFurther}
use Rattle.vt_laws_turns.proofs.played.Leaving.{Commits, Leaves, turn_leaves}
use Rattle.vt_laws_turns.proofs.played.Leaving.Leaves.{After, Same}
use Rattle.vt_laws_turns.proofs.restarts.Keeping.{named}
use Rattle.vt_laws_turns.specs.Frames.Unraised.{IsCallIn}
use Rattle.vt_laws_turns.proofs.frames.frames.PivotsRaise.{other_tasks_of_unraised_namespaces_stay}
use Rattle.vt_laws_turns.proofs.frames.frames.SameMounts.{ShowAlike}
use Rattle.vt_laws_turns.proofs.frames.frames.ShownAlike.{swept_show_alike}
use Rattle.vt_laws_turns.proofs.frames.frames.Unraised.{not_stale, unraised_namespaces_keep_mounts}
use Rattle.vt_laws_turns.proofs.frames.in_turn.NumbersRise.{Rises, namespace_rises}
use Rattle.vt_laws_turns.specs.Walks.ByWords.{steps_of, whole_walk}
use Rattle.vt_laws_turns.specs.Walks.Routes.{Way, ways}
use Rattle.vt_laws_turns.proofs.walks.by_words.Routed.{routes_are_walks}
use Rattle.vt_laws_turns.specs.Holds.Held.{HoldsItsTask, HoldsWhatIsSeen, IsFitTurn, IsNoMore, IsUnderWayOf, SchedulersBeginSo, SchedulesHoldWhatIsSeen, TurnsHoldWhatIsSeen, is_seen_by}
use Rattle.vt_laws_turns.proofs.holds.Meeting.{walk_met}

-- What is walked

among-from_reverse : {A : Type 0} (list : List A) (a : A) → Among a (reverse list) → Among a list
among-from_reverse [] a m = absurd m
among-from_reverse (b ∷ rest) a m =
    ⊎_elim (λ n. inr (among-from_reverse rest a n)) (λ n. ⊎_elim (λ e. inl e) (λ none. absurd none) n)
    (among-append (reverse rest) (b ∷ []) a (subst (Among a) (reverse_onto rest b []) m))

-- a word of a call is of one of its routes
of_route : (list : List (Route ℕ)) (met : List ℕ) → Among met (words_of list)
    → (route : Route ℕ) × Among route list × Among met route.steps
of_route [] met m = absurd m
of_route (route ∷ rest) met m = by route.fails m (of_route rest met)
  where
    by : (b : Bool) → Among met (cond b route.steps (route.steps ++ words_of rest))
        → (Among met (words_of rest) → (other : Route ℕ) × Among other rest × Among met other.steps)
        → (other : Route ℕ) × Among other (route ∷ rest) × Among met other.steps
    by true n later = (route, inl refl, n)
    by false n later = ⊎_elim (λ here. (route, inl refl, here))
        (λ k. let found = later k in (found.0, inr found.1, found.2)) (among-append route.steps (words_of rest) met n)

-- each word of a call meets what its task sees
pub word_seen : (world : World ℕ) → IsWorld nat_eq world → (task : Task ℕ) → task_called world task.name ≡ Some task
    → (call : Call) (met : List ℕ) → Among met (words_of (routes nat_eq (looks_of nat_eq world) task call)) → (f : ℕ)
    → Among f met → is_seen_by world task f ≡ true
word_seen world is task called call met m f n =
    let found = of_route (routes nat_eq (looks_of nat_eq world) task call) met m in
    let steps : Way → List (List ℕ) =
    λ (w : Way). reverse (steps_of (whole_walk nat_eq w.aim (looks_of nat_eq world) task w.path)) in
    let way = among-from_map steps (ways (looks_of nat_eq world) task call) found.0.steps
    (subst (Among found.0.steps) (routes_are_walks (looks_of nat_eq world) task call)
    (among-map (λ (route : Route ℕ). route.steps) (routes nat_eq (looks_of nat_eq world) task call) found.0 found.1)) in
    let walk = whole_walk nat_eq way.0.aim (looks_of nat_eq world) task way.0.path in
    walk_met world is task called way.0.aim way.0.path f (among-flat_map (λ (l : List ℕ). l) (steps_of walk) met f
    (among-from_reverse (steps_of walk) met (subst (Among met) way.2 found.2)) n)

-- what is held was held, or is met now
newly_held : (world : World ℕ) (met : List ℕ) (list : List (ℕ × ℕ)) (held : ℕ × ℕ)
    → Among held (folded (hold_one nat_eq world) list met) → Among held list ⊎ Among held.0 met
newly_held world [] list held m = inl m
newly_held world (f ∷ met) list held m =
    ⊎_elim (λ n. by (list_any (λ (other : ℕ × ℕ). nat_eq f other.0) list) n) (λ n. inr (inr n))
    (newly_held world met (hold_one nat_eq world list f) held m)
  where
    by : (b : Bool) → Among held (cond b list (list ++ ((f, filesystem_change_of nat_eq world f) ∷ [])))
        → Among held list ⊎ Among held.0 (f ∷ met)
    by true n = inl n
    by false n = ⊎_elim inl (λ k. ⊎_elim (λ e. inr (inl (ap (λ (h : ℕ × ℕ). h.0) e))) (λ none. absurd none) k)
        (among-append list ((f, filesystem_change_of nat_eq world f) ∷ []) held n)

-- Numbers

-- a number that was no more than one, after that one rose
no_more_later : (held was now : ℕ) → IsNoMore held was → Rises was now → IsNoMore held now
no_more_later held was now bound (inl same) = subst (IsNoMore held) (sym same) bound
no_more_later held was now bound (inr (inr last)) = inr last
no_more_later held was now bound (inr (inl more)) = grind (arith, common_steps, was, eqb-true, true≢false, eq-eqb)

-- one that is current after it rose was current before
current_before : (held was now : ℕ) → IsNoMore held was → Rises was now → is_stale held now ≡ false
    → is_stale held was ≡ false
current_before held was now bound rises fresh = grind (arith, common_steps, was, rises, not_stale, true≢false, eq-eqb)

-- A call of another task
module _ {world : World ℕ} (is : IsWorld nat_eq world) {fresh : Fresh ℕ} (serves : Serves nat_eq world fresh)
    (name : TaskName) (call : Call) (few : names_few_groups call ≡ true) where
  abbrev later : World ℕ
  later = (policy nat_eq fresh world name call).world

  given : IsCallIn world fresh
  given = record { is = is; serves = serves }

  pub later_is : IsWorld nat_eq later
  later_is = every_call_keeps_worlds world fresh name call is serves few

  -- mounts that are left show what they showed
  shown : ShowAlike world later
  shown = policy_leads (ShowAlike world) world fresh name call (λ one other c d e.
      let same : one ≡ other =
      sym (found_itself world.mounts is.mounts.one_number one (among_from_contains world.mounts one c))
      ∙ ap (mount_numbered nat_eq world) e
      ∙ found_itself world.mounts is.mounts.one_number other (among_from_contains world.mounts other d) in
      (ap (λ (m : Mount ℕ). m.filesystem) same, ap (λ (m : Mount ℕ). m.root) same))
      (λ task permit changed called judged.
      let outcome : call_outcome nat_eq fresh world task call ≡ apply nat_eq fresh world task permit =
      cc (call_is_judged_then_applied fresh world task call, judged) in
      subst (λ (o : Outcome ℕ). ShowAlike world (finished_unless nat_eq false world name changed o).world) (sym outcome)
      (swept_show_alike call is serves called judged))

  module _ (other : TaskName) (apart : other ≢ name) (old : Task ℕ) (called : task_called world other ≡ Some old) where
    -- it has the change number and the namespace that it had
    pub record IsLeft (now : Task ℕ) : Type 0 where
      pub change : now.change ≡ old.change
      pub namespace : now.namespace ≡ old.namespace

    task_left : (now : Task ℕ) × (task_called later other ≡ Some now) × IsLeft now
    task_left = ⊎_elim (λ same. (old, same, record { change = refl; namespace = refl })) (λ pivot. (
      record old { root = pivot.0 old.root; directory = pivot.0 old.directory },
      pivot.2,
      record { change = refl; namespace = refl },
    )) (other_tasks_stay fresh world name call other old apart called)

    left_so : (now : Task ℕ) → task_called later other ≡ Some now → IsLeft now
    left_so now found =
        let left = task_left in
        let same : left.0 ≡ now = cc (left.1, found) in
        subst IsLeft same left.2

    rises : Rises (namespace_change_of nat_eq world old.namespace) (namespace_change_of nat_eq later old.namespace)
    rises = namespace_rises world fresh name call old.namespace given (λ e.
        true≢false (sym (eq-eqb (fresh (2 * 0)) old.namespace e)
        ∙ unused_number world fresh serves (2 * 0) old.namespace
        (among-append_right _ (map (λ (n : Namespace ℕ). n.number) world.namespaces) old.namespace
        (among_numbers (map (λ (n : Namespace ℕ). n.number) world.namespaces) old.namespace
        (among_from_list_all (λ (t : Task ℕ). is_listed nat_eq world t.namespace) world.tasks
        is.namespaces.tasks_listed old (found_among _ world.tasks old called))))))

    -- while its namespace's number is what it was, it sees what it saw
    module _ (unraised : is_stale (namespace_change_of nat_eq world old.namespace)
        (namespace_change_of nat_eq later old.namespace) ≡ false) where
      stays : task_called later other ≡ Some old
      stays = other_tasks_of_unraised_namespaces_stay world fresh name call other old given apart called unraised

      itself : (w : World ℕ) → task_called w other ≡ Some old → task_called w old.name ≡ Some old
      itself w found = cc (name_found w other old found)

      shows : (l : Location ℕ) → is_among nat_eq l.mount (numbers_of world.mounts) ≡ true
          → is_among nat_eq l.mount (numbers_of later.mounts) ≡ true
          → (mount_at nat_eq later l).filesystem ≡ (mount_at nat_eq world l).filesystem
      shows l before now = sym (shown (mount_at nat_eq world l) (mount_at nat_eq later l)
          (contains_from_among world.mounts (mount_at nat_eq world l) (found_there world.mounts l.mount before))
          (contains_from_among later.mounts (mount_at nat_eq later l) (found_there later.mounts l.mount now))
          (number-mount_in world.mounts l.mount ∙ sym (number-mount_in later.mounts l.mount))).0

      pub sees_the_same : (f : ℕ) → is_seen_by later old f ≡ is_seen_by world old f
      sees_the_same f =
          let was = root_found world is old (itself world called) in
          let now = root_found later later_is old (itself later stays) in
          let before = own_directory_found world is old (itself world called) in
          let after = own_directory_found later later_is old (itself later stays) in
          grind (arith, common_steps, unraised_namespaces_keep_mounts, given, shows, was, before)

-- Turns
module _ (sched : Sched ℕ) (is : IsWorld nat_eq sched.world) (holds : HoldsWhatIsSeen sched) where
  abbrev LeftUnderWay : Sched ℕ → Type 0
  LeftUnderWay later = (progress : Progress ℕ) → Contains later.under_way progress → Contains sched.under_way progress

  -- in the same world, with no other call under way
  fewer : (later : Sched ℕ) → later.world ≡ sched.world → LeftUnderWay later → HoldsWhatIsSeen later
  fewer later same left = record {
    there = λ progress c. cc (holds.there progress (left progress c));
    no_more = λ task progress under. subst (λ w. IsNoMore progress.task_change task.change
        × IsNoMore progress.namespace_change (namespace_change_of nat_eq w task.namespace)) (sym same)
        (holds.no_more task progress (before task progress under));
    seen = λ task progress under current held c. ap (λ w. is_seen_by w task held.0) same
        ∙ holds.seen task progress (before task progress under)
        (subst (λ w. HoldsItsTask w task progress) same current) held c;
  }
    where
      before : (task : Task ℕ) (progress : Progress ℕ) → IsUnderWayOf later task progress
          → IsUnderWayOf sched task progress
      before task progress under = grind (arith, common_steps, same)

  -- after the call of a task, whose own call is no longer under way
  module _ {given : Turn} (fit : IsFitTurn sched given) {name : TaskName} {call : Call} {fresh : Fresh ℕ}
      (later : Sched ℕ) (commits : Commits sched given name call fresh later) where
    serves : Serves nat_eq sched.world fresh
    serves = fit.serves fresh commits.handed

    few : names_few_groups call ≡ true
    few = fit.few_groups commits.line call commits.first

    abbrev left : World ℕ
    left = (policy nat_eq fresh sched.world name call).world

    of_others : (progress : Progress ℕ) → Contains later.under_way progress
        → Contains sched.under_way progress × (progress.task ≢ name)
    of_others progress c =
        let both = among-from_filter (λ (p : Progress ℕ). not (same_name name p.task)) sched.under_way progress
        (among_from_contains (without_progress name sched.under_way) progress
        (subst (λ l. Contains l progress) commits.under_way c)) in (
          contains_from_among sched.under_way progress both.0,
          λ e. cc (both.1, same_name_itself name),
        )

    was : (progress : Progress ℕ) → Contains sched.under_way progress
        → (old : Task ℕ) × (task_called sched.world progress.task ≡ Some old)
    was progress c = some_from_is_some (task_called sched.world progress.task) (holds.there progress c)

    found_now : (task : Task ℕ) (progress : Progress ℕ) → IsUnderWayOf later task progress
        → task_called left progress.task ≡ Some task
    found_now task progress under = cc (commits.world, under.called)

    still_there : (progress : Progress ℕ) → Contains later.under_way progress
        → is_some (task_called left progress.task) ≡ true
    still_there progress c =
        let of = of_others progress c in
        let old = was progress of.0 in
        ap is_some (task_left is serves name call few progress.task of.1 old.0 old.1).1

    -- numbers held before are held now
    still_no_more : (task : Task ℕ) (progress : Progress ℕ) → IsUnderWayOf later task progress
        → IsNoMore progress.task_change task.change
        × IsNoMore progress.namespace_change (namespace_change_of nat_eq left task.namespace)
    still_no_more task progress under =
        let of = of_others progress under.under_way in
        let old = was progress of.0 in
        let so = left_so is serves name call few progress.task of.1 old.0 old.1 task
        (found_now task progress under) in
        let bound = holds.no_more old.0 progress (record { under_way = of.0; called = old.1 }) in (
          subst (IsNoMore progress.task_change) (sym so.change) bound.0,
          subst (λ n. IsNoMore progress.namespace_change (namespace_change_of nat_eq left n)) (sym so.namespace)
              (no_more_later progress.namespace_change (namespace_change_of nat_eq sched.world old.0.namespace)
              (namespace_change_of nat_eq left old.0.namespace) bound.1
              (rises is serves name call few progress.task of.1 old.0 old.1)),
        )

    still_seen : (task : Task ℕ) (progress : Progress ℕ) → IsUnderWayOf later task progress
        → HoldsItsTask left task progress → (held : ℕ × ℕ) → Contains progress.filesystems held
        → is_seen_by left task held.0 ≡ true
    still_seen task progress under current held c =
        let of = of_others progress under.under_way in
        let old = was progress of.0 in
        let found = found_now task progress under in
        let so = left_so is serves name call few progress.task of.1 old.0 old.1 task found in
        let bound = holds.no_more old.0 progress (record { under_way = of.0; called = old.1 }) in
        let now : is_stale progress.namespace_change (namespace_change_of nat_eq left old.0.namespace) ≡ false =
        subst (λ n. is_stale progress.namespace_change (namespace_change_of nat_eq left n) ≡ false) so.namespace
        current.namespace_change in
        let before : is_stale progress.namespace_change (namespace_change_of nat_eq sched.world old.0.namespace)
        ≡ false = current_before progress.namespace_change (namespace_change_of nat_eq sched.world old.0.namespace)
        (namespace_change_of nat_eq left old.0.namespace) bound.1
        (rises is serves name call few progress.task of.1 old.0 old.1) now in
        let unraised : is_stale (namespace_change_of nat_eq sched.world old.0.namespace)
        (namespace_change_of nat_eq left old.0.namespace) ≡ false =
        subst (λ n. is_stale n (namespace_change_of nat_eq left old.0.namespace) ≡ false)
        (not_stale progress.namespace_change (namespace_change_of nat_eq sched.world old.0.namespace) before).0 now in
        let same : old.0 ≡ task =
        cc (stays is serves name call few progress.task of.1 old.0 old.1 unraised, found) in
        subst (λ t. is_seen_by left t held.0 ≡ true) same
        (sees_the_same is serves name call few progress.task of.1 old.0 old.1 unraised held.0
        ∙ holds.seen old.0 progress (record { under_way = of.0; called = old.1 }) (record {
          task_change = cc (so.change, current.task_change);
          namespace_change = before;
        }) held c)

    pub after_call_holds : HoldsWhatIsSeen later
    after_call_holds = record {
      there = λ progress c. cc (commits.world, still_there progress c);
      no_more = λ task progress under. subst (λ w. IsNoMore progress.task_change task.change
          × IsNoMore progress.namespace_change (namespace_change_of nat_eq w task.namespace)) (sym commits.world)
          (still_no_more task progress under);
      seen = λ task progress under current held c. ap (λ w. is_seen_by w task held.0) commits.world
          ∙ still_seen task progress under (subst (λ w. HoldsItsTask w task progress) commits.world current) held c;
    }

  -- a word is walked
  module _ {task : Task ℕ} (called : task_called sched.world task.name ≡ Some task) {line : ℕ} {call : Call}
      {fresh : Fresh ℕ} {before : Progress ℕ} (at : Before sched task before) {turned : Turned ℕ}
      (further : GoesFurther sched task line call fresh before turned) where
    abbrev next : Progress ℕ
    next = one_further nat_eq sched.world further.met before

    abbrev goes : Sched ℕ
    goes = record sched { under_way = next ∷ without_progress next.task sched.under_way }

    of_task : before.task ≡ task.name
    of_task = named sched task before at

    found_before : under_way_of sched.under_way task.name ≡ Some before → IsUnderWayOf sched task before
    found_before found = grind (arith, common_steps, contains_from_among, before, found_among, of_task)

    no_more_before : IsNoMore before.task_change task.change
        × IsNoMore before.namespace_change (namespace_change_of nat_eq sched.world task.namespace)
    no_more_before = grind (arith, common_steps, before, found_before)

    seen_before : HoldsItsTask sched.world task before → (held : ℕ × ℕ) → Among held before.filesystems
        → is_seen_by sched.world task held.0 ≡ true
    seen_before current held m = search (arith, common_steps, before, found_before, contains_from_among)

    seen_next : HoldsItsTask sched.world task next → (held : ℕ × ℕ) → Contains next.filesystems held
        → is_seen_by sched.world task held.0 ≡ true
    seen_next current held c =
        ⊎_elim (seen_before
        (record { task_change = current.task_change; namespace_change = current.namespace_change }) held)
        (word_seen sched.world is task called call further.met
        (nth_among (words_of (routes nat_eq (looks_of nat_eq sched.world) task call)) before.walked further.met
        further.word) held.0) (newly_held sched.world further.met before.filesystems held
        (among_from_contains next.filesystems held c))

    -- it is the call that goes on, or was under way
    one_of : (P : Progress ℕ → Type 0) → P next
        → ((progress : Progress ℕ) → Contains sched.under_way progress → P progress) → (progress : Progress ℕ)
        → Contains goes.under_way progress → P progress
    one_of P now before_it progress c = ⊎_elim (λ same. subst P (sym same) now)
        (λ m. before_it progress (contains_from_among sched.under_way progress
        (among-from_filter (λ (p : Progress ℕ). not (same_name next.task p.task)) sched.under_way progress m).0))
        (among_from_contains goes.under_way progress c)

    its_task : (other : Task ℕ) → task_called sched.world next.task ≡ Some other → other ≡ task
    its_task other found =
        let same : task_called sched.world next.task ≡ Some task = cc (of_task) in cc

    pub word_holds : HoldsWhatIsSeen goes
    word_holds = record {
      there = one_of (λ p. is_some (task_called sched.world p.task) ≡ true)
          (cc (of_task)) holds.there;
      no_more = λ other progress under.
          one_of (λ p. task_called sched.world p.task ≡ Some other → IsNoMore p.task_change other.change
          × IsNoMore p.namespace_change (namespace_change_of nat_eq sched.world other.namespace))
          (λ found. subst (λ (t : Task ℕ). IsNoMore next.task_change t.change
          × IsNoMore next.namespace_change (namespace_change_of nat_eq sched.world t.namespace))
          (sym (its_task other found)) no_more_before)
          (λ p c found. holds.no_more other p (record { under_way = c; called = found })) progress under.under_way
          under.called;
      seen = λ other progress under current held c.
          one_of (λ p. task_called sched.world p.task ≡ Some other → HoldsItsTask sched.world other p
          → Contains p.filesystems held → is_seen_by sched.world other held.0 ≡ true)
          (λ found now k. subst (λ (t : Task ℕ). is_seen_by sched.world t held.0 ≡ true) (sym (its_task other found))
          (seen_next (subst (λ (t : Task ℕ). HoldsItsTask sched.world t next) (its_task other found) now) held k))
          (λ p d found now k. holds.seen other p (record { under_way = d; called = found }) now held k) progress
          under.under_way under.called current c;
    }

  module _ (given : Turn) (fit : IsFitTurn sched given) where
    same_world : (turned : Turned ℕ) → turned.sched.world ≡ sched.world → Shape sched given.0 given.1 turned
        → HoldsWhatIsSeen turned.sched
    same_world turned same (Idle none e) =
        fewer turned.sched same (λ p c. subst (λ (t : Turned ℕ). Contains t.sched.under_way p) e c)
    same_world turned same (OtherDone first found none outcome e) =
        fewer turned.sched same (λ p c. subst (λ (t : Turned ℕ). Contains t.sched.under_way p) e c)
    same_world turned same (CallDone name who line call found outcome e) =
        fewer turned.sched same (λ p c. contains_from_among sched.under_way p
        (among-from_filter (λ (q : Progress ℕ). not (same_name name q.task)) sched.under_way p
        (among_from_contains (without_progress name sched.under_way) p
        (subst (λ (t : Turned ℕ). Contains t.sched.under_way p) e c))).0)
    same_world turned same (Further task who line call fresh handed next before at further) =
        subst (λ (t : Turned ℕ). HoldsWhatIsSeen t.sched) (sym further.is)
        (word_holds next.called at further)

    pub one_turn : IsWorld nat_eq (turn nat_eq sched given.0 given.1).sched.world
        × HoldsWhatIsSeen (turn nat_eq sched given.0 given.1).sched
    one_turn = by (turn_leaves sched given)
      where
        turned : Turned ℕ
        turned = turn nat_eq sched given.0 given.1

        by : Leaves sched given turned.sched → IsWorld nat_eq turned.sched.world × HoldsWhatIsSeen turned.sched
        by (Same same) = (
          subst (IsWorld nat_eq) (sym same) is,
          same_world turned same (turn_shape sched given.0 given.1),
        )
        by (After name call fresh commits) = (
          subst (IsWorld nat_eq) (sym commits.world)
              (later_is is (fit.serves fresh commits.handed) name call
              (fit.few_groups commits.line call commits.first)),
          after_call_holds fit turned.sched commits,
        )

pub turns_hold_what_is_seen : TurnsHoldWhatIsSeen
turns_hold_what_is_seen sched given is holds fit = one_turn sched is holds given fit

pub schedules_hold_what_is_seen : SchedulesHoldWhatIsSeen
schedules_hold_what_is_seen sched [] is holds fit = (is, holds)
schedules_hold_what_is_seen sched (given ∷ rest) is holds fit =
    let now = one_turn sched is holds given fit.0 in
    schedules_hold_what_is_seen (turn nat_eq sched given.0 given.1).sched rest now.0 now.1 fit.1

pub schedulers_begin_so : SchedulersBeginSo
schedulers_begin_so world queues = grind (arith, common_steps, among_from_contains)
