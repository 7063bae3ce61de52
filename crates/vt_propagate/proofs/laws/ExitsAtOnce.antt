-- Tasks that end one after the other, the last ones of their namespaces too, or all at once.
use Rattle.std.proofs.Common.{◌≡◌, refl, sym, ap, subst, ◌∙◌, ⊎_elim, ℕ, nat_eq, Bool, true, false, true≢false, not, ◌&&◌, ◌||◌, List, [], ◌∷◌, ◌++◌, filter, Option, None, Some, arith}
use Rattle.vt_spec.proofs.Common.{Among, Mount, MountInvariants, Namespace, Stands, Task, TaskName, World, all_from_among, among-filter, among-from_filter, among-from_map, among-map, among_from_all, among_numbers, common_steps, folded, found_or_none, has_tasks, holds_of, is_among, is_among_numbers, is_in_ended, list_any, list_any-append, mount_numbered, namespaces_ended, none_among, none_from_among, same_name, settled, stands_alike, taken_away, tasks-taken_away, without_dead_groups, without_task}
use Rattle.vt_laws_mounts.specs.LettingGo.Mounting.{ended_mounts}
use Rattle.vt_laws_mounts.specs.LettingGo.Several.{KeepsMounts, ended_task}
use Rattle.vt_laws_mounts.proofs.letting_go.Lists.{any-filter, filter_twice}
use Rattle.vt_laws_mounts.proofs.letting_go.ends.EndsInTurn.{one_sweep_for_all_exits_with_overlays}
use Rattle.vt_laws_mounts.proofs.ends.Ending.{ended_namespaces_keep_mounts}
use Rattle.vt_laws_mounts.proofs.ends.Unmounting.{kept_by_number}
use Rattle.vt_laws_mounts.proofs.mounts.MountsFound.{number-mount_in}
use Rattle.vt_laws_mounts.proofs.mounts.MountsReplaced.{found_itself}
use Rattle.vt_propagate.specs.EndsInTurn.{with_namespaces}
use Rattle.vt_propagate.specs.ExitsAtOnce.{ExitsAreAtOnce, without_tasks}
use Rattle.vt_propagate.proofs.laws.EndsInTurn.{taken_in_any_order}
use Rattle.vt_laws_mounts.proofs.letting_go.SweptBetween.{settled_without_groups}
use Rattle.vt_propagate.proofs.TakenTwice.{taken_twice}

-- the world with these tasks and namespaces
abbrev with_others : World ℕ → List (Task ℕ) → List (Namespace ℕ) → World ℕ
with_others world tasks namespaces = record world { tasks = tasks; namespaces = namespaces }

-- Mounts are detached alike whatever tasks and namespaces there are
others_do_not_count : (world : World ℕ) (tasks : List (Task ℕ)) (namespaces : List (Namespace ℕ)) (gone : List ℕ)
    → taken_away nat_eq (with_others world tasks namespaces) gone
    ≡ with_others (taken_away nat_eq world gone) tasks namespaces
others_do_not_count world tasks namespaces gone = grind (arith, common_steps)

-- The mounts that end, by number

-- a mount that is not there is in no namespace that ends
ended_is_found : (world : World ℕ) → MountInvariants nat_eq world → (number : ℕ)
    → is_among nat_eq number (ended_mounts world) ≡ is_in_ended nat_eq world (mount_numbered nat_eq world number)
ended_is_found world kept number = by (is_among nat_eq number (ended_mounts world)) refl
    (is_in_ended nat_eq world (mount_numbered nat_eq world number)) refl
  where
    ends : Mount ℕ → Bool
    ends = is_in_ended nat_eq world

    there : ends (mount_numbered nat_eq world number) ≡ true → is_among nat_eq number (ended_mounts world) ≡ true
    there is = ⊎_elim (λ m.
        is_among_numbers (ended_mounts world) number
        (subst (λ n. Among n (ended_mounts world)) (number-mount_in world.mounts number)
        (among-map (λ (x : Mount ℕ). x.number) (filter ends world.mounts) (mount_numbered nat_eq world number)
        (among-filter ends world.mounts (mount_numbered nat_eq world number) m is))))
        (λ none. absurd (true≢false (sym is ∙ ap ends none))) (found_or_none world.mounts number)

    ending : is_among nat_eq number (ended_mounts world) ≡ true → ends (mount_numbered nat_eq world number) ≡ true
    ending m =
        let from = among-from_map (λ (x : Mount ℕ). x.number) (filter ends world.mounts) number
        (among_numbers (ended_mounts world) number m) in
        let old = among-from_filter ends world.mounts from.0 from.1 in
        ap (λ n. ends (mount_numbered nat_eq world n)) from.2
        ∙ ap ends (found_itself world.mounts kept.one_number from.0 old.0) ∙ old.1

    by : (b : Bool) → is_among nat_eq number (ended_mounts world) ≡ b
        → (c : Bool) → ends (mount_numbered nat_eq world number) ≡ c
        → is_among nat_eq number (ended_mounts world) ≡ ends (mount_numbered nat_eq world number)
    by true e c f = e ∙ sym (ending e)
    by false e true f = absurd (true≢false (sym (there f) ∙ e))
    by false e false f = e ∙ sym f

-- Namespaces end, then some tasks, and then namespaces; or the tasks first, and then all namespaces at once

module _ (world : World ℕ) (tasks : List (Task ℕ)) (kept : MountInvariants nat_eq world)
    (fewer : (namespace : Namespace ℕ) → list_any (λ (t : Task ℕ). nat_eq namespace.number t.namespace) tasks ≡ true
    → has_tasks nat_eq world namespace ≡ true) where
  -- the mounts that go where namespaces end at first, the namespaces that are left, and the world then
  abbrev first : List ℕ
  first = ended_mounts world

  abbrev listed : List (Namespace ℕ)
  listed = filter (has_tasks nat_eq world) world.namespaces

  abbrev taken : World ℕ
  taken = taken_away nat_eq world first

  -- the world in which namespaces have ended, with these tasks, and the one in which none has
  abbrev ended_before : World ℕ
  ended_before = with_others taken tasks listed

  abbrev not_ended : World ℕ
  not_ended = with_others world tasks world.namespaces

  abbrev has_one : Namespace ℕ → Bool
  has_one = has_tasks nat_eq not_ended

  -- a namespace without tasks has none among fewer
  none_of_fewer : (namespace : Namespace ℕ) → has_tasks nat_eq world namespace ≡ false → has_one namespace ≡ false
  none_of_fewer namespace e = grind (arith, common_steps)

  -- the same namespaces are left
  same_listed : filter has_one listed ≡ filter has_one world.namespaces
  same_listed = filter_twice has_one (has_tasks nat_eq world) has_one (λ namespace.
      by (has_tasks nat_eq world namespace) (has_one namespace) (none_of_fewer namespace)) world.namespaces
    where
      by : (b c : Bool) → (b ≡ false → c ≡ false) → c ≡ (b && c)
      by true c none = refl
      by false c none = none refl

  -- the namespace of this number has a task
  abbrev is_live_in : (Namespace ℕ → Bool) → List (Namespace ℕ) → ℕ → Bool
  is_live_in has namespaces number = list_any (λ (n : Namespace ℕ). nat_eq number n.number && has n) namespaces

  -- a namespace that has ended has no task then
  live_then : (number : ℕ) → is_live_in has_one listed number ≡ is_live_in has_one world.namespaces number
  live_then number =
      any-filter (λ (n : Namespace ℕ). nat_eq number n.number && has_one n) (has_tasks nat_eq world) world.namespaces
      (λ n m e. by (nat_eq number n.number) (has_one n) (none_of_fewer n e))
    where
      by : (b c : Bool) → c ≡ false → (b && c) ≡ false
      by true c e = e
      by false c e = refl

  -- what ended at first ends with fewer tasks
  ends_still : (o : Option ℕ)
      → holds_of (λ number. not (is_live_in (has_tasks nat_eq world) world.namespaces number)) o ≡ true
      → holds_of (λ number. not (is_live_in has_one world.namespaces number)) o ≡ true
  ends_still None e = absurd (true≢false (sym e))
  ends_still (Some number) e =
      ap not (none_from_among (λ (n : Namespace ℕ). nat_eq number n.number && has_one n) world.namespaces (λ n m.
      by (nat_eq number n.number) (has_tasks nat_eq world n) (has_one n)
      (none_among (λ (n : Namespace ℕ). nat_eq number n.number && has_tasks nat_eq world n) world.namespaces
      (dead (is_live_in (has_tasks nat_eq world) world.namespaces number) e) n m) (none_of_fewer n)))
    where
      dead : (b : Bool) → not b ≡ true → b ≡ false
      dead true f = absurd (true≢false (sym f))
      dead false f = refl

      by : (a b c : Bool) → (a && b) ≡ false → (b ≡ false → c ≡ false) → (a && c) ≡ false
      by true b c e none = none e
      by false b c e none = refl

  -- and what did not end then ends as it does at once
  ends_alike : (o : Option ℕ) → holds_of (λ number. not (is_live_in has_one listed number)) o
      ≡ holds_of (λ number. not (is_live_in has_one world.namespaces number)) o
  ends_alike None = refl
  ends_alike (Some number) = ap not (live_then number)

  -- and the same mounts go, first and then, as go at once
  same_gone : (kept_then : MountInvariants nat_eq ended_before) (kept_first : MountInvariants nat_eq not_ended)
      (number : ℕ)
      → is_among nat_eq number (first ++ ended_mounts ended_before) ≡ is_among nat_eq number (ended_mounts not_ended)
  same_gone kept_then kept_first number = list_any-append (nat_eq number) first (ended_mounts ended_before)
      ∙ (λ i. ended_is_found world kept number i || ended_is_found ended_before kept_then number i)
      ∙ by (is_in_ended nat_eq world it) refl ∙ sym (ended_is_found not_ended kept_first number)
    where
      it : Mount ℕ
      it = mount_numbered nat_eq world number

      by : (b : Bool) → is_in_ended nat_eq world it ≡ b → (is_in_ended nat_eq world it
          || is_in_ended nat_eq ended_before (mount_numbered nat_eq ended_before number))
          ≡ is_in_ended nat_eq not_ended it
      by true e = ap (λ b. b || is_in_ended nat_eq ended_before (mount_numbered nat_eq ended_before number)) e
          ∙ sym (ends_still it.namespace e)
      by false e = ap (λ b. b || is_in_ended nat_eq ended_before (mount_numbered nat_eq ended_before number)) e
          ∙ ap (holds_of (λ n. not (is_live_in has_one listed n)))
          (kept_by_number world first number (ended_is_found world kept number ∙ e)).namespace ∙ ends_alike it.namespace

  -- namespaces that end in turn leave the groups that they leave at once
  pub ends_at_once : MountInvariants nat_eq ended_before → MountInvariants nat_eq not_ended
      → without_dead_groups nat_eq (namespaces_ended nat_eq ended_before)
      ≡ without_dead_groups nat_eq (namespaces_ended nat_eq not_ended)
  ends_at_once kept_then kept_first = ap (λ w. without_dead_groups nat_eq (with_namespaces w (filter has_one listed)))
      (others_do_not_count taken tasks listed (ended_mounts ended_before))
      ∙ ap (λ namespaces. with_others (without_dead_groups nat_eq (taken_away nat_eq taken (ended_mounts ended_before)))
      tasks namespaces) same_listed ∙ ap (λ w. with_others w tasks (filter has_one world.namespaces))
      (taken_twice world first (ended_mounts ended_before) kept ∙ ap (without_dead_groups nat_eq)
      (taken_in_any_order world (first ++ ended_mounts ended_before) (ended_mounts not_ended)
      (same_gone kept_then kept_first)))
      ∙ ap (λ w. without_dead_groups nat_eq (with_namespaces w (filter has_one world.namespaces)))
      (sym (others_do_not_count world tasks world.namespaces (ended_mounts not_ended)))

-- Tasks that end

-- mounts do not care for tasks and namespaces
others_keep_mounts : (world : World ℕ) (tasks : List (Task ℕ)) (namespaces : List (Namespace ℕ))
    → MountInvariants nat_eq world → MountInvariants nat_eq (with_others world tasks namespaces)
others_keep_mounts world tasks namespaces kept = record {
  one_number = kept.one_number;
  one_child = kept.one_child;
  standing = all_from_among (λ (mount : Mount ℕ). Stands nat_eq (with_others world tasks namespaces) mount.number)
      world.mounts (λ mount m.
      stands_alike world (with_others world tasks namespaces) (λ number. refl) mount.number
      (among_from_all (λ (x : Mount ℕ). Stands nat_eq world x.number) world.mounts kept.standing mount m));
  nowhere = kept.nowhere;
  groups = kept.groups;
}

-- nor do they care for a task that ends, with its namespace or not
ended_task_keeps_mounts : (world : World ℕ) (name : TaskName) → MountInvariants nat_eq world
    → MountInvariants nat_eq (ended_task world name)
ended_task_keeps_mounts world name kept = ended_namespaces_keep_mounts (without_task world name)
    (others_keep_mounts world (without_task world name).tasks world.namespaces kept)

each_keeps_mounts : (world : World ℕ) (names : List TaskName) → MountInvariants nat_eq world
    → KeepsMounts ended_task world names
each_keeps_mounts world [] kept = kept
each_keeps_mounts world (name ∷ names) kept =
    (kept, each_keeps_mounts (ended_task world name) names (ended_task_keeps_mounts world name kept))

-- tasks without those of a name
abbrev less : List (Task ℕ) → TaskName → List (Task ℕ)
less tasks name = filter (λ (task : Task ℕ). not (same_name name task.name)) tasks

-- the tasks that are left when some end
tasks_left : (world : World ℕ) (names : List TaskName)
    → without_tasks world names ≡ with_others world (folded less world.tasks names) world.namespaces
tasks_left world [] = refl
tasks_left world (name ∷ names) = tasks_left (without_task world name) names

-- each of which was there
left_are_fewer : (names : List TaskName) (tasks : List (Task ℕ)) (task : Task ℕ) → Among task (folded less tasks names)
    → Among task tasks
left_are_fewer [] tasks task m = m
left_are_fewer (name ∷ names) tasks task m = (among-from_filter (λ (t : Task ℕ). not (same_name name t.name)) tasks task
    (left_are_fewer names (less tasks name) task m)).0

-- so that a test which one of them passes was passed before
has_fewer : (test : Task ℕ → Bool) (tasks : List (Task ℕ)) (names : List TaskName)
    → list_any test (folded less tasks names) ≡ true → list_any test tasks ≡ true
has_fewer test tasks names e = by (list_any test tasks) refl
  where
    by : (b : Bool) → list_any test tasks ≡ b → list_any test tasks ≡ true
    by true f = f
    by false f = absurd (true≢false (sym e ∙ none_from_among test (folded less tasks names) (λ task m.
        none_among test tasks f task (left_are_fewer names tasks task m))))

-- tasks that end after namespaces have ended, or before
tasks_then : (world : World ℕ) (names : List TaskName) → MountInvariants nat_eq world
    → settled nat_eq (namespaces_ended nat_eq (without_tasks (namespaces_ended nat_eq world) names))
    ≡ settled nat_eq (namespaces_ended nat_eq (without_tasks world names))
tasks_then world names kept = ap (λ w. settled nat_eq (namespaces_ended nat_eq w))
    (tasks_left (namespaces_ended nat_eq world) names
    ∙ ap (λ tasks. with_others before (folded less tasks names) before.namespaces)
    (tasks-taken_away world (ended_mounts world)))
    ∙ sym (settled_without_groups (namespaces_ended nat_eq (with_others before tasks before.namespaces)))
    ∙ ap (settled nat_eq) (ends_at_once world tasks kept
    (λ namespace e. has_fewer (λ (t : Task ℕ). nat_eq namespace.number t.namespace) world.tasks names e)
    (others_keep_mounts before tasks before.namespaces (ended_namespaces_keep_mounts world kept))
    (others_keep_mounts world tasks world.namespaces kept))
    ∙ settled_without_groups (namespaces_ended nat_eq (with_others world tasks world.namespaces))
    ∙ ap (λ w. settled nat_eq (namespaces_ended nat_eq w)) (sym (tasks_left world names))
  where
    before : World ℕ
    before = namespaces_ended nat_eq world

    tasks : List (Task ℕ)
    tasks = folded less world.tasks names

-- one after the other or at once, after the first
all_end_alike : (names : List TaskName) (world : World ℕ) → MountInvariants nat_eq world
    → settled nat_eq (folded ended_task (namespaces_ended nat_eq world) names)
    ≡ settled nat_eq (namespaces_ended nat_eq (without_tasks world names))
all_end_alike [] world kept = refl
all_end_alike (name ∷ names) world kept =
    let before = namespaces_ended nat_eq world in
    all_end_alike names (without_task before name)
    (others_keep_mounts before (without_task before name).tasks before.namespaces
    (ended_namespaces_keep_mounts world kept)) ∙ tasks_then world (name ∷ names) kept

-- tasks that exit in turn leave, once swept, what they leave at once
pub exits_are_at_once : ExitsAreAtOnce
exits_are_at_once world name names trees uppers reals kept =
    one_sweep_for_all_exits_with_overlays world (name ∷ names) trees uppers reals
    (each_keeps_mounts world (name ∷ names) kept) ∙ all_end_alike names (without_task world name)
    (others_keep_mounts world (without_task world name).tasks world.namespaces kept)
