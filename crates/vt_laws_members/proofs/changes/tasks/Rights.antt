-- Calls that change a task's rights alone end in the part as in the world.
use Rattle.std.proofs.Common.{◌≡◌, refl, sym, ap, subst, ◌∙◌, inl, inr, ⊎_elim, ℕ, nat_eq, Bool, true, false, cond, true≢false, List, [], ◌∷◌, ◌++◌, Some, Ok, filter, map, ◌||◌, arith}
use Rattle.vt_spec.proofs.Common.{Among, Answer, Call, Done, Fresh, Location, Mount, Pwrite, Rename, Task, TaskName, World, among-from_filter, any_pair, common_steps, found_among, holds_of, is_among, is_at, is_member_task, judging, list_any, locations, locations_of, map_same, map_twice, members, mount_at, name-replaced_if_called, none_among, or_parts, part_of, raised, raised_task, replaced_if_called, roots_and_directories, same_name, same_name_itself, same_task_name, seen_by_descriptor, task_called, when, with_dropped}
use Rattle.vt_spec.specs.Machine.Tasks.{capabilities_of, permission_bits}
use Rattle.vt_laws_members.proofs.Common.{cases_Option, filter-map, flat_map-step, same_members}
use Rattle.vt_laws_members.specs.Changes.Changes.{DropsEndAlike, EmptyWritesEndAlike, EndsAlike, IsCallOfTheirs, RenamesOfOneEndAlike, UmasksEndAlike, grown}
use Rattle.vt_laws_members.proofs.changes.looks.Told.{ran}
use Rattle.vt_laws_members.proofs.changes.tasks.Denied.{ran_there, run_by, unnamed_ends_alike}
use Rattle.vt_laws_members.proofs.changes.tasks.Ending.{LeavesTasks, tasks_end_alike, with_tasks}
use Rattle.vt_laws_members.proofs.changes.tasks.Retasked.{SeeAlike}

-- a task whose change number is raised is the same else
pub raised_is : {A : Type 0} (name : TaskName) (what : Task ℕ → A)
    → ((t : Task ℕ) → what (record t { change = raised t.change }) ≡ what t) → (t : Task ℕ)
    → what (raised_task name t) ≡ what t
raised_is name what same t = grind (arith, common_steps)

pub any_mapped : {A B : Type 0} (p : B → Bool) (q : A → Bool) (f : A → B) (xs : List A)
    → ((x : A) → Among x xs → p (f x) ≡ q x) → list_any p (map f xs) ≡ list_any q xs
any_mapped p q f [] same = refl
any_mapped p q f (x ∷ xs) same = cc (same x (inl refl), any_mapped p q f xs (λ y m. same y (inr m)))

-- Each task is changed in what it may do, and sees what it saw.
module _ (world : World ℕ) (names : List TaskName) (f : Task ℕ → Task ℕ) (named : (t : Task ℕ) → (f t).name ≡ t.name)
    (spaced : (t : Task ℕ) → Among t world.tasks → (f t).namespace ≡ t.namespace)
    (rooted : (t : Task ℕ) → Among t world.tasks → ((f t).root ∷ (f t).directory ∷ []) ≡ (t.root ∷ t.directory ∷ []))
    (change : ℕ) where
  abbrev changed : World ℕ
  changed = record world { tasks = map f world.tasks; change = change }

  abbrev theirs : List (Task ℕ)
  theirs = members world names

  there : (t : Task ℕ) → Among t theirs → Among t world.tasks
  there t m = (among-from_filter (is_member_task names) world.tasks t m).0

  pub members_changed : members changed names ≡ map f theirs
  members_changed = filter-map (is_member_task names) f world.tasks (λ t. cc (named t))

  pub own_alike : (n : ℕ) → list_any (λ (t : Task ℕ). nat_eq n t.namespace) (members changed names)
      ≡ list_any (λ (t : Task ℕ). nat_eq n t.namespace) theirs
  own_alike n = cc (
    members_changed,
    any_mapped (λ (t : Task ℕ). nat_eq n t.namespace) (λ (t : Task ℕ). nat_eq n t.namespace) f theirs (λ t m. ap
        (nat_eq n) (spaced t (there t m))),
  )

  pub roots_alike : roots_and_directories (members changed names) ≡ roots_and_directories theirs
  roots_alike = cc (
    members_changed,
    flat_map-step f (λ (t : Task ℕ). t.root ∷ t.directory ∷ []) theirs (λ t m. rooted t (there t m)),
  )

  module _ (placed : (t : Task ℕ) → Among t world.tasks → locations_of (f t) ≡ locations_of t) where
    places_alike : locations (members changed names) ≡ locations theirs
    places_alike = cc (members_changed, flat_map-step f locations_of theirs (λ t m. placed t (there t m)))

    pub sees_alike : SeeAlike world names names (map f world.tasks) change
    sees_alike = record {
      own = own_alike;
      mounts = λ mount m i.
          cond (holds_of (λ n. own_alike n i) mount.namespace || is_at nat_eq (roots_alike i) mount) (Some mount)
          (when (is_at nat_eq (places_alike i) mount) (seen_by_descriptor mount));
      direct = λ p i. list_any p (map (λ (mount : Mount ℕ). mount.filesystem)
          (filter (λ (mount : Mount ℕ). holds_of (λ n. own_alike n i) mount.namespace) world.mounts)
          ++ map (λ (location : Location ℕ). (mount_at nat_eq world location).filesystem) (places_alike i));
    }

-- tasks of one name are one
pub only_task : (tasks : List (Task ℕ)) → any_pair (λ (a b : Task ℕ). same_name a.name b.name) tasks ≡ false
    → (a b : Task ℕ) → Among a tasks → Among b tasks → a.name ≡ b.name → a ≡ b
only_task [] one a b m n e = absurd m
only_task (first ∷ rest) one a b m n e =
    let parts = or_parts _ (any_pair (λ (x y : Task ℕ). same_name x.name y.name) rest) one in
    ⊎_elim (λ here. ⊎_elim (λ too. cc) (λ later. absurd (differ b later parts.0 (cc))) n)
    (λ later. ⊎_elim (λ here. absurd (differ a later parts.0 (cc))) (λ too. only_task rest parts.1 a b later too e) n) m
  where
    differ : (t : Task ℕ) → Among t rest → list_any (λ (x : Task ℕ). same_name first.name x.name) rest ≡ false
        → first.name ≡ t.name → ⊥
    differ t m none same = true≢false (cc (
      same_name_itself first.name,
      none_among
          (λ (x : Task ℕ). same_name first.name x.name) rest none t m,
    ))

-- A task with other rights
module _ {world : World ℕ} {names : List TaskName} {name : TaskName} {call : Call}
    (it : IsCallOfTheirs world names name call) {task : Task ℕ} (found : task_called world name ≡ Some task)
    (new : Task ℕ) (named : new.name ≡ task.name) (spaced : new.namespace ≡ task.namespace)
    (rooted : (new.root ∷ new.directory ∷ []) ≡ (task.root ∷ task.directory ∷ []))
    (placed : locations_of new ≡ locations_of task) where
  abbrev part : World ℕ
  part = part_of nat_eq world names

  abbrev replaced : Task ℕ → Task ℕ
  replaced = replaced_if_called new

  abbrev both : Task ℕ → Task ℕ
  both t = raised_task name (replaced t)

  replaced_is : {A : Type 0} (what : Task ℕ → A) → what new ≡ what task → (t : Task ℕ) → Among t world.tasks
      → what (replaced t) ≡ what t
  replaced_is what same t m = by (same_name new.name t.name) refl
    where
      by : (b : Bool) → same_name new.name t.name ≡ b → what (cond b new t) ≡ what t
      by true e = cc (
        same,
        only_task world.tasks it.is.tasks.one_task task t (found_among (λ (x : Task ℕ). same_name name x.name)
            world.tasks task found) m (sym named ∙ same_task_name new.name t.name e),
      )
      by false e = refl

  both_named : (t : Task ℕ) → (both t).name ≡ t.name
  both_named t = raised_is name (λ (x : Task ℕ). x.name) (λ x. refl) (replaced t) ∙ name-replaced_if_called new t

  in_world : (t : Task ℕ) → Among t part.tasks → Among t world.tasks
  in_world t m = (among-from_filter (is_member_task names) world.tasks t m).0

  -- in a world with some of these tasks
  leaves : (w : World ℕ) → ((t : Task ℕ) → Among t w.tasks → Among t world.tasks)
      → LeavesTasks w names names name (map replaced w.tasks)
  leaves w within = record {
    more = λ location m. subst (Among location)
        (sym (flat_map-step replaced locations_of w.tasks (λ t n. replaced_is locations_of placed t (within t n)))) m;
    sees = subst (λ l. SeeAlike w names names l (raised w.change)) (sym (map_twice (raised_task name) replaced w.tasks))
        (sees_alike w names both both_named
        (λ t m. raised_is name (λ (x : Task ℕ). x.namespace) (λ x. refl) (replaced t)
        ∙ replaced_is (λ (x : Task ℕ). x.namespace) spaced t (within t m))
        (λ t m. raised_is name (λ (x : Task ℕ). x.root ∷ x.directory ∷ []) (λ x. refl) (replaced t)
        ∙ replaced_is (λ (x : Task ℕ). x.root ∷ x.directory ∷ []) rooted t (within t m)) (raised w.change)
        (λ t m. raised_is name locations_of (λ x. refl) (replaced t) ∙ replaced_is locations_of placed t (within t m)));
  }

  pub rights_end : (answer : Answer) (fresh other : Fresh ℕ) → grown names name call (Ok answer) ≡ names
      → ran name call world fresh (Some task) ≡ with_tasks world name answer (map replaced world.tasks)
      → ran name call part other (Some task) ≡ with_tasks part name answer (map replaced part.tasks)
      → EndsAlike world names name call fresh other
  rights_end answer fresh other stays one two = tasks_end_alike world names names name call it task found fresh other
      answer stays _ (map replaced part.tasks) one two (leaves world (λ t m. m)) (leaves part in_world)
      (cc (replaced_members both_named world.tasks, replaced_members both_named part.tasks, same_members world names))
    where
      replaced_members : ((t : Task ℕ) → (both t).name ≡ t.name) → (tasks : List (Task ℕ))
          → filter (is_member_task names) (map (raised_task name) (map replaced tasks))
          ≡ map both (filter (is_member_task names) tasks)
      replaced_members kept tasks = cc (
        map_twice (raised_task name) replaced tasks,
        filter-map (is_member_task names) both tasks (λ t. ap (λ n. is_among same_name n names) (kept t)),
      )

pub umasks_end_alike : UmasksEndAlike
unfolding judging
umasks_end_alike world names name mode it fresh other = elim (cases_Option (task_called world name)) [
  | inl e ↦ unnamed_ends_alike it fresh other e
  | inr its ↦ rights_end it its.1 (record its.0 { umask = permission_bits mode }) refl refl refl refl Done
      fresh other refl refl refl
]

pub drops_end_alike : DropsEndAlike
unfolding judging
drops_end_alike world names name which it fresh other = elim (cases_Option (task_called world name)) [
  | inl e ↦ unnamed_ends_alike it fresh other e
  | inr its ↦ rights_end it its.1 (record its.0
      { credentials = with_dropped its.0.credentials (capabilities_of which its.0.credentials) }) refl refl refl refl
      Done fresh other refl refl refl
]

-- Calls that are granted and change nothing
itself_again : (task : Task ℕ) (tasks : List (Task ℕ)) → ((t : Task ℕ) → Among t tasks → t.name ≡ task.name → t ≡ task)
    → map (replaced_if_called task) tasks ≡ tasks
itself_again task tasks one = map_same (replaced_if_called task) tasks (λ t m. by t m (same_name task.name t.name) refl)
  where
    by : (t : Task ℕ) → Among t tasks → (b : Bool) → same_name task.name t.name ≡ b → cond b task t ≡ t
    by t m true e = sym (one t m (sym (same_task_name task.name t.name e)))
    by t m false e = refl

pub idle_end_alike : (world : World ℕ) (names : List TaskName) (name : TaskName) (call : Call)
    → IsCallOfTheirs world names name call → (task : Task ℕ) → task_called world name ≡ Some task
    → (fresh other : Fresh ℕ) → (answer : Answer) → grown names name call (Ok answer) ≡ names
    → ran name call world fresh (Some task) ≡ with_tasks world name answer world.tasks
    → ran name call (part_of nat_eq world names) other (Some task)
    ≡ with_tasks (part_of nat_eq world names) name answer (part_of nat_eq world names).tasks
    → EndsAlike world names name call fresh other
idle_end_alike world names name call it task found fresh other answer stays one two = rights_end it found task refl refl
    refl refl answer fresh other stays (cc (itself_again task world.tasks (λ t m e. alone t m e)))
    (cc (itself_again task (part_of nat_eq world names).tasks (λ t m e. alone t
    (among-from_filter (is_member_task names) world.tasks t m).0 e)))
  where
    alone : (t : Task ℕ) → Among t world.tasks → t.name ≡ task.name → t ≡ task
    alone t m e = only_task world.tasks it.is.tasks.one_task t task m (found_among _ world.tasks task found) e

-- a rename of two names of one object, and a write of no bytes
pub renames_of_one_end_alike : RenamesOfOneEndAlike
renames_of_one_end_alike world names name old new it task found fresh other granted_so =
    idle_end_alike world names name (Rename old new) it task found fresh other Done refl
    (ap (run_by it world fresh task) granted_so) (ran_there it fresh other task found granted_so)

pub empty_writes_end_alike : EmptyWritesEndAlike
empty_writes_end_alike world names name descriptor offset it task found fresh other file at granted_so =
    idle_end_alike world names name (Pwrite descriptor offset []) it task found fresh other Done refl
    (ap (run_by it world fresh task) granted_so) (ran_there it fresh other task found granted_so)
