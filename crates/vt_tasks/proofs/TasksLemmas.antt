-- Tasks as the map keeps them, each under its name, and as contracts see them.
use Rattle.std.proofs.Common.{Bor, MutBor, Result, Ok, Err, IfOk, IfErr, OnOk, OnErr, if◌then◌else◌, ◌≡◌, ℕ, ◌+◌, ◌≤◌, Bool, true, false, cond, List, [], ◌∷◌, ◌++◌, not, map, nat_eq, Option, Some, None, option_map, refl, sym, ap, ◌∙◌, true≢false, subst, IsSomeAnd, is_some, option_copied}
use Rattle.vt_spec.proofs.Common.{AllByRecursion, Credentials, Descriptor, IsDistinct-head, IsDistinct-tail, Task, TaskName, all-filter, are_ascending_from, child_name, child_of, free_from, inserted, keys_of, list_all, lookup, nat_list_eq_equiv, option_copied_mut, pointwise, remove_entry, replaced_if_called, same_name, same_task_name, set_value}
use Rattle.std.specs.declared.vec.Vec.{Vec}
use Rattle.std.specs.List.{IsDistinct}
use Rattle.vt_tasks.proofs.GivenOnce.{all-behind, all-called, all-replaced, apart-forked, apart-replaced, apart-without, given-changed, given-forked, given-without, name-of-called, other-child}
use Rattle.vt_tasks.proofs.OrderLemmas.{rising-inserted}
use Rattle.vt_tasks.specs.declared.descriptors.OpenFile.{OpenFile}
use Rattle.vt_tasks.specs.declared.task.Task.{Task as Held}
use Rattle.vt_tasks.specs.Open.{numbered}
use Rattle.vt_tasks.specs.TaskValue.{task_of}
use Rattle.vt_tasks.specs.TasksValue.{AreFit, AreKeyed, AreNamedApart, Tasks, TasksValue, are_given_once, called, changed_by, changed_called, forked, forked_by, forked_once, has_files_in_order, replaced, tasks_of, with_child_behind, without_called}

-- the tasks with this one in the place of the one of a name
abbrev pub put_if : TaskName → Task ℕ → Task ℕ → Task ℕ
put_if name new old = if same_name name old.name then new else old

abbrev pub put : TaskName → Task ℕ → Tasks → Tasks
put name new tasks = map (put_if name new) tasks

module _ {A : Type 0} where
  -- the equality of keys as the map compares them, and the test by which it finds one
  abbrev pub key_eq : Vec ℕ A → Vec ℕ A → Bool
  key_eq x y = pointwise nat_eq x.items y.items

  abbrev pub is_key : TaskName → Vec ℕ A → Bool
  is_key name key = pointwise nat_eq name key.items

  -- a name finds what a key of the same numbers finds
  found-by_key : (name : TaskName) (key : Vec ℕ A) → is_key name key ≡ true → (es : List (Vec ℕ A × Held))
      → lookup (is_key name) es ≡ lookup (key_eq key) es
  found-by_key name key is [] = refl
  found-by_key name key is (e ∷ es) =
      ap (λ b. cond b (Some e.1) (lookup (is_key name) es)) (nat_list_eq_equiv.congr name key.items e.0.items is)
      ∙ ap (λ rest. cond (key_eq key e.0) (Some e.1) rest) (found-by_key name key is es)

  -- a task that the map has under a key is found by the key's numbers
  pub called_by_key : (name : TaskName) (key : Vec ℕ A) (x : Held) (es : List (Vec ℕ A × Held))
      → lookup (key_eq key) es ≡ Some x → is_key name key ≡ true → Some x ≡ lookup (is_key name) es
  called_by_key name key x es at is = sym (found-by_key name key is es ∙ at)

  -- a name finds the task that it is under
  pub called-tasks : (name : TaskName) (es : List (Vec ℕ A × Held)) → AreKeyed es
      → called name (tasks_of es) ≡ option_map task_of (lookup (is_key name) es)
  called-tasks name [] keyed = refl
  called-tasks name (e ∷ es) keyed =
      ap (λ own. cond (same_name name own) (Some (task_of e.1)) (called name (tasks_of es))) (sym keyed.0)
      ∙ by (is_key name e.0) (called-tasks name es keyed.1)
    where
      by : (b : Bool) → called name (tasks_of es) ≡ option_map task_of (lookup (is_key name) es)
          → cond b (Some (task_of e.1)) (called name (tasks_of es))
          ≡ option_map task_of (cond b (Some e.1) (lookup (is_key name) es))
      by true rest = refl
      by false rest = rest

  -- keys that differ from a key that a name finds have other names
  other_name : (name : TaskName) (k x : Vec ℕ A) → is_key name k ≡ true → key_eq k x ≡ false → is_key name x ≡ false
  other_name name k x here apart = nat_list_eq_equiv.congr name k.items x.items here ∙ apart

  -- where no task has the name, a change of it changes none
  put-none : (name : TaskName) (new : Task ℕ) (k : Vec ℕ A) (es : List (Vec ℕ A × Held)) → AreKeyed es
      → is_key name k ≡ true
      → AllByRecursion (λ y. key_eq k y ≡ false) (keys_of es) → put name new (tasks_of es) ≡ tasks_of es
  put-none name new k [] keyed here apart = refl
  put-none name new k (e ∷ es) keyed here apart =
      ap (λ own. cond (same_name name own) new (task_of e.1) ∷ put name new (tasks_of es)) (sym keyed.0)
      ∙ by (is_key name e.0) (other_name name k e.0 here apart.0) (put-none name new k es keyed.1 here apart.1)
    where
      by : (b : Bool) → b ≡ false → put name new (tasks_of es) ≡ tasks_of es
          → cond b new (task_of e.1) ∷ put name new (tasks_of es) ≡ tasks_of (e ∷ es)
      by true wrong rest = absurd (true≢false wrong)
      by false wrong rest = ap (λ l. task_of e.1 ∷ l) rest

  -- the task that a name finds is the one with that name
  put-set_value : (name : TaskName) (w : Held) (es : List (Vec ℕ A × Held)) → AreKeyed es
      → IsDistinct key_eq (keys_of es) → tasks_of (set_value (is_key name) es w) ≡ put name (task_of w) (tasks_of es)
  put-set_value name w [] keyed distinct = refl
  put-set_value name w (e ∷ es) keyed distinct =
      by (is_key name e.0) (λ here. put-none name (task_of w) e.0 es keyed.1 here
      (IsDistinct-head key_eq e.0 (keys_of es) distinct))
      (put-set_value name w es keyed.1 (IsDistinct-tail key_eq e.0 (keys_of es) distinct))
      ∙ ap (λ own. cond (same_name name own) (task_of w) (task_of e.1) ∷ put name (task_of w) (tasks_of es)) keyed.0
    where
      by : (b : Bool) → (b ≡ true → put name (task_of w) (tasks_of es) ≡ tasks_of es)
          → tasks_of (set_value (is_key name) es w) ≡ put name (task_of w) (tasks_of es)
          → tasks_of (cond b ((e.0, w) ∷ es) (e ∷ set_value (is_key name) es w))
          ≡ cond b (task_of w) (task_of e.1) ∷ put name (task_of w) (tasks_of es)
      by true none rest = ap (λ l. task_of w ∷ l) (sym (none refl))
      by false none rest = ap (λ l. task_of e.1 ∷ l) rest

  tasks-set_value : (name : TaskName) (w : Held) (es : List (Vec ℕ A × Held)) → AreKeyed es
      → IsDistinct key_eq (keys_of es) → w.name ≡ name
      → tasks_of (set_value (is_key name) es w) ≡ replaced (task_of w) (tasks_of es)
  tasks-set_value name w es keyed distinct same =
      put-set_value name w es keyed distinct ∙ ap (λ own. put own (task_of w) (tasks_of es)) (sym same)

  keyed-set_value : (name : TaskName) (w : Held) (es : List (Vec ℕ A × Held)) → AreKeyed es → w.name ≡ name
      → AreKeyed (set_value (is_key name) es w)
  keyed-set_value name w [] keyed same = keyed
  keyed-set_value name w (e ∷ es) keyed same = by (is_key name e.0) (same_task_name name e.0.items)
      (keyed-set_value name w es keyed.1 same)
    where
      by : (b : Bool) → (b ≡ true → name ≡ e.0.items) → AreKeyed (set_value (is_key name) es w)
          → AreKeyed (cond b ((e.0, w) ∷ es) (e ∷ set_value (is_key name) es w))
      by true here rest = (sym (here refl) ∙ sym same, keyed.1)
      by false here rest = (keyed.0, rest)

  -- a name that finds no task is no task's
  without-absent : (name : TaskName) (es : List (Vec ℕ A × Held)) → AreKeyed es → lookup (is_key name) es ≡ None
      → without_called name (tasks_of es) ≡ tasks_of es
  without-absent name [] keyed absent = refl
  without-absent name (e ∷ es) keyed absent =
      ap (λ own. cond (not (same_name name own)) (task_of e.1 ∷ without_called name (tasks_of es))
      (without_called name (tasks_of es))) (sym keyed.0) ∙ by (is_key name e.0) absent (without-absent name es keyed.1)
    where
      by : (b : Bool) → cond b (Some e.1) (lookup (is_key name) es) ≡ None
          → (lookup (is_key name) es ≡ None → without_called name (tasks_of es) ≡ tasks_of es)
          → cond (not b) (task_of e.1 ∷ without_called name (tasks_of es)) (without_called name (tasks_of es))
          ≡ tasks_of (e ∷ es)
      by true found rest = absurd cc
      by false absent rest = ap (λ l. task_of e.1 ∷ l) (rest absent)

  removed : (name : TaskName) (es : List (Vec ℕ A × Held)) → AreKeyed es
      → lookup (is_key name) (remove_entry (is_key name) es) ≡ None
      → tasks_of (remove_entry (is_key name) es) ≡ without_called name (tasks_of es)
  removed name [] keyed absent = refl
  removed name (e ∷ es) keyed absent =
      by (is_key name e.0) refl absent (without-absent name es keyed.1) (removed name es keyed.1)
      ∙ ap (λ own. cond (not (same_name name own)) (task_of e.1 ∷ without_called name (tasks_of es))
      (without_called name (tasks_of es))) keyed.0
    where
      by : (b : Bool) → is_key name e.0 ≡ b
          → lookup (is_key name) (cond b es (e ∷ remove_entry (is_key name) es)) ≡ None
          → (lookup (is_key name) es ≡ None → without_called name (tasks_of es) ≡ tasks_of es)
          → (lookup (is_key name) (remove_entry (is_key name) es) ≡ None
          → tasks_of (remove_entry (is_key name) es) ≡ without_called name (tasks_of es))
          → tasks_of (cond b es (e ∷ remove_entry (is_key name) es))
          ≡ cond (not b) (task_of e.1 ∷ without_called name (tasks_of es)) (without_called name (tasks_of es))
      by true is absent none rest = sym (none absent)
      by false is absent none rest = ap (λ l. task_of e.1 ∷ l)
          (rest (sym (ap (λ b. cond b (Some e.1) (lookup (is_key name) (remove_entry (is_key name) es))) is) ∙ absent))

  keyed-removed : (test : Vec ℕ A → Bool) (es : List (Vec ℕ A × Held)) → AreKeyed es → AreKeyed (remove_entry test es)
  keyed-removed test [] keyed = keyed
  keyed-removed test (e ∷ es) keyed = by (test e.0) (keyed-removed test es keyed.1)
    where
      by : (b : Bool) → AreKeyed (remove_entry test es) → AreKeyed (cond b es (e ∷ remove_entry test es))
      by true rest = keyed.1
      by false rest = (keyed.0, rest)

  pub tasks-removed : (name : TaskName) (es new : List (Vec ℕ A × Held)) → AreFit es
      → new ≡ remove_entry (is_key name) es → lookup (is_key name) new ≡ None
      → tasks_of new ≡ without_called name (tasks_of es)
  tasks-removed name es new fit is absent = ap tasks_of is
      ∙ removed name es fit.0 (ap (lookup (is_key name)) (sym is) ∙ absent)

  pub fit-removed : (name : TaskName) (es new : List (Vec ℕ A × Held)) → AreFit es → new ≡ remove_entry (is_key name) es
      → lookup (is_key name) new ≡ None → AreFit new
  fit-removed name es new fit is absent =
      let so = tasks-removed name es new fit is absent in (
        subst AreKeyed (sym is) (keyed-removed (is_key name) es fit.0),
        ap are_given_once so ∙ given-without name (tasks_of es) fit.1,
        subst AreNamedApart (sym so) (apart-without name (tasks_of es) fit.2),
        ap (list_all has_files_in_order) so
            ∙ all-filter has_files_in_order (λ task. not (same_name name task.name)) (tasks_of es) fit.3,
      )

  -- a task that is written back as it was changes nothing
  pub set_value-same : (test : Vec ℕ A → Bool) (w : Held) (es : List (Vec ℕ A × Held)) → lookup test es ≡ Some w
      → set_value test es w ≡ es
  set_value-same test w [] found = refl
  set_value-same test w (e ∷ es) found = by (test e.0) found (set_value-same test w es)
    where
      by : (b : Bool) → cond b (Some e.1) (lookup test es) ≡ Some w
          → (lookup test es ≡ Some w → set_value test es w ≡ es)
          → cond b ((e.0, w) ∷ es) (e ∷ set_value test es w) ≡ e ∷ es
      by true here rest = ap (λ held. (e.0, held) ∷ es) (cc)
      by false here rest = ap (λ l. e ∷ l) (rest here)

module _ {A : Type 0} (name : TaskName) (es fs : List (Vec ℕ A × Held)) (fit : AreFit es) where
  pub called-found : (x : Held) → lookup (is_key name) es ≡ Some x → called name (tasks_of es) ≡ Some (task_of x)
  called-found x found = called-tasks name es fit.0 ∙ ap (option_map task_of) found

  pub called-absent : lookup (is_key name) es ≡ None → called name (tasks_of es) ≡ None
  called-absent absent = called-tasks name es fit.0 ∙ ap (option_map task_of) absent

  pub called-got : (r : Option Held) → r ≡ lookup (is_key name) es → option_map task_of r ≡ called name (tasks_of es)
  called-got r is = ap (option_map task_of) is ∙ sym (called-tasks name es fit.0)

  pub name-found : (x : Held) → lookup (is_key name) es ≡ Some x → x.name ≡ name
  name-found x found = name-of-called name (tasks_of es) (task_of x) (called-found x found)

  -- what was written to the task of a name
  pub written : (w : Held) → w.name ≡ name → IsDistinct key_eq (keys_of es) → fs ≡ set_value (is_key name) es w
      → tasks_of fs ≡ replaced (task_of w) (tasks_of es)
  written w same unique writes = ap tasks_of writes ∙ tasks-set_value name w es fit.0 unique same

  pub written-change : (change : Task ℕ → Task ℕ) (x w : Held) → lookup (is_key name) es ≡ Some x → w.name ≡ x.name
      → IsDistinct key_eq (keys_of es) → fs ≡ set_value (is_key name) es w → task_of w ≡ change (task_of x)
      → tasks_of fs ≡ changed_called name change (tasks_of es)
  written-change change x w found same unique writes is = written w (same ∙ name-found x found) unique writes
      ∙ ap (λ task. replaced task (tasks_of es)) is ∙ sym (ap (changed_by change (tasks_of es)) (called-found x found))

  in_order : (x : Held) → lookup (is_key name) es ≡ Some x → has_files_in_order (task_of x) ≡ true
  in_order x found = all-called has_files_in_order name (task_of x) (tasks_of es) fit.3 (called-found x found)

  files-replaced : (old new : Task ℕ) → called name (tasks_of es) ≡ Some old → has_files_in_order new ≡ true
      → list_all has_files_in_order (replaced new (tasks_of es)) ≡ true
  files-replaced old new found files = all-replaced has_files_in_order has_files_in_order new
      (tasks_of es) fit.3 files (λ other apart e. e)

  pub written-fit : (x w : Held) → lookup (is_key name) es ≡ Some x → w.name ≡ x.name → IsDistinct key_eq (keys_of es)
      → fs ≡ set_value (is_key name) es w
      → x.forks ≤ w.forks → (has_files_in_order (task_of x) ≡ true → has_files_in_order (task_of w) ≡ true) → AreFit fs
  written-fit x w found same unique writes le files =
      let own = same ∙ name-found x found in
      let so = written w own unique writes in (
        subst AreKeyed (sym writes) (keyed-set_value name w es fit.0 own),
        ap are_given_once so ∙ given-changed name (task_of x) (task_of w) (tasks_of es) fit.1
            (called-found x found) same le,
        subst AreNamedApart (sym so) (apart-replaced (task_of w) (tasks_of es) fit.2),
        ap (list_all has_files_in_order) so
            ∙ files-replaced (task_of x) (task_of w) (called-found x found) (files (in_order x found)),
      )

  pub written-same : (x w : Held) → w ≡ x → lookup (is_key name) es ≡ Some x → fs ≡ set_value (is_key name) es w
      → fs ≡ es
  written-same x w same found writes = writes ∙ ap (set_value (is_key name) es) same
      ∙ set_value-same (is_key name) x es found

  pub changed-absent : (change : Task ℕ → Task ℕ) → lookup (is_key name) es ≡ None
      → changed_called name change (tasks_of es) ≡ tasks_of es
  changed-absent change absent = ap (changed_by change (tasks_of es)) (called-absent absent)

-- A task that is changed and changed back

-- What a call ended as

module _ {T E P Q : Type 0} where
  pub on-err : (r : Result T E) → (P → Q) → OnErr r P → OnErr r Q
  on-err (Ok t) so _ = tt
  on-err (Err e) so p = so p

pub ok-equal : {T E : Type 0} (r : Result T E) (x : T) (o : Option T) → Some x ≡ o → IfOk r (λ t. t ≡ x)
    → IfOk r (λ t. Some t ≡ o)
ok-equal (Ok t) x o is e = ap Some e ∙ is
ok-equal (Err e) x o is _ = tt

pub err-equal : {T E : Type 0} (r : Result T E) (x y : E) → x ≡ y → IfErr r (λ e. e ≡ x) → IfErr r (λ e. e ≡ y)
err-equal (Ok t) x y is _ = tt
err-equal (Err e) x y is p = p ∙ is

-- a file is opened under the number that is told
pub opened-under : {E : Type 0} (r : Result ℕ E) (held : OpenFile) (free : ℕ) (old new : List (Descriptor ℕ))
    → IfOk r (λ number. number ≡ free)
    → IfOk r (λ number. new ≡ inserted (numbered number held) old) → OnOk r (new ≡ inserted (numbered free held) old)
opened-under (Ok number) held free old new here is = is ∙ ap (λ number. inserted (numbered number held) old) here
opened-under (Err e) held free old new here is = tt

-- and the others stay in order
pub opened-in_order : {E : Type 0} (r : Result ℕ E) (held : OpenFile) (old new : List (Descriptor ℕ))
    → IfOk r (λ number. number ≡ free_from 0 old)
    → IfOk r (λ number. new ≡ inserted (numbered number held) old) → OnErr r (new ≡ old)
    → are_ascending_from 0 old ≡ true → are_ascending_from 0 new ≡ true
opened-in_order (Ok number) held old new here is same rising =
    ap (are_ascending_from 0) is ∙ rising-inserted (numbered number held) 0 old rising (sym here)
opened-in_order (Err e) held old new here is same rising = ap (are_ascending_from 0) same ∙ rising

-- A task that may open one file more, or have one child more, is there

pub granted-there : (P : Task ℕ → Type 0) (found : Option (Task ℕ)) → IsSomeAnd found P → found ≡ None → ⊥
granted-there P None may absent = may
granted-there P (Some task) may absent = absurd cc

pub granted-so : (P : Task ℕ → Type 0) (found : Option (Task ℕ)) (task : Task ℕ) → IsSomeAnd found P → found ≡ Some task
    → P task
granted-so P found task may is = subst (λ one. IsSomeAnd one P) is may

pub there-shared : (held : Option (Bor Held)) → (option_copied held ≡ None → ⊥) → is_some held ≡ true
there-shared None never = absurd (never refl)
there-shared (Some held) never = refl

pub there-mut : (held : Option (MutBor Held)) → (option_copied_mut held ≡ None → ⊥) → is_some held ≡ true
there-mut None never = absurd (never refl)
there-mut (Some held) never = refl

-- A child behind all other tasks

module _ {A : Type 0} where
  lookup-behind : (test : Vec ℕ A → Bool) (x : Held) (e : Vec ℕ A × Held) (es : List (Vec ℕ A × Held))
      → lookup test es ≡ Some x → lookup test (es ++ e ∷ []) ≡ Some x
  lookup-behind test x e [] found = absurd cc
  lookup-behind test x e (y ∷ es) found = by (test y.0) found (lookup-behind test x e es)
    where
      by : (b : Bool) → cond b (Some y.1) (lookup test es) ≡ Some x
          → (lookup test es ≡ Some x → lookup test (es ++ e ∷ []) ≡ Some x)
          → cond b (Some y.1) (lookup test (es ++ e ∷ [])) ≡ Some x
      by true here rest = here
      by false here rest = rest here

  tasks-behind : (e : Vec ℕ A × Held) (es : List (Vec ℕ A × Held))
      → tasks_of (es ++ e ∷ []) ≡ tasks_of es ++ task_of e.1 ∷ []
  tasks-behind e [] = refl
  tasks-behind e (y ∷ es) = ap (λ l. task_of y.1 ∷ l) (tasks-behind e es)

  keyed-behind : (e : Vec ℕ A × Held) (es : List (Vec ℕ A × Held)) → AreKeyed es → e.0.items ≡ e.1.name
      → AreKeyed (es ++ e ∷ [])
  keyed-behind e [] keyed last = (last, keyed)
  keyed-behind e (y ∷ es) keyed last = (keyed.0, keyed-behind e es keyed.1 last)

  pub absent-called : (name : TaskName) (es : List (Vec ℕ A × Held)) → AreKeyed es → called name (tasks_of es) ≡ None
      → lookup (is_key name) es ≡ None
  absent-called name es keyed absent = by (lookup (is_key name) es) (sym (called-tasks name es keyed) ∙ absent)
    where
      by : (r : Option Held) → option_map task_of r ≡ None → r ≡ None
      by None e = refl
      by (Some x) e = absurd cc

replaced-behind : (parent child : Task ℕ) (tasks : Tasks) → same_name parent.name child.name ≡ false
    → replaced parent (tasks ++ child ∷ []) ≡ replaced parent tasks ++ child ∷ []
replaced-behind parent child [] other = ap (λ b. cond b parent child ∷ []) other
replaced-behind parent child (task ∷ tasks) other = ap (λ l. replaced_if_called parent task ∷ l)
    (replaced-behind parent child tasks other)

module _ {A : Type 0} (name : TaskName) (es middle fs : List (Vec ℕ A × Held)) (key : Vec ℕ A) (parent child : Held)
    (credentials : Credentials) (fit : AreFit es) (is : lookup (is_key name) es ≡ Some parent)
    (key_is : key.items ≡ child.name) (child_is : task_of child ≡ child_of (task_of parent) credentials)
    (behind : middle ≡ es ++ (key, child) ∷ []) where
  here : called name (tasks_of es) ≡ Some (task_of parent)
  here = called-found name es es fit parent is

  named_so : key.items ≡ child_name (task_of parent)
  named_so = key_is ∙ ap (λ (task : Task ℕ). task.name) child_is

  keyed-middle : AreKeyed middle
  keyed-middle = subst AreKeyed (sym behind) (keyed-behind (key, child) es fit.0 key_is)

  still-found : lookup (is_key name) middle ≡ Some parent
  still-found = ap (lookup (is_key name)) behind ∙ lookup-behind (is_key name) parent (key, child) es is

  pub never-absent : lookup (is_key name) middle ≡ None → ⊥
  never-absent absent =
      let none : Some parent ≡ None = sym still-found ∙ absent in
      cc

  own : parent.name ≡ name
  own = name-found name es es fit parent is

  by-parent : (w : Held) → task_of w ≡ forked_once (task_of parent) → IsDistinct key_eq (keys_of middle)
      → fs ≡ set_value (is_key name) middle w
      → tasks_of fs ≡ with_child_behind (task_of parent) (child_of (task_of parent) credentials) (tasks_of es)
  by-parent w once unique writes = ap tasks_of writes
      ∙ tasks-set_value name w middle keyed-middle unique (ap (λ (task : Task ℕ). task.name) once ∙ own)
      ∙ (λ i. replaced (once i) ((ap tasks_of behind ∙ tasks-behind (key, child) es) i))
      ∙ (λ i. replaced (forked_once (task_of parent)) (tasks_of es ++ child_is i ∷ []))
      ∙ replaced-behind (forked_once (task_of parent)) (child_of (task_of parent) credentials) (tasks_of es)
      (other-child parent.name (parent.forks + 1))

  once-forked : (found w : Held) → lookup (is_key name) middle ≡ Some found
      → w ≡ record found { forks = parent.forks + 1 } → task_of w ≡ forked_once (task_of parent)
  once-forked found w there forks =
      let same : found ≡ parent = some_equal found parent (sym there ∙ still-found) in
      ap task_of forks ∙ (λ i. task_of (record (same i) { forks = parent.forks + 1 }))
    where
      some_equal : (x y : Held) → Some x ≡ Some y → x ≡ y
      some_equal x y e = cc

  pub forked-so : (found w : Held) → lookup (is_key name) middle ≡ Some found
      → w ≡ record found { forks = parent.forks + 1 } → IsDistinct key_eq (keys_of middle)
      → fs ≡ set_value (is_key name) middle w → tasks_of fs ≡ forked name credentials (tasks_of es)
  forked-so found w there forks unique writes = by-parent w (once-forked found w there forks) unique writes
      ∙ sym (ap (forked_by credentials (tasks_of es)) here)

  pub fit-forked : (found w : Held) → lookup (is_key name) middle ≡ Some found
      → w ≡ record found { forks = parent.forks + 1 } → IsDistinct key_eq (keys_of middle)
      → fs ≡ set_value (is_key name) middle w → AreFit fs
  fit-forked found w there forks unique writes =
      let once = once-forked found w there forks in
      let so = by-parent w once unique writes in (
        subst AreKeyed (sym writes) (keyed-set_value name w middle keyed-middle
            (ap (λ (task : Task ℕ). task.name) once ∙ own)),
        ap are_given_once so ∙ given-forked name (task_of parent) (tasks_of es) fit.1 here credentials,
        subst AreNamedApart (sym so) (apart-forked name (task_of parent) (tasks_of es) fit.1 here credentials fit.2),
        ap (list_all has_files_in_order) so
            ∙ all-behind has_files_in_order (replaced (forked_once (task_of parent)) (tasks_of es))
            (child_of (task_of parent) credentials)
            (files-replaced name es es fit (task_of parent) (forked_once (task_of parent)) here
            (in_order name es es fit parent is)) refl,
      )

-- tasks and their births are the same if both are
abbrev value_of : Tasks → ℕ → TasksValue
value_of tasks births = record { tasks = tasks; births = births }

pub told : {a b : Tasks} {m n : ℕ} → a ≡ b → m ≡ n → value_of a m ≡ value_of b n
told tasks births i = value_of (tasks i) (births i)
