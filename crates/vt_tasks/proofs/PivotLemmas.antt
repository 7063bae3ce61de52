-- Each task changes, one after another.
use Rattle.std.proofs.Common.{◌≡◌, ◌&&◌, ℕ, ◌+◌, Bool, true, false, cond, List, [], ◌∷◌, length, map, nat_eq, Some, refl, sym, ap, subst, ◌∙◌, add-one, nat_lt, slice_get, suc, zero}
use Rattle.vt_spec.proofs.Common.{Mount, Task, keys_of, list_all, pair-map, pivoted_location, pivoted_task, same_name, values_of}
use Rattle.std.specs.List.{IsDistinct}
use Rattle.indexmap.specs.IndexMap.{set_value_at}
use Rattle.std.specs.declared.vec.Vec.{Vec}
use Rattle.vt_tasks.specs.declared.task.Task.{Task as Held}
use Rattle.vt_tasks.specs.TaskValue.{task_of}
use Rattle.vt_tasks.proofs.BirthOrder.{ordered-same}
use Rattle.vt_tasks.specs.TasksValue.{AreFit, AreKept, AreKeyed, AreNamedApart, Tasks, are_given_once, births_of, has_files_in_order, has_given, in_order, is_of_forks, names_of, tasks_of}

pub keys-set_value_at : {K X : Type 0} (es : List (K × X)) (i : ℕ) (w : X) → keys_of (set_value_at es i w) ≡ keys_of es
keys-set_value_at [] i w = refl
keys-set_value_at (e ∷ es) zero w = refl
keys-set_value_at (e ∷ es) (suc i) w = ap (λ ks. e.0 ∷ ks) (keys-set_value_at es i w)

-- births stay where a task is written back with its own
pub births-set_value_at : {A : Type 0} (es : List (Vec ℕ A × Held)) (i : ℕ) (x w : Held)
    → slice_get (values_of es) i ≡ Some x → w.birth ≡ x.birth → births_of (set_value_at es i w) ≡ births_of es
births-set_value_at [] i x w found same = refl
births-set_value_at (e ∷ es) zero x w found same =
    let here : e.1 ≡ x = cc in
    ap (λ n. n ∷ births_of es) (same ∙ ap (λ (held : Held). held.birth) (sym here))
births-set_value_at (e ∷ es) (suc i) x w found same =
    ap (λ ns. e.1.birth ∷ ns) (births-set_value_at es i x w found same)

module _ (change : Task ℕ → Task ℕ) where
  -- the first of these many are changed
  abbrev pub changed_first : ℕ → Tasks → Tasks
  changed_first zero tasks = tasks
  changed_first (suc i) [] = []
  changed_first (suc i) (task ∷ tasks) = change task ∷ changed_first i tasks

  pub changed-all : (tasks : Tasks) → changed_first (length tasks) tasks ≡ map change tasks
  changed-all [] = refl
  changed-all (task ∷ tasks) = ap (λ rest. change task ∷ rest) (changed-all tasks)

  -- the next one changes
  step : {A : Type 0} (i : ℕ) (es : List (Vec ℕ A × Held)) (tasks : Tasks) (x w : Held)
      → tasks_of es ≡ changed_first i tasks → slice_get (values_of es) i ≡ Some x → task_of w ≡ change (task_of x)
      → tasks_of (set_value_at es i w) ≡ changed_first (suc i) tasks
  step i [] tasks x w so found is = absurd cc
  step zero (e ∷ es) [] x w so found is = absurd cc
  step zero (e ∷ es) (task ∷ tasks) x w so found is =
      let here : e.1 ≡ x = cc in
      let first : task_of e.1 ≡ task = cc in
      let rest : tasks_of es ≡ tasks = cc in
      λ i. (is ∙ ap (λ held. change (task_of held)) (sym here) ∙ ap change first) i ∷ rest i
  step (suc i) (e ∷ es) [] x w so found is = absurd cc
  step (suc i) (e ∷ es) (task ∷ tasks) x w so found is =
      let first : task_of e.1 ≡ change task = cc in
      let rest : tasks_of es ≡ changed_first i tasks = cc in
      λ j. first j ∷ step i es tasks x w rest found is j

  pub changed-next : {A : Type 0} (i : ℕ) (es : List (Vec ℕ A × Held)) (tasks : Tasks) (x w : Held)
      → tasks_of es ≡ changed_first i tasks → slice_get (values_of es) i ≡ Some x → task_of w ≡ change (task_of x)
      → tasks_of (set_value_at es i w) ≡ changed_first (i + 1) tasks
  changed-next i es tasks x w so found is = step i es tasks x w so found is
      ∙ ap (λ n. changed_first n tasks) (sym (add-one i))

  -- tasks that keep their names, forks and files are fit as before
  module _ (name : (task : Task ℕ) → (change task).name ≡ task.name)
      (forks : (task : Task ℕ) → (change task).forks ≡ task.forks)
      (files : (task : Task ℕ) → (change task).descriptors ≡ task.descriptors) where
    names-changed : (tasks : Tasks) → names_of (map change tasks) ≡ names_of tasks
    names-changed [] = refl
    names-changed (task ∷ tasks) = λ i. name task i ∷ names-changed tasks i

    all-changed : (p q : Task ℕ → Bool) → ((task : Task ℕ) → q (change task) ≡ p task) → (tasks : Tasks)
        → list_all q (map change tasks) ≡ list_all p tasks
    all-changed p q same [] = refl
    all-changed p q same (task ∷ tasks) = λ i. same task i && all-changed p q same tasks i

    given-changed : (tasks : Tasks) → are_given_once (map change tasks) ≡ are_given_once tasks
    given-changed tasks = ap (λ names. list_all (has_given names) (map change tasks)) (names-changed tasks)
        ∙ all-changed (has_given (names_of tasks)) (has_given (names_of tasks))
        (λ task i. list_all (is_of_forks (forks task i) (name task i)) (names_of tasks)) tasks

    files-changed : (tasks : Tasks) → list_all has_files_in_order (map change tasks) ≡ list_all has_files_in_order tasks
    files-changed tasks = all-changed has_files_in_order has_files_in_order
        (λ task i. has_files_in_order (record task { descriptors = files task i })) tasks

    apart-changed : (tasks : Tasks) → AreNamedApart tasks → AreNamedApart (map change tasks)
    apart-changed tasks apart = pair-map (λ a b. same_name a.name b.name) (λ a b. same_name a.name b.name) change tasks
        (λ a b m n differs. (λ i. same_name (name a i) (name b i)) ∙ differs) apart

    keyed-changed : {A : Type 0} (es new : List (Vec ℕ A × Held)) → AreKeyed es → keys_of new ≡ keys_of es
        → names_of (tasks_of new) ≡ names_of (tasks_of es) → AreKeyed new
    keyed-changed es [] keyed keys names = tt
    keyed-changed [] (n ∷ new) keyed keys names = absurd cc
    keyed-changed (e ∷ es) (n ∷ new) keyed keys names =
        let key : n.0 ≡ e.0 = cc in
        let keys_rest : keys_of new ≡ keys_of es = cc in
        let own : n.1.name ≡ e.1.name = cc in
        let names_rest : names_of (tasks_of new) ≡ names_of (tasks_of es) = cc in
        (ap (λ k. k.items) key ∙ keyed.0 ∙ sym own, keyed-changed es new keyed.1 keys_rest names_rest)

    pub fit-changed : {A : Type 0} (es new : List (Vec ℕ A × Held)) → AreFit es → keys_of new ≡ keys_of es
        → tasks_of new ≡ map change (tasks_of es) → AreFit new
    fit-changed es new fit keys so = (
      keyed-changed es new fit.0 keys (ap names_of so ∙ names-changed (tasks_of es)),
      ap are_given_once so ∙ given-changed (tasks_of es) ∙ fit.1,
      subst AreNamedApart (sym so) (apart-changed (tasks_of es) fit.2),
      ap (list_all has_files_in_order) so ∙ files-changed (tasks_of es) ∙ fit.3,
    )

module _ {A : Type 0} where
  length-tasks : (es : List (Vec ℕ A × Held)) → length (tasks_of es) ≡ length es
  length-tasks [] = refl
  length-tasks (e ∷ es) = ap suc (length-tasks es)

  length-keys : (es : List (Vec ℕ A × Held)) → length (keys_of es) ≡ length es
  length-keys [] = refl
  length-keys (e ∷ es) = ap suc (length-keys es)

  pub as-many : (es new : List (Vec ℕ A × Held)) → keys_of new ≡ keys_of es → length new ≡ length es
  as-many es new keys = sym (length-keys new) ∙ ap length keys ∙ length-keys es

  pub all-of : (change : Task ℕ → Task ℕ) (i : ℕ) (es new : List (Vec ℕ A × Held)) → i ≡ length es
      → tasks_of new ≡ changed_first change i (tasks_of es) → tasks_of new ≡ map change (tasks_of es)
  all-of change i es new last so = so ∙ ap (λ n. changed_first change n (tasks_of es)) (last ∙ sym (length-tasks es))
      ∙ changed-all change (tasks_of es)

-- a task that a pivot moves keeps its name, its forks and its files
module _ (namespace : ℕ) (root new : Mount ℕ) where
  abbrev pub pivoting : Task ℕ → Task ℕ
  pivoting = pivoted_task nat_eq namespace root new

  same-name : (task : Task ℕ) → (pivoting task).name ≡ task.name
  same-name task = by (nat_eq namespace task.namespace)
    where
      by : (b : Bool) → (cond b (record task { root = pivoted_location nat_eq root new task.root; directory = pivoted_location nat_eq root new task.directory }) task).name
          ≡ task.name
      by true = refl
      by false = refl

  same-forks : (task : Task ℕ) → (pivoting task).forks ≡ task.forks
  same-forks task = by (nat_eq namespace task.namespace)
    where
      by : (b : Bool) → (cond b (record task { root = pivoted_location nat_eq root new task.root; directory = pivoted_location nat_eq root new task.directory }) task).forks
          ≡ task.forks
      by true = refl
      by false = refl

  same-files : (task : Task ℕ) → (pivoting task).descriptors ≡ task.descriptors
  same-files task = by (nat_eq namespace task.namespace)
    where
      by : (b : Bool) → (cond b (record task { root = pivoted_location nat_eq root new task.root; directory = pivoted_location nat_eq root new task.directory }) task).descriptors
          ≡ task.descriptors
      by true = refl
      by false = refl

  pivoted-again : {A : Type 0} (es : List (Vec ℕ A × Held)) → map (λ e. pivoting (task_of e.1)) es ≡ map pivoting (tasks_of es)
  pivoted-again [] = refl
  pivoted-again (e ∷ es) = ap (λ l. pivoting (task_of e.1) ∷ l) (pivoted-again es)

  module _ {A : Type 0} (es after : List (Vec ℕ A × Held)) (keys : keys_of after ≡ keys_of es)
      (births : births_of after ≡ births_of es) (so : tasks_of after ≡ map pivoting (tasks_of es)) where
    -- also in the order of births
    pub pivoted-in_order : tasks_of (in_order after) ≡ map pivoting (tasks_of (in_order es))
    pivoted-in_order =
        ordered-same (Vec ℕ A) Held (λ held. held.birth) (λ e. task_of e.1) (λ e. pivoting (task_of e.1)) es after births
        (so ∙ sym (pivoted-again es)) ∙ pivoted-again (in_order es)

    pub kept-pivoted : (next : ℕ) → AreKept next es → AreKept next after
    kept-pivoted next kept = record {
      fit = fit-changed pivoting same-name same-forks same-files (in_order es) (in_order after) kept.fit
          (ordered-same (Vec ℕ A) Held (λ held. held.birth) (λ e. e.0) (λ e. e.0) es after births keys) pivoted-in_order;
      apart = subst (IsDistinct nat_eq) (sym births) kept.apart;
      before = ap (list_all (λ birth. nat_lt birth next)) births ∙ kept.before;
    }
