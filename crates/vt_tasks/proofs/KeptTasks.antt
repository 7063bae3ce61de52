-- Tasks as the map keeps them, in whatever order, and as contracts see them, in the order in which they were forked.
use Rattle.std.proofs.Common.{◌≡◌, ℕ, ◌+◌, ◌<◌, ◌≤◌, true, false, List, [], ◌∷◌, ◌++◌, ◌&&◌, arith, length, map, nat_eq, nat_lt, Option, Some, None, option_map, refl, sym, ap, ◌∙◌, subst, IsPermutation}
use Rattle.vt_spec.proofs.Common.{AllByRecursion, Credentials, IsEquivalence, IsPermutation-map, Location, Task, TaskName, child_name, child_of, keys_of, length-map, list_all, list_any, lookup, nat_list_eq_equiv, or_parts, pointwise, same_name, set_value}
use Rattle.std.proofs.lemmas.List.Sorted.{length_permutation}
use Rattle.std.proofs.lemmas.Map.Steps.{length-le_from_distinct_below}
use Rattle.std.specs.declared.vec.Vec.{Vec}
use Rattle.std.specs.List.{IsDistinct}
use Rattle.std.specs.Map.{IsKeyTest}
use Rattle.indexmap.specs.IndexMap.{IndexMap, IsUnique, WritesThrough, get_by, insert_entry, swap_remove_entry}
use Rattle.indexmap.proofs.CallerLemmas.{insert_entry-new}
use Rattle.vt_location.specs.InOrder.{in_order_by}
use Rattle.vt_tasks.specs.declared.task.Task.{Task as Held}
use Rattle.vt_tasks.specs.TaskValue.{task_of}
use Rattle.vt_tasks.specs.TasksValue.{AreKept, AreKeyed, AreNamedApart, are_given_once, births_of, born_in_order, called, changed_called, first_task_at, forked, has_files_in_order, in_order, tasks_of, without_called}
use Rattle.vt_tasks.proofs.BirthOrder as births
use Rattle.vt_tasks.proofs.GivenOnce.{child-new}
use Rattle.vt_tasks.proofs.TasksLemmas as listed
use Rattle.vt_tasks.proofs.TasksLemmas.{is_key, key_eq}

abbrev birth : Held → ℕ
birth task = task.birth

born_before : (next birth : ℕ) (births : List ℕ) → list_all (λ birth. nat_lt birth next) births ≡ true
    → list_any (nat_eq birth) births ≡ true → birth < next
born_before next birth [] before here = cc
born_before next birth (first ∷ rest) before here = grind (arith, born_before next birth rest)

module _ {A : Type 0} where
  key_equivalence : IsEquivalence (key_eq {A = A})
  key_equivalence = record {
    refl = λ x. nat_list_eq_equiv.refl x.items;
    symm = λ x y. nat_list_eq_equiv.symm x.items y.items;
    congr = λ x y z. nat_list_eq_equiv.congr x.items y.items z.items;
  }

  key_test : (name : TaskName) → IsKeyTest (key_eq {A = A}) (is_key name)
  key_test name x y here = nat_list_eq_equiv.congr name x.items y.items here

  -- no two names, so no two keys
  heads : (e : Vec ℕ A × Held) (es : List (Vec ℕ A × Held)) → e.0.items ≡ e.1.name → AreKeyed es
      → list_any (λ (b : Task ℕ). same_name e.1.name b.name) (tasks_of es) ≡ false
      → AllByRecursion (λ y. key_eq e.0 y ≡ false) (keys_of es)
  heads e [] own keyed none = tt
  heads e (x ∷ es) own keyed none =
      let parts = or_parts (same_name e.1.name x.1.name) _ none in
      ((λ i. pointwise nat_eq (own i) (keyed.0 i)) ∙ parts.0, heads e es own keyed.1 parts.1)

  keys-apart : (es : List (Vec ℕ A × Held)) → AreKeyed es → AreNamedApart (tasks_of es) → IsDistinct key_eq (keys_of es)
  unfolding IsDistinct
  keys-apart [] keyed apart = tt
  keys-apart (e ∷ es) keyed apart =
      let parts = or_parts (list_any (λ (b : Task ℕ). same_name e.1.name b.name) (tasks_of es)) _ apart in
      (heads e es keyed.0 keyed.1 parts.0, keys-apart es keyed.1 parts.1)

  module _ (next : ℕ) (es : List (Vec ℕ A × Held)) (kept : AreKept next es) where
    ordered_keys : IsDistinct key_eq (keys_of (in_order es))
    ordered_keys = keys-apart (in_order es) kept.fit.0 kept.fit.2

    pub looked : (name : TaskName) → lookup (is_key name) (in_order es) ≡ lookup (is_key name) es
    looked name =
        births.looked-ordered (Vec ℕ A) Held birth key_eq key_equivalence (is_key name) (key_test name) es kept.apart ordered_keys

    set-ordered : (name : TaskName) (x w : Held) → lookup (is_key name) es ≡ Some x → w.birth ≡ x.birth
        → IsDistinct key_eq (keys_of es)
        → in_order (set_value (is_key name) es w) ≡ set_value (is_key name) (in_order es) w
    set-ordered name x w found same unique =
        births.ordered-set (Vec ℕ A) Held birth key_eq key_equivalence (is_key name) (key_test name) x w es found same kept.apart unique

    -- births stay where a task is written back
    births-kept : (name : TaskName) (fs : List (Vec ℕ A × Held)) (x w : Held) → lookup (is_key name) es ≡ Some x
        → w.birth ≡ x.birth → fs ≡ set_value (is_key name) es w → births_of fs ≡ births_of es
    births-kept name fs x w found same writes = ap births_of writes
        ∙ births.births-set (Vec ℕ A) Held birth key_eq key_equivalence (is_key name) (key_test name) x w es found same

  -- the first task alone
  pub kept-first : (entries old : List (Vec ℕ A × Held)) (key : Vec ℕ A) (task : Held) (namespace : ℕ)
      (root : Location ℕ) → old ≡ [] → entries ≡ insert_entry key_eq old key task → key.items ≡ []
      → task_of task ≡ first_task_at namespace root → task.birth ≡ 0 → AreKept 1 entries
  unfolding IsDistinct
  kept-first entries old key task namespace root empty inserts no_key is born =
      subst (AreKept 1) (sym (inserts ∙ ap (λ old. insert_entry key_eq old key task) empty)) (record {
        fit = (
          (no_key ∙ sym (ap (λ (task : Task ℕ). task.name) is), tt),
          ap (λ task. are_given_once (task ∷ [])) is,
          refl,
          ap (λ task. list_all has_files_in_order (task ∷ [])) is,
        );
        apart = one_apart task.birth;
        before = ap (λ birth. nat_lt birth 1 && true) born;
      })
    where
      one_apart : (n : ℕ) → IsDistinct nat_eq (n ∷ [])
      one_apart n = (tt, tt)

module _ {A S : Type 0} {next : ℕ} (name : TaskName) (m n : IndexMap (Vec ℕ A) Held S)
    (kept : AreKept next m.entries) where
  abbrev es : List (Vec ℕ A × Held)
  es = in_order m.entries

  abbrev fs : List (Vec ℕ A × Held)
  fs = in_order n.entries

  seen : (r : Option Held) → get_by (is_key name) m ≡ r → lookup (is_key name) es ≡ r
  seen r found = looked next m.entries kept name ∙ found

  pub called-found : (x : Held) → get_by (is_key name) m ≡ Some x → called name (tasks_of es) ≡ Some (task_of x)
  called-found x found = listed.called-found name es es kept.fit x (seen (Some x) found)

  pub called-absent : get_by (is_key name) m ≡ None → called name (tasks_of es) ≡ None
  called-absent absent = listed.called-absent name es es kept.fit (seen None absent)

  pub called-got : (r : Option Held) → r ≡ get_by (is_key name) m → option_map task_of r ≡ called name (tasks_of es)
  called-got r is = listed.called-got name es es kept.fit r (is ∙ sym (looked next m.entries kept name))

  pub changed-absent : (change : Task ℕ → Task ℕ) → get_by (is_key name) m ≡ None
      → changed_called name change (tasks_of es) ≡ tasks_of es
  changed-absent change absent = listed.changed-absent name es es kept.fit change (seen None absent)

  -- what is written to the task of a name is written in its place
  module _ (x w : Held) (found : get_by (is_key name) m ≡ Some x) (same_birth : w.birth ≡ x.birth)
      (unique : IsUnique key_eq m) (writes : WritesThrough key_eq (is_key name) m w n) where
    in_place : fs ≡ set_value (is_key name) es w
    in_place = ap in_order writes.0 ∙ set-ordered next m.entries kept name x w found same_birth unique

    keys_es : IsDistinct key_eq (keys_of es)
    keys_es = ordered_keys next m.entries kept

    pub changed-so : (change : Task ℕ → Task ℕ) → w.name ≡ x.name → task_of w ≡ change (task_of x)
        → tasks_of fs ≡ changed_called name change (tasks_of es)
    changed-so change same is =
        listed.written-change name es fs kept.fit change x w (seen (Some x) found) same keys_es in_place is

    pub fit-so : w.name ≡ x.name → x.forks ≤ w.forks
        → (has_files_in_order (task_of x) ≡ true → has_files_in_order (task_of w) ≡ true) → AreKept next n.entries
    fit-so same le files =
        let so = births-kept next m.entries kept name n.entries x w found same_birth writes.0 in
        record {
          fit = listed.written-fit name es fs kept.fit x w (seen (Some x) found) same keys_es in_place le files;
          apart = subst (IsDistinct nat_eq) (sym so) kept.apart;
          before = ap (list_all (λ birth. nat_lt birth next)) so ∙ kept.before;
        }

  pub written-change : (change : Task ℕ → Task ℕ) (x w : Held) → get_by (is_key name) m ≡ Some x → w.name ≡ x.name
      → w.birth ≡ x.birth → IsUnique key_eq m → WritesThrough key_eq (is_key name) m w n
      → task_of w ≡ change (task_of x) → tasks_of fs ≡ changed_called name change (tasks_of es)
  written-change change x w found same same_birth unique writes is =
      changed-so x w found same_birth unique writes change same is

  pub written-fit : (x w : Held) → get_by (is_key name) m ≡ Some x → w.name ≡ x.name → w.birth ≡ x.birth
      → IsUnique key_eq m → WritesThrough key_eq (is_key name) m w n → x.forks ≤ w.forks
      → (has_files_in_order (task_of x) ≡ true → has_files_in_order (task_of w) ≡ true) → AreKept next n.entries
  written-fit x w found same same_birth unique writes le files = fit-so x w found same_birth unique writes same le files

  pub written-same : (x w : Held) → w ≡ x → get_by (is_key name) m ≡ Some x → WritesThrough key_eq (is_key name) m w n
      → fs ≡ es
  written-same x w same found writes = ap in_order (writes.0 ∙ ap (set_value (is_key name) m.entries) same
      ∙ listed.set_value-same (is_key name) x m.entries found)

  -- One that goes

  module _ (swaps : n.entries ≡ swap_remove_entry (is_key name) m.entries) (gone : get_by (is_key name) n ≡ None)
      (unique : IsUnique key_eq n) where
    what_is_left : births.IsLeft (Vec ℕ A) Held birth key_eq key_equivalence (is_key name) (key_test name) m.entries n.entries
    what_is_left =
        births.left (Vec ℕ A) Held birth key_eq key_equivalence (is_key name) (key_test name) m.entries n.entries swaps gone kept.apart
        unique

    none_left : lookup (is_key name) fs ≡ None
    none_left =
        births.looked-ordered (Vec ℕ A) Held birth key_eq key_equivalence (is_key name) (key_test name) n.entries
        what_is_left.births_apart
        (births.keys-ordered (Vec ℕ A) Held birth key_eq key_equivalence (is_key name) (key_test name) n.entries
        what_is_left.births_apart unique) ∙ gone

    pub tasks-left : tasks_of fs ≡ without_called name (tasks_of es)
    tasks-left = listed.tasks-removed name es fs kept.fit what_is_left.ordered_so none_left

    pub kept-left : AreKept next n.entries
    kept-left = record {
      fit = listed.fit-removed name es fs kept.fit what_is_left.ordered_so none_left;
      apart = what_is_left.births_apart;
      before = what_is_left.births_kept (λ birth. nat_lt birth next) kept.before;
    }

-- A child behind all other tasks
module _ {A S : Type 0} (next : ℕ) (name : TaskName) (m middle n : IndexMap (Vec ℕ A) Held S) (key : Vec ℕ A)
    (parent child : Held) (credentials : Credentials) (kept : AreKept next m.entries)
    (is : get_by (is_key name) m ≡ Some parent) (key_is : key.items ≡ child.name)
    (child_is : task_of child ≡ child_of (task_of parent) credentials) (born : child.birth ≡ next)
    (inserts : middle.entries ≡ insert_entry key_eq m.entries key child) where
  abbrev old : List (Vec ℕ A × Held)
  old = in_order m.entries

  found_old : lookup (is_key name) old ≡ Some parent
  found_old = looked next m.entries kept name ∙ is

  here : called name (tasks_of old) ≡ Some (task_of parent)
  here = listed.called-found name old old kept.fit parent found_old

  named_so : key.items ≡ child_name (task_of parent)
  named_so = key_is ∙ ap (λ (task : Task ℕ). task.name) child_is

  new_key : lookup (is_key key.items) m.entries ≡ None
  new_key = sym (looked next m.entries kept key.items) ∙ listed.absent-called key.items old kept.fit.0
      (ap (λ name. called name (tasks_of old)) named_so
      ∙ child-new name (task_of parent) (tasks_of old) kept.fit.1 here)

  behind : middle.entries ≡ m.entries ++ (key, child) ∷ []
  behind = inserts ∙ insert_entry-new key_eq m key child new_key

  before : list_all (λ birth. nat_lt birth child.birth) (births_of m.entries) ≡ true
  before = ap (λ next. list_all (λ birth. nat_lt birth next) (births_of m.entries)) born ∙ kept.before

  ordered_behind : in_order middle.entries ≡ old ++ (key, child) ∷ []
  ordered_behind = ap in_order behind ∙ births.ordered-last (Vec ℕ A) Held birth (key, child) m.entries kept.apart before

  middle_apart : IsDistinct nat_eq (births_of middle.entries)
  middle_apart = subst (λ l. IsDistinct nat_eq (births_of l)) (sym behind)
      (births.births-last (Vec ℕ A) Held birth (key, child) m.entries kept.apart before)

  middle_before : list_all (λ birth. nat_lt birth (next + 1)) (births_of middle.entries) ≡ true
  middle_before = (λ i. list_all (λ birth. nat_lt birth (sym born i + 1)) (births_of (behind i)))
      ∙ births.before-last (Vec ℕ A) Held birth (key, child) m.entries before

  module _ (unique : IsUnique key_eq middle) where
    keys_middle : IsDistinct key_eq (keys_of (in_order middle.entries))
    keys_middle =
        births.keys-ordered (Vec ℕ A) Held birth key_eq key_equivalence (is_key name) (key_test name) middle.entries middle_apart unique

    seen_middle : (r : Option Held) → get_by (is_key name) middle ≡ r
        → lookup (is_key name) (in_order middle.entries) ≡ r
    seen_middle r there =
        births.looked-ordered (Vec ℕ A) Held birth key_eq key_equivalence (is_key name) (key_test name) middle.entries middle_apart
        keys_middle ∙ there

    pub never-absent : get_by (is_key name) middle ≡ None → ⊥
    never-absent absent =
        listed.never-absent name old (in_order middle.entries) (in_order middle.entries) key parent child credentials
        kept.fit found_old key_is child_is ordered_behind (seen_middle None absent)

    module _ (found w : Held) (there : get_by (is_key name) middle ≡ Some found)
        (forks : w ≡ record found { forks = parent.forks + 1 })
        (writes : WritesThrough key_eq (is_key name) middle w n) where
      in_place_there : in_order n.entries ≡ set_value (is_key name) (in_order middle.entries) w
      in_place_there = ap in_order writes.0
          ∙ births.ordered-set (Vec ℕ A) Held birth key_eq key_equivalence (is_key name) (key_test name) found w middle.entries there
          (ap birth forks) middle_apart unique

      same_births : births_of n.entries ≡ births_of middle.entries
      same_births = ap births_of writes.0
          ∙ births.births-set (Vec ℕ A) Held birth key_eq key_equivalence (is_key name) (key_test name) found w middle.entries there
          (ap birth forks)

      pub forked-so : tasks_of (in_order n.entries) ≡ forked name credentials (tasks_of old)
      forked-so =
          listed.forked-so name old (in_order middle.entries) (in_order n.entries) key parent child credentials kept.fit
          found_old key_is child_is ordered_behind found w (seen_middle (Some found) there) forks keys_middle
          in_place_there

      pub kept-forked : AreKept (next + 1) n.entries
      kept-forked = record {
        fit = listed.fit-forked name old (in_order middle.entries) (in_order n.entries) key parent child credentials
            kept.fit found_old key_is child_is ordered_behind found w (seen_middle (Some found) there) forks keys_middle
            in_place_there;
        apart = subst (IsDistinct nat_eq) (sym same_births) middle_apart;
        before = ap (list_all (λ birth. nat_lt birth (next + 1))) same_births ∙ middle_before;
      }

-- The tasks alone, with their births

module _ {A : Type 0} where
  kept-shown : (kept : List (Vec ℕ A × Held))
      → map {B = ℕ × Task ℕ} (λ (task : Held). (task.birth, task_of task)) (map (λ e. e.1) kept)
      ≡ map (λ e. (e.1.birth, task_of e.1)) kept
  kept-shown [] = refl
  kept-shown (e ∷ kept) = ap (λ l. (e.1.birth, task_of e.1) ∷ l) (kept-shown kept)

  pub born-kept : (kept : List (Vec ℕ A × Held)) → born_in_order (map (λ e. e.1) kept) ≡ tasks_of (in_order kept)
  born-kept kept = ap (λ l. map (λ one. one.1) (in_order_by (λ n. n) l)) (kept-shown kept)
      ∙ sym (births.shows (Vec ℕ A) Held birth (λ e. task_of e.1) kept)

  values-shown : (kept : List (Vec ℕ A × Held)) → map task_of (map (λ e. e.1) kept) ≡ tasks_of kept
  values-shown [] = refl
  values-shown (e ∷ kept) = ap (λ l. task_of e.1 ∷ l) (values-shown kept)

  -- in whatever order
  pub kept-permuted : (kept : List (Vec ℕ A × Held)) → IsDistinct nat_eq (births_of kept)
      → IsPermutation (map task_of (map (λ e. e.1) kept)) (tasks_of (in_order kept))
  kept-permuted kept apart = subst (λ l. IsPermutation l (tasks_of (in_order kept))) (sym (values-shown kept))
      (IsPermutation-map (λ e. task_of e.1) kept (in_order kept) (births.permuted (Vec ℕ A) Held birth kept apart))

  -- each was born once, before the next one, so there are no more tasks than births
  pub kept-few : (next : ℕ) (kept : List (Vec ℕ A × Held)) → AreKept next kept → length (tasks_of (in_order kept)) ≤ next
  kept-few next kept are =
      let few = length-le_from_distinct_below (births_of kept) next are.apart
      (λ birth here. born_before next birth (births_of kept) are.before here) in
      let same = length_permutation _ _ (kept-permuted kept are.apart) in
      omega (
        arith,
        few,
        same,
        length-map (map (λ entry. entry.1) kept) task_of,
        length-map kept (λ entry. entry.1),
        length-map kept (λ entry. entry.1.birth),
      )
