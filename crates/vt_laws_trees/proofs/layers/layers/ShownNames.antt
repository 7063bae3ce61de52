-- The names of a directory are those for which something is shown.
use Rattle.std.proofs.Common.{◌≡◌, ◌<◌, ◌↔◌, Contains, refl, sym, ap, ◌∙◌, true≢false, arith, ℕ, zero, suc, Bool, true, false, cond, ◌||◌, ◌&&◌, List, [], ◌∷◌, ◌++◌, map, filter, length, get_or, Option, Some, None, is_some, option_and_then, slice_get, is_eq}
use Rattle.vt_spec.proofs.Common.{Entries, OpenLayer, Shown, Tree, and_true_right, at_path, common_steps, entries_in, entry_at, entry_named, eq_by_cmp, find-put, folded, is_some-find, led, list_any, name_cmp, names_shown, nat_list_cmp_total, node_at_path, none_is_some, or-true, or_right, same_Some, shown, tied_itself, with_entry}
use Rattle.vt_spec.proofs.Layers.{names_at}
use Rattle.vt_spec.proofs.Nodes.{same_name}
use Rattle.vt_laws_trees.specs.Layers.Layers.Shown.{IsShown}
use Rattle.vt_laws_trees.proofs.layers.layers.ShownAtPath.{computed}
use Rattle.vt_spec.proofs.Options.{option_and_then-Some}

abbrev pub is_name : List ℕ → List ℕ → Bool
is_name name other = eq_by_cmp name_cmp name other

is_itself : (name : List ℕ) → is_name name name ≡ true
is_itself name = ap is_eq (tied_itself nat_list_cmp_total name)

-- a list has a name if some element of it is the name
contains_cons : (name other : List ℕ) (names : List (List ℕ)) → Contains names name → Contains (other ∷ names) name
contains_cons name other names has = (suc has.0, let h = has.1 in omega arith, has.2)

contains_name : (name : List ℕ) (names : List (List ℕ)) → list_any (is_name name) names ≡ true → Contains names name
contains_name name [] e = absurd (true≢false (sym e))
contains_name name (other ∷ names) e = by (is_name name other) refl (contains_name name names) e
  where
    by : (b : Bool) → is_name name other ≡ b → (list_any (is_name name) names ≡ true → Contains names name)
        → (b || list_any (is_name name) names) ≡ true → Contains (other ∷ names) name
    by true t rest e = (0, omega arith, sym (same_name name other t))
    by false t rest e = contains_cons name other names (rest e)

pub name_found : (name : List ℕ) (names : List (List ℕ)) (k : ℕ) → k < length names → get_or names k name ≡ name
    → list_any (is_name name) names ≡ true
name_found name [] k h e = absurd (let l : k < 0 = h in omega arith)
name_found name (other ∷ names) zero h e = grind (arith, common_steps, is_itself)
name_found name (other ∷ names) (suc k) h e =
    grind (arith, common_steps, or_right, name_found name names k (omega arith) e)

-- of the names that pass a test, those that are there
filtered : (test : List ℕ → Bool) (name : List ℕ) (names : List (List ℕ))
    → list_any (is_name name) (filter test names) ≡ (list_any (is_name name) names && test name)
filtered test name [] = refl
filtered test name (other ∷ names) = by (is_name name other) refl (test other) refl (filtered test name names)
  where
    by : (b : Bool) → is_name name other ≡ b → (t : Bool) → test other ≡ t
        → list_any (is_name name) (filter test names) ≡ (list_any (is_name name) names && test name)
        → list_any (is_name name) (cond t (other ∷ filter test names) (filter test names))
        ≡ ((b || list_any (is_name name) names) && test name)
    by b s t known rest = grind (arith, common_steps, same_name)

-- entries put one by one into others
all_put : (name : List ℕ) (entries : Entries ℕ) (names : Entries (Unit {0}))
    → is_some (entry_named name (folded (λ names entry. with_entry entry.0 tt names) names entries))
    ≡ (is_some (entry_named name entries) || is_some (entry_named name names))
all_put name [] names = refl
all_put name (entry ∷ entries) names = all_put name entries (with_entry entry.0 tt names)
    ∙ ap (λ o. is_some (entry_named name entries) || is_some o)
    (find-put name_cmp nat_list_cmp_total name entry.0 tt names) ∙ by (is_name name entry.0)
  where
    by : (b : Bool) → (is_some (entry_named name entries) || is_some (cond b (Some tt) (entry_named name names)))
        ≡ (is_some (cond b (Some entry.1) (entry_named name entries)) || is_some (entry_named name names))
    by true = or-true (is_some (entry_named name entries))
    by false = refl

-- a name that a layer has is among the names of all of them
name_of_layer : (layers : List (OpenLayer ℕ)) (path : List (List ℕ)) (name : List ℕ) (depth : ℕ) (layer : OpenLayer ℕ)
    → slice_get layers depth ≡ Some layer → is_some (entry_named name (entries_in (node_at_path layer path))) ≡ true
    → is_some (entry_named name (names_at layers path)) ≡ true
name_of_layer [] path name depth layer e h = none_is_some layer e
name_of_layer (top ∷ lower) path name zero layer e h =
    cc (all_put name (entries_in (node_at_path top path)) (names_at lower path), same_Some top layer e, h)
name_of_layer (top ∷ lower) path name (suc depth) layer e h =
    all_put name (entries_in (node_at_path top path)) (names_at lower path)
    ∙ or_right (is_some (entry_named name (entries_in (node_at_path top path))))
    (is_some (entry_named name (names_at lower path))) (name_of_layer lower path name depth layer e h)

-- names lead through the place that all but the last lead to
pub last_name : (tree : Tree ℕ) (from : ℕ) (path : List (List ℕ)) (name : List ℕ) → led tree from (path ++ name ∷ [])
    ≡ option_and_then (λ directory. entry_at tree directory name) (led tree from path)
last_name tree from [] name = option_and_then-Some (entry_at tree from name)
last_name tree from (first ∷ path) name = by (entry_at tree from first) (λ next. last_name tree next path name)
  where
    by : (o : Option ℕ) → ((next : ℕ) → led tree next (path ++ name ∷ [])
        ≡ option_and_then (λ directory. entry_at tree directory name) (led tree next path))
        → option_and_then (λ next. led tree next (path ++ name ∷ [])) o
        ≡ option_and_then (λ directory. entry_at tree directory name) (option_and_then (λ next. led tree next path) o)
    by None rest = refl
    by (Some next) rest = rest next

name_in_layer : (layer : OpenLayer ℕ) (path : List (List ℕ)) (name : List ℕ) (object : ℕ)
    → at_path layer (path ++ name ∷ []) ≡ Some object
    → is_some (entry_named name (entries_in (node_at_path layer path))) ≡ true
name_in_layer layer path name object e =
    grind (arith, common_steps, last_name layer.tree layer.directory path name, none_is_some)

-- what is shown has a name that some layer has
shown_is_named : (layers : List (OpenLayer ℕ)) (path : List (List ℕ)) (name : List ℕ) (seen : Shown ℕ)
    → IsShown layers (path ++ name ∷ []) seen
    → list_any (is_name name) (map (λ entry. entry.0) (names_at layers path)) ≡ true
shown_is_named layers path name seen is = sym (is_some-find name_cmp name (names_at layers path)) ∙ name_of_layer layers
    path name seen.layer _ is.has_uncut.0.1 (name_in_layer is.has_uncut.0.0 path name seen.object is.has_uncut.0.2)

abbrev all_names : List (OpenLayer ℕ) → List (List ℕ) → List (List ℕ)
all_names layers path = map (λ entry. entry.0) (names_at layers path)

abbrev shows_name : List (OpenLayer ℕ) → List (List ℕ) → List ℕ → Bool
shows_name layers path name = is_some (shown layers (path ++ name ∷ []))

pub names_are_those_shown : (layers : List (OpenLayer ℕ)) (path : List (List ℕ)) (name : List ℕ)
    → Contains (names_shown layers path) name ↔ (seen : Shown ℕ) × IsShown layers (path ++ name ∷ []) seen
names_are_those_shown layers path name = (
  λ has. is_there _ refl (and_true_right (list_any (is_name name) (all_names layers path)) _
      (sym (filtered (shows_name layers path) name (all_names layers path)) ∙ name_found name _ has.0 has.1 has.2)),
  λ is. contains_name name _ (filtered _ name (all_names layers path) ∙ ap (λ b. b && shows_name layers path name)
      (shown_is_named layers path name is.0 is.1) ∙ ap is_some ((computed layers (path ++ name ∷ []) is.0).1 is.1)),
)
  where
    is_there : (o : Option (Shown ℕ)) → shown layers (path ++ name ∷ []) ≡ o → is_some o ≡ true
        → (seen : Shown ℕ) × IsShown layers (path ++ name ∷ []) seen
    is_there None e h = absurd (true≢false (sym h))
    is_there (Some seen) e h = (seen, (computed layers (path ++ name ∷ []) seen).0 e)
