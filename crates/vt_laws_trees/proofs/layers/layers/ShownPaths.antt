-- One directory of a tree is led to by one list of names.
use Rattle.std.proofs.Common.{◌≡◌, ◌≢◌, refl, sym, ap, subst, ◌∙◌, true≢false, arith, ℕ, zero, suc, ◌+◌, Bool, true, false, List, [], ◌∷◌, ◌++◌, length, Some, ◌≤◌, nat_eq}
use Rattle.vt_spec.proofs.Common.{FileTree, IsDirectory, IsTree, Tree, entry_at, is_root_path, last_or, led, same_Some, ListsNumbers}
use Rattle.vt_laws_trees.proofs.layers.layers.ShownDirectories.{last_of}
use Rattle.vt_laws_trees.proofs.layers.layers.ShownNames.{last_name}
use Rattle.vt_laws_trees.proofs.layers.layers.UpperChain.{one_depth, depth_below}
use Rattle.vt_laws_trees.proofs.layers.layers.UpperLine.{ReachedIn, has_entries, is_reached_in, from_directory}
use Rattle.vt_spec.proofs.Trees.{found}

pub not_empty : (name : List ℕ) (path : List (List ℕ)) → name ∷ path ≢ []
not_empty name path e = true≢false (ap (λ l. elim l as (λ _. Bool) [ [] ↦ false | a ∷ b ↦ true ]) e)

pub length_longer : (path : List (List ℕ)) (name : List ℕ) → length (path ++ name ∷ []) ≡ suc (length path)
length_longer [] name = refl
length_longer (first ∷ path) name = ap (λ n. suc n) (length_longer path name)

pub last_of_longer : (path : List (List ℕ)) (name default : List ℕ) → last_or default (path ++ name ∷ []) ≡ name
last_of_longer [] name default = refl
last_of_longer (first ∷ path) name default = last_of_longer path name first

pub root_of_longer : (path : List (List ℕ)) (name : List ℕ) → is_root_path (path ++ name ∷ []) ≡ false
root_of_longer [] name = refl
root_of_longer (first ∷ path) name = refl

-- The last step of names that lead to an object: the directory that the names before lead to has the last one for it.
pub record LastStep (tree : Tree ℕ) (start : ℕ) (path : List (List ℕ)) (to : ℕ) : Type 0 where
  pub front : List (List ℕ)
  pub name : List ℕ
  pub directory : ℕ
  pub split : front ++ name ∷ [] ≡ path
  pub leads : led tree start front ≡ Some directory
  pub entry : entry_at tree directory name ≡ Some to

pub last_step : (tree : Tree ℕ) (start : ℕ) (path : List (List ℕ)) (to : ℕ) → path ≢ []
    → led tree start path ≡ Some to → LastStep tree start path to
last_step tree start path to longer e =
    let last = last_of path longer in
    let step = found (λ directory. entry_at tree directory last.1) (led tree start last.0) to
    (sym (last_name tree start last.0 last.1) ∙ ap (led tree start) last.2 ∙ e) in
    record {
      front = last.0;
      name = last.1;
      directory = step.0;
      split = last.2;
      leads = step.1;
      entry = step.2;
    }

-- One directory of a tree is led to by one list of names.
module _ (tree : Tree ℕ) (conditions : IsTree tree) (start : ℕ) where
  abbrev files : FileTree ℕ
  files = record { tree = tree; numbers = [] }

  reached_by : (names : List (List ℕ)) (steps from to : ℕ) → ReachedIn tree steps from → led tree from names ≡ Some to
      → IsDirectory tree to → ReachedIn tree (steps + length names) to
  reached_by [] steps from to r e d =
      subst (λ n. ReachedIn tree n to) (omega arith) (subst (ReachedIn tree steps) (same_Some from to e) r)
  reached_by (name ∷ names) steps from to r e d =
      let next = found (λ next. led tree next names) (entry_at tree from name) to e in
      let there = from_directory files conditions names next.0 to next.2 d in
      subst (λ n. ReachedIn tree n to) (omega arith)
      (reached_by names (suc steps) next.0 to (from, name, r, next.1, there) next.2 d)

  -- by names as many as steps
  pub depth_of_led : (names : List (List ℕ)) (to : ℕ) → names ≢ [] → led tree start names ≡ Some to
      → IsDirectory tree to → (steps : ℕ) × ReachedIn tree steps start × ReachedIn tree (steps + length names) to
  depth_of_led [] to n e d = absurd (n refl)
  depth_of_led (name ∷ names) to n e d =
      let next = found (λ next. led tree next names) (entry_at tree start name) to e in
      let reached = is_reached_in files conditions start name next.0 next.1 in
      (reached.0, reached.1, reached_by (name ∷ names) reached.0 start to reached.1 e d)

  pub one_length : (a b : List (List ℕ)) (to : ℕ) → led tree start a ≡ Some to → led tree start b ≡ Some to
      → IsDirectory tree to → length a ≡ length b
  one_length [] [] to e f d = refl
  one_length [] (name ∷ b) to e f d =
      let deep = depth_of_led (name ∷ b) to (not_empty name b) f d in
      let same = one_depth files conditions deep.0 (deep.0 + length (name ∷ b)) to
      (subst (ReachedIn tree deep.0) (same_Some start to e) deep.1) deep.2 in
      let no : ⊥ = omega arith in absurd no
  one_length (name ∷ a) [] to e f d =
      let deep = depth_of_led (name ∷ a) to (not_empty name a) e d in
      let same = one_depth files conditions deep.0 (deep.0 + length (name ∷ a)) to
      (subst (ReachedIn tree deep.0) (same_Some start to f) deep.1) deep.2 in
      let no : ⊥ = omega arith in absurd no
  one_length (name ∷ a) (other ∷ b) to e f d =
      let deep = depth_of_led (name ∷ a) to (not_empty name a) e d in
      let deep_other = depth_of_led (other ∷ b) to (not_empty other b) f d in
      let from = one_depth files conditions deep.0 deep_other.0 start deep.1 deep_other.1 in
      let same = one_depth files conditions (deep.0 + length (name ∷ a)) _ to deep.2 deep_other.2 in
      omega arith

  one_path_of : (many : ℕ) (a b : List (List ℕ)) (to : ℕ) → length a ≡ many → length b ≡ many
      → led tree start a ≡ Some to → led tree start b ≡ Some to → IsDirectory tree to → a ≡ b
  one_path_of many [] [] to la lb e f d = refl
  one_path_of many [] (other ∷ b) to la lb e f d = absurd (let no : ⊥ = omega arith in no)
  one_path_of many (name ∷ a) [] to la lb e f d = absurd (let no : ⊥ = omega arith in no)
  one_path_of zero (name ∷ a) (other ∷ b) to la lb e f d = absurd (let no : ⊥ = omega arith in no)
  one_path_of (suc many) (name ∷ a) (other ∷ b) to la lb e f d =
      let one = last_step tree start (name ∷ a) to (not_empty name a) e in
      let two = last_step tree start (other ∷ b) to (not_empty other b) f in
      let one_long = sym (length_longer one.front one.name) ∙ ap length one.split in
      let two_long = sym (length_longer two.front two.name) ∙ ap length two.split in
      -- the two directories are one, so their names for it are one, and so are the fronts
      let same = sym (conditions.one_parent one.directory one.name to one.entry d)
      ∙ conditions.one_parent two.directory two.name to two.entry d in
      let names = conditions.one_name two.directory one.name two.name to
      (ap (λ n. entry_at tree n one.name) (sym same) ∙ one.entry) two.entry d in
      let fronts = one_path_of many one.front two.front two.directory (omega arith) (omega arith)
      (one.leads ∙ ap Some same) two.leads (has_entries tree two.directory two.name to two.entry) in
      cc (one.split, two.split, fronts, names)

  pub one_path : (a b : List (List ℕ)) (to : ℕ) → led tree start a ≡ Some to → led tree start b ≡ Some to
      → IsDirectory tree to → a ≡ b
  one_path a b to e f d = one_path_of (length b) a b to (one_length a b to e f d) refl e f d

-- Names that lead somewhere are no more than there are inodes.
module _ (files : FileTree ℕ) (tree : IsTree files.tree) (listed : ListsNumbers nat_eq files) (start : ℕ) where
  -- a directory lies as deep as names lead to it
  deep : (front : List (List ℕ)) (name : List ℕ) (directory to : ℕ) → led files.tree start front ≡ Some directory
      → entry_at files.tree directory name ≡ Some to → suc (length front) ≤ length files.numbers
  deep [] name directory to l e =
      let reached = is_reached_in files tree directory name to e in
      let below = depth_below files tree listed reached.0 directory reached.1 in
      omega arith
  deep (first ∷ rest) name directory to l e =
      let reached = depth_of_led files.tree tree start (first ∷ rest) directory (not_empty first rest) l
      (has_entries files.tree directory name to e) in
      let below = depth_below files tree listed (reached.0 + length (first ∷ rest)) directory reached.2 in
      omega arith

  pub length-led : (path : List (List ℕ)) (to : ℕ) → led files.tree start path ≡ Some to
      → length path ≤ length files.numbers
  length-led [] to e = omega arith
  length-led (name ∷ path) to e =
      let last = last_step files.tree start (name ∷ path) to (not_empty name path) e in
      let long = sym (length_longer last.front last.name) ∙ ap length last.split in
      let within = deep last.front last.name last.directory to last.leads last.entry in
      omega arith
