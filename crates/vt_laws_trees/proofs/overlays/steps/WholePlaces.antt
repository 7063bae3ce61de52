-- The path of a directory, as it is found from below, and what lower layers show at a name and under it.
use Rattle.std.proofs.Common.{arith, ◌≡◌, ◌≤◌, refl, sym, ap, ◌∙◌, true≢false, ℕ, zero, suc, ◌+◌, nat_eq, eq-eqb, ne_eqb, Bool, true, false, not, cond, ◌||◌, List, [], ◌∷◌, ◌++◌, map, reverse, Option, Some, None, is_some, slice_get, unwrap_or, find, option_map}
use Rattle.vt_spec.proofs.Common.{FileTree, IsDirectory, IsTree, ListsNumbers, Merge, OpenLayer, Shown, Tree, ancestors, before_first, chain, entries_in, entry_at, entry_to, found_is_named, holds_of, is_among, is_directory_node, is_directory_shown, led, led-append, list_any, name_in, named_parent, or_right, own_name, path_down, path_to, same_Some, take_while-cons, when}
use mathlib.Core.List.{reverse-cons}
use Rattle.vt_spec.proofs.Layers.{shown_from}
use Rattle.vt_laws_trees.proofs.layers.layers.ShownDirectories.{AreOpen, ShowsDirectory, append_assoc, shown_in_directory}
use Rattle.vt_laws_trees.proofs.layers.layers.ShownPaths.{not_empty, one_path, last_step}
use Rattle.vt_laws_trees.proofs.layers.layers.UpperChain.{depth_bound, up_at_root, up_from}
use Rattle.vt_laws_trees.proofs.layers.layers.UpperLine.{ReachedIn, is_reached_in}

-- the names that lead to what is reached
abbrev names_to : (tree : Tree ℕ) (steps directory : ℕ) → ReachedIn tree steps directory → List (List ℕ)
names_to tree zero directory r = []
names_to tree (suc steps) directory r = names_to tree steps r.0 r.2 ++ r.1 ∷ []

names_lead : (tree : Tree ℕ) (steps directory : ℕ) (r : ReachedIn tree steps directory)
    → led tree tree.root (names_to tree steps directory r) ≡ Some directory
names_lead tree zero directory r = ap Some (sym r)
names_lead tree (suc steps) directory r = led-append tree tree.root _ r.1 r.0 _ (names_lead tree steps r.0 r.2) r.3

module _ (files : FileTree ℕ) (tree : IsTree files.tree) (numbers : ListsNumbers nat_eq files) where
  -- the name of a directory in its parent
  own_is : (parent : ℕ) (name : List ℕ) (directory : ℕ) → entry_at files.tree parent name ≡ Some directory
      → IsDirectory files.tree directory → own_name nat_eq files directory ≡ name
  own_is parent name directory e d =
      ap (λ p. unwrap_or (option_map (λ (n : ℕ × List ℕ). n.1) (name_in nat_eq files directory p)) [])
      (tree.one_parent parent name directory e d) ∙ by _ refl (found _ (entry_to files.tree parent name directory e))
    where
      found : (entries : List (List ℕ × ℕ)) → list_any (nat_eq directory) (map (λ entry. entry.1) entries) ≡ true
          → is_some (find (λ entry. nat_eq directory entry.1) entries) ≡ true
      found [] e = absurd (true≢false (sym e))
      found (entry ∷ entries) e = step (nat_eq directory entry.1) e (found entries)
        where
          step : (b : Bool) → (b || list_any (nat_eq directory) (map (λ entry. entry.1) entries)) ≡ true
              → (list_any (nat_eq directory) (map (λ entry. entry.1) entries) ≡ true
              → is_some (find (λ entry. nat_eq directory entry.1) entries) ≡ true)
              → is_some (cond b (Some entry) (find (λ entry. nat_eq directory entry.1) entries)) ≡ true
          step true e rest = refl
          step false e rest = rest e

      by : (o : Option (List ℕ × ℕ))
          → find (λ entry. nat_eq directory entry.1) (entries_in (files.tree.node parent)) ≡ o → is_some o ≡ true
          → unwrap_or (option_map (λ (n : ℕ × List ℕ). n.1)
          (option_map (λ (entry : List ℕ × ℕ). (parent, entry.0)) o)) [] ≡ name
      by None f t = absurd (true≢false (sym t))
      by (Some entry) f t =
          let named = found_is_named directory (entries_in (files.tree.node parent)) entry (tree.in_order parent) f in
          tree.one_name parent entry.0 name directory (named.0 ∙ ap Some named.1) e d

  not_root : (parent : ℕ) (name : List ℕ) (directory : ℕ) → entry_at files.tree parent name ≡ Some directory
      → nat_eq files.tree.root directory ≡ false
  not_root parent name directory e =
      ne_eqb files.tree.root directory (λ same. tree.root_unnamed parent name (e ∙ ap Some (sym same)))

  -- the directories up to the root, but for that
  up_names : (most steps directory : ℕ) (r : ReachedIn files.tree steps directory) → steps ≤ most
      → (is_among nat_eq files.tree.root (chain most (named_parent nat_eq files.tree) directory) ≡ true)
      × (reverse (map (own_name nat_eq files)
      (before_first (nat_eq files.tree.root) (chain most (named_parent nat_eq files.tree) directory)))
      ≡ names_to files.tree steps directory r)
  up_names most zero directory r h = (
    ap (is_among nat_eq files.tree.root) (up_at_root files tree most directory r)
        ∙ ap (λ b. b || false) (eq-eqb files.tree.root directory (sym r)),
    ap (λ l. reverse (map (own_name nat_eq files) (before_first (nat_eq files.tree.root) l)))
        (up_at_root files tree most directory r) ∙ ap (λ l. reverse (map (own_name nat_eq files) l))
        (take_while-cons (λ a. not (nat_eq files.tree.root a)) directory []
        ∙ ap (λ b. cond (not b) (directory ∷ []) []) (eq-eqb files.tree.root directory (sym r))),
  )
  up_names zero (suc steps) directory r h = absurd (let no : ⊥ = omega arith in no)
  up_names (suc most) (suc steps) directory r h =
      let rest = up_names most steps r.0 r.2 (omega arith) in
      let up = up_from files tree most steps directory r in
      let above = chain most (named_parent nat_eq files.tree) r.0 in (
        ap (is_among nat_eq files.tree.root) up ∙ or_right (nat_eq files.tree.root directory) _ rest.0,
        ap (λ l. reverse (map (own_name nat_eq files) (before_first (nat_eq files.tree.root) l))) up
            ∙ ap (λ l. reverse (map (own_name nat_eq files) l))
            (take_while-cons (λ a. not (nat_eq files.tree.root a)) directory above
            ∙ ap (λ b. cond (not b) (directory ∷ before_first (nat_eq files.tree.root) above) [])
            (not_root r.0 r.1 directory r.3)) ∙ reverse-cons (own_name nat_eq files directory)
            (map (own_name nat_eq files) (before_first (nat_eq files.tree.root) above))
            ∙ ap (λ l. l ++ own_name nat_eq files directory ∷ []) rest.1
            ∙ ap (λ n. names_to files.tree steps r.0 r.2 ++ n ∷ []) (own_is r.0 r.1 directory r.3 r.4),
      )

  reached_of : (path : List (List ℕ)) (directory : ℕ) → led files.tree files.tree.root path ≡ Some directory
      → IsDirectory files.tree directory → (steps : ℕ) × ReachedIn files.tree steps directory
  reached_of [] directory e d = (zero, sym (same_Some files.tree.root directory e))
  reached_of (word ∷ path) directory e d =
      let last = last_step files.tree files.tree.root (word ∷ path) directory (not_empty word path) e in
      let reached = is_reached_in files tree last.directory last.name directory last.entry in
      (suc reached.0, (last.directory, last.name, reached.1, last.entry, d))

  -- the path of a directory is found
  pub path_down_is : (path : List (List ℕ)) (directory : ℕ) → led files.tree files.tree.root path ≡ Some directory
      → IsDirectory files.tree directory → path_down nat_eq files files.tree.root directory ≡ Some path
  path_down_is path directory e d =
      let reached = reached_of path directory e d in
      let names = up_names _ reached.0 directory reached.1 (depth_bound files tree numbers reached.0 _ reached.1) in
      ap (λ b. when b (reverse
      (map (own_name nat_eq files) (before_first (nat_eq files.tree.root) (ancestors nat_eq files directory))))) names.0
      ∙ ap Some (names.1 ∙ one_path _ tree _ _ path directory (names_lead files.tree reached.0 directory reached.1) e d)

-- so the path of a name in a directory
pub path_to_is : (merge : Merge ℕ) → IsTree merge.files.tree → ListsNumbers nat_eq merge.files
    → (path : List (List ℕ)) (directory : ℕ) (name : List ℕ)
    → led merge.files.tree merge.files.tree.root path ≡ Some directory → IsDirectory merge.files.tree directory
    → path_to nat_eq merge directory name ≡ path ++ name ∷ []
path_to_is merge tree numbers path directory name e d =
    ap (λ o. unwrap_or o [] ++ name ∷ []) (path_down_is merge.files tree numbers path directory e d)

-- what is shown at a longer path is shown under a directory
pub shown_longer : (layers : List (OpenLayer ℕ)) → AreOpen layers
    → (depth : ℕ) (rest path : List (List ℕ)) (word : List ℕ) (seen : Shown ℕ)
    → shown_from depth layers (path ++ word ∷ rest) ≡ Some seen → ShowsDirectory depth layers path
shown_longer layers are_open depth [] path word seen e = shown_in_directory layers are_open depth path word seen e
shown_longer layers are_open depth (next ∷ rest) path word seen e =
    let above = shown_longer layers are_open depth rest (path ++ word ∷ []) next seen
    (ap (shown_from depth layers) (append_assoc path (word ∷ []) (next ∷ rest)) ∙ e) in
    shown_in_directory layers are_open depth path word _ above.is

-- a directory that lower layers show is one that all layers show below the first
pub directory_below_top : (top : OpenLayer ℕ) (lowers : List (OpenLayer ℕ)) (path : List (List ℕ))
    → ShowsDirectory 1 lowers path → is_directory_shown (top ∷ lowers) (shown_from 1 lowers path) ≡ true
directory_below_top top lowers path shows = ap (is_directory_shown (top ∷ lowers)) shows.is
    ∙ ap (λ n. holds_of (λ layer. is_directory_node (layer.tree.node shows.object)) (slice_get (top ∷ lowers) n))
    (let h : 1 + shows.place ≡ suc shows.place = omega arith in h)
    ∙ ap (holds_of (λ layer. is_directory_node (layer.tree.node shows.object))) shows.there ∙ shows.directory
