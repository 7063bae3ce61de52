-- In an overlay whose tree is what its layers show: the root has an object in the upper layer, and so has each
-- directory that has an entry for an upper object; what lies below has one name.
use Rattle.std.proofs.Common.{arith, ◌≡◌, refl, sym, ap, ◌∙◌, true≢false, ℕ, zero, suc, nat_eq, eqb-true, Bool, true, false, cond, ◌||◌, List, [], ◌∷◌, ◌++◌, map, Option, Some, None, is_some, option_and_then, filter_map, find, option_map}
use Rattle.vt_spec.proofs.Common.{Entries, FileTree, IsDirectory, ListsNumbers, OpenLayer, Real, Shown, Tree, Upper, a_name, at_path, common_steps, cons_option, directory_no_whiteout, directory_used, entry_at, entry_to, first_of_list, led, led-append, list_any, merged_at, name_in, none_is_some, real_object, same_Some, shown, upper_object, without_last}
use Rattle.vt_laws_trees.specs.Layers.Layers.Shown.{IsShown}
use Rattle.vt_laws_trees.proofs.layers.layers.ShownAtPath.{computed}
use Rattle.vt_laws_trees.proofs.layers.layers.ShownNames.{last_name}
use Rattle.vt_laws_trees.proofs.layers.layers.UpperLine.{ReachedIn, has_entries}

-- names lead to what is reached
pub way_to : (tree : Tree ℕ) (steps directory : ℕ) → ReachedIn tree steps directory
    → (path : List (List ℕ)) × (led tree tree.root path ≡ Some directory)
way_to tree zero directory r = ([], ap Some (sym r))
way_to tree (suc steps) directory r =
    let before = way_to tree steps r.0 r.2 in
    (before.0 ++ r.1 ∷ [], led-append tree tree.root before.0 r.1 r.0 directory before.1 r.3)

-- a path with one name more, without it
pub without_last_of_longer : (path : List (List ℕ)) (name : List ℕ) → without_last (path ++ name ∷ []) ≡ path
without_last_of_longer [] name = refl
without_last_of_longer (first ∷ []) name = refl
without_last_of_longer (first ∷ second ∷ path) name = ap (λ p. first ∷ p) (without_last_of_longer (second ∷ path) name)

-- an object with an entry that leads to it has a name
pub has_a_name : (files : FileTree ℕ) → ListsNumbers nat_eq files → (directory : ℕ) (name : List ℕ) (object : ℕ)
    → entry_at files.tree directory name ≡ Some object → is_some (a_name nat_eq files object) ≡ true
has_a_name files numbers directory name object e = searched files.numbers (numbers directory
    ∙ directory_used files.tree directory (has_entries files.tree directory name object e))
  where
    found : (entries : Entries ℕ) → list_any (nat_eq object) (map (λ entry. entry.1) entries) ≡ true
        → is_some (find (λ entry. nat_eq object entry.1) entries) ≡ true
    found [] e = absurd (true≢false (sym e))
    found (entry ∷ entries) e = by (nat_eq object entry.1) e (found entries)
      where
        by : (b : Bool) → (b || list_any (nat_eq object) (map (λ entry. entry.1) entries)) ≡ true
            → (list_any (nat_eq object) (map (λ entry. entry.1) entries) ≡ true
            → is_some (find (λ entry. nat_eq object entry.1) entries) ≡ true)
            → is_some (cond b (Some entry) (find (λ entry. nat_eq object entry.1) entries)) ≡ true
        by true e rest = refl
        by false e rest = rest e

    mapped : {A B : Type 0} (f : A → B) (o : Option A) → is_some (option_map f o) ≡ is_some o
    mapped f None = refl
    mapped f (Some a) = refl

    here : is_some (name_in nat_eq files object directory) ≡ true
    here = mapped (λ entry. (directory, entry.0)) _ ∙ found _ (entry_to files.tree directory name object e)

    first : (o : Option (ℕ × List ℕ)) (rest : List (ℕ × List ℕ)) → (is_some o ≡ true)
        → is_some (first_of_list (cons_option o rest)) ≡ true
    first None rest h = absurd (true≢false (sym h))
    first (Some name) rest h = refl

    later : (o : Option (ℕ × List ℕ)) (rest : List (ℕ × List ℕ)) → is_some (first_of_list rest) ≡ true
        → is_some (first_of_list (cons_option o rest)) ≡ true
    later None rest h = h
    later (Some name) rest h = refl

    searched : (list : List ℕ) → list_any (nat_eq directory) list ≡ true
        → is_some (first_of_list (filter_map (name_in nat_eq files object) list)) ≡ true
    searched [] e = absurd (true≢false (sym e))
    searched (number ∷ list) e = grind (arith, common_steps, first, eqb-true, here, later, searched list)

-- Layers with an upper one on top
module _ (top : OpenLayer ℕ) (lower : List (OpenLayer ℕ)) where
  abbrev pub real_at : List (List ℕ) → Option (Real ℕ)
  real_at path = option_map (λ object. real_object true object.seen.layer object) (merged_at (top ∷ lower) path)

  -- a directory of the upper layer is shown
  pub upper_is_real : (path : List (List ℕ)) (directory : ℕ) → at_path top path ≡ Some directory
      → IsDirectory top.tree directory → real_at path ≡ Some (Upper directory)
  upper_is_real path directory e d = grind (arith, common_steps, directory_no_whiteout)

  -- what the upper layer shows at a path with one name more is in a directory of the upper layer
  pub real_is_upper : (path : List (List ℕ)) (name : List ℕ)
      → is_some (upper_object (real_at (path ++ name ∷ []))) ≡ true → is_some (upper_object (real_at path)) ≡ true
  real_is_upper path name h = by (shown (top ∷ lower) (path ++ name ∷ [])) refl h
    where
      in_upper : (o : Option ℕ) → at_path top path ≡ o → (object : ℕ)
          → option_and_then (λ directory. entry_at top.tree directory name) o ≡ Some object
          → is_some (upper_object (real_at path)) ≡ true
      in_upper None e object has = none_is_some object has
      in_upper (Some directory) e object has = ap (λ o. is_some (upper_object o))
          (upper_is_real path directory e (has_entries top.tree directory name object has))

      seen_by : (layer object : ℕ) → IsShown (top ∷ lower) (path ++ name ∷ [])
          (record { layer = layer; object = object }) → is_some (upper_object (Some (real_object true layer
          (record { path = path ++ name ∷ []; seen = record { layer = layer; object = object } })))) ≡ true
          → is_some (upper_object (real_at path)) ≡ true
      seen_by zero object is h = grind (arith, common_steps, in_upper, last_name, same_Some)
      seen_by (suc layer) object is h = absurd (true≢false (sym h))

      by : (o : Option (Shown ℕ)) → shown (top ∷ lower) (path ++ name ∷ []) ≡ o
          → is_some (upper_object (option_map (λ object. real_object true object.seen.layer object)
          (option_map (λ seen. record { path = path ++ name ∷ []; seen = seen }) o))) ≡ true
          → is_some (upper_object (real_at path)) ≡ true
      by None e h = absurd (true≢false (sym h))
      by (Some seen) e h = seen_by seen.layer seen.object ((computed (top ∷ lower) (path ++ name ∷ []) seen).0 e) h

  -- what lies below is named by the path where it is shown
  pub below_is_at : (path other : List (List ℕ)) → is_some (shown (top ∷ lower) path) ≡ true
      → is_some (upper_object (real_at path)) ≡ false → real_at path ≡ real_at other → path ≡ other
  below_is_at path other there h same = grind (arith, common_steps, true≢false, none_is_some)
