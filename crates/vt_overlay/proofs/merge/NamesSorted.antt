-- Names that are sorted, each once, are those that layers show.
use Rattle.std.proofs.Common.{◌≡◌, ◌∙◌, ◌++◌, ◌∷◌, ◌||◌, [], Bool, List, None, Option, Ordering, Some, T, ap, is_some, map, nat_eq, refl, subst, sym, true, true≢false, ℕ, Less, filter, IsPermutation, IsSorted, nat_cmp, arith}
use Rattle.vt_spec.proofs.Common.{AllByRecursion, Entries, IsTotalOrder, OpenLayer, Shown, T_and, below_all, is_some-find, is_sorted, is_sorted-where_key, list_any, list_any-IsPermutation, name_cmp, names_at, names_shown, pointwise, same_entries, same_name-Equal, same_truth, shown, sorted_head, sorted_tail, texts_ties, view_of, common_steps}
use Rattle.std.specs.declared.vec.Vec.{Vec}
use Rattle.std.specs.Cmp.Lexicographic.{slice_cmp}
use Rattle.std.proofs.lemmas.Cmp.{nat_list_cmp_total}
use Rattle.std.proofs.lemmas.List.Kept.{IsStrictlySortedBy-dedup}
use Rattle.std.proofs.lemmas.Map.Views.{Contains-from_any}
use Rattle.std.specs.FinMap.Entries.{where_key}
use Rattle.std.specs.List.{dedup, dedup_from}
use Rattle.std.specs.List.Sorted.{IsStrictlySortedBy}
use Rattle.vt_spec.proofs.Nodes.{same_name}
use Rattle.vt_laws_trees.specs.Layers.Layers.Directories.{shown_in}
use Rattle.vt_laws_trees.proofs.layers.directories.Order.{names_sorted}
use Rattle.vt_laws_trees.proofs.layers.layers.ShownAtPath.{computed}
use Rattle.vt_laws_trees.proofs.layers.layers.ShownFronts.{list_any_of_map}
use Rattle.vt_laws_trees.proofs.layers.layers.ShownNames.{name_found, names_are_those_shown}
use Rattle.vt_fs.specs.FilesystemsValue.{Filesystems}
use Rattle.vt_overlay.specs.Merge.LayerValue.{placed_views}
use Rattle.vt_overlay.specs.declared.merge.layers.MergedDirectory.{MergedDirectory}
use Rattle.vt_overlay.proofs.merge.NamesHad.{is_name}

-- names alone, as entries
abbrev marked : List (List ℕ) → Entries (Unit {0})
marked names = map (λ name. (name, tt)) names

names-marked : (names : List (List ℕ)) → map (λ e. e.0) (marked names) ≡ names
names-marked [] = refl
names-marked (name ∷ names) = ap (λ rest. name ∷ rest) (names-marked names)

same_presence : (a b : Option (Unit {0})) → is_some a ≡ is_some b → a ≡ b
same_presence a b e = grind (arith, common_steps)

-- the names of the entries that pass
names-where_key : (test : List ℕ → Bool) (entries : Entries (Unit {0}))
    → map (λ e. e.0) (where_key name_cmp test entries) ≡ filter test (map (λ e. e.0) entries)
names-where_key test [] = refl
names-where_key test (entry ∷ entries) = grind (arith, common_steps, names-where_key test entries, test entry.0)

-- sorted names with the names of sorted entries are the names of those
same_names : (names : List (List ℕ)) (entries : Entries (Unit {0})) → T (is_sorted name_cmp (marked names))
    → T (is_sorted name_cmp entries)
    → ((q : List ℕ) → list_any (is_name q) names ≡ list_any (is_name q) (map (λ e. e.0) entries))
    → names ≡ map (λ e. e.0) entries
same_names names entries p q alike = sym (names-marked names) ∙ ap (map (λ e. e.0))
    (same_entries name_cmp nat_list_cmp_total same_name-Equal (marked names) entries p q (λ name. same_presence _ _
    (is_some-find name_cmp name (marked names) ∙ ap (list_any (is_name name)) (names-marked names) ∙ alike name
    ∙ sym (is_some-find name_cmp name entries))))

-- a name is among those that are shown if something is shown there
pub name_is_shown : (layers : List (OpenLayer ℕ)) (path : List (List ℕ)) (name : List ℕ)
    → list_any (is_name name) (names_shown layers path) ≡ is_some (shown layers (path ++ name ∷ []))
name_is_shown layers path name = same_truth _ _ (λ has.
    let seen = (names_are_those_shown layers path name).0
    (Contains-from_any same_name name (names_shown layers path) has)
    in ap is_some ((computed layers (path ++ name ∷ []) seen.0).1 seen.1)) (by (shown layers (path ++ name ∷ [])) refl)
  where
    by : (o : Option (Shown ℕ)) → shown layers (path ++ name ∷ []) ≡ o → is_some o ≡ true
        → list_any (is_name name) (names_shown layers path) ≡ true
    by None e h = absurd (true≢false (sym h))
    by (Some seen) e h =
        let has = (names_are_those_shown layers path name).1 (seen, (computed layers (path ++ name ∷ []) seen).0 e) in
        name_found name (names_shown layers path) has.0 has.1 has.2

-- what comes twice in a row is once as much there
module _ {X : Type 0} (same : X → X → Bool) (hit : X → Bool) (alike : (x y : X) → same x y ≡ true → hit x ≡ hit y)
  where
    twice : (a b rest : Bool) → a ≡ b → (a || rest) ≡ (a || (b || rest))
    twice a b rest e = grind (arith, common_steps)

    any_dedup_from : (k : X) (xs : List X) → list_any hit (dedup_from same k xs) ≡ (hit k || list_any hit xs)
    any_dedup_from k [] = refl
    any_dedup_from k (x ∷ xs) = grind (arith, common_steps, any_dedup_from k xs, any_dedup_from x xs, same x k)

    any_dedup : (xs : List X) → list_any hit (dedup same xs) ≡ list_any hit xs
    any_dedup xs = grind (arith, common_steps, any_dedup_from)

module _ {A : Type 0} where
  abbrev key_cmp : Vec ℕ A → Vec ℕ A → Ordering
  key_cmp x y = slice_cmp nat_cmp x.items y.items

  abbrev key_eq : Vec ℕ A → Vec ℕ A → Bool
  key_eq x y = pointwise nat_eq x.items y.items

  abbrev bytes_of : List (Vec ℕ A) → List (List ℕ)
  bytes_of keys = map (λ key. key.items) keys

  key_cmp_total : IsTotalOrder key_cmp
  key_cmp_total = record {
    antisymm = λ x y. nat_list_cmp_total.antisymm x.items y.items;
    trans = λ x y z. nat_list_cmp_total.trans x.items y.items z.items;
    congr = λ x y z. nat_list_cmp_total.congr x.items y.items z.items;
  }

  below_all-bytes_of : (x : Vec ℕ A) (keys : List (Vec ℕ A)) → AllByRecursion (λ y. key_cmp x y ≡ Less) keys
      → T (below_all name_cmp x.items (marked (bytes_of keys)))
  below_all-bytes_of x [] h = tt
  below_all-bytes_of x (key ∷ keys) h = grind (arith, common_steps, below_all-bytes_of x keys h.1)

  is_sorted-bytes_of : (keys : List (Vec ℕ A)) → IsStrictlySortedBy key_cmp keys
      → T (is_sorted name_cmp (marked (bytes_of keys)))
  is_sorted-bytes_of [] h = tt
  is_sorted-bytes_of (key ∷ keys) h = T_and _ _ (below_all-bytes_of key keys (sorted_head key_cmp key keys h))
      (is_sorted-bytes_of keys (sorted_tail key_cmp key keys h))

  module _ (fs : Filesystems) (merged : List MergedDirectory) (layers : List (OpenLayer ℕ)) (path : List (List ℕ))
      (kept sorted once : List (Vec ℕ A)) where
    abbrev test : List ℕ → Bool
    test name = is_some (shown layers (path ++ name ∷ []))

    abbrev shows : List ℕ → Bool
    shows name = is_some (shown_in (placed_views fs merged) (name ∷ []))

    abbrev hit : List ℕ → Vec ℕ A → Bool
    hit name key = is_name name key.items

    module _ (kept_shown : (name : List ℕ) → list_any (hit name) kept ≡ shows name)
        (permuted : IsPermutation kept sorted) (in_order : IsSorted key_cmp sorted)
        (deduped : once ≡ dedup key_eq sorted)
        (is_merged : (rest : List (List ℕ)) → ¬ (rest ≡ []) → shown_in (placed_views fs merged) rest
        ≡ shown layers (path ++ rest)) where
      -- what is left has the names that are shown
      has_name : (name : List ℕ) → list_any (is_name name) (bytes_of once) ≡ shows name
      has_name name = list_any_of_map (is_name name) (λ (key : Vec ℕ A). key.items) once
          ∙ ap (list_any (hit name)) deduped ∙ any_dedup key_eq (hit name)
          (λ x y e. ap (is_name name) (same_name x.items y.items (sym (texts_ties x.items y.items) ∙ e))) sorted
          ∙ sym (list_any-IsPermutation (hit name) kept sorted permuted) ∙ kept_shown name

      pub names_are : bytes_of once ≡ names_shown layers path
      names_are = same_names (bytes_of once) (where_key name_cmp test (names_at (map view_of layers) path))
          (is_sorted-bytes_of once (subst (IsStrictlySortedBy key_cmp) (sym deduped)
          (IsStrictlySortedBy-dedup key_cmp_total (λ x y. texts_ties x.items y.items) sorted in_order)))
          (is_sorted-where_key name_cmp test (names_at (map view_of layers) path)
          (names_sorted (map view_of layers) path)) (λ name. has_name name
          ∙ ap is_some (is_merged (name ∷ []) (λ empty. cc)) ∙ sym (name_is_shown layers path name)
          ∙ ap (list_any (is_name name)) (sym (names-where_key test (names_at (map view_of layers) path))))
          ∙ names-where_key test (names_at (map view_of layers) path)
