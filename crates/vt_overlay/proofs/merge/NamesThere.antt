-- Whether layers show a name: whether merged directories show something under one that they have.
use Rattle.std.proofs.Common.{◌≡◌, ◌∙◌, ◌++◌, ◌∷◌, ◌||◌, [], Bool, List, ap, false, flat_map, is_some, not, refl, sym, true, true≢false, ℕ, is_eq, arith}
use Rattle.vt_spec.proofs.Common.{OpenLayer, is_empty_list, list_any, list_any-append, names_shown, nat_list_cmp_total, shown, tied_itself, common_steps}
use Rattle.vt_spec.proofs.Nodes.{same_name}
use Rattle.vt_laws_trees.specs.Layers.Layers.Directories.{shown_in}
use Rattle.vt_fs.specs.FilesystemsValue.{Filesystems}
use Rattle.vt_overlay.specs.Merge.LayerValue.{names_had, own_names, placed_views}
use Rattle.vt_overlay.specs.declared.merge.layers.MergedDirectory.{MergedDirectory}
use Rattle.vt_overlay.proofs.merge.NamesHad.{is_name, shown_is_had}
use Rattle.vt_overlay.proofs.merge.NamesSorted.{name_is_shown}
use Rattle.vt_laws_trees.proofs.layers.directories.Later.{any_found}

any_flat : {A B : Type 0} (test : B → Bool) (f : A → List B) (xs : List A)
    → list_any test (flat_map f xs) ≡ list_any (λ x. list_any test (f x)) xs
any_flat test f [] = refl
any_flat test f (x ∷ xs) = cc (list_any-append test (f x) (flat_map f xs), any_flat test f xs)

-- a name that passes is one of those that do
passes_there : (test : List ℕ → Bool) (name : List ℕ) (names : List (List ℕ)) → test name ≡ true
    → list_any (is_name name) names ≡ true → list_any test names ≡ true
passes_there test name [] passes there = absurd (true≢false (sym there))
passes_there test name (first ∷ names) passes there =
    by (is_name name first) refl there (passes_there test name names passes)
  where
    later : (b : Bool) → list_any test names ≡ true → (b || list_any test names) ≡ true
    later b rest = grind (arith, common_steps)

    by : (b : Bool) → is_name name first ≡ b → (b || list_any (is_name name) names) ≡ true
        → (list_any (is_name name) names ≡ true → list_any test names ≡ true)
        → (test first || list_any test names) ≡ true
    by true e there rest = ap (λ b. b || list_any test names) (ap test (sym (same_name name first e)) ∙ passes)
    by false e there rest = later (test first) (rest there)

first_there : (name : List ℕ) (names : List (List ℕ)) → list_any (is_name name) (name ∷ names) ≡ true
first_there name names = ap (λ o. is_eq o || list_any (is_name name) names) (tied_itself nat_list_cmp_total name)

-- whether merged directories show something under a name of one of them
abbrev pub shows_under : Filesystems → List MergedDirectory → List ℕ → Bool
shows_under fs merged name = is_some (shown_in (placed_views fs merged) (name ∷ []))

abbrev pub shows_own : Filesystems → List MergedDirectory → MergedDirectory → Bool
shows_own fs merged top = list_any (shows_under fs merged) (own_names fs top)

module _ (fs : Filesystems) (merged : List MergedDirectory) (layers : List (OpenLayer ℕ)) (path : List (List ℕ))
    (is_merged : (rest : List (List ℕ)) → ¬ (rest ≡ []) → shown_in (placed_views fs merged) rest
    ≡ shown layers (path ++ rest)) where
  abbrev shows : List ℕ → Bool
  shows name = shows_under fs merged name

  shows_is : (name : List ℕ) → shows name ≡ list_any (is_name name) (names_shown layers path)
  shows_is name = ap is_some (is_merged (name ∷ []) (λ empty. cc)) ∙ sym (name_is_shown layers path name)

  pub has_names_if : list_any (shows_own fs merged) merged ≡ true → not (is_empty_list (names_shown layers path)) ≡ true
  has_names_if any = grind (arith, common_steps, any_found, shows, shows_is)

  pub has_none_if : list_any (shows_own fs merged) merged ≡ false
      → not (is_empty_list (names_shown layers path)) ≡ false
  has_none_if none = by (names_shown layers path) refl
    where
      by : (names : List (List ℕ)) → names_shown layers path ≡ names → not (is_empty_list names) ≡ false
      by [] e = refl
      by (name ∷ names) e =
          let here : shows name ≡ true = shows_is name ∙ ap (list_any (is_name name)) e ∙ first_there name names in
          cc (
            passes_there shows name (names_had fs merged) here (shown_is_had fs merged name here),
            any_flat shows
                (own_names fs) merged,
            none,
          )
