-- Each path at which something may be shown is gone through once.
use Rattle.std.proofs.Common.{List, T, [], ap, arith, drop, flat_map, inl, inr, length, map, refl, subst, suc, sym, zero, ℕ, ◌+◌, ◌++◌, ◌∙◌, ◌∷◌, ◌≡◌, ◌≢◌, append-nil, length-append, is_lt, get_or}
use Rattle.vt_spec.proofs.Common.{View, names_at, nat_list_cmp_total, tied_itself}
use Rattle.vt_laws_trees.proofs.layers.directories.Order.{NameBelow, Pairwise, from_flat_map, names_rise, names_sorted, pairwise_append, pairwise_filter}
use Rattle.vt_laws_trees.proofs.layers.layers.ShownDirectories.{append_assoc}
use Rattle.vt_laws_trees.proofs.layers.layers.ShownObjects.{Among}
use Rattle.vt_spec.specs.Machine.Views.{names_shown, paths_from}

pub pairwise_so : {A : Type 0} (R S : A → A → Type 0) → ((a b : A) → R a b → S a b) → (list : List A) → Pairwise R list
    → Pairwise S list
pairwise_so R S gives [] p = tt
pairwise_so R S gives (first ∷ list) p = (λ b m. gives first b (p.0 b m), pairwise_so R S gives list p.1)

abbrev pub Differ : {A : Type 0} → A → A → Type 0
Differ a b = a ≢ b

names_differ : (a b : List ℕ) → NameBelow a b → a ≢ b
names_differ a b below same =
    subst T (ap is_lt (tied_itself nat_list_cmp_total a)) (subst (λ n. NameBelow a n) (sym same) below)

-- a path is none of those under it
under_differ : (base : List (List ℕ)) (name : List ℕ) (rest : List (List ℕ)) → base ≢ base ++ name ∷ rest
under_differ base name rest same =
    let longer : length base ≡ length base + length (name ∷ rest) = ap length same ∙ length-append base (name ∷ rest) in
    let some : length (name ∷ rest) ≡ suc (length rest) = refl in
    let no : ⊥ = omega (arith, longer, some) in no

-- nor is what is under a name under another
beside_differ : (base : List (List ℕ)) (a b : List ℕ) (rest other : List (List ℕ)) → a ≢ b
    → base ++ a ∷ rest ≢ base ++ b ∷ other
beside_differ [] a b rest other apart same = apart (ap (λ l. get_or l 0 a) same)
beside_differ (first ∷ base) a b rest other apart same = beside_differ base a b rest other apart (ap (drop 1) same)

module _ (views : List (View ℕ)) where
  paths_under : (depth : ℕ) (base path : List (List ℕ)) → Among (paths_from depth views base) path
      → (rest : List (List ℕ)) × (base ++ rest ≡ path)
  paths_under zero base path (inl e) = ([], append-nil base ∙ e)
  paths_under zero base path (inr a) = absurd a
  paths_under (suc depth) base path (inl e) = ([], append-nil base ∙ e)
  paths_under (suc depth) base path (inr a) =
      let found = from_flat_map (λ name. paths_from depth views (base ++ name ∷ [])) (names_shown views base) path a in
      let under = paths_under depth (base ++ found.0 ∷ []) path found.2 in
      (found.0 ∷ under.0, sym (append_assoc base (found.0 ∷ []) under.0) ∙ under.1)

  under_name : (depth : ℕ) (base : List (List ℕ)) (name : List ℕ) (path : List (List ℕ))
      → Among (paths_from depth views (base ++ name ∷ [])) path → (rest : List (List ℕ)) × (base ++ name ∷ rest ≡ path)
  under_name depth base name path a =
      let under = paths_under depth (base ++ name ∷ []) path a in
      (under.0, sym (append_assoc base (name ∷ []) under.0) ∙ under.1)

  -- no path stands in the list twice
  pub paths_differ : (depth : ℕ) (base : List (List ℕ)) → Pairwise Differ (paths_from depth views base)
  paths_differ zero base = (λ b a. absurd a, tt)
  paths_differ (suc depth) base = (
    λ path a.
        let found = from_flat_map (λ name. paths_from depth views (base ++ name ∷ []))
        (names_shown views base) path a in
        let under = under_name depth base found.0 path found.2 in
        subst (Differ base) under.1 (under_differ base found.0 under.0),
    each (λ name. paths_differ depth (base ++ name ∷ [])) (names_shown views base)
        (pairwise_so NameBelow Differ names_differ (names_shown views base)
        (pairwise_filter NameBelow _ (map (λ entry. entry.0) (names_at views base))
        (names_rise (names_at views base) (names_sorted views base)))),
  )
    where
      each : ((name : List ℕ) → Pairwise Differ (paths_from depth views (base ++ name ∷ [])))
          → (names : List (List ℕ)) → Pairwise Differ names
          → Pairwise Differ (flat_map (λ name. paths_from depth views (base ++ name ∷ [])) names)
      each differ [] p = tt
      each differ (name ∷ names) p = pairwise_append Differ (paths_from depth views (base ++ name ∷ []))
          (flat_map (λ name. paths_from depth views (base ++ name ∷ [])) names) (differ name) (each differ names p.1)
          (λ path other a b.
          let one = under_name depth base name path a in
          let found = from_flat_map (λ name. paths_from depth views (base ++ name ∷ [])) names other b in
          let two = under_name depth base found.0 other found.2 in
          subst (λ q. Differ q other) one.1 (subst (Differ (base ++ name ∷ one.0)) two.1
          (beside_differ base name found.0 one.0 two.0 (p.0 found.0 found.1))))
