-- The names of a merged directory stand in their order.
use Rattle.std.proofs.Common.{arith, ◌≡◌, ◌⊎◌, inl, inr, ⊎_elim, refl, sym, ap, subst, ◌∙◌, ℕ, zero, suc, nat_eq, Bool, true, T, List, [], ◌∷◌, ◌++◌, filter, flat_map, map, Option, Some, filter_map, is_lt, append-nil}
use Rattle.vt_spec.proofs.Common.{Entries, Fresh, Merged, OpenLayer, T_and, T_and_left, T_and_right, View, below_all, common_steps, entries_in, entry_in_directory, folded, is_sorted, is_sorted-put, merged_at, merged_objects, name_cmp, names_at, nat_list_cmp_total, node_led, none_is_some, passes, same_Some, tied_itself, view_of, with_entry, ⊤}
use Rattle.vt_spec.specs.Machine.Views.{names_shown, paths_from}
use Rattle.vt_laws_trees.proofs.layers.layers.ShownDirectories.{append_assoc}
use Rattle.vt_laws_trees.proofs.layers.layers.ShownMerged.{CanMerge, entry_is_here}
use Rattle.vt_laws_trees.proofs.layers.layers.ShownObjects.{Among, from_filter_map}

module _ {A : Type 0} where
  -- each stands so to all that come after it
  abbrev pub Pairwise : (A → A → Type 0) → List A → Type 0
  Pairwise R [] = ⊤
  Pairwise R (a ∷ list) = ((b : A) → Among list b → R a b) × Pairwise R list

  pub from_append : (list other : List A) (a : A) → Among (list ++ other) a → Among list a ⊎ Among other a
  from_append [] other a among = inr among
  from_append (first ∷ list) other a (inl e) = inl (inl e)
  from_append (first ∷ list) other a (inr among) =
      ⊎_elim (λ l. inl (inr l)) (λ r. inr r) (from_append list other a among)

  pub pairwise_append : (R : A → A → Type 0) (list other : List A) → Pairwise R list → Pairwise R other
      → ((a b : A) → Among list a → Among other b → R a b) → Pairwise R (list ++ other)
  pairwise_append R [] other p q across = q
  pairwise_append R (first ∷ list) other p q across =
      grind (arith, common_steps, from_append, pairwise_append R list other p.1 q)

  pub among_filtered : (test : A → Bool) (list : List A) (a : A) → Among (filter test list) a → Among list a
  among_filtered test [] a among = absurd among
  among_filtered test (first ∷ list) a among = grind (arith, common_steps, among_filtered test list a)

  pub pairwise_filter : (R : A → A → Type 0) (test : A → Bool) (list : List A) → Pairwise R list
      → Pairwise R (filter test list)
  pairwise_filter R test [] p = tt
  pairwise_filter R test (first ∷ list) p = grind (arith, common_steps, pairwise_filter R test list p.1, among_filtered)

module _ {A B : Type 0} where
  pub from_flat_map : (f : A → List B) (list : List A) (b : B) → Among (flat_map f list) b
      → (a : A) × Among list a × Among (f a) b
  from_flat_map f [] b among = absurd among
  from_flat_map f (first ∷ list) b among = ⊎_elim (λ l. (first, inl refl, l))
      (λ r. let found = from_flat_map f list b r in (found.0, inr found.1, found.2)) (from_append (f first) _ b among)

  pub pairwise_filter_map : (R : A → A → Type 0) (S : B → B → Type 0) (f : A → Option B)
      → ((a b : A) (x y : B) → f a ≡ Some x → f b ≡ Some y → R a b → S x y) → (list : List A) → Pairwise R list
      → Pairwise S (filter_map f list)
  pairwise_filter_map R S f kept [] p = tt
  pairwise_filter_map R S f kept (first ∷ list) p =
      grind (arith, common_steps, pairwise_filter_map R S f kept list p.1, from_filter_map)

-- Names in their order
abbrev pub NameBelow : List ℕ → List ℕ → Type 0
NameBelow a b = T (is_lt (name_cmp a b))

not_below_itself : {P : Type 0} (name : List ℕ) → NameBelow name name → P
not_below_itself name h = absurd (subst T (ap is_lt (tied_itself nat_list_cmp_total name)) h)

module _ {X : Type 0} where
  all_below : (name : List ℕ) (entries : Entries X) → T (below_all name_cmp name entries) → (other : List ℕ)
      → Among (map (λ e. e.0) entries) other → NameBelow name other
  all_below name [] h other among = absurd among
  all_below name (entry ∷ entries) h other (inl e) = subst (NameBelow name) e (T_and_left _ _ h)
  all_below name (entry ∷ entries) h other (inr among) = all_below name entries (T_and_right _ _ h) other among

  pub names_rise : (entries : Entries X) → T (is_sorted name_cmp entries) → Pairwise NameBelow (map (λ e. e.0) entries)
  names_rise [] h = tt
  names_rise (entry ∷ entries) h =
      grind (arith, common_steps, all_below, names_rise entries (T_and_right (below_all name_cmp entry.0 entries) _ h))

  below_each : (name : List ℕ) (entries : Entries X)
      → ((entry : List ℕ × X) → Among entries entry → NameBelow name entry.0) → T (below_all name_cmp name entries)
  below_each name [] h = tt
  below_each name (entry ∷ entries) h = T_and _ _ (h entry (inl refl)) (below_each name entries (λ e a. h e (inr a)))

  pub rising_sorted : (entries : Entries X) → Pairwise (λ a b. NameBelow a.0 b.0) entries
      → T (is_sorted name_cmp entries)
  rising_sorted [] p = tt
  rising_sorted (entry ∷ entries) p = T_and _ _ (below_each entry.0 entries p.0) (rising_sorted entries p.1)

put_each : (entries : Entries ℕ) (names : Entries (Unit {0})) → T (is_sorted name_cmp names)
    → T (is_sorted name_cmp (folded (λ names entry. with_entry entry.0 tt names) names entries))
put_each [] names h = h
put_each (entry ∷ entries) names h = put_each entries _ (is_sorted-put name_cmp nat_list_cmp_total entry.0 tt names h)

pub names_sorted : (views : List (View ℕ)) (path : List (List ℕ)) → T (is_sorted name_cmp (names_at views path))
names_sorted [] path = tt
names_sorted (view ∷ lower) path =
    put_each (entries_in (node_led view path)) (names_at lower path) (names_sorted lower path)

-- Paths in their order: one before those under it, and what is under a name before what is under a later one
abbrev PathBelow : List (List ℕ) → List (List ℕ) → Type 0
PathBelow [] [] = ⊥
PathBelow [] (b ∷ bs) = ⊤
PathBelow (a ∷ front) [] = ⊥
PathBelow (a ∷ front) (b ∷ other) = NameBelow a b ⊎ ((a ≡ b) × PathBelow front other)

below_longer : (base : List (List ℕ)) (name : List ℕ) (rest : List (List ℕ)) → PathBelow base (base ++ name ∷ rest)
below_longer [] name rest = tt
below_longer (first ∷ base) name rest = inr (refl, below_longer base name rest)

below_beside : (base : List (List ℕ)) (a b : List ℕ) (rest other : List (List ℕ)) → NameBelow a b
    → PathBelow (base ++ a ∷ rest) (base ++ b ∷ other)
below_beside [] a b rest other h = inl h
below_beside (first ∷ base) a b rest other h = inr (refl, below_beside base a b rest other h)

last_parent : (base : List (List ℕ)) (a b : List ℕ) → PathBelow (base ++ a ∷ []) (base ++ b ∷ []) → NameBelow a b
last_parent [] a b (inl h) = h
last_parent [] a b (inr h) = absurd h.1
last_parent (first ∷ base) a b (inl h) = not_below_itself first h
last_parent (first ∷ base) a b (inr h) = last_parent base a b h.1

module _ (views : List (View ℕ)) where
  abbrev Under : List (List ℕ) → List (List ℕ) → Type 0
  Under base path = (rest : List (List ℕ)) × (base ++ rest ≡ path)

  -- the paths from one on are under it
  paths_under : (depth : ℕ) (base path : List (List ℕ)) → Among (paths_from depth views base) path → Under base path
  paths_under zero base path (inl e) = ([], append-nil base ∙ e)
  paths_under zero base path (inr a) = absurd a
  paths_under (suc depth) base path (inl e) = ([], append-nil base ∙ e)
  paths_under (suc depth) base path (inr a) =
      let found = from_flat_map (λ name. paths_from depth views (base ++ name ∷ [])) (names_shown views base) path a in
      let under = paths_under depth (base ++ found.0 ∷ []) path found.2 in
      (found.0 ∷ under.0, sym (append_assoc base (found.0 ∷ []) under.0) ∙ under.1)

  under_name : (depth : ℕ) (base : List (List ℕ)) (name : List ℕ) (path : List (List ℕ))
      → Among (paths_from depth views (base ++ name ∷ [])) path → (rest : List (List ℕ)) × (base ++ name ∷ rest ≡ path)
  under_name depth base name path a =
      let under = paths_under depth (base ++ name ∷ []) path a in
      (under.0, sym (append_assoc base (name ∷ []) under.0) ∙ under.1)

  -- and stand in their order
  paths_rise : (depth : ℕ) (base : List (List ℕ)) → Pairwise PathBelow (paths_from depth views base)
  paths_rise zero base = (λ b a. absurd a, tt)
  paths_rise (suc depth) base = (
    λ path a.
        let found = from_flat_map (λ name. paths_from depth views (base ++ name ∷ []))
        (names_shown views base) path a in
        let under = under_name depth base found.0 path found.2 in
        subst (PathBelow base) under.1 (below_longer base found.0 under.0),
    each (λ name. paths_rise depth (base ++ name ∷ [])) (names_shown views base)
        (pairwise_filter NameBelow _ (map (λ entry. entry.0) (names_at views base))
        (names_rise (names_at views base) (names_sorted views base))),
  )
    where
      each : ((name : List ℕ) → Pairwise PathBelow (paths_from depth views (base ++ name ∷ [])))
          → (names : List (List ℕ)) → Pairwise NameBelow names
          → Pairwise PathBelow (flat_map (λ name. paths_from depth views (base ++ name ∷ [])) names)
      each rise [] p = tt
      each rise (name ∷ names) p =
          grind (arith, common_steps, pairwise_append, under_name, from_flat_map, below_beside, each rise names p.1)

-- so do the entries of a merged directory
module _ {layers : List (OpenLayer ℕ)} {longest : ℕ} {fresh : Fresh ℕ} (can : CanMerge layers longest fresh)
    (has_upper : Bool) where
  pub entries_in_order : (path : List (List ℕ))
      → is_sorted name_cmp (filter_map (entry_in_directory nat_eq fresh has_upper (merged_objects layers longest) path)
      (merged_objects layers longest)) ≡ true
  entries_in_order path = passes _ (rising_sorted _ (pairwise_filter_map (λ a b. PathBelow a.path b.path)
      (λ a b. NameBelow a.0 b.0) _ (λ a b x y e f h. last_parent path x.0 y.0 (subst (PathBelow (path ++ x.0 ∷ []))
      (entry_is_here can has_upper path y.0 b y f).0 (subst
      (λ p. PathBelow p b.path) (entry_is_here can _ path x.0 a x e).0 h))) _
      (pairwise_filter_map PathBelow _ (merged_at layers) (λ a b x y e f h. subst (λ p. PathBelow x.path p)
      (path_of b y f) (subst (λ p. PathBelow p b) (path_of a x e) h)) _ (paths_rise (map view_of layers) longest []))))
    where
      path_of : (path : List (List ℕ)) (object : Merged ℕ) → merged_at layers path ≡ Some object → path ≡ object.path
      path_of path object e = grind (arith, common_steps, none_is_some, same_Some)
