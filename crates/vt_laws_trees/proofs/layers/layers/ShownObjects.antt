-- The objects of a merged tree are all that is shown.
use Rattle.std.proofs.Common.{◌≡◌, ◌<◌, ◌≤◌, ◌⊎◌, inl, inr, refl, sym, ap, subst, ◌∙◌, true≢false, arith, ℕ, zero, suc, ◌+◌, nat_eq, eq-eqb, eqb-true, Bool, true, false, cond, ◌&&◌, List, [], ◌∷◌, ◌++◌, length, get_or, Option, Some, None, is_some, slice_get, ⊎_elim, filter_map, find, flat_map, option_map, bytes_eq, append-nil}
use Rattle.vt_spec.proofs.Common.{Merged, OpenLayer, Shown, bytes_decides, common_steps, cons_option, index_from, is_one_inode, merged_objects, names_shown, none_is_some, paths_from, real_object, same_Some, same_path, shown}
use Rattle.vt_spec.specs.Machine.Merging.{same_real}
use Rattle.vt_laws_trees.proofs.layers.layers.ShownAtPath.{computed}
use Rattle.vt_laws_trees.proofs.layers.layers.ShownDirectories.{AreOpen, append_assoc, shown_in_directory}
use Rattle.vt_laws_trees.proofs.layers.layers.ShownNames.{names_are_those_shown}

-- an element of a list
abbrev pub Among : {A : Type 0} → List A → A → Type 0
Among [] a = ⊥
Among (b ∷ list) a = (b ≡ a) ⊎ Among list a

module _ {B : Type 0} where
  among_cons_option : (o : Option B) (list : List B) (b : B) → (o ≡ Some b) ⊎ Among list b
      → Among (cons_option o list) b
  among_cons_option None list b (inl e) = none_is_some b e
  among_cons_option None list b (inr a) = a
  among_cons_option (Some c) list b (inl e) = inl (same_Some c b e)
  among_cons_option (Some c) list b (inr a) = inr a

  from_cons_option : (o : Option B) (list : List B) (b : B) → Among (cons_option o list) b → (o ≡ Some b) ⊎ Among list b
  from_cons_option None list b a = inr a
  from_cons_option (Some c) list b (inl e) = inl (ap Some e)
  from_cons_option (Some c) list b (inr a) = inr a

  pub among_append_left : (list other : List B) (b : B) → Among list b → Among (list ++ other) b
  among_append_left [] other b among = absurd among
  among_append_left (first ∷ list) other b (inl e) = inl e
  among_append_left (first ∷ list) other b (inr among) = inr (among_append_left list other b among)

  pub among_append_right : (list other : List B) (b : B) → Among other b → Among (list ++ other) b
  among_append_right [] other b among = among
  among_append_right (first ∷ list) other b among = inr (among_append_right list other b among)

module _ {A B : Type 0} where
  pub among_filter_map : (f : A → Option B) (list : List A) (a : A) (b : B) → Among list a → f a ≡ Some b
      → Among (filter_map f list) b
  among_filter_map f [] a b among e = absurd among
  among_filter_map f (first ∷ list) a b (inl same) e = grind (arith, common_steps, among_cons_option)
  among_filter_map f (first ∷ list) a b (inr among) e =
      grind (arith, common_steps, among_cons_option, among_filter_map f list a b among e)

  pub from_filter_map : (f : A → Option B) (list : List A) (b : B) → Among (filter_map f list) b
      → (a : A) × Among list a × (f a ≡ Some b)
  from_filter_map f [] b among = absurd among
  from_filter_map f (first ∷ list) b among = ⊎_elim (λ e. (first, inl refl, e))
      (λ later. let found = from_filter_map f list b later in (found.0, inr found.1, found.2))
      (from_cons_option (f first) (filter_map f list) b among)

  pub among_flat_map : (f : A → List B) (list : List A) (a : A) (b : B) → Among list a → Among (f a) b
      → Among (flat_map f list) b
  among_flat_map f [] a b among inside = absurd among
  among_flat_map f (first ∷ list) a b (inl e) inside = grind (arith, common_steps, among_append_left)
  among_flat_map f (first ∷ list) a b (inr among) inside =
      grind (arith, common_steps, among_append_right, among_flat_map f list a b among inside)

module _ {A : Type 0} where
  -- the first that passes
  pub record Found (test : A → Bool) (list : List A) : Type 0 where
    pub element : A
    pub is : find test list ≡ Some element
    pub among : Among list element
    pub passes : test element ≡ true

  pub found_among : (test : A → Bool) (list : List A) (a : A) → Among list a → test a ≡ true → Found test list
  found_among test [] a among e = absurd among
  found_among test (first ∷ list) a among e = by (test first) refl among (λ later. found_among test list a later e)
    where
      by : (b : Bool) → test first ≡ b → (first ≡ a) ⊎ Among list a → (Among list a → Found test list)
          → Found test (first ∷ list)
      by true t among rest = grind (arith, common_steps)
      by false t (inl same) rest = absurd (true≢false (sym e ∙ ap test (sym same) ∙ t))
      by false t (inr later) rest = grind (arith, common_steps)

  pub record Placed (test : A → Bool) (k : ℕ) (list : List A) : Type 0 where
    pub place : ℕ
    pub element : A
    pub is : index_from test k list ≡ Some (k + place)
    pub there : slice_get list place ≡ Some element
    pub among : Among list element
    pub passes : test element ≡ true

  pub placed_among : (test : A → Bool) (k : ℕ) (list : List A) (a : A) → Among list a → test a ≡ true
      → Placed test k list
  placed_among test k [] a among e = absurd among
  placed_among test k (first ∷ list) a among e = by _ refl among (λ later. placed_among test (k + 1) list a later e)
    where
      by : (b : Bool) → test first ≡ b → (first ≡ a) ⊎ Among list a → (Among list a → Placed test (k + 1) list)
          → Placed test k (first ∷ list)
      by true t among rest = record {
        place = 0;
        element = first;
        is = ap (λ b. cond b (Some k) (index_from test (k + 1) list)) t ∙ ap Some (omega arith);
        there = refl;
        among = inl refl;
        passes = t;
      }
      by false t (inl same) rest = absurd (true≢false (sym e ∙ ap test (sym same) ∙ t))
      by false t (inr later) rest =
          let found = rest later in
          record {
            place = suc found.place;
            element = found.element;
            is = ap (λ b. cond b (Some k) (index_from test (k + 1) list)) t ∙ found.is ∙ ap Some (omega arith);
            there = found.there;
            among = inr found.among;
            passes = found.passes;
          }

  among_contained : (list : List A) (a : A) (k : ℕ) → k < length list → get_or list k a ≡ a → Among list a
  among_contained [] a k h e = let no : ⊥ = (let l : k < 0 = h in omega arith) in no
  among_contained (first ∷ list) a zero h e = inl e
  among_contained (first ∷ list) a (suc k) h e = inr (among_contained list a k (omega arith) e)

-- paths are compared by their names
pub path_itself : (path : List (List ℕ)) → same_path path path ≡ true
path_itself [] = refl
path_itself (name ∷ path) = ap (λ b. b && same_path path path) ((bytes_decides name name).1 refl) ∙ path_itself path

pub path_same : (a b : List (List ℕ)) → same_path a b ≡ true → a ≡ b
path_same [] [] e = refl
path_same [] (name ∷ b) e = absurd (true≢false (sym e))
path_same (name ∷ a) [] e = absurd (true≢false (sym e))
path_same (name ∷ a) (other ∷ b) e = by (bytes_eq name other) refl e (path_same a b)
  where
    by : (t : Bool) → bytes_eq name other ≡ t → (t && same_path a b) ≡ true → (same_path a b ≡ true → a ≡ b)
        → (name ∷ a) ≡ (other ∷ b)
    by true t e rest = ap (λ n. n ∷ a) ((bytes_decides name other).0 t) ∙ ap (λ p. other ∷ p) (rest e)
    by false t e rest = absurd (true≢false (sym e))

module _ (layers : List (OpenLayer ℕ)) (are_open : AreOpen layers) where
  -- at each front of a path at which something is shown, something is shown
  pub shown_before : (path rest : List (List ℕ)) (seen : Shown ℕ) → shown layers (path ++ rest) ≡ Some seen
      → is_some (shown layers path) ≡ true
  shown_before path [] seen e = ap is_some (ap (shown layers) (sym (append-nil path)) ∙ e)
  shown_before path (name ∷ rest) seen e = grind (
    arith,
    common_steps,
    shown_before (path ++ name ∷ []) rest seen (ap (shown layers) (append_assoc path (name ∷ []) rest) ∙ e),
    true≢false,
    shown_in_directory,
  )

  -- each such path is gone through
  pub paths_complete : (depth : ℕ) (base rest : List (List ℕ)) (seen : Shown ℕ) → length rest ≤ depth
      → shown layers (base ++ rest) ≡ Some seen → Among (paths_from depth layers base) (base ++ rest)
  paths_complete zero base [] seen h e = grind (arith, common_steps)
  paths_complete (suc depth) base [] seen h e = grind (arith, common_steps)
  paths_complete zero base (name ∷ rest) seen h e = let no : ⊥ = omega arith in absurd no
  paths_complete (suc depth) base (name ∷ rest) seen h e = inr (among_flat_map _ _ name (base ++ name ∷ rest) (by _
      refl (shown_before (base ++ name ∷ []) rest seen (ap (shown layers) (append_assoc base (name ∷ []) rest) ∙ e)))
      (subst (Among (paths_from depth layers (base ++ name ∷ []))) (append_assoc base (name ∷ []) rest) (paths_complete
      depth (base ++ name ∷ []) rest seen (omega arith) (ap (shown layers) (append_assoc base (name ∷ []) rest) ∙ e))))
    where
      by : (o : Option (Shown ℕ)) → shown layers (base ++ name ∷ []) ≡ o → is_some o ≡ true
          → Among (names_shown layers base) name
      by None s h = absurd (true≢false (sym h))
      by (Some next) s h =
          let has = (names_are_those_shown layers base name).1 (next, (computed layers (base ++ name ∷ []) next).0 s) in
          among_contained (names_shown layers base) name has.0 has.1 has.2

  module _ (longest : ℕ) (bounded : (path : List (List ℕ)) (seen : Shown ℕ) → shown layers path ≡ Some seen
      → length path ≤ longest) where
    -- so the objects are all that is shown, each once for each path
    pub is_object : (path : List (List ℕ)) (seen : Shown ℕ) → shown layers path ≡ Some seen
        → Among (merged_objects layers longest) (record { path = path; seen = seen })
    is_object path seen e = among_filter_map _ _ path _ (paths_complete longest [] path seen (bounded path seen e) e)
        (ap (option_map (λ s. record { path = path; seen = s })) e)

    pub object_is : (object : Merged ℕ) → Among (merged_objects layers longest) object
        → shown layers object.path ≡ Some object.seen
    object_is object among = grind (arith, common_steps, from_filter_map, none_is_some)

-- two objects that are one inode are the same in their layer, and have one real object
pub record IsOne (has_upper : Bool) (a b : Merged ℕ) : Type 0 where
  pub seen : a.seen ≡ b.seen
  pub real : real_object has_upper a.seen.layer a ≡ real_object has_upper b.seen.layer b

pub is_one : (layers : List (OpenLayer ℕ)) (has_upper : Bool) (a b : Merged ℕ) → shown layers a.path ≡ Some a.seen
    → shown layers b.path ≡ Some b.seen → is_one_inode nat_eq has_upper a b ≡ true → IsOne has_upper a b
is_one layers has_upper a b s t e = by has_upper refl a.seen.layer refl b.seen.layer refl e
  where
    by_path : a.path ≡ b.path → IsOne has_upper a b
    by_path same =
        let seen = same_Some a.seen b.seen (sym s ∙ ap (shown layers) same ∙ t) in
        let whole : a ≡ b = λ i. record { path = same i; seen = seen i } in
        record { seen = seen; real = ap (λ m. real_object has_upper m.seen.layer m) whole }

    by : (u : Bool) → has_upper ≡ u → (l : ℕ) → a.seen.layer ≡ l → (k : ℕ) → b.seen.layer ≡ k
        → same_real nat_eq (real_object u l a) (real_object u k b) ≡ true → IsOne has_upper a b
    by u hu l la k lb e = grind (arith, common_steps, by_path, path_same, eqb-true, true≢false)

-- an object is one inode with itself
pub one_itself : (has_upper : Bool) (a : Merged ℕ) → is_one_inode nat_eq has_upper a a ≡ true
one_itself has_upper a = by has_upper a.seen.layer
  where
    by : (u : Bool) (l : ℕ) → same_real nat_eq (real_object u l a) (real_object u l a) ≡ true
    by false l = path_itself a.path
    by true zero = eq-eqb a.seen.object a.seen.object refl
    by true (suc l) = path_itself a.path
