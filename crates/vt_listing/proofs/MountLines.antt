-- The list of a namespace's mounts: places in it, and the filesystems that it shows, each once.
use Rattle.std.proofs.Common.{◌≡◌, ◌<◌, true≢false, refl, sym, ap, ◌∙◌, ℕ, ◌+◌, Bool, true, false, not, cond, ◌||◌, nat_eq, eqb-true, eq-eqb, ne_eqb, List, [], ◌∷◌, ◌++◌, map, filter, length, take, get_or, position, Option, Some, None, option_map, unwrap_or, arith, filter_map, flat_map, nat_lt, lt-ltb, ltb-false, ltb-true, append-nil}
use Rattle.vt_spec.proofs.Common.{Mount, cons_option, each_once, filter-append, flat_map-append, index_from, list_any, map-append, number_among}
use Rattle.std.specs.List.{position_or_len}
use Rattle.indexmap.specs.IndexSet.{insert_key}
use Rattle.vt_fs.proofs.Entries.{key_eq}
use Rattle.vt_location.proofs.NumberLemmas.{counted_test}
use Rattle.vt_location.specs.declared.numbers.FilesystemId.{FilesystemId}
use Rattle.vt_location.specs.declared.numbers.GroupId.{GroupId}
use Rattle.vt_location.specs.declared.numbers.MountId.{MountId}
use Rattle.vt_location.specs.Numbers.{counted}
use Rattle.vt_mount.specs.Attached.{AreOf}
use Rattle.vt_listing.specs.GroupsListed.{SeesMore, group_numbers}
use Rattle.vt_mount.proofs.AttachedLemmas.{picked_next, place_of, places_alike}
use Rattle.vt_group.specs.Sets.{same_group}

-- Each once, with one more

any_other : (a x : ℕ) (ks : List ℕ) → nat_eq x a ≡ false
    → list_any (nat_eq x) (filter (λ b. not (nat_eq a b)) ks) ≡ list_any (nat_eq x) ks
any_other a x [] apart = refl
any_other a x (k ∷ ks) apart = by (nat_eq a k) refl (any_other a x ks apart)
  where
    by : (b : Bool) → nat_eq a k ≡ b → list_any (nat_eq x) (filter (λ b. not (nat_eq a b)) ks) ≡ list_any (nat_eq x) ks
        → list_any (nat_eq x) (cond (not b) (k ∷ filter (λ b. not (nat_eq a b)) ks) (filter (λ b. not (nat_eq a b)) ks))
        ≡ (nat_eq x k || list_any (nat_eq x) ks)
    by true e rest = rest ∙ ap (λ t. t || list_any (nat_eq x) ks) (sym apart ∙ ap (nat_eq x) (eqb-true a k e))
    by false e rest = ap (λ t. nat_eq x k || t) rest

inserted_after : (a x : ℕ) (ks : List ℕ) → a ∷ filter (λ b. not (nat_eq a b)) (insert_key nat_eq ks x)
    ≡ insert_key nat_eq (a ∷ filter (λ b. not (nat_eq a b)) ks) x
inserted_after a x ks = by (nat_eq x a) refl (list_any (nat_eq x) ks) refl
  where
    kept : List ℕ
    kept = filter (λ b. not (nat_eq a b)) ks

    apart : nat_eq x a ≡ false → x ≡ a → ⊥
    apart e same = true≢false (sym (eq-eqb x a same) ∙ e)

    by : (s : Bool) → nat_eq x a ≡ s → (t : Bool) → list_any (nat_eq x) ks ≡ t
        → a ∷ filter (λ b. not (nat_eq a b)) (cond t ks (ks ++ (x ∷ [])))
        ≡ cond (s || list_any (nat_eq x) kept) (a ∷ kept) (a ∷ kept ++ (x ∷ []))
    by true e true f = refl
    by true e false f = ap (λ rest. a ∷ rest) (filter-append (λ b. not (nat_eq a b)) ks (x ∷ [])
        ∙ ap (λ t. kept ++ cond (not t) (x ∷ []) []) (eq-eqb a x (sym (eqb-true x a e))) ∙ append-nil kept)
    by false e true f = ap (λ t. cond t (a ∷ kept) (a ∷ kept ++ (x ∷ []))) (sym (any_other a x ks e ∙ f))
    by false e false f = ap (λ rest. a ∷ rest) (filter-append (λ b. not (nat_eq a b)) ks (x ∷ [])
        ∙ ap (λ t. kept ++ cond (not t) (x ∷ []) []) (ne_eqb a x (λ same. absurd (apart e (sym same)))))
        ∙ ap (λ t. cond t (a ∷ kept) (a ∷ kept ++ (x ∷ []))) (sym (any_other a x ks e ∙ f))

once_more : (x : ℕ) (xs : List ℕ) → each_once nat_eq (xs ++ (x ∷ [])) ≡ insert_key nat_eq (each_once nat_eq xs) x
once_more x [] = refl
once_more x (a ∷ xs) =
    ap (λ ks. a ∷ filter (λ b. not (nat_eq a b)) ks) (once_more x xs) ∙ inserted_after a x (each_once nat_eq xs)

-- Keys by their numbers

module _ {A : Type 0} (number : A → ℕ) (same : A → A → Bool)
    (tested : (a b : A) → nat_eq (number a) (number b) ≡ same a b) where
  any_numbered : (k : A) (ids : List A) → list_any (nat_eq (number k)) (map number ids) ≡ list_any (same k) ids
  any_numbered k [] = refl
  any_numbered k (id ∷ ids) = λ i. tested k id i || any_numbered k ids i

  inserted_numbers : (k : A) (ids : List A)
      → map number (insert_key same ids k) ≡ insert_key nat_eq (map number ids) (number k)
  inserted_numbers k ids = by (list_any (same k) ids)
      ∙ ap (λ t. cond t (map number ids) (map number ids ++ (number k ∷ []))) (sym (any_numbered k ids))
    where
      by : (t : Bool) → map number (cond t ids (ids ++ (k ∷ [])))
          ≡ cond t (map number ids) (map number ids ++ (number k ∷ []))
      by true = refl
      by false = map-append number ids (k ∷ [])

abbrev pub numbers_of : List FilesystemId → List ℕ
numbers_of ids = map (λ (id : FilesystemId). counted id.count) ids

filesystems_tested : (a b : FilesystemId) → nat_eq (counted a.count) (counted b.count) ≡ key_eq a b
filesystems_tested a b = counted_test a.count b.count

groups_tested : (a b : GroupId) → nat_eq (counted a.count) (counted b.count) ≡ same_group a b
groups_tested a b = counted_test a.count b.count

-- the filesystems so far, with that of the next mount
module _ (h : MountId → Option ℕ) (i : ℕ) (d : MountId) (ids : List MountId) (within : i < length ids)
    (seen : List FilesystemId) (so_far : numbers_of seen ≡ each_once nat_eq (filter_map h (take i ids))) where
  pub next_seen : (shown : FilesystemId) → h (get_or ids i d) ≡ Some (counted shown.count)
      → numbers_of (insert_key key_eq seen shown) ≡ each_once nat_eq (filter_map h (take (i + 1) ids))
  next_seen shown is = inserted_numbers (λ (id : FilesystemId). counted id.count) key_eq filesystems_tested shown seen
      ∙ ap (λ ks. insert_key nat_eq ks (counted shown.count)) so_far
      ∙ sym (once_more (counted shown.count) (filter_map h (take i ids)))
      ∙ ap (each_once nat_eq) ((λ j. filter_map h (take i ids) ++ cons_option (sym is j) [])
      ∙ sym (picked_next h i d ids within))

  pub none_seen : h (get_or ids i d) ≡ None → numbers_of seen ≡ each_once nat_eq (filter_map h (take (i + 1) ids))
  none_seen is = so_far ∙ ap (each_once nat_eq) (sym (append-nil (filter_map h (take i ids)))
      ∙ (λ j. filter_map h (take i ids) ++ cons_option (sym is j) []) ∙ sym (picked_next h i d ids within))

-- Groups: one more, several one after the other, and none

pub one_more : (seen : List GroupId) (group : GroupId)
    → SeesMore seen (insert_key same_group seen group) (counted group.count ∷ [])
one_more seen group before is =
    inserted_numbers (λ (id : GroupId). counted id.count) same_group groups_tested group seen
    ∙ ap (λ ks. insert_key nat_eq ks (counted group.count)) is ∙ sym (once_more (counted group.count) before)

-- the groups of mounts so far, with those of the next one
module _ (h : MountId → Option (List ℕ)) (i : ℕ) (d : MountId) (ids : List MountId) (within : i < length ids)
    (seen : List GroupId) (so_far : group_numbers seen
    ≡ each_once nat_eq (flat_map (λ more. more) (filter_map h (take i ids)))) where
  taken_next : (o : Option (List ℕ)) → h (get_or ids i d) ≡ o → flat_map (λ more. more) (filter_map h (take i ids))
      ++ unwrap_or o [] ≡ flat_map (λ more. more) (filter_map h (take (i + 1) ids))
  taken_next o is = by o ∙ sym (flat_map-append (λ more. more) (filter_map h (take i ids)) (cons_option o []))
      ∙ ap (flat_map (λ more. more)) ((λ j. filter_map h (take i ids) ++ cons_option (sym is j) [])
      ∙ sym (picked_next h i d ids within))
    where
      by : (o : Option (List ℕ)) → flat_map (λ more. more) (filter_map h (take i ids)) ++ unwrap_or o []
          ≡ flat_map (λ more. more) (filter_map h (take i ids)) ++ flat_map (λ more. more) (cons_option o [])
      by None = refl
      by (Some more) = ap (λ last. flat_map (λ more. more) (filter_map h (take i ids)) ++ last) (sym (append-nil more))

  pub next_groups : (more : List ℕ) (later : List GroupId) → h (get_or ids i d) ≡ Some more → SeesMore seen later more
      → group_numbers later ≡ each_once nat_eq (flat_map (λ more. more) (filter_map h (take (i + 1) ids)))
  next_groups more later is sees = sees _ so_far ∙ ap (each_once nat_eq) (taken_next (Some more) is)

  pub no_groups : h (get_or ids i d) ≡ None
      → group_numbers seen ≡ each_once nat_eq (flat_map (λ more. more) (filter_map h (take (i + 1) ids)))
  no_groups is = so_far ∙ ap (each_once nat_eq) (sym (append-nil _) ∙ taken_next None is)

-- Places, from 1 on

next_to : (a b m n : ℕ) → m ≡ 1 + a → n ≡ 1 + b → nat_lt m n ≡ nat_lt a b
next_to a b m n up over = by (nat_lt m n) refl (nat_lt a b) refl
  where
    by : (s : Bool) → nat_lt m n ≡ s → (t : Bool) → nat_lt a b ≡ t → s ≡ t
    by true e true f = refl
    by false e false f = refl
    by true e false f = let less = ltb-true m n e in let more = ltb-false a b f in absurd
        (omega (arith, less, more, up, over))
    by false e true f = let more = ltb-false m n e in let less = ltb-true a b f in absurd
        (omega (arith, less, more, up, over))

place_by_position : {A : Type 0} (test : A → Bool) (k : ℕ) (xs : List A)
    → index_from test k xs ≡ option_map (λ i. k + i) (position test xs)
place_by_position test k [] = refl
place_by_position {A} test k (x ∷ xs) = by (test x) (place_by_position test (k + 1) xs)
  where
    first : ℕ
    first = position_or_len test xs

    place : Bool → ℕ
    place b = cond (not b) (1 + position_or_len test xs) 0

    later : (b : Bool) → option_map (λ i. k + 1 + i) (cond b (Some first) None)
        ≡ option_map (λ i. k + i) (cond b (Some (1 + first)) None)
    later true = ap Some (let same : k + 1 + first ≡ k + (1 + first) = omega arith in same)
    later false = refl

    by : (b : Bool) → index_from test (k + 1) xs ≡ option_map (λ i. k + 1 + i) (position test xs)
        → cond b (Some k) (index_from test (k + 1) xs)
        ≡ option_map (λ i. k + i) (cond (nat_lt (place b) (length (x ∷ xs))) (Some (place b)) None)
    by true rest = ap Some (let same : k ≡ k + 0 = omega arith in same)
        ∙ ap (λ b. option_map (λ i. k + i) (cond b (Some 0) None)) (sym (lt-ltb 0 (length (x ∷ xs)) (omega arith)))
    by false rest = rest ∙ later (nat_lt first (length xs))
        ∙ ap (λ b. option_map (λ i. k + i) (cond b (Some (1 + first)) None))
        (sym (next_to first (length xs) (1 + first) (length (x ∷ xs)) refl (omega arith)))

module _ {A : Type 0} (number : A → ℕ) (same : A → A → Bool)
    (tested : (a b : A) → nat_eq (number a) (number b) ≡ same a b) where
  place_by_number : (id : A) (k : ℕ) (ids : List A)
      → index_from (nat_eq (number id)) k (map number ids) ≡ index_from (same id) k ids
  place_by_number id k [] = refl
  place_by_number id k (x ∷ ids) = λ i. cond (tested id x i) (Some k) (place_by_number id (k + 1) ids i)

  index_by_number : (id : A) (ids : List A) (o : Option ℕ) → position (same id) ids ≡ o
      → number_among nat_eq (map number ids) (number id) ≡ unwrap_or (option_map (λ i. 1 + i) o) 0
  index_by_number id ids o is = ap (λ place. unwrap_or place 0)
      (place_by_number id 1 ids ∙ place_by_position (same id) 1 ids ∙ ap (option_map (λ i. 1 + i)) is)

pub numbered_index : (id : FilesystemId) (ids : List FilesystemId) (o : Option ℕ) → position (key_eq id) ids ≡ o
    → number_among nat_eq (numbers_of ids) (counted id.count) ≡ unwrap_or (option_map (λ i. 1 + i) o) 0
numbered_index id ids o is = index_by_number
    (λ (one : FilesystemId). counted one.count) key_eq filesystems_tested id ids o is

pub grouped_index : (id : GroupId) (ids : List GroupId) (o : Option ℕ) → position (same_group id) ids ≡ o
    → number_among nat_eq (group_numbers ids) (counted id.count) ≡ unwrap_or (option_map (λ i. 1 + i) o) 0
grouped_index id ids o is = index_by_number (λ (one : GroupId). counted one.count) same_group groups_tested id ids o is

mapped_places : (n k : ℕ) (all : List (Mount ℕ)) → index_from (λ (mount : Mount ℕ). nat_eq n mount.number) k all
    ≡ index_from (nat_eq n) k (map (λ (mount : Mount ℕ). mount.number) all)
mapped_places n k [] = refl
mapped_places n k (mount ∷ all) = λ i. cond (nat_eq n mount.number) (Some k) (mapped_places n (k + 1) all i)

pub numbered_mount : (id : MountId) (ids : List MountId) (all : List (Mount ℕ)) → AreOf ids all
    → unwrap_or (place_of id.count 1 ids) 0
    ≡ number_among nat_eq (map (λ (mount : Mount ℕ). mount.number) all) (counted id.count)
numbered_mount id ids all are =
    ap (λ place. unwrap_or place 0) (places_alike id.count 1 ids all are ∙ mapped_places (counted id.count) 1 all)
