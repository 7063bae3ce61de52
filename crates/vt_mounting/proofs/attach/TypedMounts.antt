-- Mounts that get types one after the other, and mounts that are put in the places of those with their numbers.
use Rattle.std.proofs.Common.{◌≡◌, refl, sym, ap, ◌∙◌, ⊎_elim, inl, inr, true≢false, ℕ, nat_eq, eqb-true, eq-eqb, Bool, true, false, cond, List, [], ◌∷◌, ◌++◌, map, find, Some, None, is_some, unwrap_or, ne_eqb, arith}
use Rattle.vt_spec.proofs.Common.{Mount, Propagation, any_pair, common_steps, folded, list_any, lookup, map-append, map_alike, map_twice, nat_eq-swapped, no_mount, or_parts, replaced_if_same, with_mount}
use Rattle.vt_group.specs.Grouping.{retyped_if}
use Rattle.vt_mounting.proofs.Common.{Among, MountEntry, among-append_right, among-map, changed, map_same, mounts_in, none_among, one_number_by_numbers, with_kind}
use Rattle.vt_laws_mounts.proofs.mounts.MountsReplaced.{found_itself}
use Rattle.vt_retype.specs.Retyping.{with_type_in}
use Rattle.vt_mounting.specs.Attach.AttachedGroups.{type_of}
use Rattle.vt_mounting.specs.Attach.Moved.{typed_all}
use Rattle.vt_mounting.proofs.detach.LostUses.{folded_append}

abbrev pub Kind : Type 0
Kind = ℕ × Propagation ℕ

abbrev pub KindsOnce : List Kind → Type 0
KindsOnce kinds = any_pair (λ (a b : Kind). nat_eq a.0 b.0) kinds ≡ false

abbrev pub retyped_one : List (Mount ℕ) → Kind → List (Mount ℕ)
retyped_one mounts kind = map (retyped_if kind.0 kind.1) mounts

-- a mount with the type that it gets, if it gets one
abbrev pub typed_at : List Kind → Mount ℕ → Mount ℕ
typed_at kinds mount = record mount { propagation = unwrap_or (lookup (nat_eq mount.number) kinds) mount.propagation }

-- Entries and their mounts

one_typed : (number : ℕ) (kind : Propagation ℕ) (entries : List MountEntry)
    → mounts_in (changed number (with_kind kind) entries) ≡ map (retyped_if number kind) (mounts_in entries)
one_typed number kind [] = refl
one_typed number kind (entry ∷ rest) = grind (arith, common_steps, one_typed number kind rest)

pub typed_seen : (types : List Kind) (entries : List MountEntry)
    → mounts_in (typed_all types entries) ≡ folded retyped_one (mounts_in entries) types
typed_seen [] entries = refl
typed_seen (new ∷ types) entries = typed_seen types (with_type_in entries new)
    ∙ ap (λ mounts. folded retyped_one mounts types) (one_typed new.0 new.1 entries)

-- All at once

pub lookup_fails : {B : Type 0} (number : ℕ) (pairs : List (ℕ × B))
    → list_any (λ (pair : ℕ × B). nat_eq number pair.0) pairs ≡ false → lookup (nat_eq number) pairs ≡ None
lookup_fails number [] none = refl
lookup_fails {B} number (pair ∷ rest) none =
    let parts = or_parts (nat_eq number pair.0) (list_any (λ (other : ℕ × B). nat_eq number other.0) rest) none in
    ap (λ b. cond b (Some pair.1) (lookup (nat_eq number) rest)) parts.0 ∙ lookup_fails number rest parts.1

same_mounts : (mounts : List (Mount ℕ)) → mounts ≡ map (typed_at []) mounts
same_mounts [] = refl
same_mounts (mount ∷ rest) = ap (λ list. mount ∷ list) (same_mounts rest)

pub all_typed : (kinds : List Kind) → KindsOnce kinds → (mounts : List (Mount ℕ))
    → folded retyped_one mounts kinds ≡ map (typed_at kinds) mounts
all_typed [] once mounts = same_mounts mounts
all_typed (kind ∷ rest) once mounts =
    let parts = or_parts (list_any (λ (b : Kind). nat_eq kind.0 b.0) rest) _ once in
    all_typed rest parts.1 (retyped_one mounts kind) ∙ map_twice (typed_at rest) (retyped_if kind.0 kind.1) mounts
    ∙ map_alike (λ mount. typed_at rest (retyped_if kind.0 kind.1 mount)) (typed_at (kind ∷ rest)) mounts
    (λ mount m. by parts.0 mount (nat_eq kind.0 mount.number) refl)
  where
    by : list_any (λ (b : Kind). nat_eq kind.0 b.0) rest ≡ false → (mount : Mount ℕ) (b : Bool)
        → nat_eq kind.0 mount.number ≡ b
        → typed_at rest (cond b (record mount { propagation = kind.1 }) mount) ≡ typed_at (kind ∷ rest) mount
    by apart mount true e = ap (λ o. record mount { propagation = unwrap_or o kind.1 }) (lookup_fails mount.number rest
        (ap (λ n. list_any (λ (b : Kind). nat_eq n b.0) rest) (sym (eqb-true kind.0 mount.number e)) ∙ apart))
        ∙ (λ i. record mount {
          propagation = unwrap_or (cond (sym (nat_eq-swapped kind.0 mount.number true e) i) (Some kind.1)
              (lookup (nat_eq mount.number) rest)) mount.propagation;
        })
    by apart mount false e = λ i. record mount {
      propagation = unwrap_or (cond (sym (nat_eq-swapped kind.0 mount.number false e) i) (Some kind.1)
          (lookup (nat_eq mount.number) rest)) mount.propagation;
    }

-- Mounts that have their types already

module _ (mounts : List (Mount ℕ)) (one : any_pair (λ (a b : Mount ℕ). nat_eq a.number b.number) mounts ≡ false) where
  -- two of one number are the same
  pub same_numbered : (mount other : Mount ℕ) → Among mount mounts → Among other mounts → mount.number ≡ other.number
      → mount ≡ other
  same_numbered mount other m n same = sym (found_itself mounts one mount m)
      ∙ ap (λ k. unwrap_or (find (λ (x : Mount ℕ). nat_eq k x.number) mounts) (no_mount k)) same
      ∙ found_itself mounts one other n

  pub typed_already : (some : List (Mount ℕ)) → ((mount : Mount ℕ) → Among mount some → Among mount mounts)
      → folded retyped_one mounts (map type_of some) ≡ mounts
  typed_already [] there = refl
  typed_already (mount ∷ some) there = ap (λ list. folded retyped_one list (map type_of some))
      (map_same (retyped_if mount.number mount.propagation) mounts
      (λ other n. by other n (nat_eq mount.number other.number) refl))
      ∙ typed_already some (λ other m. there other (inr m))
    where
      by : (other : Mount ℕ) → Among other mounts → (b : Bool) → nat_eq mount.number other.number ≡ b
          → cond b (record other { propagation = mount.propagation }) other ≡ other
      by other n false e = refl
      by other n true e = ap (λ kind. record other { propagation = kind }) (ap (λ (x : Mount ℕ). x.propagation)
          (same_numbered mount other (there mount (inl refl)) n (eqb-true mount.number other.number e)))

-- Some mounts of a list get types, and others stand behind it with theirs.
module _ (front come own : List (Mount ℕ))
    (one : any_pair (λ (a b : Mount ℕ). nat_eq a.number b.number) (front ++ come) ≡ false)
    (once : KindsOnce (map type_of own)) (apart : (mount : Mount ℕ) → Among mount come
    → list_any (λ (kind : Kind). nat_eq mount.number kind.0) (map type_of own) ≡ false) where
  typed_front : map (typed_at (map type_of own)) (front ++ come) ≡ map (typed_at (map type_of own)) front ++ come
  typed_front =
      cc (
        map-append (typed_at (map type_of own)) front come,
        map_same (typed_at (map type_of own)) come (λ mount m. ap
            (λ o. record mount { propagation = unwrap_or o mount.propagation }) (lookup_fails mount.number (map type_of own)
            (apart mount m))),
      )

  numbers_stay : (list : List (Mount ℕ))
      → map (λ (mount : Mount ℕ). mount.number) (map (typed_at (map type_of own)) list ++ come)
      ≡ map (λ (mount : Mount ℕ). mount.number) (list ++ come)
  numbers_stay [] = refl
  numbers_stay (mount ∷ rest) = ap (λ numbers. mount.number ∷ numbers) (numbers_stay rest)

  pub typed_with_more : folded retyped_one (front ++ come) (map type_of (own ++ come))
      ≡ map (typed_at (map type_of own)) front ++ come
  typed_with_more = ap (folded retyped_one (front ++ come)) (map-append type_of own come)
      ∙ folded_append retyped_one (front ++ come) (map type_of own) (map type_of come)
      ∙ ap (λ list. folded retyped_one list (map type_of come))
      (all_typed (map type_of own) once (front ++ come) ∙ typed_front)
      ∙ typed_already (map (typed_at (map type_of own)) front ++ come)
      (one_by (map (typed_at (map type_of own)) front ++ come) (front ++ come) (sym (numbers_stay front)) one)
      come (λ mount m. among-append_right (map (typed_at (map type_of own)) front) come mount m)
    where
      one_by : (xs ys : List (Mount ℕ))
          → map (λ (mount : Mount ℕ). mount.number) ys ≡ map (λ (mount : Mount ℕ). mount.number) xs
          → any_pair (λ (a b : Mount ℕ). nat_eq a.number b.number) ys ≡ false
          → any_pair (λ (a b : Mount ℕ). nat_eq a.number b.number) xs ≡ false
      one_by xs ys same is = one_number_by_numbers ys xs (sym same) is

-- Mounts in the places of those with their numbers

abbrev pub replaced_by : List (Mount ℕ) → Mount ℕ → Mount ℕ
replaced_by own mount = unwrap_or (find (λ (one : Mount ℕ). nat_eq mount.number one.number) own) mount

none_replaced : (mounts : List (Mount ℕ)) → mounts ≡ map (replaced_by []) mounts
none_replaced [] = refl
none_replaced (mount ∷ rest) = ap (λ list. mount ∷ list) (none_replaced rest)

found_none : (number : ℕ) (own : List (Mount ℕ)) → list_any (λ (one : Mount ℕ). nat_eq number one.number) own ≡ false
    → find (λ (one : Mount ℕ). nat_eq number one.number) own ≡ None
found_none number [] none = refl
found_none number (first ∷ rest) none = grind (arith, common_steps, found_none number rest, or_parts)

pub all_replaced : (own : List (Mount ℕ)) → any_pair (λ (a b : Mount ℕ). nat_eq a.number b.number) own ≡ false
    → (mounts : List (Mount ℕ)) → folded (with_mount nat_eq) mounts own ≡ map (replaced_by own) mounts
all_replaced [] once mounts = none_replaced mounts
all_replaced (first ∷ rest) once mounts =
    let parts = or_parts (list_any (λ (b : Mount ℕ). nat_eq first.number b.number) rest) _ once in
    all_replaced rest parts.1 (with_mount nat_eq mounts first)
    ∙ map_twice (replaced_by rest) (replaced_if_same nat_eq first) mounts
    ∙ map_alike (λ mount. replaced_by rest (replaced_if_same nat_eq first mount)) (replaced_by (first ∷ rest)) mounts
    (λ mount m. by parts.0 mount (nat_eq first.number mount.number) refl)
  where
    by : list_any (λ (b : Mount ℕ). nat_eq first.number b.number) rest ≡ false → (mount : Mount ℕ) (b : Bool)
        → nat_eq first.number mount.number ≡ b
        → replaced_by rest (cond b first mount) ≡ replaced_by (first ∷ rest) mount
    by apart mount true e = ap (λ o. unwrap_or o first) (found_none first.number rest apart)
        ∙ (λ i. unwrap_or (cond (sym (nat_eq-swapped first.number mount.number true e) i) (Some first)
        (find (λ (one : Mount ℕ). nat_eq mount.number one.number) rest)) mount)
    by apart mount false e =
        λ i. unwrap_or (cond (sym (nat_eq-swapped first.number mount.number false e) i) (Some first)
        (find (λ (one : Mount ℕ). nat_eq mount.number one.number) rest)) mount

-- What is looked up

pub lookup_kind : (own : List (Mount ℕ)) → KindsOnce (map type_of own) → (mount : Mount ℕ) → Among mount own
    → lookup (nat_eq mount.number) (map type_of own) ≡ Some mount.propagation
lookup_kind [] once mount m = absurd m
lookup_kind (first ∷ rest) once mount m =
    let parts = or_parts (list_any (λ (b : Kind). nat_eq first.number b.0) (map type_of rest)) _ once in
    ⊎_elim (λ same. ap (λ b. cond b (Some first.propagation) (lookup (nat_eq mount.number) (map type_of rest)))
    (eq-eqb mount.number first.number (ap (λ (x : Mount ℕ). x.number) same))
    ∙ ap (λ (x : Mount ℕ). Some x.propagation) (sym same))
    (λ later. ap (λ b. cond b (Some first.propagation) (lookup (nat_eq mount.number) (map type_of rest)))
    (ne_eqb mount.number first.number (λ same.
    true≢false (sym (eq-eqb first.number mount.number (sym same))
    ∙ none_among (λ (b : Kind). nat_eq first.number b.0) (map type_of rest) parts.0 (type_of mount)
    (among-map type_of rest mount later)))) ∙ lookup_kind rest parts.1 mount later) m

pub looked_up_kind : (number : ℕ) (own : List (Mount ℕ)) (kind : Propagation ℕ)
    → lookup (nat_eq number) (map type_of own) ≡ Some kind
    → (mount : Mount ℕ) × Among mount own × (mount.propagation ≡ kind) × (number ≡ mount.number)
looked_up_kind number [] kind e = absurd (true≢false (sym (ap is_some e)))
looked_up_kind number (first ∷ rest) kind e = grind (arith, common_steps, looked_up_kind number rest kind, eqb-true)
