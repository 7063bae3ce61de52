-- What an index lists, once a part of it changed.
use Rattle.std.proofs.Common.{◌≡◌, ℕ, Bool, true, false, List, [], ◌∷◌, ◌||◌, filter, nat_eq, Option, Some, is_some, refl, sym, ap, subst, ◌∙◌, true≢false, ne_eqb, eq-eqb, flat_map, eqb-true}
use Rattle.vt_spec.proofs.Common.{any-filter_same, list_any, list_any-append, or-true}
use Rattle.vt_location.specs.declared.mounts.Propagation.{Propagation}
use Rattle.vt_location.specs.declared.mounts.Propagation.TheVariants.{Private, Shared, Slave, Unbindable}
use Rattle.vt_location.specs.declared.numbers.GroupId.{GroupId}
use Rattle.vt_location.specs.declared.numbers.MountId.{MountId}
use Rattle.vt_group.specs.declared.index.Index.{Index}
use Rattle.vt_group.specs.declared.sets.Sets.{Sets}
use Rattle.vt_group.specs.Indexed.{has_source, is_listed, is_relative, source_of_kind}
use Rattle.vt_group.specs.Names.{KeepsNames, Named, is_under, names_of}
use Rattle.vt_group.specs.Sets.{has, same_group}
use Rattle.vt_group.proofs.SetsLemmas.{same_number}

module _ {A : Type 0} (p q : A → Bool) where
  one_more : (x : A) (xs : List A) → (p x ≡ true → q x ≡ true) → (list_any p xs ≡ true → list_any q xs ≡ true)
      → (p x || list_any p xs) ≡ true → (q x || list_any q xs) ≡ true
  one_more x xs first later any = by (p x) first any
    where
      by : (b : Bool) → (b ≡ true → q x ≡ true) → (b || list_any p xs) ≡ true → (q x || list_any q xs) ≡ true
      by true first any = ap (λ t. t || list_any q xs) (first refl)
      by false first any = ap (λ t. q x || t) (later any) ∙ or-true (q x)

  -- where some pass a test, some pass a weaker one
  pub any_still : ((x : A) → p x ≡ true → q x ≡ true) → (xs : List A) → list_any p xs ≡ true → list_any q xs ≡ true
  any_still so [] any = any
  any_still so (x ∷ xs) any = one_more x xs (so x) (any_still so xs) any

  -- where some pass a test, some pass another that those that are the same pass
  pub any_within : (same : A → A → Bool) → ((x : A) → same x x ≡ true) → (xs : List A)
      → ((x : A) → list_any (λ y. same y x) xs ≡ true → p x ≡ true → q x ≡ true)
      → list_any p xs ≡ true → list_any q xs ≡ true
  any_within same itself [] so any = any
  any_within same itself (x ∷ xs) so any = one_more x xs (so x (ap (λ t. t || list_any (λ y. same y x) xs) (itself x)))
      (any_within same itself xs (λ y among. so y (ap (λ t. same x y || t) among ∙ or-true (same x y)))) any

-- some of lists put together pass where some of one list do
pub any_flat : {A B : Type 0} (test : B → Bool) (f : A → List B) (xs : List A)
    → list_any test (flat_map f xs) ≡ list_any (λ x. list_any test (f x)) xs
any_flat test f [] = refl
any_flat test f (x ∷ xs) =
    list_any-append test (f x) (flat_map f xs) ∙ ap (λ b. list_any test (f x) || b) (any_flat test f xs)

-- a group is the same as itself
pub itself : (group : GroupId) → same_group group group ≡ true
itself group = eq-eqb group.count group.count refl

module _ {T : Type 0} (eq : T → T → Bool) (names now : Named) (old new : Sets T) (one : T) where
  -- a member or slave that is listed under a group stays so where the names do
  pub under_still : KeepsNames names now → ((at : GroupId) → has eq at one old ≡ true → has eq at one new ≡ true)
      → (group : GroupId) → is_under eq names old one group ≡ true → is_under eq now new one group ≡ true
  under_still keeps sets group under = keeps group (λ name. has eq name one new)
      (any_still (λ name. has eq name one old) (λ name. has eq name one new) sets (names_of names group) under)

module _ (old new : Index) (mount : MountId) where
  -- a mount that is listed under its type stays so where it stays among relatives
  pub listed_still : (kind : Propagation)
      → ((group : GroupId) → has_source group kind ≡ true → is_relative old mount group ≡ true
      → is_relative new mount group ≡ true) → is_listed old mount kind ≡ true → is_listed new mount kind ≡ true
  listed_still (Shared group) relatives = relatives group (itself group)
  listed_still (Slave master) relatives = relatives master (itself master)
  listed_still Private relatives = λ listed. refl
  listed_still Unbindable relatives = λ listed. refl

-- numbers of which one is taken and the other is free are not one
pub apart_by : {A : Type 0} (at : ℕ → Option A) (a b : ℕ) → is_some (at a) ≡ false → is_some (at b) ≡ true
    → nat_eq a b ≡ false
apart_by at a b none some = ne_eqb a b (λ same. true≢false (sym some ∙ ap (λ n. is_some (at n)) (sym same) ∙ none))

-- what is there is among those that are kept of a list where it was in the list
pub any-kept : {T A : Type 0} (count : T → ℕ) (at : ℕ → Option A) (number : ℕ) (ids left : List T)
    → left ≡ filter (λ id. is_some (at (count id))) ids → is_some (at number) ≡ true
    → list_any (λ id. nat_eq number (count id)) ids ≡ true → list_any (λ id. nat_eq number (count id)) left ≡ true
any-kept count at number ids left is some there = ap (list_any (λ id. nat_eq number (count id))) is
    ∙ any-filter_same (λ id. nat_eq number (count id)) (λ id. is_some (at (count id))) true
    (λ id same. ap (λ n. is_some (at n)) (sym (eqb-true number (count id) same)) ∙ some) ids ∙ there

-- a listed mount is a relative of the group that it is a member or a slave of
pub relative_of_source : (index : Index) (mount : MountId) (kind : Propagation) (group : GroupId)
    → has_source group kind ≡ true → is_listed index mount kind ≡ true → is_relative index mount group ≡ true
relative_of_source index mount (Shared own) group source listed =
    ap (is_relative index mount) (sym (same_number group own source)) ∙ listed
relative_of_source index mount (Slave master) group source listed =
    ap (is_relative index mount) (sym (same_number group master source)) ∙ listed
relative_of_source index mount Private group source listed = absurd (true≢false (sym source))
relative_of_source index mount Unbindable group source listed = absurd (true≢false (sym source))

-- where a mount is taken out for another type than its own, each is still listed for its type
pub unlisted_still : (Was Is : MountId → Propagation → Type 0) (types : ℕ → Option Propagation) (mount : MountId)
    (found : Option Propagation) → found ≡ types mount.count
    → ((other : MountId) (kind : Propagation) → nat_eq mount.count other.count ≡ false → Was other kind → Is other kind)
    → ((kind : Propagation) → found ≡ Some kind → Was mount kind → Is mount kind)
    → (other : MountId) (kind : Propagation) → types other.count ≡ Some kind → Was other kind → Is other kind
unlisted_still Was Is types mount found is others own other kind at = by (nat_eq mount.count other.count) refl
  where
    by : (b : Bool) → nat_eq mount.count other.count ≡ b → Was other kind → Is other kind
    by true same =
        let one : mount ≡ other = λ i. record { count = eqb-true mount.count other.count same i } in
        subst (λ (id : MountId). types id.count ≡ Some kind → Was id kind → Is id kind) one
        (λ found_at. own kind (is ∙ found_at)) at
    by false apart = others other kind apart

-- a type with one source does not have another
pub apart_source : (lost group : GroupId) (kind : Propagation) → has_source lost kind ≡ false
    → has_source group kind ≡ true → same_group lost group ≡ false
apart_source lost group (Shared own) apart source = ap (same_group lost) (sym (same_number group own source)) ∙ apart
apart_source lost group (Slave master) apart source =
    ap (same_group lost) (sym (same_number group master source)) ∙ apart
apart_source lost group Private apart source = absurd (true≢false (sym source))
apart_source lost group Unbindable apart source = absurd (true≢false (sym source))

-- one that stays under the names of a group is not taken out
pub stays_under : {T : Type 0} (eq : T → T → Bool) (names : Named) (old new : Sets T) (one : T) (group : GroupId)
    (stays : List GroupId) → stays ≡ names_of names group
    → ((at : GroupId) → list_any (λ name. same_group name at) stays ≡ true → has eq at one old ≡ true
    → has eq at one new ≡ true) → is_under eq names old one group ≡ true → is_under eq names new one group ≡ true
stays_under eq names old new one group stays is keeps under = ap (list_any (λ name. has eq name one new)) (sym is)
    ∙ any_within (λ name. has eq name one old) (λ name. has eq name one new) same_group itself stays keeps
    (ap (list_any (λ name. has eq name one old)) is ∙ under)

-- a name that is none of these is not the same as one of them
pub apart_from_each : (name at : GroupId) (names : List GroupId)
    → list_any (λ other. same_group other name) names ≡ false → list_any (λ other. same_group other at) names ≡ true
    → same_group name at ≡ false
apart_from_each name at names none among = by (same_group name at) refl
  where
    by : (b : Bool) → same_group name at ≡ b → same_group name at ≡ false
    by true same = absurd (true≢false (sym among
        ∙ ap (λ (id : GroupId). list_any (λ other. same_group other id) names) (same_number name at same) ∙ none))
    by false apart = apart

-- the source of a type is the group that it names
pub source_told_kind : (group : GroupId) (kind : Propagation) → has_source group kind ≡ true
    → source_of_kind kind ≡ Some group
source_told_kind group (Shared own) source = ap Some (same_number group own source)
source_told_kind group (Slave master) source = ap Some (same_number group master source)
source_told_kind group Private source = absurd (true≢false (sym source))
source_told_kind group Unbindable source = absurd (true≢false (sym source))
