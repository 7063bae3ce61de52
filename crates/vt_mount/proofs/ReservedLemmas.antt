-- Room that is reserved for mounts that come and move.
use Rattle.std.proofs.Common.{◌≡◌, ◌<◌, ◌≤◌, ◌+◌, ◌-◌, ℕ, Bool, true, false, cond, List, [], ◌∷◌, ◌++◌, map, refl, ap, subst, arith, eq-eqb}
use Rattle.vt_spec.proofs.Common.{reverse-append}
use Rattle.vt_location.specs.declared.locations.Location.{Location}
use Rattle.vt_location.specs.declared.numbers.MountId.{MountId}
use Rattle.vt_location.specs.declared.numbers.NamespaceId.{NamespaceId}
use Rattle.std.specs.declared.cmp.PartialEq as equal
use Rattle.vt_location.specs.Numbers.{same_id}
use Rattle.vt_mount.specs.declared.ascending.Ordered as ordered
use Rattle.vt_mount.specs.declared.indexes.Indexes.{Indexes}
use Rattle.vt_mount.specs.declared.lists.ListsBy.{ListsBy}
use Rattle.vt_mount.specs.declared.moving.NewPoint.{NewPoint}
use Rattle.vt_mount.specs.Reserved.{Reserves, ReservesBy, count_of, moved_places}
use Rattle.vt_location.specs.SameNodes.{same_node}
use Rattle.vt_mount.specs.Indexes.{same_namespace}
use Rattle.vt_mount.specs.Listed.{reserved}

count-first : {X : Type 0} (test : X → Bool) (xs ys : List X) → count_of test xs ≤ count_of test (xs ++ ys)
count-first test [] ys = omega arith
count-first test (x ∷ xs) ys = by (test x) (count-first test xs ys)
  where
    by : (b : Bool) → count_of test xs ≤ count_of test (xs ++ ys) → cond b (count_of test xs + 1) (count_of test xs)
        ≤ cond b (count_of test (xs ++ ys) + 1) (count_of test (xs ++ ys))
    by true rest = omega (arith, rest)
    by false rest = rest

module _ {K X T : Type 0} {o : ordered.Ghosts T} {e : equal.Ghosts T} (eq : K → K → Bool) (key_of : X → K) (x : X)
    (xs : List X) (old : ListsBy K T o e) where
  -- room for one more, or for one less
  pub reserves-more : (new : ListsBy K T o e)
      → ((q : K) → reserved eq q new ≡ cond (eq q (key_of x)) (reserved eq q old + 1) (reserved eq q old))
      → ReservesBy eq key_of xs old → ReservesBy eq key_of (x ∷ xs) new
  reserves-more new more has q = by (eq q (key_of x)) (more q) (has q)
    where
      by : (b : Bool) → reserved eq q new ≡ cond b (reserved eq q old + 1) (reserved eq q old)
          → count_of (λ x. eq q (key_of x)) xs ≤ reserved eq q old
          → cond b (count_of (λ x. eq q (key_of x)) xs + 1) (count_of (λ x. eq q (key_of x)) xs) ≤ reserved eq q new
      by true is was = omega (arith, is, was)
      by false is was = omega (arith, is, was)

  pub reserves-less : (new : ListsBy K T o e)
      → ((q : K) → reserved eq q new ≡ cond (eq q (key_of x)) (reserved eq q old - 1) (reserved eq q old))
      → ReservesBy eq key_of (x ∷ xs) old → ReservesBy eq key_of xs new
  reserves-less new less has q = by (eq q (key_of x)) (less q) (has q)
    where
      by : (b : Bool) → reserved eq q new ≡ cond b (reserved eq q old - 1) (reserved eq q old)
          → cond b (count_of (λ x. eq q (key_of x)) xs + 1) (count_of (λ x. eq q (key_of x)) xs) ≤ reserved eq q old
          → count_of (λ x. eq q (key_of x)) xs ≤ reserved eq q new
      by true is was = omega (arith, is, was)
      by false is was = omega (arith, is, was)

  pub reserves-rest : ReservesBy eq key_of (x ∷ xs) old → ReservesBy eq key_of xs old
  reserves-rest has q = by (eq q (key_of x)) (has q)
    where
      by : (b : Bool)
          → cond b (count_of (λ x. eq q (key_of x)) xs + 1) (count_of (λ x. eq q (key_of x)) xs) ≤ reserved eq q old
          → count_of (λ x. eq q (key_of x)) xs ≤ reserved eq q old
      by true was = omega (arith, was)
      by false was = was

  pub is-reserved : eq (key_of x) (key_of x) ≡ true → ReservesBy eq key_of (x ∷ xs) old → 0 < reserved eq (key_of x) old
  is-reserved itself has =
      let there = subst (λ (b : Bool). cond b (count_of (λ x'. eq (key_of x) (key_of x')) xs + 1)
      (count_of (λ x'. eq (key_of x) (key_of x')) xs) ≤ reserved eq (key_of x) old) itself (has (key_of x)) in
      omega (arith, there)

-- as much room as before
pub reserves-same : {K X T : Type 0} {o : ordered.Ghosts T} {e : equal.Ghosts T} (eq : K → K → Bool) (key_of : X → K)
    (xs : List X) (old new : ListsBy K T o e)
    → ((q : K) → reserved eq q new ≡ reserved eq q old) → ReservesBy eq key_of xs old → ReservesBy eq key_of xs new
reserves-same eq key_of xs old new same has q = let is = same q in let was = has q in omega (arith, is, was)

-- where there is room for more, there is room for the first of them
pub reserves-first : (indexes : Indexes) (namespaces later : List NamespaceId) (places after : List Location)
    → Reserves indexes (namespaces ++ later) (places ++ after) → Reserves indexes namespaces places
reserves-first indexes namespaces later places after has = record {
  namespace = λ q. fewer (λ namespace. same_namespace q namespace) namespaces later _ (has.namespace q);
  parent = λ q. fewer (λ (place : Location). same_id q place.mount) places after _ (has.parent q);
  inode = λ q. fewer (λ (place : Location). same_node q place.node) places after _ (has.inode q);
}
  where
    fewer : {X : Type 0} (test : X → Bool) (xs ys : List X) (n : ℕ) → count_of test (xs ++ ys) ≤ n
        → count_of test xs ≤ n
    fewer test xs ys n most = let less = count-first test xs ys in omega (arith, less, most)

-- one fewer
pub reserves-later : (indexes : Indexes) (namespaces : List NamespaceId) (place : Location) (places : List Location)
    → Reserves indexes namespaces (place ∷ places) → Reserves indexes namespaces places
reserves-later indexes namespaces place places has = record {
  namespace = has.namespace;
  parent = reserves-rest same_id (λ (place : Location). place.mount) place places indexes.by_parent has.parent;
  inode = reserves-rest same_node (λ (place : Location). place.node) place places indexes.by_inode has.inode;
}

pub moved_places-last : (points : List NewPoint) (point : NewPoint)
    → moved_places (points ++ point ∷ []) ≡ point.place ∷ moved_places points
moved_places-last points point = ap (map (λ (point : NewPoint). point.place)) (reverse-append points (point ∷ []))

pub reserves-none : (indexes : Indexes) → Reserves indexes [] []
reserves-none indexes = record {
  namespace = λ q. omega arith;
  parent = λ q. omega arith;
  inode = λ q. omega arith;
}

-- keys are equal to themselves
pub same_id-itself : (a : MountId) → same_id a a ≡ true
same_id-itself a = eq-eqb a.count a.count refl

pub same_namespace-itself : (a : NamespaceId) → same_namespace a a ≡ true
same_namespace-itself a = eq-eqb a.count a.count refl
