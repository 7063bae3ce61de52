-- Change numbers that are kept, by tests of what has them.
use Rattle.std.proofs.Common.{arith, ◌≡◌, ◌≤◌, ◌<◌, ◌+◌, zero, suc, length, drop, get_or, refl, sym, ap, ◌∙◌, ℕ, nat_eq, Bool, true, false, cond, not, ◌&&◌, ◌||◌, List, [], ◌∷◌, map, filter, find, is_some, Option, Some, None, unwrap_or, eqb-true}
use Rattle.std.proofs.lemmas.List.{length-drop}
use Rattle.vt_spec.proofs.Common.{Namespace, any_pair, drop_all, drop_more, length-map, nat_eq-swapped, or_parts, or_right, raised, same_task_name}
use Rattle.std.specs.Cmp.Lexicographic.{nat_list_eq_equiv, pointwise}
use Rattle.std.specs.List.{list_any}
use Rattle.std.specs.Map.{AreApart, IsKeyTest, KeepsOthers, lookup}
use Rattle.std.specs.declared.vec.Vec.{Vec}
use Rattle.vt_spec.specs.Language.Calls.{TaskName, same_name}
use Rattle.vt_location.proofs.NumberLemmas.{counted_test}
use Rattle.vt_location.specs.Numbers.{counted, namespace_number}
use Rattle.vt_location.specs.declared.numbers.FilesystemId.{FilesystemId}
use Rattle.vt_location.specs.declared.numbers.NamespaceId.{NamespaceId}
use Rattle.indexmap.specs.IndexMap.{insert_entry}
use Rattle.vt_changes.specs.Following.{if_there, raised_if}
use Rattle.vt_changes.specs.Kept.{is_filesystem, is_named, is_namespace, number_by}

module _ {K : Type 0} (eq : K → K → Bool) (turned : (a b : K) → eq a b ≡ eq b a) (test : K → Bool)
    (is : IsKeyTest eq test) where
  -- the number of a key is that of what passes a test that the key passes
  pub same_number : (key : K) → test key ≡ true → (entries : List (K × ℕ))
      → number_by (eq key) entries ≡ number_by test entries
  same_number key passes entries =
      ap (λ (t : K → Bool). number_by t entries) (λ i other. sym (is key other passes) i)

  -- what is put in
  pub insert_by : {V : Type 0} (key : K) (number : V) (entries : List (K × V))
      → lookup test (insert_entry eq entries key number) ≡ cond (test key) (Some number) (lookup test entries)
  insert_by key number [] = refl
  insert_by {V} key number (entry ∷ rest) =
      by (eq key entry.0) refl (test key) refl (test entry.0) refl (insert_by key number rest)
    where
      by : (b : Bool) → eq key entry.0 ≡ b → (c : Bool) → test key ≡ c → (d : Bool) → test entry.0 ≡ d
          → lookup test (insert_entry eq rest key number) ≡ cond (test key) (Some number) (lookup test rest)
          → lookup test (cond b ((entry.0, number) ∷ rest) (entry ∷ insert_entry eq rest key number))
          ≡ cond c (Some number) (cond d (Some entry.1) (lookup test rest))
      by true e true f true g next = ap (λ x. cond x (Some number) (lookup test rest)) g
      by true e true f false g next = absurd (cc (is key entry.0 f, e, g))
      by true e false f true g next = absurd (cc (is entry.0 key g, turned entry.0 key, e, f))
      by true e false f false g next = ap (λ x. cond x (Some number) (lookup test rest)) g
      by false e true f true g next = absurd (cc (is key entry.0 f, e, g))
      by false e true f false g next =
          ap (λ x. cond x (Some entry.1) (lookup test (insert_entry eq rest key number))) g ∙ next
          ∙ ap (λ x. cond x (Some number) (lookup test rest)) f
      by false e false f true g next =
          ap (λ x. cond x (Some entry.1) (lookup test (insert_entry eq rest key number))) g
      by false e false f false g next =
          ap (λ x. cond x (Some entry.1) (lookup test (insert_entry eq rest key number))) g ∙ next
          ∙ ap (λ x. cond x (Some number) (lookup test rest)) f

  -- a number that is raised
  pub raise_by : (key : K) (entries : List (K × ℕ))
      → number_by test (insert_entry eq entries key (raised (number_by (eq key) entries)))
      ≡ raised_if (test key) (number_by test entries)
  raise_by key entries = ap (λ found. unwrap_or found 0) (insert_by key _ entries) ∙ by (test key) refl
    where
      by : (b : Bool) → test key ≡ b
          → unwrap_or (cond b (Some (raised (number_by (eq key) entries))) (lookup test entries)) 0
          ≡ raised_if b (number_by test entries)
      by true e = ap raised (same_number key e entries)
      by false e = refl

-- numbers of what is there alone
module _ {K : Type 0} (test keeps : K → Bool) (kept : Bool) (same : (key : K) → test key ≡ true → keeps key ≡ kept) where
  filter_by : (entries : List (K × ℕ)) → lookup test (filter (λ (entry : K × ℕ). keeps entry.0) entries)
      ≡ cond kept (lookup test entries) None
  filter_by [] = by kept
    where
      nothing : Option ℕ
      nothing = None

      by : (b : Bool) → nothing ≡ cond b nothing None
      by true = refl
      by false = refl
  filter_by (entry ∷ rest) = by (keeps entry.0) refl (test entry.0) refl (filter_by rest)
    where
      left : List (K × ℕ)
      left = filter (λ (entry : K × ℕ). keeps entry.0) rest

      by : (b : Bool) → keeps entry.0 ≡ b → (c : Bool) → test entry.0 ≡ c
          → lookup test left ≡ cond kept (lookup test rest) None
          → lookup test (cond b (entry ∷ left) left) ≡ cond kept (cond c (Some entry.1) (lookup test rest)) None
      by true e true f next = ap (λ x. cond x (Some entry.1) (lookup test left)) f
          ∙ ap (λ x. cond x (Some entry.1) None) (sym e ∙ same entry.0 f)
      by true e false f next = ap (λ x. cond x (Some entry.1) (lookup test left)) f ∙ next
      by false e true f next = next ∙ ap (λ x. cond x (lookup test rest) None) (sym (same entry.0 f) ∙ e)
          ∙ sym (ap (λ x. cond x (Some entry.1) None) (sym (same entry.0 f) ∙ e))
      by false e false f next = next

  pub keep_by : (entries : List (K × ℕ)) → number_by test (filter (λ (entry : K × ℕ). keeps entry.0) entries)
      ≡ if_there kept (number_by test entries)
  keep_by entries = ap (λ found. unwrap_or found 0) (filter_by entries) ∙ by kept
    where
      by : (b : Bool) → unwrap_or (cond b (lookup test entries) None) 0 ≡ if_there b (number_by test entries)
      by true = refl
      by false = refl

-- The tests of names and numbers

pub name_test : {A : Type 0} (name : TaskName)
    → IsKeyTest (λ (a b : Vec ℕ A). pointwise nat_eq a.items b.items) (is_named name)
name_test name x y passes = nat_list_eq_equiv.congr name x.items y.items passes

pub namespace_test : (number : ℕ) → IsKeyTest (λ (a b : NamespaceId). nat_eq a.count b.count) (is_namespace number)
namespace_test number x y passes =
    ap (λ n. nat_eq n (counted y.count)) (eqb-true number (counted x.count) passes) ∙ counted_test x.count y.count

pub filesystem_test : (number : ℕ) → IsKeyTest (λ (a b : FilesystemId). nat_eq a.count b.count) (is_filesystem number)
filesystem_test number x y passes =
    ap (λ n. nat_eq n (counted y.count)) (eqb-true number (counted x.count) passes) ∙ counted_test x.count y.count

-- the number under an identifier
pub namespace_by : (id : NamespaceId) (entries : List (NamespaceId × ℕ))
    → number_by (λ (other : NamespaceId). nat_eq id.count other.count) entries
    ≡ number_by (is_namespace (counted id.count)) entries
namespace_by id entries = ap (λ (t : NamespaceId → Bool). number_by t entries)
    (λ i other. sym (counted_test id.count other.count) i)

pub filesystem_by : (id : FilesystemId) (entries : List (FilesystemId × ℕ))
    → number_by (λ (other : FilesystemId). nat_eq id.count other.count) entries
    ≡ number_by (is_filesystem (counted id.count)) entries
filesystem_by id entries = ap (λ (t : FilesystemId → Bool). number_by t entries)
    (λ i other. sym (counted_test id.count other.count) i)

-- The number of a task that was raised, or dropped

abbrev pub same_key : {A : Type 0} → Vec ℕ A → Vec ℕ A → Bool
same_key a b = pointwise nat_eq a.items b.items

others_same : {K : Type 0} {eq : K → K → Bool} {test : K → Bool} (entries left : List (K × ℕ))
    → KeepsOthers eq test entries left → (other : K → Bool) → IsKeyTest eq other → AreApart test other
    → lookup other left ≡ lookup other entries
unfolding KeepsOthers
others_same entries left keeps other is apart = keeps other is apart

module _ {A : Type 0} (name other : TaskName) where
  pub task_raised : (key : Vec ℕ A) → key.items ≡ name → (entries : List (Vec ℕ A × ℕ)) (exists : Bool) → exists ≡ true
      → number_by (is_named other) (insert_entry same_key entries key (raised (number_by (same_key key) entries)))
      ≡ cond (same_name name other) (if_there exists (raised (number_by (is_named other) entries)))
      (number_by (is_named other) entries)
  task_raised key is entries exists e =
      raise_by same_key (λ a b. nat_list_eq_equiv.symm a.items b.items) (is_named other) (name_test other) key entries
      ∙ ap (λ b. raised_if b (number_by (is_named other) entries))
      (ap (pointwise nat_eq other) is ∙ nat_list_eq_equiv.symm other name)
      ∙ ap (λ b. cond (same_name name other) (if_there b (raised (number_by (is_named other) entries)))
      (number_by (is_named other) entries)) (sym e)

  pub task_gone : (entries left : List (Vec ℕ A × ℕ)) → lookup (is_named name) left ≡ None
      → KeepsOthers same_key (is_named name) entries left → (exists : Bool) → exists ≡ false
      → number_by (is_named other) left
      ≡ cond (same_name name other) (if_there exists (raised (number_by (is_named other) entries)))
      (number_by (is_named other) entries)
  task_gone entries left none others exists e = by (same_name name other) refl
    where
      by : (b : Bool) → same_name name other ≡ b → number_by (is_named other) left
          ≡ cond b (if_there exists (raised (number_by (is_named other) entries))) (number_by (is_named other) entries)
      by true f = ap (λ (n : TaskName). number_by (is_named n) left) (sym (same_task_name name other f))
          ∙ ap (λ found. unwrap_or found 0) none
          ∙ ap (λ b. if_there b (raised (number_by (is_named other) entries))) (sym e)
      by false f = ap (λ found. unwrap_or found 0) (others_same entries left others (is_named other) (name_test other)
          (λ key passes. nat_list_eq_equiv.symm other key.items
          ∙ sym (nat_list_eq_equiv.congr name key.items other passes) ∙ f))

-- what is left of a list
pub any_dropped : {A : Type 0} (test : A → Bool) (i : ℕ) (list : List A) → list_any test (drop i list) ≡ true
    → list_any test list ≡ true
any_dropped test zero list e = e
any_dropped test (suc i) [] e = e
any_dropped test (suc i) (a ∷ rest) e = or_right (test a) (list_any test rest) (any_dropped test i rest e)

pair_dropped : {A : Type 0} (same : A → A → Bool) (i : ℕ) (list : List A) → any_pair same list ≡ false
    → any_pair same (drop i list) ≡ false
pair_dropped same zero list e = e
pair_dropped same (suc i) [] e = e
pair_dropped same (suc i) (a ∷ rest) e =
    pair_dropped same i rest (or_parts (list_any (same a) rest) (any_pair same rest) e).1

-- One more namespace is done: its number is raised, if it is to be
module _ (same : ℕ → Bool) (all : List NamespaceId)
    (apart : any_pair (λ (a b : NamespaceId). nat_eq a.count b.count) all ≡ false) (number : ℕ) where
  abbrev pub done_of : List NamespaceId → Bool
  done_of left = list_any (is_namespace number) all && not (list_any (is_namespace number) left) && not (same number)

  pub none_done : (start : ℕ) → start ≡ raised_if (done_of all) start
  none_done start = by (list_any (is_namespace number) all)
    where
      by : (b : Bool) → start ≡ raised_if (b && not b && not (same number)) start
      by true = refl
      by false = refl

  pub all_are_done : (i : ℕ) → length all ≤ i → (now start : ℕ) → now ≡ raised_if (done_of (drop i all)) start
      → now ≡ raised_if (list_any (is_namespace number) all && not (same number)) start
  all_are_done i past now start e = e ∙ ap (λ left. raised_if (done_of left) start) (drop_all i all past)
      ∙ by (list_any (is_namespace number) all)
    where
      by : (b : Bool) → raised_if (b && true && not (same number)) start ≡ raised_if (b && not (same number)) start
      by true = refl
      by false = refl

  module _ (i : ℕ) (d : NamespaceId) (less : i < length all) where
    abbrev first : NamespaceId
    first = get_or all i d

    abbrev rest : List NamespaceId
    rest = drop (i + 1) all

    more : drop i all ≡ first ∷ rest
    more = drop_more all i d less

    apart_here : list_any (λ (b : NamespaceId). nat_eq first.count b.count) rest ≡ false
    apart_here = (or_parts (list_any (λ (b : NamespaceId). nat_eq first.count b.count) rest)
        (any_pair (λ (a b : NamespaceId). nat_eq a.count b.count) rest)
        (ap (any_pair (λ (a b : NamespaceId). nat_eq a.count b.count)) (sym more)
        ∙ pair_dropped (λ (a b : NamespaceId). nat_eq a.count b.count) i all apart)).0

    pub one_done : (was now start : ℕ) → was ≡ raised_if (done_of (drop i all)) start
        → now ≡ raised_if (is_namespace number first && not (same (namespace_number first))) was
        → now ≡ raised_if (done_of rest) start
    one_done was now start e f = by (is_namespace number first) refl
      where
        by : (b : Bool) → is_namespace number first ≡ b → now ≡ raised_if (done_of rest) start
        by true is =
            let it : number ≡ namespace_number first = eqb-true number (namespace_number first) is in
            let none : list_any (is_namespace number) rest ≡ false =
            ap (λ (t : NamespaceId → Bool). list_any t rest)
            (λ i other. namespace_test number first other is i) ∙ apart_here in
            let left : list_any (is_namespace number) (drop i all) ≡ true =
            ap (list_any (is_namespace number)) more
            ∙ ap (λ b. b || list_any (is_namespace number) rest) is in
            let there : list_any (is_namespace number) all ≡ true = any_dropped (is_namespace number) i all left in
            let start_is : was ≡ start =
            e ∙ (λ k. raised_if (there k && not (left k) && not (same number)) start) in
            f ∙ (λ k. raised_if (is k && not (same (sym it k))) (start_is k))
            ∙ (λ k. raised_if (sym there k && not (sym none k) && not (same number)) start)
        by false is = f ∙ ap (λ b. raised_if (b && not (same (namespace_number first))) was) is ∙ e
            ∙ ap (λ left. raised_if (done_of left) start) more
            ∙ ap (λ b. raised_if (list_any (is_namespace number) all
            && not (b || list_any (is_namespace number) rest) && not (same number)) start) is

    -- one whose mounts are not what they were
    pub one_raised : (entries : List (NamespaceId × ℕ)) (start : ℕ) → same (namespace_number first) ≡ false
        → number_by (is_namespace number) entries ≡ raised_if (done_of (drop i all)) start
        → number_by (is_namespace number) (insert_entry (λ (a b : NamespaceId). nat_eq a.count b.count) entries first
        (raised (number_by (λ (b : NamespaceId). nat_eq first.count b.count) entries)))
        ≡ raised_if (done_of rest) start
    one_raised entries start differ e = one_done (number_by (is_namespace number) entries) _ start e
        (raise_by (λ (a b : NamespaceId). nat_eq a.count b.count) (λ a b. nat_eq-swapped b.count a.count _ refl)
        (is_namespace number) (namespace_test number) first entries
        ∙ by (is_namespace number first) (same (namespace_number first)) differ)
      where
        by : (b c : Bool) → c ≡ false → raised_if b (number_by (is_namespace number) entries)
            ≡ raised_if (b && not c) (number_by (is_namespace number) entries)
        by true true f = absurd cc
        by true false f = refl
        by false c f = refl

    -- one whose mounts are what they were
    pub one_kept : (now start : ℕ) → same (namespace_number first) ≡ true → now ≡ raised_if (done_of (drop i all)) start
        → now ≡ raised_if (done_of rest) start
    one_kept now start is e = one_done now now start e (by (is_namespace number first) (same (namespace_number first)) is)
      where
        by : (b c : Bool) → c ≡ true → now ≡ raised_if (b && not c) now
        by true true f = refl
        by true false f = absurd cc
        by false c f = refl

-- there is room for those that are left
pub room_left : (all : List NamespaceId) (i was now : ℕ) → i < length all → length (drop i all) ≤ was → was ≤ now + 1
    → length (drop (i + 1) all) ≤ now
room_left all i was now less room taken = omega (arith, length-drop i all, length-drop (i + 1) all, room, taken, less)

pub room_kept : (all : List NamespaceId) (i room : ℕ) → length (drop i all) ≤ room → length (drop (i + 1) all) ≤ room
room_kept all i room enough = omega (arith, length-drop i all, length-drop (i + 1) all, enough)

any_mapped : {A B : Type 0} (test : B → Bool) (f : A → B) (list : List A)
    → list_any test (map f list) ≡ list_any (λ a. test (f a)) list
any_mapped test f [] = refl
any_mapped test f (a ∷ rest) = ap (λ b. test (f a) || b) (any_mapped test f rest)

pair_mapped : {A B : Type 0} (test : B → B → Bool) (f : A → B) (list : List A)
    → any_pair test (map f list) ≡ any_pair (λ a b. test (f a) (f b)) list
pair_mapped test f [] = refl
pair_mapped test f (a ∷ rest) = λ i. any_mapped (test (f a)) f rest i || pair_mapped test f rest i

-- no two identifiers are the same
pub ids_apart : (ids : List NamespaceId) (namespaces : List (Namespace ℕ))
    → map namespace_number ids ≡ map (λ (n : Namespace ℕ). n.number) namespaces
    → any_pair (λ (a b : Namespace ℕ). nat_eq a.number b.number) namespaces ≡ false
    → any_pair (λ (a b : NamespaceId). nat_eq a.count b.count) ids ≡ false
ids_apart ids namespaces told apart =
    ap (λ (test : NamespaceId → NamespaceId → Bool). any_pair test ids)
    (λ i a b. sym (counted_test a.count b.count) i)
    ∙ sym (pair_mapped nat_eq namespace_number ids) ∙ ap (any_pair nat_eq) told
    ∙ pair_mapped nat_eq (λ (n : Namespace ℕ). n.number) namespaces ∙ apart

-- as many identifiers as namespaces
pub ids_many : (ids : List NamespaceId) (namespaces : List (Namespace ℕ))
    → map namespace_number ids ≡ map (λ (n : Namespace ℕ). n.number) namespaces → length ids ≡ length namespaces
ids_many ids namespaces told = sym (length-map ids namespace_number) ∙ ap length told
    ∙ length-map namespaces (λ (n : Namespace ℕ). n.number)

-- one of them is there
found_any : {A : Type 0} (test : A → Bool) (list : List A) → is_some (find test list) ≡ list_any test list
found_any test [] = refl
found_any test (a ∷ rest) = by (test a) (found_any test rest)
  where
    by : (b : Bool) → is_some (find test rest) ≡ list_any test rest
        → is_some (cond b (Some a) (find test rest)) ≡ (b || list_any test rest)
    by true next = refl
    by false next = next

pub ids_there : (number : ℕ) (ids : List NamespaceId) (namespaces : List (Namespace ℕ))
    → map namespace_number ids ≡ map (λ (n : Namespace ℕ). n.number) namespaces
    → list_any (is_namespace number) ids ≡ is_some (find (λ (n : Namespace ℕ). nat_eq number n.number) namespaces)
ids_there number ids namespaces told = sym (any_mapped (nat_eq number) namespace_number ids)
    ∙ ap (list_any (nat_eq number)) told ∙ any_mapped (nat_eq number) (λ (n : Namespace ℕ). n.number) namespaces
    ∙ sym (found_any (λ (n : Namespace ℕ). nat_eq number n.number) namespaces)
