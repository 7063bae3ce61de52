-- Ranks of names, among entries as they are kept and among those that contracts see.
use Rattle.std.proofs.Common.{◌≡◌, ◌+◌, ◌≤◌, ℕ, zero, suc, Bool, true, false, cond, ◌&&◌, List, [], ◌∷◌, nat_eq, eqb-true, eq-eqb, Option, None, Some, is_some, option_map, length, get_or, take, drop, ◌<◌, refl, sym, ap, subst, ◌∙◌, true≢false, arith, filter, find, zip, Ordering, Less, Equal, Greater, is_eq, is_lt, nat_cmp, take_all}
use Rattle.vt_spec.proofs.Common.{AllByRecursion, Entries, and_true_left, and_true_right, below_all, by_order, drop_more, entry_named, entry_named-below, eq_by_cmp, found_passes, is_sorted, keys_of, length-map, lookup, name_cmp, nat_list_cmp_total, passes, same_Some, tied_itself, values_of, with_entry}
use Rattle.std.specs.declared.vec.Vec.{Vec}
use Rattle.std.specs.Cmp.Lexicographic.{lists_agrees, slice_partial_cmp}
use Rattle.std.specs.List.{IsDistinct}
use Rattle.std.specs.Ordering.{is_some_and, ordering_reverse}
use Rattle.vt_node.specs.Listed.{listed}
use Rattle.vt_node.specs.Ranks.{has_rank, name_ranked, rank_among}
use Rattle.vt_node.proofs.ListedLemmas.{find-listed, is_name, is_sorted-listed, key_eq}
use Rattle.std.proofs.lemmas.List.{get_or-map}
use Rattle.std.proofs.lemmas.List.Filters.{length-filter_more}
use Rattle.std.proofs.Math.ListN.{drop_of_length-le}
use Rattle.vt_spec.proofs.Nodes.{same_name}

one_more : {X : Type 0} (b : Bool) (x : X) (xs : List X) → length (cond b (x ∷ xs) xs) ≡ length xs + cond b 1 0
one_more true x xs = omega arith
one_more false x xs = omega arith

longer : {X : Type 0} (b : Bool) (x : X) (xs ys : List X) (n : ℕ) → length xs ≡ length ys + n
    → length (cond b (x ∷ xs) xs) ≡ length (cond b (x ∷ ys) ys) + n
longer true x xs ys n e = omega (arith, e)
longer false x xs ys n e = e

-- a new entry counts once
count_with : (p : List ℕ × ℕ → Bool) (name : List ℕ) (id : ℕ) (entries : Entries ℕ) → entry_named name entries ≡ None
    → length (filter p (with_entry name id entries)) ≡ length (filter p entries) + cond (p (name, id)) 1 0
count_with p name id [] none = one_more (p (name, id)) (name, id) []
count_with p name id (entry ∷ entries) none = by (name_cmp name entry.0) none (count_with p name id entries)
  where
    by : (o : Ordering) → cond (is_eq o) (Some entry.1) (entry_named name entries) ≡ None
        → (entry_named name entries ≡ None → length (filter p (with_entry name id entries))
        ≡ length (filter p entries) + cond (p (name, id)) 1 0)
        → length (filter p (by_order o ((name, id) ∷ entry ∷ entries) ((entry.0, id) ∷ entries)
        (entry ∷ with_entry name id entries))) ≡ length (filter p (entry ∷ entries)) + cond (p (name, id)) 1 0
    by Less none rest = one_more (p (name, id)) (name, id) (filter p (entry ∷ entries))
    by Equal none rest = absurd (true≢false (ap is_some none))
    by Greater none rest =
        longer (p entry) entry (filter p (with_entry name id entries)) (filter p entries) (cond (p (name, id)) 1 0)
        (rest none)

-- bytes that are less come before
pub is_smaller : (a b : List ℕ)
    → is_some_and is_lt (slice_partial_cmp (λ x y. Some (nat_cmp x y)) a b) ≡ is_lt (name_cmp a b)
is_smaller a b = ap (is_some_and is_lt) (lists_agrees {R = nat_cmp} {C = λ x y. Some (nat_cmp x y)} (λ x y. refl) a b)

-- whether an entry leads to a node by a smaller name
abbrev pub before : ℕ → List ℕ → List ℕ × ℕ → Bool
before id name entry = nat_eq id entry.1 && is_lt (name_cmp entry.0 name)

-- a name that comes before another has a smaller rank
module _ (a b : List ℕ) (id : ℕ) (less : name_cmp a b ≡ Less) where
  Less_from : (o : Ordering) → is_lt o ≡ true → o ≡ Less
  Less_from Less e = refl
  Less_from Equal e = absurd (true≢false (sym e))
  Less_from Greater e = absurd (true≢false (sym e))

  also_before : (entry : List ℕ × ℕ) → before id a entry ≡ true → before id b entry ≡ true
  also_before entry e = (λ i. and_true_left (nat_eq id entry.1) (is_lt (name_cmp entry.0 a)) e i
      && is_lt (nat_list_cmp_total.trans entry.0 a b
      (Less_from (name_cmp entry.0 a) (and_true_right (nat_eq id entry.1) (is_lt (name_cmp entry.0 a)) e)) less i))

  no_fewer : (p q : Bool) (entry : List ℕ × ℕ) (n : ℕ) (ps qs : Entries ℕ) → (p ≡ true → q ≡ true)
      → n + length ps ≤ length qs → n + length (cond p (entry ∷ ps) ps) ≤ length (cond q (entry ∷ qs) qs)
  no_fewer true true entry n ps qs imply few = omega (arith, few)
  no_fewer true false entry n ps qs imply few = absurd (true≢false (sym (imply refl)))
  no_fewer false true entry n ps qs imply few = omega (arith, few)
  no_fewer false false entry n ps qs imply few = few

  all_before : (entries : Entries ℕ) → 0 + length (filter (before id a) entries) ≤ length (filter (before id b) entries)
  all_before [] = omega arith
  all_before (entry ∷ entries) =
      no_fewer (before id a entry) (before id b entry) entry 0 (filter (before id a) entries) (filter (before id b) entries)
      (also_before entry) (all_before entries)

  it_counts : (p q : Bool) (entry : List ℕ × ℕ) (ps qs : Entries ℕ) → p ≡ false → q ≡ true
      → 0 + length ps ≤ length qs → 1 + length (cond p (entry ∷ ps) ps) ≤ length (cond q (entry ∷ qs) qs)
  it_counts true q entry ps qs out within few = absurd (true≢false out)
  it_counts false true entry ps qs out within few = omega (arith, few)
  it_counts false false entry ps qs out within few = absurd (true≢false (sym within))

  not_itself : (c : Bool) (o : Ordering) → is_eq o ≡ true → (c && is_lt o) ≡ false
  not_itself true Less e = absurd (true≢false (sym e))
  not_itself true Equal e = refl
  not_itself true Greater e = absurd (true≢false (sym e))
  not_itself false o e = refl

  pub rank_less : (entries : Entries ℕ) → entry_named a entries ≡ Some id
      → 1 + rank_among entries a id ≤ rank_among entries b id
  rank_less [] named = absurd (true≢false (sym (ap is_some named)))
  rank_less (entry ∷ entries) named = by (eq_by_cmp name_cmp a entry.0) refl named (rank_less entries)
    where
      by : (c : Bool) → eq_by_cmp name_cmp a entry.0 ≡ c → cond c (Some entry.1) (entry_named a entries) ≡ Some id
          → (entry_named a entries ≡ Some id → 1 + rank_among entries a id ≤ rank_among entries b id)
          → 1 + rank_among (entry ∷ entries) a id ≤ rank_among (entry ∷ entries) b id
      by true e named rest =
          let is : a ≡ entry.0 = same_name a entry.0 e in
          let leads : nat_eq id entry.1 ≡ true = eq-eqb id entry.1 (sym (same_Some entry.1 id named)) in
          it_counts (before id a entry) (before id b entry) entry (filter (before id a) entries) (filter (before id b) entries)
          (not_itself (nat_eq id entry.1) (name_cmp entry.0 a)
          (ap (λ n. is_eq (name_cmp entry.0 n)) is ∙ ap is_eq (tied_itself nat_list_cmp_total entry.0)))
          ((λ i. leads i && is_lt (name_cmp (sym is i) b)) ∙ ap is_lt less) (all_before entries)
      by false e named rest =
          no_fewer (before id a entry) (before id b entry) entry 1 (filter (before id a) entries) (filter (before id b) entries)
          (also_before entry) (rest named)

-- two names of one node have different ranks
pub same_rank : (a b : List ℕ) (id : ℕ) (entries : Entries ℕ) → entry_named a entries ≡ Some id
    → entry_named b entries ≡ Some id → rank_among entries a id ≡ rank_among entries b id → a ≡ b
same_rank a b id entries named other same = by (name_cmp a b) refl
  where
    by : (o : Ordering) → name_cmp a b ≡ o → a ≡ b
    by Less e = absurd (let less = rank_less a b id e entries named in omega (arith, less, same))
    by Equal e = same_name a b (ap is_eq e)
    by Greater e =
        absurd (let less = rank_less b a id (nat_list_cmp_total.antisymm b a ∙ ap ordering_reverse e) entries other in
        omega (arith, less, same))

-- what is found has its name and passes
pub found_is_there : (p : List ℕ × ℕ → Bool) (entries : Entries ℕ) (entry : List ℕ × ℕ)
    → is_sorted name_cmp entries ≡ true → find p entries ≡ Some entry → entry_named entry.0 entries ≡ Some entry.1
found_is_there p [] entry sorted e = absurd (true≢false (sym (ap is_some e)))
found_is_there p (first ∷ entries) entry sorted e = by (p first) e (λ rest.
    found_is_there p entries entry (and_true_right (below_all name_cmp first.0 entries) _ sorted) rest)
  where
    later : (is : Bool) → eq_by_cmp name_cmp entry.0 first.0 ≡ is → entry_named entry.0 entries ≡ Some entry.1
        → cond is (Some first.1) (entry_named entry.0 entries) ≡ Some entry.1
    later true t named =
        absurd (true≢false (sym (ap is_some (sym (ap (λ n. entry_named n entries) (same_name entry.0 first.0 t)
        ∙ entry_named-below first.0 entries (and_true_left (below_all name_cmp first.0 entries) _ sorted)) ∙ named))))
    later false t named = named

    by : (b : Bool) → cond b (Some first) (find p entries) ≡ Some entry
        → (find p entries ≡ Some entry → entry_named entry.0 entries ≡ Some entry.1)
        → entry_named entry.0 (first ∷ entries) ≡ Some entry.1
    by true e rest =
        subst (λ (found : List ℕ × ℕ). entry_named found.0 (first ∷ entries) ≡ Some found.1) (same_Some first entry e)
        (ap (λ o. cond (is_eq o) (Some first.1) (entry_named first.0 entries)) (tied_itself nat_list_cmp_total first.0))
    by false e rest = later (eq_by_cmp name_cmp entry.0 first.0) refl (rest e)

-- what is there and passes is found, at least as another that passes
pub some_is_found : (p : List ℕ × ℕ → Bool) (name : List ℕ) (id : ℕ) (entries : Entries ℕ)
    → entry_named name entries ≡ Some id → p (name, id) ≡ true → is_some (find p entries) ≡ true
some_is_found p name id [] named passes = absurd (true≢false (sym (ap is_some named)))
some_is_found p name id (entry ∷ entries) named passes =
    by (eq_by_cmp name_cmp name entry.0) refl named (λ rest. some_is_found p name id entries rest passes)
  where
    right : (b : Bool) → is_some (find p entries) ≡ true → is_some (cond b (Some entry) (find p entries)) ≡ true
    right true e = refl
    right false e = e

    by : (b : Bool) → eq_by_cmp name_cmp name entry.0 ≡ b → cond b (Some entry.1) (entry_named name entries) ≡ Some id
        → (entry_named name entries ≡ Some id → is_some (find p entries) ≡ true)
        → is_some (cond (p entry) (Some entry) (find p entries)) ≡ true
    by true e named rest =
        let is : p entry ≡ true = (λ i. p (sym (same_name name entry.0 e) i, same_Some entry.1 id named i)) ∙ passes in
        ap (λ b. is_some (cond b (Some entry) (find p entries))) is
    by false e named rest = right (p entry) (rest named)

-- by its rank a name is found
pub ranked_is_found : (name : List ℕ) (id : ℕ) (entries : Entries ℕ) → is_sorted name_cmp entries ≡ true
    → entry_named name entries ≡ Some id → name_ranked entries id (rank_among entries name id) ≡ Some name
ranked_is_found name id entries sorted named = by (find (has_rank entries id rank) entries) refl
    (some_is_found (has_rank entries id rank) name id entries named
    (λ i. eq-eqb id id refl i && eq-eqb rank rank refl i))
  where
    rank : ℕ
    rank = rank_among entries name id

    by : (o : Option (List ℕ × ℕ)) → find (has_rank entries id rank) entries ≡ o → is_some o ≡ true
        → option_map (λ entry. entry.0) o ≡ Some name
    by None e some = absurd (true≢false (sym some))
    by (Some entry) e some =
        let has_it = found_passes (has_rank entries id rank) entries entry e in
        let leads : id ≡ entry.1 = eqb-true id entry.1 (and_true_left (nat_eq id entry.1) _ has_it) in
        let same : rank ≡ rank_among entries entry.0 id =
        eqb-true rank (rank_among entries entry.0 id) (and_true_right (nat_eq id entry.1) _ has_it) in
        ap Some (sym (same_rank name entry.0 id entries named
        (found_is_there (has_rank entries id rank) entries entry sorted e ∙ ap Some (sym leads)) same))

-- a name that has a rank is there, and has it
pub ranked_is_there : (id rank : ℕ) (entries : Entries ℕ) (name : List ℕ) → is_sorted name_cmp entries ≡ true
    → name_ranked entries id rank ≡ Some name
    → (entry_named name entries ≡ Some id) × (rank ≡ rank_among entries name id)
ranked_is_there id rank entries name sorted e = by (find (has_rank entries id rank) entries) refl e
  where
    by : (o : Option (List ℕ × ℕ)) → find (has_rank entries id rank) entries ≡ o
        → option_map (λ entry. entry.0) o ≡ Some name
        → (entry_named name entries ≡ Some id) × (rank ≡ rank_among entries name id)
    by None found e = absurd (true≢false (sym (ap is_some e)))
    by (Some entry) found e =
        let has_it = found_passes (has_rank entries id rank) entries entry found in
        let is : entry.0 ≡ name = same_Some entry.0 name e in
        let leads : id ≡ entry.1 = eqb-true id entry.1 (and_true_left (nat_eq id entry.1) _ has_it) in (
          ap (λ n. entry_named n entries) (sym is)
              ∙ found_is_there (has_rank entries id rank) entries entry sorted found ∙ ap Some (sym leads),
          eqb-true rank (rank_among entries entry.0 id) (and_true_right (nat_eq id entry.1) _ has_it)
              ∙ ap (λ n. rank_among entries n id) is,
        )

-- what passes is found where a list has something that passes
abbrev nonzero : ℕ → Bool
nonzero zero = false
nonzero (suc n) = true

some_counts : {X : Type 0} (p : X → Bool) (xs : List X) → is_some (find p xs) ≡ nonzero (length (filter p xs))
some_counts p [] = refl
some_counts {X} p (x ∷ xs) = by (p x) (some_counts p xs)
  where
    by : (b : Bool) → is_some (find p xs) ≡ nonzero (length (filter p xs))
        → is_some (cond b (Some x) (find p xs)) ≡ nonzero (length (cond b (x ∷ filter p xs) (filter p xs)))
    by true rest = refl
    by false rest = rest

another_is_found : {X : Type 0} (p q : X → Bool) (xs : List X) (x : X) → find p xs ≡ Some x → q x ≡ true
    → is_some (find q xs) ≡ true
another_is_found p q [] x found is = absurd (true≢false (sym (ap is_some found)))
another_is_found p q (first ∷ xs) x found is = by (p first) found (λ rest. another_is_found p q xs x rest is)
  where
    right : (b : Bool) → is_some (find q xs) ≡ true → is_some (cond b (Some first) (find q xs)) ≡ true
    right true e = refl
    right false e = e

    by : (b : Bool) → cond b (Some first) (find p xs) ≡ Some x → (find p xs ≡ Some x → is_some (find q xs) ≡ true)
        → is_some (cond (q first) (Some first) (find q xs)) ≡ true
    by true found rest = ap (λ b. is_some (cond b (Some first) (find q xs))) (ap q (same_Some first x found) ∙ is)
    by false found rest = right (q first) (rest found)

module _ {A : Type 0} where
  -- a kept entry as contracts see it
  abbrev pub entry_seen : Vec ℕ A × ℕ → List ℕ × ℕ
  entry_seen entry = (entry.0.items, entry.1)

  pub absent : (name : List ℕ) (es : List (Vec ℕ A × ℕ)) → AllByRecursion (λ key. is_name name key ≡ false) (keys_of es)
      → lookup (is_name name) es ≡ None
  absent name [] apart = refl
  absent name (e ∷ es) apart = ap (λ b. cond b (Some e.1) (lookup (is_name name) es)) apart.0 ∙ absent name es apart.1

  -- as many of the kept entries pass as of those that contracts see
  pub count-listed : (p : List ℕ × ℕ → Bool) (es : List (Vec ℕ A × ℕ)) → IsDistinct key_eq (keys_of es)
      → length (filter p (listed es)) ≡ length (filter (λ e. p (entry_seen e)) es)
  unfolding IsDistinct
  count-listed p [] distinct = refl
  count-listed p (e ∷ es) distinct =
      let none = find-listed e.0.items es ∙ absent e.0.items es distinct.0 in
      let new = count_with p e.0.items e.1 (listed es) none in
      let rest = count-listed p es distinct.1 in
      new ∙ ap (λ n. n + cond (p (entry_seen e)) 1 0) rest
      ∙ sym (one_more (p (entry_seen e)) e (filter (λ e. p (entry_seen e)) es))

  -- what is found among kept entries has the same name among those that contracts see
  kept_is_listed : (p : List ℕ × ℕ → Bool) (es : List (Vec ℕ A × ℕ)) → IsDistinct key_eq (keys_of es)
      → is_some (find p (listed es)) ≡ is_some (find (λ e. p (entry_seen e)) es)
  kept_is_listed p es distinct = some_counts p (listed es) ∙ ap nonzero (count-listed p es distinct)
      ∙ sym (some_counts (λ e. p (entry_seen e)) es)

  pub ranked-listed : (id rank : ℕ) (es : List (Vec ℕ A × ℕ)) → IsDistinct key_eq (keys_of es)
      → name_ranked (listed es) id rank
      ≡ option_map (λ e. e.0.items) (find (λ e. has_rank (listed es) id rank (entry_seen e)) es)
  ranked-listed id rank es distinct = by (find (λ e. has (entry_seen e)) es) refl
    where
      has : List ℕ × ℕ → Bool
      has = has_rank (listed es) id rank

      sorted : is_sorted name_cmp (listed es) ≡ true
      sorted = passes _ (is_sorted-listed es)

      nothing : (o : Option (List ℕ × ℕ)) → is_some o ≡ false → option_map (λ entry. entry.0) o ≡ None
      nothing None e = refl
      nothing (Some entry) e = absurd (true≢false e)

      named : (name : List ℕ) (o : Option (List ℕ × ℕ))
          → find (λ entry. has entry && eq_by_cmp name_cmp name entry.0) (listed es) ≡ o → is_some o ≡ true
          → name_ranked (listed es) id rank ≡ Some name
      named name None found some = absurd (true≢false (sym some))
      named name (Some entry) found some =
          let both = found_passes (λ entry. has entry && eq_by_cmp name_cmp name entry.0) (listed es) entry found in
          let has_it : has entry ≡ true = and_true_left (has entry) _ both in
          let leads : id ≡ entry.1 = eqb-true id entry.1 (and_true_left (nat_eq id entry.1) _ has_it) in
          let its : rank ≡ rank_among (listed es) entry.0 id =
          eqb-true rank (rank_among (listed es) entry.0 id) (and_true_right (nat_eq id entry.1) _ has_it) in
          ap (name_ranked (listed es) id) its ∙ ranked_is_found entry.0 id (listed es) sorted
          (found_is_there (λ entry. has entry && eq_by_cmp name_cmp name entry.0) (listed es) entry sorted found
          ∙ ap Some (sym leads)) ∙ ap Some (sym (same_name name entry.0 (and_true_right (has entry) _ both)))

      by : (o : Option (Vec ℕ A × ℕ)) → find (λ e. has (entry_seen e)) es ≡ o
          → name_ranked (listed es) id rank ≡ option_map (λ e. e.0.items) o
      by None e = nothing (find has (listed es)) (kept_is_listed has es distinct ∙ ap is_some e)
      by (Some kept) e =
          let passes_too : (has (entry_seen kept) && eq_by_cmp name_cmp kept.0.items kept.0.items) ≡ true =
          (λ i. found_passes (λ e. has (entry_seen e)) es kept e i
          && is_eq (tied_itself nat_list_cmp_total kept.0.items i)) in
          named kept.0.items (find (λ entry. has entry && eq_by_cmp name_cmp kept.0.items entry.0) (listed es)) refl
          (kept_is_listed (λ entry. has entry && eq_by_cmp name_cmp kept.0.items entry.0) es distinct
          ∙ another_is_found (λ e. has (entry_seen e))
          (λ e. has (entry_seen e) && eq_by_cmp name_cmp kept.0.items e.0.items) es kept e passes_too)

  -- entries are the keys and the values side by side
  pub zip_columns : (es : List (Vec ℕ A × ℕ)) → zip (keys_of es) (values_of es) ≡ es
  zip_columns [] = refl
  zip_columns (e ∷ es) = ap (λ rest. e ∷ rest) (zip_columns es)

  abbrev pub counted_to : (List ℕ × ℕ → Bool) → ℕ → List (Vec ℕ A) → List ℕ → ℕ
  counted_to p place names numbers = length (filter (λ e. p (entry_seen e)) (take place (zip names numbers)))

  abbrev pub found_from : (List ℕ × ℕ → Bool) → ℕ → List (Vec ℕ A) → List ℕ → Option (List ℕ)
  found_from p place names numbers =
      option_map (λ e. e.0.items) (find (λ e. p (entry_seen e)) (drop place (zip names numbers)))

  -- columns, and what is read at a place of them
  pub record AreColumns (es : List (Vec ℕ A × ℕ)) (names : List (Vec ℕ A)) (numbers : List ℕ) : Type 0 where
    pub names_are : names ≡ keys_of es
    pub numbers_are : numbers ≡ values_of es

  pub key_there : (names : List (Vec ℕ A)) (place : ℕ) → place < length names
      → (key : Vec ℕ A) × (key ≡ get_or names place key)
  key_there [] place within = absurd (omega (arith, within))
  key_there (key ∷ names) zero within = (key, refl)
  key_there (key ∷ names) (suc place) within = key_there names place (omega (arith, within))

  module _ {es : List (Vec ℕ A × ℕ)} {names : List (Vec ℕ A)} {numbers : List ℕ} (columns : AreColumns es names numbers)
      (p : List ℕ × ℕ → Bool) where
    together : zip names numbers ≡ es
    together = (λ i. zip (columns.names_are i) (columns.numbers_are i)) ∙ zip_columns es

    pub counted_all : (place : ℕ) → length numbers ≤ place
        → counted_to p place names numbers ≡ length (filter (λ e. p (entry_seen e)) es)
    counted_all place far =
        ap (λ (l : List (Vec ℕ A × ℕ)). length (filter (λ e. p (entry_seen e)) (take place l))) together
        ∙ ap (λ (l : List (Vec ℕ A × ℕ)). length (filter (λ e. p (entry_seen e)) l))
        (take_all place es (let long = ap length columns.numbers_are ∙ length-map es (λ (e : Vec ℕ A × ℕ). e.1) in
        omega (arith, far, long)))

    pub found_all : found_from p 0 names numbers ≡ option_map (λ e. e.0.items) (find (λ e. p (entry_seen e)) es)
    found_all = ap (λ (l : List (Vec ℕ A × ℕ)). option_map (λ e. e.0.items) (find (λ e. p (entry_seen e)) l)) together

    pub found_none : (place : ℕ) → length numbers ≤ place → found_from p place names numbers ≡ None
    found_none place far =
        ap (λ (l : List (Vec ℕ A × ℕ)). option_map (λ e. e.0.items) (find (λ e. p (entry_seen e)) (drop place l))) together
        ∙ ap (λ (l : List (Vec ℕ A × ℕ)). option_map (λ e. e.0.items) (find (λ e. p (entry_seen e)) l))
        (drop_of_length-le es (let long = ap length columns.numbers_are ∙ length-map es (λ (e : Vec ℕ A × ℕ). e.1) in
        omega (arith, far, long)))

    pub key_at : (place : ℕ) → place < length numbers → (key : Vec ℕ A) × (key ≡ get_or names place key)
    key_at place within =
        key_there names place (let long = ap length columns.numbers_are ∙ length-map es (λ (e : Vec ℕ A × ℕ). e.1) in
        let wide = ap length columns.names_are ∙ length-map es (λ (e : Vec ℕ A × ℕ). e.0) in
        omega (arith, within, long, wide))

    module _ (place : ℕ) (key : Vec ℕ A) (number : ℕ) (within : place < length numbers)
        (its_key : key ≡ get_or names place key) (its_number : number ≡ get_or numbers place number) where
      near : place < length es
      near =
          let long = ap length columns.numbers_are ∙ length-map es (λ (e : Vec ℕ A × ℕ). e.1) in
          omega (arith, within, long)

      there : get_or es place (key, number) ≡ (key, number)
      there = λ j. (
        sym (its_key ∙ ap (λ (l : List (Vec ℕ A)). get_or l place key) columns.names_are
            ∙ get_or-map (λ (e : Vec ℕ A × ℕ). e.0) es place (key, number) key near) j,
        sym (its_number ∙ ap (λ l. get_or l place number) columns.numbers_are
            ∙ get_or-map (λ (e : Vec ℕ A × ℕ). e.1) es place (key, number) number near) j,
      )

      pub counted_more : counted_to p (place + 1) names numbers
          ≡ counted_to p place names numbers + cond (p (key.items, number)) 1 0
      counted_more =
          ap (λ (l : List (Vec ℕ A × ℕ)). length (filter (λ e. p (entry_seen e)) (take (place + 1) l))) together
          ∙ length-filter_more (λ e. p (entry_seen e)) es place (key, number) near
          ∙ (λ j. length (filter (λ e. p (entry_seen e)) (take place (sym together j)))
          + cond (p (entry_seen (there j))) 1 0)

      pub counts_one : p (key.items, number) ≡ true
          → counted_to p (place + 1) names numbers ≡ counted_to p place names numbers + 1
      counts_one e = counted_more ∙ ap (λ b. counted_to p place names numbers + cond b 1 0) e

      pub counts_none : p (key.items, number) ≡ false
          → counted_to p (place + 1) names numbers ≡ counted_to p place names numbers
      counts_none e = counted_more ∙ ap (λ b. counted_to p place names numbers + cond b 1 0) e
          ∙ (let nothing : counted_to p place names numbers + 0 ≡ counted_to p place names numbers = omega arith in
          nothing)

      pub found_or_later : found_from p place names numbers
          ≡ cond (p (key.items, number)) (Some key.items) (found_from p (place + 1) names numbers)
      found_or_later =
          ap (λ (l : List (Vec ℕ A × ℕ)). option_map (λ e. e.0.items) (find (λ e. p (entry_seen e)) (drop place l))) together
          ∙ ap (λ (l : List (Vec ℕ A × ℕ)). option_map (λ e. e.0.items) (find (λ e. p (entry_seen e)) l))
          (drop_more es place (key, number) near) ∙ here (p (key.items, number)) refl
        where
          here : (b : Bool) → p (key.items, number) ≡ b
              → option_map (λ e. e.0.items) (find (λ e. p (entry_seen e)) (get_or es place (key, number) ∷ drop (place + 1) es))
              ≡ cond b (Some key.items) (found_from p (place + 1) names numbers)
          here true e =
              (λ j. option_map (λ e. e.0.items) (find (λ e. p (entry_seen e)) (there j ∷ drop (place + 1) es)))
              ∙ ap (λ b. option_map (λ e. e.0.items) (cond b (Some (key, number))
              (find (λ e. p (entry_seen e)) (drop (place + 1) es)))) e
          here false e =
              (λ j. option_map (λ e. e.0.items) (find (λ e. p (entry_seen e)) (there j ∷ drop (place + 1) es)))
              ∙ ap (λ b. option_map (λ e. e.0.items) (cond b (Some (key, number))
              (find (λ e. p (entry_seen e)) (drop (place + 1) es)))) e
              ∙ ap (λ (l : List (Vec ℕ A × ℕ)). option_map (λ e. e.0.items)
              (find (λ e. p (entry_seen e)) (drop (place + 1) l))) (sym together)
