-- A namespace ends with its last task, and how many mounts a namespace has.
use Rattle.std.proofs.Common.{◌≡◌, refl, sym, ap, ◌∙◌, ⊎_elim, ℕ, nat_eq, eqb-true, eq-eqb, Bool, true, false, not, ◌&&◌, ◌+◌, ◌++◌, ◌≤◌, List, [], ◌∷◌, filter, length, map, Option, Some, None, option_map, option_to_list, arith, nat_lt}
use Rattle.vt_spec.proofs.Common.{Location, Mount, Namespace, World, after_going, and_parts, cases_Bool, common_steps, filter_alike, filter_all, has_tasks, holds_of, is_in_ended, is_listed, list_all, list_any, most_mounts, inherited_mount_point, mounts_of, nat_tests, or-false, or_false_left, regrouped, taken_away, with_mounts}
use Rattle.vt_laws_mounts.specs.Mounts.Ending.{is_in, mount_count}
use Rattle.vt_laws_mounts.specs.LettingGo.Ends.{AddedMountsCount, AddedMountsCountInNoOther, AddedMountsCountInTheirOwn, MountsAreListed, NoNamespaceEnds, OneNamespaceEnds, TooManyIsOfOne, TooManyIsOfSome}
use Rattle.vt_laws_mounts.proofs.letting_go.Lists.{Among, among-from_map, among_from_list_all, among_numbers, any_among, any_from_among, map_same, none_among, none_from_among, nothing_passes}

-- Where nothing is taken away, places stay.
module _ (world : World ℕ) where
  place_stays : (place : Location ℕ) → inherited_mount_point nat_eq world [] place ≡ place
  place_stays place = grind (arith, common_steps)

  pub nothing_taken : taken_away nat_eq world [] ≡ regrouped nat_eq world
  nothing_taken = ap (λ mounts. regrouped nat_eq (with_mounts world mounts))
      (map_same (after_going nat_eq world []) world.mounts
      (λ mount m. ap (λ place. record mount { mount_point = place }) (same mount.mount_point)))
    where
      same : (o : Option (Location ℕ)) → option_map (inherited_mount_point nat_eq world []) o ≡ o
      same None = refl
      same (Some place) = ap Some (place_stays place)

  -- the namespace of a mount is there
  its_namespace : (number : ℕ) → is_listed nat_eq world number ≡ true
      → (namespace : Namespace ℕ) × Among namespace world.namespaces × (number ≡ namespace.number)
  its_namespace number e = among-from_map _ _ number (among_numbers number _ e)

  abbrev lives_on : ℕ → Bool
  lives_on number = list_any (λ namespace. nat_eq number namespace.number
      && has_tasks nat_eq world namespace) world.namespaces

  its_tasks : (number : ℕ) (namespace : Namespace ℕ) → Among namespace world.namespaces → number ≡ namespace.number
      → has_tasks nat_eq world namespace ≡ true → lives_on number ≡ true
  its_tasks number namespace m same has = any_from_among _ _ _ m (ap (λ b. b && has_tasks nat_eq world namespace)
      (eq-eqb number namespace.number same) ∙ has)

  listed_of : MountsAreListed world → (mount : Mount ℕ) → Among mount world.mounts → (number : ℕ)
      → mount.namespace ≡ Some number → is_listed nat_eq world number ≡ true
  listed_of listed mount m number e = (and_parts (is_listed nat_eq world number) true
      (sym (ap (λ o. list_all (is_listed nat_eq world) (option_to_list o)) e) ∙ among_from_list_all _ _ listed mount
      m)).0

-- groups are no namespaces
namespaces-regrouped : (world : World ℕ) → (regrouped nat_eq world).namespaces ≡ world.namespaces
namespaces-regrouped world = grind (arith, common_steps)

pub no_namespace_ends : NoNamespaceEnds
no_namespace_ends world listed all =
    (λ i. record (taken_away nat_eq world (ap (map (λ (mount : Mount ℕ). mount.number)) none i)) {
      namespaces = filter_all (has_tasks nat_eq world) world.namespaces
          (among_from_list_all (has_tasks nat_eq world) world.namespaces all) i;
    }) ∙ (λ i. record (nothing_taken world i) { namespaces = same_namespaces i })
  where
    by : (mount : Mount ℕ) → Among mount world.mounts → (o : Option ℕ) → mount.namespace ≡ o
        → holds_of (λ number. not (lives_on world number)) o ≡ false
    by mount m None e = refl
    by mount m (Some number) e =
        let t = its_namespace world number (listed_of world listed mount m number e) in
        ap not (its_tasks world number t.0 t.1 t.2
        (among_from_list_all (has_tasks nat_eq world) world.namespaces all t.0 t.1))

    none : filter (is_in_ended nat_eq world) world.mounts ≡ []
    none = nothing_passes (is_in_ended nat_eq world) world.mounts (λ mount m. by mount m mount.namespace refl)

    same_namespaces : world.namespaces ≡ (regrouped nat_eq world).namespaces
    same_namespaces = sym (namespaces-regrouped world)

pub one_namespace_ends : OneNamespaceEnds
one_namespace_ends world number listed empty others = λ i. record (taken_away nat_eq world
    (map (λ (mount : Mount ℕ). mount.number) (same_mounts i))) {
      namespaces = filter_alike _ _ _ (λ namespace m. has_or_is _ m _ refl) i;
    }
  where
    no_tasks : (namespace : Namespace ℕ) → nat_eq number namespace.number ≡ true
        → has_tasks nat_eq world namespace ≡ false
    no_tasks namespace e = ap (λ n. list_any (λ task. nat_eq n task.namespace) world.tasks)
        (sym (eqb-true number namespace.number e)) ∙ empty

    its_others : (namespace : Namespace ℕ) → Among namespace world.namespaces → nat_eq number namespace.number ≡ false
        → has_tasks nat_eq world namespace ≡ true
    its_others namespace m e = cc (among_from_list_all _ _ others _ m)

    has_or_is : (namespace : Namespace ℕ) → Among namespace world.namespaces → (b : Bool)
        → nat_eq number namespace.number ≡ b → has_tasks nat_eq world namespace ≡ not b
    has_or_is namespace m true e = no_tasks namespace e
    has_or_is namespace m false e = its_others _ m e

    ends : (mount : Mount ℕ) → Among mount world.mounts → (o : Option ℕ) → mount.namespace ≡ o
        → holds_of (λ n. not (lives_on world n)) o ≡ holds_of (nat_eq number) o
    ends mount m None e = refl
    ends mount m (Some n) e = by _ refl
      where
        by : (b : Bool) → nat_eq number n ≡ b → not (lives_on world n) ≡ b
        by true f = ap not (none_from_among (λ namespace. nat_eq n namespace.number
            && has_tasks nat_eq world namespace) world.namespaces
            (λ namespace k. none namespace (nat_eq n namespace.number) refl))
          where
            none : (namespace : Namespace ℕ) (b : Bool) → nat_eq n namespace.number ≡ b
                → (b && has_tasks nat_eq world namespace) ≡ false
            none namespace true g = no_tasks namespace (ap (λ k. nat_eq k namespace.number) (eqb-true number n f) ∙ g)
            none namespace false g = refl
        by false f =
            let t = its_namespace world n (listed_of world listed mount m n e) in
            ap not (its_tasks world n t.0 t.1 t.2 (its_others t.0 t.1 (ap (nat_eq number) (sym t.2) ∙ f)))

    same_mounts : filter (is_in_ended nat_eq world) world.mounts ≡ mounts_of nat_eq world number
    same_mounts = filter_alike _ _ _ (λ mount m. ends mount m _ refl)

-- How many mounts
count_both : (p : Mount ℕ → Bool) (before added : List (Mount ℕ))
    → length (filter p (before ++ added)) ≡ length (filter p before) + length (filter p added)
count_both p [] added = omega arith
count_both p (mount ∷ before) added = grind (arith, common_steps, count_both p before added)

pub added_mounts_count_in_their_own : AddedMountsCountInTheirOwn
added_mounts_count_in_their_own world added namespace = count_both (is_in namespace) world.mounts added

pub added_mounts_count : AddedMountsCount
added_mounts_count world added namespace all = added_mounts_count_in_their_own world added namespace
    ∙ ap (λ (list : List (Mount ℕ)). mount_count world namespace + length list)
    (filter_all _ added (among_from_list_all _ added all))

pub added_mounts_count_in_no_other : AddedMountsCountInNoOther
added_mounts_count_in_no_other world added namespace other all differ =
    added_mounts_count_in_their_own world added other ∙ ap (λ (list : List (Mount ℕ)). mount_count world other + length
    list) (nothing_passes _ added (λ mount m. elsewhere _ (among_from_list_all _ added all mount m))) ∙ omega arith
  where
    elsewhere : (o : Option ℕ) → holds_of (nat_eq namespace) o ≡ true → holds_of (nat_eq other) o ≡ false
    elsewhere None e = refl
    elsewhere (Some number) e = ap (nat_eq other) (sym (eqb-true namespace number e)) ∙ differ

no_more : (most few some : ℕ) → nat_lt most few ≡ false → some ≤ few → nat_lt most some ≡ false
no_more most few some e h = grind (arith, nat_tests)

module _ (world after : World ℕ) where
  abbrev overfull : ℕ → Bool
  overfull namespace = nat_lt most_mounts (mount_count after namespace)

  -- a namespace that is there is one of those that are counted
  counted_there : (number : ℕ) → is_listed nat_eq world number ≡ true → overfull number ≡ true
      → list_any (λ namespace. overfull namespace.number) world.namespaces ≡ true
  counted_there number listed e =
      let t = its_namespace world number listed in
      any_from_among _ _ t.0 t.1 (ap overfull (sym t.2) ∙ e)

pub too_many_is_of_some : TooManyIsOfSome
too_many_is_of_some world after namespaces few same listed others =
    ap (list_any (λ n. overfull world after n.number)) same ∙ by _ refl
  where
    by : (b : Bool) → list_any (overfull world after) namespaces ≡ b
        → list_any (λ n. overfull world after n.number) world.namespaces ≡ b
    by true e =
        let t = any_among (overfull world after) namespaces e in
        counted_there world after t.0 (among_from_list_all _ _ listed t.0 t.1) t.2
    by false e = none_from_among (λ n. overfull world after n.number) world.namespaces
        (λ n m. ⊎_elim (λ is. none_among (overfull world after) namespaces e n.number (among_numbers _ _ is))
        (λ isnt. no_more most_mounts (mount_count world n.number) (mount_count after n.number) (none_among _ _ few n m)
        (others n.number isnt)) (cases_Bool _))

pub too_many_is_of_one : TooManyIsOfOne
too_many_is_of_one world after namespace few same listed others =
    too_many_is_of_some world after (namespace ∷ []) few same (ap (λ b. b && true) listed)
    (λ other isnt. others other (or_false_left _ false isnt)) ∙ or-false (overfull world after namespace)
