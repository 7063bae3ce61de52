-- The events of a lazy unmount in order: the levels of the tree, turned round.
use Rattle.std.proofs.Common.{◌≡◌, ◌≤◌, refl, sym, ap, subst, ◌∙◌, arith, ℕ, zero, suc, nat_eq, eq-eqb, eqb-true, ne_eqb, Bool, true, false, true≢false, cond, List, [], ◌∷◌, ◌++◌, filter, flat_map, length, reverse, Option, None, Some, inl, inr, ⊎_elim, ltb-true, append-nil, append_assoc}
use Rattle.vt_spec.proofs.Common.{Among, Location, Mount, MountInvariants, World, among-append, among-from_filter, among-from_flat_map, among-from_map, children, common_steps, depth_of, filter-append, filter_here, filter_none, flat_map-append, folded, holds_of, insert_deepest, map-append, mount_in, mount_numbered, mount_tree, none_from_among, reverse-append, stands_on, tree_among, tree_from, ⊤}
use Rattle.vt_location.specs.declared.numbers.MountId.{MountId}
use Rattle.vt_laws_mounts.proofs.ends.EndingOrder.{AreDeepestFirst, among_inserted, in_order, is_itself, taken_in_turn}
use Rattle.vt_laws_mounts.proofs.mounts.MountsFound.{number-mount_in}
use Rattle.vt_laws_mounts.proofs.mounts.MountsReplaced.{found_itself}
use Rattle.vt_laws_mounts.proofs.mounts.Standing.{depth_by_rank, rank, rank_child}
use Rattle.vt_propagate.specs.LazyEvents.{children_of, levels_from}
use Rattle.vt_propagate.specs.LazyUnmounts.{lazy_events}
use Rattle.vt_propagate.proofs.Found.{counts}
use Rattle.vt_laws_mounts.specs.Mounts.Attaching.{numbers_of}

reverse-first : (x : ℕ) (xs : List ℕ) → reverse (x ∷ xs) ≡ reverse xs ++ (x ∷ [])
reverse-first x xs = reverse-append (x ∷ []) xs

among-reverse : (xs : List ℕ) (x : ℕ) → Among x (reverse xs) → Among x xs
among-reverse [] x m = m
among-reverse (y ∷ ys) x m = ⊎_elim (λ l. inr (among-reverse ys x l)) (λ l. ⊎_elim inl (λ none. absurd none) l)
    (among-append (reverse ys) (y ∷ []) x (subst (Among x) (reverse-first y ys) m))

-- Numbers by a key

module _ (key : ℕ → ℕ) where
  -- those with this key
  abbrev at : ℕ → List ℕ → List ℕ
  at d list = filter (λ x. nat_eq (key x) d) list

  -- no key is greater than one before it
  abbrev Falling : List ℕ → Type 0
  Falling [] = ⊤
  Falling (x ∷ rest) = ((y : ℕ) → Among y rest → key y ≤ key x) × Falling rest

  at_its_own : (x : ℕ) (rest : List ℕ) → at (key x) (x ∷ rest) ≡ x ∷ at (key x) rest
  at_its_own x rest = filter_here (λ y. nat_eq (key y) (key x)) x rest (eq-eqb (key x) (key x) refl)

  -- a list that falls is told by those with each key
  falling_alike : (xs ys : List ℕ) → Falling xs → Falling ys → ((d : ℕ) → at d xs ≡ at d ys) → xs ≡ ys
  falling_alike [] [] first second same = refl
  falling_alike [] (y ∷ ys) first second same = absurd (none (same (key y) ∙ at_its_own y ys))
    where
      none : [] ≡ y ∷ at (key y) ys → ⊥
      none e = cc
  falling_alike (x ∷ xs) [] first second same = absurd (none (sym (same (key x)) ∙ at_its_own x xs))
    where
      none : [] ≡ x ∷ at (key x) xs → ⊥
      none e = cc
  falling_alike (x ∷ xs) (y ∷ ys) first second same =
      λ i. heads i ∷ falling_alike xs ys first.1 second.1 (λ d. rest d (nat_eq (key x) d) refl) i
    where
      no_higher : (a b : ℕ) (mine others : List ℕ) → Falling (b ∷ others)
          → at (key a) (a ∷ mine) ≡ at (key a) (b ∷ others) → key a ≤ key b
      no_higher a b mine others falls e =
          ⊎_elim (λ it. let equal : key a ≡ key b = ap key it in omega (arith, equal)) (falls.0 a)
          (among-from_filter (λ z. nat_eq (key z) (key a)) (b ∷ others) a
          (subst (Among a) (sym (at_its_own a mine) ∙ e) (inl refl))).0

      equal : key y ≡ key x
      equal =
          let one : key x ≤ key y = no_higher x y xs ys second (same (key x)) in
          let other : key y ≤ key x = no_higher y x ys xs first (sym (same (key y))) in
          omega (arith, one, other)

      both : x ∷ at (key x) xs ≡ y ∷ at (key x) ys
      both = sym (at_its_own x xs) ∙ same (key x)
          ∙ filter_here (λ z. nat_eq (key z) (key x)) y ys (eq-eqb (key y) (key x) equal)

      heads : x ≡ y
      heads = cc both

      rest : (d : ℕ) (b : Bool) → nat_eq (key x) d ≡ b → at d xs ≡ at d ys
      rest d true e = tails
        where
          mine : at d (x ∷ xs) ≡ x ∷ at d xs
          mine = ap (λ b. cond b (x ∷ at d xs) (at d xs)) e

          other : at d (y ∷ ys) ≡ y ∷ at d ys
          other = ap (λ b. cond b (y ∷ at d ys) (at d ys)) (ap (λ k. nat_eq k d) equal ∙ e)

          together : x ∷ at d xs ≡ y ∷ at d ys
          together = sym mine ∙ same d ∙ other

          tails : at d xs ≡ at d ys
          tails = cc together
      rest d false e = sym (ap (λ b. cond b (x ∷ at d xs) (at d xs)) e) ∙ same d
          ∙ ap (λ b. cond b (y ∷ at d ys) (at d ys)) (ap (λ k. nat_eq k d) equal ∙ e)

  falling-append : (xs ys : List ℕ) → Falling xs → Falling ys
      → ((x y : ℕ) → Among x xs → Among y ys → key y ≤ key x) → Falling (xs ++ ys)
  falling-append [] ys first second below = second
  falling-append (x ∷ xs) ys first second below = (
    λ y m. ⊎_elim (first.0 y) (below x y (inl refl)) (among-append xs ys y m),
    falling-append xs ys first.1 second (λ a b m k. below a b (inr m) k),
  )

  same_falls : (d : ℕ) (list : List ℕ) → ((x : ℕ) → Among x list → key x ≡ d) → Falling list
  same_falls d [] all = tt
  same_falls d (x ∷ rest) all = (
    λ y m. let one = all x (inl refl) in let other = all y (inr m) in omega (arith, one, other),
    same_falls d rest (λ y m. all y (inr m)),
  )

  at-reverse : (d : ℕ) (list : List ℕ) → at d (reverse list) ≡ reverse (at d list)
  at-reverse d [] = refl
  at-reverse d (x ∷ rest) = grind (arith, common_steps, at-reverse d rest)

  all_at : (d : ℕ) (list : List ℕ) → ((x : ℕ) → Among x list → key x ≡ d) → at d list ≡ list
  all_at d [] all = refl
  all_at d (x ∷ rest) all = filter_here (λ y. nat_eq (key y) d) x rest (eq-eqb (key x) d (all x (inl refl)))
      ∙ ap (λ list. x ∷ list) (all_at d rest (λ y m. all y (inr m)))

  none_at : (d : ℕ) (list : List ℕ) → ((x : ℕ) → Among x list → key x ≡ d → ⊥) → at d list ≡ []
  none_at d list none = filter_none (λ y. nat_eq (key y) d) list
      (none_from_among (λ y. nat_eq (key y) d) list (λ x m. ne_eqb (key x) d (none x m)))

-- The levels of a tree

module _ (world : World ℕ) (kept : MountInvariants nat_eq world) where
  abbrev key_of : ℕ → ℕ
  key_of number = rank world kept.one_number kept.standing number

  abbrev AllOf : ℕ → List ℕ → Type 0
  AllOf r list = (x : ℕ) → Among x list → key_of x ≡ r

  abbrev kids : ℕ → List ℕ
  kids number = numbers_of (children nat_eq world.mounts number)

  abbrev levels : ℕ → List ℕ → List ℕ
  levels n list = levels_from n world.mounts list

  kids_higher : (x : ℕ) → AllOf (suc (key_of x)) (kids x)
  kids_higher x c m =
      let from = among-from_map (λ (y : Mount ℕ). y.number) (children nat_eq world.mounts x) c m in
      let on_it = among-from_filter (stands_on nat_eq x) world.mounts from.0 from.1 in
      ap key_of from.2 ∙ by from.0 on_it.0 from.0.mount_point refl on_it.1
    where
      by : (child : Mount ℕ) → Among child world.mounts → (o : Option (Location ℕ)) → child.mount_point ≡ o
          → stands_on nat_eq x child ≡ true → key_of child.number ≡ suc (key_of x)
      by child there None e on = absurd (true≢false (sym on ∙ ap (holds_of (λ (p : Location ℕ). nat_eq x p.mount)) e))
      by child there (Some place) e on = rank_child world kept.one_number kept.standing child.number place
          (ap (λ (y : Mount ℕ). y.mount_point) (found_itself world.mounts kept.one_number child there) ∙ e)
          ∙ ap (λ n. suc (key_of n))
          (sym (eqb-true x place.mount (sym (ap (holds_of (λ (p : Location ℕ). nat_eq x p.mount)) e) ∙ on)))

  all_kids_higher : (r : ℕ) (list : List ℕ) → AllOf r list → AllOf (suc r) (children_of world.mounts list)
  all_kids_higher r list all c m =
      let from = among-from_flat_map kids list c m in
      kids_higher from.0 c from.2 ∙ ap suc (all from.0 from.1)

  no_lower : (n r : ℕ) (list : List ℕ) → AllOf r list → (x : ℕ) → Among x (levels n list) → r ≤ key_of x
  no_lower zero r list all x m = let same = all x m in omega (arith, same)
  no_lower (suc n) r list all x m = ⊎_elim (λ here. let same = all x here in omega (arith, same)) (λ later.
      let up = no_lower n (suc r) (children_of world.mounts list) (all_kids_higher r list all) x later in
      omega (arith, up)) (among-append list (levels n (children_of world.mounts list)) x m)

  levels_fall : (n r : ℕ) (list : List ℕ) → AllOf r list → Falling key_of (reverse (levels n list))
  levels_fall zero r list all = same_falls key_of r (reverse list) (λ x m. all x (among-reverse list x m))
  levels_fall (suc n) r list all =
      let next : List ℕ = children_of world.mounts list in
      subst (Falling key_of) (sym (reverse-append list (levels n next)))
      (falling-append key_of (reverse (levels n next)) (reverse list)
      (levels_fall n (suc r) next (all_kids_higher r list all))
      (same_falls key_of r (reverse list) (λ x m. all x (among-reverse list x m))) (λ x y m k.
      let same = all y (among-reverse list y k) in
      let up = no_lower n (suc r) next (all_kids_higher r list all) x (among-reverse (levels n next) x m) in
      omega (arith, same, up)))

  -- a tree by its numbers
  under : ℕ → ℕ → List ℕ
  under zero x = x ∷ []
  under (suc n) x = x ∷ flat_map (under n) (kids x)

  tree_numbers : (n : ℕ) (mount : Mount ℕ) → numbers_of (tree_from nat_eq n world.mounts mount) ≡ under n mount.number
  unfolding under
  tree_numbers zero mount = refl
  tree_numbers (suc n) mount =
      ap (λ list. mount.number ∷ list) (all_trees (tree_numbers n) (children nat_eq world.mounts mount.number))
    where
      all_trees : ((x : Mount ℕ) → numbers_of (tree_from nat_eq n world.mounts x) ≡ under n x.number)
          → (list : List (Mount ℕ))
          → numbers_of (flat_map (tree_from nat_eq n world.mounts) list) ≡ flat_map (under n) (numbers_of list)
      all_trees each [] = refl
      all_trees each (x ∷ rest) = map-append (λ (y : Mount ℕ). y.number) (tree_from nat_eq n world.mounts x)
          (flat_map (tree_from nat_eq n world.mounts) rest) ∙ (λ i. each x i ++ all_trees each rest i)

  same_at : (n d r : ℕ) (list : List ℕ) → AllOf r list
      → at key_of d (flat_map (under n) list) ≡ at key_of d (levels n list)
  unfolding under
  same_at zero d r list all = ap (at key_of d) (singles list)
    where
      singles : (some : List ℕ) → flat_map (under zero) some ≡ some
      singles [] = refl
      singles (x ∷ some) = ap (λ rest. x ∷ rest) (singles some)
  same_at (suc n) d r list all = by (nat_eq r d) refl (same_at n d)
    where
      next : List ℕ
      next = children_of world.mounts list

      below : ℕ → List ℕ
      below x = flat_map (under n) (kids x)

      later : List ℕ
      later = levels n next

      all_below : (some : List ℕ) → flat_map below some ≡ flat_map (under n) (children_of world.mounts some)
      all_below [] = refl
      all_below (x ∷ some) = ap (λ rest. below x ++ rest) (all_below some)
          ∙ sym (flat_map-append (under n) (kids x) (children_of world.mounts some))

      tops : d ≡ r → (some : List ℕ) → AllOf r some → ((m : ℕ) (others : List ℕ) → AllOf m others
          → at key_of d (flat_map (under n) others) ≡ at key_of d (levels n others))
          → at key_of d (flat_map (λ x. x ∷ below x) some) ≡ some
      tops same [] of_them again = refl
      tops same (x ∷ some) of_them again =
          filter_here (λ y. nat_eq (key_of y) d) x (below x ++ flat_map (λ y. y ∷ below y) some)
          (eq-eqb (key_of x) d (of_them x (inl refl) ∙ sym same)) ∙ ap (λ rest. x ∷ rest)
          (filter-append (λ y. nat_eq (key_of y) d) (below x) (flat_map (λ y. y ∷ below y) some)
          ∙ (λ i. empty i ++ tops same some (λ y m. of_them y (inr m)) again i))
        where
          empty : at key_of d (below x) ≡ []
          empty = again (suc (key_of x)) (kids x) (kids_higher x) ∙ none_at key_of d (levels n (kids x)) (λ y m e.
              let up = no_lower n (suc (key_of x)) (kids x) (kids_higher x) y m in
              let here = of_them x (inl refl) in
              absurd (omega (arith, up, here, e, same)))

      skipped : nat_eq r d ≡ false → (some : List ℕ) → AllOf r some
          → at key_of d (flat_map (λ x. x ∷ below x) some) ≡ at key_of d (flat_map below some)
      skipped apart [] of_them = refl
      skipped apart (x ∷ some) of_them = ap (λ b. cond b (x ∷ at key_of d (below x ++ flat_map (λ y. y ∷ below y) some))
          (at key_of d (below x ++ flat_map (λ y. y ∷ below y) some)))
          (ap (λ k. nat_eq k d) (of_them x (inl refl)) ∙ apart)
          ∙ filter-append (λ y. nat_eq (key_of y) d) (below x) (flat_map (λ y. y ∷ below y) some)
          ∙ ap (λ rest. at key_of d (below x) ++ rest) (skipped apart some (λ y m. of_them y (inr m)))
          ∙ sym (filter-append (λ y. nat_eq (key_of y) d) (below x) (flat_map below some))

      by : (b : Bool) → nat_eq r d ≡ b → ((m : ℕ) (others : List ℕ) → AllOf m others
          → at key_of d (flat_map (under n) others) ≡ at key_of d (levels n others))
          → at key_of d (flat_map (λ x. x ∷ below x) list) ≡ at key_of d (list ++ later)
      by true e again =
          let same : d ≡ r = sym (eqb-true r d e) in
          tops same list all again ∙ sym (append-nil list)
          ∙ sym (λ i. all_at key_of d list (λ x m. all x m ∙ sym same) i ++ none_later same i)
          ∙ sym (filter-append (λ y. nat_eq (key_of y) d) list later)
        where
          none_later : d ≡ r → at key_of d later ≡ []
          none_later same = none_at key_of d later (λ x m f.
              let up = no_lower n (suc r) next (all_kids_higher r list all) x m in
              absurd (omega (arith, up, f, same)))
      by false e again = skipped e list all ∙ ap (at key_of d) (all_below list)
          ∙ again (suc r) next (all_kids_higher r list all) ∙ ap (λ front. front ++ at key_of d later) (sym none_here)
          ∙ sym (filter-append (λ y. nat_eq (key_of y) d) list later)
        where
          none_here : at key_of d list ≡ []
          none_here = none_at key_of d list (λ x m f. true≢false (sym (eq-eqb r d (sym (all x m) ∙ f)) ∙ e))

  -- Put in order

  abbrev IsDeep : Mount ℕ → Type 0
  IsDeep mount = depth_of nat_eq world mount ≡ suc (key_of mount.number)

  inserted_at : (d : ℕ) (mount : Mount ℕ) (sorted : List (Mount ℕ)) → IsDeep mount
      → ((x : Mount ℕ) → Among x sorted → IsDeep x)
      → at key_of d (numbers_of (insert_deepest nat_eq world mount sorted))
      ≡ at key_of d (mount.number ∷ numbers_of sorted)
  inserted_at d mount [] deep all = refl
  inserted_at d mount (other ∷ rest) deep all = grind (arith, common_steps, inserted_at d mount rest, eqb-true, ltb-true)

  all_inserted_at : (d : ℕ) (mounts sorted : List (Mount ℕ)) → ((x : Mount ℕ) → Among x mounts → IsDeep x)
      → ((x : Mount ℕ) → Among x sorted → IsDeep x)
      → at key_of d (numbers_of (folded (λ sorted mount. insert_deepest nat_eq world mount sorted) sorted mounts))
      ≡ reverse (at key_of d (numbers_of mounts)) ++ at key_of d (numbers_of sorted)
  all_inserted_at d [] sorted all deep = refl
  all_inserted_at d (mount ∷ mounts) sorted all deep =
      all_inserted_at d mounts (insert_deepest nat_eq world mount sorted) (λ x m. all x (inr m))
      (λ x m. ⊎_elim (λ same. subst IsDeep (sym same) (all mount (inl refl))) (deep x)
      (among_inserted world mount sorted x m)) ∙ ap (λ list. reverse (at key_of d (numbers_of mounts)) ++ list)
      (inserted_at d mount sorted (all mount (inl refl)) deep) ∙ by (nat_eq (key_of mount.number) d)
    where
      some : List ℕ
      some = at key_of d (numbers_of mounts)

      rest : List ℕ
      rest = at key_of d (numbers_of sorted)

      by : (b : Bool) → reverse some ++ cond b (mount.number ∷ rest) rest
          ≡ reverse (cond b (mount.number ∷ some) some) ++ rest
      by true = sym (append_assoc (reverse some) (mount.number ∷ []) rest)
          ∙ ap (λ front. front ++ rest) (sym (reverse-first mount.number some))
      by false = refl

  falls_by_depth : (list : List (Mount ℕ)) → AreDeepestFirst world list
      → ((x : Mount ℕ) → Among x list → IsDeep x) → Falling key_of (numbers_of list)
  falls_by_depth [] order all = tt
  falls_by_depth (mount ∷ rest) order all = (
    λ y m.
        let from = among-from_map (λ (x : Mount ℕ). x.number) rest y m in
        let low = order.0 from.0 from.1 in
        let one = all mount (inl refl) in
        let other = all from.0 (inr from.1) in
        let same : key_of y ≡ key_of from.0.number = ap key_of from.2 in
        omega (arith, low, one, other, same),
    falls_by_depth rest order.1 (λ x m. all x (inr m)),
  )

  deep_itself : (mount : Mount ℕ) → mount_numbered nat_eq world mount.number ≡ mount → IsDeep mount
  deep_itself mount itself =
      ap (depth_of nat_eq world) (sym itself) ∙ depth_by_rank world kept.one_number kept.standing mount.number

  in_tree : (number : ℕ) (mount : Mount ℕ)
      → Among mount (mount_tree nat_eq world.mounts (mount_numbered nat_eq world number))
      → mount_numbered nat_eq world mount.number ≡ mount
  in_tree number mount m = ⊎_elim (λ same. ap (λ (x : Mount ℕ). mount_in nat_eq world.mounts x.number) same
      ∙ ap (mount_in nat_eq world.mounts) (number-mount_in world.mounts number) ∙ sym same)
      (λ among. found_itself world.mounts kept.one_number mount among)
      (tree_among (length world.mounts) world.mounts (mount_numbered nat_eq world number) mount m)

  -- a lazy unmount takes the levels of its tree, the deepest first
  pub lazy_levels : (number : ℕ)
      → numbers_of (lazy_events world number) ≡ reverse (levels_from (length world.mounts) world.mounts (number ∷ []))
  lazy_levels number = falling_alike key_of (numbers_of (lazy_events world number)) (reverse (levels n (number ∷ [])))
      (falls_by_depth (taken_in_turn world number) (in_order world number) (λ x m.
      deep_itself x (is_itself world kept.one_number kept.standing number x m)))
      (levels_fall n (key_of number) (number ∷ []) one) (λ d.
      all_inserted_at d tree [] (λ x m. deep_itself x (in_tree number x m)) (λ x m. absurd m)
      ∙ append-nil (reverse (at key_of d (numbers_of tree))) ∙ ap (λ list. reverse (at key_of d list))
      (tree_numbers n (mount_numbered nat_eq world number) ∙ ap (under n) (number-mount_in world.mounts number)
      ∙ sym (append-nil (under n number))) ∙ ap reverse (same_at n d (key_of number) (number ∷ []) one)
      ∙ sym (at-reverse key_of d (levels n (number ∷ []))))
    where
      n : ℕ
      n = length world.mounts

      tree : List (Mount ℕ)
      tree = mount_tree nat_eq world.mounts (mount_numbered nat_eq world number)

      one : AllOf (key_of number) (number ∷ [])
      one x m = ⊎_elim (λ e. ap key_of e) (λ none. absurd none) m

-- after a last level nothing follows
no_more_levels : (n : ℕ) (mounts : List (Mount ℕ)) → levels_from n mounts [] ≡ []
no_more_levels zero mounts = refl
no_more_levels (suc n) mounts = no_more_levels n mounts

-- the numbers of a list turned round are its numbers turned round
pub counts-reverse : (ids : List MountId) → counts (reverse ids) ≡ reverse (counts ids)
counts-reverse [] = refl
counts-reverse (id ∷ ids) = grind (arith, common_steps, counts-reverse ids, map-append)

-- an empty list has no numbers
pub none_counted : (ids : List MountId) → length ids ≡ 0 → counts ids ≡ []
none_counted [] none = refl
none_counted (id ∷ ids) none = absurd (omega (arith, none))

-- the next level follows those that are there
module _ (mounts : List (Mount ℕ)) (all level : List ℕ) (n : ℕ) where
  -- one more level is taken from those that are left
  pub next_level : {more next : List ℕ} → more ≡ all ++ level → next ≡ children_of mounts level
      → more ++ levels_from n mounts next ≡ all ++ levels_from (suc n) mounts level
  next_level is children = (λ i. is i ++ levels_from n mounts (children i))
      ∙ append_assoc all level (levels_from n mounts (children_of mounts level))

  -- and none where a level is empty
  pub no_next : level ≡ [] → all ≡ all ++ levels_from n mounts level
  no_next none =
      sym (append-nil all) ∙ ap (λ rest. all ++ rest) (sym (ap (levels_from n mounts) none ∙ no_more_levels n mounts))
