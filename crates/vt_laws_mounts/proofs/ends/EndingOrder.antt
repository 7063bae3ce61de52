-- The mounts of a lazy unmount: each of the tree, the deepest first.
use Rattle.std.proofs.Common.{◌≡◌, refl, sym, subst, true, nat_eq, ℕ, List, [], arith, flat_map, inl, inr, length, map, zero, suc, ⊎_elim, ◌∷◌, ◌≤◌, ◌⊎◌, ltb-false, ltb-true}
use Rattle.vt_spec.proofs.Common.{Among, Mount, World, among-flat_map, among-from_flat_map, among-from_map, among-map, among_numbers, common_steps, deepest_first, depth_of, folded, insert_deepest, is_among, is_among_numbers, is_going, mount_numbered, mount_tree, number-mount_in, tree_among, tree_from, ⊤}
use Rattle.vt_laws_mounts.specs.Mounts.Attaching.{numbers_of}
use Rattle.vt_laws_mounts.specs.Mounts.Invariants.{OneNumberEach}
use Rattle.vt_laws_mounts.specs.Mounts.Standing.{AllStand}
use Rattle.vt_laws_mounts.proofs.mounts.MountsFound.{placed_among}
use Rattle.vt_laws_mounts.proofs.mounts.MountsReplaced.{found_itself}
use Rattle.vt_laws_mounts.proofs.mounts.Standing.{LiesIn, lies_in_tree, standing_is_computed}
use Rattle.vt_laws_mounts.proofs.mounts.Standing.LiesIn.{itself, under}
use Rattle.vt_laws_mounts.proofs.ends.UnmountingTrees.{trees_closed}

module _ (world : World ℕ) where
  -- the list begins with its deepest, and so does what follows
  abbrev pub AreDeepestFirst : List (Mount ℕ) → Type 0
  AreDeepestFirst [] = ⊤
  AreDeepestFirst (mount ∷ rest) =
      ((x : Mount ℕ) → Among x rest → depth_of nat_eq world x ≤ depth_of nat_eq world mount) × AreDeepestFirst rest

  abbrev insert : Mount ℕ → List (Mount ℕ) → List (Mount ℕ)
  insert mount sorted = insert_deepest nat_eq world mount sorted

  pub among_inserted : (mount : Mount ℕ) (sorted : List (Mount ℕ)) (x : Mount ℕ) → Among x (insert mount sorted)
      → Among x (mount ∷ sorted)
  among_inserted mount [] x m = m
  among_inserted mount (other ∷ rest) x m = grind (arith, common_steps, among_inserted mount rest x)

  inserted_among : (mount : Mount ℕ) (sorted : List (Mount ℕ)) (x : Mount ℕ) → Among x (mount ∷ sorted)
      → Among x (insert mount sorted)
  inserted_among mount [] x m = m
  inserted_among mount (other ∷ rest) x m = grind (arith, common_steps, inserted_among mount rest x)

  inserted_in_order : (mount : Mount ℕ) (sorted : List (Mount ℕ)) → AreDeepestFirst sorted
      → AreDeepestFirst (insert mount sorted)
  inserted_in_order mount [] order = (λ x m. absurd m, tt)
  inserted_in_order mount (other ∷ rest) order =
      grind (arith, common_steps, inserted_in_order mount rest order.1, ltb-true, among_inserted, ltb-false)

  abbrev all_inserted : List (Mount ℕ) → List (Mount ℕ) → List (Mount ℕ)
  all_inserted sorted mounts = folded (λ list mount. insert mount list) sorted mounts

  pub all_in_order : (mounts sorted : List (Mount ℕ)) → AreDeepestFirst sorted
      → AreDeepestFirst (all_inserted sorted mounts)
  all_in_order [] sorted order = order
  all_in_order (mount ∷ mounts) sorted order = all_in_order mounts _ (inserted_in_order mount sorted order)

  pub among_all_inserted : (mounts sorted : List (Mount ℕ)) (x : Mount ℕ) → Among x (all_inserted sorted mounts)
      → Among x sorted ⊎ Among x mounts
  among_all_inserted [] sorted x m = inl m
  among_all_inserted (mount ∷ mounts) sorted x m = ⊎_elim (λ first. ⊎_elim (λ e. inr (inl e)) inl
      (among_inserted mount sorted x first)) (λ later. inr (inr later)) (among_all_inserted mounts _ x m)

  pub all_inserted_among : (mounts sorted : List (Mount ℕ)) (x : Mount ℕ) → Among x sorted ⊎ Among x mounts
      → Among x (all_inserted sorted mounts)
  all_inserted_among [] sorted x m = ⊎_elim (λ l. l) (λ none. absurd none) m
  all_inserted_among (mount ∷ mounts) sorted x m = all_inserted_among mounts _ x (⊎_elim
      (λ l. inl (inserted_among mount sorted x (inr l)))
      (λ l. ⊎_elim (λ e. inl (inserted_among mount sorted x (inl e))) inr l) m)

  abbrev tree_of : ℕ → List (Mount ℕ)
  tree_of number = mount_tree nat_eq world.mounts (mount_numbered nat_eq world number)

  abbrev pub taken_in_turn : ℕ → List (Mount ℕ)
  taken_in_turn number = deepest_first nat_eq world (tree_of number)

  pub in_order : (number : ℕ) → AreDeepestFirst (taken_in_turn number)
  in_order number = all_in_order (tree_of number) [] tt

  pub from_tree : (number : ℕ) (x : Mount ℕ) → Among x (taken_in_turn number) → Among x (tree_of number)
  from_tree number x m = ⊎_elim (λ none. absurd none) (λ l. l) (among_all_inserted _ [] x m)

  module _ (one : OneNumberEach world) (all : AllStand world) where
    -- each of them lies in the tree
    pub lies_in_it : (number : ℕ) (x : Mount ℕ) → Among x (taken_in_turn number) → LiesIn world number x.number
    lies_in_it number x m = subst (λ k. LiesIn world k x.number) (number-mount_in _ number)
        (lies_in_tree world one all _ _ x (from_tree number x m))

    pub is_itself : (number : ℕ) (x : Mount ℕ) → Among x (taken_in_turn number)
        → mount_numbered nat_eq world x.number ≡ x
    is_itself number x m = ⊎_elim (λ top. cc (top, number-mount_in world.mounts number))
        (λ there. found_itself _ one x there) (tree_among _ _ _ x (from_tree number x m))

    -- and each that lies in the tree is one of them
    abbrev numbers_under : ℕ → List ℕ
    numbers_under number = map (λ (mount : Mount ℕ). mount.number)
        (flat_map (mount_tree nat_eq world.mounts) (mount_numbered nat_eq world number ∷ []))

    top_in_tree : (depth : ℕ) (top : Mount ℕ) → Among top (tree_from nat_eq depth world.mounts top)
    top_in_tree zero top = inl refl
    top_in_tree (suc depth) top = inl refl

    lies_under : (number x : ℕ) → LiesIn world number x → is_going nat_eq (numbers_under number) x ≡ true
    lies_under number x (itself it) =
        let top = mount_numbered nat_eq world it in
        is_among_numbers (numbers_under it) it
        (subst (λ k. Among k (numbers_under it)) (number-mount_in world.mounts it)
        (among-map (λ (mount : Mount ℕ). mount.number) (flat_map (mount_tree nat_eq world.mounts) (top ∷ [])) top
        (among-flat_map (mount_tree nat_eq world.mounts) (top ∷ []) top top (inl refl)
        (top_in_tree (length world.mounts) top))))
    lies_under number x (under top it place e way) =
        subst (λ k. is_going nat_eq (numbers_under top) k ≡ true) (number-mount_in world.mounts it)
        (trees_closed world one ((standing_is_computed world one).0 all) (mount_numbered nat_eq world top ∷ [])
        (mount_numbered nat_eq world it) place (placed_among world.mounts it place e) e
        (lies_under top place.mount way))

    pub is_taken_in_turn : (number x : ℕ) → LiesIn world number x
        → is_among nat_eq x (numbers_of (taken_in_turn number)) ≡ true
    is_taken_in_turn number x lies =
        let top = mount_numbered nat_eq world number in
        let from =
        among-from_map (λ (mount : Mount ℕ). mount.number) (flat_map (mount_tree nat_eq world.mounts) (top ∷ [])) x
        (among_numbers (numbers_under number) x (lies_under number x lies)) in
        let tree = among-from_flat_map (mount_tree nat_eq world.mounts) (top ∷ []) from.0 from.1 in
        let it : tree.0 ≡ top = ⊎_elim (λ e. e) (λ none. absurd none) tree.1 in
        let found : Among from.0 (tree_of number) =
        subst (λ t. Among from.0 (mount_tree nat_eq world.mounts t)) it tree.2 in
        is_among_numbers (numbers_of (taken_in_turn number)) x
        (subst (λ k. Among k (numbers_of (taken_in_turn number))) (sym from.2)
        (among-map (λ (mount : Mount ℕ). mount.number) (taken_in_turn number) from.0
        (all_inserted_among (tree_of number) [] from.0 (inr found))))
