-- The events of a lazy unmount of a mount of theirs are the same in the part, in the same order.
use Rattle.std.proofs.Common.{◌≡◌, refl, sym, ap, subst, ◌∙◌, inl, inr, ⊎_elim, ℕ, zero, suc, nat_eq, arith, true, List, [], ◌∷◌, Some, None, length, ◌≤◌, if◌then◌else◌, nat_lt}
use Rattle.vt_spec.proofs.Common.{Among, Location, Mount, MountInvariants, Task, TaskName, World, among-from_filter, among-from_flat_map, chain_ends, children, common_steps, depth_of, folded, insert_deepest, members, mount_numbered, mount_tree, number-mount_in, part_of, stands_on, tree_from}
use Rattle.vt_laws_members.proofs.Common.{cases_Option, AllStand, IsSealed, OneNumberEach, among_inserted, depth_by_rank, from_tree, is_own, numbered, rank, rank_child, taken_in_turn}
use Rattle.vt_laws_members.proofs.judging.Common.{IsTheirs, child_own, own_theirs, parent_theirs, same_mount, tree_alike}
use Rattle.vt_laws_members.proofs.changes.Common.{part_mounts}

-- a mount without a mount point has no ancestors
depth_of_root : (w : World ℕ) (mount : Mount ℕ) → mount.mount_point ≡ None → depth_of nat_eq w mount ≡ 1
depth_of_root w mount e = grind (arith, common_steps, chain_ends)

-- another one is one deeper than its parent
depth_of_child : (w : World ℕ) → OneNumberEach w → AllStand w → (k : ℕ) (place : Location ℕ)
    → (mount_numbered nat_eq w k).mount_point ≡ Some place
    → depth_of nat_eq w (mount_numbered nat_eq w k) ≡ suc (depth_of nat_eq w (mount_numbered nat_eq w place.mount))
depth_of_child w one all k place e =
    cc (depth_by_rank w one all k, rank_child w one all k place e, depth_by_rank w one all place.mount)

module _ {world : World ℕ} {names : List TaskName} (sealing : IsSealed world names) where
  abbrev theirs : List (Task ℕ)
  theirs = members world names

  abbrev part : World ℕ
  part = part_of nat_eq world names

  abbrev On : ℕ → Type 0
  On = IsTheirs world names sealing.is.mounts

  in_part : MountInvariants nat_eq part
  in_part = part_mounts sealing

  abbrev deep : ℕ → ℕ
  deep = rank world sealing.is.mounts.one_number sealing.is.mounts.standing

  abbrev DeepAlike : ℕ → Type 0
  DeepAlike k =
      depth_of nat_eq part (mount_numbered nat_eq part k) ≡ depth_of nat_eq world (mount_numbered nat_eq world k)

  root_alike : (k : ℕ) → On k → (mount_numbered nat_eq world k).mount_point ≡ None → DeepAlike k
  root_alike k on e = depth_of_root part (mount_numbered nat_eq part k) (cc (same_mount world names sealing.is.mounts k
      on)) ∙ sym (depth_of_root world (mount_numbered nat_eq world k) e)

  deep_alike : (n k : ℕ) → On k → deep k ≤ n → DeepAlike k
  deep_alike zero k on l = elim (cases_Option (mount_numbered nat_eq world k).mount_point) [
    | inl e ↦ root_alike k on e
    | inr its ↦ let child : deep k ≡ suc (deep its.0.mount) =
        rank_child world sealing.is.mounts.one_number sealing.is.mounts.standing k its.0 its.1 in
        absurd (omega (arith, child, l))
  ]
  deep_alike (suc n) k on l = elim (cases_Option (mount_numbered nat_eq world k).mount_point) [
    | inl e ↦ root_alike k on e
    | inr its ↦ let child : deep k ≡ suc (deep its.0.mount) = rank_child world sealing.is.mounts.one_number
        sealing.is.mounts.standing k its.0 its.1 in
        let less : deep its.0.mount ≤ n = omega (arith, child, l) in
        cc (
          depth_of_child part in_part.one_number in_part.standing k its.0
              (ap (λ (m : Mount ℕ). m.mount_point) (same_mount world names sealing.is.mounts k on) ∙ its.1),
          (deep_alike n) its.0.mount
              (parent_theirs world names sealing.is.mounts k its.0 on its.1) less,
          depth_of_child world
              sealing.is.mounts.one_number sealing.is.mounts.standing k its.0 its.1,
        )
  ]

  -- a mount of theirs is as deep in the part
  abbrev SameDepth : Mount ℕ → Type 0
  SameDepth mount = depth_of nat_eq part mount ≡ depth_of nat_eq world mount

  same_depth : (mount : Mount ℕ) → Among mount world.mounts → is_own world names theirs mount ≡ true → SameDepth mount
  same_depth mount m own =
      let on = own_theirs world names sealing.is mount m own in
      let itself = numbered world names sealing.is.mounts mount m in
      cc (
        same_mount world names sealing.is.mounts mount.number on,
        itself,
        deep_alike (deep mount.number) mount.number on (omega arith),
      )

  -- so are ordered alike
  inserted_alike : (mount : Mount ℕ) → SameDepth mount → (list : List (Mount ℕ))
      → ((x : Mount ℕ) → Among x list → SameDepth x)
      → insert_deepest nat_eq part mount list ≡ insert_deepest nat_eq world mount list
  inserted_alike mount same [] all = refl
  inserted_alike mount same (other ∷ rest) all = λ i.
      if nat_lt (same i) (all other (inl refl) i) then other ∷ inserted_alike mount same rest (λ x m. all x (inr m)) i
      else mount ∷ other ∷ rest

  sorted_alike : (list sorted : List (Mount ℕ)) → ((x : Mount ℕ) → Among x list → SameDepth x)
      → ((x : Mount ℕ) → Among x sorted → SameDepth x)
      → folded (λ done mount. insert_deepest nat_eq part mount done) sorted list
      ≡ folded (λ done mount. insert_deepest nat_eq world mount done) sorted list
  sorted_alike [] sorted all all_sorted = refl
  sorted_alike (mount ∷ rest) sorted all all_sorted = cc (
    inserted_alike mount (all mount (inl refl)) sorted all_sorted,
    sorted_alike rest (insert_deepest nat_eq world mount sorted) (λ x m. all x (inr m)) (λ x m. ⊎_elim (λ e.
        rw e (all mount (inl refl))) (all_sorted x) (among_inserted world mount sorted x m)),
  )

  -- what stands in a tree of theirs is theirs
  tree_own : (n : ℕ) (top x : Mount ℕ) → Among top world.mounts → is_own world names theirs top ≡ true
      → Among x (tree_from nat_eq n world.mounts top) → Among x world.mounts × (is_own world names theirs x ≡ true)
  tree_own zero top x m own at = ⊎_elim (λ e. rw e (m, own)) (λ none. absurd none) at
  tree_own (suc n) top x m own at =
      ⊎_elim (λ e. rw e (m, own)) (λ later. let from = among-from_flat_map (tree_from nat_eq n world.mounts)
      (children nat_eq world.mounts top.number) x later in let child = among-from_filter (stands_on nat_eq top.number)
      world.mounts from.0 from.1 in tree_own n from.0 x child.0 (child_own world names sealing.is top.number from.0
      (own_theirs world names sealing.is top m own) child.0 child.1) from.2) at

  module _ (number : ℕ) (there : Among (mount_numbered nat_eq world number) world.mounts)
      (own : is_own world names theirs (mount_numbered nat_eq world number) ≡ true) where
    abbrev top : Mount ℕ
    top = mount_numbered nat_eq world number

    on : On number
    on = subst On (number-mount_in world.mounts number) (own_theirs world names sealing.is top there own)

    in_tree : (x : Mount ℕ) → Among x (mount_tree nat_eq world.mounts top)
        → Among x world.mounts × (is_own world names theirs x ≡ true)
    in_tree x m = tree_own (length world.mounts) top x there own m

    pub same_turns : taken_in_turn part number ≡ taken_in_turn world number
    same_turns = cc (
      same_mount world names sealing.is.mounts number on,
      tree_alike world names sealing.is top (own_theirs world names sealing.is top there own),
      sorted_alike (mount_tree nat_eq world.mounts top) [] (λ x m. let its = in_tree x m in same_depth x its.0
          its.1) (λ x none. absurd none),
    )

    -- each event is of a mount of theirs
    pub turns_own : (x : Mount ℕ) → Among x (taken_in_turn world number)
        → Among x world.mounts × (is_own world names theirs x ≡ true)
    turns_own x m = in_tree x (from_tree world number x m)
