-- Children of mounts of theirs, and trees of mounts, are the same in the part.
use Rattle.std.proofs.Common.{◌≡◌, refl, sym, ap, subst, ◌∙◌, inl, ⊎_elim, ℕ, zero, suc, nat_eq, Bool, true, false, true≢false, List, [], ◌∷◌, Option, Some, None, filter, flat_map, length, not, ◌⊎◌, ◌+◌, ◌≤◌, arith, eqb-true, filter_map}
use Rattle.vt_spec.proofs.Common.{Among, Filesystem, IsWorld, Location, Mount, Stands, Task, TaskName, World, all_from_among, among-from_filter, among-from_filter_map, among_from_all, any_pair, at_root, bind_tree, bindable_children, bindable_tree, children, common_steps, cons_option, holds_of, is_at, is_directory_under, is_unbindable, list_any, locations, members, mount_tree, none_among, none_from_among, none_is_some, on_parent, or_from, or_left, or_parts, part_of, roots_and_directories, seen_by_descriptor, stands_on, stands_under, tree_from}
use Rattle.vt_laws_members.proofs.Common.{AllStand, OneNumberEach, filter_both, flat_map_alike, found_itself, is_own, keep, kept_how, kept_whole, nowhere_stands, rank, rank_bounded, rank_child}
use Rattle.vt_laws_members.proofs.judging.Grounds.{IsTheirs, child_theirs, parent_theirs, same_mount}
use Rattle.vt_laws_members.proofs.judging.MountPoints.{part_mount}
use Rattle.vt_laws_members.proofs.judging.SeenInPart.{filesystem_alike}

-- the mount point of a child
pub stands_where : (number : ℕ) (mount : Mount ℕ) → stands_on nat_eq number mount ≡ true
    → (point : Location ℕ) × (mount.mount_point ≡ Some point) × (number ≡ point.mount)
stands_where number mount h = grind (arith, common_steps, true≢false, eqb-true)

-- a child lies one mount deeper
pub child_deeper : (world : World ℕ) (one : OneNumberEach world) (all : AllStand world) (mount child : Mount ℕ)
    → Among child (children nat_eq world.mounts mount.number)
    → rank world one all child.number ≡ suc (rank world one all mount.number)
child_deeper world one all mount child m =
    grind (arith, common_steps, among-from_filter, rank_child, found_itself, rank)

module _ (world : World ℕ) (names : List TaskName) (is : IsWorld nat_eq world) where
  abbrev theirs : List (Task ℕ)
  theirs = members world names

  abbrev part : World ℕ
  part = part_of nat_eq world names

  abbrev kept : Mount ℕ → Option (Mount ℕ)
  kept = keep world names theirs

  abbrev owns : Mount ℕ → Bool
  owns = is_own world names theirs

  pub own_whole : (mount : Mount ℕ) → owns mount ≡ true → kept mount ≡ Some mount
  own_whole mount own = kept_whole world names theirs mount (or_left (owns mount) _ own)

  -- a mount of theirs, by its number
  pub own_theirs : (mount : Mount ℕ) → Among mount world.mounts → owns mount ≡ true
      → IsTheirs world names is.mounts mount.number
  own_theirs mount m own = (mount, m, refl, inl own)

  -- Children

  pub child_own : (number : ℕ) (child : Mount ℕ) → IsTheirs world names is.mounts number → Among child world.mounts
      → stands_on nat_eq number child ≡ true → owns child ≡ true
  child_own number child own m h =
      let at = stands_where number child h in child_theirs world names is.mounts at.0 child (rw (← at.2) own) m at.1

  pub children_alike : (number : ℕ) → IsTheirs world names is.mounts number
      → children nat_eq part.mounts number ≡ children nat_eq world.mounts number
  children_alike number own = grind (arith, common_steps, filter_both, own_whole, child_own, kept_how)

  pub children_own : (number : ℕ) (child : Mount ℕ) → IsTheirs world names is.mounts number
      → Among child (children nat_eq world.mounts number) → Among child world.mounts × (owns child ≡ true)
  children_own number child own m =
      let from = among-from_filter (stands_on nat_eq number) world.mounts child m in
      (from.0, child_own number child own from.0 from.1)

  -- The part's mounts have numbers of their own, and stand

  kept_number : (x y : Mount ℕ) → kept x ≡ Some y → y.number ≡ x.number
  kept_number x y e = ⊎_elim (λ same. cc) (λ stub. cc stub.0) (kept_how world names theirs x y e)

  apart : (list : List (Mount ℕ)) → any_pair (λ (a b : Mount ℕ). nat_eq a.number b.number) list ≡ false
      → any_pair (λ (a b : Mount ℕ). nat_eq a.number b.number) (filter_map kept list) ≡ false
  apart [] e = refl
  apart (x ∷ rest) e =
      let parts = or_parts (list_any (λ (b : Mount ℕ). nat_eq x.number b.number) rest) _ e in
      by (kept x) refl parts.0 (apart rest parts.1)
    where
      by : (o : Option (Mount ℕ)) → kept x ≡ o → list_any (λ (b : Mount ℕ). nat_eq x.number b.number) rest ≡ false
          → any_pair (λ (a b : Mount ℕ). nat_eq a.number b.number) (filter_map kept rest) ≡ false
          → any_pair (λ (a b : Mount ℕ). nat_eq a.number b.number) (cons_option o (filter_map kept rest)) ≡ false
      by None f none later = later
      by (Some y) f none later = or_from _ _ (none_from_among (λ (b : Mount ℕ). nat_eq y.number b.number)
          (filter_map kept rest) (λ z m. let from = among-from_filter_map kept rest z m in cc (
            kept_number x y f,
            kept_number from.0 z from.2,
            none_among (λ (b : Mount ℕ). nat_eq x.number b.number) rest none from.0 from.1,
          ))) later

  pub part_one_number : OneNumberEach part
  part_one_number = apart world.mounts is.mounts.one_number

  stands_too : (number : ℕ) → IsTheirs world names is.mounts number → Stands nat_eq world number
      → Stands nat_eq part number
  stands_too number own (at_root it e) = at_root it (cc (same_mount world names is.mounts it own))
  stands_too number own (on_parent it point e f below) =
      let under = parent_theirs world names is.mounts it point own e in
      on_parent it point (cc (same_mount world names is.mounts it own))
      (cc (same_mount world names is.mounts it own, same_mount world names is.mounts point.mount under))
      (stands_too point.mount under below)

  pub part_stands : AllStand part
  part_stands = all_from_among (λ (mount : Mount ℕ). Stands nat_eq part mount.number) part.mounts
      (λ y m. let from = among-from_filter_map kept world.mounts y m in ⊎_elim (λ own. by from.0 y from.1 from.2 own)
      (λ none. at_root y.number (cc (
        found_itself part.mounts part_one_number y m,
        nowhere y from.0 y.mount_point refl
            from.1 none (kept_how world names theirs from.0 y from.2),
      ))) (part_mount world names is from.0 y from.1 from.2))
    where
      nowhere : (y x : Mount ℕ) (o : Option (Location ℕ)) → y.mount_point ≡ o → Among x world.mounts
          → y.namespace ≡ None → (x ≡ y) ⊎ ((seen_by_descriptor x ≡ y) × (owns x ≡ false)
          × (is_at nat_eq (roots_and_directories theirs) x ≡ false) × (is_at nat_eq (locations theirs) x ≡ true))
          → y.mount_point ≡ None
      nowhere y x None e m none how = e
      nowhere y x (Some point) e m none how = ⊎_elim (λ same. absurd (nowhere_stands world names is.mounts y point
          (rw (← same) m) none e)) (λ stub. absurd (none_is_some point (cc stub.0))) how

      by : (x y : Mount ℕ) → Among x world.mounts → kept x ≡ Some y → owns y ≡ true → Stands nat_eq part y.number
      by x y m e own = ⊎_elim (λ same.
          let there : Among y world.mounts = subst (λ z. Among z world.mounts) same m in
          stands_too y.number (own_theirs y there own)
          (among_from_all (λ (z : Mount ℕ). Stands nat_eq world z.number) world.mounts is.mounts.standing y there))
          (λ stub. absurd (true≢false (sym own ∙ ap owns (sym stub.0)))) (kept_how world names theirs x y e)

  -- Trees of mounts

  abbrev deep : ℕ → ℕ
  deep = rank world is.mounts.one_number is.mounts.standing

  abbrev deep_in_part : ℕ → ℕ
  deep_in_part = rank part part_one_number part_stands

  -- at the bottom there is no child
  none_below : (mount : Mount ℕ) → length world.mounts ≤ deep mount.number
      → children nat_eq world.mounts mount.number ≡ []
  none_below mount less = by (children nat_eq world.mounts mount.number) refl
    where
      by : (list : List (Mount ℕ)) → children nat_eq world.mounts mount.number ≡ list
          → children nat_eq world.mounts mount.number ≡ []
      by [] e = e
      by (child ∷ rest) e =
          let below = child_deeper world is.mounts.one_number is.mounts.standing mount child (rw e (inl refl)) in
          let bound = rank_bounded world is.mounts.one_number is.mounts.standing child.number in
          absurd (omega (arith, below, bound, less))

  none_below_in_part : (mount : Mount ℕ) → length part.mounts ≤ deep_in_part mount.number
      → children nat_eq part.mounts mount.number ≡ []
  none_below_in_part mount less = by (children nat_eq part.mounts mount.number) refl
    where
      by : (list : List (Mount ℕ)) → children nat_eq part.mounts mount.number ≡ list
          → children nat_eq part.mounts mount.number ≡ []
      by [] e = e
      by (child ∷ rest) e =
          let below = child_deeper part part_one_number part_stands mount child (rw e (inl refl)) in
          let bound = rank_bounded part part_one_number part_stands child.number in
          absurd (omega (arith, below, bound, less))

  trees_alike : (n k : ℕ) (mount : Mount ℕ) → IsTheirs world names is.mounts mount.number
      → length world.mounts ≤ n + deep mount.number → length part.mounts ≤ k + deep_in_part mount.number
      → tree_from nat_eq k part.mounts mount ≡ tree_from nat_eq n world.mounts mount
  trees_alike zero zero mount own l m = refl
  trees_alike zero (suc k) mount own l m = cc (children_alike mount.number own, none_below mount (omega (arith, l)))
  trees_alike (suc n) zero mount own l m =
      cc (none_below_in_part mount (omega (arith, m)), children_alike mount.number own)
  trees_alike (suc n) (suc k) mount own l m = cc (
    children_alike mount.number own,
    flat_map_alike (tree_from nat_eq k part.mounts) (tree_from nat_eq n world.mounts)
        (children nat_eq world.mounts mount.number) (λ child at. let it = children_own mount.number child own at in let
        below = child_deeper world is.mounts.one_number is.mounts.standing mount child at in let below_in_part =
        child_deeper part part_one_number part_stands mount child (subst (Among child)
        (sym (children_alike mount.number own)) at) in trees_alike n k child (own_theirs child it.0 it.1)
        (omega (arith, l, below)) (omega (arith, m, below_in_part))),
  )

  pub tree_alike : (mount : Mount ℕ) → IsTheirs world names is.mounts mount.number
      → mount_tree nat_eq part.mounts mount ≡ mount_tree nat_eq world.mounts mount
  tree_alike mount own = trees_alike (length world.mounts) (length part.mounts) mount own (omega arith) (omega arith)

  -- what a bind copies below a mount
  bindable_alike : (number : ℕ) → IsTheirs world names is.mounts number
      → bindable_children nat_eq part.mounts number ≡ bindable_children nat_eq world.mounts number
  bindable_alike number own = cc (children_alike number own)

  bindables_alike : (n k : ℕ) (mount : Mount ℕ) → IsTheirs world names is.mounts mount.number
      → length world.mounts ≤ n + deep mount.number → length part.mounts ≤ k + deep_in_part mount.number
      → bindable_tree nat_eq k part.mounts mount ≡ bindable_tree nat_eq n world.mounts mount
  bindables_alike zero zero mount own l m = refl
  bindables_alike zero (suc k) mount own l m = ap (λ list. mount ∷ flat_map (bindable_tree nat_eq k part.mounts)
      (filter (λ (x : Mount ℕ). not (is_unbindable x.propagation)) list))
      (children_alike mount.number own ∙ none_below mount (omega (arith, l)))
  bindables_alike (suc n) zero mount own l m = ap (λ list. mount ∷ flat_map (bindable_tree nat_eq n world.mounts)
      (filter (λ (x : Mount ℕ). not (is_unbindable x.propagation)) list))
      (sym (none_below_in_part mount (omega (arith, m))) ∙ children_alike mount.number own)
  bindables_alike (suc n) (suc k) mount own l m =
      cc (
        bindable_alike mount.number own,
        flat_map_alike (bindable_tree nat_eq k part.mounts)
            (bindable_tree nat_eq n world.mounts) (bindable_children nat_eq world.mounts mount.number)
            (λ child chosen. let at = (among-from_filter (λ (x : Mount ℕ). not (is_unbindable x.propagation))
            (children nat_eq world.mounts mount.number) child chosen).0 in let it = children_own mount.number
            child own at in let below = child_deeper world is.mounts.one_number is.mounts.standing mount
            child at in let below_in_part = child_deeper part part_one_number part_stands mount child
            (subst (Among child) (sym
            (children_alike mount.number own)) at) in bindables_alike n k child
            (own_theirs child it.0 it.1) (omega (arith, l, below)) (omega (arith, m, below_in_part))),
      )

  under_alike : (source : Location ℕ) → IsTheirs world names is.mounts source.mount
      → filter (stands_under nat_eq part source) (bindable_children nat_eq part.mounts source.mount)
      ≡ filter (stands_under nat_eq world source) (bindable_children nat_eq world.mounts source.mount)
  under_alike source own = ap (filter (stands_under nat_eq part source)) (bindable_alike source.mount own)
      ∙ ap (λ (f : Filesystem ℕ). filter (λ (mount : Mount ℕ). holds_of (λ (point : Location ℕ).
      is_directory_under nat_eq f.files source.node point.node) mount.mount_point)
      (bindable_children nat_eq world.mounts source.mount)) (sym (filesystem_alike world names is source own))

  pub bind_alike : (source : Location ℕ) (recursive : Bool) → IsTheirs world names is.mounts source.mount
      → bind_tree nat_eq part source recursive ≡ bind_tree nat_eq world source recursive
  bind_alike source false own = cc (same_mount world names is.mounts source.mount own)
  bind_alike source true own = cc (
    same_mount world names is.mounts source.mount own,
    under_alike source own,
    flat_map_alike (bindable_tree nat_eq (length part.mounts) part.mounts)
        (bindable_tree nat_eq (length world.mounts) world.mounts) (filter (stands_under nat_eq world source)
        (bindable_children nat_eq world.mounts source.mount)) (λ child chosen. let at =
        (among-from_filter (λ (x : Mount ℕ). not (is_unbindable x.propagation))
        (children nat_eq world.mounts source.mount) child (among-from_filter (stands_under nat_eq world source)
        (bindable_children nat_eq world.mounts source.mount) child chosen).0).0 in let it = children_own source.mount
        child own at in bindables_alike (length world.mounts) (length part.mounts) child (own_theirs child it.0 it.1)
        (omega arith) (omega arith)),
  )
