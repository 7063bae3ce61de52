-- What namespaces have left of their mounts where some are taken away.
use Rattle.std.proofs.Common.{◌≡◌, refl, sym, ap, subst, ◌∙◌, true, false, nat_eq, ℕ, Bool, List, None, Option, Some, [], arith, filter, flat_map, inl, inr, is_some, length, map, not, option_map, zero, suc, true≢false, ⊎_elim, ◌&&◌, ◌∷◌, ◌≤◌, ◌⊎◌, le-leb}
use Rattle.vt_spec.proofs.Common.{Among, Location, Mount, Namespace, World, after_going, all_from_among, among-from_filter, among-from_flat_map, among-from_map, among_from_contains, among_from_list_all, among_numbers, and-false, any_among, common_steps, contains_from_among, filter_here, filter_skip, has_tasks, holds_of, inheriting, is_going, is_in_ended, is_point, is_root_mount, list_all_from_among, list_any, mount_at, mount_in, mount_numbered, inherited_mount_point, mount_tree, mounts_on, number-mount_in, points_of, taken_away, tree_from}
use Rattle.vt_laws_mounts.specs.Mounts.Invariants.{OneNumberEach}
use Rattle.vt_laws_mounts.specs.Mounts.Ending.{ByEndedNamespaces, ByPoints, ByReplaced, ByTrees, ByUnmount, EndedNamespacesKeepRootMounts, HasNoMoreMounts, IsOutOrStays, PointsKeepRootMounts, ReplacedKeepsRootMounts, TakesNoMountsIn, TreesKeepRootMounts, UnmountKeepsRootMounts, root_mounts_in, is_in}
use Rattle.vt_laws_mounts.proofs.Groups.{mounts-regrouped}
use Rattle.vt_laws_mounts.proofs.mounts.MountsReplaced.{found_itself}
use Rattle.vt_laws_mounts.proofs.ends.Unmounting.{going_is_detached, middle, staying_is_placed}
use Rattle.vt_laws_mounts.proofs.ends.UnmountingNamespaces.{in_ended}
use Rattle.vt_laws_mounts.proofs.ends.UnmountingPlaces.{goes_or_may}
use Rattle.vt_spec.proofs.Worlds.{number-after_going}

-- Lists that are filtered
module _ {A : Type 0} where
  filter_twice : (p q : A → Bool) (xs : List A) → filter p (filter q xs) ≡ filter (λ x. q x && p x) xs
  filter_twice p q [] = refl
  filter_twice p q (y ∷ ys) = grind (arith, common_steps, filter_twice p q ys, filter_here, filter_skip)

  same_count : (p q : A → Bool) (f : A → A) (xs : List A) → ((x : A) → Among x xs → p (f x) ≡ q x)
      → length (filter p (map f xs)) ≡ length (filter q xs)
  same_count p q f [] same = refl
  same_count p q f (y ∷ ys) same = grind (arith, common_steps, same_count p q f ys)

  no_higher_count : (p q : A → Bool) (f : A → A) (xs : List A) → ((x : A) → p (f x) ≡ true → q x ≡ true)
      → length (filter p (map f xs)) ≤ length (filter q xs)
  no_higher_count p q f [] passes = omega arith
  no_higher_count p q f (y ∷ ys) passes =
      grind (arith, common_steps, no_higher_count p q f ys passes, filter_here, true≢false, filter_skip)

-- One mount, whatever goes
module _ (world : World ℕ) (gone : List ℕ) where
  abbrev after_it : Mount ℕ → Mount ℕ
  after_it mount = inheriting nat_eq (middle world gone) (after_going nat_eq world gone mount)

  mounts_after : (taken_away nat_eq world gone).mounts ≡ map after_it world.mounts
  mounts_after = mounts-regrouped _ ∙ map_map _
    where
      map_map : (mounts : List (Mount ℕ))
          → map (inheriting nat_eq (middle world gone)) (map (after_going nat_eq world gone) mounts)
          ≡ map after_it mounts
      map_map [] = refl
      map_map (mount ∷ mounts) = ap (λ rest. after_it mount ∷ rest) (map_map mounts)

  namespace_after : (mount : Mount ℕ)
      → ((after_it mount).namespace ≡ None) ⊎ ((after_it mount).namespace ≡ mount.namespace)
  namespace_after mount = grind (arith, common_steps, going_is_detached, staying_is_placed)

  pub taken_has_no_more : HasNoMoreMounts world (taken_away nat_eq world gone)
  taken_has_no_more namespace = le-leb _ _
      (subst (λ mounts. length (filter (is_in namespace) mounts) ≤ length (filter (is_in namespace) world.mounts))
      (sym mounts_after) (no_higher_count (is_in namespace) (is_in namespace) after_it world.mounts (λ mount e.
      ⊎_elim (λ none. absurd cc) (λ same. cc) (namespace_after mount))))

  pub taken_takes_none_in : TakesNoMountsIn world (taken_away nat_eq world gone)
  taken_takes_none_in = all_from_among _ _ (λ mount m.
      let from = among-from_map _ _ mount (subst (Among mount) mounts_after m) in
      by mount from.0 from.1 from.2 (namespace_after from.0))
    where
      by : (mount old : Mount ℕ) → Among old world.mounts → mount ≡ after_it old
          → ((after_it old).namespace ≡ None) ⊎ ((after_it old).namespace ≡ old.namespace) → IsOutOrStays world mount
      by mount old m e (inl none) = inl (cc)
      by mount old m e (inr same) = inr (
        old,
        contains_from_among world.mounts old m,
        ap (λ x. x.number) e ∙ number-after_going world gone old,
        cc (e, same),
      )

  abbrev is_root : ℕ → Mount ℕ → Bool
  is_root namespace mount = is_in namespace mount && is_root_mount nat_eq mount

  -- root mounts stay where those that go are none, or in another namespace
  pub taken_keeps_roots : (namespace : ℕ)
      → ((mount : Mount ℕ) → Among mount world.mounts → is_going nat_eq gone mount.number ≡ true
      → (is_some mount.mount_point ≡ true) ⊎ (is_in namespace mount ≡ false))
      → root_mounts_in (taken_away nat_eq world gone) namespace ≡ root_mounts_in world namespace
  taken_keeps_roots namespace placed =
      ap (λ mounts. length (filter (is_root_mount nat_eq) (filter (is_in namespace) mounts))) mounts_after
      ∙ ap length (filter_twice (is_root_mount nat_eq) (is_in namespace) (map after_it world.mounts))
      ∙ same_count (is_root namespace) (is_root namespace) after_it world.mounts
      (λ mount m. by mount m (is_going nat_eq gone mount.number) refl)
      ∙ sym (ap length (filter_twice (is_root_mount nat_eq) (is_in namespace) world.mounts))
    where
      no_root : (mount : Mount ℕ) → (is_some mount.mount_point ≡ true) ⊎ (is_in namespace mount ≡ false)
          → is_root namespace mount ≡ false
      no_root mount (inl e) = cc (and-false (is_in namespace mount))
      no_root mount (inr e) = ap (λ b. b && is_root_mount nat_eq mount) e

      placed_alike : (place : Option (Location ℕ))
          → is_some (option_map (inherited_mount_point nat_eq world gone) place) ≡ is_some place
      placed_alike None = refl
      placed_alike (Some p) = refl

      by : (mount : Mount ℕ) → Among mount world.mounts → (b : Bool) → is_going nat_eq gone mount.number ≡ b
          → is_root namespace (after_it mount) ≡ is_root namespace mount
      by mount m true e = grind (arith, common_steps, going_is_detached, no_root, placed)
      by mount m false e = grind (arith, common_steps, staying_is_placed, placed_alike)

-- a mount with the number of another is that one
same_mount : (world : World ℕ) → OneNumberEach world → (a b : Mount ℕ) → Among a world.mounts → Among b world.mounts
    → a.number ≡ b.number → a ≡ b
same_mount world one a b m n same = cc (found_itself world.mounts one a m, found_itself world.mounts one b n)

pub unmount_keeps_roots : UnmountKeepsRootMounts
unmount_keeps_roots world one each placed namespace =
    let itself = mount_numbered nat_eq world one in
    taken_keeps_roots world _ _ (λ mount m goes. inl (⊎_elim (λ same. cc (
      found_itself world.mounts each mount m,
      number-mount_in world.mounts one,
    )) (λ t. cc (same_mount world each mount t.0 m t.1 t.3, t.4)) (goes_or_may world itself _ goes)))

-- what lies in a tree is its top, or stands at a place
pub tree_placed : (depth : ℕ) (mounts : List (Mount ℕ)) (top x : Mount ℕ) → Among x (tree_from nat_eq depth mounts top)
    → (x ≡ top) ⊎ (Among x mounts × (is_some x.mount_point ≡ true))
tree_placed zero mounts top x m = ⊎_elim inl (λ none. absurd none) m
tree_placed (suc depth) mounts top x m = ⊎_elim inl (λ later.
    let from = among-from_flat_map _ _ x later in
    let child = among-from_filter _ mounts from.0 from.1 in
    ⊎_elim (λ same. inr (
      subst (λ z. Among z mounts) (sym same) child.0,
      cc (same, placed from.0.mount_point child.1),
    )) inr (tree_placed depth mounts from.0 x from.2)) m
  where
    placed : (place : Option (Location ℕ)) → holds_of (λ p. nat_eq top.number p.mount) place ≡ true
        → is_some place ≡ true
    placed None e = cc
    placed (Some p) e = refl

pub trees_keep_roots : TreesKeepRootMounts
trees_keep_roots world tops each placed namespace =
    let trees = flat_map (mount_tree nat_eq world.mounts) tops in
    let gone = map (λ (mount : Mount ℕ). mount.number) trees in
    taken_keeps_roots world gone _ (λ mount m goes.
    let from = among-from_map _ trees _ (among_numbers gone _ goes) in
    let tree = among-from_flat_map _ tops from.0 from.1 in
    inl (⊎_elim (λ same. ap (λ x. is_some x.mount_point) (sym (found_itself _ each mount m) ∙ ap
    (mount_in nat_eq world.mounts) (from.2 ∙ ap (λ x. x.number) same)) ∙ among_from_list_all _ tops placed tree.0
    tree.1) (λ t. cc (same_mount world each mount from.0 m t.0 from.2, t.1)) (tree_placed _ _ tree.0 from.0 tree.2)))

pub points_keep_roots : PointsKeepRootMounts
points_keep_roots world location each = trees_keep_roots world (mounts_on nat_eq world location) each
    (list_all_from_among (λ (x : Mount ℕ). is_some (mount_numbered nat_eq world x.number).mount_point)
    (mounts_on nat_eq world location) (λ mount m.
    let from = among-from_filter (λ (x : Mount ℕ). list_any (λ point. is_point nat_eq world point.0 point.1 x)
    (points_of nat_eq world location)) world.mounts mount m in
    let some =
    any_among (λ point. is_point nat_eq world point.0 point.1 mount) (points_of nat_eq world location) from.1 in
    cc (found_itself world.mounts each mount from.0, placed mount.mount_point some.0 some.2)))
  where
    placed : (place : Option (Location ℕ)) (point : ℕ × ℕ)
        → holds_of (λ p. nat_eq p.node point.1 && nat_eq (mount_at nat_eq world p).filesystem point.0) place ≡ true
        → is_some place ≡ true
    placed None point e = cc
    placed (Some p) point e = refl

pub replaced_keeps_roots : ReplacedKeepsRootMounts
replaced_keeps_roots world None each namespace = refl
replaced_keeps_roots world (Some object) each namespace = points_keep_roots world object each namespace

pub ended_namespaces_keep_roots : EndedNamespacesKeepRootMounts
ended_namespaces_keep_roots world listed each there tasks =
    taken_keeps_roots world (in_ended world) listed.number (λ mount m goes.
    let from = among-from_map (λ (x : Mount ℕ). x.number) (filter (is_in_ended nat_eq world) world.mounts) mount.number
    (among_numbers (in_ended world) mount.number goes) in
    let end = among-from_filter (is_in_ended nat_eq world) world.mounts from.0 from.1 in
    inr (elsewhere mount.namespace (cc (same_mount world each mount from.0 m end.0 from.2, end.1))))
  where
    ended_of : Option ℕ → Bool
    ended_of namespace = holds_of (λ number. not (list_any
        (λ (n : Namespace ℕ). nat_eq number n.number && has_tasks nat_eq world n) world.namespaces)) namespace

    elsewhere : (namespace : Option ℕ) → ended_of namespace ≡ true → holds_of (nat_eq listed.number) namespace ≡ false
    elsewhere namespace e = grind (arith, common_steps, among_from_contains world.namespaces listed there)

-- The counts of each change
pub unmount_has_no_more : ByUnmount HasNoMoreMounts
unmount_has_no_more world one = taken_has_no_more world _

pub trees_have_no_more : ByTrees HasNoMoreMounts
trees_have_no_more world tops = taken_has_no_more world _

pub points_have_no_more : ByPoints HasNoMoreMounts
points_have_no_more world location = trees_have_no_more world (mounts_on nat_eq world location)

pub replaced_has_no_more : ByReplaced HasNoMoreMounts
replaced_has_no_more world None namespace = le-leb _ _ (omega arith)
replaced_has_no_more world (Some object) namespace = points_have_no_more world object namespace

pub ended_namespaces_have_no_more : ByEndedNamespaces HasNoMoreMounts
ended_namespaces_have_no_more world = taken_has_no_more world _

pub stays_in : (world : World ℕ) → TakesNoMountsIn world world
stays_in world = all_from_among (IsOutOrStays world) world.mounts (λ mount m.
    inr (mount, contains_from_among _ mount m, refl, refl))

pub unmount_takes_none_in : ByUnmount TakesNoMountsIn
unmount_takes_none_in world one = taken_takes_none_in world _

pub trees_take_none_in : ByTrees TakesNoMountsIn
trees_take_none_in world tops = taken_takes_none_in world _

pub points_take_none_in : ByPoints TakesNoMountsIn
points_take_none_in world location = trees_take_none_in world (mounts_on nat_eq world location)

pub replaced_takes_none_in : ByReplaced TakesNoMountsIn
replaced_takes_none_in world None = stays_in world
replaced_takes_none_in world (Some object) = points_take_none_in world object

pub ended_namespaces_take_none_in : ByEndedNamespaces TakesNoMountsIn
ended_namespaces_take_none_in world = taken_takes_none_in world _
