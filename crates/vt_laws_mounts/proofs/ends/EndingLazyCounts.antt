-- What namespaces have left of their mounts after a lazy unmount.
use Rattle.std.proofs.Common.{◌≡◌, refl, ◌∙◌, true, false, nat_eq, ℕ, Bool, List, None, [], arith, inl, inr, is_some, length, ⊎_elim, ◌∷◌, ◌⊎◌, ◌≤◌, le-leb, leb-true, if◌then◌else◌}
use Rattle.vt_spec.proofs.Common.{Among, Mount, World, all_from_among, among_from_all, among_from_contains, common_steps, folded, mount_numbered, mounts_of, number-mount_in, taken_away, unmounted, unmounted_if_there}
use Rattle.vt_laws_mounts.specs.Mounts.Invariants.{OneNumberEach}
use Rattle.vt_laws_mounts.specs.Mounts.Ending.{ByLazyUnmount, HasNoMoreMounts, IsOutOrStays, KeepsRootMounts, LazyUnmountKeepsRootMounts, TakesNoMountsIn, root_mounts_in}
use Rattle.vt_laws_mounts.proofs.ends.EndingCounts.{stays_in, tree_placed, unmount_has_no_more, unmount_keeps_roots, unmount_takes_none_in}
use Rattle.vt_laws_mounts.proofs.ends.EndingOrder.{from_tree, taken_in_turn}
use Rattle.vt_laws_mounts.proofs.mounts.MountsKept.{unmount_keeps_numbers}
use Rattle.vt_laws_mounts.proofs.mounts.MountsReplaced.{found_itself}
use Rattle.vt_laws_mounts.proofs.ends.Unmounting.{detached_by_number, kept_by_number, staying_is_placed, taken}

-- Each event changes nothing, or is an unmount
event_by : (Relation : World ℕ → World ℕ → Type 0) (world : World ℕ) (mount : Mount ℕ) → Relation world world
    → Relation world (unmounted nat_eq world mount.number) → Relation world (unmounted_if_there nat_eq world mount)
event_by Relation world mount skipped unmount = grind (arith, common_steps)

all_have_no_more : (mounts : List (Mount ℕ)) (world : World ℕ)
    → HasNoMoreMounts world (folded (unmounted_if_there nat_eq) world mounts)
all_have_no_more [] world namespace = le-leb _ _ (omega arith)
all_have_no_more (mount ∷ mounts) world namespace =
    let middle = unmounted_if_there nat_eq world mount in
    let end = folded (unmounted_if_there nat_eq) middle mounts in
    let before = length (mounts_of nat_eq world namespace) in
    let between = length (mounts_of nat_eq middle namespace) in
    let after = length (mounts_of nat_eq end namespace) in
    let first : between ≤ before =
    leb-true between before (event_by HasNoMoreMounts world mount (λ n. le-leb _ _ (omega arith))
    (unmount_has_no_more world mount.number) namespace) in
    let later : after ≤ between = leb-true after between (all_have_no_more mounts middle namespace) in
    le-leb after before (omega (arith, first, later))

pub lazy_unmount_has_no_more : ByLazyUnmount HasNoMoreMounts
lazy_unmount_has_no_more world one = all_have_no_more (taken_in_turn world one) world

-- a mount that stays in turn
stays_on : (world middle end : World ℕ) → TakesNoMountsIn world middle → TakesNoMountsIn middle end
    → TakesNoMountsIn world end
stays_on world middle end first second = all_from_among (IsOutOrStays world) end.mounts
    (λ mount m. by mount (among_from_all (IsOutOrStays middle) end.mounts second mount m))
  where
    on : (mount old : Mount ℕ) → mount.number ≡ old.number → mount.namespace ≡ old.namespace → IsOutOrStays world old
        → IsOutOrStays world mount
    on mount old number namespace (inl none) = inl (cc)
    on mount old number namespace (inr was) = inr (was.0, was.1, number ∙ was.2, namespace ∙ was.3)

    by : (mount : Mount ℕ) → IsOutOrStays middle mount → IsOutOrStays world mount
    by mount (inl none) = inl none
    by mount (inr was) = on mount was.0 was.2 was.3
        (among_from_all (IsOutOrStays world) middle.mounts first was.0 (among_from_contains middle.mounts was.0 was.1))

all_take_none_in : (mounts : List (Mount ℕ)) (world : World ℕ)
    → TakesNoMountsIn world (folded (unmounted_if_there nat_eq) world mounts)
all_take_none_in [] world = stays_in world
all_take_none_in (mount ∷ mounts) world = stays_on world (unmounted_if_there nat_eq world mount)
    (folded (unmounted_if_there nat_eq) (unmounted_if_there nat_eq world mount) mounts)
    (event_by TakesNoMountsIn world mount (stays_in world) (unmount_takes_none_in world mount.number))
    (all_take_none_in mounts (unmounted_if_there nat_eq world mount))

pub lazy_unmount_takes_none_in : ByLazyUnmount TakesNoMountsIn
lazy_unmount_takes_none_in world one = all_take_none_in (taken_in_turn world one) world

-- Root mounts: what goes in turn has a place, or has gone
abbrev IsPlacedOrOut : World ℕ → ℕ → Type 0
IsPlacedOrOut world number = (is_some (mount_numbered nat_eq world number).mount_point ≡ true)
    ⊎ ((mount_numbered nat_eq world number).namespace ≡ None)

placed_or_out_then : (world : World ℕ) (gone : List ℕ) (number : ℕ) → IsPlacedOrOut world number
    → IsPlacedOrOut (taken_away nat_eq world gone) number
placed_or_out_then world gone number was =
    grind (arith, common_steps, detached_by_number, kept_by_number, taken, staying_is_placed, number-mount_in)

all_keep_roots : (mounts : List (Mount ℕ)) (world : World ℕ) → OneNumberEach world
    → ((mount : Mount ℕ) → Among mount mounts → IsPlacedOrOut world mount.number)
    → KeepsRootMounts world (folded (unmounted_if_there nat_eq) world mounts)
all_keep_roots [] world each placed namespace = refl
all_keep_roots (mount ∷ mounts) world each placed namespace = by _ refl (all_keep_roots mounts)
  where
    by : (b : Bool) → is_some (mount_numbered nat_eq world mount.number).namespace ≡ b
        → ((left : World ℕ) → OneNumberEach left → ((x : Mount ℕ) → Among x mounts → IsPlacedOrOut left x.number)
        → KeepsRootMounts left (folded (unmounted_if_there nat_eq) left mounts))
        → root_mounts_in (folded (unmounted_if_there nat_eq)
        (if b then unmounted nat_eq world mount.number else world) mounts) namespace ≡ root_mounts_in world namespace
    by false e later = later world each (λ x m. placed x (inr m)) namespace
    by true e later =
        let there : is_some (mount_numbered nat_eq world mount.number).mount_point ≡ true =
        ⊎_elim (λ f. f) (λ none. absurd cc) (placed mount (inl refl)) in
        later (unmounted nat_eq world mount.number) (unmount_keeps_numbers world mount.number each)
        (λ x m. placed_or_out_then world _ _
        (placed x (inr m))) namespace ∙ unmount_keeps_roots world mount.number each there namespace

pub lazy_unmount_keeps_roots : LazyUnmountKeepsRootMounts
lazy_unmount_keeps_roots world one each placed = all_keep_roots _ world each
    (λ mount m. inl (⊎_elim (λ top. cc (number-mount_in world.mounts one))
    (λ t. cc (found_itself world.mounts each mount t.0, t.1)) (tree_placed _ _ _ mount (from_tree world one mount m))))
