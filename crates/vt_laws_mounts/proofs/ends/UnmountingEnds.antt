-- Mounts that end with something else, and lazy unmounts.
use Rattle.std.proofs.Common.{arith, ◌≡◌, refl, sym, ap, subst, ◌∙◌, true, false, Bool, List, None, Some, [], map, nat_eq, ⊎_elim, ◌∷◌, ◌⊎◌, ℕ, inr, inl, filter_map, if◌then◌else◌}
use Rattle.vt_spec.proofs.Common.{Among, Mount, Private, Propagation, Shared, Slave, Unbindable, World, among-filter, among-filter_map, among-map, child_at, children, common_steps, deepest_first, detached, filter_none, folded, found_or_none, goes_at, going_from, head_among, is_among, is_among_numbers, is_going, is_shared, list_any, may_go, mount_at, mount_numbered, mount_tree, number-mount_in, receivers, source_of, stands_on, taken_away, unmounted, unmounted_if_there}
use Rattle.vt_laws_mounts.specs.Mounts.Unmounting.{KeepsAllButMounts, KeepsAllButMountPointAndType}
use Rattle.vt_laws_mounts.specs.Mounts.Ends.{LazyDetachesOrKeeps, LazyIsOfMounts, OthersAreKept, OthersKeepTheirMountPoints, OthersKeepTheirTypes, TakenAreDetached, TheMountItselfGoes}
use Rattle.vt_laws_mounts.proofs.ends.Unmounting.{all_but_mounts, detached_by_number, going_is_detached, kept_by_number, place_kept, staying_is_placed, taken, type_kept}
use Rattle.vt_laws_mounts.proofs.ends.UnmountingGoes.{child_goes_so, receivers_of_shared}
use Rattle.vt_laws_mounts.proofs.mounts.MountsPlaces.{found_at_its_place}
use Rattle.vt_laws_mounts.proofs.mounts.Receivers.{receives_from_source}

pub taken_are_detached : TakenAreDetached
taken_are_detached world gone number e = detached_by_number world gone number e

pub others_are_kept : OthersAreKept
others_are_kept world gone number e = kept_by_number world gone number e

pub others_keep_their_places : OthersKeepTheirMountPoints
others_keep_their_places world gone number place e at stays = place_kept world gone number place e at stays

pub others_keep_their_types : OthersKeepTheirTypes
others_keep_their_types world gone number e has = type_kept world gone number e has

-- Lazily
abbrev DetachedOrKept : Mount ℕ → Mount ℕ → Type 0
DetachedOrKept before later = (later ≡ detached before) ⊎ KeepsAllButMountPointAndType before later

-- a mount after one event, by the world before
event : (world : World ℕ) (gone : List ℕ) (number : ℕ)
    → DetachedOrKept (mount_numbered nat_eq world number) (mount_numbered nat_eq (taken_away nat_eq world gone) number)
event world gone number = grind (arith, common_steps, detached_by_number, kept_by_number)

-- what is detached twice, or kept and then detached
detached_of_kept : (a b : Mount ℕ) → KeepsAllButMountPointAndType a b → detached b ≡ detached a
detached_of_kept a b r = λ i. record {
  number = r.number i;
  namespace = None;
  mount_point = None;
  filesystem = r.filesystem i;
  root = r.root i;
  flags = r.flags i;
  propagation = Private;
}

-- a mount outside every namespace, with no place and no group, stays as it is
stays_detached : (world : World ℕ) (gone : List ℕ) (number : ℕ) (before : Mount ℕ)
    → mount_numbered nat_eq world number ≡ detached before
    → mount_numbered nat_eq (taken_away nat_eq world gone) number ≡ detached before
stays_detached world gone number before e =
    grind (arith, common_steps, taken world gone number, going_is_detached, staying_is_placed)

then_event : (before : Mount ℕ) (world : World ℕ) (gone : List ℕ) (number : ℕ)
    → DetachedOrKept before (mount_numbered nat_eq world number)
    → DetachedOrKept before (mount_numbered nat_eq (taken_away nat_eq world gone) number)
then_event before world gone number (inl e) = inl (stays_detached world gone number before e)
then_event before world gone number (inr r) = grind (arith, common_steps, number, detached_of_kept, event)

all_events : (before : Mount ℕ) (number : ℕ) (mounts : List (Mount ℕ)) (world : World ℕ)
    → DetachedOrKept before (mount_numbered nat_eq world number)
    → DetachedOrKept before (mount_numbered nat_eq (folded (unmounted_if_there nat_eq) world mounts) number)
all_events before number [] world r = r
all_events before number (mount ∷ mounts) world r = all_events before number mounts _ (by _)
  where
    by : (b : Bool) → DetachedOrKept before
        (mount_numbered nat_eq (if b then unmounted nat_eq world mount.number else world) number)
    by true = then_event before world _ number r
    by false = r

pub lazy_detaches_or_keeps : LazyDetachesOrKeeps
lazy_detaches_or_keeps world one number = all_events (mount_numbered nat_eq world number) number
    (deepest_first nat_eq world (mount_tree nat_eq world.mounts (mount_numbered nat_eq world one))) world
    (inr (record { number = refl; namespace = refl; filesystem = refl; root = refl; flags = refl }))

all_of_mounts : (mounts : List (Mount ℕ)) (world : World ℕ)
    → KeepsAllButMounts world (folded (unmounted_if_there nat_eq) world mounts)
all_of_mounts [] world = record { filesystems = refl; namespaces = refl; tasks = refl; change = refl }
all_of_mounts (mount ∷ mounts) world =
    let first = by _ in
    let later = all_of_mounts mounts _ in
    record {
      filesystems = later.filesystems ∙ first.filesystems;
      namespaces = later.namespaces ∙ first.namespaces;
      tasks = later.tasks ∙ first.tasks;
      change = later.change ∙ first.change;
    }
  where
    by : (b : Bool) → KeepsAllButMounts world (if b then unmounted nat_eq world mount.number else world)
    by true = all_but_mounts world _
    by false = record { filesystems = refl; namespaces = refl; tasks = refl; change = refl }

pub lazy_is_of_mounts : LazyIsOfMounts
lazy_is_of_mounts world one =
    all_of_mounts (deepest_first nat_eq world (mount_tree nat_eq world.mounts (mount_numbered nat_eq world one))) world

-- The mount itself
pub the_mount_itself_goes : TheMountItselfGoes
the_mount_itself_goes world one place one_each at childless = cc (by _ refl)
  where
    itself : Mount ℕ
    itself = mount_numbered nat_eq world one

    parent : Mount ℕ
    parent = mount_at nat_eq world place

    number : itself.number ≡ one
    number = number-mount_in _ one

    alone : is_among nat_eq one (itself.number ∷ []) ≡ true
    alone = head_among one _ [] (sym number)

    -- nothing stands on it
    empty : (list : List (Mount ℕ)) → list_any (stands_on nat_eq one) list ≡ false → children nat_eq list one ≡ []
    empty list h = filter_none _ list h

    may : may_go nat_eq world itself ≡ true
    may = cc (number, empty world.mounts childless)

    itself_among : Among itself world.mounts
    itself_among = ⊎_elim (λ m. m) (λ none. absurd (cc at)) (found_or_none _ one)

    at_parent : child_at nat_eq world.mounts (record { mount = parent.number; node = place.node }) ≡ Some itself
    at_parent = ap (λ n. child_at nat_eq world.mounts (record { mount = n; node = place.node })) (number-mount_in _ _)
        ∙ found_at_its_place _ one_each itself itself_among place at

    parent_among : (group : ℕ) → parent.propagation ≡ Shared group → Among parent world.mounts
    parent_among group e = ⊎_elim (λ m. m) (λ none. absurd cc) (found_or_none _ _)

    by : (kind : Propagation ℕ) → parent.propagation ≡ kind
        → is_going nat_eq (going_from nat_eq world itself place (is_shared parent.propagation)) one ≡ true
    by (Shared group) e = ap (λ k. is_going nat_eq (going_from nat_eq world itself place (is_shared k)) one) e ∙ ap
        (λ rs. is_among nat_eq one (map (λ (gone : Mount ℕ). gone.number) (filter_map (goes_at nat_eq world place.node)
        rs))) (receivers_of_shared world parent group e) ∙ is_among_numbers _ one
        (subst (λ n. Among n (map (λ (gone : Mount ℕ). gone.number) (filter_map (goes_at nat_eq world place.node)
        (receivers nat_eq world group)))) number (among-map _ _ itself
        (among-filter_map _ _ parent itself (among-filter _ _ parent (parent_among group e)
        (receives_from_source world group parent (ap source_of e))) (child_goes_so world _ parent itself at_parent
        may))))
    by (Slave above) e = cc alone
    by Private e = cc alone
    by Unbindable e = cc alone
