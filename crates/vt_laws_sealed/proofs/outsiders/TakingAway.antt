-- Mounts of others that are taken away: what is left for the set.
use Rattle.std.proofs.Common.{arith, ◌≡◌, refl, sym, ap, subst, ◌∙◌, ⊎_elim, inl, inr, ℕ, nat_eq, Bool, true, false, cond, List, [], Option, Some, None, length, map, option_map}
use Rattle.vt_spec.proofs.Common.{Among, Location, Mount, Namespace, Private, Stands, Task, TaskName, World, after_going, among-from_filter, among-from_map, among_from_all, common_steps, detached, false_from_ne_true, holds_of, is_going, is_own_mount, is_own_namespace, list_any, lost_a_group, mount_numbered, inherited_mount_point, mount_point_of_parent, none_is_some, other_mounts, own_mounts, pair-map, regrouped_by, same_Some, sealed, settled, taken_away, with_mounts}
use Rattle.vt_laws_sealed.proofs.Common.{OneNumberEach, found_itself, namespace_below, placed_inside}
use Rattle.vt_laws_trees.proofs.trees.TreesEntered.{chain_ends_at}
use Rattle.vt_laws_sealed.specs.Part.Seals.{IsApart}
use Rattle.vt_laws_sealed.proofs.outsiders.ChangedWorlds.{OthersMove}
use Rattle.vt_laws_sealed.proofs.outsiders.OtherMounts.{foreign_above, standing_apart}
use Rattle.vt_laws_sealed.proofs.outsiders.Regrouping.{ChangesOthers, IsOfOthers, after_all, all_changed, all_shape, mounts_are, old_type, regrouping_leaves_apart}
use Rattle.vt_laws_sealed.proofs.outsiders.Reshaping.{IsReshaped, reshaping_keeps}
use Rattle.vt_laws_sealed.proofs.outsiders.StandingApart.{StandsApart}
use Rattle.vt_laws_sealed.proofs.outsiders.Staying.{LeavesApart}
use Rattle.vt_laws_sealed.proofs.outsiders.Sweeping.{sweeping_leaves_apart}

-- namespaces stay where mounts are taken away
pub namespaces_taken_away : (world : World ℕ) (gone : List ℕ)
    → record (taken_away nat_eq world gone) { namespaces = world.namespaces } ≡ taken_away nat_eq world gone
namespaces_taken_away world gone = grind (arith, common_steps)

-- Mounts of others go, and others may be elsewhere. Each mount that goes is in a namespace of others.
module _ {world : World ℕ} {names : List TaskName} {New : ℕ → Type 0} (apart : StandsApart world names New)
    {tasks : List (Task ℕ)} {namespaces : List (Namespace ℕ)} (moved : OthersMove world names tasks namespaces)
    (gone : List ℕ) (others_go : (number : ℕ) → is_going nat_eq gone number ≡ true
    → (namespace : ℕ) × ((mount_numbered nat_eq world number).namespace ≡ Some namespace)
    × (is_own_namespace nat_eq world names namespace ≡ false)) where
  abbrev before : World ℕ
  before = record world { tasks = tasks }

  abbrev is_own : ℕ → Bool
  is_own = is_own_namespace nat_eq world names

  abbrev goes : ℕ → Bool
  goes = is_going nat_eq gone

  itself : (mount : Mount ℕ) → Among mount world.mounts → mount_numbered nat_eq world mount.number ≡ mount
  itself mount m = found_itself world.mounts apart.mounts.one_number mount m

  own_not_going : (number namespace : ℕ) → (mount_numbered nat_eq world number).namespace ≡ Some namespace
      → is_own namespace ≡ true → goes number ≡ false
  own_not_going number namespace e own = false_from_ne_true (goes number) (λ h.
      let other = others_go number h in
      cc (own, same_Some namespace other.0 (sym e ∙ other.1), other.2))

  nowhere_not_going : (number : ℕ) → (mount_numbered nat_eq world number).namespace ≡ None → goes number ≡ false
  nowhere_not_going number e =
      false_from_ne_true (goes number) (λ h. let other = others_go number h in none_is_some other.0 (sym e ∙ other.1))

  abbrev change : Mount ℕ → Mount ℕ
  change = after_going nat_eq before gone

  abbrev new_point : Location ℕ → Location ℕ
  new_point = inherited_mount_point nat_eq before gone

  shape : (mount : Mount ℕ) → IsReshaped mount (change mount)
  shape mount = by (goes mount.number)
    where
      by : (b : Bool) → IsReshaped mount (cond b (detached mount) (record mount {
        mount_point = option_map new_point mount.mount_point;
      }))
      by true = (None, None, Private, refl, inr refl)
      by false = (mount.namespace, option_map new_point mount.mount_point, mount.propagation, refl, inl refl)

  point_stays : (point : Location ℕ) → goes point.mount ≡ false → new_point point ≡ point
  point_stays point on = chain_ends_at (λ (here : Location ℕ). here ≡ point) (mount_point_of_parent nat_eq before gone)
      (λ here next e h. none_is_some next (cc)) (length world.mounts) point point refl

  stays : (mount : Mount ℕ) → goes mount.number ≡ false
      → ((point : Location ℕ) → mount.mount_point ≡ Some point → goes point.mount ≡ false) → change mount ≡ mount
  stays mount on parent = grind (arith, common_steps, point_stays)

  own_same : (own : Mount ℕ) → Among own (own_mounts nat_eq world names) → change own ≡ own
  own_same own m =
      let is = among-from_filter (is_own_mount nat_eq world names) world.mounts own m in
      by own.namespace refl is.0 is.1
    where
      by : (o : Option ℕ) → own.namespace ≡ o → Among own world.mounts → holds_of is_own o ≡ true → change own ≡ own
      by None e at h = cc
      by (Some namespace) e at h =
          let placed : (mount_numbered nat_eq world own.number).namespace ≡ Some namespace =
          cc (itself own at, e) in
          stays own (own_not_going own.number namespace placed h) (λ point p.
          own_not_going point.mount namespace (sym (namespace_below world own.number point
          (among_from_all (λ (x : Mount ℕ). Stands nat_eq world x.number) world.mounts apart.mounts.standing own at)
          (ap (λ (x : Mount ℕ). x.mount_point) (itself own at) ∙ p)) ∙ placed) h)

  nowhere_same : (mount : Mount ℕ) → Among mount world.mounts → mount.namespace ≡ None → change mount ≡ mount
  nowhere_same mount at none =
      stays mount (nowhere_not_going mount.number (cc (itself mount at)))
      (λ point p. absurd (placed_inside world apart.mounts mount at point p none))

  kinds : (other : Mount ℕ) → Among other (other_mounts nat_eq world names)
      → IsOfOthers apart (change other).propagation
  kinds other m = grind (arith, common_steps, old_type apart other m)

  changes : ChangesOthers apart change world.master
  changes = record {
    shape = shape;
    own_same = own_same;
    nowhere_same = nowhere_same;
    kinds = kinds;
    above = foreign_above apart;
    own_master = λ number h. refl;
  }

  abbrev halfway : World ℕ
  halfway = with_mounts before (map change world.mounts)

  abbrev lost : Bool
  lost = list_any (lost_a_group nat_eq halfway) halfway.mounts

  abbrev regrouped_world : World ℕ
  regrouped_world = after_all changes moved lost

  abbrev all_change : Mount ℕ → Mount ℕ
  all_change = all_changed changes moved lost

  abbrev left : World ℕ
  left = record world {
    mounts = map all_change world.mounts;
    master = regrouped_world.master;
    namespaces = namespaces;
    tasks = tasks;
  }

  world_left : record (taken_away nat_eq before gone) { namespaces = namespaces } ≡ left
  world_left = cc (
    by lost,
    mounts_are changes moved lost,
  )
    where
      with_names : World ℕ
      with_names = record halfway { namespaces = namespaces }

      by : (b : Bool) → record (regrouped_by nat_eq b halfway) { namespaces = namespaces } ≡ record world {
        mounts = (regrouped_by nat_eq b with_names).mounts;
        master = (regrouped_by nat_eq b with_names).master;
        namespaces = namespaces;
        tasks = tasks;
      }
      by true = refl
      by false = refl

  one_each : OneNumberEach left
  one_each =
      let keeps = reshaping_keeps all_change (all_shape changes moved lost) in
      grind (arith, common_steps, pair-map)

  abbrev pub taken : World ℕ
  taken = record (taken_away nat_eq before gone) { namespaces = namespaces }

  left_leaves_apart : LeavesApart world left names []
  left_leaves_apart = regrouping_leaves_apart changes moved lost regrouped_world.master (λ number. inl refl)
      (λ number h. refl)

  pub taken_leaves_apart : LeavesApart world taken names []
  taken_leaves_apart = subst (λ w. LeavesApart world w names []) (sym world_left) left_leaves_apart

  pub one_taken : OneNumberEach taken
  one_taken = subst OneNumberEach (sym world_left) one_each

  pub filesystems_taken : taken.filesystems ≡ world.filesystems
  filesystems_taken = ap (λ (w : World ℕ). w.filesystems) world_left

  -- a mount that is in a namespace still was there
  pub taken_from : (mount : Mount ℕ) → Among mount taken.mounts → (namespace : ℕ) → mount.namespace ≡ Some namespace
      → (old : Mount ℕ) × Among old world.mounts × (old.number ≡ mount.number) × (old.namespace ≡ Some namespace)
  taken_from mount m namespace e =
      let from = among-from_map all_change world.mounts mount
      (subst (λ (w : World ℕ). Among mount w.mounts) world_left m) in
      let keeps = reshaping_keeps all_change (all_shape changes moved lost) in (
        from.0,
        from.1,
        cc (keeps.number from.0, from.2),
        ⊎_elim (λ same. cc (from.2)) (λ none. none_is_some namespace (cc (from.2))) (keeps.namespace from.0),
      )

-- So it is after the sweep.
pub taking_leaves_apart : (world : World ℕ) (names : List TaskName) → IsApart world names
    → sealed nat_eq world names ≡ true → (tasks : List (Task ℕ)) (namespaces : List (Namespace ℕ))
    → OthersMove world names tasks namespaces → (gone : List ℕ) → ((number : ℕ) → is_going nat_eq gone number ≡ true
    → (namespace : ℕ) × ((mount_numbered nat_eq world number).namespace ≡ Some namespace)
    × (is_own_namespace nat_eq world names namespace ≡ false)) → LeavesApart world
    (settled nat_eq (record (taken_away nat_eq (record world { tasks = tasks }) gone) { namespaces = namespaces }))
    names []
taking_leaves_apart world names apart sealed_off tasks namespaces moved gone others_go =
    let so_far = standing_apart world names apart in
    sweeping_leaves_apart world (taken so_far moved gone others_go) names apart sealed_off
    (filesystems_taken so_far moved gone others_go) (one_taken so_far moved gone
    others_go) [] (taken_leaves_apart so_far moved gone others_go)
