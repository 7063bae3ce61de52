-- Mounts are taken away from a world that was swept before, or that was not: after the sweep that follows the two
-- worlds are one.
use Rattle.std.proofs.Common.{◌≡◌, refl, sym, ap, subst, ◌∙◌, ℕ, zero, suc, nat_eq, Bool, true, false, cond, not, ◌||◌, List, filter, length, map, true≢false, Option, Some, None, is_some, option_map, arith}
use Rattle.vt_spec.proofs.Common.{HasLivingGroups, Location, Mount, MountInvariants, Namespace, Private, Propagation, Shared, Slave, Stands, Task, Unbindable, World, after_going, at_root, chain, chain_ends, chain_goes_on, common_steps, cond-None, detached, has_master, has_members, has_no_master, heir, inherited, is_going, is_lost_group, is_member_of, is_nowhere_or_attached, is_private, last_of_chain, last_or, length-map, list_any, lost_a_group, map_alike, mount_in, mount_lives, inherited_mount_point, mount_point_of_parent, on_parent, settled, slave_of_heir, source_of, taken_away, then_some}
use Rattle.vt_laws_mounts.specs.LettingGo.InUse.{HasTrees, UppersArePlain}
use Rattle.vt_laws_mounts.specs.LettingGo.Leaving.{MountsStand, comes_nowhere, with_tasks}
use Rattle.vt_laws_mounts.specs.LettingGo.Overlays.{RealsAreThere}
use Rattle.vt_laws_mounts.proofs.letting_go.Chains.{Way, chains_alike}
use Rattle.vt_laws_mounts.proofs.letting_go.Chains.Way.{ends, goes_on}
use Rattle.vt_laws_mounts.proofs.letting_go.Lists.{Among, among-filter, among-from_filter, among_from_all, any-filter, any-map, filter-map, filter_twice, any_among, among_from_list_all, held_number}
use Rattle.vt_laws_mounts.proofs.letting_go.SweptBetween.{SameUses, follows, one_sweep_after_both, with_parts}
use Rattle.vt_laws_mounts.proofs.letting_go.leaving.PlacesLeft.{found_is_there, place_attached, placed_is_attached, private_is_no_member, was_located}
use Rattle.vt_laws_mounts.proofs.letting_go.leaving.TreesWithOverlays.{any_changed}
use Rattle.vt_laws_mounts.proofs.letting_go.leaving.UsedBefore.{ChangesMounts, lived, located_was, mounted_was, was}
use Rattle.vt_laws_mounts.proofs.letting_go.mounting.MountingTaken
use Rattle.vt_laws_mounts.proofs.letting_go.mounting.MountingTaken.{is_changed, same_filesystem, same_namespace, same_number, same_root, shows_the_same}
use Rattle.vt_laws_mounts.proofs.letting_go.mounting.MountsSwept
use Rattle.vt_laws_mounts.proofs.letting_go.mounting.MountsSwept.{attached_lives, master_kept, master_of, mounts_stand, number_there, of_world, same_found, shorter, standing_at, unused_private, way_up}
use Rattle.vt_laws_mounts.proofs.letting_go.mounting.Unmounted.{does_not_go}
use Rattle.vt_spec.proofs.Lists.{find_agrees}

module _ (world : World ℕ) (tasks : List (Task ℕ)) (namespaces : List (Namespace ℕ)) (gone : List ℕ)
    (kept : MountInvariants nat_eq world) (nowhere_new : comes_nowhere world tasks ≡ true) where
  abbrev first_mounts : List (Mount ℕ)
  first_mounts = MountsSwept.first_mounts world kept

  abbrev numbers : List ℕ
  numbers = MountsSwept.numbers world kept

  abbrev groups_there : List ℕ
  groups_there = MountsSwept.groups_there world kept

  abbrev IsAttached : ℕ → Type 0
  IsAttached = MountsSwept.IsAttached world kept

  abbrev LivesIn : ℕ → Type 0
  LivesIn = MountsSwept.LivesIn world kept

  abbrev not_swept : World ℕ
  not_swept = with_tasks world tasks

  abbrev swept : World ℕ
  swept = with_tasks (settled nat_eq world) tasks

  -- Places
  abbrev falls : Location ℕ → Option (Location ℕ)
  falls = mount_point_of_parent nat_eq not_swept gone

  abbrev falls_swept : Location ℕ → Option (Location ℕ)
  falls_swept = mount_point_of_parent nat_eq swept gone

  abbrev WayDown : Location ℕ → Type 0
  WayDown = Way falls falls_swept (λ (l : Location ℕ). l.mount) numbers

  way_down : (number : ℕ) → Stands nat_eq world number → (place : Location ℕ) → place.mount ≡ number
      → IsAttached place.mount → WayDown place
  way_down number (at_root it e) place same attached = grind (arith, common_steps, same, ends, cond-None, same_found)
  way_down number (on_parent it below e beside rest) place same attached =
      grind (arith, common_steps, same, ends, goes_on, same_found, number_there, way_down below.mount rest below refl)

  same_left : (place : Location ℕ) → IsAttached place.mount
      → inherited_mount_point nat_eq swept gone place ≡ inherited_mount_point nat_eq not_swept gone place
  same_left place attached =
      let many : length numbers ≡ length first_mounts = length-map first_mounts (λ (mount : Mount ℕ). mount.number)
      in grind (
        arith,
        common_steps,
        chains_alike,
        way_down place.mount (standing_at world kept place.mount attached) place refl attached,
        shorter world kept,
      )

  abbrev going : Mount ℕ → Mount ℕ
  going = after_going nat_eq not_swept gone

  going_alike : (mount : Mount ℕ) → Among mount world.mounts → after_going nat_eq swept gone mount ≡ going mount
  going_alike mount m = by (is_going nat_eq gone mount.number)
    where
      points : (o : Option (Location ℕ)) → mount.mount_point ≡ o
          → option_map (inherited_mount_point nat_eq swept gone) o ≡ option_map (inherited_mount_point nat_eq not_swept gone) o
      points None e = refl
      points (Some place) e = ap Some (same_left place (place_attached world (mounts_stand world kept) mount m place e))

      by : (b : Bool) → cond b (detached mount) (record mount {
        mount_point = option_map (inherited_mount_point nat_eq swept gone) mount.mount_point;
      }) ≡ cond b (detached mount) (record mount {
        mount_point = option_map (inherited_mount_point nat_eq not_swept gone) mount.mount_point;
      })
      by true = refl
      by false = ap (λ point. record mount { mount_point = point }) (points _ refl)

  -- Groups
  abbrev before : World ℕ
  before = MountingTaken.without not_swept gone namespaces

  abbrev before_swept : World ℕ
  before_swept = MountingTaken.without swept gone namespaces

  swept_mounts : before_swept.mounts ≡ map going first_mounts
  swept_mounts = map_alike _ going _ (λ mount m. going_alike mount (of_world world kept mount m))

  private_then : (mount : Mount ℕ) → is_private mount.propagation ≡ true → is_private (going mount).propagation ≡ true
  private_then mount e = grind (arith, common_steps)

  -- a test of what is left of each mount, which private ones do not pass
  tested : (test : Mount ℕ → Bool) → ((mount : Mount ℕ) → is_private mount.propagation ≡ true → test mount ≡ false)
      → list_any test (map going first_mounts) ≡ list_any test (map going world.mounts)
  tested test fails = any-map test {q = λ mount. test (going mount)} going first_mounts (λ mount. refl) ∙ any-filter _ _
      _ (λ mount m dead. fails (going mount) (private_then mount (unused_private world kept mount m dead))) ∙ sym
      (any-map test {q = λ mount. test (going mount)} going world.mounts (λ mount. refl))

  members_before : (group : ℕ) → has_members nat_eq before_swept.mounts group ≡ has_members nat_eq before.mounts group
  members_before group = cc (swept_mounts, tested (is_member_of nat_eq group) (private_is_no_member group))

  heir_alike : (group : ℕ) → LivesIn group → heir nat_eq before_swept (Some group) ≡ heir nat_eq before (Some group)
  heir_alike group lives =
      grind (arith, common_steps, length-map, find_agrees, members_before, chains_alike, way_up, shorter)

  heir_of_master : (group : ℕ) → LivesIn group
      → heir nat_eq before_swept ((settled nat_eq world).master group) ≡ heir nat_eq before (world.master group)
  heir_of_master group (has_no_master it has e) = grind (arith, common_steps, master_kept)
  heir_of_master group (has_master it above has e rest) = grind (arith, common_steps, above, master_kept, heir_alike)

  abbrev HasLivingSource : Propagation ℕ → Type 0
  HasLivingSource kind = (group : ℕ) → source_of kind ≡ Some group → LivesIn group

  inherited_alike : (kind : Propagation ℕ) → HasLivingSource kind
      → inherited nat_eq before_swept kind ≡ inherited nat_eq before kind
  inherited_alike (Shared group) lives = refl
  inherited_alike (Slave master) lives = ap slave_of_heir (heir_alike master (lives master refl))
  inherited_alike Private lives = refl
  inherited_alike Unbindable lives = refl

  source_then : (mount : Mount ℕ) → Among mount world.mounts → HasLivingSource (going mount).propagation
  source_then mount m = by (is_going nat_eq gone mount.number)
    where
      by : (b : Bool) → HasLivingSource (cond b (detached mount) (record mount {
        mount_point = option_map (inherited_mount_point nat_eq not_swept gone) mount.mount_point;
      })).propagation
      by true group e = cc
      by false group e = among_from_all (HasLivingGroups nat_eq world) world.mounts kept.groups mount m group e

  change_alike : (b : Bool) (mount : Mount ℕ) → Among mount world.mounts
      → MountingTaken.change swept gone namespaces b mount ≡ MountingTaken.change not_swept gone namespaces b mount
  change_alike true mount m = cc (going_alike mount m, inherited_alike (going mount).propagation (source_then mount m))
  change_alike false mount m = going_alike mount m

  lost_alike : (mount : Mount ℕ) → Among mount world.mounts
      → lost_a_group nat_eq before_swept (going mount) ≡ lost_a_group nat_eq before (going mount)
  lost_alike mount m = λ i. lost (source_of (going mount).propagation) i
      || (ap (is_lost_group nat_eq before_swept) (above (source_of (going mount).propagation) refl)
      ∙ lost (then_some (source_of (going mount).propagation) world.master)) i
    where
      lost : (o : Option ℕ) → is_lost_group nat_eq before_swept o ≡ is_lost_group nat_eq before o
      lost None = refl
      lost (Some group) = ap not (members_before group)

      above : (o : Option ℕ) → source_of (going mount).propagation ≡ o
          → then_some o (settled nat_eq world).master ≡ then_some o world.master
      above None e = refl
      above (Some group) e = master_of world kept group (source_then mount m group e)

  abbrev hands_on : Bool
  hands_on = list_any (lost_a_group nat_eq before) before.mounts

  abbrev hands_on_swept : Bool
  hands_on_swept = list_any (lost_a_group nat_eq before_swept) before_swept.mounts

  hands_alike : hands_on_swept ≡ hands_on
  hands_alike = ap (list_any (lost_a_group nat_eq before_swept)) swept_mounts ∙ any_changed going _ _ _
      (λ mount m. lost_alike mount (of_world world kept mount m)) ∙ sym
      (any-map _ {q = λ mount. lost_a_group nat_eq before (going mount)} going first_mounts (λ mount. refl)) ∙ tested _
      (λ mount e. none _ e)
    where
      none : (kind : Propagation ℕ) → is_private kind ≡ true → (is_lost_group nat_eq before (source_of kind)
          || is_lost_group nat_eq before (then_some (source_of kind) world.master)) ≡ false
      none (Shared group) e = cc
      none (Slave master) e = cc
      none Private e = refl
      none Unbindable e = cc

  -- The two worlds
  abbrev change : Mount ℕ → Mount ℕ
  change = MountingTaken.change not_swept gone namespaces hands_on

  abbrev once_mounts : List (Mount ℕ)
  once_mounts = map change world.mounts

  abbrev again_mounts : List (Mount ℕ)
  again_mounts = map (MountingTaken.change swept gone namespaces hands_on_swept) first_mounts

  abbrev once : World ℕ
  once = with_parts world once_mounts (MountingTaken.masters not_swept gone namespaces hands_on) namespaces tasks

  abbrev again : World ℕ
  again = with_parts (settled nat_eq world) again_mounts
      (MountingTaken.masters swept gone namespaces hands_on_swept) namespaces tasks

  abbrev last_mounts : List (Mount ℕ)
  last_mounts = filter (mount_lives nat_eq once) once_mounts

  again_is : again_mounts ≡ map change first_mounts
  again_is = cc (hands_alike, map_alike _ change _ (λ mount m. change_alike _ mount (of_world world kept mount m)))

  number-change : (mount : Mount ℕ) → (change mount).number ≡ mount.number
  number-change mount = same_number not_swept gone namespaces hands_on mount

  was_attached : (mount : Mount ℕ) → is_some (change mount).namespace ≡ true → is_some mount.namespace ≡ true
  was_attached mount e =
      cc (same_namespace not_swept gone namespaces hands_on mount (does_not_go not_swept gone hands_on mount e))

  -- Masters
  masters_alike : (b : Bool) (group : ℕ) → LivesIn group
      → MountingTaken.masters swept gone namespaces b group ≡ MountingTaken.masters not_swept gone namespaces b group
  masters_alike true group lives = heir_of_master group lives
  masters_alike false group lives = master_of world kept group lives

  member_was : (b : Bool) (mount : Mount ℕ) (group : ℕ)
      → is_member_of nat_eq group (MountingTaken.change not_swept gone namespaces b mount) ≡ true
      → source_of (going mount).propagation ≡ Some group
  member_was true mount group e = grind (arith, common_steps, held_number, true≢false)
  member_was false mount group e = grind (arith, common_steps, held_number, true≢false)

  -- a mount point at the end was one before
  abbrev Stood : Location ℕ → Type 0
  Stood place = (other : Mount ℕ) × Among other world.mounts × (other.mount_point ≡ Some place)

  came_from : (n : ℕ) (mount : Mount ℕ) → Among mount world.mounts → (place : Location ℕ)
      → mount.mount_point ≡ Some place → Stood (last_or place (chain n falls place))
  came_from zero mount m place p = (mount, m, p)
  came_from (suc n) mount m place p = by _ refl (came_from n)
    where
      by : (o : Option (Location ℕ)) → falls place ≡ o
          → ((x : Mount ℕ) → Among x world.mounts → (at : Location ℕ) → x.mount_point ≡ Some at
          → Stood (last_or at (chain n falls at))) → Stood (last_or place (chain (suc n) falls place))
      by None e later = (mount, m, cc (p, chain_ends falls n place e))
      by (Some below) e later =
          let parent = mount_in nat_eq world.mounts place.mount in
          let there = found_is_there _ _ (place_attached world (mounts_stand world kept) mount m place p) in
          let t = later parent there below (goes _ e) in
          (t.0, t.1, cc (t.2, chain_goes_on falls n place below e, last_of_chain falls n below place))
        where
          goes : (b : Bool) → cond b (mount_in nat_eq world.mounts place.mount).mount_point None ≡ Some below
              → (mount_in nat_eq world.mounts place.mount).mount_point ≡ Some below
          goes true f = f
          goes false f = cc

  point_was : (mount : Mount ℕ) → Among mount world.mounts → (place : Location ℕ)
      → (change mount).mount_point ≡ Some place → Stood place
  point_was mount m place p = by (is_going nat_eq gone mount.number) mount.mount_point refl (sym (same _) ∙ p)
    where
      same : (b : Bool) → (MountingTaken.change not_swept gone namespaces b mount).mount_point
          ≡ (going mount).mount_point
      same true = refl
      same false = refl

      by : (b : Bool) (o : Option (Location ℕ)) → mount.mount_point ≡ o → (cond b (detached mount) (record mount {
        mount_point = option_map (inherited_mount_point nat_eq not_swept gone) o;
      })).mount_point ≡ Some place → Stood place
      by true o e f = cc
      by false None e f = cc
      by false (Some at) e f =
          let t = came_from _ mount m at e in (t.0, t.1, t.2 ∙ f)

  -- The change as a whole
  module _ (afterwards : MountsStand once) where
    changes : ChangesMounts world once change
    changes = record {
      mounts = refl;
      locations = was_located world tasks nowhere_new;
      one_number = kept.one_number;
      number = number-change;
      root = same_root not_swept gone namespaces hands_on;
      filesystem = same_filesystem not_swept gone namespaces hands_on;
      shown = shows_the_same not_swept gone namespaces hands_on;
      attached = λ mount attached. attached_lives world kept mount (was_attached mount attached);
      placed = λ mount m place e. placed (point_was mount (among-from_filter _ _ mount m).0 place e);
      stand = afterwards;
    }
      where
        placed : {place : Location ℕ} → Stood place
            → (other : Mount ℕ) × Among other first_mounts × (other.mount_point ≡ Some place)
        placed {place} (other, n, f) =
            let in_one = placed_is_attached other
            (among_from_list_all is_nowhere_or_attached world.mounts kept.nowhere other n) place f in
            (other, among-filter (mount_lives nat_eq world) _ other n (attached_lives world kept other in_one), f)

    same_mounts : filter (mount_lives nat_eq again) again_mounts ≡ last_mounts
    same_mounts = ap (filter (mount_lives nat_eq once)) again_is ∙ filter-map _
        {q = λ mount. mount_lives nat_eq once (change mount)} change first_mounts (λ mount. refl) ∙ ap (map change)
        (filter_twice _ _ _ (λ mount. follows _ _ (lived changes mount)) _) ∙ sym
        (filter-map _ {q = λ mount. mount_lives nat_eq once (change mount)} change world.mounts (λ mount. refl))

    same_master : (group : ℕ) → has_members nat_eq last_mounts group ≡ true → again.master group ≡ once.master group
    same_master group has =
        let t = any_among _ _ has in
        let old = was changes t.0 t.1 in
        grind (arith, common_steps, among-from_filter, hands_alike, masters_alike, source_then, member_was)

    same_uses : SameUses world once again
    same_uses = record {
      mounts = same_mounts;
      master = same_master;
      mounted = mounted_was changes;
      located = located_was changes;
    }

  abbrev taken : World ℕ → World ℕ
  taken now = record (taken_away nat_eq now gone) { namespaces = namespaces }

  pub one_sweep_between : HasTrees world → UppersArePlain world → RealsAreThere world → MountsStand (taken not_swept)
      → settled nat_eq (taken swept) ≡ settled nat_eq (taken not_swept)
  one_sweep_between trees uppers reals afterwards =
      ap (settled nat_eq) (is_changed swept gone namespaces hands_on_swept)
      ∙ one_sweep_after_both world once_mounts again_mounts once.master again.master namespaces tasks trees uppers reals
      (same_uses (subst MountsStand (is_changed not_swept gone namespaces hands_on) afterwards))
      ∙ sym (ap (settled nat_eq) (is_changed not_swept gone namespaces hands_on))
