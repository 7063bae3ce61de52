-- Unmount events in a world that was swept before, or that was not.
use Rattle.std.proofs.Common.{◌≡◌, refl, sym, ap, subst, ◌∙◌, ⊎_elim, ℕ, nat_eq, Bool, true, false, cond, List, [], ◌∷◌, filter, find, Option, Some, None, is_some, arith}
use Rattle.vt_spec.proofs.Common.{HasLivingGroups, Location, Mount, MountInvariants, Private, Propagation, Shared, Slave, Unbindable, World, cases_Bool, child_at, children, common_steps, filesystems-taken_away, filter_alike, found_or_none, goes_at, going, going_at, going_from, groups_up, holds_of, is_among, is_nowhere_or_attached, is_private, length-map, mount_in, mount_lives, mount_numbered, none_from_not_some, number-mount_in, or_parts, receivers, receivers_of, receives, settled, source_of, stands_at, taken_away, unmounted, unmounted_if_there}
use Rattle.vt_laws_mounts.specs.LettingGo.Leaving.{MountsStand}
use Rattle.vt_laws_mounts.specs.LettingGo.Several.{GoingIsNotSwept, OneSweepForAllEvents, OneSweepForAllEventsWithOverlays, OneSweepForEvents, OneSweepForEventsWithOverlays}
use Rattle.vt_laws_mounts.proofs.letting_go.Chains.{chains_alike}
use Rattle.vt_laws_mounts.proofs.letting_go.Lists.{Among, among_from_all, among_from_list_all, filter_less}
use Rattle.vt_laws_mounts.proofs.letting_go.leaving.LeftOneByOne.{plain_reals, plain_uppers}
use Rattle.vt_laws_mounts.proofs.letting_go.leaving.PlacesLeft.{found_is_there, found_itself, nowhere_parts, place_attached}
use Rattle.vt_laws_mounts.proofs.letting_go.mounting.MountsSwept.{IsAttached, LivesIn, first_mounts, groups_there, mounts_stand, of_world, same_found, shorter, unused_private, way_up}
use Rattle.vt_laws_mounts.proofs.letting_go.mounting.TakenInTurn.{one_sweep_for_mounts_with_overlays, one_sweep_in_turn}
use Rattle.vt_laws_mounts.proofs.letting_go.sweeps.InUse.{one_sweep_is_enough}

-- A search that passes over what another test skips finds the same.
module _ {A : Type 0} (p q : A → Bool) where
  find_less : (xs : List A) → ((x : A) → Among x xs → q x ≡ false → p x ≡ false) → find p (filter q xs) ≡ find p xs
  find_less [] h = refl
  find_less (y ∷ ys) h = grind (arith, common_steps, find_less ys)

-- a mount outside every namespace that is looked for has no mount point
no_point_outside : (mounts : List (Mount ℕ)) → ((mount : Mount ℕ) → Among mount mounts
    → is_nowhere_or_attached mount ≡ true) → (number : ℕ) → is_some (mount_in nat_eq mounts number).namespace ≡ false
    → (mount_in nat_eq mounts number).mount_point ≡ None
no_point_outside mounts nowhere number e = ⊎_elim
    (λ there. none_from_not_some (mount_in nat_eq mounts number).mount_point
    (nowhere_parts (mount_in nat_eq mounts number) (nowhere (mount_in nat_eq mounts number) there) e).0)
    (λ none. ap (λ (x : Mount ℕ). x.mount_point) none) (found_or_none mounts number)

module _ (world : World ℕ) (kept : MountInvariants nat_eq world) where
  abbrev swept : World ℕ
  swept = settled nat_eq world

  abbrev mounts_left : List (Mount ℕ)
  mounts_left = first_mounts world kept

  abbrev lives : Mount ℕ → Bool
  lives = mount_lives nat_eq world

  nowhere : (mount : Mount ℕ) → Among mount world.mounts → is_nowhere_or_attached mount ≡ true
  nowhere mount m = among_from_list_all _ _ kept.nowhere mount m

  unused_nowhere : (mount : Mount ℕ) → Among mount world.mounts → lives mount ≡ false → mount.mount_point ≡ None
  unused_nowhere mount m dead = none_from_not_some _ (nowhere_parts mount (nowhere mount m) (or_parts _ _ dead).0).0

  -- Children
  same_children : (number : ℕ) → children nat_eq mounts_left number ≡ children nat_eq world.mounts number
  same_children number = filter_less _ lives _
      (λ mount m dead. ap (holds_of (λ (l : Location ℕ). nat_eq number l.mount)) (unused_nowhere mount m dead))

  same_child : (location : Location ℕ) → child_at nat_eq mounts_left location ≡ child_at nat_eq world.mounts location
  same_child location = find_less _ lives _ (λ mount m dead. ap (λ o. stands_at nat_eq location
      (record mount { mount_point = o })) (unused_nowhere mount m dead))

  goes_alike : (node : ℕ) (receiver : Mount ℕ) → goes_at nat_eq swept node receiver ≡ goes_at nat_eq world node receiver
  goes_alike node receiver =
      grind (arith, common_steps, same_child (record { mount = receiver.number; node = node }), same_children)

  -- Receivers
  same_groups : (source : ℕ) → LivesIn world kept source → groups_up swept source ≡ groups_up world source
  same_groups source life = grind (arith, common_steps, groups_there, length-map, chains_alike, way_up, shorter)

  receives_alike : (group : ℕ) (mount : Mount ℕ) → Among mount world.mounts
      → receives nat_eq swept group mount ≡ receives nat_eq world group mount
  receives_alike group mount m = by _ refl
    where
      by : (o : Option ℕ) → source_of mount.propagation ≡ o
          → holds_of (λ source. is_among nat_eq group (groups_up swept source)) o
          ≡ holds_of (λ source. is_among nat_eq group (groups_up world source)) o
      by None e = refl
      by (Some source) e = ap (is_among nat_eq group) (same_groups source
          (among_from_all (HasLivingGroups nat_eq world) world.mounts kept.groups mount m source e))

  same_receivers : (group : ℕ) → receivers nat_eq swept group ≡ receivers nat_eq world group
  same_receivers group = filter_alike _ _ _ (λ mount m. receives_alike group mount (of_world world kept mount m))
      ∙ filter_less _ lives _ (λ mount m dead. none _ (unused_private world kept mount m dead))
    where
      none : (kind : Propagation ℕ) → is_private kind ≡ true
          → holds_of (λ source. is_among nat_eq group (groups_up world source)) (source_of kind) ≡ false
      none (Shared own) e = cc
      none (Slave master) e = cc
      none Private e = refl
      none Unbindable e = cc

  same_receivers_of : (mount : Mount ℕ) → receivers_of nat_eq swept mount ≡ receivers_of nat_eq world mount
  same_receivers_of mount = grind (arith, common_steps, same_receivers)

  -- What goes
  goes_from_alike : (mount : Mount ℕ) (place : Location ℕ) → IsAttached world kept place.mount → (shared : Bool)
      → going_from nat_eq swept mount place shared ≡ going_from nat_eq world mount place shared
  goes_from_alike mount place attached false = refl
  goes_from_alike mount place attached true = grind (arith, common_steps, goes_alike, same_found, same_receivers_of)

  goes_alike_at : (mount : Mount ℕ)
      → ((place : Location ℕ) → mount.mount_point ≡ Some place → IsAttached world kept place.mount)
      → going nat_eq swept mount ≡ going nat_eq world mount
  goes_alike_at mount on = grind (arith, common_steps, same_found, goes_from_alike)

  attached_alike : (number : ℕ) → is_some (mount_numbered nat_eq swept number).namespace
      ≡ is_some (mount_numbered nat_eq world number).namespace
  attached_alike number = by _ refl
    where
      by : (b : Bool) → is_some (mount_numbered nat_eq world number).namespace ≡ b
          → is_some (mount_in nat_eq mounts_left number).namespace
          ≡ is_some (mount_numbered nat_eq world number).namespace
      by true e = ap (λ (x : Mount ℕ). is_some x.namespace) (same_found world kept number e)
      by false e = ⊎_elim (λ is.
          let found = mount_in nat_eq mounts_left number in
          let itself = found_itself _ kept.one_number found (of_world world kept found (found_is_there _ number is)) in
          cc (itself, number-mount_in mounts_left number)) (λ isnt. cc) (cases_Bool _)

  same_going : (number : ℕ) → going nat_eq swept (mount_numbered nat_eq swept number)
      ≡ going nat_eq world (mount_numbered nat_eq world number)
  same_going number = by _ refl
    where
      by : (b : Bool) → is_some (mount_numbered nat_eq world number).namespace ≡ b
          → going nat_eq swept (mount_numbered nat_eq swept number)
          ≡ going nat_eq world (mount_numbered nat_eq world number)
      by true e =
          let mount = mount_numbered nat_eq world number in
          ap (going nat_eq swept) (same_found world kept number e) ∙ goes_alike_at mount (λ place p.
          place_attached world (mounts_stand world kept) mount (found_is_there _ number e) place p)
      by false e =
          let left = mount_numbered nat_eq swept number in
          let mount = mount_numbered nat_eq world number in
          ap (going_at nat_eq swept left) (no_point_outside _ (λ x m. nowhere x (of_world world kept x m)) number
          (attached_alike number ∙ e)) ∙ ap (λ n. n ∷ []) (number-mount_in _ number ∙ sym (number-mount_in _ number))
          ∙ sym (ap (going_at nat_eq world mount) (no_point_outside _ nowhere number e))

pub going_is_not_swept : GoingIsNotSwept
going_is_not_swept world number kept = same_going world kept number

pub one_sweep_for_events_with_overlays : OneSweepForEventsWithOverlays
one_sweep_for_events_with_overlays world mount trees uppers reals kept afterwards = by _ refl
  where
    by : (b : Bool) → is_some (mount_numbered nat_eq world mount.number).namespace ≡ b
        → settled nat_eq (unmounted_if_there nat_eq (settled nat_eq world) mount)
        ≡ settled nat_eq (unmounted_if_there nat_eq world mount)
    by true e =
        let gone = going nat_eq world (mount_numbered nat_eq world mount.number) in
        ap (λ b. settled nat_eq (cond b (unmounted nat_eq (settled nat_eq world) mount.number) (settled nat_eq world)))
        (attached_alike world kept _ ∙ e) ∙ ap (λ numbers. settled nat_eq (taken_away nat_eq (settled nat_eq world)
        numbers)) (same_going world kept _) ∙ one_sweep_for_mounts_with_overlays world gone trees uppers reals kept
        (subst (λ b. MountsStand (cond b (unmounted nat_eq world mount.number) world)) e afterwards) ∙ sym
        (ap (λ b. settled nat_eq (cond b (unmounted nat_eq world mount.number) world)) e)
    by false e = ap (λ b. settled nat_eq (cond b (unmounted nat_eq (settled nat_eq world) mount.number)
        (settled nat_eq world))) (attached_alike world kept _ ∙ e) ∙ one_sweep_is_enough world trees uppers ∙ sym
        (ap (λ b. settled nat_eq (cond b (unmounted nat_eq world mount.number) world)) e)

pub one_sweep_for_events : OneSweepForEvents
one_sweep_for_events world mount plain trees kept afterwards =
    one_sweep_for_events_with_overlays world mount trees (plain_uppers world plain) (plain_reals world plain) kept
    afterwards

-- an event leaves the filesystems
filesystems-event : (world : World ℕ) (mount : Mount ℕ)
    → (unmounted_if_there nat_eq world mount).filesystems ≡ world.filesystems
filesystems-event world mount = grind (arith, common_steps, filesystems-taken_away)

pub one_sweep_for_all_events_with_overlays : OneSweepForAllEventsWithOverlays
one_sweep_for_all_events_with_overlays world mounts trees uppers reals kept = one_sweep_in_turn
    (unmounted_if_there nat_eq) filesystems-event (λ now mount t u r before after. one_sweep_for_events_with_overlays
    now mount t u r before (mounts_stand _ after)) world mounts trees uppers reals kept

pub one_sweep_for_all_events : OneSweepForAllEvents
one_sweep_for_all_events world mounts plain trees kept =
    one_sweep_for_all_events_with_overlays world mounts trees (plain_uppers world plain) (plain_reals world plain) kept
