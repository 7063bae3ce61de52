-- What is in use after a change of mounts and tasks was in use before it.
use Rattle.std.proofs.Common.{◌≡◌, sym, subst, ◌∙◌, ⊎_elim, ℕ, nat_eq, eqb-true, eq-eqb, true, false, List, filter, map, ◌++◌, Some, is_some, filter_map}
use Rattle.vt_spec.proofs.Common.{Location, Mount, World, all_locations, any_pair, is_mounted, located_in, mount_in, mount_lives, or_cases, root_of, without_dead_mounts}
use Rattle.vt_laws_mounts.specs.LettingGo.Leaving.{MountsStand}
use Rattle.vt_laws_mounts.proofs.letting_go.Lists.{Among, among-append, among-append_left, among-append_right, among-filter, among-filter_map, among-from_filter, among-from_filter_map, among-from_map, among-map, any_among, any_from_among, or_left, or_right}
use Rattle.vt_laws_mounts.proofs.letting_go.leaving.PlacesLeft.{found_in_filter, found_itself, place_attached}

-- Mounts stay what they were and are put where others were at most; tasks come nowhere.
pub record ChangesMounts (world once : World ℕ) (change : Mount ℕ → Mount ℕ) : Type 0 where
  pub mounts : once.mounts ≡ map change world.mounts
  pub locations : (location : Location ℕ) → Among location (all_locations once) → Among location (all_locations world)
  pub one_number : any_pair (λ (a b : Mount ℕ). nat_eq a.number b.number) world.mounts ≡ false
  pub number : (mount : Mount ℕ) → (change mount).number ≡ mount.number
  pub root : (mount : Mount ℕ) → root_of (change mount) ≡ root_of mount
  pub filesystem : (mount : Mount ℕ) → (change mount).filesystem ≡ mount.filesystem
  pub shown : (number : ℕ)
      → (mount_in nat_eq once.mounts number).filesystem ≡ (mount_in nat_eq world.mounts number).filesystem
  pub attached : (mount : Mount ℕ) → is_some (change mount).namespace ≡ true → mount_lives nat_eq world mount ≡ true
  pub placed : (mount : Mount ℕ) → Among mount (filter (mount_lives nat_eq world) world.mounts)
      → (place : Location ℕ) → (change mount).mount_point ≡ Some place
      → (other : Mount ℕ) × Among other (filter (mount_lives nat_eq world) world.mounts)
      × (other.mount_point ≡ Some place)
  pub stand : MountsStand once

module _ {world once : World ℕ} {change : Mount ℕ → Mount ℕ} (changes : ChangesMounts world once change) where
  abbrev first_mounts : List (Mount ℕ)
  first_mounts = filter (mount_lives nat_eq world) world.mounts

  abbrev last_mounts : List (Mount ℕ)
  last_mounts = filter (mount_lives nat_eq once) once.mounts

  pub lived : (mount : Mount ℕ) → mount_lives nat_eq once (change mount) ≡ true → mount_lives nat_eq world mount ≡ true
  lived mount lives = ⊎_elim (changes.attached mount) (λ located.
      let t = any_among _ _ located in
      or_right _ _ (any_from_among _ _ t.0 (changes.locations t.0 t.1) (cc (changes.number mount, t.2))))
      (or_cases _ _ lives)

  -- what a mount that is in use at the end was
  pub was : (mount : Mount ℕ) → Among mount last_mounts
      → (old : Mount ℕ) × Among old first_mounts × (mount ≡ change old) × (mount_lives nat_eq once mount ≡ true)
  was mount m =
      let here = among-from_filter (mount_lives nat_eq once) once.mounts mount m in
      let from = among-from_map change world.mounts mount (subst (Among mount) changes.mounts here.0) in
      (from.0, among-filter _ _ from.0 from.1 (lived from.0 (cc (from.2, here.1))), from.2, here.1)

  pub mounted_was : (number : ℕ) → is_mounted nat_eq (without_dead_mounts nat_eq once) number ≡ true
      → is_mounted nat_eq (without_dead_mounts nat_eq world) number ≡ true
  mounted_was number is =
      let t = any_among _ _ is in
      let old = was t.0 t.1 in
      any_from_among _ _ old.0 old.1 (cc (t.2, old.2, changes.filesystem old.0))

  -- Inodes: what is at a place in the end was at one before
  shows_alike : (number : ℕ) → ((mount : Mount ℕ) → Among mount world.mounts → mount.number ≡ number
      → mount_lives nat_eq once (change mount) ≡ true)
      → (mount_in nat_eq last_mounts number).filesystem ≡ (mount_in nat_eq first_mounts number).filesystem
  shows_alike number stays =
      let last : mount_in nat_eq last_mounts number ≡ mount_in nat_eq once.mounts number =
      found_in_filter (mount_lives nat_eq once) once.mounts number (λ mount m same.
      let from = among-from_map change world.mounts mount (subst (Among mount) changes.mounts m) in
      cc (from.2, stays from.0 from.1 (cc (changes.number from.0, from.2, same)))) in
      let first : mount_in nat_eq first_mounts number ≡ mount_in nat_eq world.mounts number =
      found_in_filter (mount_lives nat_eq world) world.mounts number
      (λ mount m same. lived mount (stays mount m same)) in
      cc (last, first, changes.shown number)

  -- the mounts with the number of one that is in use are it
  all_live : (mount : Mount ℕ) → Among mount world.mounts → mount_lives nat_eq once (change mount) ≡ true
      → (other : Mount ℕ) → Among other world.mounts → other.number ≡ mount.number
      → mount_lives nat_eq once (change other) ≡ true
  all_live mount m lives other n e =
      cc (found_itself world.mounts changes.one_number other n, found_itself world.mounts changes.one_number mount m)

  abbrev LocatedFirst : ℕ → ℕ → Type 0
  LocatedFirst f number = Among number (located_in nat_eq (without_dead_mounts nat_eq world) f)

  abbrev IsShownLast : ℕ → Location ℕ → Type 0
  IsShownLast f location = f ≡ (mount_in nat_eq last_mounts location.mount).filesystem

  located_at : (f : ℕ) (location : Location ℕ) → Among location
      (all_locations world ++ map root_of first_mounts ++ filter_map (λ mount. mount.mount_point) first_mounts)
      → f ≡ (mount_in nat_eq first_mounts location.mount).filesystem → LocatedFirst f location.node
  located_at f location m e =
      among-map _ _ _ (among-filter _ _ _ m (eq-eqb f (mount_in nat_eq first_mounts location.mount).filesystem e))

  -- a location of a task, the root of a mount, and a mount point
  task_was : (f : ℕ) (location : Location ℕ) → Among location (all_locations once) → IsShownLast f location
      → LocatedFirst f location.node
  task_was f location at e = located_at f _
      (among-append_left _ _ _ (among-append_left _ _ _ (changes.locations _ at)))
      (e ∙ shows_alike _ (λ mount m same. or_right _ _ (any_from_among _ _ _ at
      (eq-eqb (change mount).number location.mount (changes.number mount ∙ same)))))

  root_was : (f : ℕ) (location : Location ℕ) → Among location (map root_of last_mounts) → IsShownLast f location
      → LocatedFirst f location.node
  root_was f location at e =
      let from = among-from_map root_of last_mounts location at in
      let old = was from.0 from.1 in
      let there = among-from_filter (mount_lives nat_eq world) world.mounts old.0 old.1 in
      let here : location ≡ root_of old.0 = cc (from.2, old.2, changes.root old.0) in
      let root = subst (λ l. Among l (map root_of first_mounts)) (sym here)
      (among-map root_of first_mounts old.0 old.1) in
      located_at f location (among-append_left _ _ _ (among-append_right (all_locations world) _ _ root))
      (e ∙ shows_alike location.mount (λ mount m same. all_live old.0 there.0 (cc (old.2, old.3)) mount m (cc)))

  point_was : (f : ℕ) (location : Location ℕ) → Among location (filter_map (λ mount. mount.mount_point) last_mounts)
      → IsShownLast f location → LocatedFirst f location.node
  point_was f location at e =
      let from = among-from_filter_map (λ (x : Mount ℕ). x.mount_point) last_mounts location at in
      let here = among-from_filter (mount_lives nat_eq once) once.mounts from.0 from.1 in
      let on = place_attached once changes.stand from.0 here.0 location from.2 in
      let old = was from.0 from.1 in
      let other = changes.placed old.0 old.1 location (cc (old.2, from.2)) in
      located_at f location (among-append_right (all_locations world ++ map root_of first_mounts) _ location
      (among-filter_map (λ (x : Mount ℕ). x.mount_point) first_mounts other.0 location other.1 other.2))
      (e ∙ shows_alike location.mount (λ mount m same. or_left (is_some (change mount).namespace) _
      (cc (on, same, changes.number mount, itself mount m))))
    where
      itself : (mount : Mount ℕ) → Among mount world.mounts
          → mount_in nat_eq once.mounts (change mount).number ≡ change mount
      itself mount m = found_itself once.mounts changes.stand.one_number (change mount)
          (subst (Among (change mount)) (sym changes.mounts) (among-map change world.mounts mount m))

  pub located_was : (f number : ℕ) → Among number (located_in nat_eq (without_dead_mounts nat_eq once) f)
      → LocatedFirst f number
  located_was f number m =
      let from = among-from_map _ _ number m in
      let here = among-from_filter _ _ from.0 from.1 in
      let e : IsShownLast f from.0 = eqb-true f (mount_in nat_eq last_mounts from.0.mount).filesystem here.1 in
      subst (LocatedFirst f) (sym from.2) (⊎_elim
      (λ front. ⊎_elim (λ at. task_was f from.0 at e) (λ at. root_was f from.0 at e) (among-append _ _ from.0 front))
      (λ at. point_was f from.0 at e) (among-append _ _ from.0 here.0))
