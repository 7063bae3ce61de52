-- What goes at an unmount is what propagation names.
use Rattle.std.proofs.Common.{arith, ◌≡◌, refl, sym, ap, subst, ◌∙◌, inl, ⊎_elim, ℕ, nat_eq, true, true≢false, List, [], ◌∷◌, map, Option, Some, None, Ok, Contains, filter_map, option_map, unwrap_or}
use Rattle.vt_spec.proofs.Common.{Among, Done, Fresh, Here, Location, Mount, Permit, Private, Propagation, Receives, Shared, Slave, Task, Umount, Unbindable, World, among-filter_map, among-from_filter_map, among-from_map, among-map, among_from_contains, among_numbers, apply, child_at, common_steps, contains_from_among, directory_walk, goes_at, going, going_at, going_from, group_of, is_among_numbers, is_going, is_shared, looks_of, may_go, mount_at, mount_numbered, overfills, receivers, receivers_of, unmounted, walk_end}
use Rattle.vt_laws_mounts.specs.Mounts.Receivers.{GroupsLive}
use Rattle.vt_laws_mounts.specs.Mounts.Unmounting.{Goes, UmountUnmounts, WhatGoesIsNamed}
use Rattle.vt_laws_mounts.specs.Mounts.Unmounting.Goes.{alone, at_receiver, from_nowhere}
use Rattle.vt_laws_mounts.proofs.mounts.Receivers.{receivers_receive}
use Rattle.vt_laws_rules.proofs.given.Ways.{IsGranted}
use Rattle.vt_laws_rules.proofs.given.Ways.IsGranted.{unmounts}
use Rattle.vt_laws_mounts.proofs.mounts.MountsGranted.{leaves_mounts, one_end}

-- one number alone
only_one : (number one : ℕ) → Among number (one ∷ []) → number ≡ one
only_one number one m = ⊎_elim (λ e. e) (λ none. absurd none) m

module _ (world : World ℕ) where
  -- what goes at a receiver
  pub child_goes : (node : ℕ) (receiver child : Mount ℕ) → goes_at nat_eq world node receiver ≡ Some child
      → (child_at nat_eq world.mounts (record { mount = receiver.number; node = node }) ≡ Some child)
      × (may_go nat_eq world child ≡ true)
  child_goes node receiver child e = grind (arith, common_steps, true≢false)

  pub child_goes_so : (node : ℕ) (receiver child : Mount ℕ)
      → child_at nat_eq world.mounts (record { mount = receiver.number; node = node }) ≡ Some child
      → may_go nat_eq world child ≡ true → goes_at nat_eq world node receiver ≡ Some child
  child_goes_so node receiver child f g = cc

  pub receivers_of_shared : (parent : Mount ℕ) (group : ℕ) → parent.propagation ≡ Shared group
      → receivers_of nat_eq world parent ≡ receivers nat_eq world group
  receivers_of_shared parent group e = ap (λ kind. unwrap_or (option_map (receivers nat_eq world) (group_of kind)) []) e

module _ (world : World ℕ) (live : GroupsLive world) (mount : Mount ℕ) where
  is_named : (number : ℕ) → is_going nat_eq (going nat_eq world mount) number ≡ true → Goes world mount number
  is_named number h = by _ refl
    where
      itself : Goes world mount mount.number → Among number (mount.number ∷ []) → Goes world mount number
      itself goes m = subst (Goes world mount) (sym (only_one number _ m)) goes

      listed : (numbers : List ℕ) → going nat_eq world mount ≡ numbers → Among number numbers
      listed numbers e = among_numbers _ number (sym (ap (λ ns. is_going nat_eq ns number) e) ∙ h)

      shared : (place : Location ℕ) (group : ℕ) → mount.mount_point ≡ Some place
          → (mount_at nat_eq world place).propagation ≡ Shared group → Among number (map (λ gone. gone.number)
          (filter_map (goes_at nat_eq world place.node) (receivers nat_eq world group))) → Goes world mount number
      shared place group e f m =
          let gone : (x : Mount ℕ) × Among x (filter_map (goes_at nat_eq world place.node)
          (receivers nat_eq world group)) × (number ≡ x.number) = among-from_map _ _ number m in
          let heard : (x : Mount ℕ) × Among x (receivers nat_eq world group) × (goes_at nat_eq world place.node x ≡ Some
          gone.0) = among-from_filter_map _ _ gone.0 gone.1 in
          let child : (child_at nat_eq world.mounts (record { mount = heard.0.number; node = place.node })
          ≡ Some gone.0) × (may_go nat_eq world gone.0 ≡ true) = child_goes world place.node heard.0 gone.0 heard.2 in
          let hears : Contains world.mounts heard.0 × Receives world group heard.0 =
          (receivers_receive world group heard.0 live).0 (contains_from_among _ _ heard.1) in
          subst (Goes world mount) (sym gone.2)
          (at_receiver place group heard.0 gone.0 e f hears.0 hears.1 child.0 child.1)

      at_place : (place : Location ℕ) → mount.mount_point ≡ Some place → (kind : Propagation ℕ)
          → (mount_at nat_eq world place).propagation ≡ kind → Goes world mount number
      at_place place e kind f = on kind f (listed _ (ap (going_at nat_eq world mount) e ∙ ap
          (λ k. going_from nat_eq world mount place (is_shared k)) f))
        where
          on : (k : Propagation ℕ) → (mount_at nat_eq world place).propagation ≡ k
              → Among number (going_from nat_eq world mount place (is_shared k)) → Goes world mount number
          on (Shared group) g m = grind (arith, common_steps, shared, receivers_of_shared)
          on (Slave above) g m = itself (alone place e (ap is_shared g)) m
          on Private g m = itself (alone place e (ap is_shared g)) m
          on Unbindable g m = itself (alone place e (ap is_shared g)) m

      by : (place : Option (Location ℕ)) → mount.mount_point ≡ place → Goes world mount number
      by None e = itself (from_nowhere e) (listed _ (ap (going_at nat_eq world mount) e))
      by (Some place) e = at_place place e _ refl

  goes_so_named : (number : ℕ) → Goes world mount number → is_going nat_eq (going nat_eq world mount) number ≡ true
  goes_so_named number (from_nowhere e) = cc (is_among_numbers (mount.number ∷ []) mount.number (inl refl))
  goes_so_named number (alone place e f) = cc (is_among_numbers (mount.number ∷ []) mount.number (inl refl))
  goes_so_named number (at_receiver place group receiver child e f contained hears found may) =
      let heard : Among receiver (receivers nat_eq world group) =
      among_from_contains _ receiver ((receivers_receive world group receiver live).1 (contained, hears)) in
      ap (λ ns. is_going nat_eq ns child.number) (ap (going_at nat_eq world mount) e
      ∙ ap (λ k. going_from nat_eq world mount place (is_shared k)) f
      ∙ ap (λ rs. map (λ gone. gone.number) (filter_map (goes_at nat_eq world place.node) rs))
      (receivers_of_shared world (mount_at nat_eq world place) group f)) ∙ is_among_numbers _ child.number
      (among-map (λ gone. gone.number) _ child
      (among-filter_map (goes_at nat_eq world place.node) (receivers nat_eq world group) receiver child heard
      (child_goes_so world place.node receiver child found may)))

pub what_goes_is_named : WhatGoesIsNamed
what_goes_is_named world one number live = (
  is_named world live (mount_numbered nat_eq world one) number,
  goes_so_named world live (mount_numbered nat_eq world one) number,
)

-- a granted umount has unmounted
umount_granted : (fresh : Fresh ℕ) (world : World ℕ) (task : Task ℕ) (path : List ℕ) (here : Here ℕ) (permit : Permit ℕ)
    → walk_end (directory_walk nat_eq (looks_of nat_eq world) task path) ≡ Ok here
    → IsGranted nat_eq (looks_of nat_eq world) (overfills nat_eq fresh world task) task (Umount path) permit
    → (apply nat_eq fresh world task permit).world.mounts ≡ (unmounted nat_eq world here.location.mount).mounts
umount_granted fresh world task path here permit ends (unmounts _ reached admin end passed) =
    ap (λ (here : Here ℕ). (unmounted nat_eq world here.location.mount).mounts) (one_end _ _ here end ends)

pub umount_unmounts : UmountUnmounts
umount_unmounts fresh world name task path here is ends = leaves_mounts fresh world name task _ _ Done refl
    (λ permit. umount_granted fresh world task path here permit ends) is
