-- The places below places come to an end through changes of types and flags.
use Rattle.std.proofs.Common.{arith, ◌≡◌, refl, sym, ap, subst, ◌∙◌, zero, suc, nat_eq, ℕ, Option, length, option_map}
use Rattle.vt_spec.proofs.Common.{Among, Mount, World, among-map, among_from_list_all, chain, chain_ends, chain_goes_on, common_steps, is_among, is_among_numbers, last_of_chain, last_or, length-map, list_all_from_among, mount_at, mount_in, mount_numbered, number-mount_in, stands_in_its_namespace, with_flags, with_type}
use Rattle.vt_laws_mounts.specs.Mounts.Invariants.{FlagsKeepChainsEnding, InheritanceKeepsChainsEnding, OneNumberEach, TypeKeepsChainsEnding}
use Rattle.vt_laws_mounts.specs.Mounts.Unmounting.{ChainsEnd}
use Rattle.vt_laws_mounts.proofs.mounts.MountsFound.{found-map, found_there, numbers-map}
use Rattle.vt_laws_mounts.proofs.mounts.MountsReplaced.{found_itself, numbers-with_mount, one_number_by_numbers, related-with_mount}
use Rattle.vt_laws_mounts.proofs.Groups.{mounts-regrouped}
use Rattle.vt_laws_mounts.specs.Mounts.Attaching.{numbers_of}
use Rattle.vt_laws_mounts.proofs.mounts.MountsRetyped.{numbers_with_type, type_is_all_that_changes}

-- a mount with the place and the namespace of another
pub record StandsAlike (before later : Mount ℕ) : Type 0 where
  pub mount_point : later.mount_point ≡ before.mount_point
  pub namespace : later.namespace ≡ before.namespace

module _ (world after : World ℕ)
    (alike : (number : ℕ) → StandsAlike (mount_numbered nat_eq world number) (mount_numbered nat_eq after number)) where
  abbrev below_before : Mount ℕ → Option (Mount ℕ)
  below_before mount = option_map (mount_at nat_eq world) mount.mount_point

  abbrev below_after : Mount ℕ → Option (Mount ℕ)
  below_after mount = option_map (mount_at nat_eq after) mount.mount_point

  same_last : (n : ℕ) (a b : Mount ℕ) → StandsAlike a b
      → StandsAlike (last_or a (chain n below_before a)) (last_or b (chain n below_after b))
  same_last zero a b r = r
  same_last (suc n) a b r = grind (arith, common_steps, same_last n, chain_ends, chain_goes_on, last_of_chain)

  pub places_end_alike : OneNumberEach world → numbers_of after.mounts ≡ numbers_of world.mounts → ChainsEnd world
      → ChainsEnd after
  places_end_alike one numbers ends =
      list_all_from_among (stands_in_its_namespace nat_eq after) after.mounts (λ mount m.
      let old = mount_numbered nat_eq world mount.number in
      let found : mount_numbered nat_eq after mount.number ≡ mount =
      found_itself after.mounts (one_number_by_numbers world.mounts after.mounts numbers one) mount m in
      let r : StandsAlike old mount = subst (StandsAlike old) found (alike mount.number) in
      let there : Among old world.mounts = found_there world.mounts mount.number
      (ap (is_among nat_eq mount.number) (sym numbers) ∙ is_among_numbers (numbers_of after.mounts) mount.number
      (among-map (λ (x : Mount ℕ). x.number) after.mounts mount m)) in
      let long : length after.mounts ≡ length world.mounts =
      sym (length-map after.mounts (λ (x : Mount ℕ). x.number)) ∙ ap length numbers
      ∙ length-map world.mounts (λ (x : Mount ℕ). x.number) in
      let last = same_last (length world.mounts) old mount r in
      cc (
        long,
        last.mount_point,
        last.namespace,
        r.namespace,
        among_from_list_all (stands_in_its_namespace nat_eq world) world.mounts ends old there,
      ))

pub type_keeps_places_ending : TypeKeepsChainsEnding
type_keeps_places_ending world fresh number word recursive one ends =
    places_end_alike world (with_type nat_eq fresh world number word recursive)
    (λ other. let r = type_is_all_that_changes world fresh number word recursive other in
    record { mount_point = r.mount_point; namespace = r.namespace })
    one (numbers_with_type world fresh number word recursive) ends

pub flags_keep_places_ending : FlagsKeepChainsEnding
flags_keep_places_ending world here flags one ends =
    let new = record (mount_at nat_eq world here) { flags = flags } in
    places_end_alike world (with_flags nat_eq world here.mount flags)
    (related-with_mount StandsAlike (λ mount. record { mount_point = refl; namespace = refl }) world.mounts new
    (subst (λ m. StandsAlike m new) (sym (ap (mount_in nat_eq world.mounts) (number-mount_in world.mounts here.mount)))
    (record { mount_point = refl; namespace = refl }))) one (numbers-with_mount new world.mounts) ends

pub inheritance_keeps_places_ending : InheritanceKeepsChainsEnding
inheritance_keeps_places_ending world one ends =
    grind (arith, common_steps, places_end_alike, mounts-regrouped, found-map, numbers-map)
