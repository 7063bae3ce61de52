-- A namespace that ends leaves at most one mount at a place in the others.
use Rattle.std.proofs.Common.{arith, ◌≡◌, refl, sym, ap, ◌∙◌, true, false, zero, suc, nat_eq, ℕ, List, None, Option, Some, eqb-true, filter, is_some, map, not, option_map, true≢false}
use Rattle.vt_spec.proofs.Common.{Among, Location, Mount, World, among-filter, among-from_filter, among-from_map, among-map, among_from_list_all, among_numbers, and_parts, chain, chain_ends, chain_goes_on, common_steps, is_among_numbers, is_in_ended, last_of_chain, last_or, last_parent, mount_at, not-true, same_option}
use Rattle.vt_laws_mounts.specs.Mounts.Invariants.{EndedNamespacesLeaveOneMountAMountPoint, OneNumberEach}
use Rattle.vt_laws_mounts.specs.Mounts.Unmounting.{ChainsEnd}
use Rattle.vt_laws_mounts.proofs.ends.UnmountingTrees.{AreClosed, closed_keeps_apart}
use Rattle.vt_laws_mounts.proofs.mounts.MountsReplaced.{found_itself}
use Rattle.vt_spec.proofs.Found.{length_from_among}

-- one step more changes no chain that has ended
last_longer : {A : Type 0} (next : A → Option A) (n : ℕ) (a : A) → next (last_or a (chain n next a)) ≡ None
    → last_or a (chain (suc n) next a) ≡ last_or a (chain n next a)
last_longer next zero a e = ap (last_or a) (chain_ends next zero a e)
last_longer next (suc n) a e = grind (arith, common_steps, last_longer next n, chain_ends, chain_goes_on, last_of_chain)

pub one_namespace : (a b : Option ℕ) → same_option nat_eq a b ≡ true → a ≡ b
one_namespace None None e = refl
one_namespace None (Some b) e = cc
one_namespace (Some a) None e = cc
one_namespace (Some a) (Some b) e = ap Some (eqb-true a b e)

module _ (world : World ℕ) (ends : ChainsEnd world) where
  abbrev under : Mount ℕ → Option (Mount ℕ)
  under mount = option_map (mount_at nat_eq world) mount.mount_point

  no_more : (mount : Mount ℕ) → is_some mount.mount_point ≡ false → under mount ≡ None
  no_more mount e = grind (arith, common_steps, true≢false)

  parts : (mount : Mount ℕ) → Among mount world.mounts → (is_some (last_parent nat_eq world mount).mount_point ≡ false)
      × (mount.namespace ≡ (last_parent nat_eq world mount).namespace)
  parts mount m =
      let both : (not (is_some (last_parent nat_eq world mount).mount_point) ≡ true)
      × (same_option nat_eq mount.namespace (last_parent nat_eq world mount).namespace ≡ true) =
      and_parts _ _ (among_from_list_all _ _ ends mount m) in
      (not-true _ both.0, one_namespace _ _ both.1)

  -- a mount is in the namespace of the one that it stands on
  pub same_namespace : (x : Mount ℕ) (place : Location ℕ) → Among x world.mounts → x.mount_point ≡ Some place
      → Among (mount_at nat_eq world place) world.mounts → x.namespace ≡ (mount_at nat_eq world place).namespace
  same_namespace x place m e n =
      let on = mount_at nat_eq world place in
      let size = length_from_among world.mounts x m in
      let first = parts x m in
      let other = parts on n in
      let shorter : last_parent nat_eq world x ≡ last_or on (chain size.0 under on) =
      ap (λ k. last_or x (chain k under x)) size.1
      ∙ ap (last_or x) (chain_goes_on under size.0 x on (ap (option_map (mount_at nat_eq world)) e))
      ∙ last_of_chain under size.0 on x in
      let same : last_parent nat_eq world on ≡ last_parent nat_eq world x =
      ap (λ k. last_or on (chain k under on)) size.1
      ∙ last_longer under size.0 on (no_more (last_or on (chain size.0 under on))
      (cc (shorter, first.0))) ∙ sym shorter in
      cc (first.1, other.1, same)

-- the mounts of namespaces that end
abbrev pub in_ended : World ℕ → List ℕ
in_ended world = map (λ (mount : Mount ℕ). mount.number) (filter (is_in_ended nat_eq world) world.mounts)

pub ended_closed : (world : World ℕ) → ChainsEnd world → OneNumberEach world → AreClosed world (in_ended world)
ended_closed world ends one x place m e goes = grind (
  arith,
  common_steps,
  among-from_map,
  among_numbers,
  among-from_filter,
  found_itself,
  same_namespace,
  is_among_numbers,
  among-map,
  among-filter,
)

pub ended_namespaces_leave_one_mount_a_place : EndedNamespacesLeaveOneMountAMountPoint
ended_namespaces_leave_one_mount_a_place world ends both =
    let kept = closed_keeps_apart world (in_ended world) (ended_closed world ends both.by_number) both in
    record { by_number = kept.by_number; by_place = kept.by_place }
