-- Whether a mount of theirs is busy is the same in the part.
use Rattle.std.proofs.Common.{◌≡◌, refl, ap, ⊎_elim, ℕ, nat_eq, Bool, true, false, not, List}
use Rattle.vt_spec.proofs.Common.{Among, Location, Mount, Task, TaskName, World, all_locations, among-filter, among-filter_map, among-flat_map, among-from_filter, among-from_filter_map, among-from_flat_map, among_from_list_all, among_numbers, any_among, any_from_among, going, has_child, is_among, is_busy, is_member_task, is_used, locations, locations_of, members, mount_at, not-true, outsiders, part_of, same_truth, shares_no_events, stands_on}
use Rattle.vt_laws_members.proofs.Common.{IsSealed, apart_if_sealed, is_on_own_mount, is_own, keep, kept_how, numbered}
use Rattle.vt_laws_members.proofs.detached.lazily.GoingAlike.{going_alike, going_own}
use Rattle.vt_laws_members.proofs.judging.Grounds.{IsTheirs, same_mount}
use Rattle.vt_laws_members.proofs.judging.MountTrees.{child_own, own_theirs, own_whole}

module _ {world : World ℕ} {names : List TaskName} (sealing : IsSealed world names) where
  abbrev theirs : List (Task ℕ)
  theirs = members world names

  abbrev part : World ℕ
  part = part_of nat_eq world names

  abbrev owns : Mount ℕ → Bool
  owns = is_own world names theirs

  abbrev On : ℕ → Type 0
  On = IsTheirs world names sealing.is.mounts

  -- no events of theirs are those of others
  pub no_events : shares_no_events nat_eq world names ≡ true
  no_events = (apart_if_sealed sealing).events

  -- no other task uses a location on a mount of theirs
  pub none_located : (location : Location ℕ) → Among location (locations (outsiders world names))
      → owns (mount_at nat_eq world location) ≡ false
  none_located location m = not-true (is_on_own_mount nat_eq world names location)
      (among_from_list_all _ (locations (outsiders world names)) (apart_if_sealed sealing).locations location m)

  used_alike : (gone : List ℕ) → ((number : ℕ) → Among number gone
      → (mount : Mount ℕ) × Among mount world.mounts × (owns mount ≡ true) × (mount.number ≡ number))
      → is_used nat_eq world gone ≡ is_used nat_eq part gone
  used_alike gone own = same_truth (is_used nat_eq world gone) (is_used nat_eq part gone) (λ h.
      let at = any_among (λ (l : Location ℕ). is_among nat_eq l.mount gone) (all_locations world) h in
      let from = among-from_flat_map locations_of world.tasks at.0 at.1 in
      by at.0 from.0 from.1 from.2 at.2 (is_member_task names from.0) refl) (λ h.
      let at = any_among (λ (l : Location ℕ). is_among nat_eq l.mount gone) (all_locations part) h in
      let from = among-from_flat_map locations_of theirs at.0 at.1 in
      any_from_among (λ (l : Location ℕ). is_among nat_eq l.mount gone) (all_locations world) at.0
      (among-flat_map locations_of world.tasks from.0 at.0
      (among-from_filter (is_member_task names) world.tasks from.0 from.1).0 from.2) at.2)
    where
      by : (location : Location ℕ) (task : Task ℕ) → Among task world.tasks → Among location (locations_of task)
          → is_among nat_eq location.mount gone ≡ true → (b : Bool) → is_member_task names task ≡ b
          → is_used nat_eq part gone ≡ true
      by location task there at on true member =
          any_from_among (λ (l : Location ℕ). is_among nat_eq l.mount gone) (all_locations part) location
          (among-flat_map locations_of theirs task location
          (among-filter (is_member_task names) world.tasks task there member) at) on
      by location task there at on false member =
          let its = own location.mount (among_numbers gone location.mount on) in
          cc (
            its.2,
            numbered world names sealing.is.mounts its.0 its.1,
            its.3,
            none_located location
                (among-flat_map locations_of (outsiders world names) task location
                (among-filter (λ t. not (is_member_task names t)) world.tasks task there (ap not member)) at),
          )

  child_alike : (number : ℕ) → On number → has_child nat_eq world number ≡ has_child nat_eq part number
  child_alike number own = same_truth (has_child nat_eq world number) (has_child nat_eq part number)
      (λ h. let at = any_among (stands_on nat_eq number) world.mounts h in any_from_among (stands_on nat_eq number)
      part.mounts at.0 (among-filter_map (keep world names theirs) world.mounts at.0 at.0 at.1
      (own_whole world names sealing.is at.0 (child_own world names sealing.is number at.0 own at.1 at.2))) at.2)
      (λ h. let at = any_among (stands_on nat_eq number) part.mounts h in let from = among-from_filter_map
      (keep world names theirs) world.mounts at.0 at.1 in any_from_among (stands_on nat_eq number) world.mounts from.0
      from.1 (⊎_elim (λ same. cc at.2) (λ stub. cc (at.2, stub.0)) (kept_how world names theirs from.0 at.0 from.2)))

  pub busy_alike : (mount : Mount ℕ) → Among mount world.mounts → owns mount ≡ true
      → is_busy nat_eq world mount.number ≡ is_busy nat_eq part mount.number
  busy_alike mount m own =
      let it = own_theirs world names sealing.is mount m own in
      let itself = numbered world names sealing.is.mounts mount m in
      cc (
        child_alike mount.number it,
        used_alike (going nat_eq world mount)
            (λ number at. going_own world names sealing.is.mounts no_events mount number m own at),
        going_alike world names
            sealing.is.mounts no_events mount m own,
        same_mount world names sealing.is.mounts mount.number it,
      )
