-- What the rules of mount calls look at, by what is counted beside the mounts.
use Rattle.std.proofs.Common.{◌≡◌, refl, ap, ◌∙◌, inr, ℕ, nat_eq, nat_lt, eqb-true, false, ◌||◌, ◌&&◌, List, [], ◌∷◌, map, Option, Some, None, arith}
use Rattle.vt_spec.proofs.Common.{Descriptor, Task, all_locations, among-flat_map, among-map, among_from_all, among_from_list_all, and-false, is_among, is_located, is_there, list_any, locations_of, none_among, none_from_among, common_steps}
use Rattle.vt_spec.specs.Machine.Detach.{is_written_through}
use Rattle.vt_ns.proofs.Common.{CountsItsUses, IsHeld, MountEntry, WorldValue, entry_numbered, mounts_in, times, uses_of, world_of, writers_of, writes_of}
use Rattle.vt_laws_mounts.proofs.letting_go.sweeps.UsesCounted.{located_while_counted}
use Rattle.vt_world.specs.Held.{writes_on}
use Rattle.vt_mounting.proofs.detach.LostUses.{entry_found_at}
use Rattle.vt_laws_mounts.proofs.letting_go.Lists.{any_counted}
use Rattle.vt_mounting.proofs.detach.BesideOverlays.{some_of_both}

any_written : (mount : ℕ) (tasks : List (Task ℕ))
    → list_any (λ task. list_any (writes_on mount) task.descriptors) tasks ≡ nat_lt 0 (writes_of mount tasks)
any_written mount [] = refl
any_written mount (task ∷ rest) = (λ i. any_counted (writes_on mount) task.descriptors i || any_written mount rest i)
    ∙ some_of_both (times (writes_on mount) task.descriptors) (writes_of mount rest)

-- where no entry is found by a number, none has it
entry_missing : (entries : List MountEntry) (number : ℕ) → entry_numbered entries number ≡ None
    → is_among nat_eq number (map (λ mount. mount.number) (mounts_in entries)) ≡ false
entry_missing [] number e = refl
entry_missing (x ∷ entries) number e =
    grind (arith, common_steps, entry_missing entries number, nat_eq number x.mount.number)

module _ (value : WorldValue) (held : IsHeld value) (number : ℕ) where
  -- no location is on a mount that is not there
  none_located : entry_numbered value.mounts number ≡ None → is_located nat_eq (world_of value) number ≡ false
  none_located missing =
      grind (arith, common_steps, none_from_among, map, is_there, among_from_list_all, eqb-true, entry_missing)

  -- a mount has uses just where a location is on it
  pub uses_tested : nat_lt 0 (uses_of value.mounts number) ≡ is_located nat_eq (world_of value) number
  uses_tested = by (entry_numbered value.mounts number) refl
    where
      by : (o : Option MountEntry) → entry_numbered value.mounts number ≡ o
          → nat_lt 0 (uses_of value.mounts number) ≡ is_located nat_eq (world_of value) number
      by None e = cc (none_located e)
      by (Some entry) e =
          let found = entry_found_at value.mounts number entry e in
          let counts = among_from_all (CountsItsUses (world_of value)) value.mounts held.mounts entry found.0 in
          cc (counts.uses, found.1, located_while_counted (world_of value) number)

  -- and writers just where a descriptor writes through it
  pub written_through : nat_lt 0 (writers_of value.mounts number) ≡ is_written_through nat_eq (world_of value) number
  written_through = by (entry_numbered value.mounts number) refl
    where
      none_written : entry_numbered value.mounts number ≡ None
          → is_written_through nat_eq (world_of value) number ≡ false
      none_written missing =
          none_from_among (λ task. list_any (writes_on number) task.descriptors) value.tasks (λ task t.
          none_from_among (writes_on number) task.descriptors (λ descriptor d.
          ap (λ b. descriptor.writes && b)
          (none_among (λ location. nat_eq number location.mount) (all_locations (world_of value))
          (none_located missing) descriptor.location (among-flat_map locations_of value.tasks task descriptor.location t
          (inr (inr (among-map (λ (one : Descriptor ℕ). one.location) task.descriptors descriptor d)))))
          ∙ and-false descriptor.writes))

      by : (o : Option MountEntry) → entry_numbered value.mounts number ≡ o
          → nat_lt 0 (writers_of value.mounts number) ≡ is_written_through nat_eq (world_of value) number
      by None e = cc (none_written e)
      by (Some entry) e =
          let found = entry_found_at value.mounts number entry e in
          let counts = among_from_all (CountsItsUses (world_of value)) value.mounts held.mounts entry found.0 in
          grind (arith, common_steps, counts.writers, found.1, any_written number value.tasks)
