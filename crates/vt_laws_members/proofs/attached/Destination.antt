-- The part of a sealed set is fit for what is attached to a mount of theirs: mounts and locations stand in it.
use Rattle.std.proofs.Common.{arith, ◌≡◌, ⊎_elim, ℕ, nat_eq, true, List, map, eq-eqb, IfOk}
use Rattle.vt_spec.proofs.Common.{Among, IsWorld, Location, Mount, Task, TaskName, World, all_locations, among-filter_map, among-flat_map, among-from_filter, among-from_flat_map, among-from_map, among-map, among_from_list_all, among_numbers, and_parts, any_from_among, common_steps, destination_walk, is_among, is_among_numbers, is_located_well, is_member_task, is_there, list_all_from_among, locations, locations_of, members, mount_at, part_of, sealed, source_walk}
use Rattle.vt_laws_members.proofs.judging.Common.{IsMember, IsTheirs, destination_agrees, its_mount, leads_alike, same_mount, source_agrees}
use Rattle.vt_laws_members.proofs.Common.{LocationsStand, is_attached, is_own, keep, kept_how, sealed_by, shown_at}
use Rattle.vt_laws_mounts.specs.LettingGo.Leaving.{MountsStand}
use Rattle.vt_laws_mounts.proofs.letting_go.mounting.MountsSwept.{mounts_stand}
use Rattle.vt_laws_members.proofs.changes.Common.{StandsHere, alike, one, part_mounts}

-- the mounts' numbers
abbrev numbers : World ℕ → List ℕ
numbers w = map (λ (m : Mount ℕ). m.number) w.mounts

module _ (world : World ℕ) (names : List TaskName) (is : IsWorld nat_eq world) where
  abbrev part : World ℕ
  part = part_of nat_eq world names

  -- a location that they use is on a mount of the world
  pub located_well : (l : Location ℕ) → Among l (locations (members world names))
      → is_among nat_eq l.mount (map (λ (m : Mount ℕ). m.number) world.mounts) ≡ true
  located_well l m =
      let t = among-from_flat_map locations_of (members world names) l m in
      (and_parts (is_among nat_eq l.mount (numbers world))
      (is_there nat_eq world (mount_at nat_eq world l).filesystem l.node)
      (among_from_list_all (is_located_well nat_eq world) (all_locations world) is.tasks.locations_live l
      (among-flat_map locations_of world.tasks t.0 l (among-from_filter (is_member_task names) world.tasks t.0 t.1).0
      t.2))).0

  -- and on one of the part
  pub located_there : (l : Location ℕ) → Among l (locations (members world names))
      → is_among nat_eq l.mount (map (λ (m : Mount ℕ). m.number) part.mounts) ≡ true
  located_there l m =
      let number = among_numbers (numbers world) l.mount (located_well l m) in
      let x = among-from_map (λ (x : Mount ℕ). x.number) world.mounts l.mount number in
      let y = shown_at world names x.0 (any_from_among _ _ l m (eq-eqb l.mount x.0.number x.2)) in
      let same : y.0.number ≡ l.mount = ⊎_elim (λ same. cc x.2) (λ stub. cc (stub.0, x.2))
      (kept_how world names (members world names) x.0 y.0 y.1) in
      is_among_numbers (numbers part) l.mount (rw (← same) (among-map (λ (z : Mount ℕ). z.number) part.mounts y.0
      (among-filter_map (keep world names (members world names)) world.mounts x.0 y.0 x.1 y.1)))

  pub locations_stand_there : LocationsStand part
  locations_stand_there = list_all_from_among (λ (l : Location ℕ). is_among nat_eq l.mount (numbers part))
      (all_locations part) located_there

  module _ (sealed_off : sealed nat_eq world names ≡ true) where
    pub mounts_stand_there : MountsStand part
    mounts_stand_there = mounts_stand part (part_mounts (sealed_by is sealed_off))

    -- a mount of theirs is attached, in both
    module _ (here : Location ℕ) (theirs : IsTheirs world names is.mounts here.mount)
        (own : is_own world names (members world names) (mount_at nat_eq world here) ≡ true) where
      pub there : Among (mount_at nat_eq world here) world.mounts
      there = rw (its_mount world names is.mounts here.mount theirs) theirs.1

      pub placed : is_attached world here.mount ≡ true
      placed = grind (arith, common_steps)

      pub placed_there : is_attached part here.mount ≡ true
      placed_there = cc (same_mount world names is.mounts here.mount theirs, placed)

-- where a task of theirs gets for the source and the destination of a mount
module _ {world : World ℕ} {names : List TaskName} {task : Task ℕ} (member : IsMember world names task) where
  pub at_source : (path : List ℕ) → IfOk (source_walk nat_eq (one member) task path)
      (StandsHere member)
  at_source path =
      let it = alike member in
      (source_agrees (leads_alike it) path).1

  pub at_destination : (path : List ℕ) → IfOk
      (destination_walk nat_eq (one member) task path) (StandsHere member)
  at_destination path =
      let it = alike member in
      (destination_agrees (leads_alike it) path).1
