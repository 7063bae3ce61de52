-- What is below a mount of theirs, and which files are open through it, is the same in the part.
use Rattle.std.proofs.Common.{◌≡◌, refl, sym, ap, ◌∙◌, inr, ℕ, nat_eq, Bool, true, false, true≢false, not, List, length, Option, Some, None, ◌&&◌, eqb-true, arith}
use Rattle.vt_spec.proofs.Common.{Among, Descriptor, Location, Looks, Mount, Task, TaskName, World, among-filter, among-flat_map, among-map, among_from_list_all, and_parts, any_among, chain, common_steps, false_from_ne_true, has_shared_parent, holds_of, is_elsewhere, is_member_task, is_shared, lies_under_location, list_any, locations, locations_of, looks_of, members, mount_at, mount_numbered, not-true, outsiders, part_of}
use Rattle.vt_laws_members.proofs.Common.{any-filter, apart_if_sealed, is_on_own_mount, is_own}
use Rattle.vt_laws_members.proofs.judging.TheirCalls.{IsMember}
use Rattle.vt_laws_members.specs.Judging.{is_theirs}
use Rattle.vt_laws_members.proofs.judging.Grounds.{parent_theirs, same_mount, theirs_from, up_alike}
use Rattle.vt_laws_members.proofs.judging.JudgedPivots.{ParentsAlike}
use Rattle.vt_laws_members.proofs.judging.MountPoints.{in_own}
use Rattle.vt_laws_members.proofs.judging.SeenInPart.{OnTheirs, mount_alike, theirs_used, under_alike}

module _ {world : World ℕ} {names : List TaskName} {task : Task ℕ} (member : IsMember world names task) where
  abbrev part : World ℕ
  part = part_of nat_eq world names

  abbrev one : Looks ℕ
  one = looks_of nat_eq world

  abbrev other : Looks ℕ
  other = looks_of nat_eq part

  on : (here : Location ℕ) → is_theirs world names here.mount ≡ true → OnTheirs world names member.is here
  on here e = theirs_from world names member.is.mounts here.mount e

  -- the mount below
  parent_alike : (here : Location ℕ) → OnTheirs world names member.is here
      → has_shared_parent one here ≡ has_shared_parent other here
  parent_alike here own =
      cc (by (mount_at nat_eq world here).mount_point refl, mount_alike world names member.is here own)
    where
      by : (o : Option (Location ℕ)) → (mount_at nat_eq world here).mount_point ≡ o
          → holds_of (λ point. is_shared (mount_at nat_eq world point).propagation)
          (mount_at nat_eq world here).mount_point
          ≡ holds_of (λ point. is_shared (mount_at nat_eq part point).propagation)
          (mount_at nat_eq world here).mount_point
      by None e = cc
      by (Some point) e = cc (mount_alike world names member.is point (parent_theirs world names member.is.mounts
          here.mount point own e))

  -- all mounts below
  abbrev down : World ℕ → Location ℕ → List (Location ℕ)
  down w here = chain (length w.mounts) (λ location. (mount_at nat_eq w location).mount_point) here

  down_alike : (here : Location ℕ) → OnTheirs world names member.is here → down world here ≡ down part here
  down_alike here own = grind (arith, common_steps, up_alike, same_mount)

  below_alike : (top here : Location ℕ) → OnTheirs world names member.is top → OnTheirs world names member.is here
      → lies_under_location nat_eq one top here ≡ lies_under_location nat_eq other top here
  below_alike top here own there = ap (list_any (λ (location : Location ℕ). nat_eq top.mount location.mount
      && one.is_under (mount_at nat_eq world top).filesystem top.node location.node)) (down_alike here there)
      ∙ (λ i. list_any (λ (location : Location ℕ). nat_eq top.mount location.mount && same location.node i)
      (down part here))
    where
      same : (node : ℕ) → one.is_under (mount_at nat_eq world top).filesystem top.node node
          ≡ other.is_under (mount_at nat_eq part top).filesystem top.node node
      same node = under_alike world names member.is (mount_at nat_eq world top).filesystem
          (theirs_used world names member.is top own) top.node node ∙ ap
          (λ (m : Mount ℕ). other.is_under m.filesystem top.node node) (mount_alike world names member.is top own)

  -- no other task has a file open through a mount of theirs
  abbrev writes_through : ℕ → Task ℕ → Bool
  writes_through number t = list_any (λ (descriptor : Descriptor ℕ). descriptor.writes
      && nat_eq number descriptor.location.mount) t.descriptors

  none_writes : (number : ℕ) → is_own world names (members world names) (mount_numbered nat_eq world number) ≡ true
      → (t : Task ℕ) → Among t world.tasks → is_member_task names t ≡ false → writes_through number t ≡ false
  none_writes number own t m outside = false_from_ne_true (writes_through number t) (λ h.
      let at = any_among (λ (d : Descriptor ℕ). d.writes && nat_eq number d.location.mount) t.descriptors h in
      let here : number ≡ at.0.location.mount =
      eqb-true number at.0.location.mount (and_parts at.0.writes (nat_eq number at.0.location.mount) at.2).1 in
      let away = not-true (is_on_own_mount nat_eq world names at.0.location)
      (among_from_list_all (λ location. not (is_on_own_mount nat_eq world names location))
      (locations (outsiders world names)) (apart_if_sealed member.sealing).locations at.0.location
      (among-flat_map locations_of (outsiders world names) t at.0.location
      (among-filter (λ t. not (is_member_task names t)) world.tasks t m (ap not outside))
      (inr (inr (among-map (λ (d : Descriptor ℕ). d.location) t.descriptors at.0 at.1))))) in
      true≢false (sym own ∙ ap (λ n. is_own world names (members world names) (mount_numbered nat_eq world n)) here
      ∙ away))

  written_alike : (here : Location ℕ) → is_elsewhere nat_eq one task here ≡ false
      → one.is_written_through here.mount ≡ other.is_written_through here.mount
  written_alike here e = sym (any-filter (writes_through here.mount) (is_member_task names) world.tasks
      (none_writes here.mount (in_own world names member.is task member.among (mount_at nat_eq world here)
      (by (holds_of (nat_eq task.namespace) (mount_at nat_eq world here).namespace) e))))
    where
      by : (b : Bool) → not b ≡ false → b ≡ true
      by true h = refl
      by false h = cc

  pub parents_alike : ParentsAlike one other task (is_theirs world names)
  parents_alike = record {
    written = λ here own e. written_alike here e;
    parent = λ here own. parent_alike here (on here own);
    below = λ top here own there. below_alike top here (on top own) (on here there);
    descends = λ mount here own. cc (down_alike here (on here own));
  }
