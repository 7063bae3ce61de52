-- What members see on the mounts that they get to is what their part shows.
use Rattle.std.proofs.Common.{◌≡◌, refl, sym, ap, subst, ◌∙◌, inl, inr, ⊎_elim, ℕ, nat_eq, Bool, true, List, [], ◌∷◌, Option, Some, map, eq-eqb, eqb-true, arith, option_to_list}
use Rattle.vt_spec.proofs.Common.{Among, IsWorld, Location, Mount, Task, TaskName, World, all_locations, among-append_left, among-append_right, among-filter, among-flat_map, among-from_filter, among-from_flat_map, among-from_map, among-map, among_from_contains, among_from_list_all, and_parts, any_among, any_from_among, common_steps, filesystem_at, filesystem_numbered, hops, is_among, is_at, is_directory_at, is_directory_seen_in, is_directory_under, is_located_well, is_member_task, is_there, list_all, locations, locations_of, looks_of, members, mount_at, mount_numbered, none_is_some, own_mounts, part_of, roots_and_directories, stands_on_directories, used_directly, used_filesystems}
use Rattle.vt_laws_members.proofs.Common.{Each, found, hop, numbered, used_directly_used}
use Rattle.vt_laws_sealed.specs.Part.Walks.{AreOn}
use Rattle.vt_laws_members.specs.Judging.{MembersSeeAlike, is_theirs}
use Rattle.vt_laws_members.proofs.judging.Grounds.{IsGround, IsTheirs, its_mount, over_alike, over_theirs, same_mount, theirs_from, theirs_test, up_alike, up_each}

module _ (world : World ℕ) (names : List TaskName) (is : IsWorld nat_eq world) where
  abbrev theirs : List (Task ℕ)
  theirs = members world names

  abbrev part : World ℕ
  part = part_of nat_eq world names

  abbrev pub OnTheirs : Location ℕ → Type 0
  OnTheirs here = IsTheirs world names is.mounts here.mount

  abbrev uses : ℕ → Bool
  uses number = is_among nat_eq number (used_filesystems nat_eq world names)

  -- roots and working directories are locations
  located : (l : Location ℕ) → Among l (roots_and_directories theirs) → Among l (locations theirs)
  located l m =
      let task = among-from_flat_map (λ (t : Task ℕ). t.root ∷ t.directory ∷ []) theirs l m in
      among-flat_map locations_of theirs task.0 l task.1
      (⊎_elim (λ root. inl root) (λ rest. ⊎_elim (λ directory. inr (inl directory)) (λ none. absurd none) rest) task.2)

  -- the filesystem of a location that they use is used
  located_directly : (l : Location ℕ) → Among l (locations theirs)
      → Among (mount_at nat_eq world l).filesystem (used_directly nat_eq world names)
  located_directly l m = grind (arith, common_steps, among-append_right, among-map)

  pub located_used : (l : Location ℕ) → Among l (locations theirs) → uses (mount_at nat_eq world l).filesystem ≡ true
  located_used l m = used_directly_used world names (mount_at nat_eq world l).filesystem (located_directly l m)

  ground_directly : (mount : Mount ℕ) → Among mount world.mounts → IsGround world names is.mounts mount
      → Among mount.filesystem (used_directly nat_eq world names)
  ground_directly mount m ground = ⊎_elim (λ own. among-append_left _ _ mount.filesystem
      (among-map _ (own_mounts nat_eq world names) mount (among-filter _ world.mounts mount m own))) (λ stood.
      let at = any_among (λ (l : Location ℕ). nat_eq l.mount mount.number) (roots_and_directories theirs) stood.1 in
      let it : mount_at nat_eq world at.0 ≡ mount =
      cc (eqb-true at.0.mount mount.number at.2, numbered world names is.mounts mount m) in
      subst (λ (x : Mount ℕ). Among x.filesystem (used_directly nat_eq world names)) it
      (located_directly at.0 (located at.0 at.1))) ground

  pub theirs_directly : (here : Location ℕ) → OnTheirs here
      → Among (mount_at nat_eq world here).filesystem (used_directly nat_eq world names)
  theirs_directly here own = rw (its_mount world names is.mounts here.mount own) (ground_directly own.0 own.1 own.3)

  pub theirs_used : (here : Location ℕ) → OnTheirs here → uses (mount_at nat_eq world here).filesystem ≡ true
  theirs_used here own = used_directly_used world names _ (theirs_directly here own)

  pub mount_alike : (here : Location ℕ) → OnTheirs here → mount_at nat_eq world here ≡ mount_at nat_eq part here
  mount_alike here own = sym (same_mount world names is.mounts here.mount own)

  pub filesystem_alike : (here : Location ℕ) → OnTheirs here
      → filesystem_at nat_eq world here ≡ filesystem_at nat_eq part here
  filesystem_alike here own =
      cc (found world names (mount_at nat_eq world here).filesystem (theirs_used here own), mount_alike here own)

  pub under_alike : (number : ℕ) → uses number ≡ true → (top directory : ℕ)
      → is_directory_under nat_eq (filesystem_numbered nat_eq world number).files top directory
      ≡ is_directory_under nat_eq (filesystem_numbered nat_eq part number).files top directory
  under_alike number used top directory = cc (found world names number used)

  lost_alike : (here : Location ℕ) → OnTheirs here
      → Rattle.vt_spec.specs.Machine.Walking.is_lost nat_eq (looks_of nat_eq world) here
      ≡ Rattle.vt_spec.specs.Machine.Walking.is_lost nat_eq (looks_of nat_eq part) here
  lost_alike here own = cc (filesystem_alike here own, mount_alike here own)

  module _ (task : Task ℕ) (member : Among task theirs) where
    task_there : Among task world.tasks
    task_there = (among-from_filter (is_member_task names) world.tasks task member).0

    seen : (l : Location ℕ) → is_directory_seen_in nat_eq world task.namespace l ≡ true
        → Among l (locations_of task) → Among l (roots_and_directories theirs) → OnTheirs l
    seen l test m at =
        let well = and_parts (is_among nat_eq l.mount (map (λ (x : Mount ℕ). x.number) world.mounts))
        (is_there nat_eq world (mount_at nat_eq world l).filesystem l.node)
        (among_from_list_all (is_located_well nat_eq world) (all_locations world) is.tasks.locations_live l
        (among-flat_map locations_of world.tasks task l task_there m)) in
        let number = any_among (nat_eq l.mount) (map (λ (x : Mount ℕ). x.number) world.mounts) well.0 in
        let from = among-from_map (λ (x : Mount ℕ). x.number) world.mounts number.0 number.1 in
        let same : from.0.number ≡ l.mount = sym (eqb-true l.mount number.0 number.2 ∙ from.2) in
        let it : mount_at nat_eq world l ≡ from.0 =
        ap (mount_numbered nat_eq world) (sym same) ∙ numbered world names is.mounts from.0 from.1 in (
          from.0,
          from.1,
          same,
          by from.0 from.0.namespace refl
              (subst (λ (x : Mount ℕ). list_all (nat_eq task.namespace) (option_to_list x.namespace) ≡ true) it
              (and_parts (is_directory_at nat_eq world l)
              (list_all (nat_eq task.namespace) (option_to_list (mount_at nat_eq world l).namespace)) test).1)
              (any_from_among (λ (k : Location ℕ). nat_eq k.mount from.0.number) (roots_and_directories theirs) l at
              (eq-eqb l.mount from.0.number (sym same))),
        )
      where
        by : (mount : Mount ℕ) (o : Option ℕ) → mount.namespace ≡ o
            → list_all (nat_eq task.namespace) (option_to_list mount.namespace) ≡ true
            → is_at nat_eq (roots_and_directories theirs) mount ≡ true → IsGround world names is.mounts mount
        by mount o e h stood = grind (arith, common_steps, stood, eqb-true, and_parts, any_from_among, eq-eqb)

    stood : (is_directory_seen_in nat_eq world task.namespace task.root ≡ true)
        × (is_directory_seen_in nat_eq world task.namespace task.directory ≡ true)
    stood = and_parts (is_directory_seen_in nat_eq world task.namespace task.root)
        (is_directory_seen_in nat_eq world task.namespace task.directory)
        (among_from_list_all (stands_on_directories nat_eq world) world.tasks is.tasks.directories task task_there)

    pub root_theirs : OnTheirs task.root
    root_theirs = seen task.root stood.0 (inl refl)
        (among-flat_map (λ (t : Task ℕ). t.root ∷ t.directory ∷ []) theirs task task.root member (inl refl))

    pub directory_theirs : OnTheirs task.directory
    directory_theirs = seen task.directory stood.1 (inr (inl refl))
        (among-flat_map (λ (t : Task ℕ). t.root ∷ t.directory ∷ []) theirs task task.directory member (inr (inl refl)))

    -- `..` from the root of a mount
    hop_goes : (a b : Location ℕ) → hop nat_eq (looks_of nat_eq world) task a ≡ Some b
        → (mount_numbered nat_eq world a.mount).mount_point ≡ Some b
    hop_goes a b e = grind (arith, common_steps, none_is_some)

    hop_alike : (a : Location ℕ) → OnTheirs a
        → hop nat_eq (looks_of nat_eq part) task a ≡ hop nat_eq (looks_of nat_eq world) task a
    hop_alike a own = grind (arith, common_steps, mount_alike)

    hops_each : (here : Location ℕ) → OnTheirs here
        → Each (λ (l : Location ℕ). OnTheirs l) (hops nat_eq (looks_of nat_eq world) task here)
    hops_each here own =
        up_each world names is.mounts (hop nat_eq (looks_of nat_eq world) task) (hop nat_eq (looks_of nat_eq part) task)
        hop_goes hop_alike here own

    hops_alike : (here : Location ℕ) → OnTheirs here
        → hops nat_eq (looks_of nat_eq world) task here ≡ hops nat_eq (looks_of nat_eq part) task here
    hops_alike here own = sym (up_alike world names is.mounts (hop nat_eq (looks_of nat_eq world) task)
        (hop nat_eq (looks_of nat_eq part) task) hop_goes hop_alike here own)

  on_from : (here : Location ℕ) → is_theirs world names here.mount ≡ true → OnTheirs here
  on_from here e = theirs_from world names is.mounts here.mount e

  are_on : (list : List (Location ℕ)) → Each (λ (l : Location ℕ). OnTheirs l) list → AreOn (is_theirs world names) list
  are_on list each l m = theirs_test world names is.mounts l.mount (each l (among_from_contains list l m))

pub members_see_alike : MembersSeeAlike
members_see_alike world names task is member =
    let among = among_from_contains (members world names) task member in
    record {
      root = theirs_test world names is.mounts task.root.mount (root_theirs world names is task among);
      node = λ here e. cc (filesystem_alike world names is here (on_from world names is here e));
      mount = λ here e. mount_alike world names is here (on_from world names is here e);
      overlay = λ here e. cc (filesystem_alike world names is here (on_from world names is here e));
      over = λ here e. sym (over_alike world names is.mounts here (on_from world names is here e));
      entered = λ here e. are_on world names is _
          (over_theirs world names is.mounts here (on_from world names is here e));
      hops_alike = λ here e. hops_alike world names is task among here (on_from world names is here e);
      hopped = λ here e. are_on world names is _
          (hops_each world names is task among here (on_from world names is here e));
      lost = λ here e. lost_alike world names is here (on_from world names is here e);
    }
