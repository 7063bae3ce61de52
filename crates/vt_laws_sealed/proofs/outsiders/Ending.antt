-- Namespaces of others that end with their last tasks: _exit(2).
use Rattle.std.proofs.Common.{arith, ◌≡◌, refl, sym, ap, ◌∙◌, inl, ℕ, nat_eq, Bool, true, false, true≢false, List, [], Option, Some, filter, map, not, ◌&&◌, eqb-true}
use Rattle.vt_spec.proofs.Common.{Among, Call, Fresh, Location, Mount, Namespace, Task, TaskName, ToExit, World, among-filter, among-flat_map, among-from_filter, among-from_flat_map, among-from_map, among_numbers, and_from, any_among, any_from_among, apply, common_steps, false_from_ne_true, has_tasks, holds_of, is_among, is_going, is_in_ended, is_listed, is_member_task, is_own_namespace, list_any, locations, locations_of, members, mount_numbered, namespaces_ended, not-false, outsiders, same_name, same_task_name, sealed, settled}
use Rattle.vt_laws_sealed.proofs.Common.{filter_less, found_itself, name_found}
use Rattle.vt_laws_sealed.proofs.outsiders.OthersCalls.{IsOthersCall, apart_from}
use Rattle.vt_laws_sealed.specs.Part.Seals.{IsApart}
use Rattle.vt_laws_sealed.proofs.outsiders.ChangedWorlds.{OthersMove}
use Rattle.vt_laws_sealed.proofs.outsiders.OtherMounts.{namespace_outside, standing_apart}
use Rattle.vt_laws_sealed.proofs.outsiders.OwnTasks.{IsOutside}
use Rattle.vt_laws_sealed.proofs.outsiders.StandingApart.{StandsApart}
use Rattle.vt_laws_sealed.proofs.outsiders.Staying.{LeavesApart}
use Rattle.vt_laws_sealed.proofs.outsiders.TakingAway.{filesystems_taken, taken_leaves_apart, taking_leaves_apart}

-- Other tasks, with the members as they were; then the namespaces without tasks end
module _ {world : World ℕ} {names : List TaskName} {New : ℕ → Type 0} (apart : StandsApart world names New)
    (tasks : List (Task ℕ)) (same : filter (is_member_task names) tasks ≡ members world names)
    (outside : (t : Task ℕ) → Among t (filter (λ (x : Task ℕ). not (is_member_task names x)) tasks)
    → is_own_namespace nat_eq world names t.namespace ≡ false) (located : (location : Location ℕ)
    → Among location (locations (filter (λ (x : Task ℕ). not (is_member_task names x)) tasks))
    → IsOutside world names location) where
  abbrev pub before : World ℕ
  before = record world { tasks = tasks }

  abbrev is_own : ℕ → Bool
  is_own = is_own_namespace nat_eq world names

  abbrev lives_on : ℕ → Bool
  lives_on number =
      list_any (λ (namespace : Namespace ℕ). nat_eq number namespace.number && has_tasks nat_eq before namespace)
      world.namespaces

  -- a namespace of theirs has tasks
  own_has_tasks : (number : ℕ) → is_own number ≡ true
      → list_any (λ (t : Task ℕ). nat_eq number t.namespace) tasks ≡ true
  own_has_tasks number own = grind (arith, common_steps, any_among, any_from_among, among-from_filter)

  listed_at : (number : ℕ) → is_listed nat_eq world number ≡ true
      → (namespace : Namespace ℕ) × Among namespace world.namespaces × (nat_eq number namespace.number ≡ true)
  listed_at number h = grind (arith, common_steps, any_among, among-from_map)

  own_lives : (number : ℕ) → is_own number ≡ true → lives_on number ≡ true
  own_lives number own =
      let listed = listed_at number (apart.own_listed number own) in
      any_from_among (λ (namespace : Namespace ℕ). nat_eq number namespace.number && has_tasks nat_eq before namespace)
      world.namespaces listed.0 listed.1
      (and_from (nat_eq number listed.0.number) (has_tasks nat_eq before listed.0) listed.2
      (own_has_tasks listed.0.number (cc (eqb-true number listed.0.number listed.2))))

  -- mounts that go
  abbrev ends : Mount ℕ → Bool
  ends = is_in_ended nat_eq before

  abbrev gone : List ℕ
  gone = map (λ (mount : Mount ℕ). mount.number) (filter ends world.mounts)

  ended_if_going : (number : ℕ) → is_going nat_eq gone number ≡ true → ends (mount_numbered nat_eq world number) ≡ true
  ended_if_going number h =
      let from = among-from_map (λ (mount : Mount ℕ). mount.number) (filter ends world.mounts) number
      (among_numbers gone number h) in
      let at = among-from_filter ends world.mounts from.0 from.1 in
      grind (arith, common_steps, found_itself)

  others_go : (number : ℕ) → is_going nat_eq gone number ≡ true
      → (namespace : ℕ) × ((mount_numbered nat_eq world number).namespace ≡ Some namespace) × (is_own namespace ≡ false)
  others_go number h = by (mount_numbered nat_eq world number).namespace refl (ended_if_going number h)
    where
      by : (o : Option ℕ) → (mount_numbered nat_eq world number).namespace ≡ o
          → holds_of (λ n. not (lives_on n)) o ≡ true
          → (namespace : ℕ) × ((mount_numbered nat_eq world number).namespace ≡ Some namespace)
          × (is_own namespace ≡ false)
      by o e ended = grind (arith, common_steps, true≢false, false_from_ne_true, own_lives)

  abbrev namespaces_left : List (Namespace ℕ)
  namespaces_left = filter (has_tasks nat_eq before) world.namespaces

  moved : OthersMove world names tasks namespaces_left
  moved = record {
    members = same;
    outside = outside;
    located = located;
    listed = filter_less (λ (n : Namespace ℕ). is_own n.number) (has_tasks nat_eq before) world.namespaces
        (λ n m ended. false_from_ne_true (is_own n.number) (λ own.
        cc (own_has_tasks n.number own, ended)));
  }

  pub ended_leaves_apart : LeavesApart world (namespaces_ended nat_eq before) names []
  ended_leaves_apart = taken_leaves_apart apart moved gone others_go

  pub filesystems_ended : (namespaces_ended nat_eq before).filesystems ≡ world.filesystems
  filesystems_ended = filesystems_taken apart moved gone others_go

-- So it is after the sweep.
pub ending_leaves_apart : (world : World ℕ) (names : List TaskName) → IsApart world names
    → sealed nat_eq world names ≡ true → (tasks : List (Task ℕ))
    → filter (is_member_task names) tasks ≡ members world names
    → ((t : Task ℕ) → Among t (filter (λ (x : Task ℕ). not (is_member_task names x)) tasks)
    → is_own_namespace nat_eq world names t.namespace ≡ false) → ((location : Location ℕ)
    → Among location (locations (filter (λ (x : Task ℕ). not (is_member_task names x)) tasks))
    → IsOutside world names location)
    → LeavesApart world (settled nat_eq (namespaces_ended nat_eq (record world { tasks = tasks }))) names []
ending_leaves_apart world names apart sealed_off tasks same outside located =
    let so_far = standing_apart world names apart in
    taking_leaves_apart world names apart sealed_off tasks (namespaces_left so_far tasks same outside located)
    (moved so_far tasks same outside located) (gone so_far tasks same outside located)
    (others_go so_far tasks same outside located)

-- _exit(2)
module _ {world : World ℕ} {fresh : Fresh ℕ} {names : List TaskName} {name : TaskName} {call : Call}
    {task : Task ℕ} (outsider : IsOthersCall world fresh names name call task) where
  set_apart : IsApart world names
  set_apart = apart_from outsider.it

  abbrev others : List (Task ℕ)
  others = filter (λ (t : Task ℕ). not (same_name task.name t.name)) world.tasks

  members_there : filter (is_member_task names) others ≡ members world names
  members_there = filter_less (is_member_task names) (λ (t : Task ℕ). not (same_name task.name t.name)) world.tasks
      (λ t m gone. ap (λ n. is_among same_name n names)
      (sym (same_task_name task.name t.name (not-false (same_name task.name t.name) gone)) ∙ sym
      (name_found world name task outsider.called)) ∙ outsider.outside)

  out_before : (t : Task ℕ) → Among t (filter (λ (x : Task ℕ). not (is_member_task names x)) others)
      → Among t (outsiders world names)
  out_before t m = grind (arith, common_steps, among-from_filter, among-filter)

  pub exit_leaves : LeavesApart world (settled nat_eq (apply nat_eq fresh world task ToExit).world) names []
  exit_leaves = ending_leaves_apart world names set_apart outsider.sealed_off others members_there
      (λ t m. namespace_outside world names set_apart t (out_before t m)) (λ location m.
      let of = among-from_flat_map locations_of
      (filter (λ (x : Task ℕ). not (is_member_task names x)) others) location m in
      inl (
        location,
        among-flat_map locations_of (outsiders world names) of.0 location (out_before of.0 of.1) of.2,
        refl,
      ))
