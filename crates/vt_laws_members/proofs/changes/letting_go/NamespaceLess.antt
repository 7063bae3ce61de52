-- Where mounts of theirs are detached, and tasks and namespaces end, the tasks that are left see less.
use Rattle.std.proofs.Common.{arith, ◌≡◌, refl, sym, ap, subst, ◌∙◌, ◌⊎◌, inl, inr, ⊎_elim, ℕ, nat_eq, Bool, true, false, cond, true≢false, List, [], ◌∷◌, Option, Some, None, filter, is_some, map, not, ◌||◌, eq-eqb, eqb-true, option_map, filter_map}
use Rattle.vt_spec.proofs.Common.{cases_Bool, Among, IsWorld, Location, Mount, MountInvariants, Namespace, Task, TaskName, World, after_going, among-append, among-append_left, among-append_right, among-filter, among-flat_map, among-from_filter, among-from_flat_map, among-from_map, among-map, among_from_list_all, and_parts, any_among, any_from_among, common_steps, detached, holds_of, is_at, is_going, is_member_of, is_member_task, is_nowhere_or_attached, is_own_mount, is_private, list_any, locations, locations_of, members, mount_at, mount_numbered, inherited_mount_point, or_cases, or_left, or_right, outsiders, own_mounts, pair-map, part_of, roots_and_directories, seen_by_descriptor, then_some, used_directly, when}
use Rattle.vt_laws_members.proofs.Common.{OneNumberEach, filter_map_map, filter_map_same, found_itself, is_own, keep, kept_whole, member_group, numbered, shown_at, source_from_group}
use Rattle.vt_laws_members.proofs.judging.Common.{IsGround, IsTheirs, directory_theirs, root_theirs, theirs_directly}
use Rattle.vt_laws_members.proofs.changes.letting_go.Changed.{mount_under}
use Rattle.vt_laws_members.proofs.changes.letting_go.Heard.{heard_by_own}
use Rattle.vt_laws_members.proofs.changes.letting_go.Leaving.{filter_mid}
use Rattle.vt_laws_members.proofs.changes.letting_go.LessSeen.{AreLess, filter_map_then}
use Rattle.vt_laws_members.proofs.changes.letting_go.Regrouped.{TheirsGo, left_by, master_after, master_alike, mount_alike, regrouped_mount}

-- what a mount keeps
pub record KeepsShape (m y : Mount ℕ) : Type 0 where
  pub number : y.number ≡ m.number
  pub filesystem : y.filesystem ≡ m.filesystem
  pub stub : seen_by_descriptor y ≡ seen_by_descriptor m
  pub root : y.root ≡ m.root

-- a mount after the event
abbrev pub moved_mount : World ℕ → List ℕ → Mount ℕ → Mount ℕ
moved_mount w gone m = record m { mount_point = option_map (inherited_mount_point nat_eq w gone) m.mount_point }

abbrev pub ended_mount : Bool → World ℕ → World ℕ → List ℕ → Mount ℕ → Mount ℕ
ended_mount b t w gone m = regrouped_mount b t (after_going nat_eq w gone m)

-- by these truths
abbrev pub ended_by : Bool → Bool → World ℕ → World ℕ → List ℕ → Mount ℕ → Mount ℕ
ended_by b c t w gone m = regrouped_mount b t (cond c (detached m) (moved_mount w gone m))

pub shape_kept : (b : Bool) (t w : World ℕ) (gone : List ℕ) (m : Mount ℕ) → KeepsShape m (ended_mount b t w gone m)
shape_kept b t w gone m = grind (arith, common_steps)

-- it is in no namespace, or in its own, and then where it is left
pub placed_so : (b : Bool) (t w : World ℕ) (gone : List ℕ) (m : Mount ℕ)
    → (((ended_mount b t w gone m).namespace ≡ None) × ((ended_mount b t w gone m).mount_point ≡ None)
    × (is_going nat_eq gone m.number ≡ true)) ⊎ (((ended_mount b t w gone m).namespace ≡ m.namespace)
    × ((ended_mount b t w gone m).mount_point ≡ option_map (inherited_mount_point nat_eq w gone) m.mount_point)
    × (is_going nat_eq gone m.number ≡ false))
placed_so b t w gone m = grind (arith, common_steps)

-- a member of a group after was one before
pub member_was : (b : Bool) (t w : World ℕ) (gone : List ℕ) (g : ℕ) (m : Mount ℕ)
    → is_member_of nat_eq g (ended_mount b t w gone m) ≡ true → is_member_of nat_eq g m ≡ true
member_was b t w gone g m = grind (arith, common_steps, true≢false)

-- a private mount without a mount point, and what a descriptor shows, stay
private_alike : (b : Bool) (t u w x : World ℕ) (gone : List ℕ) (m : Mount ℕ) → is_private m.propagation ≡ true
    → m.mount_point ≡ None → ended_mount b t w gone m ≡ ended_mount b u x gone m
private_alike b t u w x gone m e none = grind (arith, common_steps, true≢false)

pub stub_stays : (b : Bool) (t w : World ℕ) (gone : List ℕ) (m : Mount ℕ)
    → ended_mount b t w gone (seen_by_descriptor m) ≡ seen_by_descriptor m
stub_stays b t w gone m = grind (arith, common_steps)

-- a mount where they stand is theirs, or in no namespace
pub stands_on : (world : World ℕ) (names : List TaskName) (is : IsWorld nat_eq world) (m : Mount ℕ)
    → Among m world.mounts → is_at nat_eq (roots_and_directories (members world names)) m ≡ true
    → (is_own world names (members world names) m ≡ true) ⊎ (m.namespace ≡ None)
stands_on world names is m n h =
    let l = any_among (λ (l : Location ℕ). nat_eq l.mount m.number) (roots_and_directories (members world names)) h in
    let t = among-from_flat_map (λ (t : Task ℕ). t.root ∷ t.directory ∷ []) (members world names) l.0 l.1 in
    let on = theirs t.0 t.1 l.0 t.2 in
    let same : on.0 ≡ m = cc (
      numbered world names is.mounts on.0 on.1,
      on.2,
      eqb-true l.0.mount m.number l.2,
      numbered
          world names is.mounts m n,
    ) in
    rw (← same) (⊎_elim inl (λ stood. inr stood.0) on.3)
  where
    theirs : (t : Task ℕ) → Among t (members world names) → (l : Location ℕ) → Among l (t.root ∷ t.directory ∷ [])
        → IsTheirs world names is.mounts l.mount
    theirs t m l at = ⊎_elim (λ e. rw e (root_theirs world names is t m)) (λ rest. ⊎_elim
        (λ e. rw e (directory_theirs world names is t m)) (λ none. absurd none) rest) at

-- A set of tasks that is in no other namespaces than those of before, and at locations of before or where members get
module _ (world : World ℕ) (names : List TaskName) (is : IsWorld nat_eq world) where
  abbrev old_ones : List (Task ℕ)
  old_ones = members world names

  abbrev OnTheirs : Location ℕ → Type 0
  OnTheirs l = IsTheirs world names is.mounts l.mount

  pub record SetIsLess (set : List TaskName) (tasks : List (Task ℕ)) : Type 0 where
    pub entered : (n : ℕ) → list_any (λ (t : Task ℕ). nat_eq n t.namespace) (filter (is_member_task set) tasks) ≡ true
        → list_any (λ (t : Task ℕ). nat_eq n t.namespace) old_ones ≡ true
    pub roots : (l : Location ℕ) → Among l (roots_and_directories (filter (is_member_task set) tasks)) → OnTheirs l
    pub places : (l : Location ℕ) → Among l (locations (filter (is_member_task set) tasks))
        → Among l (locations old_ones) ⊎ OnTheirs l

  -- so where its tasks are some of the old ones
  pub less_of_fewer : (set : List TaskName) (tasks : List (Task ℕ))
      → ((t : Task ℕ) → Among t (filter (is_member_task set) tasks) → Among t old_ones) → SetIsLess set tasks
  less_of_fewer set tasks fewer = record {
    entered = λ n h. let t = any_among (λ (t : Task ℕ). nat_eq n t.namespace) (filter (is_member_task set) tasks) h in
        any_from_among (λ (t : Task ℕ). nat_eq n t.namespace) old_ones t.0 (fewer t.0 t.1) t.2;
    roots = λ l m.
        let t = among-from_flat_map (λ (t : Task ℕ). t.root ∷ t.directory ∷ [])
        (filter (is_member_task set) tasks) l m in
        ⊎_elim (λ e. rw e (root_theirs world names is t.0 (fewer t.0 t.1)))
        (λ rest. ⊎_elim (λ e. rw e (directory_theirs world names is t.0 (fewer t.0 t.1)))
        (λ none. absurd none) rest) t.2;
    places = λ l m. let t = among-from_flat_map locations_of (filter (is_member_task set) tasks) l m in
        inl (among-flat_map locations_of old_ones t.0 l (fewer t.0 t.1) t.2);
  }

  -- a mount where members get
  pub ground_at : (l : Location ℕ) → OnTheirs l → (m : Mount ℕ) → Among m world.mounts → l.mount ≡ m.number
      → IsGround world names is.mounts m
  ground_at l (mount, there, number, ground) m n e = subst (IsGround world names is.mounts)
      (sym (numbered world names is.mounts mount there) ∙ ap (mount_numbered nat_eq world) (number ∙ e)
      ∙ numbered world names is.mounts m n) ground

  pub ground_whole : (m : Mount ℕ) → IsGround world names is.mounts m
      → (is_own world names old_ones m || is_at nat_eq (roots_and_directories old_ones) m) ≡ true
  ground_whole m ground = grind (arith, common_steps, or_left, is_own, or_right)

-- Mounts of theirs go, and these tasks and namespaces are left, in the world and in the part.
pub record Detaches (world : World ℕ) (names set : List TaskName) (gone : List ℕ) : Type 0 where
  pub go : TheirsGo world names gone
  pub open go use *
  pub lasts : ℕ → Bool
  pub tasks : List (Task ℕ)
  pub tasks_too : List (Task ℕ)
  pub change : ℕ
  pub change_too : ℕ
  pub same : filter (is_member_task set) tasks_too ≡ filter (is_member_task set) tasks
  pub fewer : SetIsLess world names is set tasks
  pub regroups : Bool

module _ {world : World ℕ} {names set : List TaskName} {gone : List ℕ} (it : Detaches world names set gone) where
  abbrev part : World ℕ
  part = part_of nat_eq world names

  abbrev old : List (Task ℕ)
  old = members world names

  abbrev new : List (Task ℕ)
  new = filter (is_member_task set) it.tasks

  abbrev t_world : World ℕ
  t_world = left_by world gone

  abbrev t_part : World ℕ
  t_part = left_by part gone

  abbrev after : Mount ℕ → Mount ℕ
  after = ended_mount it.regroups t_world world gone

  abbrev after_part : Mount ℕ → Mount ℕ
  after_part = ended_mount it.regroups t_part part gone

  abbrev stays : Namespace ℕ → Bool
  stays n = it.lasts n.number

  abbrev pub ended : World ℕ
  ended = record world {
    mounts = map after world.mounts;
    master = master_after it.regroups t_world;
    namespaces = filter stays world.namespaces;
    tasks = it.tasks;
    change = it.change;
  }

  abbrev pub ended_part : World ℕ
  ended_part = record part {
    mounts = map after_part part.mounts;
    master = master_after it.regroups t_part;
    namespaces = filter stays part.namespaces;
    tasks = it.tasks_too;
    change = it.change_too;
  }

  abbrev owns : List (Task ℕ) → Mount ℕ → Bool
  owns ts = is_own world names ts

  abbrev stands : List (Task ℕ) → Mount ℕ → Bool
  stands ts m = is_at nat_eq (roots_and_directories ts) m

  abbrev at : List (Task ℕ) → Mount ℕ → Bool
  at ts m = is_at nat_eq (locations ts) m

  -- less than before
  pub entered_was : (n : ℕ) → list_any (λ (t : Task ℕ). nat_eq n t.namespace) new ≡ true
      → list_any (λ (t : Task ℕ). nat_eq n t.namespace) old ≡ true
  entered_was = it.fewer.entered

  own_was : (m : Mount ℕ) → owns new m ≡ true → owns old m ≡ true
  own_was m = by m.namespace
    where
      by : (o : Option ℕ) → holds_of (λ n. list_any (λ (t : Task ℕ). nat_eq n t.namespace) new) o ≡ true
          → holds_of (λ n. list_any (λ (t : Task ℕ). nat_eq n t.namespace) old) o ≡ true
      by None h = h
      by (Some n) h = entered_was n h

  -- an own mount of the set that is left was one
  pub own_before : (m : Mount ℕ) → owns new (after m) ≡ true → (owns new m ≡ true) × (owns old m ≡ true)
  own_before m h = grind (arith, common_steps, true≢false, own_was, placed_so)

  pub root_ground : (l : Location ℕ) → Among l (roots_and_directories new) → (m : Mount ℕ) → Among m world.mounts
      → l.mount ≡ m.number → IsGround world names it.is.mounts m
  root_ground l at m n e = ground_at world names it.is l (it.fewer.roots l at) m n e

  stands_was : (m : Mount ℕ) → Among m world.mounts → stands new m ≡ true → (owns old m || stands old m) ≡ true
  stands_was m n h =
      let l = any_among (λ (l : Location ℕ). nat_eq l.mount m.number) (roots_and_directories new) h in
      ground_whole world names it.is m (root_ground l.0 l.1 m n (eqb-true l.0.mount m.number l.2))

  at_was : (m : Mount ℕ) → Among m world.mounts → at new m ≡ true
      → ((owns old m || stands old m) ≡ true) ⊎ (at old m ≡ true)
  at_was m n h =
      let l = any_among (λ (l : Location ℕ). nat_eq l.mount m.number) (locations new) h in
      ⊎_elim (λ before. inr (any_from_among (λ (l : Location ℕ). nat_eq l.mount m.number) (locations old) l.0 before
      l.2)) (λ on. inl (ground_whole world names it.is m
      (ground_at world names it.is l.0 on m n (eqb-true l.0.mount m.number l.2)))) (it.fewer.places l.0 l.1)

  -- a mount that is whole in the part is after alike
  whole_alike : (m : Mount ℕ) → Among m world.mounts → (o : Option ℕ) → m.namespace ≡ o
      → (owns old m || stands old m) ≡ true → (owns old m ≡ true)
      ⊎ ((is_private m.propagation ≡ true) × (m.mount_point ≡ None)) → after_part m ≡ after m
  whole_alike m n o e whole (inl own) = mount_alike it.go it.regroups m (among-filter _ world.mounts m n own)
  whole_alike m n o e whole (inr alone) = private_alike it.regroups t_part t_world part world gone m alone.0 alone.1

  -- what is kept of a mount that is no more than shown to a descriptor
  abbrev kept_as : Bool → Bool → Mount ℕ → Option (Mount ℕ)
  kept_as p q m = cond p (Some m) (when q (seen_by_descriptor m))

  less_whole : (m : Mount ℕ) → Among m world.mounts → (owns old m || stands old m) ≡ false
      → (owns new (after m) || stands new (after m)) ≡ false
  less_whole m n e = by (owns new (after m)) refl (stands new (after m)) refl
    where
      by : (p : Bool) → owns new (after m) ≡ p → (q : Bool) → stands new (after m) ≡ q
          → (owns new (after m) || stands new (after m)) ≡ false
      by true f q g = cc (or_left (owns old m) (stands old m) (own_before m f).1)
      by false f true g = cc (stands_was m n (ap (λ i. list_any (λ (l : Location ℕ). nat_eq l.mount i)
          (roots_and_directories new)) (sym (shape_kept it.regroups t_world world gone m).number) ∙ g))
      by false f false g = cc

  stub_kept : (m : Mount ℕ) → Among m world.mounts → (owns old m || stands old m) ≡ false
      → keep world names new (after m) ≡ when (at new m) (seen_by_descriptor m)
  stub_kept m n e = ap (λ c. kept_as c (at new (after m)) (after m)) (less_whole m n e)
      ∙ ap (λ i. when (list_any (λ (l : Location ℕ). nat_eq l.mount i) (locations new)) (seen_by_descriptor (after m)))
      (shape_kept it.regroups t_world world gone m).number
      ∙ ap (when (at new m)) (shape_kept it.regroups t_world world gone m).stub

  stub_whole : (m : Mount ℕ) → Among m world.mounts → (owns old m || stands old m) ≡ false
      → keep world names new (after_part (seen_by_descriptor m)) ≡ when (at new m) (seen_by_descriptor m)
  stub_whole m n e = ap (keep world names new) (stub_stays it.regroups t_part part gone m) ∙ (elim (cases_Bool
      (stands new m)) [
        | inl f ↦ absurd (true≢false (sym (stands_was m n f) ∙ e))
        | inr f ↦ ap (λ c. cond c (Some (seen_by_descriptor m)) (when (at new m) (seen_by_descriptor m))) f
      ])

  no_point : (o : Option (Location ℕ)) → not (is_some o) ≡ true → o ≡ None
  no_point None e = refl
  no_point (Some l) e = cc

  private_if : (m : Mount ℕ) → Among m world.mounts → (owns old m || stands old m) ≡ true
      → (owns old m ≡ true) ⊎ ((is_private m.propagation ≡ true) × (m.mount_point ≡ None))
  private_if m n whole = ⊎_elim inl (λ stood. by stood) (or_cases (owns old m) (stands old m) whole)
    where
      by : stands old m ≡ true → (owns old m ≡ true) ⊎ ((is_private m.propagation ≡ true) × (m.mount_point ≡ None))
      by stood = ⊎_elim inl (λ none. let parts = and_parts (not (is_some m.mount_point)) (is_private m.propagation)
          (cc (among_from_list_all is_nowhere_or_attached world.mounts it.is.mounts.nowhere m n)) in inr
          (parts.1, no_point m.mount_point parts.0)) (stands_on world names it.is m n stood)

  kept_then : (m : Mount ℕ) → Among m world.mounts
      → then_some (keep world names old m) (λ y. keep world names new (after_part y)) ≡ keep world names new (after m)
  kept_then m n = by (owns old m || stands old m) refl (at old m) refl (at new m) refl
    where
      by : (p : Bool) → (owns old m || stands old m) ≡ p → (q : Bool) → at old m ≡ q → (r : Bool) → at new m ≡ r
          → then_some (kept_as (owns old m || stands old m) (at old m) m) (λ y. keep world names new (after_part y))
          ≡ keep world names new (after m)
      by true e q f r g = cc (whole_alike m n m.namespace refl e (private_if m n e))
      by false e true f r g = cc (stub_whole m n e, stub_kept m n e)
      by false e false f true g = absurd (⊎_elim (λ whole. true≢false (cc)) (λ there. true≢false (cc)) (at_was m n g))
      by false e false f false g = cc (stub_kept m n e)

  mounts_less : filter_map (keep world names new) (map after_part part.mounts)
      ≡ filter_map (keep world names new) (map after world.mounts)
  mounts_less = cc (
    filter_map_map (keep world names new) after_part part.mounts,
    filter_map_then (keep world names old) (λ y. keep world names new (after_part y)) world.mounts,
    filter_map_same (λ m. then_some (keep world names old m) (λ y. keep world names new (after_part y))) (λ m. keep
        world names new (after m)) world.mounts kept_then,
    filter_map_map (keep world names new) after world.mounts,
  )

  -- mounts by their numbers
  pub one_after : OneNumberEach ended
  one_after = grind (arith, common_steps, pair-map, shape_kept)

  pub shown_after : (m : Mount ℕ) → Among m world.mounts → (l : Location ℕ) → l.mount ≡ m.number
      → mount_at nat_eq ended l ≡ after m
  shown_after m n l e = grind (arith, common_steps, shape_kept, found_itself, one_after, among-map)

  pub filesystem_after : (m : Mount ℕ) → Among m world.mounts → (l : Location ℕ) → l.mount ≡ m.number
      → (mount_at nat_eq ended l).filesystem ≡ (mount_at nat_eq world l).filesystem
  filesystem_after m n l e = cc (
    shown_after m n l e,
    (shape_kept it.regroups t_world world gone m).filesystem,
    found_itself world.mounts it.is.mounts.one_number m n,
  )

  pub placed_old : (l : Location ℕ) → Among l (locations old) → (m : Mount ℕ) × Among m world.mounts
      × (l.mount ≡ m.number)
  placed_old l m =
      let t = among-from_flat_map locations_of old l m in
      mount_under it.sealing l (among-flat_map locations_of world.tasks t.0 l
      (among-from_filter (is_member_task names) world.tasks t.0 t.1).0 t.2)

  -- a location of the set that is left is on a mount of the part
  pub place_shown : (l : Location ℕ) → Among l (locations new)
      → (m : Mount ℕ) × Among m world.mounts × (l.mount ≡ m.number) × (y : Mount ℕ) × (keep world names old m ≡ Some y)
  place_shown l m = ⊎_elim (λ before. let on = placed_old l before in
      let shown = shown_at world names on.0 (any_from_among _ _ l before (eq-eqb l.mount on.0.number on.2)) in
      (on.0, on.1, on.2, shown.0, shown.1)) (λ on. (
        on.0,
        on.1,
        sym on.2,
        on.0,
        kept_whole world names old on.0 (ground_whole world names it.is on.0 on.3),
      )) (it.fewer.places l m)

  abbrev mounted : List ℕ
  mounted = map (λ (m : Mount ℕ). m.filesystem) (own_mounts nat_eq world names)

  abbrev shows : Location ℕ → ℕ
  shows l = (mount_at nat_eq world l).filesystem

  direct_was : (n : ℕ) → Among n (used_directly nat_eq ended set) → Among n (used_directly nat_eq world names)
  direct_was n m = ⊎_elim (λ shown. let y = among-from_map (λ (m : Mount ℕ). m.filesystem) (own_mounts nat_eq ended set)
      n shown in let own = among-from_filter (owns new) (map after world.mounts) y.0 y.1 in let from = among-from_map
      after world.mounts y.0 own.0 in let was = own_before from.0 (cc (from.2, own.1)) in among-append_left mounted
      (map shows (locations old)) n (rw (y.2 ∙ ap (λ (x : Mount ℕ). x.filesystem) from.2 ∙
      (shape_kept it.regroups t_world world gone from.0).filesystem) (among-map (λ (m : Mount ℕ). m.filesystem)
      (own_mounts nat_eq world names) from.0 (among-filter (is_own_mount nat_eq world names) world.mounts from.0 from.1
      was.1)))) (λ placed. let l = among-from_map (λ (l : Location ℕ). (mount_at nat_eq ended l).filesystem)
      (locations new) n placed in let on = place_shown l.0 l.1 in rw (l.2 ∙ filesystem_after on.0 on.1 l.0 on.2)
      (⊎_elim (λ before. among-append_right mounted (map shows (locations old)) (shows l.0)
      (among-map shows (locations old) l.0 before)) (λ theirs. theirs_directly world names it.is l.0 theirs)
      (it.fewer.places l.0 l.1))) (among-append (map (λ (m : Mount ℕ). m.filesystem) (own_mounts nat_eq ended set))
      (map (λ (l : Location ℕ). (mount_at nat_eq ended l).filesystem) (locations new)) n m)

  -- groups of mounts that are left are heard
  masters_less : (group : ℕ) → list_any (is_member_of nat_eq group) (own_mounts nat_eq ended set) ≡ true
      → master_after it.regroups t_part group ≡ master_after it.regroups t_world group
  masters_less group h =
      let y = any_among (is_member_of nat_eq group) (own_mounts nat_eq ended set) h in
      let own = among-from_filter (owns new) (map after world.mounts) y.0 y.1 in
      let from = among-from_map after world.mounts y.0 own.0 in
      let was = own_before from.0 (cc (from.2, own.1)) in
      let is_in = member_was it.regroups t_world world gone group from.0 (cc (from.2, y.2)) in
      master_alike it.go it.regroups group (heard_by_own it.sealing from.0 (among-filter _ world.mounts from.0 from.1
      was.1) group (source_from_group from.0.propagation group (member_group group from.0 is_in)))

  abbrev spaces : List (Task ℕ) → Namespace ℕ → Bool
  spaces ts n = list_any (λ (t : Task ℕ). nat_eq n.number t.namespace) ts

  pub ended_less : AreLess world names set ended ended_part
  ended_less = record {
    tasks = it.same;
    mounts = ap (λ ts. filter_map (keep world names ts) (map after_part part.mounts)) it.same ∙ mounts_less;
    masters = masters_less;
    namespaces = ap (λ ts. filter (spaces ts) (filter stays part.namespaces)) it.same
        ∙ filter_mid (spaces new) stays (spaces old) world.namespaces (λ n h. entered_was n.number h);
    direct = direct_was;
  }

  -- Worlds are left in which no other task is new, and what stays is theirs still.
  pub record LeavesWorlds : Type 0 where
    pub others : (l : Location ℕ) → Among l (locations (filter (λ t. not (is_member_task set t)) it.tasks))
        → Among l (locations (outsiders world names))
    pub all : (t : Task ℕ) → Among t it.tasks_too → is_member_task set t ≡ true
    pub still : (m : Mount ℕ) → Among m world.mounts → is_going nat_eq gone m.number ≡ false → owns old m ≡ true
        → owns new m ≡ true
    pub kept : MountInvariants nat_eq ended
    pub kept_there : MountInvariants nat_eq ended_part
