-- Where mounts of theirs change, new ones come, and namespaces come and go, a set sees what is made of its part.
use Rattle.std.proofs.Common.{arith, ◌≡◌, refl, sym, ap, subst, ◌∙◌, ◌⊎◌, inl, inr, ⊎_elim, ℕ, nat_eq, Bool, true, false, cond, true≢false, List, [], ◌∷◌, ◌++◌, Option, Some, None, filter, map, not, ◌||◌, eq-eqb, eqb-true, filter_map}
use Rattle.vt_spec.proofs.Common.{cases_Bool, Among, Location, Mount, MountInvariants, Namespace, Private, Propagation, Task, TaskName, World, among-append, among-append_left, among-append_right, among-filter, among-flat_map, among-from_filter, among-from_flat_map, among-from_map, among-map, any_among, any_from_among, common_steps, filter-append, filter_map-append, holds_of, is_at, is_member_of, is_member_task, is_own_mount, list_any, locations, locations_of, members, mount_at, mount_numbered, none_is_some, or_cases, or_left, or_parts, outsiders, own_mounts, part_of, roots_and_directories, seen_by_descriptor, source_of, then_some, used_directly, when}
use Rattle.vt_laws_members.proofs.Common.{IsSealed, filter_map_map, filter_map_same, found_itself, is_own, keep, kept_whole, member_group, numbered, shown_at, source_from_group}
use Rattle.vt_laws_members.proofs.judging.Common.{IsTheirs, theirs_directly}
use Rattle.vt_laws_members.proofs.changes.letting_go.Changed.{mount_under}
use Rattle.vt_laws_members.proofs.changes.letting_go.Heard.{IsHeard, heard_by_own, master_same}
use Rattle.vt_laws_members.proofs.changes.letting_go.LessSeen.{AreLess, filter_map_then}
use Rattle.vt_laws_members.proofs.changes.letting_go.NamespaceLess.{KeepsShape, ground_at, ground_whole}

-- what becomes of mounts, which ones come, and which namespaces stay and come
pub record Plan : Type 0 where
  pub turn : Mount ℕ → Mount ℕ
  pub added : List (Mount ℕ)
  pub lasts : Namespace ℕ → Bool
  pub come : List (Namespace ℕ)

-- a world after that, with these tasks
abbrev pub remade : Plan → World ℕ → List (Task ℕ) → World ℕ
remade plan w tasks = record w {
  mounts = map plan.turn w.mounts ++ plan.added;
  namespaces = filter plan.lasts w.namespaces ++ plan.come;
  tasks = tasks;
}

-- some task is in the namespace
abbrev pub in_spaces : List (Task ℕ) → ℕ → Bool
in_spaces tasks n = list_any (λ (t : Task ℕ). nat_eq n t.namespace) tasks

-- no mount and no namespace has this number of a namespace
abbrev pub IsNewSpace : World ℕ → ℕ → Type 0
IsNewSpace world n = ((m : Mount ℕ) → Among m world.mounts → holds_of (nat_eq n) m.namespace ≡ false)
    × ((s : Namespace ℕ) → Among s world.namespaces → nat_eq n s.number ≡ false)

-- the location is on a mount that comes
abbrev pub OnAdded : Plan → Location ℕ → Type 0
OnAdded plan l = (y : Mount ℕ) × Among y plan.added × (l.mount ≡ y.number)

-- a change in the world of a sealed set, and in its part
pub record Remaking : Type 0 where
  pub world : World ℕ
  pub names : List TaskName
  pub sealing : IsSealed world names
  pub open sealing use {is, sealed_off}
  pub plan : Plan
  pub tasks : List (Task ℕ)
  pub tasks_too : List (Task ℕ)

-- Mounts of theirs alone change, and those that come are theirs, and show and receive what some of theirs do.
pub record ChangesTheirs (it : Remaking) : Type 0 where
  pub shape : (m : Mount ℕ) → KeepsShape m (it.plan.turn m)
  pub others : (m : Mount ℕ) → Among m it.world.mounts → is_own it.world it.names (members it.world it.names) m ≡ false
      → (it.plan.turn m ≡ m) × (it.plan.turn (seen_by_descriptor m) ≡ seen_by_descriptor m)
  pub placed : (m : Mount ℕ) → Among m it.world.mounts → is_own it.world it.names (members it.world it.names) m ≡ true
      → ((it.plan.turn m).namespace ≡ None) ⊎ (((it.plan.turn m).namespace ≡ m.namespace)
      × (is_own it.world it.names (filter (is_member_task it.names) it.tasks) m ≡ true))
  pub kinds : (m : Mount ℕ) → ((it.plan.turn m).propagation ≡ m.propagation) ⊎ ((it.plan.turn m).propagation ≡ Private)
  pub copies : (y : Mount ℕ) → Among y it.plan.added → (m : Mount ℕ) × Among m (own_mounts nat_eq it.world it.names)
      × (y.filesystem ≡ m.filesystem) × (y.propagation ≡ m.propagation)
  pub owned : (y : Mount ℕ) → Among y it.plan.added
      → is_own it.world it.names (filter (is_member_task it.names) it.tasks) y ≡ true
  pub apart : (y m : Mount ℕ) → Among y it.plan.added → Among m it.world.mounts → y.number ≡ m.number → ⊥
  -- the mounts keep their invariants
  pub kept : MountInvariants nat_eq (remade it.plan it.world it.tasks)
  pub kept_there : MountInvariants nat_eq (remade it.plan (part_of nat_eq it.world it.names) it.tasks_too)

-- The tasks of the set are in namespaces of before or in new ones, and at locations of before, where members get, or on
-- mounts that come. Others stay where they are.
pub record MovesTheirs (it : Remaking) : Type 0 where
  pub same : filter (is_member_task it.names) it.tasks_too ≡ filter (is_member_task it.names) it.tasks
  pub all : (t : Task ℕ) → Among t it.tasks_too → is_member_task it.names t ≡ true
  pub entered : (n : ℕ) → in_spaces (filter (is_member_task it.names) it.tasks) n ≡ true
      → (in_spaces (members it.world it.names) n ≡ true) ⊎ IsNewSpace it.world n
  pub roots : (l : Location ℕ) → Among l (roots_and_directories (filter (is_member_task it.names) it.tasks))
      → IsTheirs it.world it.names it.is.mounts l.mount ⊎ OnAdded it.plan l
  pub places : (l : Location ℕ) → Among l (locations (filter (is_member_task it.names) it.tasks))
      → Among l (locations (members it.world it.names))
      ⊎ (IsTheirs it.world it.names it.is.mounts l.mount ⊎ OnAdded it.plan l)
  pub outside : (l : Location ℕ) → Among l (locations (filter (λ t. not (is_member_task it.names t)) it.tasks))
      → Among l (locations (outsiders it.world it.names))

-- filters in turn
pub filter_within : {A : Type 0} (p q r : A → Bool) (xs : List A) → ((x : A) → Among x xs → p x ≡ true → r x ≡ true)
    → filter p (filter q (filter r xs)) ≡ filter p (filter q xs)
filter_within p q r [] less = refl
filter_within {A} p q r (x ∷ xs) less = by (r x) refl (filter_within p q r xs (λ y m. less y (inr m)))
  where
    skip : (c b : Bool) → p x ≡ b → r x ≡ false
        → filter p (filter q xs) ≡ filter p (cond c (x ∷ filter q xs) (filter q xs))
    skip false b e f = refl
    skip true true e f = cc (less x (inl refl) e)
    skip true false e f = cc

    both : (c : Bool) → filter p (filter q (filter r xs)) ≡ filter p (filter q xs)
        → filter p (cond c (x ∷ filter q (filter r xs)) (filter q (filter r xs)))
        ≡ filter p (cond c (x ∷ filter q xs) (filter q xs))
    both true later = cc
    both false later = later

    by : (b : Bool) → r x ≡ b → filter p (filter q (filter r xs)) ≡ filter p (filter q xs)
        → filter p (filter q (cond b (x ∷ filter r xs) (filter r xs)))
        ≡ filter p (cond (q x) (x ∷ filter q xs) (filter q xs))
    by true e later = both (q x) later
    by false e later = later ∙ skip (q x) (p x) refl e

-- a mount in no group
no_group : (kind : Propagation ℕ) → kind ≡ Private → (g : ℕ) → source_of kind ≡ Some g → ⊥
no_group kind e g f = none_is_some g (cc)

module _ (it : Remaking) (does : ChangesTheirs it) (moves : MovesTheirs it) where
  abbrev world : World ℕ
  world = it.world

  abbrev names : List TaskName
  names = it.names

  abbrev part : World ℕ
  part = part_of nat_eq world names

  abbrev turn : Mount ℕ → Mount ℕ
  turn = it.plan.turn

  abbrev old : List (Task ℕ)
  old = members world names

  abbrev new : List (Task ℕ)
  new = filter (is_member_task names) it.tasks

  -- the two worlds after the change
  abbrev pub v : World ℕ
  v = remade it.plan world it.tasks

  abbrev pub v_part : World ℕ
  v_part = remade it.plan part it.tasks_too

  abbrev owns : List (Task ℕ) → Mount ℕ → Bool
  owns ts = is_own world names ts

  abbrev stands : List (Task ℕ) → Mount ℕ → Bool
  stands ts m = is_at nat_eq (roots_and_directories ts) m

  abbrev at : List (Task ℕ) → Mount ℕ → Bool
  at ts m = is_at nat_eq (locations ts) m

  -- mounts of before that are theirs or shown were so
  pub own_was : (m : Mount ℕ) → Among m world.mounts → owns new m ≡ true → owns old m ≡ true
  own_was m n = by m.namespace refl
    where
      by : (o : Option ℕ) → m.namespace ≡ o → holds_of (in_spaces new) o ≡ true → holds_of (in_spaces old) o ≡ true
      by None e h = h
      by (Some k) e h = ⊎_elim (λ before. before)
          (λ fresh. absurd (true≢false (sym (ap (holds_of (nat_eq k)) e ∙ eq-eqb k k refl) ∙ fresh.0 m n)))
          (moves.entered k h)

  pub own_before : (m : Mount ℕ) → Among m world.mounts → owns new (turn m) ≡ true → owns old m ≡ true
  own_before m n h = elim (cases_Bool (owns old m)) [ inl e ↦ e | inr e ↦ own_was m n (cc ((does.others m n e).0)) ]

  whole_at : (m : Mount ℕ) → Among m world.mounts → (l : Location ℕ) → nat_eq l.mount m.number ≡ true
      → IsTheirs world names it.is.mounts l.mount ⊎ OnAdded it.plan l → (owns old m || stands old m) ≡ true
  whole_at m n l e (inl theirs) =
      ground_whole world names it.is m (ground_at world names it.is l theirs m n (eqb-true l.mount m.number e))
  whole_at m n l e (inr (y, k, same)) = absurd (does.apart y m k n (sym same ∙ eqb-true l.mount m.number e))

  stands_was : (m : Mount ℕ) → Among m world.mounts → stands new m ≡ true → (owns old m || stands old m) ≡ true
  stands_was m n h =
      let l = any_among (λ (l : Location ℕ). nat_eq l.mount m.number) (roots_and_directories new) h in
      whole_at m n l.0 l.2 (moves.roots l.0 l.1)

  at_was : (m : Mount ℕ) → Among m world.mounts → at new m ≡ true
      → ((owns old m || stands old m) ≡ true) ⊎ (at old m ≡ true)
  at_was m n h =
      let l = any_among (λ (l : Location ℕ). nat_eq l.mount m.number) (locations new) h in
      ⊎_elim (λ before. inr (any_from_among _ (locations old) l.0 before l.2)) (λ on. inl (whole_at m n l.0 l.2 on))
      (moves.places l.0 l.1)

  less_whole : (m : Mount ℕ) → Among m world.mounts → (owns old m || stands old m) ≡ false
      → (owns new m || stands new m) ≡ false
  less_whole m n e = grind (arith, common_steps, true≢false, or_left, own_was, stands_was, or_cases)

  -- what is kept of what is kept
  abbrev stub : Mount ℕ → Mount ℕ
  stub m = seen_by_descriptor m

  kept_then : (m : Mount ℕ) → Among m world.mounts
      → then_some (keep world names old m) (λ y. keep world names new (turn y)) ≡ keep world names new (turn m)
  kept_then m n = by (owns old m || stands old m) refl (at old m) refl (at new m) refl
    where
      kept_as : Bool → Bool → Option (Mount ℕ)
      kept_as p q = cond p (Some m) (when q (stub m))

      after : (owns old m || stands old m) ≡ false → keep world names new (turn m) ≡ when (at new m) (stub m)
      after e = cc ((does.others m n (or_parts (owns old m) (stands old m) e).0).0, less_whole m n e)

      by : (p : Bool) → (owns old m || stands old m) ≡ p → (q : Bool) → at old m ≡ q → (r : Bool) → at new m ≡ r
          → then_some (kept_as (owns old m || stands old m) (at old m)) (λ y. keep world names new (turn y))
          ≡ keep world names new (turn m)
      by true e q f r g = ap (λ c. then_some (kept_as c (at old m)) (λ y. keep world names new (turn y))) e
      by false e true f r g = ap (λ c. then_some (kept_as c (at old m)) (λ y. keep world names new (turn y))) e
          ∙ ap (λ c. then_some (when c (stub m)) (λ y. keep world names new (turn y))) f
          ∙ ap (keep world names new) (does.others m n (or_parts (owns old m) (stands old m) e).0).1
          ∙ ap (λ c. cond c (Some (stub m)) (when (at new m) (stub m)))
          (or_parts (owns new m) (stands new m) (less_whole m n e)).1 ∙ sym (after e)
      by false e false f true g = absurd (⊎_elim (λ whole. true≢false (cc)) (λ there. true≢false (cc)) (at_was m n g))
      by false e false f false g = cc (after e)

  mounts_less : filter_map (keep world names new) v_part.mounts ≡ filter_map (keep world names new) v.mounts
  mounts_less = cc (
    filter_map-append (keep world names new) (map turn part.mounts) it.plan.added,
    filter_map_map
        (keep world names new) turn part.mounts,
    filter_map_then (keep world names old) (λ y. keep world names new
        (turn y)) world.mounts,
    filter_map_same (λ m. then_some (keep world names old m) (λ y. keep world names new
        (turn y))) (λ m. keep world names new (turn m)) world.mounts kept_then,
    filter_map_map
        (keep world names new) turn world.mounts,
    filter_map-append (keep world names new)
        (map turn world.mounts) it.plan.added,
  )

  -- a mount of the set after the change shows and receives what one of before did
  pub origin : (y : Mount ℕ) → Among y v.mounts → owns new y ≡ true
      → (m : Mount ℕ) × Among m (own_mounts nat_eq world names) × (y.filesystem ≡ m.filesystem)
      × ((y.propagation ≡ m.propagation) ⊎ (y.propagation ≡ Private))
  origin y n own = ⊎_elim (λ turned. let from = among-from_map turn world.mounts y turned in (
    from.0,
    among-filter (is_own_mount nat_eq world names) world.mounts from.0 from.1
        (own_before from.0 from.1 (ap (owns new) (sym from.2) ∙ own)),
    ap (λ (x : Mount ℕ). x.filesystem) from.2 ∙ (does.shape from.0).filesystem,
    subst (λ (x : Mount ℕ). (x.propagation ≡ from.0.propagation) ⊎ (x.propagation ≡ Private)) (sym from.2)
        (does.kinds from.0),
  )) (λ fresh. let of = does.copies y fresh in (of.0, of.1, of.2, inl of.3))
      (among-append (map turn world.mounts) it.plan.added y n)

  pub source_heard : (y : Mount ℕ) → Among y v.mounts → owns new y ≡ true → (g : ℕ)
      → source_of y.propagation ≡ Some g → IsHeard it.sealing g
  source_heard y n own g e =
      let of = origin y n own in
      ⊎_elim (λ same. heard_by_own it.sealing of.0 of.1 g (cc same)) (λ none. absurd (no_group y.propagation none g e))
      of.3

  masters_less : (group : ℕ) → list_any (is_member_of nat_eq group) (own_mounts nat_eq v names) ≡ true
      → part.master group ≡ world.master group
  masters_less group h =
      let y = any_among (is_member_of nat_eq group) (own_mounts nat_eq v names) h in
      let own = among-from_filter (owns new) v.mounts y.0 y.1 in
      master_same it.sealing group (source_heard y.0 own.0 own.1 group (source_from_group y.0.propagation group
      (member_group group y.0 y.2)))

  -- mounts by their numbers
  pub shown_after : (y : Mount ℕ) → Among y v.mounts → (l : Location ℕ) → l.mount ≡ y.number → mount_at nat_eq v l ≡ y
  shown_after y n l e = cc (found_itself v.mounts does.kept.one_number y n)

  pub turned_in : (m : Mount ℕ) → Among m world.mounts → Among (turn m) v.mounts
  turned_in m n = among-append_left (map turn world.mounts) it.plan.added (turn m) (among-map turn world.mounts m n)

  pub filesystem_after : (m : Mount ℕ) → Among m world.mounts → (l : Location ℕ) → l.mount ≡ m.number
      → (mount_at nat_eq v l).filesystem ≡ (mount_at nat_eq world l).filesystem
  filesystem_after m n l e =
      ap (λ (x : Mount ℕ). x.filesystem) (shown_after (turn m) (turned_in m n) l (e ∙ sym (does.shape m).number))
      ∙ (does.shape m).filesystem ∙ ap (λ (x : Mount ℕ). x.filesystem)
      (sym (ap (mount_numbered nat_eq world) e ∙ numbered world names it.is.mounts m n))

  pub placed_old : (l : Location ℕ) → Among l (locations old)
      → (m : Mount ℕ) × Among m world.mounts × (l.mount ≡ m.number)
  placed_old l m =
      let t = among-from_flat_map locations_of old l m in
      mount_under it.sealing l (among-flat_map locations_of world.tasks t.0 l
      (among-from_filter (is_member_task names) world.tasks t.0 t.1).0 t.2)

  -- a location of the set is on a mount of the part, or on one that comes
  pub place_shown : (l : Location ℕ) → Among l (locations new)
      → ((m : Mount ℕ) × Among m world.mounts × (l.mount ≡ m.number) × (y : Mount ℕ)
      × (keep world names old m ≡ Some y)) ⊎ OnAdded it.plan l
  place_shown l m = ⊎_elim (λ before. let on = placed_old l before in
      let shown = shown_at world names on.0 (any_from_among _ _ l before (eq-eqb l.mount on.0.number on.2)) in
      inl (on.0, on.1, on.2, shown.0, shown.1)) (λ rest. ⊎_elim (λ on. inl (
        on.0,
        on.1,
        sym on.2,
        on.0,
        kept_whole world names old on.0 (ground_whole world names it.is on.0 on.3),
      )) inr rest) (moves.places l m)

  abbrev mounted : List ℕ
  mounted = map (λ (m : Mount ℕ). m.filesystem) (own_mounts nat_eq world names)

  abbrev shows : Location ℕ → ℕ
  shows l = (mount_at nat_eq world l).filesystem

  shown_was : (y : Mount ℕ) → Among y v.mounts → owns new y ≡ true → (n : ℕ) → n ≡ y.filesystem
      → Among n (used_directly nat_eq world names)
  shown_was y m own n e = grind (arith, common_steps, origin, among-append_left, among-map)

  located_was : (l : Location ℕ) → Among l (locations new)
      → Among (mount_at nat_eq v l).filesystem (used_directly nat_eq world names)
  located_was l m = ⊎_elim (λ before. let on = placed_old l before in rw (filesystem_after on.0 on.1 l on.2)
      (among-append_right mounted (map shows (locations old)) (shows l) (among-map shows (locations old) l before)))
      (λ rest. ⊎_elim (λ on. rw (filesystem_after on.0 on.1 l (sym on.2)) (theirs_directly world names it.is l on))
      (λ fresh. let y = fresh.0 in let there = among-append_right (map turn world.mounts) it.plan.added y fresh.1 in
      shown_was y there (does.owned y fresh.1) _ (cc (shown_after y there l fresh.2))) rest) (moves.places l m)

  direct_was : (n : ℕ) → Among n (used_directly nat_eq v names) → Among n (used_directly nat_eq world names)
  direct_was n m = ⊎_elim (λ shown. let y = among-from_map _ _ n shown in let own = among-from_filter (owns new)
      v.mounts y.0 y.1 in shown_was y.0 own.0 own.1 n y.2) (λ placed. let l = among-from_map _ (locations new) n placed
      in rw l.2 (located_was l.0 l.1)) (among-append (map (λ (m : Mount ℕ). m.filesystem) (own_mounts nat_eq v names))
      (map (λ (l : Location ℕ). (mount_at nat_eq v l).filesystem) (locations new)) n m)

  -- namespaces
  abbrev spaces : List (Task ℕ) → Namespace ℕ → Bool
  spaces ts n = in_spaces ts n.number

  pub space_was : (n : Namespace ℕ) → Among n world.namespaces → spaces new n ≡ true → spaces old n ≡ true
  space_was n m h =
      ⊎_elim (λ before. before) (λ fresh. cc (eq-eqb n.number n.number refl, fresh.1 n m)) (moves.entered n.number h)

  pub namespaces_less : filter (spaces new) v_part.namespaces ≡ filter (spaces new) v.namespaces
  namespaces_less = filter-append (spaces new) (filter it.plan.lasts part.namespaces) it.plan.come
      ∙ ap (λ l. l ++ filter (spaces new) it.plan.come)
      (filter_within (spaces new) it.plan.lasts (spaces old) world.namespaces space_was)
      ∙ sym (filter-append (spaces new) (filter it.plan.lasts world.namespaces) it.plan.come)

  pub remade_less : AreLess world names names v v_part
  remade_less = record {
    tasks = moves.same;
    mounts = ap (λ ts. filter_map (keep world names ts) v_part.mounts) moves.same ∙ mounts_less;
    masters = masters_less;
    namespaces = ap (λ ts. filter (spaces ts) v_part.namespaces) moves.same ∙ namespaces_less;
    direct = direct_was;
  }
