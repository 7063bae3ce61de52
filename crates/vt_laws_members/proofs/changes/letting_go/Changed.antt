-- Where tasks of a set let locations go, the world and the part are ready to be swept.
use Rattle.std.proofs.Common.{arith, ◌≡◌, refl, sym, subst, ◌∙◌, ◌⊎◌, inl, inr, ⊎_elim, ℕ, nat_eq, Bool, true, true≢false, List, [], Option, Some, None, filter, map, not, ◌||◌, eqb-true}
use Rattle.vt_spec.proofs.Common.{Among, Location, Mount, MountInvariants, Stands, Task, TaskName, World, all_locations, among-append, among-append_left, among-append_right, among-flat_map, among-from_filter, among-from_flat_map, among-from_map, among-map, among_from_all, any_among, any_from_among, common_steps, found_or_none, holds_of, is_at, is_member_task, list_any, locations, locations_of, members, mount_at, mount_numbered, none_is_some, number-mount_in, or_cases, or_left, or_parts, or_right, outsiders, roots_and_directories, then_some, used_directly}
use Rattle.vt_laws_members.proofs.Common.{cases_Option, IsSealed, apart_if_sealed, found_itself, is_own, keep, located, located_there, namespace_below, nowhere_stands, numbered}
use Rattle.vt_laws_members.proofs.judging.Common.{IsTheirs, same_mount, theirs_directly}
use Rattle.vt_laws_members.proofs.changes.letting_go.SeeLess.{SeeLess}

-- a location of all tasks is on a mount that is there
module _ {world : World ℕ} {names : List TaskName} (sealing : IsSealed world names) where
  pub mount_under : (l : Location ℕ) → Among l (all_locations world)
      → (m : Mount ℕ) × Among m world.mounts × (l.mount ≡ m.number)
  mount_under l m =
      let at = located_there (apart_if_sealed sealing) l m in
      (at.0, at.1, eqb-true l.mount at.0.number at.2)

-- a mount point is on a mount of the same namespace
pub mount_parent : (b : World ℕ) → MountInvariants nat_eq b → (m : Mount ℕ) (l : Location ℕ)
    → Among m b.mounts → m.mount_point ≡ Some l
    → (n : ℕ) × (m.namespace ≡ Some n) × (k : Mount ℕ) × Among k b.mounts × (l.mount ≡ k.number)
    × (k.namespace ≡ Some n)
mount_parent b kept m l at point = elim (cases_Option m.namespace) [
  | inl e ↦ absurd (nowhere_stands b [] kept m l at e point)
  | inr its ↦ let up : (mount_numbered nat_eq b l.mount).namespace ≡ Some its.0 = sym below ∙ its.1 in
      ⊎_elim (λ found. (
        its.0,
        its.1,
        mount_numbered nat_eq b l.mount,
        found,
        sym
            (number-mount_in b.mounts l.mount),
        up,
      ))
      (λ none. none_is_some its.0 (cc)) (found_or_none b.mounts l.mount)
]
  where
    below : m.namespace ≡ (mount_numbered nat_eq b l.mount).namespace
    below = cc (
      found_itself b.mounts kept.one_number m at,
      namespace_below b m.number l (among_from_all (λ (y : Mount ℕ). Stands nat_eq b y.number) b.mounts
          kept.standing m at) (cc (found_itself b.mounts kept.one_number m at)),
    )

-- The tasks of a set let locations go.
module _ {world : World ℕ} {names : List TaskName} (sealing : IsSealed world names) (set : List TaskName) where
  abbrev old : List (Task ℕ)
  old = members world names

  abbrev of_set : List (Task ℕ) → List (Task ℕ)
  of_set tasks = filter (is_member_task set) tasks

  -- these tasks are in the namespaces of before, and at locations of before or on mounts where members get
  pub record LetsGo (tasks : List (Task ℕ)) : Type 0 where
    pub own : (n : ℕ) → list_any (λ (t : Task ℕ). nat_eq n t.namespace) (of_set tasks)
        ≡ list_any (λ (t : Task ℕ). nat_eq n t.namespace) old
    pub roots : (l : Location ℕ) → Among l (roots_and_directories (of_set tasks))
        → IsTheirs world names sealing.is.mounts l.mount
    pub places : (l : Location ℕ) → Among l (locations (of_set tasks))
        → Among l (locations old) ⊎ IsTheirs world names sealing.is.mounts l.mount
    pub others : (l : Location ℕ) → Among l (locations (filter (λ t. not (is_member_task set t)) tasks))
        → Among l (locations (outsiders world names))

  module _ (tasks : List (Task ℕ)) (change : ℕ) (it : LetsGo tasks) where
    abbrev new : List (Task ℕ)
    new = of_set tasks

    abbrev later : World ℕ
    later = record world { tasks = tasks; change = change }

    abbrev owns : List (Task ℕ) → Mount ℕ → Bool
    owns ts = is_own world names ts

    abbrev stands : List (Task ℕ) → Mount ℕ → Bool
    stands ts m = is_at nat_eq (roots_and_directories ts) m

    abbrev at : List (Task ℕ) → Mount ℕ → Bool
    at ts m = is_at nat_eq (locations ts) m

    pub owned_same : (m : Mount ℕ) → owns new m ≡ owns old m
    owned_same m i = holds_of (λ n. it.own n i) m.namespace

    abbrev IsGround : Mount ℕ → Type 0
    IsGround m = (owns old m ≡ true) ⊎ ((m.namespace ≡ None) × (stands old m ≡ true))

    pub ground_is : (m : Mount ℕ) → Among m world.mounts → (number : ℕ) → number ≡ m.number
        → IsTheirs world names sealing.is.mounts number → IsGround m
    ground_is m n number e theirs =
        let same : theirs.0 ≡ m = cc (
          numbered world names sealing.is.mounts theirs.0 theirs.1,
          theirs.2,
          numbered world
              names sealing.is.mounts m n,
        ) in
        subst IsGround same theirs.3

    -- a mount where they stand
    pub stood_ground : (m : Mount ℕ) → Among m world.mounts → stands new m ≡ true → IsGround m
    stood_ground m n h =
        let l = any_among (λ (k : Location ℕ). nat_eq k.mount m.number) (roots_and_directories new) h in
        ground_is m n l.0.mount (eqb-true l.0.mount m.number l.2) (it.roots l.0 l.1)

    pub ground_whole : (m : Mount ℕ) → IsGround m → (owns old m || stands old m) ≡ true
    ground_whole m ground = ⊎_elim (λ own. or_left (owns old m) _ own) (λ stood. or_right (owns old m) _ stood.1) ground

    whole_was : (m : Mount ℕ) → Among m world.mounts → (owns new m || stands new m) ≡ true
        → (owns old m || stands old m) ≡ true
    whole_was m n h = ⊎_elim (λ own. or_left (owns old m) (stands old m) (sym (owned_same m) ∙ own))
        (λ stood. ground_whole m (stood_ground m n stood)) (or_cases (owns new m) (stands new m) h)

    at_was : (m : Mount ℕ) → Among m world.mounts → at new m ≡ true
        → ((owns old m || stands old m) ≡ true) ⊎ (at old m ≡ true)
    at_was m n h =
        let l = any_among (λ (k : Location ℕ). nat_eq k.mount m.number) (locations new) h in
        ⊎_elim (λ was. inr (any_from_among _ _ l.0 was l.2)) (λ theirs. inl
        (ground_whole m (ground_is m n l.0.mount (eqb-true l.0.mount m.number l.2) theirs))) (it.places l.0 l.1)

    kept_by : (m : Mount ℕ) → Among m world.mounts
        → then_some (keep world names old m) (keep world names new) ≡ keep world names new m
    kept_by m n = grind (arith, common_steps, keep, true≢false, whole_was, or_parts, at_was)

    abbrev shows : Location ℕ → ℕ
    shows l = (mount_at nat_eq world l).filesystem

    abbrev mounted : List (Task ℕ) → List ℕ
    mounted ts = map (λ (m : Mount ℕ). m.filesystem) (filter (owns ts) world.mounts)

    mounted_same : mounted new ≡ mounted old
    mounted_same i = map (λ (m : Mount ℕ). m.filesystem) (filter (λ m. owned_same m i) world.mounts)

    direct_was : (n : ℕ) → Among n (used_directly nat_eq later set) → Among n (used_directly nat_eq world names)
    direct_was n m = ⊎_elim (λ shown. among-append_left (mounted old) _ n (subst (Among n) mounted_same shown))
        (λ placed. let l = among-from_map shows (locations new) n placed in ⊎_elim
        (λ was. among-append_right (mounted old) (map shows (locations old)) n
        (rw l.2 (among-map shows (locations old) l.0 was))) (λ theirs. rw l.2 (theirs_directly world names sealing.is
        l.0 theirs)) (it.places l.0 l.1)) (among-append (mounted new) (map shows (locations new)) n m)

    pub sees_less : SeeLess world names set tasks change
    sees_less = record {
      own = λ n h. sym (it.own n) ∙ h;
      mounts = kept_by;
      located = λ l m. ⊎_elim (located world names l)
          (λ theirs. cc (same_mount world names sealing.is.mounts l.mount theirs))
          (it.places l m);
      direct = direct_was;
    }

    -- a mount where they stand is theirs, or without a mount point
    pub stood_so : (m : Mount ℕ) → Among m world.mounts → stands new m ≡ true
        → (owns new m ≡ true) ⊎ (m.mount_point ≡ None)
    stood_so m n h = ⊎_elim (λ own. inl (owned_same m ∙ own)) (λ stood. inr (nowhere stood.0 m.mount_point refl))
        (stood_ground m n h)
      where
        nowhere : m.namespace ≡ None → (o : Option (Location ℕ)) → m.mount_point ≡ o → m.mount_point ≡ None
        nowhere none None e = e
        nowhere none (Some l) e = absurd (nowhere_stands world names sealing.is.mounts m l n none e)

    -- the locations of the set are on mounts that are there
    pub placed_on : (l : Location ℕ) → Among l (locations new)
        → (m : Mount ℕ) × Among m world.mounts × (l.mount ≡ m.number)
    placed_on l m = ⊎_elim (λ was. let t = among-from_flat_map locations_of old l was in mount_under sealing l
        (among-flat_map locations_of world.tasks t.0 l
        (among-from_filter (is_member_task names) world.tasks t.0 t.1).0 t.2))
        (λ theirs. (theirs.0, theirs.1, sym theirs.2)) (it.places l m)

-- These tasks are left to a set in the world, and in the part.
pub record Retasks (world : World ℕ) (names set : List TaskName) : Type 0 where
  pub sealing : IsSealed world names
  pub open sealing use {is, sealed_off}
  pub tasks : List (Task ℕ)
  pub tasks_too : List (Task ℕ)
  pub lets : LetsGo sealing set tasks
  pub same : filter (is_member_task set) tasks_too ≡ filter (is_member_task set) tasks
  pub all : (t : Task ℕ) → Among t tasks_too → is_member_task set t ≡ true
