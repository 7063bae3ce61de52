-- Where mounts of a sealed set are taken away, others are as they were.
use Rattle.std.proofs.Common.{◌≡◌, refl, sym, ap, subst, ◌∙◌, ◌⊎◌, inl, ⊎_elim, ℕ, nat_eq, Bool, true, false, true≢false, List, [], ◌∷◌, Option, Some, None, filter, map, not, ◌&&◌, ◌+◌, eq-eqb, eqb-true, arith, option_to_list}
use Rattle.vt_spec.proofs.Common.{Among, IsWorld, Location, Mount, Namespace, Task, TaskName, World, all_locations, among-append, among-append_left, among-append_right, among-filter, among-flat_map, among-from_filter, among-from_flat_map, among-from_map, among-map, among_from_list_all, and_parts, any_from_among, common_steps, false_from_ne_true, filesystems-taken_away, filter_alike, holds_of, is_among_numbers, is_going, is_listed, is_member_task, is_own_mount, is_own_namespace, list_all, list_all_from_among, list_any, locations, locations_of, members, mount_at, mount_numbered, not-true, other_mounts, outsiders, own_mounts, share_events, taken_away, used_directly}
use Rattle.vt_laws_mounts.specs.Mounts.Attaching.{OneNumberAMount, is_mount}
use Rattle.vt_laws_mounts.specs.Mounts.Invariants.{OneNumberEach}
use Rattle.vt_laws_containers.proofs.Common.{IsApart, IsSealed, IsTheirs, LeavesApart, NothingNew, StandsApart, apart_if_sealed, found_itself, located_there, namespace_outside, one_taken, taken_from, taken_leaves_apart, theirs_directly}
use Rattle.vt_laws_worlds.proofs.worlds.Seen.{KeepsWhatIsSeen, is_in}
use Rattle.vt_laws_worlds.proofs.worlds.SeenMounts.{ended_seen}
use Rattle.vt_laws_sealed.proofs.part.part.Observed.{own_mounts_same}
use Rattle.vt_laws_sealed.proofs.outsiders.ChangedWorlds.{OthersMove}
use Rattle.vt_laws_containers.proofs.footholds.AsBefore.{OthersAsBefore}
use Rattle.vt_laws_containers.proofs.footholds.Mirror.{ShareNone, mirror, mirror_owns, mirror_stands, none_there, none_turned, ours_if_not_out, ours_is_not_out, out, out_if_not_ours, own_out, placed_listed, their_names}

-- Mounts and groups are taken away alike, whatever tasks there are.
pub taken_mounts : (world : World ℕ) (tasks : List (Task ℕ)) (gone : List ℕ)
    → (taken_away nat_eq (record world { tasks = tasks }) gone).mounts ≡ (taken_away nat_eq world gone).mounts
taken_mounts world tasks gone = grind (arith, common_steps)

taken_master : (world : World ℕ) (tasks : List (Task ℕ)) (gone : List ℕ)
    → (taken_away nat_eq (record world { tasks = tasks }) gone).master ≡ (taken_away nat_eq world gone).master
taken_master world tasks gone = grind (arith, common_steps)

pub taken_tasks : (world : World ℕ) (tasks : List (Task ℕ)) (gone : List ℕ)
    → (taken_away nat_eq (record world { tasks = tasks }) gone).tasks ≡ tasks
taken_tasks world tasks gone = grind (arith, common_steps)

-- A set is left with these tasks, and each mount that goes is in a namespace of the old set.
pub record TakesOwn (world : World ℕ) (names set : List TaskName) (is : IsWorld nat_eq world)
    (tasks : List (Task ℕ)) (namespaces : List (Namespace ℕ)) (gone : List ℕ) : Type 0 where
  pub going : (number : ℕ) → is_going nat_eq gone number ≡ true
      → (n : ℕ) × ((mount_numbered nat_eq world number).namespace ≡ Some n)
      × (is_own_namespace nat_eq world names n ≡ true)
  pub others : filter (λ (t : Task ℕ). not (is_member_task set t)) tasks ≡ outsiders world names
  pub own_less : (n : ℕ) → list_any (λ (t : Task ℕ). nat_eq n t.namespace) (filter (is_member_task set) tasks) ≡ true
      → is_own_namespace nat_eq world names n ≡ true
  -- a namespace that still has a mount has a task
  pub tasked : (mount : Mount ℕ) → Among mount (taken_away nat_eq world gone).mounts → (n : ℕ)
      → mount.namespace ≡ Some n → (t : Task ℕ) × Among t tasks × (t.namespace ≡ n)
  pub located : (location : Location ℕ) → Among location (locations (filter (is_member_task set) tasks))
      → Among location (locations (members world names)) ⊎ IsTheirs world names is.mounts location.mount
  -- the namespaces of others stay
  pub listed : filter (λ (s : Namespace ℕ). list_any (λ (t : Task ℕ). nat_eq s.number t.namespace)
      (outsiders world names)) namespaces
      ≡ filter (λ (s : Namespace ℕ). list_any (λ (t : Task ℕ). nat_eq s.number t.namespace)
      (outsiders world names)) world.namespaces

module _ {world : World ℕ} {names : List TaskName} {set : List TaskName} (sealing : IsSealed world names)
    {tasks : List (Task ℕ)} {namespaces : List (Namespace ℕ)} {gone : List ℕ}
    (takes : TakesOwn world names set sealing.is tasks namespaces gone) where
  apart : IsApart world names
  apart = apart_if_sealed sealing

  abbrev left : World ℕ
  left = record (taken_away nat_eq (record world { tasks = tasks }) gone) { namespaces = namespaces }

  abbrev ours : ℕ → Bool
  ours = is_own_namespace nat_eq world names

  abbrev own_left : ℕ → Bool
  own_left n = list_any (λ (t : Task ℕ). nat_eq n t.namespace) (filter (is_member_task set) tasks)

  own_left_is : (n : ℕ) → is_own_namespace nat_eq left set n ≡ own_left n
  own_left_is n = cc (taken_tasks world tasks gone)

  -- The mirror
  abbrev others_names : List TaskName
  others_names = their_names apart

  abbrev beside : World ℕ
  beside = mirror apart

  stands : StandsApart beside others_names NothingNew
  stands = mirror_stands apart NothingNew (λ mount group m is_in new. new)

  none_out : (t : Task ℕ)
      → Among t (filter (λ (x : Task ℕ). not (is_member_task others_names x)) (out apart)) → ⊥
  none_out t m = subst (Among t) (none_there apart) m

  moved : OthersMove beside others_names (out apart) namespaces
  moved = record {
    members = refl;
    outside = λ t m. absurd (none_out t m);
    located = λ location m.
        let of = among-from_flat_map locations_of _ location m in
        absurd (none_out of.0 of.1);
    listed = (λ i. filter (λ (s : Namespace ℕ). own_out apart s.number i) namespaces) ∙ takes.listed
        ∙ sym (λ i. filter (λ (s : Namespace ℕ). own_out apart s.number i) world.namespaces);
  }

  mirror_goes : (number : ℕ) → is_going nat_eq gone number ≡ true
      → (n : ℕ) × ((mount_numbered nat_eq world number).namespace ≡ Some n)
      × (is_own_namespace nat_eq beside others_names n ≡ false)
  mirror_goes number h =
      let goes = takes.going number h in
      (goes.0, goes.1, own_out apart goes.0 ∙ ours_is_not_out apart goes.0 goes.2)

  abbrev mirror_left : World ℕ
  mirror_left = record (taken_away nat_eq (record world { tasks = out apart }) gone) {
    namespaces = namespaces;
  }

  leaves : LeavesApart beside mirror_left others_names []
  leaves = taken_leaves_apart stands moved gone mirror_goes

  abbrev taken_ones : List (Mount ℕ)
  taken_ones = (taken_away nat_eq world gone).mounts

  left_mounts : left.mounts ≡ taken_ones
  left_mounts = taken_mounts world tasks gone

  mirror_mounts : mirror_left.mounts ≡ taken_ones
  mirror_mounts = taken_mounts world (out apart) gone

  same_master : mirror_left.master ≡ left.master
  same_master = taken_master world (out apart) gone ∙ sym (taken_master world tasks gone)

  -- a mount in a namespace was in it
  was : (mount : Mount ℕ) → Among mount taken_ones → (n : ℕ) → mount.namespace ≡ Some n
      → (old : Mount ℕ) × Among old world.mounts × (old.number ≡ mount.number) × (old.namespace ≡ Some n)
  was mount m n e =
      taken_from stands moved gone mirror_goes mount (subst (Among mount) (sym mirror_mounts) m)
      n e

  listed_still : (mount : Mount ℕ) → Among mount taken_ones → (n : ℕ) → mount.namespace ≡ Some n
      → is_listed nat_eq world n ≡ true
  listed_still mount m n e =
      let old = was mount m n e in
      placed_listed apart old.0 old.1 n old.3

  -- of such a namespace: it is theirs just if it was
  same_own : (mount : Mount ℕ) → Among mount taken_ones → (n : ℕ) → mount.namespace ≡ Some n → own_left n ≡ ours n
  same_own mount m n e = by (ours n) refl
    where
      theirs : (t : Task ℕ) → Among t tasks → t.namespace ≡ n → ours n ≡ true → (b : Bool)
          → is_member_task set t ≡ b → own_left n ≡ true
      theirs t k at own b is =
          grind (arith, common_steps, any_from_among, among-filter, eq-eqb, true≢false, namespace_outside, apart)

      by : (b : Bool) → ours n ≡ b → own_left n ≡ b
      by true own =
          let task = takes.tasked mount m n e in
          theirs task.0 task.1 task.2 own (is_member_task set task.0) refl
      by false other = false_from_ne_true (own_left n) (λ h. true≢false (sym (takes.own_less n h) ∙ other))

  mirror_own : (n : ℕ) → is_own_namespace nat_eq mirror_left others_names n
      ≡ list_any (λ (t : Task ℕ). nat_eq n t.namespace) (out apart)
  mirror_own n = cc (taken_tasks world (out apart) gone, own_out apart n)

  others_alike : other_mounts nat_eq left set ≡ own_mounts nat_eq mirror_left others_names
  others_alike = cc (
    left_mounts,
    filter_alike (λ (x : Mount ℕ). holds_of (λ n. not (is_own_namespace nat_eq left set n)) x.namespace)
        (is_own_mount nat_eq mirror_left others_names) taken_ones (λ mount m. by mount m mount.namespace refl),
    mirror_mounts,
  )
    where
      by : (mount : Mount ℕ) → Among mount taken_ones → (o : Option ℕ) → mount.namespace ≡ o
          → holds_of (λ n. not (is_own_namespace nat_eq left set n)) o
          ≡ holds_of (is_own_namespace nat_eq mirror_left others_names) o
      by mount m None e = refl
      by mount m (Some n) e = cc (
        own_left_is n,
        same_own mount m n e,
        out_if_not_ours apart n (listed_still mount m n e),
        mirror_own n,
      )

  owns_alike : own_mounts nat_eq left set ≡ other_mounts nat_eq mirror_left others_names
  owns_alike = cc (
    left_mounts,
    filter_alike (is_own_mount nat_eq left set) (λ (x : Mount ℕ). holds_of (λ n. not (is_own_namespace nat_eq
        mirror_left others_names n)) x.namespace) taken_ones (λ mount m. by mount m mount.namespace refl),
    mirror_mounts,
  )
    where
      by : (mount : Mount ℕ) → Among mount taken_ones → (o : Option ℕ) → mount.namespace ≡ o
          → holds_of (is_own_namespace nat_eq left set) o
          ≡ holds_of (λ n. not (is_own_namespace nat_eq mirror_left others_names n)) o
      by mount m None e = refl
      by mount m (Some n) e = cc (
        own_left_is n,
        same_own mount m n e,
        ours_if_not_out apart n (listed_still mount m n e),
        mirror_own n,
      )

  -- What is seen
  seen : KeepsWhatIsSeen world left
  seen = ended_seen world gone left left_mounts
      (filesystems-taken_away (record world { tasks = tasks }) gone ∙ sym (filesystems-taken_away world gone))

  number_there : (location : Location ℕ) → Among location (all_locations world) → is_mount world location.mount ≡ true
  number_there location m =
      let at = located_there apart location m in
      grind (arith, common_steps, is_among_numbers, eqb-true, among-map)

  shown_still : (location : Location ℕ) → Among location (all_locations world)
      → (mount_at nat_eq left location).filesystem ≡ (mount_at nat_eq world location).filesystem
  shown_still location m = (seen.views location.mount (number_there location m)).filesystem

  placed : (test : Task ℕ → Bool) (location : Location ℕ) → Among location (locations (filter test world.tasks))
      → Among location (all_locations world)
  placed test location m =
      let of = among-from_flat_map locations_of (filter test world.tasks) location m in
      among-flat_map locations_of world.tasks of.0 location (among-from_filter test world.tasks of.0 of.1).0 of.2

  -- a location of others is on none of their mounts
  not_on_own : (location : Location ℕ) → Among location (locations (outsiders world names))
      → holds_of own_left (mount_at nat_eq left location).namespace ≡ false
  not_on_own location m =
      by (mount_at nat_eq left location).namespace refl (mount_at nat_eq world location).namespace refl
    where
      view : (own : ℕ) → is_in own (mount_at nat_eq world location) ≡ true
          → is_in own (mount_at nat_eq left location) ≡ true
      view = (seen.views location.mount
          (number_there location (placed (λ (t : Task ℕ). not (is_member_task names t)) location m))).namespace

      outside : is_own_mount nat_eq world names (mount_at nat_eq world location) ≡ false
      outside = not-true _ (among_from_list_all (λ l. not (is_own_mount nat_eq world names (mount_at nat_eq world l)))
          _ apart.locations _ m)

      one_in : (n k : ℕ) → list_all (nat_eq k) (n ∷ []) ≡ true → k ≡ n
      one_in n k h = eqb-true k n (and_parts (nat_eq k n) true h).0

      by : (o : Option ℕ) → (mount_at nat_eq left location).namespace ≡ o → (p : Option ℕ)
          → (mount_at nat_eq world location).namespace ≡ p → holds_of own_left o ≡ false
      by None e p f = refl
      by (Some n) e None f = absurd (differ n (one_in n (other_than n)
          (sym (ap (λ o. list_all (nat_eq (other_than n)) (option_to_list o)) e)
          ∙ view (other_than n) (ap (λ o. list_all (nat_eq (other_than n)) (option_to_list o)) f))))
        where
          other_than : ℕ → ℕ
          other_than k = k + 1

          differ : (k : ℕ) → k + 1 ≡ k → ⊥
          differ k g = omega (arith, g)
      by (Some n) e (Some k) f =
          let same : k ≡ n = one_in n k (sym (ap (λ o. list_all (nat_eq k) (option_to_list o)) e)
          ∙ view k (ap (λ o. list_all (nat_eq k) (option_to_list o)) f ∙ ap (λ b. b && true) (eq-eqb k k refl))) in
          false_from_ne_true (own_left n) (λ h.
          true≢false (sym (ap ours same ∙ takes.own_less n h) ∙ sym (ap (holds_of ours) f) ∙ outside))

  abbrev shows : Location ℕ → ℕ
  shows location = (mount_at nat_eq world location).filesystem

  abbrev mounted : List ℕ
  mounted = map (λ (x : Mount ℕ). x.filesystem) (own_mounts nat_eq world names)

  abbrev located_at : List ℕ
  located_at = map shows (locations (members world names))

  one_left : OneNumberEach left
  one_left = subst OneNumberAMount (mirror_mounts ∙ sym left_mounts)
      (one_taken stands moved gone mirror_goes)

  -- a mount of theirs was one, and shows what it showed
  own_showed : (mount : Mount ℕ) → Among mount left.mounts → (o : Option ℕ) → mount.namespace ≡ o
      → holds_of own_left o ≡ true → Among mount.filesystem mounted
  own_showed mount m None e h = absurd (true≢false (sym h))
  own_showed mount m (Some n) e h =
      let old = was mount (subst (Among mount) left_mounts m) n e in
      let there : is_mount world old.0.number ≡ true = is_among_numbers _ _
      (among-map (λ (x : Mount ℕ). x.number) _ old.0 old.1) in
      subst (λ k. Among k mounted) (ap (λ (x : Mount ℕ). x.filesystem)
      (sym (found_itself _ sealing.is.mounts.one_number old.0 old.1)) ∙ sym (seen.views old.0.number there).filesystem
      ∙ ap (λ (x : Mount ℕ). x.filesystem) (ap (mount_numbered nat_eq left) old.2 ∙ found_itself _ one_left mount m))
      (among-map (λ (x : Mount ℕ). x.filesystem) _ old.0
      (among-filter _ _ old.0 old.1 (ap (holds_of ours) old.3 ∙ takes.own_less n h)))

  direct_was : (number : ℕ) → Among number (used_directly nat_eq left set)
      → Among number (used_directly nat_eq world names)
  direct_was number m = ⊎_elim (λ shown. let at = among-from_map (λ (x : Mount ℕ). x.filesystem) _ _ shown in
      let from = among-from_filter (is_own_mount nat_eq left set) _ at.0 at.1 in
      among-append_left _ _ _ (subst (λ k. Among k mounted) (sym at.2) (own_showed at.0 from.0 _ refl
      (sym (λ i. holds_of (λ n. own_left_is n i) at.0.namespace) ∙ from.1)))) (λ there. let at = among-from_map
      (λ (l : Location ℕ). (mount_at nat_eq left l).filesystem) (locations (members left set)) _ there in
      let its : Among at.0 (locations (filter (is_member_task set) tasks)) =
      subst (λ list. Among at.0 (locations (filter (is_member_task set) list))) (taken_tasks world tasks gone) at.1 in
      ⊎_elim (λ old. among-append_right _ _ _ (subst (λ k. Among k located_at)
      (sym (at.2 ∙ shown_still at.0 (placed _ at.0 old))) (among-map shows _ at.0 old))) (λ theirs. subst (λ k. Among k
      (used_directly nat_eq world names)) (sym (at.2 ∙ (seen.views at.0.mount (theirs_there at.0 theirs)).filesystem))
      (theirs_directly world names sealing.is at.0 theirs)) (takes.located at.0 its))
      (among-append (map (λ (x : Mount ℕ). x.filesystem) (own_mounts nat_eq left set))
      (map (λ (l : Location ℕ). (mount_at nat_eq left l).filesystem) (locations (members left set))) number m)
    where
      theirs_there : (l : Location ℕ) → IsTheirs world names sealing.is.mounts l.mount → is_mount world l.mount ≡ true
      theirs_there l theirs = grind (arith, common_steps, is_among_numbers, among-map)

  others_are : outsiders left set ≡ outsiders world names
  others_are = ap (filter (λ (t : Task ℕ). not (is_member_task set t))) (taken_tasks world tasks gone) ∙ takes.others

  holds_all : list_all (λ (t : Task ℕ). not (is_own_namespace nat_eq left set t.namespace)) (outsiders left set) ≡ true
  holds_all = (λ i. list_all (λ (t : Task ℕ). not (own_left_is t.namespace i)) (others_are i))
      ∙ list_all_from_among (λ (t : Task ℕ). not (own_left t.namespace)) _ (λ t m. ap not (false_from_ne_true _
      (λ h. true≢false (sym (takes.own_less t.namespace h) ∙ namespace_outside world names apart t m))))

  none_on_own : list_all (λ l. not (is_own_mount nat_eq left set (mount_at nat_eq left l)))
      (locations (outsiders left set)) ≡ true
  none_on_own = grind (arith, common_steps, own_left_is, others_are, list_all_from_among, not_on_own)

  no_events : ShareNone (share_events nat_eq left) (own_mounts nat_eq left set) (other_mounts nat_eq left set) ≡ true
  no_events = (λ i. ShareNone (share_events nat_eq (record world { master = sym same_master i })) (owns_alike i)
      (others_alike i)) ∙ none_turned mirror_left (own_mounts nat_eq mirror_left others_names)
      (other_mounts nat_eq mirror_left others_names) leaves.others.events

  pub taken_as_before : OthersAsBefore world left names set
  taken_as_before = record {
    others = others_are;
    mounts = others_alike ∙ own_mounts_same beside mirror_left others_names leaves.sees ∙ mirror_owns apart;
    shown = λ location m. shown_still location (placed (λ (t : Task ℕ). not (is_member_task names t)) location m);
    tasks = holds_all;
    events = no_events;
    places = none_on_own;
    filesystems = λ f m. inl (
      f,
      subst (Among f) (filesystems-taken_away (record world { tasks = tasks }) gone) m,
      refl,
      refl,
    );
    direct = λ number m. inl (direct_was number m);
  }
