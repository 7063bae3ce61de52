-- Namespaces that end with their last tasks, after an exit, an unshare or an entry.
use Rattle.std.proofs.Common.{arith, ◌≡◌, refl, sym, ap, subst, ◌∙◌, inl, ⊎_elim, ℕ, nat_eq, Bool, true, false, true≢false, List, [], ◌∷◌, ◌++◌, Some, eqb-true, filter, flat_map, map, not, ◌&&◌}
use Rattle.vt_spec.proofs.Common.{Among, Fresh, Mount, Namespace, NamespaceInvariants, Serves, Task, World, after_going, among-append, among-append_left, among-append_right, among-filter, among-from_filter, among-from_map, among-map, and_parts, any_among, common_steps, contains_from_among, copied_mount, evens, false_from_ne_true, has_tasks, inheriting, is_among_numbers, is_going, is_in_ended, list_any, mounts_of, namespace_entered, namespaces_ended, not-false, numbers_by, numbers_in_use, odds, pair-filter, same_Some, same_name, unshared, unshared_task, used_by_filesystem, used_by_mount, without_task}
use Rattle.vt_laws_mounts.specs.Mounts.Invariants.{OneNumberEach}
use Rattle.vt_laws_mounts.proofs.ends.EndingCounts.{ended_namespaces_keep_roots}
use Rattle.vt_laws_mounts.proofs.Groups.{mounts-regrouped}
use Rattle.vt_laws_mounts.proofs.mounts.MountsNumbered.{pair-append}
use Rattle.vt_laws_mounts.proofs.ends.Unmounting.{all_but_mounts, going_is_detached, middle, staying_is_placed}
use Rattle.vt_laws_mounts.proofs.namespaces.UnsharingNamespaces.{new_namespace_is_empty, unshare_keeps_counts, unshare_leaves_namespaces}
use Rattle.vt_laws_worlds.proofs.kept.NamespacesListed.{AreListed, AreNamespaces, HasOneRoot, IsListedIn, IsLive, has_tasks_in, number_of, tasks_in}
use Rattle.vt_laws_worlds.proofs.kept.NamespacesTasks.{replaced_listed}

abbrev HaveRoots : World ℕ → Type 0
HaveRoots world = (namespace : Namespace ℕ) → Among namespace world.namespaces → HasOneRoot world namespace

module _ (world : World ℕ) where
  abbrev in_ended : List (Mount ℕ)
  in_ended = filter (is_in_ended nat_eq world) world.mounts

  abbrev gone : List ℕ
  gone = map (λ (mount : Mount ℕ). mount.number) in_ended

  abbrev ended : World ℕ
  ended = namespaces_ended nat_eq world

  tasks_after : ended.tasks ≡ world.tasks
  tasks_after = (all_but_mounts world gone).tasks

  live_is_listed : (namespace : Namespace ℕ) → Among namespace world.namespaces → IsLive world namespace → (number : ℕ)
      → number ≡ namespace.number → IsListedIn ended.namespaces number
  live_is_listed namespace m live number same =
      let has = has_tasks_in world namespace live in
      (namespace, among-filter (has_tasks nat_eq world) world.namespaces namespace m has, same)

  -- a mount that is left in a namespace was in it, and stays
  abbrev IsLeftFrom : Mount ℕ → ℕ → Type 0
  IsLeftFrom mount number = (old : Mount ℕ) × Among old world.mounts × (old.namespace ≡ Some number)
      × (is_going nat_eq gone old.number ≡ false)

  left_from : (mount : Mount ℕ) → Among mount ended.mounts → (number : ℕ) → mount.namespace ≡ Some number
      → IsLeftFrom mount number
  left_from mount m number e =
      let detached_ones = middle world gone in let heir = among-from_map (inheriting nat_eq detached_ones)
      detached_ones.mounts mount (subst (Among mount) (mounts-regrouped detached_ones) m) in let old = among-from_map
      (after_going nat_eq world gone) world.mounts heir.0 heir.1 in grind (
        arith,
        common_steps,
        true≢false,
        going_is_detached,
        staying_is_placed,
      )

  -- the namespace of a mount that stays has tasks
  abbrev is_kept : ℕ → Namespace ℕ → Bool
  is_kept number namespace = nat_eq number namespace.number && has_tasks nat_eq world namespace

  stays_listed : (old : Mount ℕ) (number : ℕ) → Among old world.mounts → old.namespace ≡ Some number
      → is_going nat_eq gone old.number ≡ false → IsListedIn ended.namespaces number
  stays_listed old number m e stays =
      let outside : is_in_ended nat_eq world old ≡ false = false_from_ne_true _ (λ is.
      true≢false (cc (is_among_numbers gone old.number (among-map (λ (x : Mount ℕ). x.number) in_ended old
      (among-filter (is_in_ended nat_eq world) world.mounts old m is))))) in
      let kept : list_any (is_kept number) world.namespaces ≡ true =
      not-false (list_any (is_kept number) world.namespaces) (cc) in
      let one = any_among (is_kept number) world.namespaces kept in
      let parts = and_parts (nat_eq number one.0.number) (has_tasks nat_eq world one.0) one.2 in (
        one.0,
        among-filter _ _ one.0 one.1 parts.1,
        eqb-true number one.0.number parts.0,
      )

  -- where namespaces without tasks have ended, the others are those of a world
  pub ended_are_namespaces : OneNumberEach world → AreListed world → HaveRoots world → AreNamespaces ended
  ended_are_namespaces one listed roots = record {
    listed = record {
      apart = pair-filter (λ (a b : Namespace ℕ). nat_eq a.number b.number) (has_tasks nat_eq world) world.namespaces
          listed.apart;
      of_mounts = λ mount m number e.
          let from = left_from mount m number e in
          stays_listed from.0 number from.1 from.2 from.3;
      of_tasks = λ task m.
          let there = subst (Among task) tasks_after m in
          let at = listed.of_tasks task there in
          live_is_listed at.0 at.1 (task, there, sym at.2) task.namespace at.2;
    };
    roots = λ namespace m.
        let before = among-from_filter (has_tasks nat_eq world) world.namespaces namespace m in
        ended_namespaces_keep_roots world namespace one
        (contains_from_among world.namespaces namespace before.0) before.1 ∙ roots namespace before.0;
    live = λ namespace m.
        let before = among-from_filter (has_tasks nat_eq world) world.namespaces namespace m in
        let task = tasks_in world namespace before.1 in
        (task.0, subst (Among task.0) (sym tasks_after) task.1, task.2);
  }

-- an exit
pub exit_namespaces : (world : World ℕ) (task : Task ℕ) → OneNumberEach world → AreNamespaces world
    → AreNamespaces (namespaces_ended nat_eq (without_task world task.name))
exit_namespaces world task one are = ended_are_namespaces (without_task world task.name) one (record {
  apart = are.listed.apart;
  of_mounts = are.listed.of_mounts;
  of_tasks = λ other m. are.listed.of_tasks other
      (among-from_filter (λ (x : Task ℕ). not (same_name task.name x.name)) world.tasks other m).0;
}) are.roots

-- an entry
pub entry_namespaces : (world : World ℕ) (task : Task ℕ) (namespace : ℕ) → OneNumberEach world → AreNamespaces world
    → IsListedIn world.namespaces namespace
    → AreNamespaces (namespaces_ended nat_eq (namespace_entered nat_eq world task namespace))
entry_namespaces world task namespace one are at = ended_are_namespaces _ one (record {
  apart = are.listed.apart;
  of_mounts = are.listed.of_mounts;
  of_tasks = replaced_listed _ _ _ at are.listed.of_tasks;
}) are.roots

-- an unshare
module _ (world : World ℕ) (fresh : Fresh ℕ) (task : Task ℕ) (serves : Serves nat_eq world fresh)
    (is : NamespaceInvariants nat_eq world) (are : AreNamespaces world) (there : Among task world.tasks) where
  abbrev copied : List (Mount ℕ)
  copied = mounts_of nat_eq world task.namespace

  abbrev new : Namespace ℕ
  new = record { number = evens fresh 0; change = 0 }

  abbrev after : World ℕ
  after = unshared nat_eq world fresh task

  another : (namespace : Namespace ℕ) → Among namespace world.namespaces
      → nat_eq namespace.number (evens fresh 0) ≡ false
  another namespace m = false_from_ne_true _ (λ same. true≢false (sym (is_among_numbers (numbers_in_use world)
      (evens fresh 0) (subst (λ n. Among n (numbers_in_use world)) (eqb-true namespace.number (evens fresh 0) same)
      (among-append_right (flat_map used_by_mount world.mounts ++ flat_map used_by_filesystem world.filesystems)
      (map number_of world.namespaces) namespace.number (among-map _ _ _ m)))) ∙ serves.unused 0))

  new_is_listed : IsListedIn after.namespaces (evens fresh 0)
  new_is_listed = (new, among-append_right world.namespaces (new ∷ []) new (inl refl), refl)

  still_listed : (number : ℕ) → IsListedIn world.namespaces number → IsListedIn after.namespaces number
  still_listed number at = (at.0, among-append_left _ _ at.0 at.1, at.2)

  unshared_listed : AreListed after
  unshared_listed = record {
    apart = pair-append (λ (a b : Namespace ℕ). nat_eq a.number b.number) world.namespaces (new ∷ [])
        are.listed.apart refl (λ a b m n.
        ⊎_elim (λ e. ap (λ (x : Namespace ℕ). nat_eq a.number x.number) e ∙ another a m) (λ none. absurd none) n);
    of_mounts = λ mount m number e. ⊎_elim (λ old. still_listed number (are.listed.of_mounts mount old number e))
        (λ copy.
        let from = among-from_map copies copied mount copy in
        subst (IsListedIn after.namespaces)
        (same_Some (evens fresh 0) number (sym (ap (λ (x : Mount ℕ). x.namespace) from.2) ∙ e)) new_is_listed)
        (among-append world.mounts (map copies copied) mount m);
    of_tasks = replaced_listed after.namespaces (unshared_task nat_eq copied (numbers_by nat_eq (odds fresh) copied)
        (evens fresh 0) task) world.tasks new_is_listed
        (λ other m. still_listed other.namespace (are.listed.of_tasks other m));
  }
    where
      copies : Mount ℕ → Mount ℕ
      copies mount = copied_mount (numbers_by nat_eq (odds fresh) copied) (evens fresh 0) mount

  unshared_roots : HaveRoots after
  unshared_roots namespace m = ⊎_elim (λ old. cc (
    unshare_leaves_namespaces world fresh task namespace.number (another namespace old),
    are.roots namespace old,
  )) (λ last. ⊎_elim (λ e.
      let own = are.listed.of_tasks task there in
      cc (
        (unshare_keeps_counts world fresh task (new_namespace_is_empty world fresh serves is.mounts_listed)).roots,
        are.roots own.0 own.1,
      )) (λ none. absurd none) last) (among-append world.namespaces (new ∷ []) namespace m)

  pub unshare_namespaces : OneNumberEach (unshared nat_eq world fresh task)
      → AreNamespaces (namespaces_ended nat_eq (unshared nat_eq world fresh task))
  unshare_namespaces one = ended_are_namespaces after one unshared_listed unshared_roots
