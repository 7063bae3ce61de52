-- A world in which mounts of others, others themselves and their namespaces are changed, and what the set sees is not.
use Rattle.std.proofs.Common.{arith, ◌≡◌, refl, ap, subst, ◌∙◌, ◌⊎◌, ⊎_elim, ℕ, nat_eq, Bool, true, false, List, [], ◌∷◌, Option, None, filter, map, not}
use Rattle.vt_spec.proofs.Common.{Among, Location, Mount, Namespace, Task, TaskName, World, among-filter, among-from_filter, among-from_map, among_from_list_all, and_from, and_parts, common_steps, holds_of, is_member_of, is_member_task, is_own_namespace, list_all, list_all_from_among, list_any, locations, members, mount_at, mount_in, mount_numbered, no_outsider_on, none_among, none_from_among, not-true, other_mounts, outsiders, own_mounts, shares_no_events}
use Rattle.vt_laws_sealed.specs.Part.Parts.{SeesTheSame}
use Rattle.vt_laws_sealed.proofs.part.Kept.{filter_map_map, filter_map_same}
use Rattle.vt_laws_sealed.proofs.part.part.PartOfPart.{keep}
use Rattle.vt_laws_sealed.proofs.outsiders.OwnTasks.{IsOutside}
use Rattle.vt_laws_sealed.proofs.outsiders.StandingApart.{StandsApart}
use Rattle.vt_laws_sealed.proofs.outsiders.Staying.{LeavesApart, free_from}

-- a change of mounts that keeps numbers and filesystems, and leaves each in its namespace or in none
pub record KeepsOrDetaches (change : Mount ℕ → Mount ℕ) : Type 0 where
  pub number : (mount : Mount ℕ) → (change mount).number ≡ mount.number
  pub filesystem : (mount : Mount ℕ) → (change mount).filesystem ≡ mount.filesystem
  pub namespace : (mount : Mount ℕ) → ((change mount).namespace ≡ mount.namespace) ⊎ ((change mount).namespace ≡ None)

-- other tasks and namespaces, with members and their namespaces as they were
pub record OthersMove (world : World ℕ) (names : List TaskName) (tasks : List (Task ℕ))
    (namespaces : List (Namespace ℕ)) : Type 0 where
  pub members : filter (is_member_task names) tasks ≡ members world names
  pub outside : (task : Task ℕ) → Among task (filter (λ t. not (is_member_task names t)) tasks)
      → is_own_namespace nat_eq world names task.namespace ≡ false
  pub located : (location : Location ℕ) → Among location (locations (filter (λ t. not (is_member_task names t)) tasks))
      → IsOutside world names location
  pub listed : filter (λ (n : Namespace ℕ). is_own_namespace nat_eq world names n.number) namespaces
      ≡ filter (λ (n : Namespace ℕ). is_own_namespace nat_eq world names n.number) world.namespaces

module _ {world : World ℕ} {names : List TaskName} {New : ℕ → Type 0} (apart : StandsApart world names New)
    {change : Mount ℕ → Mount ℕ} (keeps : KeepsOrDetaches change)
    (kept_same : (mount : Mount ℕ) → Among mount world.mounts
    → keep world names (members world names) (change mount) ≡ keep world names (members world names) mount)
    (master : ℕ → Option ℕ) {tasks : List (Task ℕ)} {namespaces : List (Namespace ℕ)}
    (moved : OthersMove world names tasks namespaces) where
  abbrev pub left : World ℕ
  left = record world { mounts = map change world.mounts; master = master; namespaces = namespaces; tasks = tasks }

  abbrev own_by : List (Task ℕ) → ℕ → Bool
  own_by some namespace = list_any (λ (task : Task ℕ). nat_eq namespace task.namespace) some

  abbrev theirs : ℕ → Bool
  theirs = own_by (members world names)

  abbrev others_by : List (Task ℕ) → List (Mount ℕ)
  others_by some = filter (λ (mount : Mount ℕ). holds_of (λ namespace. not (own_by some namespace)) mount.namespace)
      (map change world.mounts)

  -- a mount of others was one, and shows what it showed
  pub others_from : (other : Mount ℕ) → Among other (other_mounts nat_eq left names)
      → (old : Mount ℕ) × Among old (other_mounts nat_eq world names) × (other ≡ change old)
  others_from other m =
      let out = among-from_filter (λ (x : Mount ℕ). holds_of (λ n. not (theirs n)) x.namespace)
      (map change world.mounts) other (subst (λ some. Among other (others_by some)) moved.members m) in
      let from = among-from_map change world.mounts other out.0 in (
        from.0,
        among-filter _ world.mounts from.0 from.1 (was from.0 (cc (from.2, out.1))),
        from.2,
      )
    where
      was : (mount : Mount ℕ) → holds_of (λ n. not (theirs n)) (change mount).namespace ≡ true
          → holds_of (λ n. not (theirs n)) mount.namespace ≡ true
      was mount h = ⊎_elim (λ same. cc)
          (λ none. absurd cc) (keeps.namespace mount)

  -- what is found at a number
  found_in : {B : Type 0} (value : Mount ℕ → B) → ((mount : Mount ℕ) → value (change mount) ≡ value mount)
      → (number : ℕ)
      → (list : List (Mount ℕ)) → value (mount_in nat_eq (map change list) number) ≡ value (mount_in nat_eq list number)
  found_in value same number [] = refl
  found_in {B} value same number (mount ∷ rest) = grind (arith, common_steps, found_in value same number rest)

  abbrev is_out : Mount ℕ → Bool
  is_out mount = not (holds_of theirs mount.namespace)

  still_out : (mount : Mount ℕ) → is_out mount ≡ true → is_out (change mount) ≡ true
  still_out mount h =
      ⊎_elim (λ same. cc) (λ none. ap (λ o. not (holds_of theirs o)) none)
      (keeps.namespace mount)

  found_out : (number : ℕ) → (list : List (Mount ℕ)) → is_out (mount_in nat_eq list number) ≡ true
      → is_out (mount_in nat_eq (map change list) number) ≡ true
  found_out number [] h = h
  found_out number (mount ∷ rest) h = grind (arith, common_steps, still_out, found_out number rest)

  shown_at : (location : Location ℕ)
      → (mount_at nat_eq left location).filesystem ≡ (mount_at nat_eq world location).filesystem
  shown_at location = found_in (λ (mount : Mount ℕ). mount.filesystem) keeps.filesystem location.mount world.mounts

  other_out : (mount : Mount ℕ) → Among mount (other_mounts nat_eq world names) → is_out mount ≡ true
  other_out mount m = grind (arith, common_steps, among-from_filter)

  abbrev those_outside : List (Task ℕ)
  those_outside = filter (λ (t : Task ℕ). not (is_member_task names t)) tasks

  fewer : (number : ℕ) → no_outsider_on nat_eq world names number ≡ true
      → no_outsider_on nat_eq left names number ≡ true
  fewer number alone =
      let parts = and_parts (not (list_any (λ (mount : Mount ℕ). nat_eq number mount.filesystem)
      (other_mounts nat_eq world names)))
      (not (list_any (λ location. nat_eq number (mount_at nat_eq world location).filesystem)
      (locations (outsiders world names)))) alone in
      let none_shows = none_among (λ (mount : Mount ℕ). nat_eq number mount.filesystem)
      (other_mounts nat_eq world names) (not-true _ parts.0) in
      and_from (not (list_any (λ (mount : Mount ℕ). nat_eq number mount.filesystem) (other_mounts nat_eq left names)))
      (not (list_any (λ location. nat_eq number (mount_at nat_eq left location).filesystem) (locations those_outside)))
      (ap not (none_from_among (λ (mount : Mount ℕ). nat_eq number mount.filesystem) (other_mounts nat_eq left names)
      (λ other m. let from = others_from other m in
      cc (from.2, keeps.filesystem from.0, none_shows from.0 from.1))))
      (ap not (none_from_among (λ location. nat_eq number (mount_at nat_eq left location).filesystem)
      (locations those_outside) (λ location m. ap (nat_eq number) (shown_at location) ∙ ⊎_elim
      (λ old. ap (λ n. nat_eq number (mount_numbered nat_eq world n).filesystem) old.2
      ∙ none_among (λ place. nat_eq number (mount_at nat_eq world place).filesystem)
      (locations (outsiders world names)) (not-true _ parts.1) old.0 old.1)
      (none_shows (mount_at nat_eq world location)) (moved.located location m))))

  pub sees : ((group : ℕ) → list_any (is_member_of nat_eq group) (own_mounts nat_eq world names) ≡ true
      → master group ≡ world.master group) → SeesTheSame world left names
  sees own_masters = grind (arith, common_steps, keep, filter_map_map, filter_map_same)

  pub changing_leaves_apart : ((group : ℕ) → list_any (is_member_of nat_eq group) (own_mounts nat_eq world names) ≡ true
      → master group ≡ world.master group) → shares_no_events nat_eq left names ≡ true → LeavesApart world left names []
  changing_leaves_apart own_masters events = record {
    sees = sees own_masters;
    others = record {
      tasks = ap (λ some. list_all (λ (task : Task ℕ). not (own_by some task.namespace)) those_outside) moved.members
          ∙ list_all_from_among (λ (task : Task ℕ). not (theirs task.namespace)) those_outside
          (λ task m. ap not (moved.outside task m));
      events = events;
      locations =
          ap (λ some. list_all (λ location. not (holds_of (own_by some) (mount_at nat_eq left location).namespace))
          (locations those_outside)) moved.members
          ∙ list_all_from_among (λ location. is_out (mount_at nat_eq left location)) (locations those_outside)
          (λ location m. found_out location.mount world.mounts (⊎_elim
          (λ old. ap (λ n. is_out (mount_numbered nat_eq world n)) old.2
          ∙ among_from_list_all (λ place. is_out (mount_at nat_eq world place)) (locations (outsiders world names))
          apart.locations old.0 old.1) (other_out (mount_at nat_eq world location)) (moved.located location m)));
      free = free_from world left names refl (λ number of free. fewer number free);
    };
    unraised = λ number m. refl;
  }

-- the world's own tasks and namespaces
pub others_rest : (world : World ℕ) (names : List TaskName) {New : ℕ → Type 0} → StandsApart world names New
    → OthersMove world names world.tasks world.namespaces
others_rest world names apart = grind (arith, common_steps, not-true, among_from_list_all)
