-- Mounts of others, and the groups that they hear.
use Rattle.std.proofs.Common.{arith, ◌≡◌, refl, sym, ap, subst, ◌∙◌, ◌⊎◌, inl, inr, ⊎_elim, ℕ, zero, suc, nat_eq, true, false, true≢false, List, [], ◌∷◌, Option, Some, None, map, not, eq-eqb, eqb-true, option_to_list}
use Rattle.vt_spec.proofs.Common.{Among, Fresh, HasLivingGroups, Location, Mount, Propagation, Serves, Stands, Task, TaskName, World, all_locations, among-filter, among-flat_map, among-from_filter, among-from_flat_map, among-from_map, among_from_all, among_from_list_all, and_parts, any_among, any_from_among, children, common_steps, false_from_ne_true, group_of, holds_of, is_among, is_among_left, is_among_numbers, is_at, is_directory_seen_in, is_member_of, is_member_task, is_own_mount, is_own_namespace, is_there, list_all, list_all_from_among, master_of, members, mount_at, mount_numbered, none_is_some, not-true, numbers_in_use, or_cases, other_mounts, outsiders, own_mounts, receives_events_of, roots_and_directories, share_events, shares_no_events, source_of, stands_on, stands_on_directories, tree_from, used_by_mount}
use Rattle.vt_laws_sealed.proofs.Common.{IsNewBy, all_in_use, found_itself, namespace_below}
use Rattle.vt_laws_sealed.proofs.part.groups.EventsApart.{above_lives, member_group, members_of, none_hears, sides}
use Rattle.vt_laws_sealed.proofs.part.groups.ReceiversAlike.{Living, OtherLives, none_other, other_above, own_member}
use Rattle.vt_laws_sealed.proofs.part.part.PartOfPart.{is_own}
use Rattle.vt_laws_sealed.specs.Part.Seals.{IsApart}
use Rattle.vt_laws_sealed.proofs.outsiders.StandingApart.{NothingNew, StandsApart}

-- A mount of a namespace of others is not theirs,
module _ (world : World ℕ) (names : List TaskName) {namespace : ℕ}
    (outside : is_own_namespace nat_eq world names namespace ≡ false) (mount : Mount ℕ)
    (there : Among mount world.mounts) (placed : mount.namespace ≡ Some namespace) where
  pub not_own : is_own world names (members world names) mount ≡ false
  not_own = cc

  pub is_other : Among mount (other_mounts nat_eq world names)
  is_other = among-filter _ world.mounts mount there (cc)

-- and no root or working directory of theirs is on it.
module _ {world : World ℕ} {names : List TaskName} (apart : IsApart world names) {namespace : ℕ}
    (outside : is_own_namespace nat_eq world names namespace ≡ false) (mount : Mount ℕ)
    (there : Among mount world.mounts) (placed : mount.namespace ≡ Some namespace) where
  pub not_stood_on : is_at nat_eq (roots_and_directories (members world names)) mount ≡ false
  not_stood_on = false_from_ne_true (is_at nat_eq (roots_and_directories (members world names)) mount) (λ h.
      let at = any_among (λ (l : Location ℕ). nat_eq l.mount mount.number)
      (roots_and_directories (members world names)) h in
      let of = among-from_flat_map (λ (t : Task ℕ). t.root ∷ t.directory ∷ []) (members world names) at.0 at.1 in
      let both = and_parts (is_directory_seen_in nat_eq world of.0.namespace of.0.root)
      (is_directory_seen_in nat_eq world of.0.namespace of.0.directory)
      (among_from_list_all (stands_on_directories nat_eq world) world.tasks apart.is.tasks.directories of.0
      (among-from_filter (is_member_task names) world.tasks of.0 of.1).0) in
      ⊎_elim (λ root. seen of.0 of.1 at.0 at.2 (subst (λ l. is_directory_seen_in nat_eq world of.0.namespace l ≡ true)
      (sym root) both.0)) (λ rest. ⊎_elim (λ directory. seen of.0 of.1 at.0 at.2
      (subst (λ l. is_directory_seen_in nat_eq world of.0.namespace l ≡ true) (sym directory) both.1))
      (λ none. absurd none) rest) of.2)
    where
      seen : (member : Task ℕ) → Among member (members world names) → (location : Location ℕ)
          → nat_eq location.mount mount.number ≡ true
          → is_directory_seen_in nat_eq world member.namespace location ≡ true → ⊥
      seen member m location e directory =
          let it : mount_at nat_eq world location ≡ mount = ap (mount_numbered nat_eq world)
          (eqb-true location.mount mount.number e) ∙ found_itself _ apart.is.mounts.one_number mount there in
          grind (arith, common_steps, and_parts, true≢false, any_from_among, eq-eqb, eqb-true)

-- a mount of a namespace
abbrev pub IsIn : World ℕ → ℕ → Mount ℕ → Type 0
IsIn world namespace mount = Among mount world.mounts × (mount.namespace ≡ Some namespace)

-- a child is in the namespace of its parent
pub child_in : {world : World ℕ} {names : List TaskName} (apart : IsApart world names) (namespace : ℕ)
    (parent : Mount ℕ) → IsIn world namespace parent → (child : Mount ℕ)
    → Among child (children nat_eq world.mounts parent.number) → IsIn world namespace child
child_in {world} {names} apart namespace parent is child m =
    let at = among-from_filter (stands_on nat_eq parent.number) world.mounts child m in
    (at.0, by child.mount_point refl at.1 at.0)
  where
    itself : (mount : Mount ℕ) → Among mount world.mounts → mount_numbered nat_eq world mount.number ≡ mount
    itself mount there = found_itself world.mounts apart.is.mounts.one_number mount there

    by : (o : Option (Location ℕ)) → child.mount_point ≡ o
        → holds_of (λ (point : Location ℕ). nat_eq parent.number point.mount) o ≡ true → Among child world.mounts
        → child.namespace ≡ Some namespace
    by None e h there = cc
    by (Some point) e h there = sym (ap (λ (x : Mount ℕ). x.namespace) (itself child there))
        ∙ namespace_below world child.number point
        (among_from_all (λ (x : Mount ℕ). Stands nat_eq world x.number) world.mounts apart.is.mounts.standing child
        there) (ap (λ (x : Mount ℕ). x.mount_point) (itself child there) ∙ e)
        ∙ ap (λ n. (mount_numbered nat_eq world n).namespace) (sym (eqb-true parent.number point.mount h))
        ∙ ap (λ (x : Mount ℕ). x.namespace) (itself parent is.0) ∙ is.1

-- so is what stands on it
pub tree_in : {world : World ℕ} {names : List TaskName} (apart : IsApart world names) (namespace depth : ℕ)
    (mount : Mount ℕ) → IsIn world namespace mount → (x : Mount ℕ) → Among x (tree_from nat_eq depth world.mounts mount)
    → IsIn world namespace x
tree_in {world} {names} apart namespace zero mount is x m =
    ⊎_elim (λ e. subst (IsIn world namespace) (sym e) is) (λ none. absurd none) m
tree_in {world} {names} apart namespace (suc depth) mount is x m = ⊎_elim (λ e. subst (IsIn world namespace) (sym e) is)
    (λ later.
    let from = among-from_flat_map (tree_from nat_eq depth world.mounts) _ x later in
    tree_in apart namespace depth from.0 (child_in apart namespace mount is from.0 from.1) x from.2) m

-- the mount of a location that a task uses is there
pub located_there : {world : World ℕ} {names : List TaskName} (apart : IsApart world names) (location : Location ℕ)
    → Among location (all_locations world)
    → (mount : Mount ℕ) × Among mount world.mounts × (nat_eq location.mount mount.number ≡ true)
located_there {world} {names} apart location m =
    let well = and_parts (is_among nat_eq location.mount (map (λ (x : Mount ℕ). x.number) world.mounts))
    (is_there nat_eq world (mount_at nat_eq world location).filesystem location.node)
    (among_from_list_all _ (all_locations world) apart.is.tasks.locations_live location m) in
    let number = any_among (nat_eq location.mount) (map (λ (x : Mount ℕ). x.number) world.mounts) well.0 in
    let from = among-from_map (λ (x : Mount ℕ). x.number) world.mounts number.0 number.1 in
    (from.0, from.1, cc (from.2, number.2))

-- the namespace of one of the others is not theirs
pub namespace_outside : (world : World ℕ) (names : List TaskName) → IsApart world names → (task : Task ℕ)
    → Among task (outsiders world names) → is_own_namespace nat_eq world names task.namespace ≡ false
namespace_outside world names apart task outside = not-true (is_own_namespace nat_eq world names task.namespace)
    (among_from_list_all _ (outsiders world names) apart.tasks task outside)

-- Numbers that are handed in are of no mount and of no group.
module _ (world : World ℕ) (fresh : Fresh ℕ) (serves : Serves nat_eq world fresh) where
  pub mount_in_use : (mount : Mount ℕ) (number : ℕ) → Among mount world.mounts → Among number (used_by_mount mount)
      → is_among nat_eq number (numbers_in_use world) ≡ true
  mount_in_use mount number there uses = search (arith, common_steps, is_among_left, is_among_numbers, among-flat_map)

  pub number_not_new : (mount : Mount ℕ) (k : ℕ) → Among mount world.mounts → mount.number ≡ fresh k → ⊥
  number_not_new mount k there e = cc (mount_in_use mount mount.number there (inl refl), serves.unused k)

  pub member_not_new : (mount : Mount ℕ) (group k : ℕ) → Among mount world.mounts
      → group_of mount.propagation ≡ Some group → group ≡ fresh k → ⊥
  member_not_new mount group k there e f = true≢false (sym (mount_in_use mount group there
      (inr (subst (λ o. Among group (option_to_list o)) (sym (source mount.propagation e)) (inl refl))))
      ∙ ap (λ n. is_among nat_eq n (numbers_in_use world)) f ∙ serves.unused k)
    where
      source : (kind : Propagation ℕ) → group_of kind ≡ Some group → source_of kind ≡ Some group
      source kind h = grind (arith, common_steps, none_is_some)

-- So it is in a world before a call of others.
pub standing_apart_of : (world : World ℕ) (names : List TaskName) → IsApart world names → (New : ℕ → Type 0)
    → ((mount : Mount ℕ) (group : ℕ) → Among mount world.mounts
    → group_of mount.propagation ≡ Some group → New group → ⊥) → StandsApart world names New
standing_apart_of world names apart New no_group = search (
  arith,
  common_steps,
  not_stood_on,
  any_among,
  eqb-true,
  among_from_list_all,
  among-from_filter,
  all_in_use,
  false_from_ne_true,
  member_group,
)

pub standing_apart : (world : World ℕ) (names : List TaskName) → IsApart world names
    → StandsApart world names NothingNew
standing_apart world names apart = standing_apart_of world names apart NothingNew (λ mount group m is_in new. new)

pub standing_apart_with : (world : World ℕ) (names : List TaskName) → IsApart world names → (fresh : Fresh ℕ)
    → Serves nat_eq world fresh → StandsApart world names (IsNewBy fresh)
standing_apart_with world names apart fresh serves = standing_apart_of world names apart _
    (λ mount group m is_in new. member_not_new world fresh serves mount group new.0 m is_in new.1)

-- Groups of others: a mount of others hears it, or its number is new.
module _ {world : World ℕ} {names : List TaskName} {New : ℕ → Type 0} (apart : StandsApart world names New) where
  abbrev pub HearsGroup : World ℕ → Propagation ℕ → ℕ → Type 0
  HearsGroup in_world kind group = (group_of kind ≡ Some group) ⊎ (master_of in_world kind ≡ Some group)

  abbrev pub Foreign : ℕ → Type 0
  Foreign group = OtherLives world names apart.mounts apart.events group ⊎ New group

  -- a group that a mount hears lives
  hears_living : (mount : Mount ℕ) → Among mount world.mounts → (group : ℕ) → HearsGroup world mount.propagation group
      → Living world names apart.mounts apart.events group
  hears_living mount there group how = by mount.propagation refl how
    where
      of_source : (source : ℕ) → source_of mount.propagation ≡ Some source
          → Living world names apart.mounts apart.events source
      of_source source e =
          among_from_all (HasLivingGroups nat_eq world) world.mounts apart.mounts.groups mount there source e

      by : (kind : Propagation ℕ) → mount.propagation ≡ kind → HearsGroup world kind group
          → Living world names apart.mounts apart.events group
      by kind k h = grind (arith, common_steps, of_source, above_lives, none_is_some)

  pub other_hears_foreign : (other : Mount ℕ) → Among other (other_mounts nat_eq world names) → (group : ℕ)
      → HearsGroup world other.propagation group → Foreign group
  other_hears_foreign other m group how = grind (arith, common_steps, hears_living, among-from_filter)

  -- the master of a group of others is one
  pub foreign_above : (group above : ℕ) → Foreign group → world.master group ≡ Some above → Foreign above
  foreign_above group above foreign e =
      ⊎_elim (λ other. inl (other_above world names apart.mounts apart.events above group e other))
      (λ new. none_is_some above (sym (apart.new_master group new) ∙ e)) foreign

  -- no mount of theirs hears a group of others, or is a member of one
  pub not_heard : (own : Mount ℕ) → Among own (own_mounts nat_eq world names) → (group : ℕ) → Foreign group
      → HearsGroup world own.propagation group → ⊥
  not_heard own m group foreign how =
      let there = (among-from_filter (is_own_mount nat_eq world names) world.mounts own m).0 in
      let lives = hears_living own there group how in
      let found = any_among (is_member_of nat_eq group) world.mounts
      (members_of world names apart.mounts apart.events group lives) in
      let is_in = member_group group found.0 found.2 in
      ⊎_elim (λ other. ⊎_elim
      (λ theirs. none_other world names apart.mounts apart.events group found.0 other.0 theirs found.2)
      (λ outside. none_hears world names apart.mounts apart.events group found.0 (own, m, how) outside found.2)
      (sides world names apart.mounts apart.events found.0 group found.1 is_in))
      (λ new. apart.new_group found.0 group found.1 is_in new) foreign

  -- a group that a mount of theirs hears has a member of theirs
  pub member_of_heard : (own : Mount ℕ) → Among own (own_mounts nat_eq world names) → (group : ℕ)
      → HearsGroup world own.propagation group
      → (member : Mount ℕ) × Among member (own_mounts nat_eq world names) × (is_member_of nat_eq group member ≡ true)
  member_of_heard own m group how = own_member world names apart.mounts apart.events group (own, m, how)
      (hears_living own (among-from_filter (is_own_mount nat_eq world names) world.mounts own m).0 group how)

  -- so mounts share no events where others hear groups of others alone
  pub events_stay_apart : (left : World ℕ) → own_mounts nat_eq left names ≡ own_mounts nat_eq world names
      → ((own : Mount ℕ) → Among own (own_mounts nat_eq world names)
      → master_of left own.propagation ≡ master_of world own.propagation)
      → ((other : Mount ℕ) → Among other (other_mounts nat_eq left names) → (group : ℕ)
      → HearsGroup left other.propagation group → Foreign group) → shares_no_events nat_eq left names ≡ true
  events_stay_apart left same masters others = ap (list_all (λ own. list_all
      (λ other. not (share_events nat_eq left own other)) (other_mounts nat_eq left names))) same ∙ list_all_from_among
      (λ own. list_all (λ other. not (share_events nat_eq left own other)) (other_mounts nat_eq left names))
      (own_mounts nat_eq world names) (λ own m. list_all_from_among (λ other. not (share_events nat_eq left own other))
      (other_mounts nat_eq left names) (λ other n. ap not (false_from_ne_true _
      (λ h. ⊎_elim (own_receives own m other n) (other_receives own m other n)
      (or_cases (receives_events_of nat_eq left own other) (receives_events_of nat_eq left other own) h)))))
    where
      -- the group of which a mount is a member
      in_group : (o : Option ℕ) (mount : Mount ℕ) → holds_of (λ group. is_member_of nat_eq group mount) o ≡ true
          → (group : ℕ) × (o ≡ Some group) × (group_of mount.propagation ≡ Some group)
      in_group None mount h = cc
      in_group (Some group) mount h = (group, refl, member_group group mount h)

      own_receives : (own : Mount ℕ) → Among own (own_mounts nat_eq world names) → (other : Mount ℕ)
          → Among other (other_mounts nat_eq left names) → receives_events_of nat_eq left own other ≡ true → ⊥
      own_receives own m other n h = ⊎_elim (λ e. let found = in_group (group_of own.propagation) other e in
          not_heard own m found.0 (others other n found.0 (inl found.2)) (inl found.1))
          (λ e. let found = in_group (master_of left own.propagation) other e in
          not_heard own m found.0 (others other n found.0 (inl found.2)) (inr (sym (masters own m) ∙ found.1)))
          (or_cases (holds_of (λ group. is_member_of nat_eq group other) (group_of own.propagation))
          (holds_of (λ group. is_member_of nat_eq group other) (master_of left own.propagation)) h)

      other_receives : (own : Mount ℕ) → Among own (own_mounts nat_eq world names) → (other : Mount ℕ)
          → Among other (other_mounts nat_eq left names) → receives_events_of nat_eq left other own ≡ true → ⊥
      other_receives own m other n h = ⊎_elim (λ e. let found = in_group (group_of other.propagation) own e in
          not_heard own m found.0 (others other n found.0 (inl found.1)) (inl found.2))
          (λ e. let found = in_group (master_of left other.propagation) own e in
          not_heard own m found.0 (others other n found.0 (inr found.1)) (inl found.2))
          (or_cases (holds_of (λ group. is_member_of nat_eq group own) (group_of other.propagation))
          (holds_of (λ group. is_member_of nat_eq group own) (master_of left other.propagation)) h)
