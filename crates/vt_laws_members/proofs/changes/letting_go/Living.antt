-- Where dead mounts have gone: what lives, and whose it is.
use Rattle.std.proofs.Common.{arith, ◌≡◌, sym, ap, ◌∙◌, inl, inr, ℕ, nat_eq, true, false, true≢false, List, Some, None, filter, is_some, eq-eqb, not}
use Rattle.vt_spec.proofs.Common.{Among, Filesystem, Location, Mount, MountInvariants, Task, TaskName, World, all_locations, among-filter, among-flat_map, among-from_filter, among-from_flat_map, among_from_list_all, and_parts, any_from_among, cases_Bool, common_steps, has_layer_on, is_located, is_member_task, list_any, locations, locations_of, mount_at, mount_lives, no_outsider_on, none_among, not-true, or_cases, or_left, or_right, other_mounts, outsiders, used_alone, without_dead_mounts}
use Rattle.vt_laws_members.proofs.changes.letting_go.Changed.{mount_parent}
use Rattle.vt_laws_members.proofs.changes.letting_go.Ready.{layered_overlay}

-- where others have no foothold
pub nobody_on : (world : World ℕ) (names : List TaskName) (number : ℕ) → no_outsider_on nat_eq world names number ≡ true
    → (list_any (λ (m : Mount ℕ). nat_eq number m.filesystem) (other_mounts nat_eq world names) ≡ false)
    × (list_any (λ l. nat_eq number (mount_at nat_eq world l).filesystem) (locations (outsiders world names)) ≡ false)
nobody_on world names number none =
    let both = and_parts
    (not (list_any (λ (m : Mount ℕ). nat_eq number m.filesystem) (other_mounts nat_eq world names)))
    (not (list_any (λ l. nat_eq number (mount_at nat_eq world l).filesystem) (locations (outsiders world names))))
    none in
    (not-true _ both.0, not-true _ both.1)

-- a mount of no namespace has no mount point
pub nowhere_pointed : (b : World ℕ) → MountInvariants nat_eq b → (m : Mount ℕ) → Among m b.mounts
    → m.namespace ≡ None → m.mount_point ≡ None
nowhere_pointed b kept m n none = grind (arith, common_steps, and_parts, among_from_list_all, true≢false)

-- a parent lives
pub parent_lives : (b : World ℕ) → MountInvariants nat_eq b → (y : Mount ℕ) (l : Location ℕ)
    → Among y (without_dead_mounts nat_eq b).mounts → y.mount_point ≡ Some l
    → (n : ℕ) × (y.namespace ≡ Some n) × (k : Mount ℕ) × Among k (without_dead_mounts nat_eq b).mounts
    × (l.mount ≡ k.number) × (k.namespace ≡ Some n)
parent_lives b kept y l n point =
    let up = mount_parent b kept y l (among-from_filter (mount_lives nat_eq b) b.mounts y n).0 point in (
      up.0,
      up.1,
      up.2,
      among-filter (mount_lives nat_eq b) b.mounts up.2 up.3
          (or_left (is_some up.2.namespace) (is_located nat_eq b up.2.number) (ap is_some up.5)),
      up.4,
      up.5,
    )

-- a mount with a location lives
pub located_lives : (b : World ℕ) (y : Mount ℕ) (l : Location ℕ) → Among y b.mounts → Among l (all_locations b)
    → l.mount ≡ y.number → Among y (without_dead_mounts nat_eq b).mounts
located_lives b y l n m e = grind (arith, common_steps, among-filter, or_right, any_from_among, eq-eqb)

-- of some of the tasks
pub of_all : (names : List TaskName) (tasks : List (Task ℕ)) (l : Location ℕ)
    → Among l (locations (filter (is_member_task names) tasks)) → Among l (locations tasks)
of_all names tasks l m =
    let t = among-from_flat_map locations_of (filter (is_member_task names) tasks) l m in
    among-flat_map locations_of tasks t.0 l (among-from_filter (is_member_task names) tasks t.0 t.1).0 t.2

-- where each location of others shows what it showed, what is on a filesystem without a foothold of others is theirs
pub own_locations : (world after : World ℕ) (names set : List TaskName) (number : ℕ)
    → no_outsider_on nat_eq world names number ≡ true
    → ((l : Location ℕ) → Among l (locations (filter (λ t. not (is_member_task set t)) after.tasks))
    → Among l (locations (outsiders world names)))
    → ((l : Location ℕ) → Among l (all_locations after) → Among l (locations (outsiders world names))
    → (mount_at nat_eq after l).filesystem ≡ (mount_at nat_eq world l).filesystem)
    → (l : Location ℕ) → Among l (all_locations after) → (mount_at nat_eq after l).filesystem ≡ number
    → Among l (locations (filter (is_member_task set) after.tasks))
own_locations world after names set number none outside shows l m e =
    let t = among-from_flat_map locations_of after.tasks l m in
    elim (cases_Bool (is_member_task set t.0)) [
      | inl member ↦ among-flat_map locations_of (filter (is_member_task set) after.tasks) t.0 l
          (among-filter (is_member_task set) after.tasks t.0 t.1 member) t.2
      | inr other ↦
          let out = outside l (among-flat_map locations_of (filter (λ y. not (is_member_task set y)) after.tasks) t.0 l
          (among-filter (λ y. not (is_member_task set y)) after.tasks t.0 t.1 (cc)) t.2) in
          cc (
            eq-eqb number (mount_at nat_eq world l).filesystem (sym (sym (shows l m out) ∙ e)),
            none_among (λ q. nat_eq number (mount_at nat_eq world q).filesystem) (locations (outsiders world names))
                (nobody_on world names number none).1 l out,
          )
    ]

-- where no others are on a filesystem, none are on overlays over it
pub overlay_alone : (world : World ℕ) (names : List TaskName) (number : ℕ) → used_alone nat_eq world names number ≡ true
    → (merged : Filesystem ℕ) → Among merged world.filesystems → has_layer_on nat_eq number merged ≡ true
    → no_outsider_on nat_eq world names merged.number ≡ true
overlay_alone world names number h merged m has = grind (
  arith,
  common_steps,
  and_parts,
  true≢false,
  not-true,
  or_cases,
  among_from_list_all,
  among-filter,
  layered_overlay,
)
