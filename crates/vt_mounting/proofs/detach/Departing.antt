-- Events after which a task has left locations and a namespace.
use Rattle.std.proofs.Common.{◌≡◌, refl, sym, ap, subst, ◌∙◌, ℕ, nat_eq, Bool, true, false, true≢false, ◌&&◌, List, [], map, filter, Option, Some, None, is_some, option_to_list}
use Rattle.vt_spec.proofs.Common.{Mount, Namespace, Permit, Task, TaskName, World, and-false, folded, has_tasks, holds_of, is_in_ended, is_listed, list_all, namespaces_ended, regrouped, taken_away}
use Rattle.vt_mounting.proofs.Common.{AreTyped, CountsWhatIsInIt, Filesystems, Grouping, IsHeld, MountEntry, NamespaceEntry, Tasks, WorldValue, among_from_list_all, counted, filter_alike, namespace_of, world_of}
use Rattle.vt_mounting.specs.Detach.NamespacesLeft.{MountsAreLeft, namespace_entry, numbers_inside, with_one_task_less}
use Rattle.vt_mounting.specs.Detach.Uses.{Kept, Merged, kept_of, kept_with, overlays_kept}
use Rattle.vt_mounting.proofs.detach.Bridging.{IsSwept}
use Rattle.vt_mounting.proofs.detach.Finishing.{CountsBeside, IsApplied}
use Rattle.vt_mounting.proofs.detach.FollowedTypes.{gained_typed, own_types, uses_left_typed}
use Rattle.vt_mounting.proofs.detach.LeavingNamespaces.{IsLeft, leaves}
use Rattle.vt_mounting.proofs.detach.Midway.{MayLeave, Reached}
use Rattle.vt_mounting.proofs.detach.MidwayBegins.{MayGo, begins, ended, goes_attached, k_begins, parent_stays}
use Rattle.vt_mounting.proofs.detach.MidwayDone.{HasReached, leave_use, leaves_all, reached_counted, reached_swept}
use Rattle.vt_mounting.proofs.detach.Moving.{Moves, Use, inodes_of_uses, same_moved_mounts}
use Rattle.vt_mounting.proofs.detach.NamespaceMounts.{inside_stays}
use Rattle.vt_mounting.proofs.detach.NamespacesEnded.{AllCountOneMore, ends, in_ended_is, left_counted, namespaces_are}
use Rattle.vt_mounting.proofs.detach.NamespacesTyped.{CanGo, nowhere_private, taken_is_left}
use Rattle.vt_mounting.proofs.detach.Staying.{IsDone, after}
use Rattle.vt_mounting.proofs.detach.TypedEvents.{typed_done}

-- A task moves, and leaves the namespace `count`.
pub record Departs (value : WorldValue) (tasks : Tasks) (more less : List Use) (count : ℕ) (entries : List NamespaceEntry)
    : Type 0 where
  pub whole : IsHeld value
  pub moves : Moves value tasks more less
  pub counts : AllCountOneMore count tasks entries
  pub same_namespaces : map namespace_of value.namespaces ≡ map namespace_of entries

module _ {value : WorldValue} {tasks : Tasks} {more less : List Use} {count : ℕ} {entries : List NamespaceEntry}
    (it : Departs value tasks more less count entries) where
  open it use {whole, moves, counts, same_namespaces}

  abbrev world : World ℕ
  world = world_of value

  abbrev next : World ℕ
  next = world_of (after value tasks)

  abbrev remaining : List (Namespace ℕ)
  remaining = filter (has_tasks nat_eq next) next.namespaces

  abbrev inside : Option ℕ → Bool
  inside o = ends counts && holds_of (nat_eq (counted count)) o

  pub nowhere_stays : inside None ≡ false
  nowhere_stays = and-false (ends counts)

  abbrev going : Mount ℕ → Bool
  going mount = inside mount.namespace

  abbrev may_go : MayGo value tasks more less inside
  may_go = record { whole = whole; moves = moves; nowhere_stays = nowhere_stays }

  abbrev may_leave : MayLeave value going
  may_leave = record { whole = whole; attached = goes_attached may_go remaining }

  abbrev start : World ℕ
  start = ended may_go remaining

  abbrev can_go : CanGo world going
  can_go = record { invariants = whole.in_world.mounts; stays = parent_stays may_go remaining }

  same_mounts : filter (is_in_ended nat_eq next) next.mounts ≡ filter going next.mounts
  same_mounts = filter_alike (is_in_ended nat_eq next) going next.mounts (λ mount m.
      in_ended_is counts next refl same_namespaces mount (among_from_list_all (λ x. list_all (is_listed nat_eq world)
      (option_to_list x.namespace)) world.mounts whole.in_world.namespaces.mounts_listed mount m))

  -- the policy's world before the sweep: these mounts are detached, and then the groups without members end
  pub ended_regrouped : namespaces_ended nat_eq next ≡ regrouped nat_eq start
  ended_regrouped = (λ i. record (taken_away nat_eq next (map (λ (mount : Mount ℕ). mount.number) (same_mounts i))) {
    namespaces = filter (has_tasks nat_eq next) next.namespaces;
  }) ∙ taken_is_left can_go tasks remaining

  abbrev k_left : Kept
  k_left = folded (leave_use world) (folded (Rattle.vt_mounting.proofs.detach.Moving.gain world) (kept_of value) more)
      less

  typed_left : AreTyped value.groups k_left.mounts
  typed_left = uses_left_typed value.groups world less
      (folded (Rattle.vt_mounting.proofs.detach.Moving.gain world) (kept_of value) more)
      (gained_typed value.groups world more (kept_of value) (own_types value whole))

  abbrev gained : List Rattle.vt_laws_mounts.specs.LettingGo.OneByOne.Inode
  gained = inodes_of_uses world more

  abbrev k_gained : Kept
  k_gained = k_begins may_go remaining

  reached_gains : Reached value start gained going less k_gained
  reached_gains = begins may_go remaining

  reached_uses : Reached value start gained going [] k_left
  reached_uses = leaves_all may_leave less k_gained reached_gains

  -- the mounts that are to go are still those of the namespace that ends
  abbrev is_inside : Mount ℕ → Bool
  is_inside mount = holds_of (nat_eq (counted count)) mount.namespace

  inside_left : ends counts ≡ true → numbers_inside (counted count) k_left.mounts
      ≡ map (λ (mount : Mount ℕ). mount.number) (filter going world.mounts)
  inside_left last = ap (map (λ (mount : Mount ℕ). mount.number))
      (inside_stays is_inside nowhere may_leave less k_gained reached_gains
      ∙ ap (filter is_inside) (same_moved_mounts world more [] (kept_of value))
      ∙ ap (λ b. filter (λ (mount : Mount ℕ). b && is_inside mount) world.mounts) (sym last))
    where
      nowhere : (mount : Mount ℕ) → is_some mount.namespace ≡ false → is_inside mount ≡ false
      nowhere mount e = by mount.namespace e
        where
          by : (o : Option ℕ) → is_some o ≡ false → holds_of (nat_eq (counted count)) o ≡ false
          by None f = refl
          by (Some number) f = absurd (true≢false f)

  module _ (filesystems : Filesystems) (overlays : List Merged) {namespaces : List NamespaceEntry}
      (are : namespaces ≡ with_one_task_less count entries) {name : TaskName} {permit : Permit ℕ} {task : Task ℕ}
      (is : IsApplied value name permit task (namespaces_ended nat_eq next)) where
    -- the world of the code but for types
    abbrev untyped : List MountEntry → WorldValue
    untyped mounts = record value {
      mounts = mounts;
      filesystems = filesystems;
      overlays = overlays_kept overlays value.overlays;
      namespaces = namespaces;
      tasks = tasks;
    }

    module _ (mounts : List MountEntry) (reached : HasReached value start gained going (untyped mounts) overlays) where
      left_swept : IsSwept value start gained reached.at.lost (untyped mounts)
      left_swept =
          reached_swept reached refl
          (ap (map (λ (n : Namespace ℕ). record n { change = 0 }))
          (namespaces_are counts next refl same_namespaces ∙ ap (map namespace_of) (sym are)))

      left_counts : CountsBeside (untyped mounts)
      left_counts =
          reached_counted reached
          (subst (λ all. Rattle.std.specs.Prelude.All (CountsWhatIsInIt (world_of (untyped mounts))) all) (sym are)
          (left_counted counts (world_of (untyped mounts)) refl))

    -- all mounts get the types that the groups tell, once those of a namespace that ends have left theirs
    pub departs : (mounts : List MountEntry) (groups : Grouping)
        → MountsAreLeft (counted count) (namespace_entry count entries) k_left value.groups
        (kept_with mounts filesystems overlays) groups
        → IsDone value name permit (record (untyped mounts) { groups = groups })
    departs mounts groups are_left =
        subst (λ all. IsDone value name permit (record (untyped all) { groups = groups })) (sym left.typed)
        (typed_done whole {name = name} {permit = permit} {task = task} start (record {
          called = is.called;
          given = is.given;
          named = is.named;
          applied = λ fresh. is.applied fresh ∙ ended_regrouped;
        }) left.has (nowhere_private can_go tasks remaining) (left_swept left.entries has_left) (left_counts left.entries has_left) refl)
      where
        left : IsLeft value start gained going (kept_with mounts filesystems overlays) groups
        left = leaves whole counts can_go remaining
            (record { has = whole.groups; reached = reached_uses; typed = typed_left; inside = inside_left })
            (kept_with mounts filesystems overlays) groups are_left

        has_left : HasReached value start gained going (untyped left.entries) overlays
        has_left = record { at = left.reached; all_gone = left.all_gone; same_tasks = refl; same_overlays = refl }
