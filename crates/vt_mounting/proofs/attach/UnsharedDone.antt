-- The end of an unshare, where the inodes that the copies use are found: unshare(2) with CLONE_NEWNS.
use Rattle.std.proofs.Common.{◌≡◌, refl, sym, ap, subst, ◌∙◌, ℕ, ◌+◌, ◌*◌, nat_eq, ◌&&◌, Bool, true, List, [], ◌∷◌, ◌++◌, filter, length, map, Option, All, nat_lt}
use Rattle.vt_spec.proofs.Common.{IsWorld, Location, Mount, MountInvariants, Namespace, OverlayInvariants, SameWorlds, Task, TaskName, ToUnshare, World, copied_mount, holds_of, list_all, mounts_of, settled, regrouped}
use Rattle.vt_spec.proofs.Worlds.{filesystems-regrouped}
use Rattle.vt_mounting.proofs.Common.{Among, AreThere, CountsWhatIsInIt, FilesystemEntry, Filesystems, Grouping, GrowsTo, Has, Inode, IsHeld, IsUnderWay, KeepsTo, MountEntry, NamespaceEntry, Tasks, WorldValue, WritersHaveLayers, any_same_worlds_keep_to_numbers, are_ascending, ascending_filter, attached_in, counted, inode_at, inodes_seen, is_counted_before, mount_of, mounts_in, namespace_of, numbers_of, places_of, shown, times, typed, world_of, given_permits_are_under_way_anywhere, given_to_task}
use Rattle.vt_group.specs.Grouping.{are_rising}
use Rattle.vt_location.specs.declared.mounts.Mount.{Mount as Attached}
use Rattle.vt_mounting.specs.Attach.Copying.{copies_of}
use Rattle.vt_mounting.proofs.detach.Writers.{left_writers}
use Rattle.vt_mounting.specs.Detach.Events.{Permits, left_by, supply_of}
use Rattle.vt_mounting.specs.Detach.NamespacesLeft.{MountsAreLeft, namespace_entry, numbers_inside, with_one_task_less}
use Rattle.vt_mounting.specs.Detach.Uses.{with_attached, Merged, kept_of, kept_with, merged_seen, overlays_kept}
use Rattle.vt_mounting.proofs.attach.AddedBegins as Begins
use Rattle.vt_mounting.proofs.attach.AddedBegins.{AddedMayGo, IsAdded, KeepsAdded, with_added}
use Rattle.vt_mounting.proofs.attach.GrownGroups.{ascending_rises}
use Rattle.vt_mounting.proofs.attach.UnsharingLemmas.{copies_ascend}
use Rattle.vt_mounting.proofs.attach.AddedUses.{gained_by, shown_by_all}
use Rattle.vt_mounting.proofs.detach.Bridging.{IsSwept, MayBeSwept, swept_is_same}
use Rattle.vt_mounting.proofs.detach.Finishing.{CountsBeside, swept_held}
use Rattle.vt_mounting.proofs.detach.LeavingNamespaces.{IsLeft, leaves}
use Rattle.vt_mounting.proofs.detach.Midway.{Reached}
use Rattle.vt_mounting.proofs.detach.MidwayDone.{HasReached, reached_counted, reached_swept}
use Rattle.vt_mounting.proofs.attach.MovedUses as Moved
use Rattle.vt_mounting.proofs.detach.NamespacesEnded.{ends, left_counted}
use Rattle.vt_mounting.proofs.detach.NamespacesTyped.{CanGo, gone_numbers, nowhere_private}
use Rattle.vt_mounting.proofs.detach.Staying.{IsDone, becomes_so}
use Rattle.vt_mounting.proofs.detach.TypedEvents.{counts_typed, swept_typed, typed_value}
use Rattle.vt_mounting.proofs.detach.TypedWorlds.{settled_typed, settled_typed_has, typed_world}
use Rattle.vt_mounting.proofs.attach.TakingNumbers.{TakesNumbers, left_is_world, left_keeps}
use Rattle.vt_mounting.proofs.attach.OverlaysMore.{merged_by_all}
use Rattle.vt_mounting.proofs.attach.UnsharedGroups as Groups
use Rattle.vt_mounting.proofs.attach.UnsharedTasks as Tasks
use Rattle.vt_mounting.proofs.attach.UnsharedWorlds as Worlds
use Rattle.vt_mounting.proofs.attach.UnsharedWorlds.{UnsharingFrom}

-- The copies are attached, and the task is in the namespace of the number `count`.
pub record AreCopied (value : WorldValue) (name : TaskName) (permits : Permits value name ToUnshare) (count : ℕ)
    (copies : List Attached) (mounts : List MountEntry) (filesystems : Filesystems) (overlays : List Merged) : Type 0 where
  pub whole : IsHeld value
  pub in_namespace : counted count ≡ permits.task.namespace
  pub copied_so : map mount_of copies ≡ copies_of value.next (attached_in permits.task.namespace value.mounts)
  pub is_kept : kept_with mounts filesystems overlays ≡ with_attached copies (kept_of value)

module _ {value : WorldValue} {name : TaskName} {permits : Permits value name ToUnshare} {count : ℕ}
    {copies : List Attached} {mounts : List MountEntry} {filesystems : Filesystems} {overlays : List Merged}
    (are_copied : AreCopied value name permits count copies mounts filesystems overlays) where
  open are_copied use {whole, in_namespace, copied_so, is_kept}

  abbrev pub from : UnsharingFrom value name permits.task count
  from = record {
    unsharing = record { whole = whole; found = permits.called; serves = permits.given.serves };
    in_namespace = in_namespace;
  }

  abbrev world : World ℕ
  world = world_of value

  abbrev task : Task ℕ
  task = permits.task

  abbrev pub moved_task : Task ℕ
  moved_task = Tasks.moved_task from.unsharing

  abbrev pub tasks : Tasks
  tasks = Worlds.moved from

  abbrev pub entries : List NamespaceEntry
  entries = Worlds.entries from

  abbrev inside : Option ℕ → Bool
  inside = Worlds.inside from

  abbrev added : List (Mount ℕ)
  added = map mount_of copies

  abbrev come_to : List (Location ℕ)
  come_to = moved_task.root ∷ moved_task.directory ∷ []

  abbrev gone_from : List (Location ℕ)
  gone_from = task.root ∷ task.directory ∷ []

  pub same_copies : added ≡ Worlds.copies from
  same_copies = copied_so ∙ ap (λ n. map (copied_mount (Tasks.copy from.unsharing) n) (mounts_of nat_eq world task.namespace))
      (Worlds.new_is from)

  pub is_added : IsAdded value added tasks come_to gone_from (λ mount. inside mount.namespace)
  is_added = Worlds.is_added from added same_copies

  -- the mounts, with the root and the working directory on the copies
  abbrev pub moved_entries : List MountEntry
  moved_entries = Moved.moved_entries whole copies is_added

  keeps : KeepsAdded value added come_to gone_from (gained_by copies) (kept_with moved_entries filesystems overlays)
  keeps = record {
    merged = ap (λ k. k.overlays) is_kept ∙ merged_by_all copies (map merged_seen value.overlays);
    mounts = Moved.moved_mounts whole copies is_added;
    uses = λ entry m. (Moved.moved_was whole copies is_added entry m).1.uses;
    writers = λ entry m. (Moved.moved_was whole copies is_added entry m).1.writers;
    filesystems = ap (λ k. k.filesystems) is_kept ∙ shown_by_all copies (shown value.filesystems);
  }

  -- The world with the copies, and its groups

  abbrev base : World ℕ
  base = Worlds.base from added same_copies

  abbrev goes : Mount ℕ → Bool
  goes = Worlds.goes from added same_copies

  abbrev remaining : List (Namespace ℕ)
  remaining = Worlds.remaining from added same_copies

  base_holds : MountInvariants nat_eq base
  base_holds = Worlds.base_holds from added same_copies

  -- and then the old namespace is left
  pub record IsLeftFrom (grown : Grouping) (new : WorldValue) (left_overlays : List Merged) : Type 0 where
    pub uses_gained : (test : Inode → Bool)
        → times test (map (inode_at (with_added value added tasks)) (places_of added)) ≡ times test (gained_by copies)
    pub gained_there : (was : FilesystemEntry) → Among was value.filesystems
        → AreThere (counted was.count) (inodes_seen was) (gained_by copies)
    pub grows : GrowsTo value.groups grown (map typed copies) []
    pub is_left : MountsAreLeft (counted count) (namespace_entry count entries)
        (kept_with moved_entries filesystems overlays) grown
        (kept_with new.mounts new.filesystems left_overlays) new.groups
    pub namespaces_are : new.namespaces ≡ with_one_task_less count entries
    pub tasks_are : new.tasks ≡ tasks
    pub next_is : new.next ≡ value.next + 2 * length (attached_in task.namespace value.mounts)
    pub before : list_all (λ mount. nat_lt mount.number (counted value.next)) (mounts_in value.mounts) ≡ true
    pub overlays_are : new.overlays ≡ overlays_kept left_overlays value.overlays

  module _ {grown : Grouping} {new : WorldValue} {left_overlays : List Merged}
      (left : IsLeftFrom grown new left_overlays) where
    open left use {uses_gained, gained_there, grows, is_left, namespaces_are, tasks_are, next_is, before, overlays_are}

    abbrev added_counted : AddedMayGo value added tasks come_to gone_from inside (gained_by copies)
        (kept_with moved_entries filesystems overlays)
    added_counted = record {
      whole = whole;
      nowhere_stays = Worlds.nowhere_stays from;
      is = is_added;
      keeps = keeps;
      uses_gained = uses_gained;
      gained_there = gained_there;
    }

    abbrev ended : World ℕ
    ended = Begins.ended added_counted remaining

    begins : Reached value ended (gained_by copies) goes [] (kept_with moved_entries filesystems overlays)
    begins = Begins.added_begins added_counted remaining

    abbrev can_go : CanGo base goes
    can_go = record {
      invariants = base_holds;
      stays = λ mount m still place at. (Begins.parent_is added_counted remaining mount m still at).1;
    }

    -- the copies come after all mounts, in the order of those that they are of
    rising : are_rising (numbers_of (world.mounts ++ added)) ≡ true
    rising = ap (λ all. are_rising (numbers_of (world.mounts ++ all))) copied_so
        ∙ sym (ascending_rises (world.mounts ++ copies_of value.next (attached_in task.namespace value.mounts)))
        ∙ copies_ascend value.next world.mounts (attached_in task.namespace value.mounts) ascending before
        (ascending_filter (λ mount. holds_of (nat_eq task.namespace) mount.namespace) world.mounts ascending)
      where
        ascending : are_ascending world.mounts ≡ true
        ascending = ascending_rises world.mounts ∙ whole.groups.order

    in_groups : Groups.HasGrown from copies grown
    in_groups = record { same = same_copies; rising = rising; grows = grows }

    base_has : Has base grown
    base_has = Groups.base_has in_groups

    -- the mounts that are to go are those of the namespace that ends
    inside_old : ends (Worlds.entries_count from) ≡ true
        → numbers_inside (counted count) moved_entries ≡ gone_numbers can_go tasks remaining
    inside_old last =
        ap (λ (mounts : List (Mount ℕ)). map (λ (mount : Mount ℕ). mount.number) (filter is_inside mounts)) keeps.mounts
        ∙ ap (λ b. map (λ (mount : Mount ℕ). mount.number) (filter (λ mount. b && is_inside mount) base.mounts))
        (sym last)
      where
        is_inside : Mount ℕ → Bool
        is_inside mount = holds_of (nat_eq (counted count)) mount.namespace

    -- what is left once the old namespace has ended
    ended_is_left : IsLeft value ended (gained_by copies) goes (kept_with new.mounts new.filesystems left_overlays)
        new.groups
    ended_is_left = leaves whole (Worlds.entries_count from) can_go remaining (record {
      has = base_has;
      reached = begins;
      typed = Groups.base_typed in_groups moved_entries keeps.mounts;
      inside = inside_old;
    }) (kept_with new.mounts new.filesystems left_overlays) new.groups is_left

    -- The code's world, but for types

    abbrev untyped : WorldValue
    untyped = record new { mounts = ended_is_left.entries }

    abbrev reached : HasReached value ended (gained_by copies) goes untyped left_overlays
    reached = record {
      at = ended_is_left.reached;
      all_gone = ended_is_left.all_gone;
      same_tasks = sym tasks_are;
      same_overlays = overlays_are;
    }

    swept : IsSwept value ended (gained_by copies) ended_is_left.reached.lost untyped
    swept = reached_swept reached refl
        (ap (map (λ (n : Namespace ℕ). record n { change = 0 })) (ap (map namespace_of) (sym namespaces_are)))

    counts : CountsBeside untyped
    counts = reached_counted reached
        (subst (All (CountsWhatIsInIt (world_of untyped))) (sym namespaces_are) (left_counted (Worlds.entries_count from)
        (world_of untyped) tasks_are))

    -- With types

    abbrev typed_ended : World ℕ
    typed_ended = typed_world new.groups ended

    abbrev typed_new : WorldValue
    typed_new = typed_value new.groups untyped

    typed_left : left_by value task ToUnshare ≡ settled nat_eq typed_ended
    typed_left = ap (settled nat_eq)
        (Worlds.ended_is from added same_copies can_go) ∙ settled_typed ended new.groups ended_is_left.has

    takes : TakesNumbers value name ToUnshare task
    takes = record { called = permits.called; given = permits.given; inode = 0; even = refl; supply = refl }

    under_way : IsUnderWay (regrouped nat_eq ended) × OverlayInvariants nat_eq (regrouped nat_eq ended)
    under_way = subst (λ w. IsUnderWay w × OverlayInvariants nat_eq w)
        (Worlds.ended_is from added same_copies can_go)
        (given_permits_are_under_way_anywhere world (supply_of value ToUnshare) task ToUnshare whole.in_world
        (given_to_task (supply_of value ToUnshare) world task ToUnshare takes.given))

    ready : MayBeSwept typed_ended
    ready = record {
      policy = regrouped nat_eq ended;
      under = under_way.0;
      overlays = under_way.1;
      left = settled_typed ended new.groups ended_is_left.has;
      files = filesystems-regrouped ended;
    }

    world_left : IsWorld nat_eq (settled nat_eq typed_ended)
    world_left = subst (IsWorld nat_eq) typed_left (left_is_world whole takes)

    typed_swept : IsSwept value typed_ended (gained_by copies) ended_is_left.reached.lost typed_new
    typed_swept = swept_typed new.groups untyped value ended (gained_by copies) ended_is_left.reached.lost swept

    typed_has : Has (settled nat_eq typed_ended) new.groups
    typed_has = settled_typed_has ended new.groups ended_is_left.has
        (nowhere_private can_go tasks remaining)

    typed_counts : CountsBeside typed_new
    typed_counts = counts_typed new.groups untyped counts

    -- the settled world is code's but for change numbers
    settled_same : SameWorlds (settled nat_eq typed_ended) (world_of typed_new)
    settled_same = swept_is_same value whole typed_ended ready (gained_by copies) ended_is_left.reached.lost typed_new
        typed_swept typed_has world_left

    keeps_numbers : KeepsTo (is_counted_before new.next) (world_of typed_new)
    keeps_numbers = subst (λ next. KeepsTo (is_counted_before next) (world_of typed_new)) (sym next_is)
        (any_same_worlds_keep_to_numbers (is_counted_before
        (value.next + 2 * length (attached_in task.namespace value.mounts))) (settled nat_eq typed_ended)
        (world_of typed_new) settled_same
        (subst (KeepsTo (is_counted_before (value.next + 2 * length (attached_in task.namespace value.mounts))))
        typed_left (left_keeps value whole name task takes)))

    pub unshared_done : IsDone value name ToUnshare new
    unshared_done =
        subst (λ mounts. IsDone value name ToUnshare (record new { mounts = mounts })) (sym ended_is_left.typed)
        (record {
          held = swept_held value whole typed_ended ready world_left (gained_by copies) ended_is_left.reached.lost typed_new
              typed_swept typed_has typed_counts keeps_numbers
              (subst WritersHaveLayers typed_left (left_writers value whole task ToUnshare takes.given));
          becomes = becomes_so value name ToUnshare typed_new task permits.called
              (subst (λ w. SameWorlds w (world_of typed_new)) (sym typed_left) settled_same);
        })
