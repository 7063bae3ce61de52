-- A call of theirs that removes a directory, or that renames, through an overlay ends in the part as in the world, with
-- the mounts on what goes.
use Rattle.std.proofs.Common.{inl, inr, arith, ◌≡◌, refl, sym, ap, subst, ◌∙◌, ⊎_elim, ℕ, nat_eq, eqb-true, true, false, true≢false, List, [], Option, Some, None, Ok, is_some, option_map, option_to_list}
use Rattle.vt_spec.proofs.Common.{Among, Call, Change, Done, Filesystem, Fresh, Layer, Location, Mount, MountInvariants, Move, Overlay, Rename, TaskName, ToRename, World, and_parts, changed_at, common_steps, filesystem_at, filesystem_numbered, finished, granted, holds_of, is_among, is_going, is_overlay, is_own_namespace, judge_in, list_all, members, mount_at, mounts_on, numbers_raised, only_looks, overlay_or, part_of, points_of, settled, taken_away, then_some, upper_object, upper_points, used_alone, used_directly, used_filesystems, with_change, without_mounts_on}
use Rattle.vt_laws_members.proofs.judging.Common.{IsTheirs, filesystem_alike, its_mount, sealing_of, theirs_directly, theirs_from}
use Rattle.vt_laws_members.proofs.Common.{cases_Option, IsSealed, is_own, name_found, numbers_left, permits_can_change, points_keep_mounts, used_directly_used, with_filesystems}
use Rattle.vt_laws_members.specs.Changes.Changes.{EndsAlike}
use Rattle.vt_laws_members.proofs.changes.Common.{OverlayChange, RemovingCall, TheirsGo, by_runs, ended_alike, found_numbered, layer_found, naming_of, numbers_if_seen, one_in_part, one_in_world, own_here, part_after, part_mounts, part_taken, ran_there, removing_directory, replacing, run_by, stepped_if_made, taken_parts, upper_in_use, world_after, world_taken}
use Rattle.vt_laws_members.proofs.detached.removals.Going.{caller_stays, going_with, own_go, same_going}
use Rattle.vt_laws_members.proofs.detached.removals.StillUsed.{seen_here, seen_there, still_direct}
use Rattle.vt_laws_members.specs.OverlayNames.OverlayNames.{OverlayRenamesEndAlike, OverlayRmdirsEndAlike}
use Rattle.vt_laws_members.proofs.overlay_names.names.Detaching.{alone_here, alone_there, detached_and_changed}
use Rattle.vt_laws_members.proofs.overlay_names.names.OverlayEnding.{naming_through_ends, stepped_run}
use Rattle.vt_laws_members.proofs.overlay_names.names.OverlayNaming.{made_in_part, merged_alone, moved, numbers, one_alone, theirs, two_alone, upper_alone}

-- without an upper layer nothing is changed, after mounts may have gone
unwritten_after : (before w : World ℕ) (name : TaskName) (call : Call) (supply : Fresh ℕ) (location : Location ℕ)
    (change : Change ℕ) (merged : Filesystem ℕ) (overlay : Overlay ℕ) → only_looks call ≡ false
    → filesystem_at nat_eq w location ≡ merged → merged.overlay ≡ Some overlay → overlay.upper ≡ None
    → finished nat_eq before name call (changed_at nat_eq w location)
    (granted Done (with_change nat_eq supply w location change))
    ≡ granted Done (numbers_raised nat_eq before name [] (settled nat_eq w))
unwritten_after before w name call supply location change merged overlay looks same overlaid none =
    grind (arith, common_steps)

-- What stands for a directory of an overlay is in filesystems that they use alone.
module _ {world : World ℕ} {names : List TaskName} (sealing : IsSealed world names) (gone : Location ℕ)
    (overlay : Overlay ℕ)
    (overlaid : (filesystem_at nat_eq world gone).overlay ≡ Some overlay)
    (direct : Among (mount_at nat_eq world gone).filesystem (used_directly nat_eq world names)) where
  abbrev number : ℕ
  number = (mount_at nat_eq world gone).filesystem

  pub points_alone : (point : ℕ × ℕ) → Among point (points_of nat_eq world gone)
      → used_alone nat_eq world names point.0 ≡ true
  points_alone point m = ⊎_elim (λ same. ap (λ (p : ℕ × ℕ). used_alone nat_eq world names p.0) same
      ∙ ap (used_alone nat_eq world names) (found_numbered number world.filesystems) ∙ merged_alone sealing number
      overlay overlaid direct) (λ more. above overlay.upper refl (subst (λ o. Among point
      (overlay_or [] (λ (v : Overlay ℕ). upper_points world (filesystem_at nat_eq world gone) v gone.node) o)) overlaid
      more)) m
    where
      object_of : Layer ℕ → Option ℕ → Option (ℕ × ℕ)
      object_of layer o = option_map (λ object. (layer.filesystem, object)) o

      of_object : (layer : Layer ℕ) → overlay.upper ≡ Some layer → (o : Option ℕ)
          → Among point (option_to_list (object_of layer o)) → used_alone nat_eq world names point.0 ≡ true
      of_object layer has None n = absurd n
      of_object layer has (Some object) n = ⊎_elim (λ same. ap (λ (p : ℕ × ℕ). used_alone nat_eq world names p.0) same
          ∙ upper_alone sealing number overlay overlaid direct layer has) (λ none. absurd none) n

      above : (o : Option (Layer ℕ)) → overlay.upper ≡ o → Among point (option_to_list (then_some o
          (λ layer. object_of layer (upper_object (overlay.real gone.node)))))
          → used_alone nat_eq world names point.0 ≡ true
      above None e n = absurd n
      above (Some layer) e n = of_object layer e (upper_object (overlay.real gone.node)) n

-- The change is made after the mounts on what goes are taken away.
module _ {world : World ℕ} {names : List TaskName} {name : TaskName} {call : Call}
    (it : RemovingCall world names name call) (is : is_overlay (filesystem_at nat_eq world it.location) ≡ true)
    (runs : (w : World ℕ) → run_by it.it w it.fresh it.task (Ok it.permit) ≡ finished nat_eq w name call
    (changed_at nat_eq (without_mounts_on nat_eq w it.gone) it.location)
    (granted Done (with_change nat_eq (numbers_left it.fresh it.permit) (without_mounts_on nat_eq w it.gone)
    it.location it.change))) where
  abbrev part : World ℕ
  part = part_of nat_eq world names

  abbrev merged : Filesystem ℕ
  merged = filesystem_at nat_eq world it.location

  abbrev supply : Fresh ℕ
  supply = numbers_left it.fresh it.permit

  one_filesystem : filesystem_at nat_eq world it.gone ≡ merged
  one_filesystem = cc it.free.beside

  on_gone : IsTheirs world names it.is.mounts it.gone.mount
  on_gone = theirs_from world names it.is.mounts it.gone.mount it.free.on

  on : IsTheirs world names it.is.mounts it.location.mount
  on = theirs_from world names it.is.mounts it.location.mount (cc (it.free.beside, it.free.on))

  direct : Among (mount_at nat_eq world it.location).filesystem (used_directly nat_eq world names)
  direct = theirs_directly world names it.is it.location on

  alike : filesystem_at nat_eq world it.location ≡ filesystem_at nat_eq part it.location
  alike = filesystem_alike world names it.is it.location on

  module _ (overlay : Overlay ℕ) (overlaid : merged.overlay ≡ Some overlay) where
    abbrev only_own : (mount : Mount ℕ) → Among mount (mounts_on nat_eq world it.gone) → (n : ℕ)
        → mount.namespace ≡ Some n → is_own_namespace nat_eq world names n ≡ true
    only_own = own_here world names it.is it.gone (points_alone (sealing_of it.it) it.gone overlay
        (ap (λ (f : Filesystem ℕ). f.overlay) one_filesystem ∙ overlaid)
        (theirs_directly world names it.is it.gone on_gone))

    abbrev list : List ℕ
    list = going_with world names it.is it.gone on_gone only_own

    abbrev go : TheirsGo world names list
    go = record {
      sealing = sealing_of it.it;
      own_go = own_go world names it.is it.gone on_gone only_own;
    }

    same_list : taken_away nat_eq part list ≡ without_mounts_on nat_eq part it.gone
    same_list = cc (same_going world names it.is it.gone on_gone only_own)

    kept_world : MountInvariants nat_eq (taken_away nat_eq world list)
    kept_world = points_keep_mounts world it.gone it.is.mounts

    kept_part : MountInvariants nat_eq (taken_away nat_eq part list)
    kept_part = rw same_list (points_keep_mounts part it.gone (part_mounts (sealing_of it.it)))

    abbrev here : World ℕ
    here = world_after go

    abbrev there : World ℕ
    there = part_after go

    -- the mount of the directory is in the caller's namespace, and stays
    directory_stays : is_own world names (members world names) on.0 ≡ true → is_going nat_eq list on.0.number ≡ false
    directory_stays its = elim (cases_Option on.0.namespace) [
      | inl e ↦ absurd (true≢false (sym its ∙ ap (holds_of (is_own_namespace nat_eq world names)) e))
      | inr its ↦ let seen : list_all (nat_eq it.task.namespace) (option_to_list (Some its.0)) ≡ true =
          cc (its_mount world names it.is.mounts it.location.mount on, its.1, it.reached.seen) in
          caller_stays world names it.is it.gone on_gone only_own it.task it.free.bare on.0 on.1
          (its.1 ∙ ap Some (sym (eqb-true it.task.namespace its.0 (and_parts
          (nat_eq it.task.namespace its.0) true seen).0)))
    ]

    -- so both runs go on with what is left
    run_here : run_by it.it world it.fresh it.task (Ok it.permit)
        ≡ finished nat_eq world name call (changed_at nat_eq here it.location)
        (granted Done (with_change nat_eq supply here it.location it.change))
    run_here = cc (runs world, world_taken go)

    run_there : run_by it.it part it.fresh it.task (Ok it.permit)
        ≡ finished nat_eq part name call (changed_at nat_eq there it.location)
        (granted Done (with_change nat_eq supply there it.location it.change))
    run_there = cc (runs part, same_list, part_taken go)

    seen : filesystem_at nat_eq here it.location ≡ merged
    seen = seen_here go it.location

    seen_too : filesystem_at nat_eq there it.location ≡ merged
    seen_too = seen_there go it.location ∙ sym alike

    ends : (one other : World ℕ)
        → run_by it.it world it.fresh it.task (Ok it.permit) ≡ granted Done one
        → run_by it.it part it.fresh it.task (Ok it.permit) ≡ granted Done other
        → part_of nat_eq one names ≡ part_of nat_eq other names → EndsAlike world names name call it.fresh it.fresh
    ends one other runs_so runs_too same = by_runs it.it it.fresh it.fresh (Some it.task) it.found
        (ended_alike names name call (ap (run_by it.it world it.fresh it.task) it.judged ∙ runs_so)
        (ran_there it.it it.fresh it.fresh it.task it.found it.judged ∙ runs_too)
        (rw it.stays (record { answer = refl; part = same })))

    layered : (o : Option (Layer ℕ)) → overlay.upper ≡ o → EndsAlike world names name call it.fresh it.fresh
    layered None none = ends (numbers_raised nat_eq world name [] (settled nat_eq here))
        (numbers_raised nat_eq part name [] (settled nat_eq there)) (run_here ∙ unwritten_after world here name call
        supply it.location it.change merged overlay it.looks seen overlaid none)
        (run_there ∙ unwritten_after part there name call supply it.location it.change merged overlay it.looks seen_too
        overlaid none) (cc (world_taken go, taken_parts go kept_world kept_part name, part_taken go))
    layered (Some upper) has =
        ends (numbers_raised nat_eq world name both (settled nat_eq (with_filesystems here step)))
        (numbers_raised nat_eq part name both (settled nat_eq (with_filesystems there step)))
        (run_here ∙ stepped_run world here name call supply it.location it.change step both it.looks
        (stepped_if_made through here seen refl refl) (numbers_if_seen through here seen refl))
        (run_there ∙ stepped_run part there name call supply it.location it.change step both it.looks
        (stepped_if_made through there seen_too (layer_found through) (made_in_part it.it through))
        (numbers_if_seen through there seen_too (layer_found through)))
        (detached_and_changed go kept_world kept_part step
        (theirs it.it through used_then one_used two_used
        (one_in_world world names it.is number (used_directly_used world names number direct))
        (one_in_world world names it.is upper.filesystem
        (upper_in_use world names number overlay upper overlaid has direct))
        (alone_here go kept_world kept_part merged.number (one_alone it.it through))
        (alone_here go kept_world kept_part two.number (two_alone it.it through)))
        (theirs it.it through used_then one_used two_used
        (one_in_part world names it.is number (used_directly_used world names number direct))
        (one_in_part world names it.is upper.filesystem
        (upper_in_use world names number overlay upper overlaid has direct))
        (alone_there go kept_world kept_part merged.number) (alone_there go kept_world kept_part two.number)) name both
        both_used)
      where
        number : ℕ
        number = (mount_at nat_eq world it.location).filesystem

        two : Filesystem ℕ
        two = filesystem_numbered nat_eq world upper.filesystem

        through : OverlayChange world names
        through = record {
          is = it.is;
          supply = supply;
          location = it.location;
          change = it.change;
          overlay = overlay;
          upper = upper;
          can = permits_can_change world it.fresh it.task call it.permit it.location it.change overlay upper it.is
              it.serves (cc (name_found world name it.task it.found, it.found)) it.judged
              it.asks overlaid has;
          direct = direct;
          alike = alike;
        }

        step : Filesystem ℕ → Filesystem ℕ
        step = moved it.it through

        both : List ℕ
        both = numbers it.it through

        used_then : List ℕ
        used_then = used_filesystems nat_eq here names

        direct_then : Among number (used_directly nat_eq here names)
        direct_then = still_direct go it.location on directory_stays

        one_used : is_among nat_eq merged.number used_then ≡ true
        one_used = cc (found_numbered number world.filesystems, used_directly_used here names number direct_then)

        two_used : is_among nat_eq two.number used_then ≡ true
        two_used = ap (λ n. is_among nat_eq n used_then) (found_numbered upper.filesystem world.filesystems)
            ∙ upper_in_use here names number overlay upper overlaid has direct_then

        both_used : (n : ℕ) → Among n both → is_among nat_eq n used_then ≡ true
        both_used n m = ⊎_elim (λ e. cc one_used) (λ rest. ⊎_elim (λ e. cc two_used) (λ none. absurd none) rest) m

  pub removal_through_ends : EndsAlike world names name call it.fresh it.fresh
  removal_through_ends = elim (cases_Option merged.overlay) [
    | inl none ↦ absurd (true≢false (sym is ∙ ap is_some none))
    | inr its ↦ layered its.0 its.1 its.0.upper refl
  ]

pub overlay_rmdirs_end_alike : OverlayRmdirsEndAlike
overlay_rmdirs_end_alike world names name path it task found fresh serves parent entry directory judged is =
    removal_through_ends (removing_directory task found fresh serves it parent entry directory judged) is (λ w. refl)

pub overlay_renames_end_alike : OverlayRenamesEndAlike
overlay_renames_end_alike world names name first second it task found fresh serves from old to new object replaced
    judged is = by replaced judged
  where
    by : (o : Option (Location ℕ))
        → judge_in nat_eq fresh world task (Rename first second) ≡ Ok (ToRename from old to new object o)
        → EndsAlike world names name (Rename first second) fresh fresh
    by None so = naming_through_ends (naming_of it task found fresh serves (ToRename from old to new object None) so
        from (Move from.node old to.node new object.node) refl tt) refl refl is refl refl
    by (Some gone) so =
        removal_through_ends (replacing task found fresh serves it from old to new object gone so) is (λ w. refl)
