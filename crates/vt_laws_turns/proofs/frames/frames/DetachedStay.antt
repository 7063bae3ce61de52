-- No call gives a detached mount other flags, a mount point or a namespace.
use Rattle.std.proofs.Common.{inl, inr, ◌≡◌, refl, sym, ap, subst, ◌∙◌, ⊎_elim, ℕ, suc, nat_eq, true, false, true≢false, List, [], ◌∷◌, ◌&&◌, Option, Some, None, Ok, filter, map, eqb-true, arith, option_to_list}
use Rattle.vt_spec.proofs.Common.{cases_Bool, Among, Call, Filesystem, Fresh, IsWorld, Location, Make, Mount, MountFlags, MountInvariants, MountOverlay, Move, Outcome, Permit, Private, Remove, Serves, Task, ToBind, ToChange, ToEnterNamespace, ToExit, ToMake, ToMountOverlay, ToMountPlain, ToMove, ToOpen, ToOpenNew, ToPivot, ToRemoveDirectory, ToRename, ToSetFlags, ToSetType, ToUnmount, ToUnmountLazily, ToUnshare, ToWritePart, World, among-from_filter, among_from_list_all, and_parts, apply, bind_tree, call_outcome, common_steps, copied_mount, evens, finished_unless, going, is_copied_up, is_in_ended, judge_in, list_all, looks_of, mount_at, mount_in, mount_lives, mount_numbered, mounted, mounts_of, namespace_entered, new_mount, none_is_some, number-mount_in, number-pivoted_mount, numbers_by, odds, overfills, overlay_at, overlay_filesystem, pivoted_mount, plain_filesystem, settled, taken_away, task_called, unshared, with_new_filesystem, without_mounts_on, without_replaced, without_task}
use Rattle.vt_laws_turns.proofs.Common.{IsGranted, KeepsView, NamesWhatIsThere, all_mounts_kept, all_permits_fit, call_is_judged_then_applied, calls_are_granted, change_of_files, copy_of_files, flags_are_of_one, found-append, found-map_there, found_itself, found_there, gone_on, is_mount, lazy_detaches_or_keeps, mounting_leaves_a_world, mounts_overlay, mounts_overlayfs, others_are_kept, policy_leads, taken_are_detached, type_is_all_that_changes, writing_of_files}
use Rattle.vt_laws_mounts.proofs.mounts.MountsAttached.{attach_keeps_mounts, moved_mounts_show}
use Rattle.vt_laws_turns.specs.Frames.Detached.{DetachedMountsStay}
use Rattle.vt_laws_turns.proofs.frames.frames.SameMounts.{one_record}
use Rattle.vt_laws_turns.proofs.frames.frames.ShownAlike.{permit_shown}

-- what is taken away, and what stays, keeps its flags
taken_flags : (world : World ℕ) (gone : List ℕ) (number : ℕ)
    → (mount_numbered nat_eq (taken_away nat_eq world gone) number).flags ≡ (mount_numbered nat_eq world number).flags
taken_flags world gone number = grind (arith, common_steps, taken_are_detached, others_are_kept)

pivoted_flags : (root new : Mount ℕ) (put : Location ℕ) (mount : Mount ℕ)
    → (pivoted_mount nat_eq root new put mount).flags ≡ mount.flags
pivoted_flags root new put mount = grind (arith, common_steps)

module _ (world : World ℕ) (fresh : Fresh ℕ) (task : Task ℕ) (is : IsWorld nat_eq world) where
  abbrev left : Permit ℕ → World ℕ
  left permit = (apply nat_eq fresh world task permit).world

  abbrev HasFlags : World ℕ → ℕ → Type 0
  HasFlags later number = (mount_numbered nat_eq later number).flags ≡ (mount_numbered nat_eq world number).flags

  -- where mounts are as they were
  alike : (later : World ℕ) (number : ℕ) → later.mounts ≡ world.mounts → HasFlags later number
  alike later number same = ap (λ list. (mount_in nat_eq list number).flags) same

  taken_then : (later : World ℕ) (gone : List ℕ) (number : ℕ) → later.mounts ≡ (taken_away nat_eq world gone).mounts
      → HasFlags later number
  taken_then later gone number same = cc (taken_flags world gone number)

  replaced_flags : (later : World ℕ) (replaced : Option (Location ℕ)) (number : ℕ)
      → later.mounts ≡ (without_replaced nat_eq world replaced).mounts → HasFlags later number
  replaced_flags later None number same = alike later number same
  replaced_flags later (Some location) number same = taken_then later (gone_on world location) number same

  -- namespaces that end
  ended_flags : (middle : World ℕ) (number : ℕ) → HasFlags middle number
      → HasFlags (taken_away nat_eq middle (map (λ (mount : Mount ℕ). mount.number)
      (filter (is_in_ended nat_eq middle) middle.mounts))) number
  ended_flags middle number same =
      taken_flags middle (map (λ (mount : Mount ℕ). mount.number) (filter (is_in_ended nat_eq middle) middle.mounts))
      number ∙ same

  -- mounts that are attached
  attached_flags : (filesystem : Filesystem ℕ) (new : Fresh ℕ) (place : Location ℕ) (flags : MountFlags) (number : ℕ)
      → is_mount world number ≡ true → HasFlags (mounted nat_eq new world place filesystem flags) number
  attached_flags filesystem new place flags number there =
      (attach_keeps_mounts (with_new_filesystem world filesystem) new place
      (new_mount filesystem.number filesystem.files.tree.root flags ∷ []) number there).flags

  pub flags_stay : (permit : Permit ℕ) → NamesWhatIsThere world task permit → (number : ℕ)
      → is_mount world number ≡ true → (mount_numbered nat_eq world number).namespace ≡ None
      → HasFlags (left permit) number
  flags_stay (ToChange location change) names number there none =
      alike (left (ToChange location change)) number (change_of_files fresh world location change).mounts
  flags_stay (ToMake directory name node) names number there none = alike (left (ToMake directory name node)) number
      (change_of_files (odds fresh) world directory (Make directory.node name (evens fresh 0) node)).mounts
  flags_stay (ToRemoveDirectory parent name directory) names number there none =
      taken_then (left (ToRemoveDirectory parent name directory)) (gone_on world directory) number
      (change_of_files fresh (without_mounts_on nat_eq world directory) parent
      (Remove parent.node name directory.node)).mounts
  flags_stay (ToRename from old to new object replaced) names number there none =
      replaced_flags (left (ToRename from old to new object replaced)) replaced number
      (change_of_files fresh (without_replaced nat_eq world replaced) from
      (Move from.node old to.node new object.node)).mounts
  flags_stay (ToOpen file access) names number there none = alike (left (ToOpen file access)) number
      (copy_of_files fresh world (is_copied_up nat_eq world file access) file).mounts
  flags_stay (ToOpenNew directory name node access) names number there none =
      alike (left (ToOpenNew directory name node access)) number
      (change_of_files (odds fresh) world directory (Make directory.node name (evens fresh 0) node)).mounts
  flags_stay (ToWritePart file offset bytes) names number there none =
      alike (left (ToWritePart file offset bytes)) number (writing_of_files fresh world file offset bytes).mounts
  flags_stay ToExit names number there none = ended_flags (without_task world task.name) number refl
  flags_stay ToUnshare names number there none = ended_flags (unshared nat_eq world fresh task) number
      (ap (λ (m : Mount ℕ). m.flags) (found-append world.mounts
      (map (copied_mount (numbers_by nat_eq (odds fresh) (mounts_of nat_eq world task.namespace)) (evens fresh 0))
      (mounts_of nat_eq world task.namespace)) number there))
  flags_stay (ToEnterNamespace namespace) names number there none =
      ended_flags (namespace_entered nat_eq world task namespace) number refl
  flags_stay (ToMountPlain place flags) names number there none =
      attached_flags (plain_filesystem nat_eq fresh) (odds fresh) place flags number there
  flags_stay (ToMountOverlay place overlay flags) names number there none = absurd names
  flags_stay (ToBind source place recursive) names number there none =
      (attach_keeps_mounts world fresh place (bind_tree nat_eq world source recursive) number there).flags
  flags_stay (ToMove mount place) names number there none =
      (moved_mounts_show world fresh (record { mount = mount; node = 0 }) place number is.mounts.one_number there).flags
  flags_stay (ToUnmount mount) names number there none =
      taken_flags world (going nat_eq world (mount_numbered nat_eq world mount)) number
  flags_stay (ToUnmountLazily mount) names number there none =
      ⊎_elim (λ gone. ap (λ (m : Mount ℕ). m.flags) gone) (λ kept. kept.flags)
      (lazy_detaches_or_keeps world mount number)
  flags_stay (ToSetFlags mount flags) names number there none = elim (cases_Bool (nat_eq mount number)) [
    | inl e ↦ none_is_some task.namespace (cc (eqb-true mount number e))
    | inr e ↦ cc (flags_are_of_one world (record { mount = mount; node = 0 }) flags number e)
  ]
  flags_stay (ToSetType mount word recursive) names number there none =
      (type_is_all_that_changes world fresh mount word recursive number).flags
  flags_stay (ToPivot new put) names number there none =
      let root : Mount ℕ = mount_at nat_eq world task.root in
      cc (
        found-map_there (pivoted_mount nat_eq root (mount_numbered nat_eq world new) put) (number-pivoted_mount
            root (mount_numbered nat_eq world new) put) world.mounts number there,
        pivoted_flags root (mount_numbered nat_eq world new) put (mount_numbered nat_eq world number),
      )
  flags_stay permit names number there none = refl

-- what is in no namespace stays in none
none_later : (before later : Mount ℕ) → KeepsView before later → before.namespace ≡ None → later.namespace ≡ None
none_later before later view none = by later.namespace refl
  where
    by : (o : Option ℕ) → later.namespace ≡ o → later.namespace ≡ None
    by None e = e
    by (Some n) e =
        let in_it : (nat_eq (suc n) n && true) ≡ true = sym (ap (λ o. list_all (nat_eq (suc n)) (option_to_list o)) e)
        ∙ view.namespace (suc n) (ap (λ o. list_all (nat_eq (suc n)) (option_to_list o)) none) in
        let same : suc n ≡ n = eqb-true (suc n) n (and_parts (nat_eq (suc n) n) true in_it).0 in
        absurd (omega (arith, same))

-- a mount in no namespace has no mount point, and is private
nowhere_is : (world : World ℕ) → MountInvariants nat_eq world → (mount : Mount ℕ) → Among mount world.mounts
    → mount.namespace ≡ None → (mount.mount_point ≡ None) × (mount.propagation ≡ Private)
nowhere_is world is mount m none = grind (arith, common_steps, and_parts, among_from_list_all, true≢false)

module _ {world : World ℕ} {fresh : Fresh ℕ} {task : Task ℕ} (call : Call) {permit : Permit ℕ}
    (is : IsWorld nat_eq world) (serves : Serves nat_eq world fresh) (called : task_called world task.name ≡ Some task)
    (granted : judge_in nat_eq fresh world task call ≡ Ok permit) where
  abbrev applied : World ℕ
  applied = (apply nat_eq fresh world task permit).world

  -- what a permit leaves of a detached mount
  record LeavesDetached (given : Permit ℕ) : Type 0 where
    mounts : MountInvariants nat_eq (apply nat_eq fresh world task given).world
    flags : (number : ℕ) → is_mount world number ≡ true → (mount_numbered nat_eq world number).namespace ≡ None
        → (mount_numbered nat_eq (apply nat_eq fresh world task given).world number).flags
        ≡ (mount_numbered nat_eq world number).flags

  outcome : call_outcome nat_eq fresh world task call ≡ apply nat_eq fresh world task permit
  outcome = cc (call_is_judged_then_applied fresh world task call, granted)

  mounted_world : (asked : Call) → mounts_overlay asked ≡ true
      → IsWorld nat_eq (call_outcome nat_eq fresh world task asked).world
  mounted_world (MountOverlay path options flags) e =
      mounting_leaves_a_world fresh world task path options flags is serves called
  mounted_world asked e = cc

  mounting : (asked : Call) (given : Permit ℕ)
      → IsGranted nat_eq (looks_of nat_eq world) (overfills nat_eq fresh world task) task asked given
      → mounts_overlay asked ≡ true → (number : ℕ) → is_mount world number ≡ true
      → (mount_numbered nat_eq (apply nat_eq fresh world task given).world number).flags
      ≡ (mount_numbered nat_eq world number).flags
  mounting asked given (mounts_overlayfs path words wanted here places admin end walked layered passed) e number there =
      attached_flags world fresh task is
      (overlay_filesystem nat_eq (evens fresh) world (overlay_at (looks_of nat_eq world) task places)) (odds fresh)
      here.location wanted number there
  mounting asked given other e number there = cc

  leaves_detached : LeavesDetached permit
  leaves_detached = elim (cases_Bool (mounts_overlay call)) [
    | inl e ↦ record {
      mounts = subst (λ (o : Outcome ℕ). MountInvariants nat_eq o.world) outcome (mounted_world call e).mounts;
      flags = λ number there none. mounting call permit
          (calls_are_granted nat_eq (looks_of nat_eq world) (overfills nat_eq fresh world task) task call permit
          granted) e number there;
    }
    | inr e ↦ let fits = all_permits_fit world fresh task call permit is serves called e granted in record {
      mounts = all_mounts_kept world fresh task permit is serves called fits;
      flags = flags_stay world fresh task is permit fits.names;
    }
  ]

  pub detached_stays : (number : ℕ) → is_mount world number ≡ true
      → (mount_numbered nat_eq world number).namespace ≡ None → is_mount (settled nat_eq applied) number ≡ true
      → mount_numbered nat_eq (settled nat_eq applied) number ≡ mount_numbered nat_eq world number
  detached_stays number there none left =
      let its = leaves_detached in
      let now : Mount ℕ = mount_numbered nat_eq (settled nat_eq applied) number in
      let m : Among now applied.mounts = (among-from_filter (mount_lives nat_eq applied) applied.mounts now
      (found_there (settled nat_eq applied).mounts number left)).0 in
      let numbered : now.number ≡ number = number-mount_in (settled nat_eq applied).mounts number in
      let same : mount_numbered nat_eq applied number ≡ now =
      cc (numbered, found_itself applied.mounts its.mounts.one_number now m) in
      let view : KeepsView (mount_numbered nat_eq world number) now =
      subst (KeepsView (mount_numbered nat_eq world number)) same
      ((permit_shown call is serves called granted).1.views number there) in
      let nowhere : now.namespace ≡ None = none_later (mount_numbered nat_eq world number) now view none in
      let was = nowhere_is world is.mounts (mount_numbered nat_eq world number)
      (found_there world.mounts number there) none in
      let be = nowhere_is applied its.mounts now m nowhere in
      grind (arith, common_steps, one_record, number-mount_in)

pub detached_mounts_stay : DetachedMountsStay
detached_mounts_stay world fresh name call number given there none = policy_leads (λ later. is_mount later number ≡ true
    → mount_numbered nat_eq later number ≡ mount_numbered nat_eq world number) world fresh name call (λ left. refl)
    (λ task permit changed called granted.
    let outcome : call_outcome nat_eq fresh world task call ≡ apply nat_eq fresh world task permit =
    cc (call_is_judged_then_applied fresh world task call) in
    subst (λ (o : Outcome ℕ). is_mount (finished_unless nat_eq false world name changed o).world number ≡ true
    → mount_numbered nat_eq (finished_unless nat_eq false world name changed o).world number
    ≡ mount_numbered nat_eq world number) (sym outcome)
    (detached_stays call given.is given.serves called granted number there none))
