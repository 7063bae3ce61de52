-- Each call on files leaves the filesystems as they were, or with one change that is granted.
use Rattle.std.proofs.Common.{arith, List, None, Option, Some, [], ap, eqb-true, false, inl, is_some, nat_eq, ne_eqb, option_map, refl, subst, sym, true, true≢false, unwrap_or, ℕ, ◌||◌, ◌∙◌, ◌∷◌, ◌≡◌, ◌≢◌, Result, Ok, option_to_list}
use Rattle.vt_spec.proofs.Common.{Access, Call, Change, Fresh, Here, IsWorld, Location, Node, NoneFails, Overlay, Permit, Place, Stop, Task, ToOpen, World, apply, common_steps, file_mode, filesystem_at, filesystems-without_replaced, is_among, is_locked, is_locked_at, is_special, linking, list_any, looks_of, mount_at, moving, new_file, node_at, not-false, object_there, or_false_left, or_false_right, or_from, or_parts, overfills, pwritten, rename_rules, shown-without_replaced, task_called, with_change, with_new, without_replaced}
use Rattle.vt_laws_trees.proofs.trees.TreesWalked.{Ends, IsOldPlace, ends_old_leaf_walk, place_named, at_end}
use Rattle.vt_laws_trees.specs.Layers.Layers.Upper.{SpeaksOfWhatIsThere}
use Rattle.vt_laws_trees.proofs.layers.locked.Change.{IsNew, Leaves, leaves_change}
use Rattle.vt_laws_trees.proofs.layers.layers.LowersCalls.{unlocked_differs}
use Rattle.vt_laws_trees.proofs.layers.layers.LowersMounts.{same_filesystems_without, same_mounted_without}
use Rattle.vt_spec.proofs.NodeChanges.{allowed_is_there}
use Rattle.vt_laws_rules.proofs.given.Ways.{IsGranted}
use Rattle.vt_spec.specs.Machine.Judging.{directory_made, symlink_made, whiteout_made}
use Rattle.vt_laws_rules.proofs.given.Ways.IsGranted.{changes_mark, changes_mode, changes_owner, creates, creates_exclusively, makes_directory, makes_hard_link, makes_symlink, makes_whiteout, mounts_overlayfs, mounts_tmpfs, opens, opens_existing, overwrites_file, removes_directory, renames, unlinks, writes_new_file, writes_part}
use Rattle.vt_laws_trees.proofs.layers.locked.Walks.{descriptor_there, link_walk_there, object_walk_there}
use Rattle.vt_laws_trees.specs.Layers.Layers.Untouched.{changes_no_mount, inodes_changed}
use Rattle.vt_laws_trees.proofs.trees.ChangesByOthers.{files_stay}

-- an entry is the location of its object
entry_is : (mount : ℕ) (o : Option ℕ) (at : Option (Location ℕ)) (parent : Location ℕ)
    → at ≡ option_map (λ object. record { mount = mount; node = object }) o → is_some at ≡ true
    → o ≡ Some (unwrap_or at parent).node
entry_is mount None at parent e is = cc
entry_is mount (Some object) at parent e is = ap (λ a. Some (unwrap_or a parent).node) (sym e)

module _ (world : World ℕ) (fresh : Fresh ℕ) (task : Task ℕ) where
  abbrev Left : World ℕ → Type 0
  Left = Leaves world fresh

  same : Left world
  same = inl refl

  abbrev NodeThere : Location ℕ → Type 0
  NodeThere location = is_some (node_at nat_eq world location) ≡ true

  abbrev Speaks : Location ℕ → Change ℕ → Type 0
  Speaks location change = SpeaksOfWhatIsThere (filesystem_at nat_eq world location).files change

  abbrev Differs : Location ℕ → ℕ → Type 0
  Differs location node = (inode : ℕ) → is_locked nat_eq world (mount_at nat_eq world location).filesystem inode ≡ true
      → nat_eq inode node ≡ false

  -- what is not locked is no inode that is
  differs : (location : Location ℕ) → is_locked_at nat_eq world location ≡ false → Differs location location.node
  differs location unlocked inode locked = unlocked_differs world _ inode locked location unlocked refl

  change_left : (supply : Fresh ℕ) → ((inode : ℕ) → IsNew world fresh inode → (k : ℕ) → inode ≢ supply k)
      → (location : Location ℕ) (change : Change ℕ)
      → ((inode : ℕ) → is_locked nat_eq world (mount_at nat_eq world location).filesystem inode ≡ true
      → IsNew world fresh inode → is_among nat_eq inode
      (Rattle.vt_laws_trees.specs.Layers.Layers.Untouched.inodes_changed change) ≡ false)
      → ((overlay : Overlay ℕ) → (filesystem_at nat_eq world location).overlay ≡ Some overlay → Speaks location change)
      → Left (Rattle.vt_spec.specs.Machine.Filesystems.with_change nat_eq supply world location change)
  change_left supply part location change unlocked there =
      leaves_change world fresh supply world location change refl refl
      (record { part = part; unlocked = unlocked; there = there })

  whole : (inode : ℕ) → IsNew world fresh inode → (k : ℕ) → inode ≢ fresh k
  whole inode new = new

  -- a new object in a directory that is there and not locked
  new_left : (place : Place ℕ) (node : Node ℕ) → is_locked_at nat_eq world place.parent ≡ false → NodeThere place.parent
      → Left (with_new nat_eq fresh world place node)
  new_left place node unlocked there = grind (arith, common_steps, change_left, or_from, ne_eqb, differs)

  -- a change of one inode that is there and not locked
  one_left : (location : Location ℕ) (change : Change ℕ) → inodes_changed change ≡ location.node ∷ []
      → is_locked_at nat_eq world location ≡ false
      → ((overlay : Overlay ℕ) → (filesystem_at nat_eq world location).overlay ≡ Some overlay → Speaks location change)
      → Left (with_change nat_eq fresh world location change)
  one_left location change is unlocked = change_left fresh whole location change (λ inode locked new.
      cc (is, or_from (nat_eq inode location.node) false (differs location unlocked inode locked) refl))

  opened_left : (file : Location ℕ) (access : Access) → NodeThere file
      → Left (apply nat_eq fresh world task (ToOpen file access)).world
  opened_left file access there = grind (arith, common_steps, change_left, whole, same)

  pwritten_left : (file : Location ℕ) (offset : ℕ) (bytes : List ℕ) → is_locked_at nat_eq world file ≡ false
      → NodeThere file → Left (pwritten nat_eq fresh world file offset bytes)
  pwritten_left file offset [] unlocked there = same
  pwritten_left file offset (byte ∷ bytes) unlocked there = change_left fresh
      whole file _ (λ inode locked new. or_from _ false (differs file unlocked inode locked) refl) (λ overlay is. there)

  renamed_left : (from to : Place ℕ) → IsOldPlace world task from → is_special from.last ≡ false
      → NoneFails (rename_rules nat_eq (looks_of nat_eq world) task from to (object_there from))
      → Left (with_change nat_eq fresh (without_replaced nat_eq world to.object) from.parent
      (moving from to (object_there from)))
  renamed_left from to is word passed = leaves_change world fresh fresh _ from.parent _
      (filesystems-without_replaced world to.object) (shown-without_replaced world to.object from.parent) (record {
        part = whole;
        unlocked = λ inode locked new. or_from _ _ (differs from.parent of_from.0 inode locked) (or_from
            (nat_eq inode to.parent.node) false (differs to.parent (or_false_left _ _ of_from.1) inode (subst (λ m.
            is_locked nat_eq world (mount_at nat_eq world (record { mount = m; node = from.parent.node })).filesystem
            inode ≡ true) one_mount locked)) refl);
        there = λ overlay has. (
          entry_is _ _ from.object from.parent (place_named world from.parent from.last from.object word is.0).1 is.1,
          subst (λ m. NodeThere (record { mount = m; node = to.parent.node }))
              (sym one_mount) (allowed_is_there _ _ _ (or_false_right _ _ passed.1.1.1.1.1.1.1.1.1.0)),
        );
      })
    where
      of_from : (is_locked_at nat_eq world from.parent ≡ false)
          × ((is_locked_at nat_eq world to.parent || (is_locked_at nat_eq world (object_there from)
          || list_any (is_locked_at nat_eq world) (option_to_list to.object))) ≡ false)
      of_from = or_parts (is_locked_at nat_eq world from.parent) _ passed.1.1.1.1.1.1.0

      one_mount : from.parent.mount ≡ to.parent.mount
      one_mount = eqb-true from.parent.mount to.parent.mount (not-false _ passed.1.1.1.1.1.1.1.1.0)

-- each way in which a call is granted
module _ (fresh : Fresh ℕ) (world : World ℕ) (task : Task ℕ) (conditions : IsWorld nat_eq world)
    (called : task_called world task.name ≡ Some task) where
  -- what a walk ends at is there
  there_at : (walk : Result (Here ℕ) (Stop ℕ)) (here : Here ℕ) → walk ≡ Ok here
      → Ends (λ (h : Here ℕ). is_some (node_at nat_eq world h.location) ≡ true) walk
      → is_some (node_at nat_eq world here.location) ≡ true
  there_at walk here end ends = at_end _ walk here ends end

  pub granted_left : (call : Call) (permit : Permit ℕ) → changes_no_mount call ≡ true
      → IsGranted nat_eq (looks_of nat_eq world) (overfills nat_eq fresh world task) task call permit
      → Leaves world fresh (apply nat_eq fresh world task permit).world
  granted_left call permit c (overwrites_file path bytes place file end named there passed) = one_left world
      fresh task file _ refl passed.1.1.1.1.1.0 (λ overlay is. allowed_is_there _ _ _ passed.1.1.1.1.1.1.0)
  granted_left call permit c (writes_new_file path bytes place end named missing fits passed) =
      new_left world fresh task place (new_file task file_mode bytes) passed.1.1.0
      (allowed_is_there _ _ _ passed.1.1.1.0)
  granted_left call permit c (makes_directory path mode place end passed) =
      new_left world fresh task place (directory_made task place mode) passed.1.1.1.1.0
      (allowed_is_there _ _ _ passed.1.1.1.1.1.0)
  granted_left call permit c (makes_symlink text path place fits end passed) =
      new_left world fresh task place (symlink_made task text) passed.1.1.1.1.0
      (allowed_is_there _ _ _ passed.1.1.1.1.1.0)
  granted_left call permit c (makes_whiteout path place end passed) =
      new_left world fresh task place (whiteout_made task) passed.1.1.1.1.0 (allowed_is_there _ _ _ passed.1.1.1.1.1.0)
  granted_left call permit c (makes_hard_link old name from place from_end end named passed) = one_left world
      fresh task place.parent (linking from.location place) refl (or_false_right _ _ passed.1.1.1.1.0) (λ overlay is. (
        allowed_is_there _ _ _ passed.1.1.1.1.1.1.0,
        subst (λ m. is_some (node_at nat_eq world (record { mount = m; node = from.location.node })) ≡ true)
            (eqb-true from.location.mount place.parent.mount (not-false _ passed.1.1.1.1.1.0))
            (there_at _ from from_end (link_walk_there world conditions task called old)),
      ))
  granted_left call permit c (unlinks path place end named passed) = one_left world fresh task
      place.parent _ refl (or_false_right _ _ passed.1.1.1.0) (λ overlay is. allowed_is_there _ _ _ passed.1.1.1.1.0)
  granted_left call permit c (removes_directory path place end word passed) = leaves_change world fresh
      fresh _ place.parent _ (same_filesystems_without world _) (same_mounted_without world _ place.parent) (record {
        part = λ inode new. new;
        unlocked = λ inode locked new. or_from (nat_eq inode place.parent.node)
            false (differs world fresh task place.parent (or_false_right _ _ passed.1.1.1.1.0) inode locked) refl;
        there = λ overlay is. allowed_is_there _ _ _ passed.1.1.1.1.1.1.0;
      })
  granted_left call permit c (renames old name from to names two passed) = renamed_left world
      fresh task from to (at_end _ _ from (ends_old_leaf_walk world task old) names.from_end) names.from_named.0 passed
  granted_left call permit c (changes_mode path mode here end passed) =
      one_left world fresh task here.location _ refl passed.1.1.0
      (λ overlay is. there_at _ here end (object_walk_there world conditions task called path))
  granted_left call permit c (changes_owner path uid gid here end passed) =
      one_left world fresh task here.location _ refl passed.1.1.0
      (λ overlay is. there_at _ here end (object_walk_there world conditions task called path))
  granted_left call permit c (changes_mark path mark here admin end passed) = one_left world fresh
      task here.location _ refl passed.1.1.0 (λ overlay is. absurd (true≢false (sym (ap is_some is) ∙ passed.1.1.1.0)))
  granted_left call permit c (opens path access here room end passed) =
      opened_left world fresh task here.location access (allowed_is_there _ _ _ passed.1.1.1.1.1.0)
  granted_left call permit c (opens_existing path access mode place file room end named there passed) =
      opened_left world fresh task file access (allowed_is_there _ _ _ passed.1.1.1.1.1.0)
  granted_left call permit c (creates path access mode place room end named missing passed) =
      new_left world fresh task place (new_file task mode []) passed.1.1.0 (allowed_is_there _ _ _ passed.1.1.1.0)
  granted_left call permit c (creates_exclusively path access mode place room end named passed) =
      new_left world fresh task place (new_file task mode []) passed.1.1.0 (allowed_is_there _ _ _ passed.1.1.1.0)
  granted_left call permit c (writes_part number offset bytes descriptor found passed) = pwritten_left world fresh task
      _ offset bytes passed.1.0 (descriptor_there world conditions task called number (λ d. d.writes) descriptor found)
  granted_left call permit c (mounts_tmpfs path flags here admin end passed) = absurd (true≢false (sym c))
  granted_left call permit c (mounts_overlayfs path words flags here layers admin end walked layered passed) =
      absurd (true≢false (sym c))
  granted_left call permit c granted = inl (files_stay fresh world task permit refl)
