-- What a permit leaves has the world's change number that was there: the policy's last step alone raises it.
use Rattle.std.proofs.Common.{◌≡◌, refl, ◌∙◌, ℕ, Bool, true, false, cond, nat_eq, List, [], ◌∷◌, Option, Some, None, is_some, filter, flat_map, map}
use Rattle.vt_spec.proofs.Common.{Change, CopyUp, Filesystem, Fresh, Layer, Location, Make, Mount, Move, Overlay, Permit, Remove, SetBytes, Task, ToChange, ToEnterNamespace, ToExit, ToMake, ToOpen, ToOpenNew, ToRemoveDirectory, ToRename, ToSetType, ToUnmount, ToUnmountLazily, ToUnshare, ToWritePart, World, after_going, apply, bytes_in, deepest_first, evens, filesystem_at, filesystem_changed, folded, going, is_copied_up, is_in_ended, list_any, lost_a_group, mount_numbered, mount_tree, mounts_on, named_mounts, namespace_entered, namespaces_ended, node_at, numbers_by, odds, overlay_changed, overwritten, pwritten, regrouped, regrouped_by, retyped_mount, taken_away, unmounted, unmounted_if_there, unshared, with_change, with_copy, with_mounts, with_new_groups, without_mounts_on, without_task}

-- a change of a filesystem, plain or overlay
by_upper : (fresh : Fresh ℕ) (world : World ℕ) (filesystem : Filesystem ℕ) (overlay : Overlay ℕ)
    (upper : Option (Layer ℕ)) (change : Change ℕ)
    → (overlay_changed nat_eq fresh world filesystem overlay upper change).change ≡ world.change
by_upper fresh world filesystem overlay None change = refl
by_upper fresh world filesystem overlay (Some upper) change = refl

by_overlay : (fresh : Fresh ℕ) (world : World ℕ) (filesystem : Filesystem ℕ) (overlay : Option (Overlay ℕ))
    (change : Change ℕ) → (filesystem_changed nat_eq fresh world filesystem overlay change).change ≡ world.change
by_overlay fresh world filesystem None change = refl
by_overlay fresh world filesystem (Some overlay) change = by_upper fresh world filesystem overlay overlay.upper change

changed_keeps : (fresh : Fresh ℕ) (world : World ℕ) (location : Location ℕ) (change : Change ℕ)
    → (with_change nat_eq fresh world location change).change ≡ world.change
changed_keeps fresh world location change =
    by_overlay fresh world (filesystem_at nat_eq world location) (filesystem_at nat_eq world location).overlay change

-- groups that end, and mounts that go
regrouped_keeps : (world : World ℕ) → (regrouped nat_eq world).change ≡ world.change
regrouped_keeps world = by (list_any (lost_a_group nat_eq world) world.mounts)
  where
    by : (lost : Bool) → (regrouped_by nat_eq lost world).change ≡ world.change
    by true = refl
    by false = refl

taken_keeps : (world : World ℕ) (gone : List ℕ) → (taken_away nat_eq world gone).change ≡ world.change
taken_keeps world gone = regrouped_keeps (with_mounts world (map (after_going nat_eq world gone) world.mounts))

on_keeps : (world : World ℕ) (location : Location ℕ) → (without_mounts_on nat_eq world location).change ≡ world.change
on_keeps world location = taken_keeps world
    (map (λ mount. mount.number) (flat_map (mount_tree nat_eq world.mounts) (mounts_on nat_eq world location)))

ended_keeps : (world : World ℕ) → (namespaces_ended nat_eq world).change ≡ world.change
ended_keeps world = taken_keeps world (map (λ mount. mount.number) (filter (is_in_ended nat_eq world) world.mounts))

event_keeps : (world : World ℕ) (number : ℕ) → (unmounted nat_eq world number).change ≡ world.change
event_keeps world number = taken_keeps world (going nat_eq world (mount_numbered nat_eq world number))

-- a lazy unmount
unmounted_keeps : (world : World ℕ) (mounts : List (Mount ℕ))
    → (folded (unmounted_if_there nat_eq) world mounts).change ≡ world.change
unmounted_keeps world [] = refl
unmounted_keeps world (mount ∷ rest) = unmounted_keeps (unmounted_if_there nat_eq world mount) rest
    ∙ by (is_some (mount_numbered nat_eq world mount.number).namespace)
  where
    by : (there : Bool) → (cond there (unmounted nat_eq world mount.number) world).change ≡ world.change
    by true = event_keeps world mount.number
    by false = refl

-- what is applied
module _ (fresh : Fresh ℕ) (world : World ℕ) (task : Task ℕ) where
  copied_keeps : (copied : Bool) (file : Location ℕ) → (with_copy nat_eq copied fresh world file).change ≡ world.change
  copied_keeps true file = changed_keeps fresh world file (CopyUp file.node)
  copied_keeps false file = refl

  written_keeps : (file : Location ℕ) (offset : ℕ) (bytes : List ℕ)
      → (pwritten nat_eq fresh world file offset bytes).change ≡ world.change
  written_keeps file offset [] = refl
  written_keeps file offset (byte ∷ bytes) = changed_keeps fresh world file
      (SetBytes file.node (overwritten offset (byte ∷ bytes) (bytes_in (node_at nat_eq world file))))

  pub applied_keeps : (permit : Permit ℕ) → (apply nat_eq fresh world task permit).world.change ≡ world.change
  applied_keeps (ToChange location change) = changed_keeps fresh world location change
  applied_keeps (ToMake directory name node) =
      changed_keeps (odds fresh) world directory (Make directory.node name (evens fresh 0) node)
  applied_keeps (ToRemoveDirectory parent name directory) =
      changed_keeps fresh (without_mounts_on nat_eq world directory) parent (Remove parent.node name directory.node)
      ∙ on_keeps world directory
  applied_keeps (ToRename from old to new object None) =
      changed_keeps fresh world from (Move from.node old to.node new object.node)
  applied_keeps (ToRename from old to new object (Some replaced)) =
      changed_keeps fresh (without_mounts_on nat_eq world replaced) from (Move from.node old to.node new object.node)
      ∙ on_keeps world replaced
  applied_keeps (ToOpen file access) = copied_keeps (is_copied_up nat_eq world file access) file
  applied_keeps (ToOpenNew directory name node access) =
      changed_keeps (odds fresh) world directory (Make directory.node name (evens fresh 0) node)
  applied_keeps (ToWritePart file offset bytes) = written_keeps file offset bytes
  applied_keeps ToExit = ended_keeps (without_task world task.name)
  applied_keeps ToUnshare = ended_keeps (unshared nat_eq world fresh task)
  applied_keeps (ToEnterNamespace namespace) = ended_keeps (namespace_entered nat_eq world task namespace)
  applied_keeps (ToUnmount mount) = event_keeps world mount
  applied_keeps (ToUnmountLazily mount) = unmounted_keeps world
      (deepest_first nat_eq world (mount_tree nat_eq world.mounts (mount_numbered nat_eq world mount)))
  applied_keeps (ToSetType mount word recursive) =
      let named = named_mounts nat_eq world mount recursive in
      let group = numbers_by nat_eq fresh named in
      regrouped_keeps (record world {
        mounts = map (retyped_mount nat_eq group word named) world.mounts;
        master = with_new_groups nat_eq group world.master named;
      })
  applied_keeps permit = refl
