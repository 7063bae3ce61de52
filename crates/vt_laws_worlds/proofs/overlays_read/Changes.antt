-- What a permit changes is no overlay without an upper layer.
use Rattle.std.proofs.Common.{arith, Bool, List, None, Option, Some, [], ap, false, is_some, nat_eq, not, refl, subst, sym, true, true≢false, ℕ, ◌&&◌, ◌==◌, ◌∷◌, ◌≡◌}
use Rattle.vt_spec.proofs.Common.{Access, Call, Change, CopyUp, Descriptor, Filesystem, Fresh, Location, Looks, Overlay, Permit, Task, ToOpen, World, among_from_list_all, and_true_left, and_true_right, common_steps, descriptor_found, descriptor_numbered, filesystem_at, found_among, has_no_upper, is_copied_up, is_overlay, lies_only_in_lowers, list_all, looks_of, mount_at, of_overlay, opens_for_writing, or_parts, overfills, overlay_or, when, ⊤}
use Rattle.vt_laws_trees.specs.Calls.Inodes.{change_of, written_if_some}
use Rattle.vt_laws_mounts.specs.Counts.BesideOverlays.{OverlaysHaveNoUpper}
use Rattle.vt_laws_worlds.proofs.overlays_stay.left.Given.{given_to_task}
use Rattle.vt_laws_worlds.specs.Given.LeftWorlds.{IsGivenToTask}
use Rattle.vt_laws_worlds.specs.OverlayPermits.Asked.{change_asked}
use Rattle.vt_laws_worlds.specs.OverlaysRead.Writers.{ChangesHaveLayers, OpensCopyNothing, PlainOnesAreChanged, WritersHaveLayers, writes_to_a_layer}
use Rattle.vt_laws_rules.proofs.given.Ways.{calls_are_granted}
use Rattle.vt_laws_rules.proofs.given.Ways.{IsGranted}
use Rattle.vt_laws_rules.proofs.given.Ways.IsGranted.{changes_mark, changes_mode, changes_owner, creates, creates_exclusively, makes_directory, makes_hard_link, makes_symlink, makes_whiteout, opens, opens_existing, overwrites_file, removes_directory, renames, unlinks, writes_new_file, writes_part}
use Rattle.vt_laws_trees.proofs.trees.TreesOfWorlds.{numbered_anyhow}
use Rattle.vt_laws_trees.proofs.trees.TreesTasks.{called_there}

module _ (world : World ℕ) (task : Task ℕ) (fresh : Fresh ℕ) where
  abbrev looks : Looks ℕ
  looks = looks_of nat_eq world

  -- what is changed is no overlay without an upper layer
  abbrev HasLayer : Option (Location ℕ × Change ℕ) → Type 0
  HasLayer None = ⊤
  HasLayer (Some made) = has_no_upper looks made.0 ≡ false

  -- open(2) of a file that exists
  opened : (file : Location ℕ) (access : Access) → (opens_for_writing access && has_no_upper looks file) ≡ false
      → HasLayer (change_asked fresh world (ToOpen file access))
  opened file access refused = grind (arith, common_steps, and_true_left)

  -- a descriptor that is open for writing
  written : (number : ℕ) (descriptor : Descriptor ℕ) → list_all (writes_to_a_layer world) task.descriptors ≡ true
      → descriptor_numbered task number ≡ Some descriptor → descriptor.writes ≡ true
      → has_no_upper looks descriptor.location ≡ false
  written number descriptor well found writes = by _ (cc (among_from_list_all (writes_to_a_layer world) task.descriptors
      well descriptor (found_among (λ (d : Descriptor ℕ). number == d.number) task.descriptors descriptor found)))
    where
      by : (b : Bool) → not b ≡ true → b ≡ false
      by true e = sym e
      by false e = refl

  -- no bytes change nothing
  part_written : (file : Location ℕ) (offset : ℕ) (bytes : List ℕ) → has_no_upper looks file ≡ false
      → HasLayer (written_if_some world file offset bytes)
  part_written file offset [] layer = tt
  part_written file offset (byte ∷ bytes) layer = layer

  -- each way in which a call is granted: F2
  granted_has_layer : (call : Call) (permit : Permit ℕ) → list_all (writes_to_a_layer world) task.descriptors ≡ true
      → IsGranted nat_eq looks (overfills nat_eq fresh world task) task call permit
      → HasLayer (change_asked fresh world permit)
  granted_has_layer call permit well (overwrites_file path bytes place file end named there passed) = passed.1.1.1.1.0
  granted_has_layer call permit well (writes_new_file path bytes place end named missing fits passed) = passed.1.0
  granted_has_layer call permit well (makes_directory path mode place end passed) = passed.1.1.1.0
  granted_has_layer call permit well (makes_symlink text path place fits end passed) = passed.1.1.1.0
  granted_has_layer call permit well (makes_whiteout path place end passed) = passed.1.1.1.0
  granted_has_layer call permit well (makes_hard_link old new from place from_end end named passed) = passed.1.1.1.0
  granted_has_layer call permit well (unlinks path place end named passed) = passed.1.1.0
  granted_has_layer call permit well (removes_directory path place end word passed) = passed.1.1.1.0
  granted_has_layer call permit well (renames old new from to names two passed) = (or_parts _ _ passed.1.1.1.1.1.0).0
  granted_has_layer call permit well (changes_mode path mode here end passed) = passed.1.0
  granted_has_layer call permit well (changes_owner path uid gid here end passed) = passed.1.0
  granted_has_layer call permit well (changes_mark path mark here admin end passed) = passed.1.0
  granted_has_layer call permit well (opens path access here room end passed) = opened _ access passed.1.1.1.0
  granted_has_layer call permit well (opens_existing path access mode place file room end named there passed) =
      opened file access passed.1.1.1.0
  granted_has_layer call permit well (creates path access mode place room end named missing passed) = passed.1.0
  granted_has_layer call permit well (creates_exclusively path access mode place room end named passed) = passed.1.0
  granted_has_layer call permit well (writes_part number offset bytes descriptor found passed) =
      let there = descriptor_found task number _ _ found in
      part_written _ offset bytes (written number _ well there.0 there.1)
  granted_has_layer call permit well granted = tt

-- the descriptors of the task that calls
pub caller_has_layers : (world : World ℕ) (fresh : Fresh ℕ) (task : Task ℕ) (permit : Permit ℕ)
    → WritersHaveLayers world → IsGivenToTask fresh world task permit
    → list_all (writes_to_a_layer world) task.descriptors ≡ true
caller_has_layers world fresh task permit well given =
    among_from_list_all (λ (t : Task ℕ). list_all (writes_to_a_layer world) t.descriptors) world.tasks well task
    (called_there world.tasks task.name task given.called)

pub changes_have_layers : ChangesHaveLayers
changes_have_layers world fresh task permit location change well given asks = subst (HasLayer world task fresh) asks
    (granted_has_layer world task fresh _ permit (caller_has_layers world fresh task permit well given)
    (calls_are_granted nat_eq _ _ task _ permit given.judged))

-- where no overlay has an upper layer, one with an upper layer is none
plain_there : (world : World ℕ) (location : Location ℕ) → OverlaysHaveNoUpper world
    → has_no_upper (looks_of nat_eq world) location ≡ false → is_overlay (filesystem_at nat_eq world location) ≡ false
plain_there world location none layer = by (filesystem_at nat_eq world location).overlay
    (numbered_anyhow (λ (f : Filesystem ℕ). of_overlay false (λ overlay. is_some overlay.upper) f ≡ false)
    (mount_at nat_eq world location).filesystem world.filesystems none refl) layer
  where
    upper : (b : Bool) → b ≡ false → not b ≡ false → ⊥
    upper true e f = true≢false e
    upper false e f = true≢false f

    by : (o : Option (Overlay ℕ)) → overlay_or false (λ overlay. is_some overlay.upper) o ≡ false
        → overlay_or false (λ overlay. not (is_some overlay.upper)) o ≡ false → is_some o ≡ false
    by None e f = refl
    by (Some overlay) e f = absurd (upper (is_some overlay.upper) e f)

-- what changes something, open(2) aside, asks for that change
asked_so : (fresh : Fresh ℕ) (world : World ℕ) (permit : Permit ℕ) (made : Location ℕ × Change ℕ)
    → change_of fresh world permit ≡ Some made → change_asked fresh world permit ≡ Some made
asked_so fresh world (ToOpen file access) made e = cc
asked_so fresh world permit made e = e

pub plain_ones_are_changed : PlainOnesAreChanged
plain_ones_are_changed world fresh task permit location change none well given asks = plain_there world location none
    (changes_have_layers world fresh task permit location change well (given_to_task fresh world task permit given)
    (asked_so fresh world permit (location, change) asks))

pub opens_copy_nothing : OpensCopyNothing
opens_copy_nothing world fresh task file access none well given = by _ refl
  where
    -- what is copied up is in an overlay
    overlaid : (o : Option (Overlay ℕ)) (test : Overlay ℕ → Bool) → overlay_or false test o ≡ true → is_some o ≡ true
    overlaid None test e = e
    overlaid (Some overlay) test e = refl

    by : (b : Bool) → is_copied_up nat_eq world file access ≡ b → b ≡ false
    by true e = cc (
      overlaid (filesystem_at nat_eq world file).overlay (λ overlay. lies_only_in_lowers overlay
          file.node) (and_true_right (opens_for_writing access) _ e),
      plain_there world file none (changes_have_layers world fresh task (ToOpen file access) file (CopyUp file.node)
          well (given_to_task fresh world task (ToOpen file access) given)
          (ap (λ copied. when copied (file, CopyUp file.node)) e)),
    )
    by false e = refl
