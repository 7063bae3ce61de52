-- A granted call goes through the filesystem of the location that it changes.
use Rattle.std.proofs.Common.{arith, ◌≡◌, ◌≢◌, refl, ap, subst, ◌∙◌, true≢false, ne_eqb, ℕ, nat_eq, ◌*◌, ◌+◌, Bool, true, false, [], ◌∷◌, Option, Some, None, Ok, is_some}
use Rattle.vt_spec.proofs.Common.{AddName, Among, Call, Change, CopyUp, FileTree, Fresh, IsWorld, Location, Make, Move, Permit, Remove, SetAttr, SetBytes, SetMark, Task, ToChange, ToMake, ToOpen, ToOpenNew, ToWritePart, World, among-append_left, among_from_contains, any_from_among, apply, call_outcome, common_steps, directory_used, files_at, filesystem_at, filesystem_numbered, is_among, is_copied_up, is_overlay, judge_in, layers_of, lies_or_counts_under, live_layers, looks_of, mount_at, none_is_some, odds, or_from, upper_and_work, when, ⊤}
use Rattle.vt_laws_rules.specs.Given.{IsFor}
use Rattle.vt_laws_rules.proofs.judged.CallsJudged.{call_is_judged_then_applied}
use Rattle.vt_laws_rules.proofs.given.GivenPermits.{permits_are_for_their_calls}
use Rattle.vt_laws_trees.specs.Layers.Layers.Locked.{GoesThrough}
use Rattle.vt_laws_trees.specs.Layers.Layers.Untouched.{changes_no_mount, inodes_changed}
use Rattle.vt_laws_trees.specs.Layers.Layers.Upper.{SpeaksOfWhatIsThere}
use Rattle.vt_laws_trees.proofs.layers.locked.Apart.{layer_among, layer_plain, no_other, no_overlay_in}
use Rattle.vt_laws_trees.proofs.layers.locked.Change.{IsChanged, changed_in, changed_stays}
use Rattle.vt_laws_trees.proofs.layers.layers.LowersCalls.{same_filesystem}
use Rattle.vt_laws_trees.proofs.layers.layers.LowersWorld.{changed_elsewhere, number_of_filesystem}
use Rattle.vt_laws_trees.proofs.layers.layers.UpperLine.{has_entries}
use Rattle.vt_laws_worlds.specs.OverlayPermits.Asked.{AsksWell, AsksWellIf, change_asked}
use Rattle.vt_laws_worlds.specs.OverlayPermits.Changed.{numbers_left}
use Rattle.vt_laws_worlds.specs.OverlayPermits.Through.{CallsGoThroughTheirLocation, OtherCallsLeaveFilesystems}
use Rattle.vt_laws_worlds.specs.OverlayPermits.Unlocked.{SparesInode, SparesLocked, SparesLockedIf}
use Rattle.vt_laws_worlds.proofs.overlay_permits.asked.Asked.{permits_ask_well}
use Rattle.vt_laws_worlds.proofs.overlay_permits.kept.KeptOverlays.{permits_make_their_change}
use Rattle.vt_laws_worlds.proofs.overlay_permits.asked.Unlocked.{permits_spare_what_is_locked}

-- A change of a filesystem goes through it
goes_by_change : (fresh : Fresh ℕ) (world later : World ℕ) → IsWorld nat_eq world
    → (change : IsChanged world fresh later.filesystems) → GoesThrough fresh world later change.mounted
goes_by_change fresh world later conditions change = record {
  elsewhere = λ number differ upper.
      same_filesystem (changed_in change.supply world change.mounted change.change) later number change.so
      ∙ changed_elsewhere change.supply world (filesystem_numbered nat_eq world change.mounted) change.change number
      (λ e. differ (e ∙ number_of_filesystem world change.mounted)) upper;
  others = λ number overlay layer inode differ is contains lies new.
      let m : Among layer (upper_and_work overlay) = among_from_contains (upper_and_work overlay) layer contains in
      let in_layers : Among layer (layers_of overlay) = among-append_left
      (upper_and_work overlay) overlay.lowers layer m in
      changed_stays world fresh conditions layer.filesystem inode
      (any_from_among (lies_or_counts_under nat_eq world layer.filesystem inode) (live_layers world) layer
      (layer_among world layers_of number overlay is layer in_layers) lies)
      new (no_overlay_in world conditions layer (layer_plain world conditions number overlay is layer in_layers))
      later change (λ other upper i has at object.
      no_other world conditions change.mounted other i upper has inode object number differ overlay is layer m
      (subst (λ n. lies_or_counts_under nat_eq world n inode layer ≡ true) at lies));
}

-- what is made has the first of the new numbers
abbrev MakesNew : Fresh ℕ → Change ℕ → Type 0
MakesNew fresh (Make directory name number node) = number ≡ fresh 0
MakesNew fresh (AddName directory name object) = ⊤
MakesNew fresh (Remove directory name object) = ⊤
MakesNew fresh (Move from old to new object) = ⊤
MakesNew fresh (SetBytes file bytes) = ⊤
MakesNew fresh (SetAttr object attr) = ⊤
MakesNew fresh (SetMark directory opaque) = ⊤
MakesNew fresh (CopyUp object) = ⊤

abbrev MakesNewIf : Fresh ℕ → Option (Location ℕ × Change ℕ) → Type 0
MakesNewIf fresh None = ⊤
MakesNewIf fresh (Some made) = MakesNew fresh made.1

-- what has none of the new numbers has none of these
abbrev IsPart : Fresh ℕ → Fresh ℕ → Type 0
IsPart fresh supply = (inode : ℕ) → ((k : ℕ) → inode ≢ fresh k) → (k : ℕ) → inode ≢ supply k

module _ (world : World ℕ) (fresh : Fresh ℕ) (task : Task ℕ) (call : Call) where
  abbrev Draws : Permit ℕ → Type 0
  Draws permit = IsPart fresh (numbers_left fresh permit) × MakesNewIf fresh (change_asked fresh world permit)

  all : IsPart fresh fresh
  all inode new = new

  every_second : IsPart fresh (odds fresh)
  every_second inode new k = new (2 * k + 1)

  opens : (b : Bool) (file : Location ℕ) → MakesNewIf fresh (when b (file, CopyUp file.node))
  opens true file = tt
  opens false file = tt

  changes : (location : Location ℕ) (change : Change ℕ)
      → IsFor (looks_of nat_eq world) task call (ToChange location change) → MakesNew fresh change
  changes location change for = grind (arith, common_steps)

  draws : (permit : Permit ℕ) → IsFor (looks_of nat_eq world) task call permit → Draws permit
  draws (ToChange location change) for = (all, changes _ change for)
  draws (ToMake directory name node) for = (every_second, refl)
  draws (ToOpen file access) for = (all, opens (is_copied_up nat_eq world file access) file)
  draws (ToOpenNew directory name node access) for = (every_second, refl)
  draws (ToWritePart file offset []) for = (all, tt)
  draws (ToWritePart file offset (byte ∷ bytes)) for = (all, tt)
  draws permit for = (all, tt)

  -- a call that changes a mount by its own is none on files
  abbrev LeavesThem : Permit ℕ → Type 0
  LeavesThem permit = (apply nat_eq fresh world task permit).world.filesystems ≡ world.filesystems

  on_mounts : (other : Call) → call ≡ other → changes_no_mount other ≡ false → changes_no_mount call ≡ true → ⊥
  on_mounts other e f c = true≢false (cc)

  leaves_them : (permit : Permit ℕ) → IsFor (looks_of nat_eq world) task call permit → changes_no_mount call ≡ true
      → change_asked fresh world permit ≡ None → LeavesThem permit
  leaves_them permit for c e = grind (arith, common_steps, none_is_some, on_mounts)

-- What spares what is locked changes no inode that is
unlocked : (fresh : Fresh ℕ) (files : FileTree ℕ) (change : Change ℕ) (inode : ℕ) → SparesInode files change inode
    → MakesNew fresh change → ((k : ℕ) → inode ≢ fresh k) → is_among nat_eq inode (inodes_changed change) ≡ false
unlocked fresh files change inode spares made new = grind (arith, common_steps, made, or_from, ne_eqb)

-- What is asked of an overlay is of what is there
speaks : (world : World ℕ) (location : Location ℕ) (change : Change ℕ)
    → is_overlay (filesystem_at nat_eq world location) ≡ true
    → AsksWell world location change → SpeaksOfWhatIsThere (files_at nat_eq world location) change
speaks world location change over asked = grind (arith, common_steps, asked, directory_used, has_entries, true≢false)

-- A granted call leaves the filesystems that its permit leaves
pub as_permitted : (world : World ℕ) (fresh : Fresh ℕ) (task : Task ℕ) (call : Call) (permit : Permit ℕ)
    → judge_in nat_eq fresh world task call ≡ Ok permit → (call_outcome nat_eq fresh world task call).world.filesystems
    ≡ (apply nat_eq fresh world task permit).world.filesystems
as_permitted world fresh task call permit granted = cc (call_is_judged_then_applied fresh world task call)

pub calls_go_through_their_location : CallsGoThroughTheirLocation
calls_go_through_their_location world fresh task call permit location change is serves called granted asks =
    goes_by_change fresh world (call_outcome nat_eq fresh world task call).world is (record {
      supply = numbers_left fresh permit;
      mounted = (mount_at nat_eq world location).filesystem;
      change = change;
      granted = record {
        part = drawn.0;
        unlocked = λ inode locked new. unlocked fresh (files_at nat_eq world location) change inode
            (spared.spares inode locked) made new;
        there = λ overlay over. speaks world location change (ap is_some over) asked.0;
      };
      so = as_permitted world fresh task call permit granted
          ∙ permits_make_their_change world fresh task permit location change asks;
    })
  where
    drawn : Draws world fresh task call permit
    drawn = draws world fresh task call permit (permits_are_for_their_calls fresh world task call permit granted)

    made : MakesNew fresh change
    made = subst (MakesNewIf fresh) asks drawn.1

    spared : SparesLocked world location change
    spared = subst (SparesLockedIf world) asks
        (permits_spare_what_is_locked world fresh task call permit is serves called granted)

    asked : AsksWellIf world (Some (location, change))
    asked = subst (AsksWellIf world) asks (permits_ask_well world fresh task call permit is serves called granted)

pub other_calls_leave_filesystems : OtherCallsLeaveFilesystems
other_calls_leave_filesystems world fresh task call permit granted asks files =
    as_permitted world fresh task call permit granted ∙ leaves_them world fresh task call permit
    (permits_are_for_their_calls fresh world task call permit granted) files asks
