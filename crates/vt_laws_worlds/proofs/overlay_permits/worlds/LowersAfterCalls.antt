-- After every call that leaves an overlay live its lower layers are as they were.
use Rattle.std.proofs.Common.{arith, ◌≡◌, refl, sym, ap, subst, ◌∙◌, ⊎_elim, ℕ, nat_eq, true≢false, Bool, true, false, List, [], ◌∷◌, ◌++◌, ◌&&◌, not, eqb-true, find, Option, Some, None, Ok, is_some, option_map, unwrap_or}
use Rattle.vt_spec.proofs.Common.{AddName, Among, Call, Change, CopyUp, Filesystem, Fresh, IsWorld, Layer, Location, Make, MountOverlay, Move, Outcome, Overlay, Permit, Remove, Serves, SetAttr, SetBytes, SetMark, Task, TaskName, ToChange, ToMake, ToOpen, ToOpenNew, ToRemoveDirectory, ToRename, ToWritePart, World, after, among-from_filter, among_from_contains, and_true_left, and_true_right, any_among, apply, call_outcome, common_steps, contains_from_among, counts_as_in_layer, directory_used, filesystem_numbered, finished_unless, holds_of, is_directory_node, is_object_of, is_overlay, is_real_upper, judge_in, led, lies_in_layer, lies_or_counts_under, list_any, live_lowers, looks_of, no_filesystem, or_cases, overlay_or, overlays, plain_filesystem, policy, settled, task_called, then_some, upper_real, with_change}
use Rattle.vt_laws_rules.specs.Given.{IsFor, makes_a_name}
use Rattle.vt_laws_rules.proofs.judged.CallsJudged.{call_is_judged_then_applied}
use Rattle.vt_laws_rules.proofs.given.GivenPermits.{permits_are_for_their_calls}
use Rattle.vt_laws_mounts.proofs.letting_go.sweeps.OfWorlds.{found_filesystem}
use Rattle.vt_laws_trees.specs.Trees.Calls.{mounts_overlay}
use Rattle.vt_laws_trees.specs.Trees.Limits.{names_few_groups}
use Rattle.vt_laws_trees.specs.Layers.Layers.Locked.{LeadsAsBefore}
use Rattle.vt_laws_trees.specs.Layers.Layers.Untouched.{IsKept, changes_no_mount}
use Rattle.vt_laws_trees.proofs.layers.locked.Apart.{layer_among, layer_plain, no_lower}
use Rattle.vt_laws_trees.proofs.layers.locked.Paths.{layer_tree, led_lies, lower_paths_are_locked}
use Rattle.vt_laws_trees.proofs.layers.layers.LowersCalls.{same_filesystem}
use Rattle.vt_laws_trees.proofs.layers.layers.UpperWorld.{overlay_found}
use Rattle.vt_laws_worlds.proofs.merging.mounted.Worlds.{mounting_leaves_a_world}
use Rattle.vt_laws_trees.proofs.overlays.whole.ApartPaths.{under_led}
use Rattle.vt_laws_worlds.proofs.worlds.SeenTrees.{unused_inode}
use Rattle.vt_laws_worlds.specs.OverlayPermits.Asked.{change_asked}
use Rattle.vt_laws_worlds.specs.OverlayPermits.Changed.{numbers_left}
use Rattle.vt_laws_worlds.specs.OverlayPermits.LockedOverScripts.{EveryCallLeavesLowers, LowersStay, is_live}
use Rattle.vt_laws_worlds.proofs.overlay_permits.worlds.EveryCall.{LeavesFilesystems, every_call_keeps_worlds, overlays_kept, unchanged, under}
use Rattle.vt_laws_worlds.proofs.overlay_permits.worlds.EveryCall.LeavesFilesystems.{as_they_were, with_overlay, with_plain}
use Rattle.vt_laws_worlds.proofs.overlay_permits.kept.KeptOverlays.{permits_make_their_change}
use Rattle.vt_laws_worlds.proofs.overlay_permits.worlds.LowersGoOn.{OverlayStays, changed_layers, layers, raised_overlay, raised_stays, stays_both, stays_itself, stays_over, swept_stays}
use Rattle.vt_laws_worlds.proofs.overlay_permits.worlds.NewPlain.{found_first}
use Rattle.vt_laws_worlds.proofs.overlay_permits.worlds.PolicyLeads.{policy_leads}
use Rattle.vt_laws_worlds.proofs.overlay_permits.worlds.SweptOverlays.{leads_same}
use Rattle.vt_spec.proofs.Worlds.{lower_is_layer}
use Rattle.vt_laws_trees.specs.Trees.Settling.{inode_in}

-- a call that asks for a change is one on files
pub makes_files : (call : Call) → makes_a_name call ≡ true → changes_no_mount call ≡ true
makes_files call e = grind (arith, common_steps)

pub on_files : (fresh : Fresh ℕ) (world : World ℕ) (task : Task ℕ) (call : Call) (permit : Permit ℕ)
    (made : Location ℕ × Change ℕ)
    → IsFor (looks_of nat_eq world) task call permit → change_asked fresh world permit ≡ Some made
    → changes_no_mount call ≡ true
on_files fresh world task call (ToChange location (Make directory name number node)) made for e = absurd for
on_files fresh world task call
    (ToChange location (AddName directory name object)) made for e = ap changes_no_mount for.2
on_files fresh world task call (ToChange location (Remove directory name object)) made for e = ap changes_no_mount for.1
on_files fresh world task call (ToChange location (Move from old to new object)) made for e = absurd for
on_files fresh world task call (ToChange location (SetBytes file bytes)) made for e = ap changes_no_mount for.1
on_files fresh world task call (ToChange location (SetAttr object attr)) made for e =
    ⊎_elim (λ mode. ap changes_no_mount mode.2) (λ owner. ap changes_no_mount owner.3) for.1
on_files fresh world task call (ToChange location (SetMark directory mark)) made for e = ap changes_no_mount for.1
on_files fresh world task call (ToChange location (CopyUp object)) made for e = absurd for
on_files fresh world task call (ToMake directory name node) made for e = makes_files call for
on_files fresh world task call (ToRemoveDirectory parent name directory) made for e = ap changes_no_mount for.1
on_files fresh world task call (ToRename from old to new object replaced) made for e = ap changes_no_mount for.2
on_files fresh world task call (ToOpen file access) made for e = ap changes_no_mount for.2
on_files fresh world task call (ToOpenNew directory name node access) made for e = ap changes_no_mount for.2
on_files fresh world task call (ToWritePart file offset bytes) made for e = ap changes_no_mount for.1
on_files fresh world task call permit made for e = cc

-- A filesystem that is there is there beside a new one
module _ (world later : World ℕ) (new : Filesystem ℕ)
    (grows : later.filesystems ≡ world.filesystems ++ (new ∷ [])) where
  abbrev looked_up : ℕ → Option (Filesystem ℕ)
  looked_up number = find (λ (f : Filesystem ℕ). nat_eq number f.number) world.filesystems

  found_still : (number : ℕ) (f : Filesystem ℕ) → looked_up number ≡ Some f
      → filesystem_numbered nat_eq later number ≡ filesystem_numbered nat_eq world number
  found_still number f e = cc (grows, found_first number new world.filesystems f e)

  pub shown_still : (number inode : ℕ) → is_some (inode_in world number inode) ≡ true
      → filesystem_numbered nat_eq later number ≡ filesystem_numbered nat_eq world number
  shown_still number inode there = by (looked_up number) refl
    where
      by : (o : Option (Filesystem ℕ)) → looked_up number ≡ o
          → filesystem_numbered nat_eq later number ≡ filesystem_numbered nat_eq world number
      by None e = absurd (true≢false
          (sym there ∙ ap (λ o. is_some ((unwrap_or o (no_filesystem number)).files.tree.node inode)) e))
      by (Some f) e = found_still number f e

-- An overlay of a world
module _ (world : World ℕ) (is : IsWorld nat_eq world) (number : ℕ) (overlay : Overlay ℕ)
    (was : (filesystem_numbered nat_eq world number).overlay ≡ Some overlay) where
  layer_directory : (lower : Layer ℕ) → Among lower overlay.lowers
      → is_directory_node (inode_in world lower.filesystem lower.directory) ≡ true
  layer_directory lower m = and_true_right (not (is_overlay (filesystem_numbered nat_eq world lower.filesystem))) _
      (layer_plain world is number overlay was lower (lower_is_layer overlay lower m))

  grown_stays : (later : World ℕ) (new : Filesystem ℕ) → later.filesystems ≡ world.filesystems ++ (new ∷ [])
      → OverlayStays world later number overlay
  grown_stays later new grows = stays_over world later number overlay was
      (ap (λ (f : Filesystem ℕ). option_map layers f.overlay)
      (found_still world later new grows number (filesystem_numbered nat_eq world number)
      (overlay_found world number overlay was))) (λ lower m. leads_same world later lower
      (shown_still world later new grows lower.filesystem lower.directory
      (directory_used (filesystem_numbered nat_eq world lower.filesystem).files.tree lower.directory
      (layer_directory lower m))))

  same_stays : (later : World ℕ) → later.filesystems ≡ world.filesystems → OverlayStays world later number overlay
  same_stays later same = stays_over world later number overlay was
      (ap (λ (f : Filesystem ℕ). option_map layers f.overlay) (same_filesystem world later number same))
      (λ lower m. leads_same world later lower (same_filesystem world later lower.filesystem same))

  -- A granted call, before what nothing uses is gone
  module _ (fresh : Fresh ℕ) (serves : Serves nat_eq world fresh) (task : Task ℕ) (call : Call) (permit : Permit ℕ)
      (called : task_called world task.name ≡ Some task)
      (granted : judge_in nat_eq fresh world task call ≡ Ok permit) where
    abbrev left : World ℕ
    left = (call_outcome nat_eq fresh world task call).world

    as_permitted : left.filesystems ≡ (apply nat_eq fresh world task permit).world.filesystems
    as_permitted = ap (λ (o : Outcome ℕ). o.world.filesystems) (call_is_judged_then_applied fresh world task call
        ∙ ap (λ j. after world j (apply nat_eq fresh world task)) granted)

    locked_leads : changes_no_mount call ≡ true → (lower : Layer ℕ) → Among lower overlay.lowers
        → LeadsAsBefore world left lower
    locked_leads files lower m = lower_paths_are_locked fresh world task call number overlay lower is called files was
        (contains_from_among overlay.lowers lower m)
        (λ k. unused_inode world fresh serves is.files.numbers k lower.filesystem)

    pub call_stays : OverlayStays world left number overlay
    call_stays = by (change_asked fresh world permit) refl
      where
        as_left : LeavesFilesystems world fresh task permit → OverlayStays world left number overlay
        as_left (as_they_were same) = same_stays left (as_permitted ∙ same)
        as_left (with_plain more) = grown_stays left (plain_filesystem nat_eq fresh) (as_permitted ∙ more)
        as_left (with_overlay not_named new more) = grown_stays left new (as_permitted ∙ more)

        by : (o : Option (Location ℕ × Change ℕ)) → change_asked fresh world permit ≡ o
            → OverlayStays world left number overlay
        by None e = as_left (unchanged world fresh task permit e)
        by (Some made) e = stays_over world left number overlay was
            (ap (λ (f : Filesystem ℕ). option_map layers f.overlay)
            (same_filesystem (with_change nat_eq (numbers_left fresh permit) world made.0 made.1) left number
            (as_permitted ∙ permits_make_their_change world fresh task permit made.0 made.1 e))
            ∙ changed_layers (numbers_left fresh permit) world made.0 made.1 number)
            (locked_leads (on_files fresh world task call permit made
            (permits_are_for_their_calls fresh world task call permit granted) e))

    -- and after
    finished_stays : names_few_groups call ≡ true → (name : TaskName) (changed : List ℕ)
        → is_live (finished_unless nat_eq false world name changed (call_outcome nat_eq fresh world task call)).world number
        ≡ true → OverlayStays world (finished_unless nat_eq false world name changed
        (call_outcome nat_eq fresh world task call)).world number overlay
    finished_stays few name changed live = by (filesystem_numbered nat_eq (settled nat_eq left) number).overlay refl
      where
        swept : (mounts : Bool) → mounts_overlay call ≡ mounts → (now : Overlay ℕ)
            → (filesystem_numbered nat_eq (settled nat_eq left) number).overlay ≡ Some now
            → OverlayStays left (settled nat_eq left) number call_stays.after
        swept false other now e =
            swept_stays left (under call is serves called other few granted)
            (overlays_kept call is serves called other few granted) number now e call_stays.after call_stays.is
        swept true mounts now e =
            subst (λ w. OverlayStays left w number call_stays.after) (sym (mounted call mounts granted))
            (stays_itself left number call_stays.after call_stays.is)
          where
            mounted : (c : Call) → mounts_overlay c ≡ true → judge_in nat_eq fresh world task c ≡ Ok permit
                → settled nat_eq (call_outcome nat_eq fresh world task c).world
                ≡ (call_outcome nat_eq fresh world task c).world
            mounted (MountOverlay path options flags) m g =
                (mounting_leaves_a_world fresh world task path options flags is serves called).nothing_unused
            mounted c m g = cc

        by : (o : Option (Overlay ℕ)) → (filesystem_numbered nat_eq (settled nat_eq left) number).overlay ≡ o
            → OverlayStays world (finished_unless nat_eq false world name changed
            (call_outcome nat_eq fresh world task call)).world number overlay
        by None e = absurd (true≢false (sym live
            ∙ ap is_some (raised_overlay world name changed (settled nat_eq left) number ∙ e)))
        by (Some now) e =
            let sweeps = swept (mounts_overlay call) refl now e in
            stays_both world left _ number overlay call_stays
            (stays_both left (settled nat_eq left) _ number call_stays.after sweeps
            (raised_stays world name changed (settled nat_eq left) number sweeps.after sweeps.is))

  module _ (lower : Layer ℕ) (m : Among lower overlay.lowers) (inode : ℕ) where
    abbrev Led : Type 0
    Led = (path : List (List ℕ)) ×
        (led (filesystem_numbered nat_eq world lower.filesystem).files.tree lower.directory path ≡ Some inode)

    live_lower : Among lower (live_lowers nat_eq world)
    live_lower = layer_among world (λ (o : Overlay ℕ). o.lowers) number overlay was lower m

    lies_led : lies_in_layer nat_eq world lower.filesystem inode lower ≡ true → Led
    lies_led e = under_led (filesystem_numbered nat_eq world lower.filesystem).files
        (layer_tree world is lower (layer_plain world is number overlay was lower
        (lower_is_layer overlay lower m))) lower.directory inode
        (and_true_right (nat_eq lower.filesystem lower.filesystem) _ e)

    -- no upper object counts under it
    counts_never : lies_or_counts_under nat_eq world lower.filesystem inode lower ≡ true
        → list_any (counts_as_in_layer nat_eq world lower.filesystem inode lower) (overlays world) ≡ true → ⊥
    counts_never lies h =
        let found = any_among (counts_as_in_layer nat_eq world lower.filesystem inode lower) (overlays world) h in
        by found.0 (found_filesystem world.filesystems is.files.one_filesystem found.0
        (among-from_filter is_overlay world.filesystems found.0 found.1).0) found.0.overlay refl found.2
      where
        at : (f : Filesystem ℕ) (v : Overlay ℕ) → (filesystem_numbered nat_eq world f.number).overlay ≡ Some v
            → (upper : Option (Layer ℕ)) → v.upper ≡ upper
            → (holds_of (λ u. lies_in_layer nat_eq world u.filesystem u.directory lower) upper
            && (holds_of (λ u. nat_eq lower.filesystem u.filesystem) upper
            && list_any (is_real_upper nat_eq v inode) f.files.numbers)) ≡ true → ⊥
        at f v of None g h = true≢false (sym h)
        at f v of (Some top) g h =
            let rest = and_true_right (lies_in_layer nat_eq world top.filesystem top.directory lower) _ h in
            let found = any_among (is_real_upper nat_eq v inode) f.files.numbers
            (and_true_right (nat_eq lower.filesystem top.filesystem) _ rest) in
            no_lower world is f.number v of top g inode
            (found.0, upper_real (v.real found.0) inode found.2) lower live_lower
            (subst (λ n. lies_or_counts_under nat_eq world n inode lower ≡ true)
            (eqb-true lower.filesystem top.filesystem
            (and_true_left (nat_eq lower.filesystem top.filesystem) _ rest)) lies)

        by : (f : Filesystem ℕ) → filesystem_numbered nat_eq world f.number ≡ f → (o : Option (Overlay ℕ))
            → f.overlay ≡ o
            → overlay_or false (λ v. holds_of (λ u. lies_in_layer nat_eq world u.filesystem u.directory lower) v.upper
            && is_object_of nat_eq lower.filesystem inode f v) o ≡ true → ⊥
        by f itself None g h = true≢false (sym h)
        by f itself (Some v) g h = at f v (ap (λ (x : Filesystem ℕ). x.overlay) itself ∙ g) v.upper refl h

    pub is_led : lies_or_counts_under nat_eq world lower.filesystem inode lower ≡ true → Led
    is_led lies = ⊎_elim lies_led (λ counts. absurd (counts_never lies counts))
        (or_cases (lies_in_layer nat_eq world lower.filesystem inode lower) _ lies)

  -- so all of it stays
  pub lowers_stay : (later : World ℕ) → IsWorld nat_eq later → OverlayStays world later number overlay
      → LowersStay world later number overlay
  lowers_stay later is_later stays = record {
    after = stays.after;
    is = stays.is;
    upper = stays.upper;
    work = stays.work;
    lowers = stays.lowers;
    paths = λ lower c. stays.leads lower (among_from_contains overlay.lowers lower c);
    inodes = λ lower inode c lies.
        let m = among_from_contains overlay.lowers lower c in
        let way = is_led lower m inode lies in
        let leads = (stays.leads lower m way.0).0 ∙ way.1 in (
          subst (λ o. IsKept (then_some o (λ object. inode_in world lower.filesystem object))
              (inode_in later lower.filesystem inode)) way.1 (subst (λ o. IsKept (then_some
              (led (filesystem_numbered nat_eq world lower.filesystem).files.tree lower.directory way.0)
              (λ object. inode_in world lower.filesystem object))
              (then_some o (λ object. inode_in later lower.filesystem object))) leads (stays.leads lower m way.0).1),
          led_lies later is_later lower (layer_plain later is_later number stays.after stays.is lower
              (lower_is_layer stays.after lower (subst (Among lower) (sym stays.lowers) m))) way.0 inode leads,
        );
  }

pub every_call_leaves_lowers : EveryCallLeavesLowers
every_call_leaves_lowers world fresh name call number overlay is serves few was live =
    lowers_stay world is number overlay was (policy nat_eq fresh world name call).world
    (every_call_keeps_worlds world fresh name call is serves few)
    (policy_leads (λ w. is_live w number ≡ true → OverlayStays world w number overlay) world fresh name call
    (λ there. stays_itself world number overlay was)
    (λ task permit changed called granted. finished_stays world is number overlay was fresh serves task call permit
    called granted few name changed) live)
