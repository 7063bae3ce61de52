-- A permit leaves no descriptor open for writing in an overlay without an upper layer.
use Rattle.std.proofs.Common.{arith, Bool, List, None, Ok, Option, Some, [], ap, false, inr, is_some, map, nat_eq, not, option_map, refl, subst, sym, true, ⊎_elim, ℕ, ◌&&◌, ◌+◌, ◌++◌, ◌==◌, ◌∙◌, ◌∷◌, ◌≡◌}
use Rattle.vt_spec.proofs.Common.{Access, Among, Call, Change, Descriptor, Filesystem, Fresh, IsWorld, Location, Looks, Mount, Overlay, Permit, Task, TaskName, ToClose, ToEnterNamespace, ToExit, ToFork, ToOpen, ToOpenNew, ToPivot, ToSetCredentials, ToSetDirectory, ToSetRoot, ToSetUmask, ToUnshare, World, all_locations, among-append, among-flat_map, among-from_filter, among-from_map, among-map, among_from_list_all, and_parts, apply, call_outcome, child_of, common_steps, evens, has_no_upper, is_located_well, judge_in, list_all_from_among, locations_of, looks_of, mount_at, mount_numbered, numbers_raised, odds, opens_for_writing, overfills, overlay_at, overlay_filesystem, overlay_or, pivoted_task, plain_filesystem, raised_task, replaced_if_called, same_name, settled, with_change, with_descriptor, without_descriptor, ⊤}
use Rattle.vt_laws_trees.proofs.calls.tasks.TasksLeft.{left_tasks, tasks_left}
use Rattle.vt_laws_worlds.specs.Given.LeftWorlds.{IsGivenToTask}
use Rattle.vt_laws_worlds.proofs.overlay_permits.kept.KeptOverlays.{permits_make_their_change}
use Rattle.vt_laws_worlds.proofs.overlay_permits.worlds.EveryCall.{LeavesFilesystems, unchanged}
use Rattle.vt_laws_worlds.proofs.overlay_permits.worlds.EveryCall.LeavesFilesystems.{as_they_were, with_overlay, with_plain}
use Rattle.vt_laws_worlds.proofs.overlay_permits.worlds.LowersAfterCalls.{shown_still}
use Rattle.vt_laws_worlds.proofs.overlay_permits.worlds.LowersGoOn.{Layers, changed_layers, layers, layers_at, raised_overlay}
use Rattle.vt_laws_worlds.proofs.overlay_permits.worlds.PolicyLeads.{policy_leads}
use Rattle.vt_laws_worlds.specs.OverlayPermits.Asked.{change_asked}
use Rattle.vt_laws_worlds.specs.OverlayPermits.Changed.{numbers_left}
use Rattle.vt_laws_worlds.proofs.overlays_read.Swept.{all_write_alike, lacks_upper, sweeps_keep_writers, writers_alike, writes, writes_still}
use Rattle.vt_laws_worlds.specs.OverlaysRead.Writers.{EveryCallKeepsWriters, PermitsKeepWriters, WritersHaveLayers, writes_to_a_layer}
use Rattle.vt_laws_trees.proofs.layers.layers.LowersCalls.{same_filesystem}
use Rattle.vt_laws_rules.proofs.given.Ways.{calls_are_granted}
use Rattle.vt_laws_rules.proofs.judged.CallsJudged.{call_is_judged_then_applied}
use Rattle.vt_laws_rules.proofs.given.Ways.{IsGranted}
use Rattle.vt_laws_rules.proofs.given.Ways.IsGranted.{creates, creates_exclusively, mounts_overlayfs, opens, opens_existing}
use Rattle.vt_laws_trees.proofs.calls.tasks.TasksOwn.{among-inserted}
use Rattle.vt_laws_trees.proofs.trees.TreesTasks.{called_there}
use Rattle.vt_laws_trees.specs.Trees.Settling.{inode_in}
use Rattle.vt_laws_worlds.proofs.worlds.FitPermitsNamed.{all_permits_fit}
use Rattle.vt_laws_worlds.proofs.worlds.PermitsSeen.{permits_keep_what_is_seen}
use Rattle.vt_laws_worlds.proofs.worlds.Seen.{KeepsWhatIsSeen, mount_of_located}
use Rattle.vt_laws_worlds.proofs.worlds.SeenMounts.{mounted_seen}

-- Whether there is an upper layer is told by the layers
abbrev lacking : Option Layers → Bool
lacking None = false
lacking (Some all) = not (is_some all.0)

lacks_by_layers : (o : Option (Overlay ℕ))
    → overlay_or false (λ overlay. not (is_some overlay.upper)) o ≡ lacking (option_map layers o)
lacks_by_layers None = refl
lacks_by_layers (Some overlay) = refl

-- The tasks that a permit leaves have the descriptors that they had, but for one that is opened.
module _ (fresh : Fresh ℕ) (world later : World ℕ) (task : Task ℕ)
    (all : (other : Task ℕ) → Among other world.tasks → writes later other ≡ true)
    (own : writes later task ≡ true) where
  -- what is opened, as it is later
  abbrev pub OpensForLayer : Permit ℕ → Type 0
  OpensForLayer (ToOpen file access) =
      not (opens_for_writing access && has_no_upper (looks_of nat_eq later) file) ≡ true
  OpensForLayer (ToOpenNew directory name node access) = has_no_upper (looks_of nat_eq later) directory ≡ false
  OpensForLayer permit = ⊤

  abbrev Left : List (Task ℕ) → Type 0
  Left tasks = (other : Task ℕ) → Among other tasks → writes later other ≡ true

  replaced : (new : Task ℕ) → writes later new ≡ true → Left (map (replaced_if_called new) world.tasks)
  replaced new well other m = grind (arith, common_steps, among-from_map, writes)

  opened_well : (file : Location ℕ) (access : Access)
      → not (opens_for_writing access && has_no_upper (looks_of nat_eq later) file) ≡ true
      → writes later (with_descriptor task file access) ≡ true
  opened_well file access well =
      list_all_from_among (writes_to_a_layer later) (with_descriptor task file access).descriptors (λ descriptor m.
      ⊎_elim (λ e. ap (writes_to_a_layer later) e ∙ well)
      (among_from_list_all (writes_to_a_layer later) task.descriptors own descriptor)
      (among-inserted _ task.descriptors descriptor m))

  closed_well : (number : ℕ) → writes later (without_descriptor task number) ≡ true
  closed_well number =
      list_all_from_among (writes_to_a_layer later) (without_descriptor task number).descriptors (λ descriptor m.
      among_from_list_all (writes_to_a_layer later) task.descriptors own descriptor
      (among-from_filter (λ (d : Descriptor ℕ). not (number == d.number)) task.descriptors descriptor m).0)

  pivoted : (root top : Mount ℕ) → Left (map (pivoted_task nat_eq task.namespace root top) world.tasks)
  pivoted root top other m = grind (arith, common_steps, among-from_map, writes)

  pub left_well : (permit : Permit ℕ) → OpensForLayer permit → Left (left_tasks fresh world task permit)
  left_well (ToOpen file access) may = replaced (with_descriptor task file access) (opened_well file access may)
  left_well (ToOpenNew directory name node access) may =
      let file : Location ℕ = record { mount = directory.mount; node = evens fresh 0 } in
      replaced (with_descriptor task file access)
      (opened_well file access (layered (opens_for_writing access) (has_no_upper (looks_of nat_eq later) file) may))
    where
      layered : (w b : Bool) → b ≡ false → not (w && b) ≡ true
      layered true b e = ap not e
      layered false b e = refl
  left_well (ToClose descriptor) may = replaced (without_descriptor task descriptor) (closed_well descriptor)
  left_well (ToSetDirectory directory) may = replaced (record task { directory = directory }) own
  left_well (ToSetRoot root) may = replaced (record task { root = root }) own
  left_well (ToSetUmask umask) may = replaced (record task { umask = umask }) own
  left_well (ToSetCredentials credentials) may = replaced (record task { credentials = credentials }) own
  left_well (ToFork credentials) may = λ other m. ⊎_elim (replaced (record task { forks = task.forks + 1 }) own other)
      (λ new. ⊎_elim (λ e. ap (writes later) e) (λ none. absurd none) new)
      (among-append (map (replaced_if_called (record task { forks = task.forks + 1 })) world.tasks)
      (child_of task credentials ∷ []) other m)
  left_well ToExit may = λ other m.
      all other (among-from_filter (λ (x : Task ℕ). not (same_name task.name x.name)) world.tasks other m).0
  left_well ToUnshare may = replaced _ own
  left_well (ToEnterNamespace namespace) may = replaced _ own
  left_well (ToPivot new put) may = pivoted (mount_at nat_eq world task.root) (mount_numbered nat_eq world new)
  left_well permit may = all

module _ (world : World ℕ) (fresh : Fresh ℕ) (task : Task ℕ) (permit : Permit ℕ) (is : IsWorld nat_eq world)
    (well : WritersHaveLayers world) (given : IsGivenToTask fresh world task permit) where
  abbrev later : World ℕ
  later = (apply nat_eq fresh world task permit).world

  abbrev looks : Looks ℕ
  looks = looks_of nat_eq world

  granted : IsGranted nat_eq looks (overfills nat_eq fresh world task) task given.call permit
  granted = calls_are_granted nat_eq looks (overfills nat_eq fresh world task) task given.call permit given.judged

  -- mounts stay, and show what they showed
  seen_by : (call : Call) (made : Permit ℕ) → judge_in nat_eq fresh world task call ≡ Ok made
      → IsGranted nat_eq looks (overfills nat_eq fresh world task) task call made
      → KeepsWhatIsSeen world (apply nat_eq fresh world task made).world
  seen_by call made judged (mounts_overlayfs path words flags here stack admin end walked layered passed) =
      mounted_seen world (odds fresh) here.location
      (overlay_filesystem nat_eq (evens fresh) world (overlay_at looks task stack)) flags
  seen_by call made judged way = permits_keep_what_is_seen world fresh task is given.serves made
      (all_permits_fit world fresh task call made is given.serves given.called refl judged).names

  seen : KeepsWhatIsSeen world later
  seen = seen_by given.call permit given.judged granted

  -- overlays keep their layers
  layers_stay : (number inode : ℕ) → is_some (inode_in world number inode) ≡ true
      → layers_at later number ≡ layers_at world number
  layers_stay number inode there = by (change_asked fresh world permit) refl
    where
      grown : (new : Filesystem ℕ) → later.filesystems ≡ world.filesystems ++ (new ∷ [])
          → layers_at later number ≡ layers_at world number
      grown new more =
          ap (λ (f : Filesystem ℕ). option_map layers f.overlay) (shown_still world later new more number inode there)

      as_left : LeavesFilesystems world fresh task permit → layers_at later number ≡ layers_at world number
      as_left (as_they_were same) =
          ap (λ (f : Filesystem ℕ). option_map layers f.overlay) (same_filesystem world later number same)
      as_left (with_plain more) = grown (plain_filesystem nat_eq fresh) more
      as_left (with_overlay not_named new more) = grown new more

      by : (o : Option (Location ℕ × Change ℕ)) → change_asked fresh world permit ≡ o
          → layers_at later number ≡ layers_at world number
      by None e = as_left (unchanged world fresh task permit e)
      by (Some made) e = ap (λ (f : Filesystem ℕ). option_map layers f.overlay)
          (same_filesystem (with_change nat_eq (numbers_left fresh permit) world made.0 made.1) later number
          (permits_make_their_change world fresh task permit made.0 made.1 e))
          ∙ changed_layers (numbers_left fresh permit) world made.0 made.1 number

  -- so what is at a location that is there has an upper layer just where it had one
  upper_stays : (location : Location ℕ) → is_located_well nat_eq world location ≡ true
      → has_no_upper (looks_of nat_eq later) location ≡ has_no_upper looks location
  upper_stays location there =
      grind (arith, common_steps, lacks_upper, seen, mount_of_located, lacks_by_layers, layers_stay, and_parts)

  kept : (other : Task ℕ) → Among other world.tasks → writes later other ≡ true
  kept other m = list_all_from_among (writes_to_a_layer later) other.descriptors (λ descriptor d.
      writes_still world later descriptor
      (λ layer. upper_stays descriptor.location (located other m descriptor d) ∙ layer)
      (among_from_list_all (writes_to_a_layer world) other.descriptors
      (among_from_list_all (writes world) world.tasks well other m) descriptor d))
    where
      located : (t : Task ℕ) → Among t world.tasks → (descriptor : Descriptor ℕ) → Among descriptor t.descriptors
          → is_located_well nat_eq world descriptor.location ≡ true
      located t n descriptor d =
          among_from_list_all (is_located_well nat_eq world) (all_locations world) is.tasks.locations_live
          descriptor.location (among-flat_map locations_of world.tasks t descriptor.location n
          (inr (inr (among-map (λ (x : Descriptor ℕ). x.location) t.descriptors descriptor d))))

  -- a file that is opened for writing has an upper layer: F2
  opened_there : (file : Location ℕ) (access : Access) → is_located_well nat_eq world file ≡ true
      → (opens_for_writing access && has_no_upper looks file) ≡ false
      → not (opens_for_writing access && has_no_upper (looks_of nat_eq later) file) ≡ true
  opened_there file access there refused = cc (upper_stays file there)

  caller_kept : writes later task ≡ true
  caller_kept = kept task (called_there world.tasks task.name task given.called)

  opens_well : (call : Call) (made : Permit ℕ) → judge_in nat_eq fresh world task call ≡ Ok made
      → IsGranted nat_eq looks (overfills nat_eq fresh world task) task call made
      → OpensForLayer fresh world later task kept caller_kept made
  opens_well call made judged (opens path access here room end passed) = opened_there here.location access
      (all_permits_fit world fresh task call made is given.serves given.called refl judged).names.reached.there
      passed.1.1.1.0
  opens_well call made judged (opens_existing path access mode place file room end named there passed) =
      opened_there file access
      (all_permits_fit world fresh task call made is given.serves given.called refl judged).names.reached.there
      passed.1.1.1.0
  opens_well call made judged (creates path access mode place room end named missing passed) = upper_stays place.parent
      (all_permits_fit world fresh task call made is given.serves given.called refl judged).names.0.reached.there
      ∙ passed.1.0
  opens_well call made judged (creates_exclusively path access mode place room end named passed) =
      upper_stays place.parent
      (all_permits_fit world fresh task call made is given.serves given.called refl judged).names.0.reached.there
      ∙ passed.1.0
  opens_well call made judged way = tt

  pub applied_well : WritersHaveLayers later
  applied_well = list_all_from_among (writes later) later.tasks (λ other m.
      left_well fresh world later task kept caller_kept permit (opens_well given.call permit given.judged granted) other
      (subst (Among other) (tasks_left fresh world task permit) m))

pub permits_keep_writers : PermitsKeepWriters
permits_keep_writers world fresh task permit is well given =
    let applied = applied_well world fresh task permit is well given in
    (applied, sweeps_keep_writers (apply nat_eq fresh world task permit).world applied)

-- Change numbers that are raised
raised_well : (before : World ℕ) (name : TaskName) (changed : List ℕ) (world : World ℕ) → WritersHaveLayers world
    → WritersHaveLayers (numbers_raised nat_eq before name changed world)
raised_well before name changed world = writers_alike world (numbers_raised nat_eq before name changed world)
    (λ location. ap (overlay_or false (λ overlay. not (is_some overlay.upper)))
    (raised_overlay before name changed world (mount_at nat_eq world location).filesystem))
    (λ test. all_write_alike test (raised_task name) same world.tasks)
  where
    same : (task : Task ℕ) → (raised_task name task).descriptors ≡ task.descriptors
    same task = grind (arith, common_steps)

pub every_call_keeps_writers : EveryCallKeepsWriters
every_call_keeps_writers world fresh name call is serves few well =
    policy_leads WritersHaveLayers world fresh name call well (λ task permit changed called judged.
    raised_well world name changed (settled nat_eq (call_outcome nat_eq fresh world task call).world)
    (subst (λ w. WritersHaveLayers (settled nat_eq w)) (sym (applied task permit judged))
    (permits_keep_writers world fresh task permit is well (record {
      serves = serves;
      called = called;
      call = call;
      few_groups = few;
      judged = judged;
    })).1))
  where
    applied : (task : Task ℕ) (permit : Permit ℕ) → judge_in nat_eq fresh world task call ≡ Ok permit
        → (call_outcome nat_eq fresh world task call).world ≡ (apply nat_eq fresh world task permit).world
    applied task permit judged = cc (call_is_judged_then_applied fresh world task call)
