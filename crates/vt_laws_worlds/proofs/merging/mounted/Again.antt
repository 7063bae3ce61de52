-- An overlay that is mounted anew over layers that lead where they led shows the same tree.
use Rattle.std.proofs.Common.{◌≡◌, refl, sym, ap, subst, ◌∙◌, arith, ◌<◌, ℕ, suc, length, nat_eq, Bool, true, false, not, cond, ◌||◌, List, [], ◌∷◌, map, Option, Some, Ok, find, unwrap_or, is_ok}
use Rattle.vt_spec.proofs.Common.{Done, Filesystem, Fresh, IsWorld, Layer, LayerLocations, MountFlags, MountOverlay, Outcome, OverlayWords, SameObject, Task, World, answer-finished_unless, call_outcome, evens, filesystem_numbered, filesystems_changed_by, finished, finished_unless, judge_in, no_filesystem, node_at_path, number_at_path, numbers_raised, only_looks, open_layer, overlay_filesystem, policy, raised, raised_if_changed, shown_layers, task_called, then_some}
use Rattle.vt_spec.proofs.Tables.{layers_walked, overlay_at}
use Rattle.vt_laws_trees.specs.Layers.Layers.Mounted.{AreAsOthers, AreLayers, IsAlike}
use Rattle.vt_laws_trees.specs.Layers.Layers.Mounting.{AreNewNumbers}
use Rattle.vt_laws_trees.proofs.layers.mounting.Kept.{mounting_makes_overlay, overlay_is_mounted}
use Rattle.vt_laws_trees.proofs.layers.mounting.Walked.{are_walked, has_layers, shown_plain}
use Rattle.vt_laws_trees.proofs.layers.layers.ShownMounted.{remount_shows_the_same}
use Rattle.vt_laws_worlds.specs.Merging.MountedAnew.{AreKept, MountedAnewShowsTheSame, MountedOverTheSameLayers, number_mounted, world_mounted}
use Rattle.vt_laws_worlds.proofs.merging.mounted.Left.{mounting_lets_nothing_go}

-- raises numbers, and leaves files
pub files_raised : (changed : List ℕ) (number : ℕ) (list : List (Filesystem ℕ))
    → (unwrap_or (find (λ f. nat_eq number f.number) (map (raised_if_changed nat_eq changed) list))
    (no_filesystem number)).files ≡ (unwrap_or (find (λ f. nat_eq number f.number) list) (no_filesystem number)).files
files_raised changed number [] = refl
files_raised changed number (filesystem ∷ list) = by _ _ _ (files_raised changed number list)
  where
    pick : (one : Filesystem ℕ) → one.files ≡ filesystem.files → (c : Bool) (rest was : Option (Filesystem ℕ))
        → (unwrap_or rest (no_filesystem number)).files ≡ (unwrap_or was (no_filesystem number)).files
        → (unwrap_or (cond c (Some one) rest) (no_filesystem number)).files ≡
        (unwrap_or (cond c (Some filesystem) was) (no_filesystem number)).files
    pick one same true rest was later = same
    pick one same false rest was later = later

    by : (b : Bool) (rest was : Option (Filesystem ℕ))
        → (unwrap_or rest (no_filesystem number)).files ≡ (unwrap_or was (no_filesystem number)).files
        → (unwrap_or (cond (nat_eq number
        (cond b (record filesystem { change = raised filesystem.change }) filesystem).number)
        (Some (cond b (record filesystem { change = raised filesystem.change }) filesystem)) rest)
        (no_filesystem number)).files
        ≡ (unwrap_or (cond (nat_eq number filesystem.number) (Some filesystem) was) (no_filesystem number)).files
    by true rest was later = pick _ refl (nat_eq number filesystem.number) rest was later
    by false rest was later = pick _ refl (nat_eq number filesystem.number) rest was later

module _ {fresh : Fresh ℕ} {later : World ℕ} (conditions : IsWorld nat_eq later)
    (are_new : AreNewNumbers fresh later) {task : Task ℕ} (is : task_called later task.name ≡ Some task)
    (path : List ℕ) (words : OverlayWords) (flags : MountFlags)
    (grants : (policy nat_eq fresh later task.name (MountOverlay path (Some words) flags)).answer ≡ Ok Done) where
  abbrev mounted : Outcome ℕ
  mounted = call_outcome nat_eq fresh later task (MountOverlay path (Some words) flags)

  abbrev changed : List ℕ
  changed = filesystems_changed_by nat_eq later
      (judge_in nat_eq fresh later task (MountOverlay path (Some words) flags))

  policy_is : policy nat_eq fresh later task.name (MountOverlay path (Some words) flags)
      ≡ finished nat_eq later task.name (MountOverlay path (Some words) flags) changed mounted
  policy_is = cc

  pub granted_so : mounted.answer ≡ Ok Done
  granted_so = sym (answer-finished_unless (only_looks (MountOverlay path (Some words) flags) || not
      (is_ok mounted.answer)) later task.name changed mounted) ∙ ap (λ o. o.answer) (sym policy_is) ∙ grants

  pub world_is : world_mounted fresh later task path words flags
      ≡ numbers_raised nat_eq later task.name changed mounted.world
  world_is = ap (λ o. o.world) policy_is
      ∙ ap (λ r. (finished_unless nat_eq (only_looks (MountOverlay path (Some words) flags) || not
      (is_ok r)) later task.name changed mounted).world) granted_so ∙ ap (numbers_raised nat_eq later task.name changed)
      (mounting_lets_nothing_go fresh later task path (Some words) flags conditions are_new)

  -- the overlay is there, with the files that it was made with
  module _ (places : LayerLocations ℕ) (walked : layers_walked nat_eq later task words ≡ Ok places) where
    pub files_are : (filesystem_numbered nat_eq (world_mounted fresh later task path words flags)
        (number_mounted fresh)).files
        ≡ (overlay_filesystem nat_eq (evens fresh) later (overlay_at nat_eq later task places)).files
    files_are = ap (λ w. (filesystem_numbered nat_eq w (number_mounted fresh)).files) world_is
        ∙ files_raised changed (number_mounted fresh) mounted.world.filesystems
        ∙ ap (λ f. f.files) (mounting_makes_overlay fresh later task path words flags places conditions are_new walked
        granted_so)

    pub are_layers : AreLayers later (overlay_at nat_eq later task places)
    are_layers =
        let are = are_walked later task words places walked in
        let mounts = overlay_is_mounted later fresh task flags path words places walked granted_so in
        (has_layers later task places are mounts.passed, shown_plain later task places are mounts.passed)

pub mounted_anew_shows_the_same : MountedAnewShowsTheSame
mounted_anew_shows_the_same fresh before later number left task path words flags places conditions is later_conditions
    are_new task_is grants walked as_left way =
    subst (λ files. SameObject (then_some (number_at_path files way) files.tree.node)
    (then_some (number_at_path (filesystem_numbered nat_eq before number).files way)
    (filesystem_numbered nat_eq before number).files.tree.node))
    (sym (files_are later_conditions are_new task_is path words flags grants places walked))
    (remount_shows_the_same (evens fresh) before later number left
    (overlay_at nat_eq later task places) conditions is later_conditions
    (are_layers later_conditions are_new task_is path words flags grants places walked)
    (λ j k e. let same = are_new.distinct _ _ e in omega (arith, same)) as_left way)

-- layers that were kept are as they were
kept_as_others : (before later : World ℕ) (layers : List (Layer ℕ)) → AreKept before later layers
    → AreAsOthers (map (open_layer nat_eq before) layers) (map (open_layer nat_eq later) layers)
kept_as_others before later [] kept = tt
kept_as_others before later (layer ∷ layers) kept = (
  λ path. subst (λ tree. IsAlike (node_at_path (open_layer nat_eq before layer) path)
      (node_at_path (record { tree = tree; directory = layer.directory }) path))
      (sym (kept 0 layer (let h : 0 < suc (length layers) = omega arith in h)))
      (record { there = refl; kind = refl; attr = refl; bytes = refl; mark = refl }),
  kept_as_others before later layers
      (λ k d h. kept (suc k) d (let l : suc k < suc (length layers) = omega (arith, h) in l)),
)

pub mounted_over_the_same_layers : MountedOverTheSameLayers
mounted_over_the_same_layers fresh before later number left task path words flags places conditions is later_conditions
    are_new task_is grants walked same kept = mounted_anew_shows_the_same fresh before later number left task path words
    flags places conditions is later_conditions are_new task_is grants walked
    (subst (λ layers. AreAsOthers (map (open_layer nat_eq before) (shown_layers left))
    (map (open_layer nat_eq later) layers)) (sym same) (kept_as_others before later _ kept))
