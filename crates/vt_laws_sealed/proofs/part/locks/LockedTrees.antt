-- What is wholly locked is locked, and an outsider changes no file of a sealed set.
use Rattle.std.proofs.Common.{arith, ◌≡◌, refl, sym, ap, subst, ◌∙◌, ⊎_elim, ℕ, zero, suc, nat_eq, true, false, true≢false, List, [], ◌∷◌, ◌++◌, Some, None, is_some, ◌||◌, ◌&&◌, eqb-true}
use Rattle.vt_spec.proofs.Common.{Among, Change, FileTree, Filesystem, Fresh, IsTree, Layer, ListsNumbers, Location, TaskName, World, all_named, among-append_right, among-flat_map, among-from_flat_map, among_from_list_all, among_numbers, and_from, and_parts, and_true_left, any_among, any_from_among, changed, common_steps, entry_from, false_from_ne_true, filesystem_at, filesystem_changed, filesystem_numbered, is_among, is_among_numbers, is_locked, is_locked_at, is_lower_root, is_under, layers_of, led-append, list_all, list_any, live_layers, mount_at, named_in, no_outsider_on, node_at, of_overlay, or_cases, or_left, overlays, own_lowers, part_of, sealed, targets_in, used_alone, used_filesystems, wholly_locked, with_change, with_files}
use Rattle.vt_laws_sealed.proofs.Common.{Led, ReachedIn, is_reached_in, led_on, led_under, number_of_filesystem}
use Rattle.vt_laws_sealed.specs.Part.Locked.{OthersChangeWhatIsNotUsed, OthersChangesLeaveThePart, WhollyLockedIsLocked}
use Rattle.vt_laws_sealed.proofs.part.part.UnusedFilesystems.{unused_filesystems_may_change}

module _ (files : FileTree ℕ) (tree : IsTree files.tree) (listed : ListsNumbers nat_eq files) where
  way_to : (steps d : ℕ) → ReachedIn files.tree steps d → Led files tree files.tree.root d
  way_to zero d e = ([], ap Some (sym e))
  way_to (suc steps) d r =
      let way = way_to steps r.0 r.2 in
      (way.0 ++ r.1 ∷ [], led-append files.tree files.tree.root way.0 r.1 r.0 d way.1 r.3)

  -- what has a name lies under the root
  pub named_under : (object : ℕ) → Among object (named_in files) → is_under nat_eq files files.tree.root object ≡ true
  named_under object m =
      let from = among-from_flat_map (λ directory. targets_in (files.tree.node directory)) files.numbers object m in
      let name = entry_from files.tree tree from.0 object
      (is_among_numbers (targets_in (files.tree.node from.0)) object from.2) in
      let reached = is_reached_in files tree from.0 name.0 object name.1 in
      led_under files tree files.tree.root listed tree.root_directory object
      (led_on files tree files.tree.root from.0 name.0 object (way_to reached.0 from.0 reached.1) name.1)

  pub root_under : is_under nat_eq files files.tree.root files.tree.root ≡ true
  root_under = led_under files tree files.tree.root listed tree.root_directory files.tree.root ([], refl)

module _ (world : World ℕ) (names : List TaskName) (number : ℕ)
    (tree : IsTree (filesystem_numbered nat_eq world number).files.tree)
    (listed : ListsNumbers nat_eq (filesystem_numbered nat_eq world number).files) where
  abbrev files : FileTree ℕ
  files = (filesystem_numbered nat_eq world number).files

  layer_there : (merged : Filesystem ℕ) → is_lower_root nat_eq number files.tree.root merged ≡ true
      → (layer : Layer ℕ) × Among layer (of_overlay [] layers_of merged)
      × (nat_eq number layer.filesystem ≡ true) × (nat_eq files.tree.root layer.directory ≡ true)
  layer_there merged h = grind (arith, common_steps, true≢false, any_among, and_parts, among-append_right)

  -- each inode of a tree that is wholly locked is locked
  pub all_locked : wholly_locked nat_eq world names number ≡ true → (object : ℕ)
      → is_some (files.tree.node object) ≡ true → is_locked nat_eq world number object ≡ true
  all_locked h object there =
      let both = and_parts (list_any (λ merged. is_lower_root nat_eq number files.tree.root merged
      && used_alone nat_eq world names merged.number) (overlays world)) (all_named nat_eq files) h in
      let found = any_among (λ (merged : Filesystem ℕ). is_lower_root nat_eq number files.tree.root merged
      && used_alone nat_eq world names merged.number) (overlays world) both.0 in
      let layer = layer_there found.0 (and_true_left (is_lower_root nat_eq number files.tree.root found.0) _ found.2) in
      any_from_among _ (live_layers world) layer.0 (among-flat_map (of_overlay [] layers_of) (overlays world) found.0
      layer.0 found.1 layer.1) (or_left _ _ (and_from _ _ layer.2 (subst (λ d. is_under nat_eq files d object ≡ true)
      (eqb-true files.tree.root layer.0.directory layer.3) (under object there))))
    where
      under : (object : ℕ) → is_some (files.tree.node object) ≡ true
          → is_under nat_eq files files.tree.root object ≡ true
      under object there =
          let named = among_from_list_all _ files.numbers (and_parts (list_any (λ (merged : Filesystem ℕ). is_lower_root
          nat_eq number files.tree.root merged && used_alone nat_eq world names merged.number) (overlays world))
          (all_named nat_eq files) h).1 object (among_numbers files.numbers object (listed object ∙ there)) in
          ⊎_elim (λ root. subst (λ o. is_under nat_eq files files.tree.root o ≡ true)
          (sym (eqb-true object files.tree.root root)) (root_under files tree listed))
          (λ name. named_under files tree listed object (among_numbers (named_in files) object name))
          (or_cases (nat_eq object files.tree.root) (is_among nat_eq object (named_in files)) named)

-- A change by an outsider of what is not locked leaves the part: it is of a filesystem that they do not use.
module _ (world : World ℕ) (names : List TaskName) (location : Location ℕ) (is : sealed nat_eq world names ≡ true) where
  abbrev number : ℕ
  number = (mount_at nat_eq world location).filesystem

  fourth : list_all (λ filesystem. used_alone nat_eq world names filesystem
      || wholly_locked nat_eq world names filesystem) (used_filesystems nat_eq world names) ≡ true
  unfolding sealed
  fourth = (and_parts _ (list_all (λ filesystem. used_alone nat_eq world names filesystem
      || wholly_locked nat_eq world names filesystem) (used_filesystems nat_eq world names)) is).1

  pub not_used : IsTree (filesystem_numbered nat_eq world number).files.tree
      → ListsNumbers nat_eq (filesystem_numbered nat_eq world number).files
      → no_outsider_on nat_eq world names number ≡ false
      → is_some (node_at nat_eq world location) ≡ true → is_locked_at nat_eq world location ≡ false
      → is_among nat_eq number (used_filesystems nat_eq world names) ≡ false
  not_used tree listed there node free = false_from_ne_true _ (λ used. ⊎_elim
      (λ alone. true≢false (sym (and_true_left (no_outsider_on nat_eq world names number) _ alone) ∙ there))
      (λ whole. true≢false (sym (all_locked world names number tree listed whole location.node node) ∙ free))
      (or_cases (used_alone nat_eq world names number) (wholly_locked nat_eq world names number)
      (among_from_list_all _ (used_filesystems nat_eq world names) fourth number (among_numbers _ number used))))

  pub outsiders_change_leaves : (fresh : Fresh ℕ) (change : Change ℕ)
      → IsTree (filesystem_numbered nat_eq world number).files.tree
      → ListsNumbers nat_eq (filesystem_numbered nat_eq world number).files
      → no_outsider_on nat_eq world names number ≡ false
      → is_some (node_at nat_eq world location) ≡ true → is_locked_at nat_eq world location ≡ false
      → (filesystem_at nat_eq world location).overlay ≡ None
      → list_any (λ layer. nat_eq number layer.filesystem) (own_lowers nat_eq world names) ≡ false
      → part_of nat_eq (with_change nat_eq fresh world location change) names ≡ part_of nat_eq world names
  outsiders_change_leaves fresh change tree listed there node free plain no_lower =
      let new : Filesystem ℕ = with_files (filesystem_at nat_eq world location)
      (changed nat_eq (filesystem_at nat_eq world location).files change) in
      let same : new.number ≡ number = number_of_filesystem world number in
      ap (λ o. part_of nat_eq
      (filesystem_changed nat_eq fresh world (filesystem_at nat_eq world location) o change) names) plain
      ∙ unused_filesystems_may_change world names new
      (ap (λ n. is_among nat_eq n (used_filesystems nat_eq world names)) same ∙ not_used tree listed there node free)
      (ap (λ n. list_any (λ layer. nat_eq n layer.filesystem) (own_lowers nat_eq world names)) same ∙ no_lower)

pub wholly_locked_is_locked : WhollyLockedIsLocked
wholly_locked_is_locked world names number object listed whole there =
    all_locked world names number listed.tree listed.numbers whole object there

pub others_change_what_is_not_used : OthersChangeWhatIsNotUsed
others_change_what_is_not_used world names location is change =
    not_used world names location is change.listed.tree change.listed.numbers change.outsiders change.there change.free

pub others_changes_leave_the_part : OthersChangesLeaveThePart
others_changes_leave_the_part world names location fresh asked is change plain no_lower =
    outsiders_change_leaves world names location is fresh asked change.listed.tree change.listed.numbers
    change.outsiders change.there change.free plain no_lower
