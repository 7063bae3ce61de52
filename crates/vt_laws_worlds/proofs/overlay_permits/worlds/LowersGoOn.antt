-- A live overlay goes on over the layers that it had, while filesystems change, come and go.
use Rattle.std.proofs.Common.{arith, ◌≡◌, refl, sym, ap, subst, ◌∙◌, ⊎_elim, ℕ, nat_eq, Bool, true, false, cond, true≢false, not, List, [], ◌∷◌, find, map, Option, Some, None, option_map, unwrap_or}
use Rattle.vt_spec.proofs.Common.{Among, Change, Filesystem, Fresh, Layer, Location, Merge, Overlay, OverlayInvariants, TaskName, World, changed, common_steps, eqb_tells, filesystem_at, filesystem_changed, filesystem_numbered, is_overlay, led, merge_changed, merge_of, mount_at, no_filesystem, numbers_raised, overlay_changed, raised, raised_if_changed, same_Some, settled, stack_of, then_some, with_change, with_files, with_filesystem, without_dead_filesystems, without_dead_in, without_dead_mounts}
use Rattle.vt_laws_trees.specs.Layers.Layers.Locked.{LeadsAsBefore}
use Rattle.vt_laws_trees.proofs.layers.layers.LowersKept.{kept_both, kept_same}
use Rattle.vt_laws_trees.proofs.layers.layers.LowersWorld.{filesystem_elsewhere, filesystem_there, number_of_filesystem}
use Rattle.vt_laws_worlds.proofs.merging.mounted.Again.{files_raised}
use Rattle.vt_laws_worlds.specs.Worlds.Kept.{IsUnderWay}
use Rattle.vt_laws_worlds.proofs.settling.SettledTasks.{trees_under_way}
use Rattle.vt_laws_worlds.proofs.overlay_permits.worlds.OverlaysGoOn.{GoesOn}
use Rattle.vt_laws_worlds.proofs.overlay_permits.worlds.SweptInodes.{file_trees_are, files_later, first_goes, one_later, second_goes}
use Rattle.vt_laws_worlds.proofs.overlay_permits.worlds.SweptOverlays.{living_goes}
use Rattle.vt_laws_worlds.proofs.overlay_permits.worlds.SweptWorlds.{files_living, mounted_overlays, one_living, overlays_first, overlays_living}
use Rattle.vt_spec.proofs.Worlds.{lower_is_layer}

-- an overlay is there later, over the same layers, and paths lead from the lower ones where they led
pub record OverlayStays (world later : World ℕ) (number : ℕ) (overlay : Overlay ℕ) : Type 0 where
  pub after : Overlay ℕ
  pub is : (filesystem_numbered nat_eq later number).overlay ≡ Some after
  pub upper : after.upper ≡ overlay.upper
  pub work : after.work ≡ overlay.work
  pub lowers : after.lowers ≡ overlay.lowers
  pub leads : (lower : Layer ℕ) → Among lower overlay.lowers → LeadsAsBefore world later lower

pub leads_both : (a b c : World ℕ) (layer : Layer ℕ) → LeadsAsBefore a b layer → LeadsAsBefore b c layer
    → LeadsAsBefore a c layer
leads_both a b c layer first second path =
    ((second path).0 ∙ (first path).0, kept_both _ _ _ (first path).1 (second path).1)

-- paths are seen on trees alone
pub leads_by_files : (world later : World ℕ) (layer : Layer ℕ)
    → (filesystem_numbered nat_eq later layer.filesystem).files
    ≡ (filesystem_numbered nat_eq world layer.filesystem).files → LeadsAsBefore world later layer
leads_by_files world later layer same path = (
  ap (λ files. led files.tree layer.directory path) same,
  kept_same _ _ (ap (λ files. then_some (led files.tree layer.directory path) files.tree.node) same),
)

pub stays_itself : (world : World ℕ) (number : ℕ) (overlay : Overlay ℕ)
    → (filesystem_numbered nat_eq world number).overlay ≡ Some overlay → OverlayStays world world number overlay
stays_itself world number overlay is = grind (arith, common_steps, leads_by_files)

pub stays_both : (a b c : World ℕ) (number : ℕ) (overlay : Overlay ℕ) (first : OverlayStays a b number overlay)
    → OverlayStays b c number first.after → OverlayStays a c number overlay
stays_both a b c number overlay first second = grind (arith, common_steps, leads_both)

-- An overlay with its layers
abbrev pub Layers : Type 0
Layers = Option (Layer ℕ) × Option (Layer ℕ) × List (Layer ℕ)

abbrev pub layers : Overlay ℕ → Layers
layers overlay = (overlay.upper, overlay.work, overlay.lowers)

abbrev pub layers_at : World ℕ → ℕ → Option Layers
layers_at world number = option_map layers (filesystem_numbered nat_eq world number).overlay

pub stays_over : (world later : World ℕ) (number : ℕ) (overlay : Overlay ℕ)
    → (filesystem_numbered nat_eq world number).overlay ≡ Some overlay → layers_at later number ≡ layers_at world number
    → ((lower : Layer ℕ) → Among lower overlay.lowers → LeadsAsBefore world later lower)
    → OverlayStays world later number overlay
stays_over world later number overlay is same leads = grind (arith, common_steps, true≢false, same_Some)

-- A change of a filesystem leaves the layers of each overlay
replaced_layers : (world : World ℕ) (new : Filesystem ℕ) → option_map layers new.overlay ≡ layers_at world new.number
    → (number : ℕ) → layers_at (with_filesystem nat_eq world new) number ≡ layers_at world number
replaced_layers world new same number = ⊎_elim
    (λ t. filesystem_there (λ f. option_map layers f.overlay ≡ layers_at world number) world new number t.1
    (same ∙ ap (layers_at world) (sym t.1)) (λ none. ap (λ (f : Filesystem ℕ). option_map layers f.overlay) (sym none)))
    (λ t. ap (λ (f : Filesystem ℕ). option_map layers f.overlay) (filesystem_elsewhere world new number t.1))
    (eqb_tells number new.number)

pub changed_layers : (fresh : Fresh ℕ) (world : World ℕ) (location : Location ℕ) (change : Change ℕ) (number : ℕ)
    → layers_at (with_change nat_eq fresh world location change) number ≡ layers_at world number
changed_layers fresh world location change number = by (filesystem_at nat_eq world location).overlay refl
  where
    own_layers : option_map layers (filesystem_at nat_eq world location).overlay
        ≡ layers_at world (filesystem_at nat_eq world location).number
    own_layers = ap (λ (f : Filesystem ℕ). option_map layers f.overlay) (sym (ap (filesystem_numbered nat_eq world)
        (number_of_filesystem world (mount_at nat_eq world location).filesystem)))

    over : (overlay : Overlay ℕ) → (filesystem_at nat_eq world location).overlay ≡ Some overlay
        → (upper : Option (Layer ℕ)) → layers_at (overlay_changed nat_eq fresh world
        (filesystem_at nat_eq world location) overlay upper change) number ≡ layers_at world number
    over overlay e None = refl
    over overlay e (Some upper) =
        let merge : Merge ℕ = merge_changed nat_eq fresh (stack_of nat_eq world overlay upper)
        (merge_of nat_eq world (filesystem_at nat_eq world location) overlay upper) change in
        let first : Filesystem ℕ = record (filesystem_at nat_eq world location) {
          files = merge.files;
          overlay = Some (record overlay { real = merge.real });
        } in
        let first_layers : option_map layers first.overlay ≡ layers_at world first.number =
        ap (option_map layers) (sym e) ∙ own_layers in
        let under : Filesystem ℕ = filesystem_numbered nat_eq world upper.filesystem in
        replaced_layers (with_filesystem nat_eq world first) (with_files under merge.upper)
        (ap (layers_at world) (sym (number_of_filesystem world upper.filesystem))
        ∙ sym (replaced_layers world first first_layers under.number)) number
        ∙ replaced_layers world first first_layers number

    by : (o : Option (Overlay ℕ)) → (filesystem_at nat_eq world location).overlay ≡ o
        → layers_at (filesystem_changed nat_eq fresh world (filesystem_at nat_eq world location) o change) number
        ≡ layers_at world number
    by None e = replaced_layers world (with_files (filesystem_at nat_eq world location)
        (changed nat_eq (filesystem_at nat_eq world location).files change)) own_layers number
    by (Some overlay) e = over overlay e overlay.upper

-- Raised change numbers are of no overlay
raised_layers : (changed : List ℕ) (number : ℕ) (list : List (Filesystem ℕ))
    → (unwrap_or (find (λ (f : Filesystem ℕ). nat_eq number f.number) (map (raised_if_changed nat_eq changed) list))
    (no_filesystem number)).overlay
    ≡ (unwrap_or (find (λ (f : Filesystem ℕ). nat_eq number f.number) list) (no_filesystem number)).overlay
raised_layers changed number [] = refl
raised_layers changed number (first ∷ rest) = by _ (raised_layers changed number rest)
  where
    pick : (one : Filesystem ℕ) → one.overlay ≡ first.overlay → (b : Bool) (others were : Option (Filesystem ℕ))
        → (unwrap_or others (no_filesystem number)).overlay ≡ (unwrap_or were (no_filesystem number)).overlay
        → (unwrap_or (cond b (Some one) others) (no_filesystem number)).overlay
        ≡ (unwrap_or (cond b (Some first) were) (no_filesystem number)).overlay
    pick one same true others were on = same
    pick one same false others were on = on

    by : (b : Bool)
        → (unwrap_or (find (λ (f : Filesystem ℕ). nat_eq number f.number) (map (raised_if_changed nat_eq changed) rest))
        (no_filesystem number)).overlay
        ≡ (unwrap_or (find (λ (f : Filesystem ℕ). nat_eq number f.number) rest) (no_filesystem number)).overlay
        → (unwrap_or (find (λ (f : Filesystem ℕ). nat_eq number f.number)
        (cond b (record first { change = raised first.change }) first ∷ map (raised_if_changed nat_eq changed) rest))
        (no_filesystem number)).overlay
        ≡ (unwrap_or (find (λ (f : Filesystem ℕ). nat_eq number f.number) (first ∷ rest))
        (no_filesystem number)).overlay
    by b on = grind (arith, common_steps, pick)

module _ (before : World ℕ) (name : TaskName) (changed : List ℕ) (world : World ℕ) (number : ℕ) where
  pub raised_overlay : (filesystem_numbered nat_eq (numbers_raised nat_eq before name changed world) number).overlay
      ≡ (filesystem_numbered nat_eq world number).overlay
  raised_overlay = raised_layers changed number world.filesystems

  pub raised_stays : (overlay : Overlay ℕ) → (filesystem_numbered nat_eq world number).overlay ≡ Some overlay
      → OverlayStays world (numbers_raised nat_eq before name changed world) number overlay
  raised_stays overlay is = stays_over world (numbers_raised nat_eq before name changed world) number overlay is
      (ap (option_map layers) raised_overlay)
      (λ lower m. leads_by_files world (numbers_raised nat_eq before name changed world) lower
      (files_raised changed lower.filesystem world.filesystems))

module _ (world : World ℕ) (under : IsUnderWay world) (are : OverlayInvariants nat_eq world) (number : ℕ) where
  abbrev mounted : World ℕ
  mounted = without_dead_mounts nat_eq world

  abbrev living : World ℕ
  living = without_dead_filesystems nat_eq mounted

  abbrev first : World ℕ
  first = without_dead_in nat_eq is_overlay living

  from_mounted : (after : Overlay ℕ) (on : GoesOn mounted living number after)
      → (filesystem_numbered nat_eq living number).overlay ≡ Some after → OverlayStays world living number on.before
  from_mounted after on is = grind (arith, common_steps, lower_is_layer)

  from_living : (after : Overlay ℕ) (on : GoesOn living first number after)
      → (filesystem_numbered nat_eq first number).overlay ≡ Some after → OverlayStays living first number on.before
  from_living after on is = grind (arith, common_steps, lower_is_layer)

  from_first : (after : Overlay ℕ)
      (on : GoesOn first (without_dead_in nat_eq (λ f. not (is_overlay f)) first) number after)
      → (filesystem_numbered nat_eq (settled nat_eq world) number).overlay ≡ Some after
      → OverlayStays first (settled nat_eq world) number on.before
  from_first after on is = grind (arith, common_steps, lower_is_layer)

  pub swept_stays : (after : Overlay ℕ)
      → (filesystem_numbered nat_eq (settled nat_eq world) number).overlay ≡ Some after
      → (overlay : Overlay ℕ) → (filesystem_numbered nat_eq world number).overlay ≡ Some overlay
      → OverlayStays world (settled nat_eq world) number overlay
  unfolding from_living from_mounted
  swept_stays after e overlay was =
      let files = files_living world under are in
      let one = one_living world under are in
      let third = second_goes first (files_later is_overlay living files one) (one_later is_overlay living files one)
      (overlays_first world under are) number after e in
      let second = first_goes living files one (overlays_living world under are) number third.before third.is in
      let begins = living_goes mounted (file_trees_are mounted (trees_under_way world under) under.files.one_filesystem)
      (mounted_overlays world under are) number second.before second.is in
      subst (OverlayStays world (settled nat_eq world) number) (same_Some begins.before overlay (sym begins.is ∙ was))
      (stays_both world living (settled nat_eq world) number begins.before (from_mounted second.before begins second.is)
      (stays_both living first (settled nat_eq world) number second.before (from_living third.before second third.is)
      (from_first after third e)))
