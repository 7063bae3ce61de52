-- What nothing uses goes, and a world is left, with overlays too.
use Rattle.std.proofs.Common.{◌≡◌, refl, sym, ap, ◌∙◌, true≢false, eqb-true, ℕ, nat_eq, Bool, true, false, not, ◌++◌, Option, Some, None, inl, subst, All, option_to_list}
use Rattle.vt_spec.proofs.Common.{All-filter, Among, Filesystem, IsWorld, Layer, Overlay, OverlayInvariants, World, all_from_among, and_true_left, any_pair, filesystem_lives, filesystem_numbered, holds_of, is_overlay, overlay_or, settled, without_dead_filesystems, without_dead_in, without_dead_mounts}
use Rattle.vt_laws_trees.specs.Trees.{IsFileTree}
use Rattle.vt_laws_trees.specs.Trees.Settling.{HasFileTrees}
use Rattle.vt_laws_mounts.specs.LettingGo.InUse.{UppersArePlain, has_upper_in}
use Rattle.vt_laws_mounts.proofs.letting_go.sweeps.InUse.{one_sweep_is_enough}
use Rattle.vt_laws_mounts.proofs.letting_go.sweeps.OfWorlds.{found_filesystem}
use Rattle.vt_laws_worlds.specs.Worlds.Kept.{IsUnderWay}
use Rattle.vt_laws_worlds.proofs.settling.SettledMounts.{settled_mounts, settled_namespaces}
use Rattle.vt_laws_worlds.proofs.settling.SettledTasks.{listed_trees, settled_roots, settled_tasks, settled_trees, trees_under_way}
use Rattle.vt_laws_worlds.specs.OverlayPermits.EveryWorld.{SettlingLeavesEveryWorld}
use Rattle.vt_laws_worlds.proofs.overlay_permits.kept.KeptOverlays.{overlays_in}
use Rattle.vt_laws_trees.proofs.layers.locked.Layers.{plain_layer}
use Rattle.vt_laws_worlds.proofs.overlay_permits.worlds.SweptInodes.{file_trees_are, files_later, first_overlays, one_later, second_overlays}
use Rattle.vt_laws_worlds.proofs.overlay_permits.worlds.SweptOverlays.{living_files, living_overlays}

module _ (world : World ℕ) (under : IsUnderWay world) (are : OverlayInvariants nat_eq world) where
  abbrev mounted : World ℕ
  mounted = without_dead_mounts nat_eq world

  abbrev living : World ℕ
  living = without_dead_filesystems nat_eq mounted

  abbrev first : World ℕ
  first = without_dead_in nat_eq is_overlay living

  abbrev second : World ℕ
  second = without_dead_in nat_eq (λ f. not (is_overlay f)) first

  files : HasFileTrees world
  files = trees_under_way world under

  one : any_pair (λ (a b : Filesystem ℕ). nat_eq a.number b.number) world.filesystems ≡ false
  one = under.files.one_filesystem

  pub mounted_overlays : OverlayInvariants nat_eq mounted
  mounted_overlays = overlays_in _ world refl are

  pub files_living : HasFileTrees living
  files_living = All-filter (filesystem_lives nat_eq mounted)
      (λ (f : Filesystem ℕ). IsFileTree f.files) world.filesystems files

  pub one_living : any_pair (λ (a b : Filesystem ℕ). nat_eq a.number b.number) living.filesystems ≡ false
  one_living = (living_files mounted (file_trees_are mounted files one) mounted_overlays).one_filesystem

  pub overlays_living : OverlayInvariants nat_eq living
  overlays_living = living_overlays mounted (file_trees_are mounted files one) mounted_overlays

  pub overlays_first : OverlayInvariants nat_eq first
  overlays_first = first_overlays living files_living one_living overlays_living

  overlays_second : OverlayInvariants nat_eq second
  overlays_second = second_overlays first (files_later is_overlay living files_living one_living)
      (one_later is_overlay living files_living one_living) overlays_first

  pub overlays_settled : OverlayInvariants nat_eq (settled nat_eq world)
  overlays_settled = overlays_in _ second refl overlays_second

  -- no upper layer is in an overlay
  uppers_plain : UppersArePlain world
  uppers_plain = all_from_among (λ (f : Filesystem ℕ). is_overlay f ≡ true
      → All (λ (merged : Filesystem ℕ). has_upper_in f.number merged ≡ false) world.filesystems) world.filesystems
      (λ f m over.
      all_from_among (λ (merged : Filesystem ℕ). has_upper_in f.number merged ≡ false) world.filesystems (λ merged n.
      by f m over merged (found_filesystem world.filesystems one merged n) merged.overlay refl))
    where
      in_it : (f : Filesystem ℕ) → Among f world.filesystems → is_overlay f ≡ true
          → (merged : Filesystem ℕ) (v : Overlay ℕ)
          → (filesystem_numbered nat_eq world merged.number).overlay ≡ Some v → (upper : Option (Layer ℕ))
          → v.upper ≡ upper → holds_of (λ layer. nat_eq f.number layer.filesystem) upper ≡ false
      in_it f m over merged v is None u = refl
      in_it f m over merged v is (Some top) u = tested (nat_eq f.number top.filesystem) refl
        where
          tested : (b : Bool) → nat_eq f.number top.filesystem ≡ b → nat_eq f.number top.filesystem ≡ false
          tested false e = e
          tested true e = absurd (true≢false
              (sym (and_true_left (not (is_overlay (filesystem_numbered nat_eq world top.filesystem))) _
              (plain_layer world are merged.number v is top
              (subst (λ o. Among top (option_to_list o ++ option_to_list v.work ++ v.lowers)) (sym u) (inl refl))))
              ∙ ap (λ k. not (is_overlay (filesystem_numbered nat_eq world k)))
              (sym (eqb-true f.number top.filesystem e))
              ∙ ap (λ (g : Filesystem ℕ). not (is_overlay g)) (found_filesystem world.filesystems one f m)
              ∙ ap not over))

      by : (f : Filesystem ℕ) → Among f world.filesystems → is_overlay f ≡ true → (merged : Filesystem ℕ)
          → filesystem_numbered nat_eq world merged.number ≡ merged → (o : Option (Overlay ℕ)) → merged.overlay ≡ o
          → overlay_or false (λ v. holds_of (λ layer. nat_eq f.number layer.filesystem) v.upper) o ≡ false
      by f m over merged itself None e = refl
      by f m over merged itself (Some v) e = in_it f m over merged v
          (ap (λ (g : Filesystem ℕ). g.overlay) itself ∙ e) v.upper refl

  pub settled_is_a_world : IsWorld nat_eq (settled nat_eq world)
  settled_is_a_world = record {
    files = settled_trees world under;
    overlays = overlays_settled;
    mounts = settled_mounts world under;
    namespaces = settled_namespaces world under;
    tasks = settled_tasks world under;
    roots = settled_roots world under;
    nothing_unused = one_sweep_is_enough world (listed_trees world under) uppers_plain;
  }

pub settling_leaves_every_world : SettlingLeavesEveryWorld
settling_leaves_every_world world under are = settled_is_a_world world under are
