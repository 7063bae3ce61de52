-- An inode that nothing uses may go before the sweep.
use Rattle.std.proofs.Common.{◌≡◌, refl, sym, ap, ◌∙◌, ℕ, nat_eq, eqb-true, Bool, true, false, cond, not, ◌&&◌, All, arith}
use Rattle.vt_spec.proofs.Common.{All-filter, Filesystem, World, and_parts, filesystem_lives, has_layer_on, is_mounted, is_overlay, map_alike, not-true, objects_of_overlay, settled, without_dead_filesystems, without_dead_groups, without_dead_inodes, without_dead_mounts, common_steps}
use Rattle.vt_laws_mounts.specs.LettingGo.InUse.{HasTrees, IsListedTree, UppersArePlain, has_upper_in, is_inode_used}
use Rattle.vt_laws_mounts.specs.LettingGo.OneByOne.{Inode}
use Rattle.vt_laws_mounts.specs.LettingGo.Overlays.{RealsAreThere, let_go_in, without_inode_of}
use Rattle.vt_laws_mounts.proofs.letting_go.Lists.{Among, all_from_among, among_from_all, among-flat_map, among-from_filter, among-from_flat_map, among_numbers, any-map, filter-map, is_among_numbers}
use Rattle.vt_laws_mounts.proofs.letting_go.sweeps.InUse.{layers_on, layers_stay}
use Rattle.vt_laws_mounts.proofs.letting_go.sweeps.Merged.{HasReals, without_all, without_nothing}
use Rattle.vt_laws_mounts.proofs.letting_go.sweeps.MergedSteps.{layers_without}
use Rattle.vt_laws_worlds.specs.Seen.SweptBefore.{InodesMayGoBefore, LocationsStay}
use Rattle.vt_laws_worlds.proofs.seen.swept.Stages.{inodes_before, less, used_too, with_less}

module _ (chosen : Filesystem ℕ → Bool) (world : World ℕ) (inode : Inode) where
  abbrev goes : Filesystem ℕ → Bool
  goes f = (chosen f && nat_eq f.number inode.0) && not (is_inode_used world f inode.1)

  abbrev pub went : Filesystem ℕ → ℕ → Bool
  went f k = goes f && nat_eq k inode.1

  pub let_go_is_less : let_go_in chosen world inode ≡ with_less went world
  let_go_is_less = cc (map_alike _ (less went) world.filesystems (λ f m. by f (goes f)))
    where
      by : (f : Filesystem ℕ) (b : Bool)
          → cond b (without_inode_of inode.1 f) f ≡ without_all (λ k. b && nat_eq k inode.1) f
      by f true = refl
      by f false = sym (without_nothing f)

  -- what goes is not used
  pub went_unused : (f : Filesystem ℕ) (k : ℕ) → went f k ≡ true → is_inode_used world f k ≡ false
  went_unused f k e =
      let parts = and_parts (goes f) (nat_eq k inode.1) e in
      let unused = not-true (is_inode_used world f inode.1)
      (and_parts (chosen f && nat_eq f.number inode.0) (not (is_inode_used world f inode.1)) parts.0).1 in
      cc (eqb-true k inode.1 parts.1)

  abbrev living : World ℕ → World ℕ
  living w = without_dead_filesystems nat_eq (without_dead_mounts nat_eq w)

  abbrev mounted : World ℕ
  mounted = without_dead_mounts nat_eq world

  abbrev layered : ℕ → Filesystem ℕ → Bool
  layered on merged = has_layer_on nat_eq on merged && is_mounted nat_eq mounted merged.number

  has_layer_less : (on : ℕ) (g : Filesystem ℕ) → has_layer_on nat_eq on (less went g) ≡ has_layer_on nat_eq on g
  has_layer_less on g = cc (layers_on world on (less went g), layers_without (went g) g, layers_on world on g)

  -- the same filesystems live
  same_lives : (f : Filesystem ℕ) → filesystem_lives nat_eq (with_less went mounted) (less went f)
      ≡ filesystem_lives nat_eq mounted f
  same_lives f = cc (any-map (layered f.number) {q = layered f.number} (less went) world.filesystems
      (λ g. ap (λ b. b && is_mounted nat_eq mounted g.number) (has_layer_less f.number g)))

  living_less : living (with_less went world) ≡ with_less went (living world)
  living_less = cc (filter-map (filesystem_lives nat_eq (with_less went mounted)) {q = filesystem_lives nat_eq mounted}
      (less went) world.filesystems same_lives)

  module _ (trees : HasTrees world) (uppers : UppersArePlain world) (reals : RealsAreThere world)
      (stay : LocationsStay world) where
    abbrev lives : Filesystem ℕ → Bool
    lives = filesystem_lives nat_eq mounted

    used_before : (f : Filesystem ℕ) (k : ℕ) → is_inode_used (living world) f k ≡ true → is_inode_used world f k ≡ true
    used_before f k is = used_too (living world) world f k
        (λ m. among_numbers k _ (stay f.number k (is_among_numbers k _ m))) (layers_stay (living world) world
        (λ g m. (g, (among-from_filter lives world.filesystems g m).0, refl)) f.number k)
        (λ m. let from = among-from_flat_map (objects_of_overlay nat_eq f.number) (living world).filesystems k m in
        among-flat_map (objects_of_overlay nat_eq f.number) world.filesystems from.0 k
        (among-from_filter lives world.filesystems from.0 from.1).0 from.2) is

    unused : (f : Filesystem ℕ) → Among f (living world).filesystems → (k : ℕ) → went f k ≡ true
        → is_inode_used (living world) f k ≡ false
    unused f m k e = grind (arith, common_steps, used_before, went_unused)

    pub swept_before : settled nat_eq (let_go_in chosen world inode) ≡ settled nat_eq world
    swept_before = ap (settled nat_eq) let_go_is_less
        ∙ ap (λ w. without_dead_groups nat_eq (without_dead_inodes nat_eq w)) living_less
        ∙ ap (without_dead_groups nat_eq) (inodes_before went (living world)
        (All-filter lives (λ f. IsListedTree f.files) world.filesystems trees) (all_from_among (λ f. is_overlay f ≡ true
        → All (λ g. has_upper_in f.number g ≡ false) (living world).filesystems) (living world).filesystems
        (λ f m is. All-filter lives (λ g. has_upper_in f.number g ≡ false) world.filesystems
        (among_from_all (λ x. is_overlay x ≡ true → All (λ g. has_upper_in x.number g ≡ false) world.filesystems)
        world.filesystems uppers f (among-from_filter lives world.filesystems f m).0 is)))
        (All-filter lives HasReals world.filesystems reals) unused)

pub inodes_may_go_before : InodesMayGoBefore
inodes_may_go_before = swept_before
