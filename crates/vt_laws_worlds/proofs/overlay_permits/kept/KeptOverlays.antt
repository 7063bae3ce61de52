-- A granted call that changes an overlay keeps the invariants of overlays.
use Rattle.std.proofs.Common.{arith, ◌≡◌, refl, sym, ap, subst, ◌∙◌, ℕ, nat_eq, Bool, true, false, List, [], ◌∷◌, Option, Some, None}
use Rattle.vt_spec.proofs.Common.{Change, CopyUp, Filesystem, Fresh, IsMerged, Location, Overlay, OverlayInvariants, Permit, Task, ToChange, ToMake, ToOpen, ToOpenNew, ToRemoveDirectory, ToRename, ToWritePart, TreeInvariants, World, apply, common_steps, filesystem_changed, filesystem_numbered, is_copied_up, mount_at, when, with_change, with_copy, ⊤}
use Rattle.vt_laws_trees.proofs.layers.layers.LowersMounts.{same_filesystems_without, same_mounted_without}
use Rattle.vt_laws_trees.proofs.overlays.whole.ApartInvariants.{overlay_invariants_stay, tree_invariants_stay}
use Rattle.vt_laws_worlds.specs.OverlayPermits.Asked.{change_asked}
use Rattle.vt_laws_worlds.specs.OverlayPermits.Changed.{numbers_left}
use Rattle.vt_laws_worlds.specs.OverlayPermits.Kept.{PermitsKeepOverlayInvariants, PermitsMakeTheirChange}
use Rattle.vt_laws_worlds.proofs.overlay_permits.asked.AskedOverlays.{permits_ask_overlays_well, permits_ask_properly}
use Rattle.vt_laws_worlds.proofs.overlay_permits.changed.ChangedOverlays.{are_left}

-- A change of filesystems depends on filesystems alone
module _ (fresh : Fresh ℕ) (change : Change ℕ) where
  after_in : World ℕ → ℕ → List (Filesystem ℕ)
  after_in w n = (filesystem_changed nat_eq fresh w (filesystem_numbered nat_eq w n)
      (filesystem_numbered nat_eq w n).overlay change).filesystems

  -- worlds that differ elsewhere
  by_overlay : (a b : World ℕ) (f : Filesystem ℕ) (o : Option (Overlay ℕ))
      → (filesystem_changed nat_eq fresh (record a { filesystems = b.filesystems }) f o change).filesystems
      ≡ (filesystem_changed nat_eq fresh b f o change).filesystems
  by_overlay a b f o = grind (arith, common_steps)

  after_same : (a b : World ℕ) → a.filesystems ≡ b.filesystems → (n : ℕ) → after_in a n ≡ after_in b n
  unfolding after_in
  after_same a b same n = ap (λ fs. (filesystem_changed nat_eq fresh (record a { filesystems = fs })
      (filesystem_numbered nat_eq (record a { filesystems = fs }) n)
      (filesystem_numbered nat_eq (record a { filesystems = fs }) n).overlay change).filesystems) same
      ∙ by_overlay a b (filesystem_numbered nat_eq b n) (filesystem_numbered nat_eq b n).overlay

  pub changed_same : (a b : World ℕ) (location : Location ℕ) → a.filesystems ≡ b.filesystems
      → (mount_at nat_eq a location).filesystem ≡ (mount_at nat_eq b location).filesystem
      → (with_change nat_eq fresh a location change).filesystems
      ≡ (with_change nat_eq fresh b location change).filesystems
  unfolding after_in
  changed_same a b location same mounted = cc (after_same a b same (mount_at nat_eq b location).filesystem)

-- the filesystems after a permit
abbrev Makes : World ℕ → Fresh ℕ → Task ℕ → Permit ℕ → Option (Location ℕ × Change ℕ) → Type 0
Makes world fresh task permit None = ⊤
Makes world fresh task permit (Some made) = (apply nat_eq fresh world task permit).world.filesystems
    ≡ (with_change nat_eq (numbers_left fresh permit) world made.0 made.1).filesystems

-- open(2), with a copy or without one
abbrev Opens : World ℕ → Fresh ℕ → Location ℕ → Bool → Option (Location ℕ × Change ℕ) → Type 0
Opens world fresh file copies None = ⊤
Opens world fresh file copies (Some made) =
    (with_copy nat_eq copies fresh world file).filesystems ≡ (with_change nat_eq fresh world made.0 made.1).filesystems

opens : (world : World ℕ) (fresh : Fresh ℕ) (file : Location ℕ) (copies : Bool)
    → Opens world fresh file copies (when copies (file, CopyUp file.node))
opens world fresh file true = refl
opens world fresh file false = tt

makes : (world : World ℕ) (fresh : Fresh ℕ) (task : Task ℕ) (permit : Permit ℕ)
    → Makes world fresh task permit (change_asked fresh world permit)
makes world fresh task (ToChange location change) = refl
makes world fresh task (ToMake directory name node) = refl
makes world fresh task (ToRemoveDirectory parent name directory) = changed_same fresh _ _ world parent
    (same_filesystems_without world directory) (same_mounted_without world directory parent)
makes world fresh task (ToRename from old to new object None) = refl
makes world fresh task (ToRename from old to new object (Some replaced)) = changed_same fresh _ _ world from
    (same_filesystems_without world replaced) (same_mounted_without world replaced from)
makes world fresh task (ToOpen file access) = as_made _ (opens world fresh file (is_copied_up nat_eq world file access))
  where
    as_made : (o : Option (Location ℕ × Change ℕ)) → Opens world fresh file (is_copied_up nat_eq world file access) o
        → Makes world fresh task (ToOpen file access) o
    as_made None e = tt
    as_made (Some made) e = e
makes world fresh task (ToOpenNew directory name node access) = refl
makes world fresh task (ToWritePart file offset []) = tt
makes world fresh task (ToWritePart file offset (byte ∷ bytes)) = refl
makes world fresh task permit = tt

pub permits_make_their_change : PermitsMakeTheirChange
permits_make_their_change world fresh task permit location change asks = subst (Makes world fresh task permit) asks
    (makes world fresh task permit)

-- Invariants of overlays depend on filesystems alone
merged_in : (a b : World ℕ) (f : Filesystem ℕ) (o : Overlay ℕ) → IsMerged nat_eq b f o
    → IsMerged nat_eq (record a { filesystems = b.filesystems }) f o
merged_in a b f o is = grind (arith, common_steps)

pub overlays_in : (a b : World ℕ) → a.filesystems ≡ b.filesystems → OverlayInvariants nat_eq b
    → OverlayInvariants nat_eq a
overlays_in a b same is = subst (λ fs. OverlayInvariants nat_eq (record a { filesystems = fs })) (sym same) (record {
  overlays_merge = λ n o e. merged_in a b (filesystem_numbered nat_eq b n) o (is.overlays_merge n o e);
  fit_layers = is.fit_layers;
  plain_layers = is.plain_layers;
  changed_apart = is.changed_apart;
  lowers_apart = is.lowers_apart;
  uppers_reached = is.uppers_reached;
})

pub trees_in : (a b : World ℕ) → a.filesystems ≡ b.filesystems → TreeInvariants nat_eq b → TreeInvariants nat_eq a
trees_in a b same is = grind (arith, common_steps)

pub permits_keep_overlay_invariants : PermitsKeepOverlayInvariants
permits_keep_overlay_invariants world fresh task call permit location change overlay upper conditions serves called
    judged asks is has =
    let left = are_left world fresh conditions serves permit in
    let asked =
    permits_ask_overlays_well world fresh task call permit location change overlay upper conditions serves called
    judged asks is has in
    let fit =
    (permits_ask_properly world fresh task call permit location change conditions serves called judged asks).1 in
    let same = permits_make_their_change world fresh task permit location change asks in
    let then = with_change nat_eq (numbers_left fresh permit) world location change in (
      overlays_in (apply nat_eq fresh world task permit).world then same
          (overlay_invariants_stay (numbers_left fresh permit) world location change overlay upper conditions is has
          left.0 left.1 asked),
      trees_in (apply nat_eq fresh world task permit).world then same
          (tree_invariants_stay (numbers_left fresh permit) world location change overlay upper conditions is has left.0
          left.1 asked fit),
    )
