-- A permit leaves overlays without an upper layer as they are.
use Rattle.std.proofs.Common.{arith, ◌≡◌, refl, sym, ap, subst, ◌∙◌, ℕ, nat_eq, eqb-true, Bool, true, false, true≢false, List, [], ◌∷◌, ◌++◌, filter, map, Option, Some, None, is_some, All}
use Rattle.vt_spec.proofs.Common.{Among, Change, CopyUp, Filesystem, Fresh, Layer, Location, Make, Move, Overlay, Permit, Remove, Task, ToChange, ToEnterNamespace, ToExit, ToMake, ToMountOverlay, ToMountPlain, ToOpen, ToOpenNew, ToRemoveDirectory, ToRename, ToSetType, ToUnmount, ToUnmountLazily, ToUnshare, ToWritePart, World, all_from_among, among-filter, among-from_filter, among_from_all, any_pair, apply, changed, common_steps, evens, filesystem_changed, filesystem_numbered, filesystems-taken_away, filesystems-without_replaced, going, is_copied_up, is_overlay, mount_at, mount_numbered, namespace_entered, odds, of_overlay, overlay_changed, overlay_or, plain_filesystem, pwritten, replaced_if_numbered, unshared, with_change, with_copy, with_files, without_mounts_on, without_replaced, without_task}
use Rattle.vt_laws_mounts.proofs.letting_go.sweeps.OfWorlds.{found_filesystem}
use Rattle.vt_laws_mounts.proofs.ends.UnmountingEnds.{lazy_is_of_mounts}
use Rattle.vt_laws_mounts.proofs.mounts.MountsRetyped.{types_are_of_mounts}
use Rattle.vt_laws_trees.proofs.trees.TreesOfWorlds.{number_numbered, numbered_anyhow}
use Rattle.vt_laws_worlds.specs.Worlds.Permits.{NamesWhatIsThere}
use Rattle.vt_laws_worlds.proofs.worlds.PermitsSeen.{gone_on}
use Rattle.vt_laws_mounts.specs.Counts.BesideOverlays.{OverlaysHaveNoUpper}
use Rattle.vt_laws_mounts.proofs.counts.overlays.NamedStay.{filter_stays}

abbrev pub overlays_in : List (Filesystem ℕ) → List (Filesystem ℕ)
overlays_in list = filter is_overlay list

-- What holds of all plain filesystems, and of all overlays before, holds after a change that leaves overlays.
pub by_overlays : (P : Filesystem ℕ → Type 0) → ((f : Filesystem ℕ) → is_overlay f ≡ false → P f)
    → (before after : List (Filesystem ℕ)) → overlays_in after ≡ overlays_in before → All P before → All P after
by_overlays P plain before after same all = all_from_among P after (λ f m. by f m _ refl)
  where
    by : (f : Filesystem ℕ) → Among f after → (b : Bool) → is_overlay f ≡ b → P f
    by f m false e = plain f e
    by f m true e = among_from_all P before all f
        (among-from_filter is_overlay before f (subst (Among f) same (among-filter _ after f m e))).0

pub no_upper_of_plain : (f : Filesystem ℕ) → is_overlay f ≡ false
    → of_overlay false (λ overlay. is_some overlay.upper) f ≡ false
no_upper_of_plain f e = grind (arith, common_steps, true≢false)

-- a plain filesystem more
one_more : (list : List (Filesystem ℕ)) (new : Filesystem ℕ) → is_overlay new ≡ false
    → overlays_in (list ++ (new ∷ [])) ≡ overlays_in list
one_more [] new e = cc
one_more (first ∷ rest) new e = grind (arith, common_steps, one_more rest new e)

module _ (world : World ℕ) (fresh : Fresh ℕ) (task : Task ℕ) (none : OverlaysHaveNoUpper world)
    (one : any_pair (λ (a b : Filesystem ℕ). nat_eq a.number b.number) world.filesystems ≡ false) where
  abbrev after : Permit ℕ → World ℕ
  after permit = (apply nat_eq fresh world task permit).world

  abbrev Left : List (Filesystem ℕ) → Type 0
  Left list = overlays_in list ≡ overlays_in world.filesystems

  -- a change is of a plain filesystem
  changing : (supply : Fresh ℕ) (middle : World ℕ) → middle.filesystems ≡ world.filesystems
      → (location : Location ℕ) (change : Change ℕ)
      → Left (with_change nat_eq supply middle location change).filesystems
  changing supply middle same location change = by old.overlay refl
    where
      number : ℕ
      number = (mount_at nat_eq middle location).filesystem

      old : Filesystem ℕ
      old = filesystem_numbered nat_eq middle number

      old_number : old.number ≡ number
      old_number = number_numbered number middle.filesystems

      -- an overlay has no upper layer
      no_upper : of_overlay false (λ overlay. is_some overlay.upper) old ≡ false
      no_upper =
          numbered_anyhow (λ f. of_overlay false (λ overlay. is_some overlay.upper) f ≡ false) number middle.filesystems
          (subst (All (λ f. of_overlay false (λ overlay. is_some overlay.upper) f ≡ false)) (sym same) none) refl

      -- the changed one stands in the place of a plain one
      new : Filesystem ℕ
      new = with_files old (changed nat_eq old.files change)

      is_old : (f : Filesystem ℕ) → Among f world.filesystems → nat_eq new.number f.number ≡ true → f ≡ old
      is_old f m e = sym (found_filesystem world.filesystems one f m)
          ∙ ap (filesystem_numbered nat_eq world) (sym (eqb-true new.number f.number e) ∙ old_number)
          ∙ (λ i. filesystem_numbered nat_eq (record middle { filesystems = sym same i }) number)

      plain : old.overlay ≡ None → Left (map (replaced_if_numbered nat_eq new) middle.filesystems)
      plain e = grind (arith, common_steps, filter_stays, is_old, true≢false)

      unchanged : (overlay : Overlay ℕ) (upper : Option (Layer ℕ)) → is_some upper ≡ false
          → Left (overlay_changed nat_eq supply middle old overlay upper change).filesystems
      unchanged overlay None e = ap overlays_in same
      unchanged overlay (Some upper) e = absurd (true≢false e)

      by : (o : Option (Overlay ℕ)) → old.overlay ≡ o
          → Left (filesystem_changed nat_eq supply middle old o change).filesystems
      by None e = plain e
      by (Some overlay) e = unchanged overlay overlay.upper
          (sym (ap (overlay_or false (λ other. is_some other.upper)) e) ∙ no_upper)

  copying : (b : Bool) (file : Location ℕ) → Left (with_copy nat_eq b fresh world file).filesystems
  copying true file = changing fresh world refl file (CopyUp file.node)
  copying false file = refl

  writing : (file : Location ℕ) (offset : ℕ) (bytes : List ℕ)
      → Left (pwritten nat_eq fresh world file offset bytes).filesystems
  writing file offset [] = refl
  writing file offset (byte ∷ bytes) = changing fresh world refl file _

  pub overlays_left : (permit : Permit ℕ) → NamesWhatIsThere world task permit → Left (after permit).filesystems
  overlays_left (ToChange location change) fits = changing fresh world refl location change
  overlays_left (ToMake directory name node) fits =
      changing (odds fresh) world refl directory (Make directory.node name (evens fresh 0) node)
  overlays_left (ToRemoveDirectory parent name directory) fits =
      changing fresh (without_mounts_on nat_eq world directory)
      (filesystems-taken_away world (gone_on world directory)) parent (Remove parent.node name directory.node)
  overlays_left (ToRename from old to new object replaced) fits =
      changing fresh (without_replaced nat_eq world replaced) (filesystems-without_replaced world replaced) from
      (Move from.node old to.node new object.node)
  overlays_left (ToOpen file access) fits = copying (is_copied_up nat_eq world file access) file
  overlays_left (ToOpenNew directory name node access) fits =
      changing (odds fresh) world refl directory (Make directory.node name (evens fresh 0) node)
  overlays_left (ToWritePart file offset bytes) fits = writing file offset bytes
  overlays_left ToExit fits = ap overlays_in (filesystems-taken_away (without_task world task.name) _)
  overlays_left ToUnshare fits = ap overlays_in (filesystems-taken_away (unshared nat_eq world fresh task) _)
  overlays_left (ToEnterNamespace namespace) fits =
      ap overlays_in (filesystems-taken_away (namespace_entered nat_eq world task namespace) _)
  overlays_left (ToMountPlain place flags) fits = one_more world.filesystems (plain_filesystem nat_eq fresh) refl
  overlays_left (ToMountOverlay place overlay flags) fits = absurd fits
  overlays_left (ToUnmount mount) fits =
      ap overlays_in (filesystems-taken_away world (going nat_eq world (mount_numbered nat_eq world mount)))
  overlays_left (ToUnmountLazily mount) fits = ap overlays_in (lazy_is_of_mounts world mount).filesystems
  overlays_left (ToSetType mount word recursive) fits =
      ap overlays_in (types_are_of_mounts world fresh mount word recursive).filesystems
  overlays_left permit fits = refl
