-- A filesystem goes with its last mount, in a world with overlays.
use Rattle.std.proofs.Common.{arith, ◌≡◌, refl, sym, ap, ◌∙◌, ◌⊎◌, inl, inr, ⊎_elim, ℕ, nat_eq, eqb-true, Bool, true, false, true≢false, cond, ◌||◌, ◌&&◌, List, [], ◌∷◌, ◌++◌, map, Some, nat_lt}
use Rattle.vt_spec.proofs.Common.{cases_Bool, Filesystem, Mount, Overlay, World, and_parts, any_pair, common_steps, filesystem_lives, filesystem_numbered, has_layer_on, is_among, is_mounted, is_overlay, layers_of, list_any, or_cases, without_dead_filesystems}
use Rattle.vt_laws_later_calls.proofs.Common.{Among, FilesystemsInUse, FilesystemsInUseBut, among_from_list_all, any-map, any_among, any_from_among, filesystem_is_looked_up, filesystems_go_one_by_one, filesystems_stay, found_by, let_go_filesystems, list_all_from_among, mounts_showing, none_among, none_from_among, or_left, or_right, without_filesystem}
use Rattle.vt_laws_later_calls.specs.LastUse.{FilesystemBesideOverlaysGoesWithItsLastUse, OverlayGoesWithItsLastUse, is_layered}
use Rattle.vt_laws_later_calls.proofs.last_use.MountsAndFilesystems.{mounted_as_before, mounted_still}

-- tests that answer alike of all that is in a list
pub any_alike : {A : Type 0} (one other : A → Bool) (list : List A) → ((a : A) → Among a list → one a ≡ other a)
    → list_any one list ≡ list_any other list
any_alike one other [] h = refl
any_alike one other (a ∷ rest) h = λ i. h a (inl refl) i || any_alike one other rest (λ b m. h b (inr m)) i

-- a plain filesystem has no layer
no_layer : (number : ℕ) (filesystem : Filesystem ℕ) → is_overlay filesystem ≡ false
    → has_layer_on nat_eq number filesystem ≡ false
no_layer number filesystem = grind (arith, common_steps, true≢false)

module _ (world after : World ℕ) (front back : List (Mount ℕ)) (mount : Mount ℕ) (in_use : FilesystemsInUse world)
    (one : any_pair (λ (a b : Filesystem ℕ). nat_eq a.number b.number) world.filesystems ≡ false)
    (same : after.filesystems ≡ world.filesystems)
    (before : world.mounts ≡ front ++ (mount ∷ back)) (left : after.mounts ≡ front ++ back) where
  -- what has the number of the filesystem that the mount showed is that one
  its_own : (f : Filesystem ℕ) → Among f world.filesystems → nat_eq f.number mount.filesystem ≡ true
      → filesystem_numbered nat_eq world mount.filesystem ≡ f
  its_own f m e = ap (filesystem_numbered nat_eq world) (sym (eqb-true f.number mount.filesystem e))
      ∙ found_by (λ (x : Filesystem ℕ). x.number) _ world.filesystems one f m

  -- Where it was a plain one, overlays are mounted as before
  module _ (plain : is_overlay (filesystem_numbered nat_eq world mount.filesystem) ≡ false) where
    layered_as_before : (number : ℕ) → is_layered after number ≡ is_layered world number
    layered_as_before number = cc (any_alike (λ merged. has_layer_on nat_eq number merged && is_mounted nat_eq after
        merged.number) (λ merged. has_layer_on nat_eq number merged && is_mounted nat_eq world merged.number)
        world.filesystems (λ merged m. grind (arith, common_steps, no_layer, its_own, mounted_as_before)))

    other_filesystems : FilesystemsInUseBut (mount.filesystem ∷ []) after
    other_filesystems =
        cc (list_all_from_among (λ filesystem. is_among nat_eq filesystem.number (mount.filesystem ∷ []) ||
        filesystem_lives nat_eq after filesystem) world.filesystems (λ f m. grind (
          arith,
          common_steps,
          mounted_as_before world after front back mount before left f.number,
          layered_as_before f.number,
          among_from_list_all (filesystem_lives nat_eq world) world.filesystems in_use f m,
        )))

    pub plain_left : without_dead_filesystems nat_eq after
        ≡ cond (nat_lt 1 (mounts_showing world mount.filesystem) || is_layered world mount.filesystem) after
        (without_filesystem after mount.filesystem)
    plain_left = filesystems_go_one_by_one after (mount.filesystem ∷ []) other_filesystems
        ∙ filesystem_is_looked_up after mount.filesystem
        ∙ (λ i. cond (mounted_still world after front back mount before left i
        || layered_as_before mount.filesystem i) after (without_filesystem after mount.filesystem))

  -- Where it was an overlay, filesystems of its layers may go
  module _ (overlay : Overlay ℕ) (is : (filesystem_numbered nat_eq world mount.filesystem).overlay ≡ Some overlay)
      (no_layers : list_any (has_layer_on nat_eq mount.filesystem) world.filesystems ≡ false) where
    abbrev layers : List ℕ
    layers = map (λ layer. layer.filesystem) (layers_of overlay)

    -- what is mounted, or has a layer of a mounted overlay, is in use
    lives_layered : (number : ℕ) (merged : Filesystem ℕ) → Among merged world.filesystems
        → has_layer_on nat_eq number merged ≡ true → is_mounted nat_eq after merged.number ≡ true
        → (is_mounted nat_eq after number || is_layered after number) ≡ true
    lives_layered number merged m has mounted = or_right (is_mounted nat_eq after number) (is_layered after number)
        (cc (any_from_among (λ x. has_layer_on nat_eq number x && is_mounted nat_eq after x.number) world.filesystems
        merged m (λ i. has i && mounted i)))

    -- a filesystem was mounted, or an overlay with a layer in it
    lived : (f : Filesystem ℕ) → Among f world.filesystems
        → (is_mounted nat_eq world f.number ≡ true) ⊎ ((merged : Filesystem ℕ) × Among merged world.filesystems
        × (has_layer_on nat_eq f.number merged ≡ true) × (is_mounted nat_eq world merged.number ≡ true))
    lived f m = grind (arith, common_steps, any_among, and_parts, or_cases, among_from_list_all)

    all_but : FilesystemsInUseBut (mount.filesystem ∷ layers) after
    all_but = cc (list_all_from_among (λ filesystem. is_among nat_eq filesystem.number (mount.filesystem ∷ layers) ||
        filesystem_lives nat_eq after filesystem) world.filesystems (λ f m. by f (nat_eq f.number mount.filesystem) refl
        (lived f m)))
      where
        is_layer : (f merged : Filesystem ℕ) → Among merged world.filesystems
            → nat_eq merged.number mount.filesystem ≡ true → has_layer_on nat_eq f.number merged ≡ true
            → is_among nat_eq f.number layers ≡ true
        is_layer f merged m e has = cc (
          any-map (nat_eq f.number) (λ layer. layer.filesystem) (layers_of overlay) (λ layer. refl),
          its_own merged m e,
        )

        by : (f : Filesystem ℕ) (b : Bool) → nat_eq f.number mount.filesystem ≡ b
            → (is_mounted nat_eq world f.number ≡ true) ⊎ ((merged : Filesystem ℕ) × Among merged world.filesystems
            × (has_layer_on nat_eq f.number merged ≡ true) × (is_mounted nat_eq world merged.number ≡ true))
            → ((b || is_among nat_eq f.number layers) || filesystem_lives nat_eq after f) ≡ true
        by f true e how = refl
        by f false e (inl mounted) = or_right (is_among nat_eq f.number layers) (filesystem_lives nat_eq after f)
            (or_left (is_mounted nat_eq after f.number) (is_layered after f.number)
            (mounted_as_before world after front back mount before left f.number e ∙ mounted))
        by f false e (inr t) = elim (cases_Bool (nat_eq t.0.number mount.filesystem)) [
          | inl g ↦ or_left (is_among nat_eq f.number layers) (filesystem_lives nat_eq after f)
              (is_layer f t.0 t.1 g t.2)
          | inr g ↦ or_right (is_among nat_eq f.number layers) (filesystem_lives nat_eq after f)
              (lives_layered f.number t.0 t.1 t.2
              (mounted_as_before world after front back mount before left t.0.number g ∙ t.3))
        ]

    -- while another mount shows it, all are in use
    all_mounted : is_mounted nat_eq after mount.filesystem ≡ true → FilesystemsInUse after
    all_mounted still = cc (list_all_from_among _ world.filesystems
        (λ f m. ⊎_elim (λ mounted. or_left (is_mounted nat_eq after f.number) (is_layered after f.number)
        (as_before f.number mounted)) (λ t. lives_layered f.number t.0 t.1 t.2 (as_before t.0.number t.3)) (lived f m)))
      where
        as_before : (number : ℕ) → is_mounted nat_eq world number ≡ true → is_mounted nat_eq after number ≡ true
        as_before number was = grind (arith, common_steps, eqb-true, mounted_as_before)

    -- no overlay has a layer in it
    not_layered : is_layered after mount.filesystem ≡ false
    not_layered = cc (none_from_among (λ x. has_layer_on nat_eq mount.filesystem x && is_mounted nat_eq after x.number)
        world.filesystems (λ x m. ap (λ b. b && is_mounted nat_eq after x.number)
        (none_among _ world.filesystems no_layers x m)))

    overlay_left : (b : Bool) → is_mounted nat_eq after mount.filesystem ≡ b → without_dead_filesystems nat_eq after
        ≡ cond b after (let_go_filesystems (without_filesystem after mount.filesystem) layers)
    overlay_left true still = filesystems_stay after (all_mounted still)
    overlay_left false gone = filesystems_go_one_by_one after (mount.filesystem ∷ layers) all_but
        ∙ ap (λ w. let_go_filesystems w layers) (filesystem_is_looked_up after mount.filesystem
        ∙ (λ i. cond (gone i || not_layered i) after (without_filesystem after mount.filesystem)))

    pub overlay_goes : without_dead_filesystems nat_eq after
        ≡ cond (nat_lt 1 (mounts_showing world mount.filesystem)) after
        (let_go_filesystems (without_filesystem after mount.filesystem) layers)
    overlay_goes = overlay_left _ refl
        ∙ ap (λ b. cond b after (let_go_filesystems (without_filesystem after mount.filesystem) layers))
        (mounted_still world after front back mount before left)

pub filesystem_beside_overlays_goes_with_its_last_use : FilesystemBesideOverlaysGoesWithItsLastUse
filesystem_beside_overlays_goes_with_its_last_use world after front back mount in_use one plain same before left =
    plain_left world after front back mount in_use.filesystems one same before left plain

pub overlay_goes_with_its_last_use : OverlayGoesWithItsLastUse
overlay_goes_with_its_last_use world after front back mount overlay in_use one is no_layers same before left =
    overlay_goes world after front back mount in_use.filesystems one same before left overlay is no_layers
