-- What a world is by its conditions.
use Rattle.std.proofs.Common.{arith, ◌≡◌, refl, sym, ap, subst, ◌∙◌, inl, ℕ, nat_eq, eqb-true, Bool, true, false, not, List, find, map, true≢false, Option, Some, None, option_to_list, unwrap_or, All}
use Rattle.vt_spec.proofs.Common.{Filesystem, IsTree, IsWorld, Layer, ListsNumbers, Mount, Overlay, World, all_locations, and_parts, any_pair, common_steps, filesystem_numbered, holds_of, is_among, is_overlay, is_plain_layer, layers_of, list_all, no_filesystem, not-true, overlay_or}
use Rattle.vt_laws_mounts.specs.LettingGo.InUse.{AllInUse, IsListedTree, has_upper_in}
use Rattle.vt_laws_mounts.specs.LettingGo.Worlds.{LocationsOfWorldsStand, MountsOfWorldsStand, PlainWorldsAreSettled, RealsOfWorldsAreThere, UppersOfWorldsArePlain, WorldsAreSettled, WorldsHaveTrees}
use Rattle.vt_laws_mounts.proofs.letting_go.sweeps.InUse.{what_is_left_is_in_use}
use Rattle.vt_laws_mounts.proofs.letting_go.Lists.{found_by, Among, all_from_among, list_all_from_among, among-append_left, among_from_all, among_from_list_all}
use Rattle.vt_laws_mounts.proofs.letting_go.mounting.MountsSwept.{mounts_stand}

pub worlds_have_trees : WorldsHaveTrees
worlds_have_trees world is = all_from_among (λ f. IsListedTree f.files) world.filesystems (λ f m. record {
  tree = among_from_all (λ g. IsTree g.files.tree) world.filesystems is.files.trees f m;
  numbers = among_from_all (λ g. ListsNumbers nat_eq g.files) world.filesystems is.files.numbers f m;
})

pub mounts_of_worlds_stand : MountsOfWorldsStand
mounts_of_worlds_stand world is = mounts_stand world is.mounts

-- Filesystems by their numbers
pub found_filesystem : (filesystems : List (Filesystem ℕ))
    → any_pair (λ (a b : Filesystem ℕ). nat_eq a.number b.number) filesystems ≡ false
    → (f : Filesystem ℕ) → Among f filesystems
    → unwrap_or (find (λ x. nat_eq f.number x.number) filesystems) (no_filesystem f.number) ≡ f
found_filesystem filesystems one f m = found_by _ _ _ one f m

pub uppers_of_worlds_are_plain : UppersOfWorldsArePlain
uppers_of_worlds_are_plain world is = all_from_among (λ f. is_overlay f ≡ true → All
    (λ merged. has_upper_in f.number merged ≡ false) world.filesystems) world.filesystems
    (λ f m overlay. all_from_among _ _ (λ merged n. by f m overlay _ (among_from_list_all _ _ is.overlays.plain_layers
    merged n)))
  where
    by : (f : Filesystem ℕ) → Among f world.filesystems → is_overlay f ≡ true → (o : Option (Overlay ℕ))
        → overlay_or true (λ overlay. list_all (is_plain_layer nat_eq world) (layers_of overlay)) o ≡ true
        → overlay_or false (λ overlay. holds_of (λ layer. nat_eq f.number layer.filesystem) overlay.upper) o ≡ false
    by f m is_one None h = refl
    by f m is_one (Some overlay) h = upper _ refl
      where
        plain_layer : (layer : Layer ℕ) → overlay.upper ≡ Some layer
            → is_overlay (filesystem_numbered nat_eq world layer.filesystem) ≡ false
        plain_layer layer e =
            let parts = and_parts (not (is_overlay (filesystem_numbered nat_eq world layer.filesystem))) _
            (among_from_list_all _ _ h layer (among-append_left _ _ layer
            (among-append_left _ _ layer (subst (λ o. Among layer (option_to_list o)) (sym e) (inl refl))))) in
            not-true (is_overlay (filesystem_numbered nat_eq world layer.filesystem)) parts.0

        upper : (o : Option (Layer ℕ)) → overlay.upper ≡ o
            → holds_of (λ layer. nat_eq f.number layer.filesystem) o ≡ false
        upper None e = refl
        upper (Some layer) e = same _ refl
          where
            same : (b : Bool) → nat_eq f.number layer.filesystem ≡ b → b ≡ false
            same false g = refl
            same true g = absurd (true≢false (sym is_one
                ∙ ap is_overlay (sym (found_filesystem _ is.files.one_filesystem f m))
                ∙ ap (λ n. is_overlay (filesystem_numbered nat_eq world n)) (eqb-true f.number layer.filesystem g)
                ∙ plain_layer layer e))

-- An inode of an overlay that is not there has no real object.
pub reals_of_worlds_are_there : RealsOfWorldsAreThere
reals_of_worlds_are_there world is =
    all_from_among _ _ (λ f m. by f _ refl (found_filesystem _ is.files.one_filesystem f m))
  where
    by : (f : Filesystem ℕ) (o : Option (Overlay ℕ)) → f.overlay ≡ o → filesystem_numbered nat_eq world f.number ≡ f
        → (number : ℕ) → f.files.tree.node number ≡ None
        → overlay_or None (λ overlay. overlay.real number) f.overlay ≡ None
    by f None e found number none = ap (overlay_or None (λ overlay. overlay.real number)) e
    by f (Some overlay) e found number none = ap (overlay_or None (λ overlay. overlay.real number)) e
        ∙ (is.overlays.overlays_merge f.number overlay
        (ap (λ (x : Filesystem ℕ). x.overlay) found ∙ e)).real_there number
        (ap (λ (x : Filesystem ℕ). x.files.tree.node number) found ∙ none)

pub locations_of_worlds_stand : LocationsOfWorldsStand
locations_of_worlds_stand world is =
    list_all_from_among (λ location. is_among nat_eq location.mount (map (λ mount. mount.number) world.mounts))
    (all_locations world) (λ location m. (and_parts (is_among nat_eq location.mount
    (map (λ (mount : Mount ℕ). mount.number) world.mounts)) _ (among_from_list_all _ _ is.tasks.locations_live _ m)).0)

pub all_in_use : (world : World ℕ) → IsWorld nat_eq world → AllInUse world
all_in_use world is = subst AllInUse is.nothing_unused
    (what_is_left_is_in_use world (worlds_have_trees world is) (uppers_of_worlds_are_plain world is))

pub worlds_are_settled : WorldsAreSettled
worlds_are_settled world is = record {
  in_use = all_in_use world is;
  trees = worlds_have_trees world is;
  uppers = uppers_of_worlds_are_plain world is;
  reals = reals_of_worlds_are_there world is;
  mounts = mounts_of_worlds_stand world is;
}

pub plain_worlds_are_settled : PlainWorldsAreSettled
plain_worlds_are_settled world is plain =
    grind (arith, common_steps, all_in_use world is, worlds_have_trees world is, mounts_of_worlds_stand world is)
