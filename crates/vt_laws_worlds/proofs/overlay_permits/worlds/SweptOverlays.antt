-- Where what nothing uses goes, overlays keep their invariants: filesystems go, then inodes of overlays, and then those
-- of plain trees.
use Rattle.std.proofs.Common.{arith, ◌≡◌, refl, sym, ap, subst, ◌∙◌, true≢false, eqb-true, eq-eqb, ⊎_elim, inl, ℕ, nat_eq, Bool, true, false, not, cond, ◌&&◌, List, [], ◌∷◌, ◌++◌, filter, Option, Some, None, is_some, flat_map, option_to_list}
use Rattle.vt_spec.proofs.Common.{All-filter, Among, Filesystem, IsMerged, IsReached, IsTree, Layer, ListsNumbers, Overlay, OverlayInvariants, World, among-append, among-append_left, among-append_right, among-filter, among-from_filter, and_from, and_true_left, and_true_right, any_among, any_from_among, any_pair, common_steps, filesystem_lives, filesystem_numbered, has_layer_on, is_mounted, is_overlay, layers_of, layers_of_all, list_any, of_overlay, overlay_or, pair-filter, shown_layers, upper_and_work, without_dead_filesystems}
use Rattle.vt_laws_mounts.proofs.letting_go.Lists.{or_right}
use Rattle.vt_laws_mounts.proofs.letting_go.sweeps.OfWorlds.{found_filesystem}
use Rattle.vt_laws_trees.specs.Layers.Layers.Locked.{LeadsAsBefore}
use Rattle.vt_laws_trees.proofs.layers.locked.Apart.{found_among, merged_among}
use Rattle.vt_laws_trees.proofs.layers.layers.LowersKept.{kept_same}
use Rattle.vt_laws_trees.proofs.layers.layers.LowersWorld.{number_of_filesystem}
use Rattle.vt_laws_trees.proofs.overlays.changes.WholeOthers.{stays_merged}
use Rattle.vt_laws_trees.proofs.layers.locked.Layers.{AreTrees, plain_layer}
use Rattle.vt_laws_worlds.proofs.overlay_permits.worlds.OverlaysGoOn.{GoesOn, overlays_go_on}
use Rattle.vt_laws_trees.specs.Trees.Settling.{inode_in}

-- of which fewer pairs pass
pairs_behind : {A : Type 0} (test : A → A → Bool) (front back : List A) → any_pair test (front ++ back) ≡ false
    → any_pair test back ≡ false
pairs_behind test [] back e = e
pairs_behind test (first ∷ front) back e =
    pairs_behind test front back (Rattle.std.proofs.lemmas.Bool.or_parts (list_any (test first) (front ++ back)) _ e).1

none_behind : {A : Type 0} (test : A → Bool) (front back fewer : List A)
    → (list_any test back ≡ false → list_any test fewer ≡ false)
    → list_any test (front ++ back) ≡ false → list_any test (front ++ fewer) ≡ false
none_behind test [] back fewer h e = h e
none_behind test (first ∷ front) back fewer h e =
    let parts = Rattle.std.proofs.lemmas.Bool.or_parts (test first) (list_any test (front ++ back)) e in
    cc (none_behind test front back fewer h parts.1)

none_fewer : {A B : Type 0} (test : B → Bool) (g : A → List B) (stays : A → Bool) (list : List A)
    → list_any test (flat_map g list) ≡ false → list_any test (flat_map g (filter stays list)) ≡ false
none_fewer test g stays [] e = e
none_fewer {B = B} test g stays (first ∷ rest) e = by _ (none_fewer test g stays rest)
  where
    behind : (front : List B) → list_any test (front ++ flat_map g rest) ≡ false
        → list_any test (flat_map g rest) ≡ false
    behind [] f = f
    behind (x ∷ front) f = behind front
        (Rattle.std.proofs.lemmas.Bool.or_parts (test x) (list_any test (front ++ flat_map g rest)) f).1

    by : (b : Bool) → (list_any test (flat_map g rest) ≡ false → list_any test (flat_map g (filter stays rest)) ≡ false)
        → list_any test (flat_map g (cond b (first ∷ filter stays rest) (filter stays rest))) ≡ false
    by true on = none_behind test _ _ _ on e
    by false on = on (behind _ e)

pairs_fewer : {A B : Type 0} (test : B → B → Bool) (g : A → List B) (stays : A → Bool) (list : List A)
    → any_pair test (flat_map g list) ≡ false → any_pair test (flat_map g (filter stays list)) ≡ false
pairs_fewer test g stays [] e = e
pairs_fewer {B = B} test g stays (first ∷ rest) e = by _ (pairs_fewer test g stays rest)
  where
    with_front : (any_pair test (flat_map g rest) ≡ false → any_pair test (flat_map g (filter stays rest)) ≡ false)
        → (front : List B) → any_pair test (front ++ flat_map g rest) ≡ false
        → any_pair test (front ++ flat_map g (filter stays rest)) ≡ false
    with_front on [] f = on f
    with_front on (x ∷ front) f =
        let parts = Rattle.std.proofs.lemmas.Bool.or_parts (list_any (test x) (front ++ flat_map g rest))
        (any_pair test (front ++ flat_map g rest)) f in
        cc (
          none_behind (test x) front (flat_map g rest) (flat_map g (filter stays rest))
              (none_fewer (test x) g stays rest) parts.0,
          with_front on front parts.1,
        )

    by : (b : Bool) → (any_pair test (flat_map g rest) ≡ false → any_pair test (flat_map g (filter stays rest)) ≡ false)
        → any_pair test (flat_map g (cond b (first ∷ filter stays rest) (filter stays rest))) ≡ false
    by true on = with_front on _ e
    by false on = on (pairs_behind test _ _ e)

-- A filesystem that is there, by an inode in it or by its overlay
there_among : (world : World ℕ) (number inode : ℕ) → is_some (inode_in world number inode) ≡ true
    → Among (filesystem_numbered nat_eq world number) world.filesystems
there_among world number inode there = grind (arith, common_steps, true≢false, found_among)

pub leads_same : (world later : World ℕ) (layer : Layer ℕ)
    → filesystem_numbered nat_eq later layer.filesystem ≡ filesystem_numbered nat_eq world layer.filesystem
    → LeadsAsBefore world later layer
leads_same world later layer same path = grind (arith, common_steps, kept_same)

pub shown_among : (overlay : Overlay ℕ) (layer : Layer ℕ) → Among layer (shown_layers overlay)
    → Among layer (layers_of overlay)
shown_among overlay layer m = ⊎_elim (λ up. among-append_left _ _ layer (among-append_left _ _ layer up))
    (λ low. among-append_right (upper_and_work overlay) overlay.lowers layer low)
    (among-append (option_to_list overlay.upper) overlay.lowers layer m)

pub upper_among : (overlay : Overlay ℕ) (top : Layer ℕ) → overlay.upper ≡ Some top → Among top (layers_of overlay)
upper_among overlay top e = subst (λ o. Among top (option_to_list o ++ option_to_list overlay.work ++ overlay.lowers))
    (sym e) (inl refl)

-- Filesystems go that are not mounted, and that no mounted overlay has a layer in
module _ (world : World ℕ) (files : AreTrees world) (are : OverlayInvariants nat_eq world) where
  abbrev living : World ℕ
  living = without_dead_filesystems nat_eq world

  pub living_files : AreTrees living
  living_files = record {
    trees = All-filter (filesystem_lives nat_eq world)
        (λ (f : Filesystem ℕ). IsTree f.files.tree) world.filesystems files.trees;
    numbers = All-filter (filesystem_lives nat_eq world)
        (λ (f : Filesystem ℕ). ListsNumbers nat_eq f.files) world.filesystems files.numbers;
    one_filesystem = pair-filter (λ (a b : Filesystem ℕ). nat_eq a.number b.number)
        (filesystem_lives nat_eq world) world.filesystems files.one_filesystem;
  }

  -- one that lives is found as it was
  lives_still : (f : Filesystem ℕ) → Among f world.filesystems → filesystem_lives nat_eq world f ≡ true
      → filesystem_numbered nat_eq living f.number ≡ f
  lives_still f m lives = found_filesystem _ living_files.one_filesystem f (among-filter _ _ f m lives)

  module _ (number : ℕ) (overlay : Overlay ℕ)
      (is : (filesystem_numbered nat_eq living number).overlay ≡ Some overlay) where
    merged : Filesystem ℕ
    merged = filesystem_numbered nat_eq living number

    merged_was : Among merged world.filesystems × (filesystem_lives nat_eq world merged ≡ true)
    unfolding merged
    merged_was = among-from_filter (filesystem_lives nat_eq world) world.filesystems
        (filesystem_numbered nat_eq living number) (among-from_filter is_overlay living.filesystems
        (filesystem_numbered nat_eq living number) (merged_among living number _ is)).0

    same_one : filesystem_numbered nat_eq living number ≡ filesystem_numbered nat_eq world number
    unfolding merged
    same_one = sym (found_filesystem world.filesystems files.one_filesystem
        (filesystem_numbered nat_eq living number) merged_was.0)
        ∙ ap (filesystem_numbered nat_eq world) (number_of_filesystem living number)

    was : (filesystem_numbered nat_eq world number).overlay ≡ Some overlay
    was = cc (same_one, is)

    -- it is mounted: no overlay has a layer in it
    is_mounted_itself : is_mounted nat_eq world number ≡ true
    unfolding merged
    is_mounted_itself = ap (is_mounted nat_eq world) (sym (number_of_filesystem living number))
        ∙ ⊎_elim (λ mounted. mounted) layered (Rattle.std.proofs.lemmas.Bool.or_cases
        (is_mounted nat_eq world (filesystem_numbered nat_eq living number).number) _ merged_was.1)
      where
        in_overlay : (f : Filesystem ℕ) → filesystem_numbered nat_eq world f.number ≡ f → (o : Option (Overlay ℕ))
            → f.overlay ≡ o → overlay_or false (λ v. list_any
            (λ layer. nat_eq (filesystem_numbered nat_eq living number).number layer.filesystem) (layers_of v)) o ≡ true
            → ⊥
        in_overlay f itself None e h = true≢false (sym h)
        in_overlay f itself (Some v) e h =
            let found = any_among (λ (layer : Layer ℕ). nat_eq
            (filesystem_numbered nat_eq living number).number layer.filesystem) (layers_of v) h in
            let plain = plain_layer world are f.number v
            (ap (λ (x : Filesystem ℕ). x.overlay) itself ∙ e) found.0 found.1 in
            true≢false (sym (and_true_left
            (not (is_overlay (filesystem_numbered nat_eq world found.0.filesystem))) _ plain)
            ∙ ap (λ n. not (is_overlay (filesystem_numbered nat_eq world n)))
            (sym (sym (number_of_filesystem living number)
            ∙ eqb-true (filesystem_numbered nat_eq living number).number found.0.filesystem found.2))
            ∙ ap (λ o. not (is_some o)) was)

        layered : list_any (λ f. has_layer_on nat_eq (filesystem_numbered nat_eq living number).number f
            && is_mounted nat_eq world f.number) world.filesystems ≡ true
            → is_mounted nat_eq world (filesystem_numbered nat_eq living number).number ≡ true
        layered h =
            let found = any_among (λ (f : Filesystem ℕ). has_layer_on nat_eq
            (filesystem_numbered nat_eq living number).number f
            && is_mounted nat_eq world f.number) world.filesystems h in
            absurd (in_overlay found.0 (found_filesystem world.filesystems files.one_filesystem found.0 found.1)
            found.0.overlay refl
            (and_true_left (has_layer_on nat_eq (filesystem_numbered nat_eq living number).number found.0) _ found.2))

    -- so the filesystems of its layers live
    layer_same : (layer : Layer ℕ) → Among layer (layers_of overlay)
        → filesystem_numbered nat_eq living layer.filesystem ≡ filesystem_numbered nat_eq world layer.filesystem
    layer_same layer m =
        let plain = plain_layer world are number _ was layer m in
        let directory = and_true_right _ _ plain in
        let f = filesystem_numbered nat_eq world layer.filesystem in
        cc (
          number_of_filesystem world layer.filesystem,
          lives_still f (there_among world layer.filesystem layer.directory
              (Rattle.vt_spec.proofs.Nodes.directory_used f.files.tree
              layer.directory directory)) (or_right (is_mounted nat_eq world f.number) _
              (any_from_among (λ (g : Filesystem ℕ). has_layer_on nat_eq f.number g && is_mounted nat_eq world g.number)
              world.filesystems (filesystem_numbered nat_eq world number)
              (among-from_filter is_overlay world.filesystems
              (filesystem_numbered nat_eq world number) (merged_among world number overlay was)).0
              (and_from (has_layer_on nat_eq f.number (filesystem_numbered nat_eq world number)) _
              (ap (overlay_or false (λ v. list_any (λ (l : Layer ℕ). nat_eq f.number l.filesystem) (layers_of v))) was
              ∙ any_from_among (λ (l : Layer ℕ). nat_eq f.number l.filesystem) (layers_of overlay) layer m
              (eq-eqb f.number layer.filesystem (number_of_filesystem world layer.filesystem)))
              (ap (is_mounted nat_eq world) (number_of_filesystem world number) ∙ is_mounted_itself)))),
        )

    pub living_goes : GoesOn world living number overlay
    living_goes = record {
      before = overlay;
      is = was;
      upper = refl;
      work = refl;
      lowers = refl;
      merged = subst (λ f. IsMerged nat_eq living f overlay) (sym same_one)
          (stays_merged world living (filesystem_numbered nat_eq world number) overlay
          (λ layer m. leads_same world living layer (layer_same layer (shown_among overlay layer m)))
          (λ layer object e of. kept_same _ _
          (ap (λ (f : Filesystem ℕ). f.files.tree.node object) (layer_same layer (upper_among overlay layer e))))
          (are.overlays_merge number overlay was));
      objects = λ inode object e. e;
      leads = λ layer m. leads_same world living layer (layer_same layer m);
      reached = λ top e. subst (λ (f : Filesystem ℕ). IsReached f.files.tree top.directory)
          (sym (layer_same top (upper_among overlay top e))) (are.uppers_reached number overlay top was e);
    }

  pub living_overlays : OverlayInvariants nat_eq living
  living_overlays = overlays_go_on world living files are living_files living_goes
      (λ test e. ap (any_pair test) (layers_of_all upper_and_work
      (filter (filesystem_lives nat_eq world) world.filesystems))
      ∙ pairs_fewer test (of_overlay [] upper_and_work) (filesystem_lives nat_eq world) world.filesystems
      (ap (any_pair test) (sym (layers_of_all upper_and_work world.filesystems)) ∙ e))
