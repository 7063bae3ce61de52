-- Where inodes go that nothing uses, overlays keep their invariants: first those of overlays go, then those of plain
-- trees.
use Rattle.std.proofs.Common.{arith, ◌≡◌, refl, sym, ap, subst, ◌∙◌, true≢false, eq-eqb, ⊎_elim, ℕ, nat_eq, Bool, true, false, not, cond, List, [], ◌∷◌, ◌++◌, find, map, Option, Some, None, is_some, All, filter_map, flat_map, option_map, unwrap_or}
use Rattle.vt_spec.proofs.Common.{All-weaker, Among, Filesystem, IsMerged, IsReached, IsTree, Layer, ListsNumbers, Lower, Node, Overlay, OverlayInvariants, Real, SameObject, Upper, World, among-filter, among-filter_map, among-flat_map, among-from_filter, among-map, and_true_left, and_true_right, any_pair, common_steps, directory_used, filesystem_numbered, holds_of, is_among, is_among_left, is_among_right, is_kind_in, is_opaque_in, is_overlay, is_plain_layer, is_there, layers_in, layers_of, layers_of_all, led, list_all, live_upper_and_work, located_in, named_in, no_filesystem, none_is_some, not-true, number-only_used, number_at_path, objects_of_overlay, of_overlay, only_used, only_used_by, overlay_or, real_among, real_node, same_Some, then_some, upper_and_work, upper_object, used_in, without_dead_in}
use Rattle.vt_spec.specs.declared.attributes.Kind.TheVariants.{White}
use Rattle.vt_laws_trees.specs.Trees.{IsFileTree}
use Rattle.vt_laws_trees.specs.Trees.Settling.{HasFileTrees, HoldsTree, inode_in}
use Rattle.vt_laws_trees.proofs.trees.TreesForgotten.{named_is_used, without_dead_in_is}
use Rattle.vt_laws_trees.proofs.trees.TreesOfWorlds.{numbered_all}
use Rattle.vt_laws_mounts.proofs.letting_go.sweeps.InUse.{overlay-left}
use Rattle.vt_laws_mounts.proofs.letting_go.Lists.{flat_map-map, is_among_numbers, or_right}
use Rattle.vt_laws_trees.specs.Layers.Layers.Locked.{LeadsAsBefore}
use Rattle.vt_laws_trees.specs.Layers.Layers.Untouched.{IsKept}
use Rattle.vt_laws_trees.specs.Layers.Layers.Upper.{IsUpperObject}
use Rattle.vt_laws_trees.proofs.layers.layers.LowersKept.{kept_same}
use Rattle.vt_laws_trees.proofs.layers.layers.LowersWorld.{number_of_filesystem}
use Rattle.vt_laws_trees.proofs.overlays.whole.ApartInvariants.{pair_same}
use Rattle.vt_laws_trees.proofs.overlays.changes.WholeOthers.{stays_merged}
use Rattle.vt_laws_trees.proofs.layers.locked.Layers.{AreTrees, inode_listed, plain_layer}
use Rattle.vt_laws_worlds.proofs.overlay_permits.worlds.OverlaysGoOn.{GoesOn, overlays_go_on}
use Rattle.vt_laws_worlds.proofs.overlay_permits.worlds.SweptOverlays.{leads_same, shown_among, upper_among}
use Rattle.vt_laws_worlds.proofs.overlay_permits.worlds.SweptTrees.{led_same, led_used, node_led_same, reached_still, used_node}
use Rattle.vt_laws_trees.proofs.layers.locked.Apart.{merged_among}

-- trees of which each filesystem is one
pub file_trees_are : (world : World ℕ) → HasFileTrees world
    → any_pair (λ (a b : Filesystem ℕ). nat_eq a.number b.number) world.filesystems ≡ false → AreTrees world
file_trees_are world files one = record {
  trees = All-weaker (λ (f : Filesystem ℕ). IsFileTree f.files) (λ f. IsTree f.files.tree)
      (λ f t. t.tree) world.filesystems files;
  numbers = All-weaker (λ (f : Filesystem ℕ). IsFileTree f.files) (λ f. ListsNumbers nat_eq f.files)
      (λ f t. t.numbers) world.filesystems files;
  one_filesystem = one;
}

-- A round of the sweep
module _ (chosen : Filesystem ℕ → Bool) (world : World ℕ) (files : HasFileTrees world)
    (one : any_pair (λ (a b : Filesystem ℕ). nat_eq a.number b.number) world.filesystems ≡ false) where
  abbrev pub swept : Filesystem ℕ → Filesystem ℕ
  swept f = only_used nat_eq world (chosen f) f

  abbrev pub later : World ℕ
  later = without_dead_in nat_eq chosen world

  pub files_later : HasFileTrees later
  files_later = without_dead_in_is chosen world files

  pub one_later : any_pair (λ (a b : Filesystem ℕ). nat_eq a.number b.number) later.filesystems ≡ false
  one_later = pair_same swept world.filesystems (λ f. number-only_used world (chosen f) f) ∙ one

  trees : AreTrees world
  trees = file_trees_are world files one

  trees_later : AreTrees later
  trees_later = file_trees_are later files_later one_later

  -- a filesystem is looked up
  abbrev looked_up : ℕ → List (Filesystem ℕ) → Option (Filesystem ℕ)
  looked_up number list = find (λ (f : Filesystem ℕ). nat_eq number f.number) list

  found_swept : (number : ℕ) (list : List (Filesystem ℕ))
      → looked_up number (map swept list) ≡ option_map swept (looked_up number list)
  found_swept number [] = refl
  found_swept number (first ∷ rest) =
      cc (number-only_used world (chosen first) first, by (nat_eq number first.number) (found_swept number rest))
    where
      by : (b : Bool) → looked_up number (map swept rest) ≡ option_map swept (looked_up number rest)
          → cond b (Some (swept first)) (looked_up number (map swept rest))
          ≡ option_map swept (cond b (Some first) (looked_up number rest))
      by true same = refl
      by false same = same

  pub record IsFound (number : ℕ) : Type 0 where
    pub is_swept : filesystem_numbered nat_eq later number ≡ swept (filesystem_numbered nat_eq world number)
    pub file_tree : IsFileTree (filesystem_numbered nat_eq world number).files

  found_at : (number : ℕ) (o : Option (Filesystem ℕ)) → looked_up number world.filesystems ≡ o
      → (filesystem_numbered nat_eq later number ≡ swept (unwrap_or o (no_filesystem number)) → IsFound number)
      → (filesystem_numbered nat_eq later number ≡ no_filesystem number
      → filesystem_numbered nat_eq world number ≡ no_filesystem number → IsFound number) → IsFound number
  found_at number None e found missing = missing (ap (λ o. unwrap_or o (no_filesystem number))
      (found_swept number world.filesystems ∙ ap (option_map swept) e)) (ap (λ o. unwrap_or o (no_filesystem number)) e)
  found_at number (Some f) e found missing = found (ap (λ o. unwrap_or o (no_filesystem number))
      (found_swept number world.filesystems ∙ ap (option_map swept) e))

  tree_numbered : (number inode : ℕ) → is_some (inode_in world number inode) ≡ true
      → IsFileTree (filesystem_numbered nat_eq world number).files
  tree_numbered number inode there = ⊎_elim (λ is. is) (λ missing. absurd (true≢false
      (sym there ∙ ap (λ (f : Filesystem ℕ). is_some (f.files.tree.node inode)) missing.0)))
      (numbered_all (λ (f : Filesystem ℕ). IsFileTree f.files) number world.filesystems files)

  pub found_by_inode : (number inode : ℕ) → is_some (inode_in world number inode) ≡ true → IsFound number
  found_by_inode number inode there = found_at number (looked_up number world.filesystems) refl
      (λ same. record { is_swept = same; file_tree = tree_numbered number inode there })
      (λ none was. absurd (true≢false (sym there ∙ ap (λ (f : Filesystem ℕ). is_some (f.files.tree.node inode)) was)))

  pub found_by_overlay : (number : ℕ) (overlay : Overlay ℕ)
      → (filesystem_numbered nat_eq later number).overlay ≡ Some overlay → IsFound number
  found_by_overlay number overlay e = found_at number (looked_up number world.filesystems) refl
      (λ same. record { is_swept = same; file_tree = tree_of })
      (λ none was. none_is_some overlay (sym (ap (λ (f : Filesystem ℕ). f.overlay) none) ∙ e))
    where
      tree_of : IsFileTree (filesystem_numbered nat_eq world number).files
      tree_of = ⊎_elim (λ is. is)
          (λ missing. none_is_some overlay (sym (ap (λ o. (unwrap_or o (no_filesystem number)).overlay)
          (found_swept number world.filesystems ∙ ap (option_map swept) (not_found number world.filesystems missing.1)))
          ∙ e)) (numbered_all (λ (f : Filesystem ℕ). IsFileTree f.files) number world.filesystems files)
        where
          not_found : (n : ℕ) (list : List (Filesystem ℕ)) → All (λ (f : Filesystem ℕ). nat_eq n f.number ≡ false) list
              → looked_up n list ≡ None
          not_found n [] all = refl
          not_found n (first ∷ rest) all = ap (λ b. cond b (Some first) (looked_up n rest))
              (Rattle.std.proofs.lemmas.List.Elements.All-head
              (λ (f : Filesystem ℕ). nat_eq n f.number ≡ false) first rest all)
              ∙ not_found n rest (Rattle.std.proofs.lemmas.List.Elements.All-tail
              (λ (f : Filesystem ℕ). nat_eq n f.number ≡ false) first rest all)

  -- layers stay
  layers_swept : (f : Filesystem ℕ) → of_overlay [] upper_and_work (swept f) ≡ of_overlay [] upper_and_work f
  layers_swept f = by_chosen (chosen f)
    where
      by_real : (used : List ℕ) (o : Option (Overlay ℕ))
          → overlay_or [] upper_and_work (option_map (real_among nat_eq used) o) ≡ overlay_or [] upper_and_work o
      by_real used None = refl
      by_real used (Some v) = refl

      by_used : (b : Bool) → of_overlay [] upper_and_work (only_used_by nat_eq b (used_in nat_eq world f) f)
          ≡ of_overlay [] upper_and_work f
      by_used true = refl
      by_used false = by_real (used_in nat_eq world f) f.overlay

      by_chosen : (c : Bool) → of_overlay [] upper_and_work (only_used nat_eq world c f)
          ≡ of_overlay [] upper_and_work f
      by_chosen true = by_used (list_all (λ n. is_among nat_eq n (used_in nat_eq world f)) f.files.numbers)
      by_chosen false = refl

  same_live : live_upper_and_work later ≡ live_upper_and_work world
  same_live = layers_of_all upper_and_work later.filesystems
      ∙ flat_map-map swept (of_overlay [] upper_and_work) world.filesystems layers_swept
      ∙ sym (layers_of_all upper_and_work world.filesystems)

  pub after_round : OverlayInvariants nat_eq world
      → ((number : ℕ) (after : Overlay ℕ) → (filesystem_numbered nat_eq later number).overlay ≡ Some after
      → GoesOn world later number after) → OverlayInvariants nat_eq later
  after_round are goes = overlays_go_on world later trees are trees_later goes
      (λ test e. ap (any_pair test) same_live ∙ e)

-- What is left of an overlay
module _ {world : World ℕ} {f : Filesystem ℕ} {overlay : Overlay ℕ} {used : List ℕ}
    (holds : HoldsTree used f.files) (is : IsFileTree f.files) (was : IsMerged nat_eq world f overlay) where
  abbrev Left : Overlay ℕ
  Left = real_among nat_eq used overlay

  abbrev left_files : Filesystem ℕ
  left_files = only_used_by nat_eq false used f

  same_real : (o : Option (Real ℕ))
      → then_some o (real_node nat_eq world Left) ≡ then_some o (real_node nat_eq world overlay)
  same_real None = refl
  same_real (Some (Upper object)) = refl
  same_real (Some (Lower depth path)) = refl

  path_used : (path : List (List ℕ)) (number : ℕ) → number_at_path f.files path ≡ Some number
      → is_among nat_eq number used ≡ true
  path_used path number e = led_used used _ holds is path _ number holds.root e

  left_merged : IsMerged nat_eq world left_files Left
  left_merged = record {
    shows = λ path.
        subst (λ o. SameObject o (Rattle.vt_spec.specs.Machine.Invariants.node_shown nat_eq world overlay path))
        (sym (node_led_same used f.files holds is path f.files.tree.root holds.root)) (was.shows path);
    names = λ path number e.
        let led_to = sym (led_same used f.files holds is path f.files.tree.root) ∙ e in
        ap (λ b. cond b (overlay.real number) None) (path_used path number led_to) ∙ was.names path number led_to;
    real_objects = λ number. objects number (is_among nat_eq number used);
    real_there = λ number. none_there number (is_among nat_eq number used);
    no_whiteout = λ number. no_white number (is_among nat_eq number used);
    no_mark = λ number. no_marked number (is_among nat_eq number used);
    upper_there = λ number object. there number object (is_among nat_eq number used);
    one_to_one = λ a b. apart a b (is_among nat_eq a used) (is_among nat_eq b used);
  }
    where
      objects : (number : ℕ) (u : Bool) → SameObject (cond u (f.files.tree.node number) None)
          (then_some (cond u (overlay.real number) None) (real_node nat_eq world Left))
      objects number true = subst (SameObject (f.files.tree.node number)) (sym (same_real (overlay.real number)))
          (was.real_objects number)
      objects number false = tt

      none_there : (number : ℕ) (u : Bool) → cond u (f.files.tree.node number) None ≡ None
          → cond u (overlay.real number) None ≡ None
      none_there number true e = was.real_there number e
      none_there number false e = refl

      no_white : (number : ℕ) (u : Bool) → is_kind_in White (cond u (f.files.tree.node number) None) ≡ false
      no_white number true = was.no_whiteout number
      no_white number false = refl

      no_marked : (number : ℕ) (u : Bool) → is_opaque_in (cond u (f.files.tree.node number) None) ≡ false
      no_marked number true = was.no_mark number
      no_marked number false = refl

      there : (number object : ℕ) (u : Bool) → cond u (overlay.real number) None ≡ Some (Upper object)
          → holds_of (λ layer. is_there nat_eq world layer.filesystem object) overlay.upper ≡ true
      there number object true e = was.upper_there number object e
      there number object false e = cc

      apart : (a b : ℕ) (u v : Bool) → is_some (cond u (overlay.real a) None) ≡ true
          → cond u (overlay.real a) None ≡ cond v (overlay.real b) None → a ≡ b
      apart a b true true e g = was.one_to_one a b e g
      apart a b true false e g = cc
      apart a b false v e g = cc

  -- so in both cases
  abbrev left_by : Bool → Overlay ℕ
  left_by true = overlay
  left_by false = Left

  pub merged_by : (b : Bool) → IsMerged nat_eq world (only_used_by nat_eq b used f) (left_by b)
  merged_by true = was
  merged_by false = left_merged

  pub overlay_by : f.overlay ≡ Some overlay → (b : Bool) → (only_used_by nat_eq b used f).overlay ≡ Some (left_by b)
  overlay_by e true = e
  overlay_by e false = cc

-- First the inodes of overlays
module _ (world : World ℕ) (files : HasFileTrees world)
    (one : any_pair (λ (a b : Filesystem ℕ). nat_eq a.number b.number) world.filesystems ≡ false)
    (are : OverlayInvariants nat_eq world) where
  abbrev first_later : World ℕ
  first_later = later is_overlay world files one

  abbrev were : AreTrees world
  were = file_trees_are world files one

  plain_stays : (layer : Layer ℕ) → is_plain_layer nat_eq world layer ≡ true
      → filesystem_numbered nat_eq first_later layer.filesystem ≡ filesystem_numbered nat_eq world layer.filesystem
  plain_stays layer plain =
      let directory = and_true_right _ _ plain in
      let f = filesystem_numbered nat_eq world layer.filesystem in
      cc (
        (found_by_inode is_overlay world files one layer.filesystem layer.directory
            (directory_used f.files.tree layer.directory directory)).is_swept,
        not-true (is_overlay f) (and_true_left (not (is_overlay f)) _ plain),
      )

  module _ (number : ℕ) (before : Overlay ℕ)
      (was : (filesystem_numbered nat_eq world number).overlay ≡ Some before) where
    abbrev f : Filesystem ℕ
    f = filesystem_numbered nat_eq world number

    layer_stays : (layer : Layer ℕ) → Among layer (layers_of before)
        → filesystem_numbered nat_eq first_later layer.filesystem ≡ filesystem_numbered nat_eq world layer.filesystem
    layer_stays layer m = plain_stays layer (plain_layer world are number before was layer m)

    still_merged : IsMerged nat_eq first_later f before
    still_merged = stays_merged world first_later f before
        (λ layer m. leads_same world first_later layer (layer_stays layer (shown_among before layer m)))
        (λ layer object e of. kept_same _ _
        (ap (λ (g : Filesystem ℕ). g.files.tree.node object) (layer_stays layer (upper_among before layer e))))
        (are.overlays_merge number before was)

    by_used : (found : IsFound is_overlay world files one number) (b : Bool)
        → filesystem_numbered nat_eq first_later number ≡ only_used_by nat_eq b (used_in nat_eq world f) f
        → (after : Overlay ℕ) → (filesystem_numbered nat_eq first_later number).overlay ≡ Some after
        → GoesOn world first_later number after
    by_used found b same after e =
        let holds = named_is_used world f found.file_tree in
        let left = left_by holds found.file_tree still_merged b in
        let left_is : left ≡ after = same_Some left after (sym (ap (λ (g : Filesystem ℕ). g.overlay) same
        ∙ overlay_by holds found.file_tree still_merged was b) ∙ e) in
        subst (GoesOn world first_later number) left_is (record {
          before = before;
          is = was;
          upper = uppers b;
          work = works b;
          lowers = lowers b;
          merged = subst (λ g. IsMerged nat_eq first_later g left) (sym same)
              (merged_by holds found.file_tree still_merged b);
          objects = λ inode object. objects b inode object;
          leads = λ layer m. leads_same world first_later layer (layer_stays layer m);
          reached = λ top g. subst (λ (x : Filesystem ℕ). IsReached x.files.tree top.directory)
              (sym (layer_stays top (upper_among before top g))) (are.uppers_reached number before top was g);
        })
      where
        abbrev_left : Bool → Overlay ℕ
        abbrev_left b = left_by (named_is_used world f found.file_tree) found.file_tree still_merged b

        uppers : (b : Bool) → (abbrev_left b).upper ≡ before.upper
        uppers true = refl
        uppers false = refl

        works : (b : Bool) → (abbrev_left b).work ≡ before.work
        works true = refl
        works false = refl

        lowers : (b : Bool) → (abbrev_left b).lowers ≡ before.lowers
        lowers true = refl
        lowers false = refl

        objects : (b : Bool) (inode object : ℕ) → (abbrev_left b).real inode ≡ Some (Upper object)
            → before.real inode ≡ Some (Upper object)
        objects b inode object g = grind (arith, common_steps, none_is_some)

  pub first_goes : (number : ℕ) (after : Overlay ℕ)
      → (filesystem_numbered nat_eq first_later number).overlay ≡ Some after → GoesOn world first_later number after
  first_goes number after e = by (filesystem_numbered nat_eq world number).overlay refl
    where
      found : IsFound is_overlay world files one number
      found = found_by_overlay is_overlay world files one number after e

      by : (o : Option (Overlay ℕ)) → (filesystem_numbered nat_eq world number).overlay ≡ o
          → GoesOn world first_later number after
      by None was = none_is_some after (sym (ap (λ (g : Filesystem ℕ). g.overlay)
          (found.is_swept ∙ ap (λ b. only_used nat_eq world b (filesystem_numbered nat_eq world number))
          (ap is_some was)) ∙ was) ∙ e)
      by (Some before) was = by_used number before was found
          (list_all (λ n. is_among nat_eq n (used_in nat_eq world (filesystem_numbered nat_eq world number)))
          (filesystem_numbered nat_eq world number).files.numbers)
          (found.is_swept ∙ ap (λ b. only_used nat_eq world b (filesystem_numbered nat_eq world number))
          (ap is_some was)) after e

  pub first_overlays : OverlayInvariants nat_eq first_later
  first_overlays = after_round _ world files one are first_goes

-- Then those of plain trees
module _ (world : World ℕ) (files : HasFileTrees world)
    (one : any_pair (λ (a b : Filesystem ℕ). nat_eq a.number b.number) world.filesystems ≡ false)
    (are : OverlayInvariants nat_eq world) where
  abbrev is_plain : Filesystem ℕ → Bool
  is_plain f = not (is_overlay f)

  abbrev second_later : World ℕ
  second_later = later is_plain world files one

  abbrev all_trees : AreTrees world
  all_trees = file_trees_are world files one

  module _ (number : ℕ) (overlay : Overlay ℕ)
      (is : (filesystem_numbered nat_eq world number).overlay ≡ Some overlay) where
    overlay_there : Among (filesystem_numbered nat_eq world number) world.filesystems
    overlay_there = (among-from_filter is_overlay world.filesystems (filesystem_numbered nat_eq world number)
        (merged_among world number _ is)).0

    -- What uses an inode of the filesystem of a layer
    module _ (layer : Layer ℕ) (m : Among layer (layers_of overlay)) where
      abbrev g : Filesystem ℕ
      g = filesystem_numbered nat_eq world layer.filesystem

      abbrev used : List ℕ
      used = used_in nat_eq world g

      layer_is_plain : is_plain_layer nat_eq world layer ≡ true
      layer_is_plain = plain_layer world are number overlay is layer m

      there : is_some (g.files.tree.node layer.directory) ≡ true
      there = directory_used g.files.tree layer.directory (and_true_right (not (is_overlay g)) _ layer_is_plain)

      found : IsFound is_plain world files one layer.filesystem
      found = found_by_inode _ world files one _ _ there

      holds : HoldsTree used g.files
      holds = named_is_used world g found.file_tree

      swept_is : filesystem_numbered nat_eq second_later layer.filesystem
          ≡ only_used_by nat_eq (list_all (λ n. is_among nat_eq n used) g.files.numbers) used g
      swept_is = cc (found.is_swept, and_true_left (not (is_overlay g)) _ layer_is_plain)

      directory_is_used : is_among nat_eq layer.directory used ≡ true
      directory_is_used = or_right (nat_eq layer.directory g.files.tree.root) _
          (is_among_left _ (named_in g.files ++ located_in nat_eq world g.number ++ layers_in nat_eq world g.number)
          (flat_map (objects_of_overlay nat_eq g.number) world.filesystems)
          (is_among_right _ (named_in g.files ++ located_in nat_eq world g.number) (layers_in nat_eq world g.number)
          (is_among_numbers layer.directory (layers_in nat_eq world g.number)
          (among-map _ _ layer (among-filter _ _ layer (among-flat_map _ _ (filesystem_numbered nat_eq world number)
          layer overlay_there (subst (λ o. Among layer (overlay_or [] layers_of o)) (sym is) m))
          (eq-eqb g.number layer.filesystem (number_of_filesystem world layer.filesystem)))))))

      object_is_used : overlay.upper ≡ Some layer → (object : ℕ) → IsUpperObject overlay object
          → is_among nat_eq object used ≡ true
      object_is_used e object of = or_right (nat_eq object g.files.tree.root)
          (is_among nat_eq object (named_in g.files ++ located_in nat_eq world g.number
          ++ layers_in nat_eq world g.number ++ flat_map (objects_of_overlay nat_eq g.number) world.filesystems))
          (is_among_right object
          (named_in g.files ++ located_in nat_eq world g.number ++ layers_in nat_eq world g.number)
          (flat_map (objects_of_overlay nat_eq g.number) world.filesystems)
          (is_among_numbers object (flat_map (objects_of_overlay nat_eq g.number) world.filesystems)
          (among-flat_map (objects_of_overlay nat_eq g.number) world.filesystems
          (filesystem_numbered nat_eq world number) object overlay_there
          (subst (λ o. Among object (overlay_or [] (λ v. cond (holds_of (λ l. nat_eq g.number l.filesystem) v.upper)
          (filter_map (λ n. upper_object (v.real n)) (filesystem_numbered nat_eq world number).files.numbers) []) o))
          (sym is) (subst (λ b. Among object (cond b
          (filter_map (λ n. upper_object (overlay.real n)) (filesystem_numbered nat_eq world number).files.numbers) []))
          (sym (ap (holds_of (λ l. nat_eq g.number l.filesystem)) e
          ∙ eq-eqb g.number layer.filesystem (number_of_filesystem world layer.filesystem)))
          (among-filter_map (λ n. upper_object (overlay.real n))
          (filesystem_numbered nat_eq world number).files.numbers of.0 object
          (inode_listed world all_trees number of.0 inode_there) (ap upper_object of.1)))))))
        where
          inode_there : is_some (inode_in world number of.0) ≡ true
          inode_there = by (inode_in world number of.0) refl
            where
              by : (o : Option (Node ℕ)) → inode_in world number of.0 ≡ o → is_some (inode_in world number of.0) ≡ true
              by None h = none_is_some (Upper object)
                  (sym ((are.overlays_merge number overlay is).real_there of.0 h) ∙ of.1)
              by (Some node) h = ap is_some h

      -- so it stays, and names lead where they led
      used_kept : (b : Bool) (object : ℕ) → is_among nat_eq object used ≡ true
          → (only_used_by nat_eq b used g).files.tree.node object ≡ g.files.tree.node object
      used_kept true object e = refl
      used_kept false object e = used_node used g.files holds found.file_tree object e

      leads_by : (b : Bool) (path : List (List ℕ))
          → (led (only_used_by nat_eq b used g).files.tree layer.directory path ≡ led g.files.tree layer.directory path)
          × (then_some (led (only_used_by nat_eq b used g).files.tree layer.directory path)
          (only_used_by nat_eq b used g).files.tree.node
          ≡ then_some (led g.files.tree layer.directory path) g.files.tree.node)
      leads_by true path = (refl, refl)
      leads_by false path = (
        led_same used g.files holds found.file_tree path layer.directory,
        node_led_same used g.files holds found.file_tree path layer.directory directory_is_used,
      )

      layer_leads : LeadsAsBefore world second_later layer
      layer_leads path =
          let by = leads_by (list_all (λ n. is_among nat_eq n used) g.files.numbers) path in (
            ap (λ (x : Filesystem ℕ). led x.files.tree layer.directory path) swept_is ∙ by.0,
            kept_same _ _ (ap (λ (x : Filesystem ℕ). then_some
                (led x.files.tree layer.directory path) x.files.tree.node) swept_is ∙ by.1),
          )

      object_kept : overlay.upper ≡ Some layer → (object : ℕ) → IsUpperObject overlay object
          → IsKept (inode_in world layer.filesystem object) (inode_in second_later layer.filesystem object)
      object_kept e object of = kept_same _ _ (ap (λ (x : Filesystem ℕ). x.files.tree.node object) swept_is
          ∙ used_kept (list_all (λ n. is_among nat_eq n used) g.files.numbers) object (object_is_used e object of))

      reached_by : (b : Bool) → IsReached g.files.tree layer.directory
          → IsReached (only_used_by nat_eq b used g).files.tree layer.directory
      reached_by true way = way
      reached_by false way = reached_still used g.files holds found.file_tree layer.directory way

      layer_reached : IsReached g.files.tree layer.directory
          → IsReached (filesystem_numbered nat_eq second_later layer.filesystem).files.tree layer.directory
      layer_reached way = subst (λ (x : Filesystem ℕ). IsReached x.files.tree layer.directory) (sym swept_is)
          (reached_by (list_all (λ n. is_among nat_eq n used) g.files.numbers) way)

    second_merged : IsMerged nat_eq second_later (filesystem_numbered nat_eq world number) overlay
    second_merged = stays_merged world second_later (filesystem_numbered nat_eq world number) overlay
        (λ layer m. layer_leads layer (shown_among overlay layer m))
        (λ layer object e of. object_kept layer (upper_among overlay layer e) e object of)
        (are.overlays_merge number overlay is)

    goes_as_it_was : filesystem_numbered nat_eq second_later number ≡ filesystem_numbered nat_eq world number
        → GoesOn world second_later number overlay
    goes_as_it_was same = record {
      before = overlay;
      is = is;
      upper = refl;
      work = refl;
      lowers = refl;
      merged = subst (λ x. IsMerged nat_eq second_later x overlay) (sym same) second_merged;
      objects = λ inode object e. e;
      leads = layer_leads;
      reached = λ top e. layer_reached top (upper_among overlay top e) (are.uppers_reached number overlay top is e);
    }

  pub second_goes : (number : ℕ) (after : Overlay ℕ)
      → (filesystem_numbered nat_eq second_later number).overlay ≡ Some after → GoesOn world second_later number after
  second_goes number after e = by (filesystem_numbered nat_eq world number).overlay refl
    where
      found_it : IsFound is_plain world files one number
      found_it = found_by_overlay is_plain world files one number after e

      by : (o : Option (Overlay ℕ)) → (filesystem_numbered nat_eq world number).overlay ≡ o
          → GoesOn world second_later number after
      by None was = absurd (true≢false (sym (ap is_some e) ∙ ap is_overlay (found_it.is_swept
          ∙ ap (λ b. only_used nat_eq world b (filesystem_numbered nat_eq world number))
          (ap (λ o. not (is_some o)) was))
          ∙ overlay-left (used_in nat_eq world (filesystem_numbered nat_eq world number))
          (filesystem_numbered nat_eq world number) _ ∙ ap is_some was))
      by (Some before) was =
          let same = found_it.is_swept ∙ ap (λ b. only_used nat_eq world b (filesystem_numbered nat_eq world number))
          (ap (λ o. not (is_some o)) was) in
          subst (GoesOn world second_later number)
          (same_Some before after (sym (ap (λ (x : Filesystem ℕ). x.overlay) same ∙ was) ∙ e))
          (goes_as_it_was number before was same)

  pub second_overlays : OverlayInvariants nat_eq second_later
  second_overlays = after_round _ world files one are second_goes
