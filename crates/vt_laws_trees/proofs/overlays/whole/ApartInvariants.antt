-- The invariants of overlays and of trees after a change of an overlay.
use Rattle.std.proofs.Common.{◌≡◌, ◌≢◌, refl, sym, ap, subst, ◌∙◌, true≢false, ◌⊎◌, ⊎_elim, inl, inr, ℕ, nat_eq, Bool, true, false, not, cond, List, [], ◌∷◌, map, Option, Some, None}
use Rattle.vt_spec.proofs.Common.{All-weaker, Among, Change, Filesystem, Fresh, HasOwnParents, IsMerged, IsReached, IsTree, Layer, ListsNumbers, Location, Overlay, OverlayInvariants, World, all_from_among, among-append, among-from_map, among_from_all, among_from_list_all, and_from, and_true_left, and_true_right, any_pair, eqb_tells, filesystem_at, filesystem_numbered, has_fit_layers, is_directory_node, is_fit_filesystem, is_overlay, is_plain_layer, layers_of, list_all, list_all_from_among, list_any, merge_of, mount_at, none_is_some, of_overlay, overlay_or, replaced_if_numbered, same_Some, stack_of, upper_and_work, with_change}
use Rattle.vt_laws_trees.specs.Trees.{IsFileTree}
use Rattle.vt_laws_trees.specs.Trees.Sizes.{is_fit_tree}
use Rattle.vt_laws_trees.proofs.trees.TreesOfWorlds.{numbered_anyhow}
use Rattle.vt_laws_trees.proofs.overlays.whole.UpperLimits.{sizes_stay}
use Rattle.vt_laws_trees.proofs.layers.locked.Apart.{layer_among, no_overlay_in, upper_in_layers}
use Rattle.vt_laws_trees.proofs.layers.views.Names.{alike_kept}
use Rattle.vt_laws_trees.specs.Overlays.LayersApart.{OverlayInvariantsStay, TreeInvariantsStay, TreesAfter, TreesStay}
use Rattle.vt_laws_trees.proofs.overlays.whole.ApartThere.{own_number}
use Rattle.vt_laws_trees.proofs.overlays.whole.ApartLater
use Rattle.vt_laws_trees.proofs.overlays.whole.ApartReached.{still_reached}
use Rattle.vt_laws_trees.proofs.overlays.whole.UpperWhole.{merged_trees_stay, upper_trees_stay}
use Rattle.vt_laws_trees.proofs.overlays.steps.WholeGrown.{directory_alike}
use Rattle.vt_laws_trees.proofs.overlays.changes.WholeLater
use Rattle.vt_laws_trees.proofs.overlays.changes.WholeLater.{ChangesMerge, changed_overlay_is_merged, changing}
use Rattle.vt_laws_trees.proofs.overlays.changes.WholeOthers.{other_overlays_stay_merged}
use Rattle.vt_spec.proofs.Worlds.{number-replaced_if_numbered}

-- numbers are those that they were
pub pair_same : (r : Filesystem ℕ → Filesystem ℕ) (fs : List (Filesystem ℕ))
    → ((f : Filesystem ℕ) → (r f).number ≡ f.number)
    → any_pair (λ (a b : Filesystem ℕ). nat_eq a.number b.number) (map r fs)
    ≡ any_pair (λ (a b : Filesystem ℕ). nat_eq a.number b.number) fs
pair_same r [] same = refl
pair_same r (f ∷ fs) same = cc (any (r f).number f.number (same f) fs, pair_same r fs same)
  where
    any : (a b : ℕ) → a ≡ b → (gs : List (Filesystem ℕ)) → list_any (λ (g : Filesystem ℕ). nat_eq a g.number) (map r gs)
        ≡ list_any (λ (g : Filesystem ℕ). nat_eq b g.number) gs
    any a b e [] = refl
    any a b e (g ∷ gs) = cc (same g, any a b e gs)

module _ {fresh : Fresh ℕ} {world : World ℕ} {location : Location ℕ} {change : Change ℕ} {overlay : Overlay ℕ}
    {upper : Layer ℕ} (it : ChangesMerge fresh world location change overlay upper) where
  abbrev number : ℕ
  number = (mount_at nat_eq world location).filesystem

  abbrev later : World ℕ
  later = with_change nat_eq fresh world location change

  abbrev changed : Filesystem ℕ
  changed = ApartLater.changed it

  abbrev changed_upper : Filesystem ℕ
  changed_upper = ApartLater.changed_upper it

  later_is : later ≡ WholeLater.later it
  later_is = ApartLater.later_is it

  upper_later : filesystem_numbered nat_eq later upper.filesystem ≡ changed_upper
  upper_later = ApartLater.upper_later it

  upper_none : changed_upper.overlay ≡ None
  upper_none = no_overlay_in world it.conditions upper (ApartLater.upper_plain it)

  -- the filesystems afterwards
  pub filesystem_then : (f : Filesystem ℕ) → Among f later.filesystems
      → (f ≡ changed) ⊎ ((f ≡ changed_upper) ⊎ Among f world.filesystems)
  filesystem_then f m = from (among-from_map _ _ f (subst (λ w. Among f w.filesystems) later_is m))
    where
      at : (old : Filesystem ℕ) → Among old world.filesystems → (p q : Bool)
          → f ≡ cond q changed_upper (cond p changed old)
          → (f ≡ changed) ⊎ ((f ≡ changed_upper) ⊎ Among f world.filesystems)
      at old o p true same = inr (inl same)
      at old o true false same = inl same
      at old o false false same = inr (inr (subst (λ x. Among x world.filesystems) (sym same) o))

      again : (one : Filesystem ℕ) → f ≡ replaced_if_numbered nat_eq changed_upper one
          → (old : Filesystem ℕ) × Among old world.filesystems × (one ≡ replaced_if_numbered nat_eq changed old)
          → (f ≡ changed) ⊎ ((f ≡ changed_upper) ⊎ Among f world.filesystems)
      again one same (old, o, e) = at old o (nat_eq changed.number old.number)
          (nat_eq changed_upper.number (replaced_if_numbered nat_eq changed old).number) (cc)

      from : (one : Filesystem ℕ) × Among one (map (replaced_if_numbered nat_eq changed) world.filesystems)
          × (f ≡ replaced_if_numbered nat_eq changed_upper one)
          → (f ≡ changed) ⊎ ((f ≡ changed_upper) ⊎ Among f world.filesystems)
      from (one, o, same) = again one same (among-from_map _ world.filesystems one o)

  -- overlays are what their layers show
  merges : (n : ℕ) (other : Overlay ℕ) → (filesystem_numbered nat_eq later n).overlay ≡ Some other
      → IsMerged nat_eq later (filesystem_numbered nat_eq later n) other
  merges n other e = ⊎_elim here (λ t. ⊎_elim (at_upper t.1) (elsewhere t.1) (eqb_tells n _)) (eqb_tells n number)
    where
      here : (nat_eq n number ≡ true) × (n ≡ number) → IsMerged nat_eq later (filesystem_numbered nat_eq later n) other
      here t = subst (λ k. IsMerged nat_eq later (filesystem_numbered nat_eq later k) other) (sym t.1)
          (changed_overlay_is_merged fresh world location change overlay other upper it.conditions it.is it.has
          it.distinct it.none it.asked (cc (t.1)))

      at_upper : n ≢ number → (nat_eq n upper.filesystem ≡ true) × (n ≡ upper.filesystem)
          → IsMerged nat_eq later (filesystem_numbered nat_eq later n) other
      at_upper differ t = none_is_some other (cc (upper_none, upper_later, t.1, e))

      elsewhere : n ≢ number → (nat_eq n upper.filesystem ≡ false) × (n ≢ upper.filesystem)
          → IsMerged nat_eq later (filesystem_numbered nat_eq later n) other
      elsewhere differ t =
          let same =
          ApartLater.stays it n differ t.1 in
          subst (λ f. IsMerged nat_eq later f other) (sym same)
          (other_overlays_stay_merged fresh world location change overlay other upper n it.conditions it.is it.has
          it.none (WholeLater.spoken (stack_of nat_eq world overlay upper)
          (merge_of nat_eq world (filesystem_at nat_eq world location) overlay upper) change
          (ApartLater.whole it).tree it.asked) differ (cc (e))).1

  -- layers are directories of plain trees
  still_plain : (layer : Layer ℕ)
      → (layer ≡ upper) ⊎ ApartLater.IsOther it layer → is_plain_layer nat_eq later layer ≡ true
  still_plain layer live = and_from _ _ (no_overlay (eqb_tells layer.filesystem upper.filesystem)) (directory live)
    where
      was_plain : is_plain_layer nat_eq world layer ≡ true
      was_plain = ⊎_elim (λ same. cc (ApartLater.upper_plain it)) (λ other. ApartLater.other_plain it layer other) live

      no_overlay : ((nat_eq layer.filesystem upper.filesystem ≡ true) × (layer.filesystem ≡ upper.filesystem))
          ⊎ ((nat_eq layer.filesystem upper.filesystem ≡ false) × (layer.filesystem ≢ upper.filesystem))
          → not (is_overlay (filesystem_numbered nat_eq later layer.filesystem)) ≡ true
      no_overlay (inl t) = cc (t.1, upper_later, upper_none)
      no_overlay (inr t) = ap (λ f. not (is_overlay f))
          (ApartLater.stays it _ (ApartLater.plain_elsewhere it layer was_plain) t.1) ∙ and_true_left _ _ was_plain

      directory : (layer ≡ upper)
          ⊎ ApartLater.IsOther it layer
          → is_directory_node ((filesystem_numbered nat_eq later layer.filesystem).files.tree.node layer.directory)
          ≡ true
      directory (inl same) =
          ap (λ l. is_directory_node ((filesystem_numbered nat_eq later l.filesystem).files.tree.node l.directory)) same
          ∙ ap (λ f. is_directory_node (f.files.tree.node upper.directory)) upper_later
          ∙ (ApartLater.goes it).good.directory
      directory (inr other) = directory_alike _ _ (alike_kept _ _ (ApartLater.other_leads it layer other []).1)
          ∙ and_true_right (not (is_overlay (filesystem_numbered nat_eq world layer.filesystem))) _ was_plain

  live : (n : ℕ) (v : Overlay ℕ) → (filesystem_numbered nat_eq world n).overlay ≡ Some v → (layer : Layer ℕ)
      → Among layer (layers_of v) → (layer ≡ upper) ⊎ ApartLater.IsOther it layer
  live n v e layer m = ⊎_elim (λ up. ⊎_elim inl (λ differ. inr (inl (layer_among world _ n v e layer up, differ)))
      (ApartLater.same_layer it layer upper)) (λ low. inr (inr (layer_among world (λ o. o.lowers) n v e layer low)))
      (among-append (upper_and_work v) v.lowers layer m)

  -- names lead to the directories of upper layers
  upper_reached : IsReached (filesystem_numbered nat_eq later upper.filesystem).files.tree upper.directory
  upper_reached = subst (λ (f : Filesystem ℕ). IsReached f.files.tree upper.directory) (sym upper_later)
      (ApartLater.goes it).good.reached

  other_reached : (layer : Layer ℕ) → ApartLater.IsOther it layer
      → IsReached (filesystem_numbered nat_eq world layer.filesystem).files.tree layer.directory
      → IsReached (filesystem_numbered nat_eq later layer.filesystem).files.tree layer.directory
  other_reached layer other was = ⊎_elim beside elsewhere (eqb_tells layer.filesystem upper.filesystem)
    where
      beside : (nat_eq layer.filesystem upper.filesystem ≡ true) × (layer.filesystem ≡ upper.filesystem)
          → IsReached (filesystem_numbered nat_eq later layer.filesystem).files.tree layer.directory
      beside t = subst (λ n. IsReached (filesystem_numbered nat_eq later n).files.tree layer.directory) (sym t.1)
          (subst (λ (f : Filesystem ℕ). IsReached f.files.tree layer.directory) (sym upper_later)
          (still_reached it layer other t.1
          (subst (λ n. IsReached (filesystem_numbered nat_eq world n).files.tree layer.directory) t.1 was)))

      elsewhere : (nat_eq layer.filesystem upper.filesystem ≡ false) × (layer.filesystem ≢ upper.filesystem)
          → IsReached (filesystem_numbered nat_eq later layer.filesystem).files.tree layer.directory
      elsewhere t = subst (λ (f : Filesystem ℕ). IsReached f.files.tree layer.directory)
          (sym (ApartLater.stays it layer.filesystem (ApartLater.plain_elsewhere it layer
          (ApartLater.other_plain it layer other)) t.1)) was

  uppers_later : (n : ℕ) (v : Overlay ℕ) (u : Layer ℕ) → (filesystem_numbered nat_eq later n).overlay ≡ Some v
      → v.upper ≡ Some u → IsReached (filesystem_numbered nat_eq later u.filesystem).files.tree u.directory
  uppers_later n v u e f = ⊎_elim here (λ t. ⊎_elim (at_upper t.1) (elsewhere t.1) (eqb_tells n _)) (eqb_tells n number)
    where
      as_upper : u ≡ upper → IsReached (filesystem_numbered nat_eq later u.filesystem).files.tree u.directory
      as_upper same =
          subst (λ (l : Layer ℕ). IsReached (filesystem_numbered nat_eq later l.filesystem).files.tree l.directory)
          (sym same) upper_reached

      here : (nat_eq n number ≡ true) × (n ≡ number)
          → IsReached (filesystem_numbered nat_eq later u.filesystem).files.tree u.directory
      here t = as_upper (same_Some u upper (sym f ∙ ap (λ (o : Overlay ℕ). o.upper)
          (sym (same_Some _ v (sym (ap (λ (x : Filesystem ℕ). x.overlay)
          (ap (λ w. filesystem_numbered nat_eq w number) later_is ∙ WholeLater.overlay_later it))
          ∙ ap (λ k. (filesystem_numbered nat_eq later k).overlay) (sym t.1) ∙ e))) ∙ it.has))

      at_upper : n ≢ number → (nat_eq n upper.filesystem ≡ true) × (n ≡ upper.filesystem)
          → IsReached (filesystem_numbered nat_eq later u.filesystem).files.tree u.directory
      at_upper differ t = none_is_some v (cc (upper_none, upper_later, t.1, e))

      elsewhere : n ≢ number → (nat_eq n upper.filesystem ≡ false) × (n ≢ upper.filesystem)
          → IsReached (filesystem_numbered nat_eq later u.filesystem).files.tree u.directory
      elsewhere differ t =
          let was = sym (ap (λ (x : Filesystem ℕ). x.overlay) (ApartLater.stays it n differ t.1)) ∙ e in
          ⊎_elim as_upper (λ other. other_reached u other (it.conditions.overlays.uppers_reached n v u was f))
          (live n v was u (upper_in_layers world it.conditions n v was u f))

  each_overlay : (test : Overlay ℕ → Bool)
      → ((v : Overlay ℕ) (real : ℕ → Option (Rattle.vt_spec.specs.Machine.World.Real ℕ))
      → test (record v { real = real }) ≡ test v)
      → ((n : ℕ) (v : Overlay ℕ) → (filesystem_numbered nat_eq world n).overlay ≡ Some v → test v ≡ true)
      → list_all (of_overlay true test) later.filesystems ≡ true
  each_overlay test ignores holds = list_all_from_among _ later.filesystems (λ f m. by f (filesystem_then f m))
    where
      old : (f : Filesystem ℕ) → Among f world.filesystems → (o : Option (Overlay ℕ)) → f.overlay ≡ o
          → overlay_or true test o ≡ true
      old f m None e = refl
      old f m (Some v) e = holds f.number v (cc (own_number world it.conditions.files.one_filesystem f m))

      by : (f : Filesystem ℕ) → (f ≡ changed) ⊎ ((f ≡ changed_upper) ⊎ Among f world.filesystems)
          → of_overlay true test f ≡ true
      by f (inl same) = cc (ignores overlay _, holds number overlay it.is)
      by f (inr (inl same)) = cc (upper_none)
      by f (inr (inr m)) = old f m f.overlay refl

  pub overlay_invariants : OverlayInvariants nat_eq later
  overlay_invariants =
      let stand =
      ApartLater.stand_apart it in
      record {
        overlays_merge = merges;
        fit_layers = each_overlay has_fit_layers (λ v real. refl) (λ n v e. fit n v e);
        plain_layers = each_overlay _ (λ v real. refl) (λ n v e. list_all_from_among
            (is_plain_layer nat_eq later) (layers_of v) (λ layer m. still_plain layer (live n v e layer m)));
        changed_apart = stand.changed;
        lowers_apart = stand.lowers;
        uppers_reached = uppers_later;
      }
    where
      fit : (n : ℕ) (v : Overlay ℕ) → (filesystem_numbered nat_eq world n).overlay ≡ Some v → has_fit_layers v ≡ true
      fit n v e = sym (ap (overlay_or true has_fit_layers) e)
          ∙ among_from_list_all (of_overlay true has_fit_layers) world.filesystems it.conditions.overlays.fit_layers
          (filesystem_numbered nat_eq world n) (Rattle.vt_spec.proofs.Lists.among-from_filter is_overlay
          world.filesystems _ (Rattle.vt_laws_trees.proofs.layers.locked.Apart.merged_among world n v e)).0

  -- trees
  was_tree : (f : Filesystem ℕ) → Among f world.filesystems → IsFileTree f.files
  was_tree f m = record {
    tree = among_from_all (λ (g : Filesystem ℕ). IsTree g.files.tree) world.filesystems it.conditions.files.trees f m;
    numbers = among_from_all
        (λ (g : Filesystem ℕ). Rattle.vt_spec.specs.Machine.Invariants.ListsNumbers nat_eq g.files) world.filesystems
        it.conditions.files.numbers f m;
    own_parents = among_from_all
        (λ (g : Filesystem ℕ). HasOwnParents g.files.tree) world.filesystems it.conditions.files.own_parents f m;
  }

  found : (n : ℕ) (directory : ℕ)
      → is_directory_node ((filesystem_numbered nat_eq world n).files.tree.node directory) ≡ true
      → IsFileTree (filesystem_numbered nat_eq world n).files
  found n directory d = ⊎_elim (λ tree. tree) (λ missing. absurd (true≢false
      (sym d ∙ ap (λ (f : Filesystem ℕ). is_directory_node (f.files.tree.node directory)) missing.0)))
      (Rattle.vt_laws_trees.proofs.trees.TreesOfWorlds.numbered_all
      (λ (f : Filesystem ℕ). IsFileTree f.files) n world.filesystems
      (all_from_among (λ (f : Filesystem ℕ). IsFileTree f.files) world.filesystems was_tree))

  pub trees_after : TreesAfter later upper
  trees_after =
      let whole = ApartLater.whole it in
      let new = ApartLater.new it in
      let stack = stack_of nat_eq world overlay upper in
      let before = merge_of nat_eq world (filesystem_at nat_eq world location) overlay upper in
      record {
        trees = all_from_among _ later.filesystems (λ f m. ⊎_elim (λ same. subst (λ x. IsFileTree x.files) (sym same)
            (merged_trees_stay fresh stack before change whole new it.asked (found number _ whole.tree.root_directory)))
            (⊎_elim (λ same. subst (λ x. IsFileTree x.files) (sym same) (upper_trees_stay fresh
            stack before change whole new it.asked (found upper.filesystem upper.directory (whole.layers 0 _ refl).1)))
            (λ old. was_tree f old)) (filesystem_then f m));
        one_filesystem = ap (λ w. any_pair (λ (a b : Filesystem ℕ). nat_eq a.number b.number) w.filesystems) later_is
            ∙ pair_same (replaced_if_numbered nat_eq changed_upper)
            (map (replaced_if_numbered nat_eq changed) world.filesystems)
            (λ f. number-replaced_if_numbered changed_upper f)
            ∙ pair_same (replaced_if_numbered nat_eq changed) world.filesystems
            (λ f. number-replaced_if_numbered changed f) ∙ it.conditions.files.one_filesystem;
        reached = upper_reached;
      }

pub overlay_invariants_stay : OverlayInvariantsStay
overlay_invariants_stay fresh world location change overlay upper conditions is has distinct none asked =
    overlay_invariants (changing fresh world location change overlay upper conditions is has distinct none asked)

pub trees_stay : TreesStay
trees_stay fresh world location change overlay upper conditions is has distinct none asked =
    trees_after (changing fresh world location change overlay upper conditions is has distinct none asked)

-- With what it gives within the limits
pub tree_invariants_stay : TreeInvariantsStay
tree_invariants_stay fresh world location change overlay upper conditions is has distinct none asked fit =
    let after = trees_after it in
    let later = with_change nat_eq fresh world location change in
    record {
      trees = All-weaker (λ (f : Filesystem ℕ). IsFileTree f.files) (λ f. IsTree f.files.tree)
          (λ f t. t.tree) later.filesystems after.trees;
      own_parents = All-weaker (λ (f : Filesystem ℕ). IsFileTree f.files) (λ f. HasOwnParents f.files.tree)
          (λ f t. t.own_parents) later.filesystems after.trees;
      numbers = All-weaker (λ (f : Filesystem ℕ). IsFileTree f.files) (λ f. ListsNumbers nat_eq f.files)
          (λ f t. t.numbers) later.filesystems after.trees;
      one_filesystem = after.one_filesystem;
      fit_filesystems = list_all_from_among is_fit_filesystem later.filesystems (λ f m.
          by f (filesystem_then it f m));
    }
  where
    it : ChangesMerge fresh world location change overlay upper
    it = changing fresh world location change overlay upper conditions is has distinct none asked

    fit_numbered : (n : ℕ) → is_fit_tree (filesystem_numbered nat_eq world n).files ≡ true
    fit_numbered n = numbered_anyhow (λ (f : Filesystem ℕ). is_fit_filesystem f ≡ true) n world.filesystems
        (all_from_among _ world.filesystems (λ f m. among_from_list_all _ _ conditions.files.fit_filesystems f m)) refl

    sizes : (is_fit_tree (ApartLater.merge it).files ≡ true) × (is_fit_tree (ApartLater.merge it).upper ≡ true)
    sizes = sizes_stay fresh (stack_of nat_eq world overlay upper)
        (merge_of nat_eq world (filesystem_at nat_eq world location) overlay upper)
        change (ApartLater.whole it) (ApartLater.new it) asked fit (fit_numbered _) (fit_numbered upper.filesystem)

    by : (f : Filesystem ℕ) → (f ≡ ApartLater.changed it)
        ⊎ ((f ≡ ApartLater.changed_upper it) ⊎ Among f world.filesystems) → is_fit_filesystem f ≡ true
    by f (inl same) = ap is_fit_filesystem same ∙ sizes.0
    by f (inr (inl same)) = ap is_fit_filesystem same ∙ sizes.1
    by f (inr (inr m)) = among_from_list_all is_fit_filesystem world.filesystems conditions.files.fit_filesystems f m
