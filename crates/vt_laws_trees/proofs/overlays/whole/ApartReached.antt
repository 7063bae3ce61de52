-- Names go on to lead to the directories of other layers in a change of an overlay.
use Rattle.std.proofs.Common.{◌≡◌, ◌≢◌, refl, sym, ap, subst, ◌∙◌, true≢false, ⊎_elim, ◌⊎◌, inl, inr, ℕ, ◌+◌, ◌*◌, nat_eq, Bool, true, false, List, [], ◌∷◌, ◌++◌, Option, Some, None, is_some}
use Rattle.vt_spec.proofs.Common.{Change, FileTree, Filesystem, Fresh, HasName, HasOwnParents, IsDirectory, IsReached, IsTree, Layer, Location, Lower, Merge, Move, Overlay, Real, Stack, Upper, World, and_true_right, directory_used, entries_in, entry_at, entry_from, entry_to, filesystem_numbered, has_entry_to, is_directory_node, is_plain_layer, led, led-append, none_is_some, odds, parent_in, reached_named, same_Some, stack_of, upper_directory_named, upper_object, upper_of, without_contents}
use Rattle.vt_laws_trees.proofs.trees.TreesOfWorlds.{numbered_all}
use Rattle.vt_laws_trees.proofs.layers.locked.Apart.{object_counts}
use Rattle.vt_laws_trees.proofs.layers.locked.Paths.{layer_tree}
use Rattle.vt_laws_trees.proofs.layers.layers.UpperChanges.{changes_keep_so, moved_leaves}
use Rattle.vt_laws_trees.proofs.layers.layers.UpperLine.{has_entries}
use Rattle.vt_laws_trees.proofs.layers.layers.UpperWorld.{from_too, overlay_numbers, overlay_tree, root_is_upper}
use Rattle.vt_laws_trees.proofs.layers.views.Moves.{no_way_up}
use Rattle.vt_laws_trees.proofs.overlays.changes.WholeLater.{ChangesMerge}
use Rattle.vt_laws_trees.specs.Overlays.WholeChanges.{IsAskedWell}
use Rattle.vt_laws_trees.proofs.overlays.whole.ApartLater
use Rattle.vt_laws_trees.proofs.overlays.whole.UpperMade.{up_there}
use Rattle.vt_laws_trees.proofs.overlays.whole.UpperTold.{told_emptied}
use Rattle.vt_laws_trees.proofs.overlays.steps.WholeAttributes.{upper_real}
use Rattle.vt_laws_trees.proofs.overlays.changes.WholeLater
use Rattle.vt_laws_trees.proofs.overlays.changes.WholeTogether.{both_copied, twice}
use Rattle.vt_laws_trees.specs.Layers.Layers.ChangesUpper.{IsNewBy}

-- a directory that keeps its parent keeps its name
stays_named : (before after : FileTree ℕ) → IsTree before.tree → IsTree after.tree → HasOwnParents after.tree
    → (number : ℕ)
    → IsDirectory before.tree number → after.tree.node number ≡ before.tree.node number → HasName before.tree number
    → IsReached after.tree number
stays_named before after was conditions own number directory same named = by _ refl
  where
    above : ℕ
    above = parent_in number (after.tree.node number)

    still : IsDirectory after.tree number
    still = cc (directory)

    from : above ≡ named.0
    from = cc (was.one_parent named.0 named.1 number named.2 directory)

    by : (b : Bool) → has_entry_to nat_eq after.tree above number ≡ b → IsReached after.tree number
    by true e =
        let entry = entry_from after.tree conditions above number e in
        conditions.reached number still (above, entry.0, entry.1)
    by false e = absurd (no_way_up before was named.0 named.1 number named.2 []
        (ap Some (sym (own number still (λ again.
        true≢false (sym (entry_to after.tree above again.1 number
        (ap (λ d. entry_at after.tree d again.1) (conditions.one_parent again.0 again.1 number again.2 still)
        ∙ again.2)) ∙ e))) ∙ from)))

module _ {fresh : Fresh ℕ} {world : World ℕ} {location : Location ℕ} {change : Change ℕ} {overlay : Overlay ℕ}
    {upper : Layer ℕ} (it : ChangesMerge fresh world location change overlay upper) (layer : Layer ℕ)
    (other : ApartLater.IsOther it layer) (same : layer.filesystem ≡ upper.filesystem) where
  abbrev number : ℕ
  number = ApartLater.number it

  abbrev stack : Stack ℕ
  stack = stack_of nat_eq world overlay upper

  abbrev before : Merge ℕ
  before = ApartLater.before it

  abbrev merge : Merge ℕ
  merge = ApartLater.merge it

  upper_plain : is_plain_layer nat_eq world upper ≡ true
  upper_plain = ApartLater.upper_plain it

  plain : is_plain_layer nat_eq world layer ≡ true
  plain = ApartLater.other_plain it layer other

  directory : IsDirectory before.upper.tree layer.directory
  directory = subst (λ n. IsDirectory (filesystem_numbered nat_eq world n).files.tree layer.directory) same
      (and_true_right _ _ plain)

  was_tree : IsTree before.upper.tree
  was_tree = layer_tree world it.conditions upper upper_plain

  -- An inode that lies under it does not lie under the upper layer.
  module _ (inode : ℕ) (there : is_some (before.upper.tree.node inode) ≡ true)
      (lies : ApartLater.Lies it layer upper.filesystem inode) where
    not_led : ¬ (ApartLater.LedIn it world upper inode)
    not_led way =
        ApartLater.clash it layer other upper.filesystem inode there (ApartLater.lies_first it upper
        upper.filesystem inode (ApartLater.led_lies it upper upper_plain upper.filesystem inode refl way)) lies

    -- it is no object of the overlay, and is no new inode
    apart : (n : ℕ) → upper_object (overlay.real n) ≢ Some inode
    apart n e = by (overlay.real n) refl e
      where
        by : (o : Option (Real ℕ)) → overlay.real n ≡ o → upper_object o ≡ Some inode → ⊥
        by None r f = none_is_some inode f
        by (Some (Upper object)) r f =
            ApartLater.clash it layer other
            upper.filesystem inode there (object_counts world it.conditions number overlay it.is upper it.has inode
            (n, cc (same_Some object inode f))) lies
        by (Some (Lower depth path)) r f = none_is_some inode f

    new : (k : ℕ) → inode ≢ fresh k
    new k e = cc (it.none upper.filesystem k)

    -- Where a move puts what it moves
    module _ (f : ℕ) (old : List ℕ) (t : ℕ) (to : List ℕ) (o : ℕ) (moves : Move f old t to o ≡ change) where
      abbrev two : Merge ℕ
      two = both_copied fresh stack before f old t to o

      is_asked : IsAskedWell stack before (Move f old t to o)
      is_asked = subst (IsAskedWell stack before) (sym moves) it.asked

      IsPlaced : ℕ → Type 0
      IsPlaced object = ((path : List (List ℕ)) × (led before.upper.tree upper.directory path ≡ Some object))
          ⊎ IsNewBy fresh object

      module _ (told : (d : ℕ) (w : List ℕ) (y : ℕ) → entry_at two.upper.tree d w ≡ Some y
          → (entry_at before.upper.tree d w ≡ Some y) ⊎ IsNewBy fresh y) where
        placed_on : (object : ℕ) (name : List ℕ) (next : ℕ) → IsPlaced object
            → entry_at two.upper.tree object name ≡ Some next → IsPlaced next
        unfolding IsPlaced
        placed_on object name next placed e = ⊎_elim (λ was. ⊎_elim (λ way. inl (
          way.0 ++ name ∷ [],
          led-append before.upper.tree upper.directory way.0 name object next way.1 was,
        )) (λ fresh_one. absurd (true≢false (sym (has_entries before.upper.tree object name next was)
            ∙ ap (λ n. is_directory_node (before.upper.tree.node n)) fresh_one.1
            ∙ ap is_directory_node (it.none upper.filesystem fresh_one.0)))) placed) inr (told object name next e)

        placed_along : (path : List (List ℕ)) (from object : ℕ) → IsPlaced from
            → led two.upper.tree from path ≡ Some object → IsPlaced object
        placed_along [] from object placed e = subst IsPlaced (same_Some from object e) placed
        placed_along (name ∷ path) from object placed e =
            let step = Rattle.vt_spec.proofs.Trees.found _ (entry_at two.upper.tree from name) object e in
            placed_along path step.0 object (placed_on from name step.0 placed step.1) step.2

      -- not in its place
      not_there : entry_at two.upper.tree (upper_of two t) to ≢ Some inode
      unfolding IsPlaced
      not_there e =
          let ready = twice fresh stack before (ApartLater.whole it) it.distinct (it.none _) f old t to o is_asked.0 in
          let way = ready.may.reached in
          ⊎_elim not_led (λ fresh_one. new fresh_one.0 fresh_one.1)
          (placed_along ready.names (way.0 ++ to ∷ []) upper.directory inode (inl ([], refl))
          (led-append two.upper.tree upper.directory way.0 to (upper_of two t) inode
          (up_there ready.whole t (upper_of two t) (upper_real two t ready.to) way.0 way.1) e))

      spared : (m : Merge ℕ) → two ≡ m → Rattle.vt_spec.specs.Tree.entry_named to
          (entries_in ((without_contents nat_eq m.upper (upper_directory_named m t to)).tree.node
          (upper_of m t))) ≢ Some inode
      spared m copied e =
          ⊎_elim (λ entry. not_there (cc))
          (λ nothing. nothing) (told_emptied (λ y. ⊥) m.upper (upper_directory_named m t to) (upper_of m t) to inode e)

    -- so nothing of its inode changes
    pub inode_stays : merge.upper.tree.node inode ≡ before.upper.tree.node inode
    inode_stays = changes_keep_so before.files (overlay_tree world it.conditions number overlay it.is)
        (overlay_numbers world it.conditions number overlay it.is)
        inode (before.upper.tree.node inode) fresh new stack overlay.real before.upper (record {
          here = refl;
          apart = apart;
          root = root_is_upper world it.conditions number overlay it.is upper it.has;
        }) (λ x. x ≡ before.upper.tree.node inode) (λ x e. e) change
        (λ f old t to o moves moved_real moved_upper copied fine from_up to_up object_up.
        moved_leaves before.files (overlay_tree world it.conditions number overlay it.is)
        (overlay_numbers world it.conditions number overlay it.is) inode (before.upper.tree.node inode)
        (odds (odds fresh))
        (λ k. new (2 * (2 * k + 1) + 1)) stack moved_real moved_upper fine f old t to o from_up to_up object_up
        (spared f old t to o moves (record { files = before.files; real = moved_real; upper = moved_upper }) copied))
        (WholeLater.spoken stack before change (overlay_tree world it.conditions number overlay it.is) it.asked)
        (from_too world it.conditions number overlay it.is upper it.has)

  -- The directory of the layer
  module _ (layer_reached : IsReached (filesystem_numbered nat_eq world upper.filesystem).files.tree layer.directory)
    where
      there_itself : is_some (before.upper.tree.node layer.directory) ≡ true
      there_itself = directory_used before.upper.tree layer.directory directory

      -- it lies under itself
      lies_itself : ApartLater.Lies it layer upper.filesystem layer.directory
      lies_itself = ApartLater.lies_first it layer _ _ (ApartLater.led_lies it layer plain _ _ (sym same) ([], refl))

      -- the upper layer's directory does not lie under it, so it is not the root
      no_root : before.upper.tree.root ≢ layer.directory
      no_root root = ApartLater.clash it layer other _ upper.directory (ApartLater.directory_there it upper upper_plain)
          (ApartLater.lies_first it upper _ upper.directory (ApartLater.upper_itself it)) (ApartLater.lies_first it
          layer upper.filesystem upper.directory (ApartLater.led_lies it layer plain _ upper.directory (sym same) (
            upper_reached.0,
            cc (same, root, upper_reached.1),
          )))
        where
          upper_reached : IsReached before.upper.tree upper.directory
          upper_reached = it.conditions.overlays.uppers_reached number overlay upper it.is it.has

      pub still_reached : IsReached merge.upper.tree layer.directory
      still_reached =
          let goes = ApartLater.goes it in
          ⊎_elim (λ root. absurd (no_root root)) (λ named. stays_named before.upper merge.upper was_tree goes.good.tree
          (goes.own_parents own) layer.directory directory (inode_stays layer.directory there_itself lies_itself) named)
          (reached_named before.upper.tree layer.directory layer_reached)
        where
          own : HasOwnParents before.upper.tree
          own = ⊎_elim (λ parents. parents) (λ missing. absurd (true≢false
              (sym there_itself ∙ ap (λ (x : Filesystem ℕ). is_some (x.files.tree.node layer.directory)) missing.0)))
              (numbered_all (λ (x : Filesystem ℕ). HasOwnParents x.files.tree) _ _ it.conditions.files.own_parents)
