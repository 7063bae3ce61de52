-- The filesystems after a call of others that changes something: the change of one, and of its upper layer.
use Rattle.std.proofs.Common.{inl, arith, ◌≡◌, ◌≢◌, refl, sym, ap, subst, ◌∙◌, inr, ⊎_elim, ℕ, nat_eq, Bool, true, false, true≢false, List, [], ◌∷◌, Option, Some, None, Ok, is_some, not, ◌&&◌, ◌||◌, eq-eqb, eqb-true}
use Rattle.vt_spec.proofs.Common.{Among, Call, Change, CopyUp, Filesystem, Fresh, HasOwnParents, IsTree, Layer, ListsNumbers, Location, Merge, Overlay, Permit, Task, TaskName, World, among-append_left, among-append_right, among-filter, among-flat_map, among-from_filter, among-from_flat_map, among_from_list_all, among_numbers, and_from, and_parts, any_among, any_from_among, changed, changed_at, common_steps, counts_as_in_layer, directory_used, false_from_ne_true, files_at, filesystem_at, filesystem_changed, filesystem_numbered, found_among, has_layer_on, is_among, is_among_numbers, is_directory_node, is_locked, is_lower_root, is_overlay, is_plain_layer, is_under, judge_in, layers_of, led, lies_in_layer, lies_only_in_lowers, lies_or_counts_under, list_any, live_layers, live_lowers, looks_of, merge_changed, merge_of, mount_at, no_outsider_on, none_is_some, not-true, numbers_of_change, of_overlay, or_cases, or_left, overfills, overlay_changed, overlay_or, overlays, own_lowers, same_Some, stack_of, task_called, upper_and_work, used_alone, used_directly, used_filesystems, when, wholly_locked, with_change}
use Rattle.vt_spec.specs.Machine.Filesystems.{numbers_over}
use Rattle.vt_laws_sealed.proofs.Common.{cases_Option, AsksWell, AsksWellIf, IsFileTree, IsProper, SparesLocked, SparesLockedIf, calls_are_granted, change_asked, name_found, number_of_filesystem, permits_are_for_their_calls}
use Rattle.vt_laws_rules.specs.Given.{IsFor}
use Rattle.vt_laws_sealed.proofs.outsiders.OthersCalls.{IsOthersCall, apart_from}
use Rattle.vt_laws_trees.proofs.trees.ChangesKeepTrees.{changes_keep_numbers, changes_keep_own_parents, changes_keep_trees}
use Rattle.vt_laws_trees.proofs.trees.TreesOfWorlds.{numbered_all, numbered_anyhow}
use Rattle.vt_laws_trees.proofs.layers.layers.UpperWorld.{overlay_found}
use Rattle.vt_laws_trees.proofs.layers.locked.Apart.{layer_among, layer_plain}
use Rattle.vt_laws_trees.specs.Overlays.WholeChanges.{IsAskedWell}
use Rattle.vt_laws_trees.proofs.overlays.whole.ApartLater
use Rattle.vt_laws_trees.proofs.overlays.whole.ApartReached.{inode_stays}
use Rattle.vt_laws_worlds.specs.OverlayPermits.Changed.{numbers_left}
use Rattle.vt_laws_worlds.proofs.overlay_permits.asked.Asked.{permits_ask_well}
use Rattle.vt_laws_worlds.proofs.overlay_permits.asked.AskedOverlays.{permits_ask_overlays_well, permits_ask_properly}
use Rattle.vt_laws_worlds.proofs.overlay_permits.asked.Unlocked.{permits_spare_what_is_locked}
use Rattle.vt_laws_worlds.proofs.overlay_permits.changed.ChangedOverlays.{are_left}
use Rattle.vt_laws_sealed.specs.Part.Seals.{IsApart}
use Rattle.vt_laws_sealed.proofs.part.locks.LockedTrees.{all_locked}
use Rattle.vt_laws_sealed.proofs.part.seals.ByPart.{used_are_free}
use Rattle.vt_laws_sealed.proofs.outsiders.ChangesGround.{IsTheirs, granted_theirs}
use Rattle.vt_laws_sealed.proofs.outsiders.FilesChanged.{IsCopy, made_was_not_there, merged_step, plain_step, replaced_is_remerged, replaced_is_rewritten, spared_stays, written_not_spared, written_there, written_to}
use Rattle.vt_laws_sealed.proofs.outsiders.FilesStep.{stepping_leaves_apart}
use Rattle.vt_laws_sealed.proofs.outsiders.LowersChanged.{KeepsBelow}
use Rattle.vt_laws_sealed.proofs.outsiders.NumbersGrown.{merge_grows, numbers-changed, numbers_made, root-changed}
use Rattle.vt_laws_sealed.proofs.outsiders.OverlaysMounted.{outside_uses}
use Rattle.vt_laws_sealed.proofs.outsiders.Staying.{LeavesApart}
use Rattle.vt_laws_trees.proofs.overlays.changes.WholeLater.{ChangesMerge, changing}

-- what is copied up is on an overlay
copies_are_of_overlays : (world : World ℕ) (fresh : Fresh ℕ) (task : Task ℕ) (call : Call) (permit : Permit ℕ)
    → IsFor (looks_of nat_eq world) task call permit → (made : Location ℕ × Change ℕ)
    → change_asked fresh world permit ≡ Some made → IsCopy made.1
    → is_some (filesystem_at nat_eq world made.0).overlay ≡ true
copies_are_of_overlays world fresh task call permit for made asks copy =
    by permit for (subst IsCopyIf (sym asks) copy) made asks
  where
    IsCopyIf : Option (Location ℕ × Change ℕ) → Type 0
    IsCopyIf None = ⊥
    IsCopyIf (Some one) = IsCopy one.1

    layered : (file : Location ℕ) (o : Option (Overlay ℕ))
        → overlay_or false (λ overlay. lies_only_in_lowers overlay file.node) o ≡ true → is_some o ≡ true
    layered file None e = absurd (true≢false (sym e))
    layered file (Some overlay) e = refl

    opened : (file : Location ℕ) (b : Bool)
        → (b ≡ true → is_some (filesystem_at nat_eq world file).overlay ≡ true) → (one : Location ℕ × Change ℕ)
        → when b (file, CopyUp file.node) ≡ Some one → is_some (filesystem_at nat_eq world one.0).overlay ≡ true
    opened file true over one e = ap (λ (x : Location ℕ × Change ℕ). is_some (filesystem_at nat_eq world x.0).overlay)
        (sym (same_Some (file, CopyUp file.node) one e)) ∙ over refl
    opened file false over one e = none_is_some one e

    by : (permit : Permit ℕ) → IsFor (looks_of nat_eq world) task call permit
        → IsCopyIf (change_asked fresh world permit) → (one : Location ℕ × Change ℕ)
        → change_asked fresh world permit ≡ Some one → is_some (filesystem_at nat_eq world one.0).overlay ≡ true
    by permit for copied one e = search (arith, common_steps, opened, layered, and_parts, none_is_some)

module _ {world : World ℕ} {fresh : Fresh ℕ} {names : List TaskName} {name : TaskName} {call : Call} {task : Task ℕ}
    (outsider : IsOthersCall world fresh names name call task) {permit : Permit ℕ}
    (judged : judge_in nat_eq fresh world task call ≡ Ok permit) {location : Location ℕ} {change : Change ℕ}
    (asks : change_asked fresh world permit ≡ Some (location, change)) where
  abbrev supply : Fresh ℕ
  supply = numbers_left fresh permit

  set_apart : IsApart world names
  set_apart = apart_from outsider.it

  itself : task_called world task.name ≡ Some task
  itself = ap (task_called world) (sym (name_found world name task outsider.called)) ∙ outsider.called

  theirs : IsTheirs outsider (location, change)
  theirs = granted_theirs outsider call permit
      (calls_are_granted nat_eq (looks_of nat_eq world) (overfills nat_eq fresh world task) task call permit judged)
      (location, change) asks

  asked : AsksWell world location change
  asked = (subst (AsksWellIf world) asks
      (permits_ask_well world fresh task call permit outsider.is outsider.serves itself judged)).0

  proper : IsProper (files_at nat_eq world location).tree change
  proper = (permits_ask_properly world fresh task call permit location change outsider.is outsider.serves itself judged
      asks).0

  spared : SparesLocked world location change
  spared = subst (SparesLockedIf world) asks
      (permits_spare_what_is_locked world fresh task call permit outsider.is outsider.serves itself judged)

  abbrev number : ℕ
  number = (mount_at nat_eq world location).filesystem

  abbrev there : Filesystem ℕ
  there = filesystem_at nat_eq world location

  node_there : is_some (there.files.tree.node (written_to change)) ≡ true
  node_there = written_there world location change asked theirs.1

  -- others have a foothold on it
  on_it : no_outsider_on nat_eq world names number ≡ false
  on_it = outside_uses world names location theirs.0

  abbrev is_used : ℕ → Bool
  is_used n = is_among nat_eq n (used_filesystems nat_eq world names)

  -- what is not alone theirs, and not wholly locked, they do not use
  not_used : (n : ℕ) → (used_alone nat_eq world names n ≡ true → ⊥) → (wholly_locked nat_eq world names n ≡ true → ⊥)
      → is_used n ≡ false
  not_used n alone locked = false_from_ne_true (is_used n) (λ used.
      ⊎_elim alone locked (or_cases (used_alone nat_eq world names n) (wholly_locked nat_eq world names n)
      (used_are_free world names outsider.sealed_off n (among_numbers (used_filesystems nat_eq world names) n used))))

  not_alone : used_alone nat_eq world names number ≡ true → ⊥
  not_alone alone = true≢false (sym (and_parts (no_outsider_on nat_eq world names number) _ alone).0 ∙ on_it)

  -- A filesystem in which something is
  tree_of : (n object : ℕ) → is_some ((filesystem_numbered nat_eq world n).files.tree.node object) ≡ true
      → IsFileTree (filesystem_numbered nat_eq world n).files
  tree_of n object is = record {
    tree = ⊎_elim (λ tree. tree) (λ missing. absurd (true≢false (sym is
        ∙ ap (λ (f : Filesystem ℕ). is_some (f.files.tree.node object)) missing.0)))
        (numbered_all (λ (f : Filesystem ℕ). IsTree f.files.tree) n world.filesystems outsider.is.files.trees);
    numbers = numbered_anyhow (λ (f : Filesystem ℕ). ListsNumbers nat_eq f.files) n world.filesystems
        outsider.is.files.numbers (λ k. refl);
    own_parents = ⊎_elim (λ own. own) (λ missing. absurd (true≢false (sym is
        ∙ ap (λ (f : Filesystem ℕ). is_some (f.files.tree.node object)) missing.0)))
        (numbered_all (λ (f : Filesystem ℕ). HasOwnParents f.files.tree) n world.filesystems
        outsider.is.files.own_parents);
  }

  -- Their lower layers are lower layers of live overlays, and locked.
  abbrev IsLowerOf : Layer ℕ → Type 0
  IsLowerOf layer = (n : ℕ) × (overlay : Overlay ℕ) × ((filesystem_numbered nat_eq world n).overlay ≡ Some overlay)
      × Among layer overlay.lowers

  their_lower : (layer : Layer ℕ) → Among layer (own_lowers nat_eq world names) → IsLowerOf layer
  their_lower layer m =
      let from = among-from_flat_map
      (λ n. of_overlay [] (λ (overlay : Overlay ℕ). overlay.lowers) (filesystem_numbered nat_eq world n))
      (used_directly nat_eq world names) layer m in
      grind (arith, common_steps)

  lower_plain : (layer : Layer ℕ) → IsLowerOf layer → is_plain_layer nat_eq world layer ≡ true
  lower_plain layer of = layer_plain world outsider.is of.0 of.1 of.2 layer
      (among-append_right (upper_and_work of.1) of.1.lowers layer of.3)

  lower_live : (layer : Layer ℕ) → IsLowerOf layer → Among layer (live_lowers nat_eq world)
  lower_live layer of = layer_among world (λ (o : Overlay ℕ). o.lowers) of.0 of.1 of.2 layer of.3

  lower_lies : (layer : Layer ℕ) (n object : ℕ) → nat_eq n layer.filesystem ≡ true
      → is_under nat_eq (filesystem_numbered nat_eq world n).files layer.directory object ≡ true
      → lies_or_counts_under nat_eq world n object layer ≡ true
  lower_lies layer n object at under = or_left (lies_in_layer nat_eq world n object layer)
      (list_any (counts_as_in_layer nat_eq world n object layer) (overlays world))
      (and_from (nat_eq n layer.filesystem) _ at under)

  lower_locked : (layer : Layer ℕ) → IsLowerOf layer → (n object : ℕ) → nat_eq n layer.filesystem ≡ true
      → is_under nat_eq (filesystem_numbered nat_eq world n).files layer.directory object ≡ true
      → is_locked nat_eq world n object ≡ true
  lower_locked layer of n object at under =
      any_from_among (lies_or_counts_under nat_eq world n object) (live_layers world) layer
      (layer_among world layers_of of.0 of.1 of.2 layer
      (among-append_right (upper_and_work of.1) of.1.lowers layer of.3)) (lower_lies layer n object at under)

  lower_top : (layer : Layer ℕ) → IsLowerOf layer → (n : ℕ) → nat_eq n layer.filesystem ≡ true
      → is_directory_node ((filesystem_numbered nat_eq world n).files.tree.node layer.directory) ≡ true
  lower_top layer of n at =
      ap (λ k. is_directory_node ((filesystem_numbered nat_eq world k).files.tree.node layer.directory))
      (eqb-true n layer.filesystem at)
      ∙ (and_parts (not (is_overlay (filesystem_numbered nat_eq world layer.filesystem)))
      (is_directory_node ((filesystem_numbered nat_eq world layer.filesystem).files.tree.node layer.directory))
      (lower_plain layer of)).1

  -- a root that is a lower layer of an overlay
  lower_root : (n root : ℕ) (merged : Filesystem ℕ) → Among merged (overlays world)
      → is_lower_root nat_eq n root merged ≡ true
      → (layer : Layer ℕ) × Among layer (live_lowers nat_eq world) × (n ≡ layer.filesystem) × (root ≡ layer.directory)
  lower_root n root merged m e = by merged.overlay refl e
    where
      by : (o : Option (Overlay ℕ)) → merged.overlay ≡ o → overlay_or false (λ overlay. list_any
          (λ (layer : Layer ℕ). nat_eq n layer.filesystem && nat_eq root layer.directory) overlay.lowers) o ≡ true
          → (layer : Layer ℕ) × Among layer (live_lowers nat_eq world) × (n ≡ layer.filesystem)
          × (root ≡ layer.directory)
      by None f h = absurd (true≢false (sym h))
      by (Some overlay) f h =
          let at = any_among (λ (layer : Layer ℕ). nat_eq n layer.filesystem && nat_eq root layer.directory)
          overlay.lowers h in
          let both = and_parts (nat_eq n at.0.filesystem) (nat_eq root at.0.directory) at.2 in (
            at.0,
            among-flat_map (of_overlay [] (λ (o : Overlay ℕ). o.lowers)) (overlays world) merged at.0 m
                (subst (λ o. Among at.0 (overlay_or [] (λ (v : Overlay ℕ). v.lowers) o)) (sym f) at.1),
            eqb-true n at.0.filesystem both.0,
            eqb-true root at.0.directory both.1,
          )

  locked_root : (n : ℕ) → wholly_locked nat_eq world names n ≡ true
      → (layer : Layer ℕ) × Among layer (live_lowers nat_eq world) × (n ≡ layer.filesystem)
      × ((filesystem_numbered nat_eq world n).files.tree.root ≡ layer.directory)
  locked_root n locked = grind (arith, common_steps, any_among, and_parts, lower_root)

  -- Of a plain filesystem
  module _ (plain : there.overlay ≡ None) where
    plain_unused : is_used number ≡ false
    plain_unused = not_used number not_alone (λ locked.
        let whole = tree_of number (written_to change) node_there in
        none_is_some_overlay (copies_are_of_overlays world fresh task call permit
        (permits_are_for_their_calls fresh world task call permit judged) (location, change) asks
        (written_not_spared there.files change (spared.spares (written_to change)
        (all_locked world names number whole.tree whole.numbers locked (written_to change) node_there)))))
      where
        none_is_some_overlay : is_some there.overlay ≡ true → ⊥
        none_is_some_overlay is = true≢false (sym is ∙ ap is_some plain)

    keeps_below : KeepsBelow there.files (changed nat_eq there.files change) number (own_lowers nat_eq world names)
    keeps_below =
        let whole = tree_of number (written_to change) node_there in
        record {
          was = whole;
          is = record {
            tree = changes_keep_trees there.files change whole.tree proper;
            numbers = changes_keep_numbers there.files change whole.numbers;
            own_parents = changes_keep_own_parents there.files change whole.tree whole.own_parents proper;
          };
          root = root-changed there.files change;
          more = numbers_made change;
          numbers = numbers-changed there.files change;
          none = made_was_not_there world location change asked;
          tops = λ layer m at. lower_top layer (their_lower layer m) number at;
          stays = λ layer m at object under is. spared_stays there.files change object
              (spared.spares object (lower_locked layer (their_lower layer m) number object at under))
              (λ made. true≢false (sym is ∙ ap is_some (made_was_not_there world location change asked object made)));
        }

    pub plain_leaves : (base left : World ℕ) → base.filesystems ≡ world.filesystems
        → left ≡ record base { filesystems = (with_change nat_eq supply world location change).filesystems }
        → LeavesApart world base names [] → LeavesApart world left names (changed_at nat_eq world location)
    plain_leaves base left same left_is leaves =
        subst (LeavesApart world left names) (sym (ap (numbers_of_change nat_eq world there) plain))
        (stepping_leaves_apart world base left names set_apart _ (plain_step set_apart number
        (changed nat_eq there.files change) plain_unused (λ lower. keeps_below)) same
        (left_is ∙ ap (λ list. record base { filesystems = list }) (ap (λ o.
        (filesystem_changed nat_eq supply world there o change).filesystems) plain ∙ replaced_is_rewritten set_apart
        number (changed nat_eq there.files change))) (there.number ∷ []) (λ n m. unraised n m) leaves)
      where
        unraised : (n : ℕ) → Among n (used_filesystems nat_eq world names)
            → list_any (λ k. nat_eq k n) (there.number ∷ []) ≡ false
        unraised n m = ap (λ b. b || false) (false_from_ne_true (nat_eq there.number n) (λ e.
            true≢false (sym (is_among_numbers (used_filesystems nat_eq world names) n m)
            ∙ ap is_used (sym (sym (number_of_filesystem world number) ∙ eqb-true there.number n e)) ∙ plain_unused)))

  -- Of an overlay with an upper layer
  module _ (overlay : Overlay ℕ) (is : there.overlay ≡ Some overlay) where
    merged_there : Among there world.filesystems
    merged_there = found_among (λ (f : Filesystem ℕ). nat_eq number f.number) world.filesystems there
        (overlay_found world number overlay is)

    merged_overlay : Among there (overlays world)
    merged_overlay = among-filter is_overlay world.filesystems there merged_there (ap is_some is)

    -- it is in no lower layer
    no_lower_in : (layer : Layer ℕ) → is_plain_layer nat_eq world layer ≡ true → number ≡ layer.filesystem → ⊥
    no_lower_in layer plain e =
        true≢false (sym (and_parts (not (is_overlay (filesystem_numbered nat_eq world layer.filesystem))) _ plain).0
        ∙ ap (λ n. not (is_overlay (filesystem_numbered nat_eq world n))) (sym e) ∙ ap (λ o. not (is_some o)) is)

    live_plain : (layer : Layer ℕ) → Among layer (live_lowers nat_eq world) → is_plain_layer nat_eq world layer ≡ true
    live_plain layer m =
        search (arith, common_steps, among-from_flat_map, among_from_list_all, among-from_filter, among-append_right)

    merged_unused : is_used number ≡ false
    merged_unused = not_used number not_alone (λ locked.
        let root = locked_root number locked in no_lower_in root.0 (live_plain root.0 root.1) root.2)

    merged_no_lower : list_any (λ (layer : Layer ℕ). nat_eq number layer.filesystem) (own_lowers nat_eq world names)
        ≡ false
    merged_no_lower = false_from_ne_true _ (λ h.
        let at = any_among (λ (layer : Layer ℕ). nat_eq number layer.filesystem) (own_lowers nat_eq world names) h in
        no_lower_in at.0 (lower_plain at.0 (their_lower at.0 at.1)) (eqb-true number at.0.filesystem at.2))

    module _ (upper : Layer ℕ) (has : overlay.upper ≡ Some upper) where
      well : IsAskedWell (stack_of nat_eq world overlay upper) (merge_of nat_eq world there overlay upper) change
      well = permits_ask_overlays_well world fresh task call permit location change overlay upper outsider.is
          outsider.serves itself judged asks is has

      abbrev distinct : (j k : ℕ) → supply j ≡ supply k → j ≡ k
      distinct = (are_left world fresh outsider.is outsider.serves permit).0

      abbrev none_new : (filesystem k : ℕ)
          → (filesystem_numbered nat_eq world filesystem).files.tree.node (supply k) ≡ None
      none_new = (are_left world fresh outsider.is outsider.serves permit).1

      changes_merge : ChangesMerge supply world location change overlay upper
      changes_merge = changing supply world location change overlay upper outsider.is is has distinct none_new well

      abbrev merge : Merge ℕ
      merge =
          merge_changed nat_eq supply (stack_of nat_eq world overlay upper) (merge_of nat_eq world there overlay upper)
          change

      elsewhere : upper.filesystem ≢ number
      elsewhere = ApartLater.apart changes_merge

      upper_plain : is_plain_layer nat_eq world upper ≡ true
      upper_plain = ApartLater.upper_plain changes_merge

      upper_directory : is_some ((filesystem_numbered nat_eq world upper.filesystem).files.tree.node upper.directory)
          ≡ true
      upper_directory = directory_used (filesystem_numbered nat_eq world upper.filesystem).files.tree upper.directory
          (and_parts (not (is_overlay (filesystem_numbered nat_eq world upper.filesystem))) _ upper_plain).1

      has_layer : has_layer_on nat_eq upper.filesystem there ≡ true
      has_layer = grind (arith, common_steps, any_from_among, among-append_left, eq-eqb)

      -- others have a foothold on the overlay, and so on what it has a layer in
      upper_not_alone : used_alone nat_eq world names upper.filesystem ≡ true → ⊥
      upper_not_alone alone =
          let free = or_cases (not (has_layer_on nat_eq upper.filesystem there))
          (no_outsider_on nat_eq world names there.number)
          (among_from_list_all (λ merged. not (has_layer_on nat_eq upper.filesystem merged)
          || no_outsider_on nat_eq world names merged.number) (overlays world)
          (and_parts (no_outsider_on nat_eq world names upper.filesystem) _ alone).1 there merged_overlay) in
          grind (arith, common_steps, true≢false, has_layer, not-true, number_of_filesystem, on_it)

      -- the upper layer lies in no lower one
      upper_not_locked : wholly_locked nat_eq world names upper.filesystem ≡ true → ⊥
      upper_not_locked locked =
          let root = locked_root upper.filesystem locked in
          let reached = outsider.is.overlays.uppers_reached number overlay upper is has in
          ApartLater.clash changes_merge root.0 (inr root.1) upper.filesystem upper.directory upper_directory
          (ApartLater.lies_first changes_merge upper upper.filesystem upper.directory
          (ApartLater.led_lies changes_merge upper upper_plain upper.filesystem upper.directory refl ([], refl)))
          (ApartLater.lies_first changes_merge root.0 upper.filesystem upper.directory
          (ApartLater.led_lies changes_merge
          root.0 (live_plain root.0 root.1) upper.filesystem upper.directory root.2 (
            reached.0,
            subst (λ n. led (filesystem_numbered nat_eq world n).files.tree root.0.directory reached.0
                ≡ Some upper.directory) root.2
                (subst (λ d. led (filesystem_numbered nat_eq world upper.filesystem).files.tree d reached.0
                ≡ Some upper.directory) root.3 reached.1),
          )))

      upper_unused : is_used upper.filesystem ≡ false
      upper_unused = not_used upper.filesystem upper_not_alone upper_not_locked

      upper_keeps_below : KeepsBelow (filesystem_numbered nat_eq world upper.filesystem).files merge.upper
          upper.filesystem (own_lowers nat_eq world names)
      upper_keeps_below =
          let whole = tree_of upper.filesystem upper.directory upper_directory in
          let goes = ApartLater.goes changes_merge in
          let grows = merge_grows supply (stack_of nat_eq world overlay upper)
          (merge_of nat_eq world there overlay upper) change in
          record {
            was = whole;
            is = record {
              tree = goes.good.tree;
              numbers = goes.numbers whole.numbers;
              own_parents = goes.own_parents whole.own_parents;
            };
            root = grows.root;
            more = grows.more;
            numbers = grows.numbers;
            none = λ object m. let new = grows.are_new object m in
                ap (filesystem_numbered nat_eq world upper.filesystem).files.tree.node new.1
                ∙ none_new upper.filesystem new.0;
            tops = λ layer m at. lower_top layer (their_lower layer m) upper.filesystem at;
            stays = λ layer m at object under there_is.
                inode_stays changes_merge layer (inr (lower_live layer (their_lower layer m)))
                (sym (eqb-true upper.filesystem layer.filesystem at)) object there_is
                (lower_lies layer upper.filesystem object at under);
          }

      pub merged_leaves : (base left : World ℕ) → base.filesystems ≡ world.filesystems
          → left ≡ record base { filesystems = (with_change nat_eq supply world location change).filesystems }
          → LeavesApart world base names [] → LeavesApart world left names (changed_at nat_eq world location)
      merged_leaves base left same left_is leaves = subst (LeavesApart world left names)
          (sym (ap (numbers_of_change nat_eq world there) is ∙ ap (numbers_over nat_eq world there) has))
          (stepping_leaves_apart world base left names set_apart _ (merged_step set_apart number upper.filesystem merge
          merged_unused upper_unused merged_no_lower (λ lower. upper_keeps_below)) same
          (left_is ∙ ap (λ list. record base { filesystems = list }) (ap
          (λ o. (filesystem_changed nat_eq supply world there o change).filesystems) is ∙ ap
          (λ o. (overlay_changed nat_eq supply world there overlay o change).filesystems) has ∙ replaced_is_remerged
          set_apart number upper.filesystem overlay merge elsewhere is))
          (there.number ∷ (filesystem_numbered nat_eq world upper.filesystem).number ∷ []) unraised leaves)
        where
          differs : (k n : ℕ) → is_used k ≡ false → Among n (used_filesystems nat_eq world names)
              → nat_eq (filesystem_numbered nat_eq world k).number n ≡ false
          differs k n unused m = false_from_ne_true (nat_eq (filesystem_numbered nat_eq world k).number n) (λ e.
              true≢false (sym (is_among_numbers (used_filesystems nat_eq world names) n m)
              ∙ ap is_used (sym (sym (number_of_filesystem world k)
              ∙ eqb-true (filesystem_numbered nat_eq world k).number n e)) ∙ unused))

          unraised : (n : ℕ) → Among n (used_filesystems nat_eq world names) → list_any (λ k. nat_eq k n)
              (there.number ∷ (filesystem_numbered nat_eq world upper.filesystem).number ∷ []) ≡ false
          unraised n m = ap (λ b. b || (nat_eq (filesystem_numbered nat_eq world upper.filesystem).number n || false))
              (differs number n merged_unused m) ∙ ap (λ b. b || false) (differs upper.filesystem n upper_unused m)

  -- What others change they do not use.
  pub changed_is_unused : is_used number ≡ false
  changed_is_unused = grind (arith, common_steps, plain_unused, merged_unused)

  pub upper_is_unused : (overlay : Overlay ℕ) → there.overlay ≡ Some overlay → (upper : Layer ℕ)
      → overlay.upper ≡ Some upper → is_used upper.filesystem ≡ false
  upper_is_unused = upper_unused

  -- All of them: without an upper layer nothing is changed.
  pub changed_files_leave : (base left : World ℕ) → base.filesystems ≡ world.filesystems
      → left ≡ record base { filesystems = (with_change nat_eq supply world location change).filesystems }
      → LeavesApart world base names [] → LeavesApart world left names (changed_at nat_eq world location)
  changed_files_leave base left same left_is leaves = elim (cases_Option there.overlay) [
    | inl plain ↦ plain_leaves plain base left same left_is leaves
    | inr its ↦ over its.0 its.1 its.0.upper refl
  ]
    where
      over : (overlay : Overlay ℕ) → there.overlay ≡ Some overlay → (upper : Option (Layer ℕ)) → overlay.upper ≡ upper
          → LeavesApart world left names (changed_at nat_eq world location)
      over overlay is None has = grind (arith, common_steps)
      over overlay is (Some upper) has = merged_leaves overlay is upper has base left same left_is leaves
