-- A directory of an overlay is at one path, and going up by parents takes its names off, from the last on.
use Rattle.std.proofs.Common.{◌≡◌, ◌≢◌, ◌∙◌, ◌<◌, ◌≤◌, ◌+◌, ◌++◌, ◌∷◌, ◌||◌, [], arith, ap, Bool, eq-eqb, eqb-true, false, get_or, length, length-append, List, nat_eq, None, not, Option, option_map, refl, Some, subst, suc, sym, true, true≢false, zero, ℕ, slice_get, append-nil, Contains, filter_map, flat_map, if◌then◌else◌, is_some, unwrap_or}
use Rattle.vt_spec.proofs.Common.{IsDirectory, Node, OpenLayer, Shown, Tree, chain, cons_option, entries_in, entry_to, filter_map-append, has_entry_to, is_among, is_directory_node, is_directory_under, is_empty_list, is_removed, is_root_path, led, named_parent, names_in, names_shown, node_at_path, node_shown, none_is_some, parent_in, paths_from, same_Some, shown, slice_get-map, slice_get_within, targets_in, then_some, when, without_last, or_right, or-false, common_steps}
use Rattle.vt_laws_trees.proofs.layers.layers.ShownDirectories.{AreOpen, append_assoc, last_of, shown_in_directory}
use Rattle.vt_laws_trees.proofs.layers.layers.ShownAtPath.{computed}
use Rattle.vt_laws_trees.proofs.layers.layers.ShownNames.{names_are_those_shown}
use Rattle.vt_laws_trees.proofs.layers.layers.ShownObjects.{shown_before}
use Rattle.vt_laws_trees.proofs.layers.layers.ShownPaths.{length_longer, not_empty, one_path}
use Rattle.vt_laws_trees.proofs.layers.layers.UpperShown.{without_last_of_longer}
use Rattle.vt_location.proofs.NumberLemmas.{exchanged_back}
use Rattle.vt_location.specs.declared.births.Birth.TheVariants.{Below, Here}
use Rattle.vt_location.specs.declared.locations.NodeRef.{NodeRef}
use Rattle.vt_location.specs.Locations.{inode_of, number_of}
use Rattle.vt_location.specs.Numbers.{exchanged}
use Rattle.vt_fs.specs.FilesystemsValue.{Filesystems, files_at}
use Rattle.vt_overlay.specs.Merge.LayerValue.{layer_of}
use Rattle.vt_overlay.specs.declared.merge.layers.LayerRef.{LayerRef}
use Rattle.vt_overlay.specs.MergedTree.{AreLayers, IsLayer, OverlayValue, directory_path, longest, merged_files, merged_tree, node_born, number_at, numbers_shown, only_of_directory, overlay_seen, path_at, plain_world, rank_at, slot_at}
use Rattle.vt_overlay.proofs.BirthsFound.{Birthplace, IsBorn, has_last, in_slot, is_born}
use Rattle.vt_overlay.proofs.DirectoriesSeen.{entry_of, no_directory_at, parent_of, filled}
use Rattle.vt_overlay.proofs.RootFound.{is_root, no_name}
use Rattle.vt_overlay.proofs.TreeFound.{IsAt, bounded, directory_shown, found_is, found_is_at, in_layer, layers, layers_are, node_there, number_is_shown, number_of_shown, numbered_is_at, open_layers}

when_some : {A : Type 0} (b : Bool) (a m : A) → Some m ≡ when b a → a ≡ m
when_some b a m e = grind (arith, common_steps)

-- what is no directory is its own parent, and leads nowhere
own_parent : (own : ℕ) (node : Option (Node ℕ)) → is_directory_node node ≡ false → parent_in own node ≡ own
own_parent own object isnt = grind (arith, common_steps)

no_targets : (node : Option (Node ℕ)) → is_directory_node node ≡ false → targets_in node ≡ []
no_targets object isnt = grind (arith, common_steps)

module _ (trees : Filesystems) (overlay : OverlayValue) (are : AreLayers trees overlay.lowers)
    (few : length overlay.lowers ≤ 129) where
  abbrev tree : Tree ℕ
  tree = merged_tree trees overlay

  -- a directory is at no other path
  module _ (number : ℕ) (path : List (List ℕ)) (at : IsAt trees overlay are path number)
      (directory : is_directory_node (node_at_path (layer_of trees at.lower) path) ≡ true) where
    abbrev files : Tree ℕ
    files = (files_at trees at.lower.directory.filesystem.count).tree

    abbrev slot : ℕ
    slot = slot_at trees at.lower path

    layer_is : IsLayer trees at.lower
    layer_is = are at.place at.lower at.layer

    at_slot : (slot < 18446744073709551616) × (slot ≡ exchanged at.lower.directory.filesystem.count at.object)
    at_slot = in_slot trees at.lower layer_is path at.object at.leads

    is_directory : IsDirectory files at.object
    is_directory = sym (ap (λ o. is_directory_node (then_some o files.node)) at.leads) ∙ directory

    object_is : exchanged at.lower.directory.filesystem.count slot ≡ at.object
    object_is = cc (at_slot.1, exchanged_back at.lower.directory.filesystem.count at.object)

    birthplace : is_root_path path ≡ false → Birthplace trees overlay
    birthplace named =
        let last = has_last trees at.lower layer_is path at.object named at.leads in
        let within = slice_get_within overlay.lowers at.place at.lower at.layer in
        record {
          are = are;
          few = few;
          place = at.place;
          directory = slot_at trees at.lower (without_last path);
          rank = rank_at trees at.lower path;
          slot = slot;
          place_small = omega (arith, within, few);
          directory_small = (in_slot trees at.lower layer_is (without_last path) last.directory last.leads).0;
          slot_small = at_slot.0;
        }

    born_there : (other : List (List ℕ)) (named : is_root_path path ≡ false) (lower : LayerRef)
        → IsBorn trees overlay (birthplace named) other lower → other ≡ path
    unfolding birthplace
    born_there other named lower born =
        let same : lower ≡ at.lower = same_Some lower at.lower (sym born.layer ∙ at.layer) in
        one_path files layer_is.tree (inode_of at.lower.directory) other path at.object
        (subst (λ (l : LayerRef). led (files_at trees l.directory.filesystem.count).tree (inode_of l.directory) other
        ≡ Some (exchanged l.directory.filesystem.count slot)) same born.leads ∙ ap Some object_is) at.leads is_directory

    no_other : (other : List (List ℕ)) → IsAt trees overlay are other number → other ≡ path
    unfolding birthplace
    no_other other also = by (is_root_path path) refl
      where
        numbered : (b : Bool) → is_root_path path ≡ b → number_of (record {
          filesystem = overlay.number;
          slot = slot;
          birth = if b then Here
              else Below at.place (slot_at trees at.lower (without_last path)) (rank_at trees at.lower path);
        }) ≡ number
        numbered b e = ap (λ b. number_of (record {
          filesystem = overlay.number;
          slot = slot;
          birth = if b then Here
              else Below at.place (slot_at trees at.lower (without_last path)) (rank_at trees at.lower path);
        })) (sym e) ∙ at.numbered

        by : (b : Bool) → is_root_path path ≡ b → other ≡ path
        by true e = (is_root trees overlay are few slot at_slot.0 other
            (subst (IsAt trees overlay are other) (sym (numbered true e)) also)).nameless ∙ sym (no_name path e)
        by false e =
            let there = subst (IsAt trees overlay are other) (sym (numbered false e)) also in
            born_there other e there.lower (is_born trees overlay (birthplace e) other there)

    pub is_path : directory_path trees overlay number ≡ Some path
    is_path = ap (only_of_directory trees overlay) (found_is trees overlay are number path at no_other)
        ∙ directory_shown trees overlay are number path at directory

  -- the directory above what is shown
  pub record IsAbove (path : List (List ℕ)) (number : ℕ) : Type 0 where
    pub numbered : number_at trees overlay path ≡ Some number
    pub is : directory_path trees overlay number ≡ Some path

  above_shown : (path : List (List ℕ)) (name : List ℕ) (seen : Shown ℕ)
      → shown (layers trees overlay are) (path ++ name ∷ []) ≡ Some seen → (number : ℕ) × IsAbove path number
  above_shown path name seen e =
      let d = shown_in_directory (layers trees overlay are) (open_layers trees overlay are) 0 path name seen e in
      let there : Shown ℕ = record { layer = 0 + d.place; object = d.object } in
      let in_it = in_layer trees overlay are path there d.is in
      let place : 0 + d.place ≡ d.place = omega arith in
      let layer : layer_of trees in_it.0 ≡ d.layer = same_Some (layer_of trees in_it.0) d.layer
      (sym (slice_get-map (layer_of trees) overlay.lowers (0 + d.place) ∙ ap (option_map (layer_of trees)) in_it.1)
      ∙ ap (slice_get (layers trees overlay are)) place ∙ d.there) in
      let number = number_of (node_born trees overlay.number (0 + d.place) in_it.0 path) in
      let at : IsAt trees overlay are path number = record {
        place = 0 + d.place;
        object = d.object;
        lower = in_it.0;
        layer = in_it.1;
        is = d.is;
        leads = in_it.2;
        numbered = refl;
      } in
      let directory : is_directory_node (node_at_path (layer_of trees in_it.0) path) ≡ true =
      ap (λ (l : OpenLayer ℕ). is_directory_node (node_at_path l path)) layer
      ∙ ap (λ o. is_directory_node (then_some o d.layer.tree.node)) d.at ∙ d.directory in (
        number,
        record {
          numbered = number_of_shown trees overlay are path there in_it.0 d.is in_it.1;
          is = is_path number path at directory;
        },
      )

  -- a directory at a path
  pub record IsThere (number : ℕ) (path : List (List ℕ)) : Type 0 where
    pub numbered : number_at trees overlay path ≡ Some number
    pub at : IsAt trees overlay are path number
    pub directory : is_directory_node (node_at_path (layer_of trees at.lower) path) ≡ true

  pub is_there : (number : ℕ) (path : List (List ℕ)) → directory_path trees overlay number ≡ Some path
      → IsThere number path
  is_there number path e = by (path_at trees overlay number) refl e
    where
      shows_directory : List (List ℕ) → Bool
      shows_directory other = is_directory_node (node_shown nat_eq (plain_world trees) (overlay_seen overlay) other)

      found : (other : List (List ℕ)) → path_at trees overlay number ≡ Some other → other ≡ path
          → shows_directory other ≡ true → IsThere number path
      found other p same d =
          let at = found_is_at trees overlay are number path (p ∙ ap Some same) in
          record {
            numbered = number_of_shown trees overlay are path (record { layer = at.place; object = at.object }) at.lower
                at.is at.layer ∙ ap Some at.numbered;
            at = at;
            directory = ap is_directory_node (sym (node_there trees overlay are number path at))
                ∙ ap shows_directory (sym same) ∙ d;
          }

      there : (other : List (List ℕ)) → path_at trees overlay number ≡ Some other → (b : Bool)
          → shows_directory other ≡ b → (if b then Some other else None) ≡ Some path → IsThere number path
      there other p true d e = found other p (same_Some other path e) d
      there other p false d e = none_is_some path e

      by : (o : Option (List (List ℕ))) → path_at trees overlay number ≡ o
          → only_of_directory trees overlay o ≡ Some path → IsThere number path
      by None p e = none_is_some path e
      by (Some other) p e = there other p (shows_directory other) refl e

  -- and nothing else leads to it
  pub one_way : (number : ℕ) (path other : List (List ℕ)) → directory_path trees overlay number ≡ Some path
      → number_at trees overlay other ≡ Some number → other ≡ path
  one_way number path other e also =
      let here = is_there number path e in
      no_other number path here.at here.directory other (numbered_is_at trees overlay are number other also)

  -- two directories at one path are one
  pub one_number : (a b : ℕ) (path : List (List ℕ)) → directory_path trees overlay a ≡ Some path
      → directory_path trees overlay b ≡ Some path → a ≡ b
  one_number a b path e f = same_Some a b (sym (is_there a path e).numbered ∙ (is_there b path f).numbered)

  root_is : (number : ℕ) → number_at trees overlay [] ≡ Some number → tree.root ≡ number
  root_is number e = ap (λ o. unwrap_or o 0) e

  pub root_path : (number : ℕ) → number_at trees overlay [] ≡ Some number
      → directory_path trees overlay number ≡ Some []
  root_path number e =
      let at = numbered_is_at trees overlay are number [] e in
      is_path number [] at (are at.place at.lower at.layer).directory

  pub at_root : (number : ℕ) → directory_path trees overlay number ≡ Some [] → nat_eq number tree.root ≡ true
  at_root number e = eq-eqb number tree.root (sym (root_is number (is_there number [] e).numbered))

  -- the root is at the path without names
  root_there : (path : List (List ℕ)) (seen : Shown ℕ) → shown (layers trees overlay are) path ≡ Some seen
      → number_at trees overlay [] ≡ Some tree.root
  root_there path seen e = filled (number_at trees overlay [])
      (number_is_shown trees overlay are [] ∙ ap (λ ls. is_some (shown ls [])) (layers_are trees overlay are)
      ∙ shown_before (layers trees overlay are) (open_layers trees overlay are) [] path seen e)

  pub record GoesUp (number : ℕ) (path : List (List ℕ)) : Type 0 where
    pub above : ℕ
    pub is : directory_path trees overlay above ≡ Some path
    pub parent : named_parent nat_eq tree number ≡ Some above
    pub parent_is : parent_in number (tree.node number) ≡ above
    pub other_root : nat_eq number tree.root ≡ false

  pub goes_up : (number : ℕ) (path : List (List ℕ)) (name : List ℕ)
      → directory_path trees overlay number ≡ Some (path ++ name ∷ []) → GoesUp number path
  goes_up number path name e =
      let here = is_there number (path ++ name ∷ []) e in
      let seen : Shown ℕ = record { layer = here.at.place; object = here.at.object } in
      let up = above_shown path name seen here.at.is in
      let parent : parent_in number (tree.node number) ≡ up.0 =
      when_some (is_directory_node (tree.node number)) (parent_in number (tree.node number)) up.0
      (sym up.1.numbered ∙ ap (number_at trees overlay) (sym (without_last_of_longer path name))
      ∙ parent_of trees overlay are number (path ++ name ∷ []) (sym e)) in
      let has : has_entry_to nat_eq tree up.0 number ≡ true =
      entry_to tree up.0 name number (sym (entry_of trees overlay are up.0 path (sym up.1.is) name) ∙ here.numbered) in
      let apart = not_root (nat_eq number tree.root) refl (root_there (path ++ name ∷ []) seen here.at.is) in
      record {
        above = up.0;
        is = up.1.is;
        parent = ap (λ b. if b then None
            else when (has_entry_to nat_eq tree (parent_in number (tree.node number)) number)
            (parent_in number (tree.node number))) apart
            ∙ (λ i. when (has_entry_to nat_eq tree (parent i) number) (parent i)) ∙ ap (λ b. when b up.0) has;
        parent_is = parent;
        other_root = apart;
      }
    where
      not_root : (b : Bool) → nat_eq number tree.root ≡ b → number_at trees overlay [] ≡ Some tree.root
          → nat_eq number tree.root ≡ false
      not_root b t root = grind (arith, common_steps)

  -- what is no directory has none above it
  pub none_above : (number : ℕ) → directory_path trees overlay number ≡ None → named_parent nat_eq tree number ≡ None
  none_above number e = by (nat_eq number tree.root)
    where
      isnt : is_directory_node (tree.node number) ≡ false
      isnt = no_directory_at trees overlay are number (sym e)

      nowhere : has_entry_to nat_eq tree (parent_in number (tree.node number)) number ≡ false
      nowhere = ap (λ above. has_entry_to nat_eq tree above number) (own_parent number (tree.node number) isnt)
          ∙ ap (λ targets. is_among nat_eq number targets) (no_targets (tree.node number) isnt)

      by : (b : Bool) → (if b then None
          else when (has_entry_to nat_eq tree (parent_in number (tree.node number)) number)
          (parent_in number (tree.node number))) ≡ None
      by b = grind (arith, common_steps, nowhere)

  pub root_above : (number : ℕ) → nat_eq number tree.root ≡ true → named_parent nat_eq tree number ≡ None
  root_above number e = cc

  abbrev up : ℕ → Option ℕ
  up = named_parent nat_eq tree

  -- going up begins with the directory itself
  from_itself : (top number fuel : ℕ) → nat_eq top number ≡ true → is_among nat_eq top (chain fuel up number) ≡ true
  from_itself top number zero e = ap (λ b. b || false) e
  from_itself top number (suc fuel) e = grind (arith, common_steps)

  -- and where nothing is above it, ends there
  pub alone : (top number fuel : ℕ) → up number ≡ None → is_among nat_eq top (chain fuel up number) ≡ nat_eq top number
  alone top number zero none = or-false (nat_eq top number)
  alone top number (suc fuel) none = cc (or-false (nat_eq top number))

  one_more : (top number above fuel : ℕ) → up number ≡ Some above
      → is_among nat_eq top (chain (suc fuel) up number) ≡
      (nat_eq top number || is_among nat_eq top (chain fuel up above))
  one_more top number above fuel some = cc

  -- each directory at a front of its path is met
  pub meets : (fuel top number : ℕ) (path rest : List (List ℕ)) → directory_path trees overlay top ≡ Some path
      → directory_path trees overlay number ≡ Some (path ++ rest) → length rest ≤ fuel
      → is_among nat_eq top (chain fuel up number) ≡ true
  meets fuel top number path [] top_is is enough = grind (arith, common_steps, from_itself, eq-eqb, one_number)
  meets zero top number path (name ∷ rest) top_is is enough = absurd (let no : ⊥ = omega (arith, enough) in no)
  meets (suc fuel) top number path (name ∷ rest) top_is is enough =
      let last = last_of (name ∷ rest) (not_empty name rest) in
      let shorter = length_longer last.0 last.1 in
      let length_is : length (last.0 ++ last.1 ∷ []) ≡ length (name ∷ rest) = ap length last.2 in
      let above = goes_up number (path ++ last.0) last.1
      (is ∙ ap (λ r. Some (path ++ r)) (sym last.2) ∙ ap Some (sym (append_assoc path last.0 (last.1 ∷ [])))) in
      one_more top number above.above fuel above.parent
      ∙ or_right (nat_eq top number) (is_among nat_eq top (chain fuel up above.above))
      (meets fuel top above.above path last.0 top_is above.is (omega (arith, length_is, shorter, enough)))

  -- and no others
  pub record IsMet (top : ℕ) (path : List (List ℕ)) : Type 0 where
    pub front : List (List ℕ)
    pub rest : List (List ℕ)
    pub is : directory_path trees overlay top ≡ Some front
    pub split : front ++ rest ≡ path

  itself_met : (top number : ℕ) (path : List (List ℕ)) → directory_path trees overlay number ≡ Some path
      → nat_eq top number ≡ true → IsMet top path
  itself_met top number path is same = record {
    front = path;
    rest = [];
    is = ap (directory_path trees overlay) (eqb-true top number same) ∙ is;
    split = append-nil path;
  }

  further : (top : ℕ) (path : List (List ℕ)) (name : List ℕ) → IsMet top path → IsMet top (path ++ name ∷ [])
  further top path name met = record {
    front = met.front;
    rest = met.rest ++ name ∷ [];
    is = met.is;
    split = sym (append_assoc met.front met.rest (name ∷ [])) ∙ ap (λ p. p ++ name ∷ []) met.split;
  }

  pub is_met : (fuel top number : ℕ) (path : List (List ℕ)) → directory_path trees overlay number ≡ Some path
      → is_among nat_eq top (chain fuel up number) ≡ true → IsMet top path
  is_met zero top number path is among = itself_met top number path is (sym (or-false (nat_eq top number)) ∙ among)
  is_met (suc fuel) top number [] is among = itself_met top number [] is
      (sym (alone top number (suc fuel) (root_above number (at_root number is))) ∙ among)
  is_met (suc fuel) top number (name ∷ path) is among =
      let last = last_of (name ∷ path) (not_empty name path) in
      let whole : directory_path trees overlay number ≡ Some (last.0 ++ last.1 ∷ []) = is ∙ ap Some (sym last.2) in
      let above = goes_up number last.0 last.1 whole in
      subst (IsMet top) last.2
      (by (nat_eq top number) refl (last.0 ++ last.1 ∷ []) whole (is_among nat_eq top (chain fuel up above.above))
      (sym (one_more top number above.above fuel above.parent) ∙ among)
      (λ later. further top last.0 last.1 (is_met fuel top above.above last.0 above.is later)))
    where
      by : (b : Bool) → nat_eq top number ≡ b → (whole : List (List ℕ))
          → directory_path trees overlay number ≡ Some whole
          → (later : Bool) → (b || later) ≡ true → (later ≡ true → IsMet top whole) → IsMet top whole
      by true e whole is later among rest = itself_met top number whole is e
      by false e whole is later among rest = rest among

-- A path is no longer than there are numbers, since each of its fronts has one.
module _ (layers : List (OpenLayer ℕ)) (are_open : AreOpen layers) (number : List (List ℕ) → Option ℕ)
    (numbered : (path : List (List ℕ)) → is_some (number path) ≡ is_some (shown layers path)) where
  more : (o : Option ℕ) (numbers : List ℕ) → is_some o ≡ true → length (cons_option o numbers) ≡ suc (length numbers)
  more o numbers some = grind (arith, common_steps)

  one_of : (g : List ℕ → List (List (List ℕ))) (names : List (List ℕ)) (name : List ℕ) (k : ℕ) → k < length names
      → get_or names k name ≡ name → length (filter_map number (g name)) ≤ length (filter_map number (flat_map g names))
  one_of g [] name k near is = absurd (let no : ⊥ = omega (arith, near) in no)
  one_of g (first ∷ names) name zero near is = grind (arith, common_steps, filter_map-append, length-append)
  one_of g (first ∷ names) name (suc k) near is =
      let appended = ap length (filter_map-append number (g first) (flat_map g names))
      ∙ length-append (filter_map number (g first)) (filter_map number (flat_map g names)) in
      let rest = one_of g names name k (omega (arith, near)) is in
      omega (arith, appended, rest)

  is_more : (base rest : List (List ℕ)) (seen : Shown ℕ) → shown layers (base ++ rest) ≡ Some seen
      → (numbers : List ℕ) → length (cons_option (number base) numbers) ≡ suc (length numbers)
  is_more base rest seen e numbers = grind (arith, common_steps, more, numbered, shown_before)

  pub no_deeper : (depth : ℕ) (base rest : List (List ℕ)) (seen : Shown ℕ) → length rest ≤ depth
      → shown layers (base ++ rest) ≡ Some seen
      → suc (length rest) ≤ length (filter_map number (paths_from depth layers base))
  no_deeper zero base [] seen enough e = let one = is_more base [] seen e [] in omega (arith, one)
  no_deeper (suc depth) base [] seen enough e = grind (arith, common_steps)
  no_deeper zero base (name ∷ rest) seen enough e = absurd (let no : ⊥ = omega (arith, enough) in no)
  no_deeper (suc depth) base (name ∷ rest) seen enough e =
      let step = ap (shown layers) (append_assoc base (name ∷ []) rest) ∙ e in
      let one = is_more base (name ∷ rest) seen e (filter_map number
      (flat_map (λ n. paths_from depth layers (base ++ n ∷ [])) (names_shown layers base))) in
      let further = no_deeper depth (base ++ name ∷ []) rest seen (omega (arith, enough)) step in
      let has = by (shown layers (base ++ name ∷ [])) refl
      (shown_before layers are_open (base ++ name ∷ []) rest seen step) in
      let among = one_of (λ n. paths_from depth layers (base ++ n ∷ []))
      (names_shown layers base) name has.0 has.1 has.2
      in omega (arith, one, further, among)
    where
      by : (o : Option (Shown ℕ)) → shown layers (base ++ name ∷ []) ≡ o → is_some o ≡ true
          → Contains (names_shown layers base) name
      by None s some = absurd (true≢false (sym some))
      by (Some next) s some =
          (names_are_those_shown layers base name).1 (next, (computed layers (base ++ name ∷ []) next).0 s)

module _ (trees : Filesystems) (overlay : OverlayValue) (are : AreLayers trees overlay.lowers)
    (few : length overlay.lowers ≤ 129) where
  pub deep : (number : ℕ) (path : List (List ℕ)) → directory_path trees overlay number ≡ Some path
      → length path ≤ length (numbers_shown trees overlay)
  deep number path e =
      let here = (is_there trees overlay are few number path e).at in
      let seen : Shown ℕ = record { layer = here.place; object = here.object } in
      let most = bounded trees overlay are path seen here.is in
      let within = subst (λ ls. suc (length path)
      ≤ length (filter_map (number_at trees overlay) (paths_from (longest trees overlay.lowers) ls [])))
      (sym (layers_are trees overlay are))
      (no_deeper (layers trees overlay are) (open_layers trees overlay are) (number_at trees overlay)
      (λ path. number_is_shown trees overlay are path
      ∙ ap (λ ls. is_some (shown ls path)) (layers_are trees overlay are))
      (longest trees overlay.lowers) [] path seen most here.is) in
      omega (arith, within)

  abbrev is_under : ℕ → ℕ → Bool
  is_under top number = is_directory_under nat_eq (merged_files trees overlay) top number

  pub under_by_ways : (top number : ℕ) (front path : List (List ℕ))
      → directory_path trees overlay top ≡ Some front → directory_path trees overlay number ≡ Some path
      → (begins : Bool) → (begins ≡ true → (rest : List (List ℕ)) × (front ++ rest ≡ path))
      → (begins ≡ false → (rest : List (List ℕ)) → front ++ rest ≢ path) → begins ≡ is_under top number
  under_by_ways top number front path top_is is true so never =
      let it = so refl in
      let deep_is = deep number path is in
      let whole = ap length (sym it.1) ∙ length-append front it.0 in
      sym (meets trees overlay are few (length (numbers_shown trees overlay)) top number front it.0 top_is
      (is ∙ ap Some (sym it.1)) (omega (arith, deep_is, whole)))
  under_by_ways top number front path top_is is false so never = by (is_under top number) refl
    where
      by : (b : Bool) → is_under top number ≡ b → false ≡ is_under top number
      by false e = sym e
      by true e =
          let met = is_met trees overlay are few (length (numbers_shown trees overlay)) top number path is e in
          absurd (never refl met.rest
          (ap (λ f. f ++ met.rest) (same_Some front met.front (sym top_is ∙ met.is)) ∙ met.split))

  pub under_no_directory : (top number : ℕ) → directory_path trees overlay number ≡ None
      → nat_eq top number ≡ is_under top number
  under_no_directory top number none = grind (arith, common_steps, alone, none_above)

  pub under_no_top : (top number : ℕ) (path : List (List ℕ)) → directory_path trees overlay top ≡ None
      → directory_path trees overlay number ≡ Some path → nat_eq top number ≡ is_under top number
  under_no_top top number path none is = apart (nat_eq top number) refl ∙ by (is_under top number) refl
    where
      apart : (b : Bool) → nat_eq top number ≡ b → nat_eq top number ≡ false
      apart b e = grind (arith, common_steps)

      by : (b : Bool) → is_under top number ≡ b → false ≡ is_under top number
      by false e = sym e
      by true e =
          let met = is_met trees overlay are few (length (numbers_shown trees overlay)) top number path is e in
          none_is_some met.front (sym none ∙ met.is)

  -- A directory that is shown is not removed.
  pub not_removed : (number : ℕ) (path : List (List ℕ)) → directory_path trees overlay number ≡ Some path
      → false ≡ is_removed nat_eq (merged_tree trees overlay) number
  not_removed number [] is = cc (at_root trees overlay are few number is)
  not_removed number (name ∷ path) is =
      let last = last_of (name ∷ path) (not_empty name path) in
      let above = goes_up trees overlay are few number last.0 last.1 (is ∙ ap Some (sym last.2)) in
      sym (ap not (or_right (nat_eq number (merged_tree trees overlay).root)
      (is_some (named_parent nat_eq (merged_tree trees overlay) number)) (ap is_some above.parent)))

  pub removed : (number : ℕ) → (number ≡ 0 → ⊥) → directory_path trees overlay number ≡ None
      → true ≡ is_removed nat_eq (merged_tree trees overlay) number
  removed number some none =
      sym (λ i. not (apart (nat_eq number (merged_tree trees overlay).root) refl (number_at trees overlay []) refl i
      || is_some (none_above trees overlay are few number none i)))
    where
      apart : (b : Bool) → nat_eq number (merged_tree trees overlay).root ≡ b
          → (o : Option ℕ) → number_at trees overlay [] ≡ o → nat_eq number (merged_tree trees overlay).root ≡ false
      apart false e o root = e
      apart true e None root = grind (arith, common_steps)
      apart true e (Some r) root =
          let same : number ≡ r = eqb-true number (merged_tree trees overlay).root e ∙ ap (λ o. unwrap_or o 0) root in
          none_is_some [] (sym none ∙ root_path trees overlay are few number (root ∙ ap Some (sym same)))

-- numbers of nodes begin above 0
pub some_number : (node : NodeRef) → number_of node ≡ 0 → ⊥
some_number node none = let no : ⊥ = omega (arith, none) in no

pub no_entries : (node : Option (Node ℕ)) → is_empty_list (names_in node) ≡ is_empty_list (entries_in node)
no_entries object = grind (arith, common_steps)
