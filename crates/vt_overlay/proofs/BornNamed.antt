-- A node that was born below is at one path: the way to the directory in which it was born, and the name of its rank.
use Rattle.std.proofs.Common.{◌≡◌, ◌≢◌, ◌∙◌, ◌∷◌, ◌++◌, [], ap, Bool, eqb-true, false, length, List, nat_eq, None, Option, option_and_then, refl, Some, subst, sym, true, true≢false, ℕ, slice_get, is_eq, is_lt, Ordering, filter, find, if◌then◌else◌, unwrap_or, arith}
use Rattle.vt_spec.proofs.Common.{IsDirectory, IsTree, Node, Shown, Tree, and_true_left, and_true_right, entries_in, entries_of, entry_at, entry_named, found_passes, is_directory_node, last_or, led, name_cmp, nat_list_cmp_total, none_is_some, same_Some, shown, then_some, tied_itself, without_last, common_steps}
use Rattle.vt_laws_trees.proofs.layers.layers.ShownNames.{last_name}
use Rattle.vt_laws_trees.proofs.layers.layers.ShownPaths.{last_of_longer, one_path, root_of_longer}
use Rattle.vt_laws_trees.proofs.layers.layers.UpperLine.{has_entries}
use Rattle.vt_laws_trees.proofs.layers.layers.UpperShown.{without_last_of_longer}
use Rattle.vt_location.proofs.NumberLemmas.{exchanged_back, exchanged_slot}
use Rattle.vt_location.specs.declared.locations.InodeRef.{InodeRef}
use Rattle.vt_location.specs.declared.births.Birth.TheVariants.{Below, Here}
use Rattle.vt_location.specs.Locations.{inode_of, number_of}
use Rattle.vt_location.specs.Numbers.{exchanged}
use Rattle.vt_fs.specs.FilesystemsValue.{Filesystems, files_at, node_seen}
use Rattle.vt_overlay.specs.declared.merge.layers.LayerRef.{LayerRef}
use Rattle.vt_node.proofs.RankLemmas.{before, found_is_there, ranked_is_found, ranked_is_there}
use Rattle.vt_node.specs.Ranks.{name_ranked, rank_among}
use Rattle.vt_overlay.specs.MergedTree.{IsLayer, OverlayValue, birth_at, born_below, node_born, object_shown, rank_at, slot_at}
use Rattle.vt_overlay.proofs.BirthsFound.{Birthplace, IsBorn, has_last, in_slot, is_born}
use Rattle.vt_overlay.proofs.RanksSeen.{ranked_seen}
use Rattle.vt_overlay.proofs.TreeFound.{IsAt, found_at, found_is, found_is_at, in_layer, layers}

pub none_counts : {X : Type 0} (p : X → Bool) (xs : List X) → find p xs ≡ None → length (filter p xs) ≡ 0
none_counts p [] none = refl
none_counts {X} p (x ∷ xs) none = grind (arith, common_steps, none_counts p xs, p x)

not_before_itself : (o : Ordering) → is_eq o ≡ true → is_lt o ≡ true → ⊥
not_before_itself o equal less = grind (arith, common_steps)

-- to a directory leads one name, whose rank is 0
alone_rank : (tree : Tree ℕ) (directory object : ℕ) (name : List ℕ) → IsTree tree → IsDirectory tree object
    → entry_at tree directory name ≡ Some object → rank_among (entries_in (tree.node directory)) name object ≡ 0
alone_rank tree directory object name is object_is entry =
    by (find (before object name) (entries_in (tree.node directory))) refl
  where
    by : (o : Option (List ℕ × ℕ)) → find (before object name) (entries_in (tree.node directory)) ≡ o
        → rank_among (entries_in (tree.node directory)) name object ≡ 0
    by None e = none_counts (before object name) (entries_in (tree.node directory)) e
    by (Some other) e =
        let both = found_passes (before object name) (entries_in (tree.node directory)) other e in
        let there = found_is_there (before object name) (entries_in (tree.node directory)) other (is.in_order directory)
        e in
        let leads : object ≡ other.1 = eqb-true object other.1 (and_true_left (nat_eq object other.1) _ both) in
        let same = is.one_name directory other.0 name object (there ∙ ap Some (sym leads)) entry object_is in
        absurd (not_before_itself (name_cmp name name) (ap is_eq (tied_itself nat_list_cmp_total name))
        (ap (λ n. is_lt (name_cmp n name)) (sym same) ∙ and_true_right (nat_eq object other.1) _ both))

module _ (trees : Filesystems) (overlay : OverlayValue) (b : Birthplace trees overlay) where
  abbrev pub number : ℕ
  number = number_of (born_below overlay.number b.place b.directory b.rank b.slot)

  abbrev Born : List (List ℕ) → LayerRef → Type 0
  Born = IsBorn trees overlay b

  born : (path : List (List ℕ)) (at : IsAt trees overlay b.are path number) → Born path at.lower
  born = is_born trees overlay b

  -- where it is at no path, it has no real object
  no_object : ((path : List (List ℕ)) (lower : LayerRef) → Born path lower → ⊥)
      → None ≡ object_shown trees overlay number
  no_object none = by (found_at trees overlay b.are number) refl
    where
      by : (o : Option (List (List ℕ))) → found_at trees overlay b.are number ≡ o
          → None ≡ object_shown trees overlay number
      by None e = sym (ap (λ o. then_some o (shown (layers trees overlay b.are))) e)
      by (Some path) e =
          let at = found_is_at trees overlay b.are number path e in absurd (none path at.lower (born path at))

  pub no_layer : slice_get overlay.lowers b.place ≡ None → None ≡ object_shown trees overlay number
  no_layer none = no_object (λ path lower is. none_is_some lower (sym none ∙ is.layer))

  module _ (lower : LayerRef) (layer : slice_get overlay.lowers b.place ≡ Some lower) where
    abbrev pub count : ℕ
    count = lower.directory.filesystem.count

    abbrev pub files : Tree ℕ
    files = (files_at trees count).tree

    abbrev pub start : ℕ
    start = inode_of lower.directory

    abbrev pub object : ℕ
    object = exchanged count b.slot

    -- the directory in which it was born
    abbrev pub above : ℕ
    above = exchanged count b.directory

    is_layer : IsLayer trees lower
    is_layer = b.are b.place lower layer

    same_lower : (other : LayerRef) → slice_get overlay.lowers b.place ≡ Some other → other ≡ lower
    same_lower other e = same_Some other lower (sym e ∙ layer)

    pub record IsNamed (path : List (List ℕ)) : Type 0 where
      pub way : List (List ℕ)
      pub name : List ℕ
      pub split : way ++ name ∷ [] ≡ path
      pub leads : led files start way ≡ Some above
      pub entry : entry_at files above name ≡ Some object
      pub ranked : b.rank ≡ rank_among (entries_in (files.node above)) name object

    -- its rank is that of its name
    rank_is : (path way : List (List ℕ)) (name : List ℕ) → way ++ name ∷ [] ≡ path → led files start way ≡ Some above
        → led files start path ≡ Some object → entry_at files above name ≡ Some object
        → rank_at trees lower path ≡ rank_among (entries_in (files.node above)) name object
    rank_is path way name split leads there entry = by (is_directory_node (files.node object)) refl
      where
        front : without_last path ≡ way
        front = ap without_last (sym split) ∙ without_last_of_longer way name

        last : last_or [] path ≡ name
        last = ap (last_or []) (sym split) ∙ last_of_longer way name []

        here : rank_at trees lower path ≡ (if is_directory_node (files.node object) then 0
            else rank_among (entries_in (files.node above)) name object)
        here = grind (arith, common_steps, there, front, leads, last)

        by : (d : Bool) → is_directory_node (files.node object) ≡ d
            → rank_at trees lower path ≡ rank_among (entries_in (files.node above)) name object
        by true d = cc (here, alone_rank files above object name is_layer.tree d entry)
        by false d = here ∙ ap (λ t. if t then 0 else rank_among (entries_in (files.node above)) name object) d

    pub is_named : (path : List (List ℕ)) → Born path lower → IsNamed path
    is_named path is =
        let last = has_last trees lower is_layer path object is.named is.leads in
        let up : last.directory ≡ above = sym (exchanged_back count last.directory) ∙ ap (exchanged count) (sym (ap
        (λ o. exchanged count (unwrap_or o 0)) last.leads) ∙ is.above) in
        let leads : led files start (without_last path) ≡ Some above = last.leads ∙ ap Some up in
        let entry : entry_at files above last.name ≡ Some object = ap (λ d. entry_at files d last.name) (sym up) ∙
        last.entry in
        grind (
          arith,
          common_steps,
          without_last path,
          last.name,
          last.split,
          is.ranked,
          rank_is path (without_last
              path) last.name last.split leads is.leads entry,
        )

    -- the directory, and its names, as they are found in its slot
    module _ (inode : InodeRef) (is : inode ≡ record { filesystem = lower.directory.filesystem; slot = b.directory })
      where
        in_slot_above : inode_of (record { filesystem = lower.directory.filesystem; slot = b.directory }) ≡ above
        in_slot_above = sym (exchanged_slot count b.directory b.directory_small)

        pub above_number : inode_of inode ≡ above
        above_number = ap inode_of is ∙ in_slot_above

        pub above_node : (files_at trees inode.filesystem.count).tree.node (inode_of inode) ≡ files.node above
        above_node = cc (is, in_slot_above)

        pub name_seen : (node : Node ℕ) → Some (node_seen inode.filesystem.count node)
            ≡ (files_at trees inode.filesystem.count).tree.node (inode_of inode) → (id : ℕ) → id ≡ b.slot
            → name_ranked (entries_of node.content) id b.rank ≡ name_ranked
            (entries_in (files.node above)) object b.rank
        name_seen node seen id same = grind (arith, common_steps, ranked_seen, above_node)

    -- where it has no such name, it has no real object
    unnamed : ((path : List (List ℕ)) → Born path lower → IsNamed path → ⊥) → None ≡ object_shown trees overlay number
    unnamed none = no_object (λ path other is.
        let here = subst (Born path) (same_lower other is.layer) is in none path here (is_named path here))

    above_is : (path : List (List ℕ)) (is : IsNamed path) → IsDirectory files above
    above_is path is = has_entries files above is.name object is.entry

    pub no_way : (IsDirectory files above → (way : List (List ℕ)) → led files start way ≢ Some above)
        → None ≡ object_shown trees overlay number
    no_way none = unnamed (λ path at is. none (above_is path is) is.way is.leads)

    pub no_directory : files.node above ≡ None → None ≡ object_shown trees overlay number
    no_directory none = unnamed (λ path at is. true≢false (sym (sym (ap is_directory_node none) ∙ above_is path is)))

    named_so : (path : List (List ℕ)) (is : IsNamed path)
        → name_ranked (entries_in (files.node above)) object b.rank ≡ Some is.name
    named_so path is = ap (name_ranked (entries_in (files.node above)) object) is.ranked
        ∙ ranked_is_found is.name object (entries_in (files.node above)) (is_layer.tree.in_order above) is.entry

    pub no_name : name_ranked (entries_in (files.node above)) object b.rank ≡ None
        → None ≡ object_shown trees overlay number
    no_name none = unnamed (λ path at is. none_is_some is.name (sym none ∙ named_so path is))

    module _ (way : List (List ℕ)) (name : List ℕ) (leads : led files start way ≡ Some above)
        (directory : IsDirectory files above)
        (has_name : name_ranked (entries_in (files.node above)) object b.rank ≡ Some name) where
      abbrev pub path : List (List ℕ)
      path = way ++ name ∷ []

      one : (other : List (List ℕ)) → IsNamed other → other ≡ path
      one other is =
          let same = one_path files is_layer.tree start is.way way above is.leads leads directory in
          let name_is = same_Some is.name name (sym (named_so other is) ∙ has_name) in
          sym is.split ∙ (λ i. same i ++ name_is i ∷ [])

      -- so what is not shown there in this layer is not shown
      pub shown_elsewhere : ((seen : Shown ℕ) → shown (layers trees overlay b.are) path ≡ Some seen
          → seen.layer ≢ b.place) → None ≡ object_shown trees overlay number
      shown_elsewhere other = unnamed (λ at is named.
          other (record { layer = b.place; object = object })
          (ap (shown (layers trees overlay b.are)) (sym (one at named)) ∙ is.shown_there) refl)

      there : (entry_named name (entries_in (files.node above)) ≡ Some object)
          × (b.rank ≡ rank_among (entries_in (files.node above)) name object)
      there = ranked_is_there object b.rank (entries_in (files.node above)) name (is_layer.tree.in_order above) has_name

      led_there : led files start path ≡ Some object
      led_there = last_name files start way name ∙ ap (option_and_then (λ d. entry_at files d name)) leads ∙ there.0

      born_so : number_of (node_born trees overlay.number b.place lower path) ≡ number
      born_so =
          let front = ap (led files start) (without_last_of_longer way name) ∙ leads in
          let up : slot_at trees lower (without_last path) ≡ b.directory = ap (λ o. exchanged count (unwrap_or o 0))
          front ∙ exchanged_back count b.directory in
          let ranked : rank_at trees lower path ≡ b.rank = rank_is path way name refl leads led_there there.0 ∙ sym
          there.1 in
          let birth : birth_at trees b.place lower path ≡ Below b.place b.directory b.rank = ap (λ t. if t then Here
          else Below b.place (slot_at trees lower (without_last path)) (rank_at trees lower path)) (root_of_longer
          way name) ∙ (λ i. Below b.place (up i) (ranked i)) in
          let own : slot_at trees lower path ≡ b.slot = (in_slot trees lower is_layer path object led_there).1 ∙
          exchanged_back count b.slot in
          cc

      -- and what is shown there in this layer is its real object
      pub shown_here : (seen : Shown ℕ) → shown (layers trees overlay b.are) path ≡ Some seen → seen.layer ≡ b.place
          → Some seen ≡ object_shown trees overlay number
      shown_here seen is same =
          let in_it = in_layer trees overlay b.are path seen is in
          let here = same_lower in_it.0 (ap (slice_get overlay.lowers) (sym same) ∙ in_it.1) in
          let object_is : seen.object ≡ object = same_Some seen.object object (sym in_it.2
          ∙ ap (λ (l : LayerRef). led (files_at trees l.directory.filesystem.count).tree (inode_of l.directory) path)
          here
          ∙ led_there) in
          let at : IsAt trees overlay b.are path number = record {
            place = b.place;
            object = object;
            lower = lower;
            layer = layer;
            is = is ∙ (λ i. Some (record { layer = same i; object = object_is i }));
            leads = led_there;
            numbered = born_so;
          } in
          let found = found_is trees overlay b.are number path at (λ other other_at.
          let is_there = born other other_at in
          one other (is_named other (subst (Born other) (same_lower other_at.lower is_there.layer) is_there))) in
          sym (ap (λ o. then_some o (shown (layers trees overlay b.are))) found ∙ is)
