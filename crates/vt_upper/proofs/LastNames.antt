-- At which paths a node is shown: one that a lower layer has only where it was born, one that the upper layer has wherever
-- the upper layer leads to its inode.
use Rattle.std.proofs.Common.{◌≡◌, ◌≢◌, ◌∙◌, ◌<◌, ◌&&◌, ◌||◌, ◌++◌, ◌∷◌, [], ap, Bool, cond, eq-eqb, eqb-true, false, find, is_some, List, map, nat_eq, None, not, Option, refl, Some, slice_get, subst, suc, sym, true, true≢false, ⊎_elim, unwrap_or, ℕ, if◌then◌else◌, arith}
use Rattle.vt_spec.proofs.Common.{Entries, IsDirectory, Tree, and_true_left, and_true_right, any_among, at_path, directory_no_whiteout, directory_used, entries_in, entry_at, entry_to, found, has_entry_to, holds_of, is_among, is_directory_node, is_root_path, led, led-append, list_any, node_in, or_right, same_Some, slice_get_within, some_from_is_some, when, without_last}
use Rattle.vt_laws_trees.proofs.layers.layers.ShownDirectories.{longer_is_not_empty}
use Rattle.vt_laws_trees.proofs.layers.layers.ShownNames.{last_name}
use Rattle.vt_laws_trees.proofs.layers.layers.ShownPaths.{last_of_longer, one_path}
use Rattle.vt_laws_trees.proofs.layers.layers.UpperLine.{has_entries}
use Rattle.vt_laws_trees.proofs.layers.layers.UpperShown.{without_last_of_longer}
use Rattle.vt_spec.specs.Lists.{last_or}
use Rattle.vt_node.proofs.RankLemmas.{ranked_is_there, same_rank}
use Rattle.vt_node.specs.Ranks.{has_rank, name_ranked}
use Rattle.vt_births.proofs.NodesAbove.{slots_found}
use Rattle.vt_births.specs.Births.{node_above, slot_above}
use Rattle.vt_fs.specs.FilesystemsValue.{Filesystems, files_at}
use Rattle.vt_upper.proofs.FitCopies.{shown_first}
use Rattle.vt_upper.proofs.SecondNames.{one_name, other_name}
use Rattle.vt_upper.specs.LastName.{IsAlsoElsewhere, IsNameAt, IsOnlyAt, IsToldLast, first_rank, is_other_name}
use Rattle.vt_location.proofs.NodeLemmas.{one_to_one}
use Rattle.vt_location.proofs.NumberLemmas.{exchanged_back, exchanged_number, exchanged_same, slot_of}
use Rattle.vt_location.specs.Births.{IsSmallBirth}
use Rattle.vt_location.specs.declared.births.Birth.{Birth}
use Rattle.vt_location.specs.declared.births.Birth.TheVariants.{Below, Here}
use Rattle.vt_location.specs.declared.locations.InodeRef.{InodeRef}
use Rattle.vt_location.specs.declared.locations.NodeRef.{NodeRef}
use Rattle.vt_location.specs.Locations.{inode_of, number_of}
use Rattle.vt_location.specs.NodeNumbers.{IsSmall}
use Rattle.vt_location.specs.Numbers.{exchanged, inode_number, is_inode_of}
use Rattle.vt_overlay.proofs.BirthsFound.{Birthplace, IsBorn, has_last, in_slot}
use Rattle.vt_overlay.proofs.BornNamed.{is_named}
use Rattle.vt_overlay.proofs.RootFound.{no_name}
use Rattle.vt_overlay.specs.declared.merge.layers.LayerRef.{LayerRef}
use Rattle.vt_overlay.specs.Merge.LayerValue.{layer_of}
use Rattle.vt_overlay.specs.MergedTree.{IsLayer, OverlayValue, rank_at, slot_at}
use Rattle.vt_upper_overlay.proofs.Named.{inode_at, is_naming, is_way, way_number}
use Rattle.vt_upper_overlay.proofs.NamesFound.{one_listed}
use Rattle.vt_upper_overlay.proofs.Ranked.{some_ranked}
use Rattle.vt_upper_overlay.proofs.Shown.{IsAbove, IsBelow, IsLooked, birth_below, number_above, shown_node, small_shown}
use Rattle.vt_upper_overlay.proofs.ThereAbove.{own_above, some_mapped}
use Rattle.vt_upper_overlay.proofs.Through.{object_is, only_above, only_below, slot_is}
use Rattle.vt_upper_overlay.specs.MergedAbove.{directory_path, number_at}
use Rattle.vt_upper_overlay.specs.UpperValue.{UpperOverlayValue}

-- what a birth tells
abbrev pub place_in : Birth → ℕ
place_in Here = 0
place_in (Below layer directory rank) = layer

abbrev pub directory_in : Birth → ℕ
directory_in Here = 0
directory_in (Below layer directory rank) = directory

abbrev pub rank_in : Birth → ℕ
rank_in Here = 0
rank_in (Below layer directory rank) = rank

-- a path with a last name has one front and one last name
pub same_front : (path other : List (List ℕ)) (name word : List ℕ) → path ++ name ∷ [] ≡ other ++ word ∷ [] → path ≡ other
same_front path other name word same = sym (without_last_of_longer path name) ∙ ap without_last same
    ∙ without_last_of_longer other word

pub same_last : (path other : List (List ℕ)) (name word : List ℕ) → path ++ name ∷ [] ≡ other ++ word ∷ [] → name ≡ word
same_last path other name word same = sym (last_of_longer path name []) ∙ ap (last_or []) same
    ∙ last_of_longer other word []

-- what was born in a directory of a layer, with a rank, was born at one path
pub one_born : (trees : Filesystems) (overlay : OverlayValue) (b : Birthplace trees overlay) (lower : LayerRef)
    → slice_get overlay.lowers b.place ≡ Some lower → (path other : List (List ℕ)) → IsBorn trees overlay b path lower
    → IsBorn trees overlay b other lower → other ≡ path
one_born trees overlay b lower at path other here there =
    let g = lower.directory.filesystem.count in
    let files = (files_at trees g).tree in
    let m = is_named trees overlay b lower at path here in
    let n = is_named trees overlay b lower at other there in
    let directory = exchanged g b.directory in
    let ways = one_path files (b.are b.place lower at).tree (inode_of lower.directory) n.way m.way directory n.leads
    m.leads (has_entries files directory m.name (exchanged g b.slot) m.entry) in
    let names = same_rank n.name m.name (exchanged g b.slot) (entries_in (files.node directory)) n.entry m.entry
    (sym n.ranked ∙ m.ranked) in
    sym n.split ∙ (λ i. ways i ++ names i ∷ []) ∙ m.split

-- what has a name of some rank has an entry
found_entry : (p : List ℕ × ℕ → Bool) (id : ℕ) → ((entry : List ℕ × ℕ) → p entry ≡ true → nat_eq id entry.1 ≡ true)
    → (entries : Entries ℕ) → is_some (find p entries) ≡ true
    → is_among nat_eq id (map (λ (entry : List ℕ × ℕ). entry.1) entries) ≡ true
found_entry p id leads [] some = absurd (true≢false (sym some))
found_entry p id leads (first ∷ rest) some = by (p first) refl some (found_entry p id leads rest)
  where
    by : (b : Bool) → p first ≡ b → is_some (cond b (Some first) (find p rest)) ≡ true
        → (is_some (find p rest) ≡ true → is_among nat_eq id (map (λ (entry : List ℕ × ℕ). entry.1) rest) ≡ true)
        → (nat_eq id first.1 || is_among nat_eq id (map (λ (entry : List ℕ × ℕ). entry.1) rest)) ≡ true
    by true e some later =
        ap (λ b. b || is_among nat_eq id (map (λ (entry : List ℕ × ℕ). entry.1) rest)) (leads first e)
    by false e some later = or_right (nat_eq id first.1) _ (later some)

ranked_entry : (entries : Entries ℕ) (id rank : ℕ) → is_some (name_ranked entries id rank) ≡ true
    → is_among nat_eq id (map (λ (entry : List ℕ × ℕ). entry.1) entries) ≡ true
ranked_entry entries id rank some = found_entry (has_rank entries id rank) id
    (λ entry is. and_true_left (nat_eq id entry.1) _ is) entries
    (sym (some_mapped (λ (entry : List ℕ × ℕ). entry.0) (find (has_rank entries id rank) entries)) ∙ some)

-- so has what counts
pub counts_named : (trees : Filesystems) (overlay : UpperOverlayValue) (inode : InodeRef) (directory : NodeRef) (other : ℕ)
    → is_other_name trees overlay inode directory other
    ≡ (has_entry_to nat_eq (files_at trees inode.filesystem.count).tree other (inode_of inode)
    && is_other_name trees overlay inode directory other)
counts_named trees overlay inode directory other = by (is_other_name trees overlay inode directory other) refl
  where
    and_false : (a b : Bool) → b ≡ false → (a && b) ≡ false
    and_false true b e = e
    and_false false b e = refl

    named : is_other_name trees overlay inode directory other ≡ true
        → has_entry_to nat_eq (files_at trees inode.filesystem.count).tree other (inode_of inode) ≡ true
    named is = ranked_entry (entries_in ((files_at trees inode.filesystem.count).tree.node other)) (inode_of inode)
        (first_rank overlay directory (exchanged inode.filesystem.count other)) (and_true_left _ _ is)

    by : (b : Bool) → is_other_name trees overlay inode directory other ≡ b
        → is_other_name trees overlay inode directory other
        ≡ (has_entry_to nat_eq (files_at trees inode.filesystem.count).tree other (inode_of inode)
        && is_other_name trees overlay inode directory other)
    by true is = is ∙ sym (λ i. named is i && is i)
    by false is = is ∙ sym (and_false (has_entry_to nat_eq (files_at trees inode.filesystem.count).tree other
        (inode_of inode)) (is_other_name trees overlay inode directory other) is)

-- what is in a layer's tree has a slot
own_slot_small : (trees : Filesystems) (lower : LayerRef) → IsLayer trees lower → (inode : ℕ)
    → is_some ((files_at trees lower.directory.filesystem.count).tree.node inode) ≡ true
    → exchanged lower.directory.filesystem.count inode < 18446744073709551616
own_slot_small trees lower is inode there = by (is_inode_of g inode) refl
  where
    g : ℕ
    g = lower.directory.filesystem.count

    by : (b : Bool) → is_inode_of g inode ≡ b → exchanged g inode < 18446744073709551616
    by true e =
        let of = slot_of g inode e in
        subst (λ n. n < 18446744073709551616) (sym (ap (exchanged g) of.2 ∙ exchanged_number g of.0 of.1)) of.1
    by false e = absurd (true≢false (sym there ∙ ap (λ o. is_some (node_in o)) (is.own_numbers inode e)))

module _ (trees : Filesystems) (overlay : UpperOverlayValue) (looked : IsLooked trees overlay) where
  abbrev f : ℕ
  f = looked.top.directory.filesystem.count

  abbrev tree : Tree ℕ
  tree = (files_at trees f).tree

  abbrev start : ℕ
  start = inode_of looked.top.directory

  abbrev leads_above : List (List ℕ) → Option ℕ
  leads_above path = at_path (layer_of trees looked.top) path

  is_top : IsLayer trees looked.top
  is_top = looked.stands.layers 0 looked.top looked.first

  -- the node of an inode of the upper layer
  abbrev node_of_inode : ℕ → NodeRef
  node_of_inode inode = node_above overlay.nodes.births overlay.layers.number (exchanged f inode)

  its_slot_small : (path : List (List ℕ)) (inode : ℕ) → leads_above path ≡ Some inode
      → exchanged f inode < 18446744073709551616
  its_slot_small path inode leads =
      let slot = in_slot trees looked.top is_top path inode leads in
      subst (λ n. n < 18446744073709551616) slot.1 slot.0

  -- A directory to which the upper layer leads is shown there,
  way_above : (path : List (List ℕ)) (directory : ℕ) → leads_above path ≡ Some directory → IsDirectory tree directory
      → directory_path trees overlay (number_of (node_of_inode directory)) ≡ Some path
  way_above path directory leads is =
      let there = shown_first trees overlay.layers.lowers looked.top looked.first path directory leads
      ∙ ap (λ b. when (not b) (record { layer = 0; object = directory }))
      (directory_no_whiteout (tree.node directory) is) in
      is_way trees overlay looked (number_of (node_of_inode directory)) path
      (number_above trees overlay looked path directory there)
      (ap is_directory_node (inode_at trees overlay looked path 0 directory looked.top there looked.first) ∙ is)

  -- and where it is shown, the upper layer leads to it.
  leads_way : (directory : ℕ) → exchanged f directory < 18446744073709551616 → (path : List (List ℕ))
      → directory_path trees overlay (number_of (node_of_inode directory)) ≡ Some path
      → leads_above path ≡ Some directory
  leads_way directory small path way =
      let node = node_of_inode directory in
      let node_small = small_shown trees overlay looked directory small in
      let own = own_above trees overlay looked.stands (exchanged f directory) in
      let its = slots_found overlay.nodes.births overlay.layers.number (exchanged f directory)
      looked.stands.one_to_one in
      let a = only_above trees overlay looked node node_small own (exchanged f directory) small its path
      (way_number trees overlay looked (number_of node) path way) in
      a.leads ∙ ap Some (exchanged_same f a.object directory
      (slot_is trees overlay looked node node_small own (exchanged f directory) small its path a))

  -- the node of what is shown is one of the overlay
  pub own_shown : (node : NodeRef) → IsSmall node → (path : List (List ℕ))
      → number_at trees overlay path ≡ Some (number_of node) → node.filesystem ≡ overlay.layers.number
  own_shown node node_small path numbered = ⊎_elim
      (λ (a : IsAbove trees overlay looked path node). ap (λ (n : NodeRef). n.filesystem) (sym a.node_is)
      ∙ own_above trees overlay looked.stands (exchanged f a.object))
      (λ (b : IsBelow trees overlay looked path node). ap (λ (n : NodeRef). n.filesystem) (sym b.node_is))
      (shown_node trees overlay looked path node node_small numbered)

  module _ (node : NodeRef) (node_small : IsSmall node) (own : node.filesystem ≡ overlay.layers.number) where
    abbrev number : ℕ
    number = number_of node

    -- Of a node that a lower layer has
    module _ (no_slot : slot_above overlay.nodes.births node ≡ None) where
      below : (path : List (List ℕ)) → number_at trees overlay path ≡ Some number → IsBelow trees overlay looked path node
      below = only_below trees overlay looked node node_small own no_slot

      module _ (layer directory rank : ℕ) (birth : node.birth ≡ Below layer directory rank) (lower : LayerRef)
          (at : slice_get overlay.layers.lowers (suc layer) ≡ Some lower) where
        abbrev g : ℕ
        g = lower.directory.filesystem.count

        small : (directory < 18446744073709551616) × (layer < 18446744073709551616)
        small = subst IsSmallBirth birth node_small.birth

        abbrev birthplace : Birthplace trees overlay.layers
        birthplace =
            let within = slice_get_within overlay.layers.lowers (suc layer) lower at in
            let few = looked.stands.few in
            record {
              are = looked.stands.layers;
              few = few;
              place = suc layer;
              directory = directory;
              rank = rank;
              slot = node.slot;
              place_small = omega (arith, within, few);
              directory_small = small.0;
              slot_small = node_small.slot;
            }

        born : (path : List (List ℕ)) → IsBelow trees overlay looked path node
            → IsBorn trees overlay.layers birthplace path lower
        born path b =
            let its = sym (birth_below trees overlay looked path node b) ∙ birth in
            let h = b.lower.directory.filesystem.count in
            let places : b.layer ≡ layer = ap place_in its in
            let lowers : b.lower ≡ lower = same_Some b.lower lower
            (sym b.at ∙ ap (λ l. slice_get overlay.layers.lowers (suc l)) places ∙ at) in
            let slot : node.slot ≡ exchanged h b.object = ap (λ (n : NodeRef). n.slot) (sym b.node_is)
            ∙ ap (λ o. exchanged h (unwrap_or o 0)) b.leads in
            let object : b.object ≡ exchanged g node.slot = sym (exchanged_back h b.object)
            ∙ ap (exchanged h) (sym slot)
            ∙ ap (λ (l : LayerRef). exchanged l.directory.filesystem.count node.slot) lowers in
            record {
              layer = at;
              leads = ap (λ l. at_path (layer_of trees l) path) (sym lowers) ∙ b.leads ∙ ap Some object;
              named = b.named;
              above = ap (λ l. slot_at trees l (without_last path)) (sym lowers) ∙ ap directory_in its;
              ranked = ap (λ l. rank_at trees l path) (sym lowers) ∙ ap rank_in its;
              shown_there = b.is ∙ (λ i. Some (record { layer = suc (places i); object = object i }));
            }

        -- it was born at one path
        one_birth : (path other : List (List ℕ)) → IsBelow trees overlay looked path node
            → IsBelow trees overlay looked other node → other ≡ path
        one_birth path other a b = one_born trees overlay.layers birthplace lower at path other (born path a) (born other b)

      pub only_born : (path : List (List ℕ)) → number_at trees overlay path ≡ Some number
          → IsOnlyAt trees overlay number path
      only_born path numbered = λ other also.
          let a = below path numbered in
          one_birth a.layer (slot_at trees a.lower (without_last path)) (rank_at trees a.lower path)
          (birth_below trees overlay looked path node a) a.lower a.at path other a (below other also)

    -- Of a node that the upper layer has
    module _ (slot : ℕ) (slot_small : slot < 18446744073709551616)
        (its_slot : slot_above overlay.nodes.births node ≡ Some slot) (directory : NodeRef)
        (directory_small : IsSmall directory) (path : List (List ℕ)) (name : List ℕ)
        (at : IsNameAt trees overlay directory node path name) where
      abbrev object : ℕ
      object = inode_number f slot

      abbrev whole : List (List ℕ)
      whole = path ++ name ∷ []

      above : (other : List (List ℕ)) → number_at trees overlay other ≡ Some number
          → IsAbove trees overlay looked other node
      above = only_above trees overlay looked node node_small own slot slot_small its_slot

      object_there : (other : List (List ℕ)) (numbered : number_at trees overlay other ≡ Some number)
          → (above other numbered).object ≡ object
      object_there other numbered = object_is trees overlay looked node node_small own slot slot_small its_slot other
          (above other numbered)

      -- where it is shown the upper layer leads to its inode,
      leads_there : (other : List (List ℕ)) → number_at trees overlay other ≡ Some number
          → leads_above other ≡ Some object
      leads_there other numbered = (above other numbered).leads ∙ ap Some (object_there other numbered)

      -- and the other way round
      shows_there : (other : List (List ℕ)) → leads_above other ≡ Some object
          → number_at trees overlay other ≡ Some number
      shows_there other leads =
          let a = above whole at.leads in
          let is = shown_first trees overlay.layers.lowers looked.top looked.first other object leads
          ∙ sym (shown_first trees overlay.layers.lowers looked.top looked.first whole object
          (leads_there whole at.leads))
          ∙ a.is ∙ ap (λ o. Some (record { layer = 0; object = o })) (object_there whole at.leads) in
          number_above trees overlay looked other object is
          ∙ ap (λ s. Some (number_of (node_above overlay.nodes.births overlay.layers.number s)))
          (exchanged_number f slot slot_small
          ∙ sym (slot_is trees overlay looked node node_small own slot slot_small its_slot whole a))
          ∙ ap (λ n. Some (number_of n)) a.node_is

      -- the directory of the name, in the upper layer
      record IsNamedIn : Type 0 where
        inode : ℕ
        leads : leads_above path ≡ Some inode
        entry : entry_at tree inode name ≡ Some object
        beside : slot_above overlay.nodes.births directory ≡ Some (exchanged f inode)

      named_in : IsNamedIn
      named_in =
          let step = found (λ d. entry_at tree d name) (led tree start path) object
          (sym (last_name tree start path name) ∙ leads_there whole at.leads) in
          let way = way_above path step.0 step.1 (has_entries tree step.0 name object step.2) in
          let numbers = same_Some (number_of (node_of_inode step.0)) (number_of directory)
          (sym (way_number trees overlay looked (number_of (node_of_inode step.0)) path way)
          ∙ way_number trees overlay looked (number_of directory) path at.way) in
          let same = one_to_one (node_of_inode step.0) directory
          (small_shown trees overlay looked step.0 (its_slot_small path step.0 step.1)) directory_small numbers in
          record {
            inode = step.0;
            leads = step.1;
            entry = step.2;
            beside = ap (slot_above overlay.nodes.births) (sym same)
                ∙ slots_found overlay.nodes.births overlay.layers.number (exchanged f step.0)
                looked.stands.one_to_one;
          }

      abbrev own_directory : ℕ
      own_directory = named_in.inode

      abbrev rank_from : ℕ → ℕ
      rank_from other = first_rank overlay directory (exchanged f other)

      rank_is : (other : ℕ) (b : Bool) → nat_eq (exchanged f other) (exchanged f own_directory) ≡ b
          → rank_from other ≡ (if b then 1 else 0)
      rank_is other b e = ap (λ o. if holds_of (nat_eq (exchanged f other)) o then 1 else 0) named_in.beside
          ∙ ap (λ b. if b then 1 else 0) e

      same_directory : (other : ℕ) → nat_eq (exchanged f other) (exchanged f own_directory) ≡ true
          → other ≡ own_directory
      same_directory other e = exchanged_same f other own_directory
          (eqb-true (exchanged f other) (exchanged f own_directory) e)

      abbrev upper_inode : InodeRef
      upper_inode = record { filesystem = looked.top.directory.filesystem; slot = slot }

      abbrev counts : ℕ → Bool
      counts = is_other_name trees overlay upper_inode directory

      abbrev is_named_from : ℕ → ℕ → Bool
      is_named_from rank other = is_some (name_ranked (entries_in (tree.node other)) object rank)

      -- another name that counts shows the node elsewhere
      elsewhere : (other : ℕ) (way : List (List ℕ)) (word : List ℕ)
          → directory_path trees overlay (number_of (node_of_inode other)) ≡ Some way
          → exchanged f other < 18446744073709551616
          → entry_at tree other word ≡ Some object → ((other ≡ own_directory) → word ≢ name)
          → IsAlsoElsewhere trees overlay number whole
      elsewhere other way word is small entry differs =
          let leads = leads_way other small way is in
          record {
            other = way ++ word ∷ [];
            numbered = shows_there (way ++ word ∷ []) (led-append tree start way word other object leads entry);
            differs = λ same.
                let one = same_Some other own_directory (sym leads ∙ ap leads_above (same_front way path word name same)
                ∙ named_in.leads) in
                differs one (same_last way path word name same);
          }

      inode_small : (other : ℕ) (word : List ℕ) → entry_at tree other word ≡ Some object
          → exchanged f other < 18446744073709551616
      inode_small other word entry = own_slot_small trees looked.top is_top other
          (directory_used tree other (has_entries tree other word object entry))

      pub other_counts : (other : ℕ) → counts other ≡ true → IsAlsoElsewhere trees overlay number whole
      other_counts other is =
          let ranked = and_true_left (is_named_from (rank_from other) other) _ is in
          let way = some_from_is_some (directory_path trees overlay (number_of (node_of_inode other)))
          (and_true_right (is_named_from (rank_from other) other) _ is) in
          by (nat_eq (exchanged f other) (exchanged f own_directory)) refl ranked way.0 way.1
        where
          by : (b : Bool) → nat_eq (exchanged f other) (exchanged f own_directory) ≡ b
              → is_named_from (rank_from other) other ≡ true → (way : List (List ℕ))
              → directory_path trees overlay (number_of (node_of_inode other)) ≡ Some way
              → IsAlsoElsewhere trees overlay number whole
          by true e ranked way way_is =
              let one = same_directory other e in
              let entry = ap (λ d. entry_at tree d name) one ∙ named_in.entry in
              let another = other_name (entries_in (tree.node other)) (is_top.tree.in_order other) object name entry
              (ap (λ r. is_named_from r other) (sym (rank_is other true e)) ∙ ranked) in
              elsewhere other way another.0 way_is (inode_small other name entry) another.1 (λ same. another.2)
          by false e ranked way way_is =
              let first = some_from_is_some (name_ranked (entries_in (tree.node other)) object 0)
              (ap (λ r. is_named_from r other) (sym (rank_is other false e)) ∙ ranked) in
              let there = ranked_is_there object 0 (entries_in (tree.node other)) first.0
              (is_top.tree.in_order other) first.1 in
              elsewhere other way first.0 way_is (inode_small other first.0 there.0) there.0 (λ same.
              absurd (true≢false (sym (eq-eqb (exchanged f other) (exchanged f own_directory) (ap (exchanged f) same))
              ∙ e)))

      -- and where none counts it is shown nowhere else
      pub none_counts_there : ((other : ℕ) → counts other ≡ false) → IsOnlyAt trees overlay number whole
      none_counts_there none = λ other also. by other also (is_root_path other) refl
        where
          by : (other : List (List ℕ)) → number_at trees overlay other ≡ Some number → (b : Bool)
              → is_root_path other ≡ b → other ≡ whole
          by other also true root =
              let nameless = no_name other root in
              let naming = is_naming trees overlay looked in
              absurd (longer_is_not_empty path name (naming.apart [] whole number
              (ap (number_at trees overlay) (sym nameless) ∙ also) at.leads naming.root))
          by other also false root =
              let last = has_last trees looked.top is_top other object root (leads_there other also) in
              let is = has_entries tree last.directory last.name object last.entry in
              let way = way_above (without_last other) last.directory last.leads is in
              sym last.split ∙ same last.directory (without_last other) last.name last.leads last.entry is way
              (none last.directory) (nat_eq (exchanged f last.directory) (exchanged f own_directory)) refl
            where
              unnamed : (b c : Bool) → (b && c) ≡ false → c ≡ true → b ≡ false
              unnamed false c both shows = refl
              unnamed true c both shows = sym shows ∙ both

              same : (inode : ℕ) (front : List (List ℕ)) (word : List ℕ) → leads_above front ≡ Some inode
                  → entry_at tree inode word ≡ Some object → IsDirectory tree inode
                  → directory_path trees overlay (number_of (node_of_inode inode)) ≡ Some front
                  → counts inode ≡ false
                  → (b : Bool) → nat_eq (exchanged f inode) (exchanged f own_directory) ≡ b
                  → front ++ word ∷ [] ≡ whole
              same inode front word leads entry is way nothing true e =
                  let one = same_directory inode e in
                  let second = ap (λ r. is_named_from r inode) (sym (rank_is inode true e))
                  ∙ unnamed (is_named_from (rank_from inode) inode) _ nothing (ap is_some way) in
                  let names = one_name (entries_in (tree.node inode)) (is_top.tree.in_order inode) object word name entry
                  (ap (λ d. entry_at tree d name) one ∙ named_in.entry) second in
                  let fronts = one_path tree is_top.tree start front path inode leads
                  (named_in.leads ∙ ap Some (sym one)) is in
                  λ i. fronts i ++ names i ∷ []
              same inode front word leads entry is way nothing false e =
                  let first = ap (λ r. is_named_from r inode) (sym (rank_is inode false e))
                  ∙ unnamed (is_named_from (rank_from inode) inode) _ nothing (ap is_some way) in
                  absurd (true≢false (sym (some_ranked object (entries_in (tree.node inode))
                  ∙ entry_to tree inode word object entry) ∙ first))

      -- so it is told by all that count
      counts_listed : (other : ℕ) → counts other ≡ true → list_any counts (files_at trees f).numbers ≡ true
      counts_listed other is = (λ i. list_any (λ n. counts_named trees overlay upper_inode directory n i)
          (files_at trees f).numbers)
          ∙ one_listed trees f object counts other (sym (counts_named trees overlay upper_inode directory other) ∙ is)

      pub told_above : (b : Bool) → b ≡ list_any counts (files_at trees f).numbers
          → IsToldLast (not b) trees overlay number whole
      told_above true e =
          let one = any_among counts (files_at trees f).numbers (sym e) in other_counts one.0 one.2
      told_above false e = none_counts_there (λ other. by other (counts other) refl)
        where
          by : (other : ℕ) (b : Bool) → counts other ≡ b → counts other ≡ false
          by other false is = is
          by other true is = absurd (true≢false (sym (counts_listed other is) ∙ sym e))
