-- Going up in a tree whose inodes are found by slots, as its directories are seen by numbers.
use Rattle.std.proofs.Common.{◌≡◌, ◌≢◌, ◌∙◌, ◌+◌, ◌<◌, ◌≤◌, ◌∷◌, [], Bool, Bor, List, None, Option, Some, ap, arith, false, length, map, nat_eq, option_map, refl, subst, suc, sym, true, true≢false, zero, ℕ, slice_get, find, is_some, option_copied, unwrap_or}
use Rattle.vt_spec.proofs.Common.{Entries, IsDirectory, IsTree, Node, Tree, common_steps, directory_used, entries_in, entry_at, entry_to, found, found_is_named, is_among, is_directory_node, is_sorted, led, list_any, name_cmp, none_is_some, parent_in, renamed_node, same_Some}
use Rattle.vt_laws_trees.proofs.layers.layers.ShownDirectories.{last_of}
use Rattle.vt_laws_trees.proofs.layers.layers.ShownNames.{last_name}
use Rattle.vt_laws_trees.proofs.layers.layers.ShownPaths.{depth_of_led, length_longer, not_empty}
use Rattle.vt_laws_trees.proofs.layers.layers.UpperChain.{depth_below}
use Rattle.vt_location.proofs.NumberLemmas.{exchanged_same}
use Rattle.vt_location.specs.Numbers.{exchanged}
use Rattle.vt_fs.specs.Trees.Paths.{NamesDirectoriesOnce}
use Rattle.vt_fs.specs.Trees.TreeValue.{TreeValue, inodes_of, tree_of}
use Rattle.vt_fs.proofs.Numbers.{numbers_counted, numbers_listed}
use Rattle.vt_fs.proofs.Renamed.{entry_by_numbers, node_by_numbers, plain_by_numbers}
use Rattle.vt_fs.specs.FilesystemsValue.{FilesystemEntry, files_seen}
use Rattle.vt_overlay.specs.Merge.Climbed.{AreNamed, climbed, name_up, names_up}
use Rattle.vt_overlay.specs.Merge.LayerValue.{tree_seen}

abbrev pub above_in : Tree ℕ → ℕ → ℕ
above_in tree directory = parent_in directory (tree.node directory)

-- one step more
pub climbed_once : (tree : Tree ℕ) (here steps directory : ℕ) → here ≡ climbed tree steps directory
    → above_in tree here ≡ climbed tree (steps + 1) directory
climbed_once tree here steps directory is = grind (arith, common_steps)

pub copied_some : (o : Option (Bor (List ℕ))) → is_some (option_copied o) ≡ is_some o
copied_some o = grind (arith, common_steps)

-- so many names, each that of a directory so many steps up
pub length-names_up : (tree : Tree ℕ) (len directory : ℕ) → length (names_up tree len directory) ≡ len
length-names_up tree zero directory = refl
length-names_up tree (suc len) directory = ap suc (length-names_up tree len directory)

pub name_at : (tree : Tree ℕ) (directory steps index len : ℕ) → len ≡ suc (steps + index)
    → slice_get (names_up tree len directory) index ≡ Some (unwrap_or (name_up tree (climbed tree steps directory)) [])
name_at tree directory steps index zero e = absurd (let no : ⊥ = omega (arith, e) in no)
name_at tree directory steps zero (suc len) e = grind (arith, common_steps)
name_at tree directory steps (suc index) (suc len) e = name_at tree directory steps index len (omega (arith, e))

-- one more directory with a name
pub named_more : (tree : Tree ℕ) (directory len : ℕ) → AreNamed tree len directory
    → is_some (name_up tree (climbed tree len directory)) ≡ true → AreNamed tree (len + 1) directory
named_more tree directory len named last steps within = grind (arith, common_steps)

some_found : (object : ℕ) (entries : Entries ℕ) → list_any (nat_eq object) (map (λ entry. entry.1) entries) ≡ true
    → is_some (find (λ entry. nat_eq object entry.1) entries) ≡ true
some_found object [] e = absurd (true≢false (sym e))
some_found object (entry ∷ entries) e = grind (arith, common_steps, some_found object entries)

some_name : (o : Option (List ℕ × ℕ)) → is_some (option_map (λ (entry : List ℕ × ℕ). entry.0) o) ≡ is_some o
some_name o = grind (arith, common_steps)

filled : (n : ℕ) (list : List ℕ) → is_among nat_eq n list ≡ true → suc 0 ≤ length list
filled n list e = grind (arith, common_steps)

module _ (f : ℕ) (tree : TreeValue) where
  abbrev pub slots : Tree ℕ
  slots = tree_of tree

  abbrev pub seen : Tree ℕ
  seen = tree_seen f (Some tree)

  abbrev pub number : ℕ → ℕ
  number slot = exchanged f slot

  abbrev pub above : ℕ → ℕ
  above slot = parent_in slot (slots.node slot)

  entry_seen : (slot : ℕ) (name : List ℕ)
      → entry_at seen (number slot) name ≡ option_map (exchanged f) (entry_at slots slot name)
  entry_seen slot name = entry_by_numbers f (inodes_of tree) slot name

  parent_renamed : (slot : ℕ) (o : Option (Node ℕ))
      → parent_in (number slot) (option_map (renamed_node (exchanged f) (exchanged f)) o) ≡ number (parent_in slot o)
  parent_renamed slot None = refl
  parent_renamed slot (Some node) = grind (arith, common_steps)

  pub parent_seen : (slot : ℕ) → parent_in (number slot) (seen.node (number slot)) ≡ number (above slot)
  parent_seen slot = cc (node_by_numbers f (inodes_of tree) slot, parent_renamed slot (slots.node slot))

  slot_back : (slot : ℕ) (o : Option ℕ) → option_map (exchanged f) o ≡ Some (number slot) → o ≡ Some slot
  slot_back slot o e = grind (arith, common_steps, none_is_some, exchanged_same, same_Some)

  abbrev pub here : ℕ → ℕ → ℕ
  here lower steps = climbed slots steps lower

  -- the names so far lead down to where the way began
  abbrev pub LeadsDown : ℕ → ℕ → Type 0
  LeadsDown lower steps = led seen (number (here lower steps)) (names_up slots steps lower) ≡ Some (number lower)

  -- each path from the top leads to where the way has come, with few names
  abbrev pub ComesFromAbove : ℕ → ℕ → ℕ → Type 0
  ComesFromAbove top lower steps = (path : List (List ℕ)) → led seen (number top) path ≡ Some (number lower)
      → (front : List (List ℕ)) × (led seen (number top) front ≡ Some (number (here lower steps)))
      × (length front + steps < (inodes_of tree).count)

  module _ (conditions : IsTree seen) where
    -- a directory has one name at most
    pub once_in_slots : NamesDirectoriesOnce slots
    once_in_slots directory name other object first second is =
        cc (conditions.one_name (number directory) name other (number object) (entry_seen directory name ∙ ap
        (option_map (exchanged f)) first) (entry_seen directory other ∙ ap (option_map (exchanged f)) second)
        (plain_by_numbers f (inodes_of tree) Bool (λ A node. is_directory_node node) object ∙ is))

    sorted : (slot : ℕ) → is_sorted name_cmp (entries_in (slots.node slot)) ≡ true
    sorted slot = sym (plain_by_numbers f (inodes_of tree) Bool (λ A node. is_sorted name_cmp (entries_in node)) slot)
        ∙ conditions.in_order (number slot)

    -- its name leads back to it
    pub name_leads : (slot : ℕ) → is_some (name_up slots slot) ≡ true
        → entry_at seen (number (above slot)) (unwrap_or (name_up slots slot) []) ≡ Some (number slot)
    name_leads slot there = by (find (λ entry. nat_eq slot entry.1) (entries_in (slots.node (above slot)))) refl there
      where
        by : (o : Option (List ℕ × ℕ)) → find (λ entry. nat_eq slot entry.1) (entries_in (slots.node (above slot))) ≡ o
            → is_some (option_map (λ (entry : List ℕ × ℕ). entry.0) o) ≡ true
            → entry_at seen (number (above slot)) (unwrap_or (option_map (λ (entry : List ℕ × ℕ). entry.0) o) [])
            ≡ Some (number slot)
        by None e t = absurd (true≢false (sym t))
        by (Some entry) e t =
            let named = found_is_named slot (entries_in (slots.node (above slot))) entry (sorted (above slot)) e in
            entry_seen (above slot) entry.0 ∙ ap (option_map (exchanged f)) (named.0 ∙ ap Some named.1)

    -- and without one it has no name anywhere
    pub unnamed : (slot : ℕ) → is_some (name_up slots slot) ≡ false → IsDirectory seen (number slot)
        → (parent : ℕ) (name : List ℕ) → entry_at seen parent name ≢ Some (number slot)
    unnamed slot none is parent name leads =
        let up : number (above slot) ≡ parent = sym (parent_seen slot) ∙ conditions.one_parent parent name (number
        slot) leads is in
        let there = slot_back slot (entry_at slots (above slot) name) (sym (entry_seen (above slot) name) ∙ ap (λ p.
        entry_at seen p name) up ∙ leads) in
        cc (
          some_found slot (entries_in (slots.node (above slot))) (entry_to slots (above slot) name slot there),
          some_name (find (λ entry. nat_eq slot entry.1) (entries_in (slots.node (above slot)))),
        )

    pub above_is_directory : (slot : ℕ) → IsDirectory seen (number slot) → IsDirectory seen (number (above slot))
    above_is_directory slot is = cc (parent_seen slot, conditions.parent_directory (number slot) is)

    module _ (top lower : ℕ) (is : IsDirectory seen (number lower)) where
      pub all_directories : (steps : ℕ) → IsDirectory seen (number (here lower steps))
      all_directories zero = is
      all_directories (suc steps) = above_is_directory (here lower steps) (all_directories steps)

      pub leads_from_above : (steps next : ℕ) → next ≡ suc steps → LeadsDown lower steps
          → is_some (name_up slots (here lower steps)) ≡ true → LeadsDown lower next
      leads_from_above steps next e so_far named = grind (arith, common_steps, name_leads (here lower steps) named)

      abbrev own : FilesystemEntry
      own = record { count = f; tree = tree; mounts = 0 }

      shorter : (path : List (List ℕ)) → led seen (number top) path ≡ Some (number lower)
          → length path < (inodes_of tree).count
      shorter [] e =
          let some = filled (number lower) (files_seen own).numbers
          (numbers_listed own (number lower) ∙ directory_used seen (number lower) is) in
          let counted = numbers_counted own in
          omega (arith, some, counted)
      shorter (name ∷ path) e =
          let deep = depth_of_led seen conditions (number top) (name ∷ path) (number lower)
          (not_empty name path) e is in
          let below = depth_below (files_seen own) conditions (numbers_listed own) (deep.0 + length (name ∷ path))
          (number lower) deep.2 in
          let counted = numbers_counted own in
          omega (arith, below, counted)

      pub comes_from_above : (steps : ℕ) → steps ≡ 0 → ComesFromAbove top lower steps
      comes_from_above steps e = grind (arith, common_steps, shorter)

      -- a path to a place below the top has a last name
      last_step : (slot : ℕ) (front : List (List ℕ)) → led seen (number top) front ≡ Some (number slot) → top ≢ slot
          → (before : List (List ℕ)) × (name : List ℕ) × (directory : ℕ) × (suc (length before) ≡ length front)
          × (led seen (number top) before ≡ Some directory) × (entry_at seen directory name ≡ Some (number slot))
      last_step slot [] e other = absurd (other (exchanged_same f top slot (same_Some (number top) (number slot) e)))
      last_step slot (name ∷ front) e other =
          let last = last_of (name ∷ front) (not_empty name front) in
          let step = found (λ directory. entry_at seen directory last.1) (led seen (number top) last.0) (number slot)
          (sym (last_name seen (number top) last.0 last.1) ∙ ap (led seen (number top)) last.2 ∙ e) in
          (last.0, last.1, step.0, sym (length_longer last.0 last.1) ∙ ap length last.2, step.1, step.2)

      pub came_from_above : (steps next : ℕ) → next ≡ suc steps → top ≢ here lower steps
          → ComesFromAbove top lower steps
          → ComesFromAbove top lower next
      came_from_above steps next e other so_far = subst (ComesFromAbove top lower) (sym e) (λ path leads.
          let far = so_far path leads in
          let last = last_step (here lower steps) far.0 far.1 other in
          let up : last.2 ≡ number (here lower (suc steps)) =
          sym (conditions.one_parent last.2 last.1 (number (here lower steps)) last.5 (all_directories steps))
          ∙ parent_seen (here lower steps) in
          let long = last.3 in
          let short = far.2 in
          (last.0, last.4 ∙ ap Some up, omega (arith, long, short)))

      -- where no name leads up from there, or all have been passed, there is none
      pub ends_unnamed : (steps : ℕ) → top ≢ here lower steps → ComesFromAbove top lower steps
          → is_some (name_up slots (here lower steps)) ≡ false
          → (path : List (List ℕ)) → led seen (number top) path ≢ Some (number lower)
      ends_unnamed steps other so_far none path leads =
          let far = so_far path leads in
          let last = last_step (here lower steps) far.0 far.1 other in
          unnamed (here lower steps) none (all_directories steps) last.2 last.1 last.5

      pub ends_above : (steps : ℕ) → ComesFromAbove top lower steps → (inodes_of tree).count ≤ steps
          → (path : List (List ℕ)) → led seen (number top) path ≢ Some (number lower)
      ends_above steps so_far all path leads =
          let far = so_far path leads in
          let short = far.2 in
          omega (arith, short, all)
