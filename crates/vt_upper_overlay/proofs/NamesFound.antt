-- The directories that have names for a file, among those that its tree lists.
use Rattle.std.proofs.Common.{Bool, List, None, Option, Some, ap, eqb-true, false, is_some, length, nat_eq, option_map, refl, slice_index_or, sym, suc, true, true≢false, ℕ, ◌<◌, ◌&&◌, ◌||◌, ◌∙◌, ◌∷◌, ◌≡◌, [], unwrap_or, arith}
use Rattle.vt_spec.proofs.Common.{Node, among_numbers, any_among, entries_in, entries_of, found_passes, has_entry_to, is_among, list_any, none_among, none_is_some, same_Some, targets_in, common_steps}
use Rattle.vt_fs.specs.FilesystemsValue.{FilesystemEntry, Filesystems, entry_of, files_at, files_seen, no_entry, node_seen}
use Rattle.vt_fs.proofs.Numbers.{numbers_listed}
use Rattle.vt_location.proofs.NumberLemmas.{exchanged_back, exchanged_slot}
use Rattle.vt_location.specs.Numbers.{exchanged, inode_number}
use Rattle.vt_overlay.proofs.RanksSeen.{ranked_seen}
use Rattle.vt_upper_overlay.proofs.Ranked.{some_ranked}
use Rattle.vt_fs.specs.Trees.Names.{HoldsNames}
use Rattle.vt_fs.specs.Trees.TreeValue.{TreeValue, tree_of}

-- what passes stands in a list, or no number passes
one_passes : (test : ℕ → Bool) (one : ℕ) → test one ≡ true → (list : List ℕ) → is_among nat_eq one list ≡ true
    → list_any test list ≡ true
one_passes test one passes [] among = absurd (true≢false (sym among))
one_passes test one passes (first ∷ rest) among =
    grind (arith, common_steps, one_passes test one passes rest, eqb-true)

none_passes : (test : ℕ → Bool) → ((number : ℕ) → test number ≡ false) → (list : List ℕ) → list_any test list ≡ false
none_passes test fails [] = refl
none_passes test fails (first ∷ rest) = cc (none_passes test fails rest, fails first)

-- what stands in a list stands at an index
at_index : (one : ℕ) (list : List ℕ) → is_among nat_eq one list ≡ true
    → (k : ℕ) × (k < length list) × (slice_index_or list k 0 ≡ one)
at_index one [] among = absurd (true≢false (sym among))
at_index one (first ∷ rest) among = by (nat_eq one first) refl among (at_index one rest)
  where
    by : (b : Bool) → nat_eq one first ≡ b → (b || is_among nat_eq one rest) ≡ true
        → (is_among nat_eq one rest ≡ true → (k : ℕ) × (k < length rest) × (slice_index_or rest k 0 ≡ one))
        → (k : ℕ) × (k < length (first ∷ rest)) × (slice_index_or (first ∷ rest) k 0 ≡ one)
    by true e f later = (0, omega arith, sym (eqb-true one first e))
    by false e f later = let found = later f in (suc found.0, omega (arith, found.1), found.2)

pub nodes_found : (trees : Filesystems) (count : ℕ) (tree : TreeValue)
    → Some tree ≡ option_map (λ (entry : FilesystemEntry). entry.tree) (entry_of trees count) → (number : ℕ)
    → option_map (node_seen count) ((tree_of tree).node (exchanged count number))
    ≡ (files_at trees count).tree.node number
nodes_found trees count tree is number = by (entry_of trees count) refl is
  where
    by : (o : Option FilesystemEntry) → entry_of trees count ≡ o
        → Some tree ≡ option_map (λ (entry : FilesystemEntry). entry.tree) o
        → option_map (node_seen count) ((tree_of tree).node (exchanged count number))
        ≡ (files_seen (unwrap_or (entry_of trees count) (no_entry count))).tree.node number
    by None e f = none_is_some tree (sym f)
    by (Some entry) e f =
        let same = eqb-true count entry.count (found_passes (λ (one : FilesystemEntry). nat_eq count one.count)
        trees entry e) in
        grind (arith, common_steps, same_Some tree entry.tree f)

seen_targets : (count : ℕ) (o : Option (Node ℕ)) (slot : ℕ)
    → is_among nat_eq (exchanged count slot) (targets_in (option_map (node_seen count) o))
    ≡ is_among nat_eq slot (targets_in o)
seen_targets count None slot = refl
seen_targets count (Some node) slot =
    sym (some_ranked (exchanged count slot) (entries_in (Some (node_seen count node))))
    ∙ sym (ap is_some (ranked_seen count node slot 0)) ∙ some_ranked slot (entries_of node.content)

-- what has an entry is there
has_node : (object : ℕ) (o : Option (Node ℕ)) → is_among nat_eq object (targets_in o) ≡ true → is_some o ≡ true
has_node object o e = grind (arith, common_steps)

-- a directory that has a name for an object, and passes a test, is one of the tree
module _ (plain : Filesystems) (count object : ℕ) (passes : ℕ → Bool) where
  abbrev names : ℕ → Bool
  names number = has_entry_to nat_eq (files_at plain count).tree number object && passes number

  pub one_listed : (number : ℕ) → names number ≡ true → list_any names (files_at plain count).numbers ≡ true
  one_listed number true_is = one_passes names number true_is (files_at plain count).numbers
      (listed (has_entry_to nat_eq (files_at plain count).tree number object) refl true_is)
    where
      listed : (b : Bool) → has_entry_to nat_eq (files_at plain count).tree number object ≡ b
          → (b && passes number) ≡ true → is_among nat_eq number (files_at plain count).numbers ≡ true
      listed true named passing = grind (arith, common_steps, numbers_listed, has_node, named)
      listed false named passing = absurd (true≢false (sym passing))

-- Directories that have a name for the inode in a slot, and pass a test
module _ (plain : Filesystems) (count : ℕ) (passes : ℕ → Bool) (tree : TreeValue)
    (is : Some tree ≡ option_map (λ (entry : FilesystemEntry). entry.tree) (entry_of plain count))
    (slot : ℕ) (small : slot < 18446744073709551616) (directories : List ℕ)
    (holds : HoldsNames (tree_of tree) slot directories) where
  entry_seen : (number : ℕ) → has_entry_to nat_eq (files_at plain count).tree number (inode_number count slot)
      ≡ has_entry_to nat_eq (tree_of tree) (exchanged count number) slot
  entry_seen number = (λ i. is_among nat_eq (sym (exchanged_slot count slot small) i)
      (targets_in (sym (nodes_found plain count tree is number) i)))
      ∙ seen_targets count ((tree_of tree).node (exchanged count number)) slot

  abbrev test : ℕ → Bool
  test number = has_entry_to nat_eq (files_at plain count).tree number (inode_number count slot) && passes number

  pub one_passing : (number : ℕ) → test number ≡ true → list_any test (files_at plain count).numbers ≡ true
  one_passing = one_listed plain count (inode_number count slot) passes

  -- where none of those that are listed passes, none does
  pub none_passing : ((k : ℕ) → k < length directories → test (exchanged count (slice_index_or directories k 0)) ≡ false)
      → list_any test (files_at plain count).numbers ≡ false
  none_passing fails = none_passes test each (files_at plain count).numbers
    where
      by : (number : ℕ) (b : Bool)
          → has_entry_to nat_eq (files_at plain count).tree number (inode_number count slot) ≡ b
          → (b && passes number) ≡ false
      by number true named =
          let found = at_index (exchanged count number) directories
          (holds (exchanged count number) (sym (entry_seen number) ∙ named)) in
          sym (ap (λ b. b && passes number) named)
          ∙ sym (ap test (ap (exchanged count) found.2 ∙ exchanged_back count number)) ∙ fails found.0 found.1
      by number false named = refl

      each : (number : ℕ) → test number ≡ false
      each number = by number (has_entry_to nat_eq (files_at plain count).tree number (inode_number count slot)) refl

  -- so as many of those that are listed pass
  pub any_passing : list_any (λ directory. test (exchanged count directory)) directories
      ≡ list_any test (files_at plain count).numbers
  any_passing = by (list_any (λ directory. test (exchanged count directory)) directories) refl
    where
      by : (b : Bool) → list_any (λ directory. test (exchanged count directory)) directories ≡ b
          → list_any (λ directory. test (exchanged count directory)) directories
          ≡ list_any test (files_at plain count).numbers
      by true e =
          let some = any_among (λ directory. test (exchanged count directory)) directories e in
          e ∙ sym (one_passing (exchanged count some.0) some.2)
      by false e = e ∙ sym (none_passes test (λ number. unlisted number
          (has_entry_to nat_eq (files_at plain count).tree number (inode_number count slot)) refl) (files_at plain count).numbers)
        where
          unlisted : (number : ℕ) (b : Bool)
              → has_entry_to nat_eq (files_at plain count).tree number (inode_number count slot) ≡ b
              → (b && passes number) ≡ false
          unlisted number true named =
              sym (ap (λ b. b && passes number) named) ∙ sym (ap test (exchanged_back count number))
              ∙ none_among (λ directory. test (exchanged count directory)) directories e (exchanged count number)
              (among_numbers directories (exchanged count number)
              (holds (exchanged count number) (sym (entry_seen number) ∙ named)))
          unlisted number false named = refl
