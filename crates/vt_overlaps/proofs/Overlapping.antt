-- Some inode of a plain filesystem passes a test just if one in some slot does.
use Rattle.std.proofs.Common.{Bool, None, Option, Some, [], ◌∷◌, List, ap, arith, eqb-true, false, is_some, nat_eq, option_map, refl, subst, sym, true, true≢false, ℕ, ◌<◌, ◌≤◌, ◌||◌, ◌&&◌, ◌∙◌, ◌≡◌, unwrap_or, nat_lt, ltb-true, ltb-false}
use Rattle.vt_spec.proofs.Common.{is_among, list_any, none_is_some, common_steps}
use Rattle.vt_spec.specs.Inodes.{Inode, node_in}
use Rattle.vt_fs.specs.FilesystemsValue.{FilesystemEntry, Filesystems, entry_of, files_at, files_seen, no_entry, node_seen}
use Rattle.vt_fs.specs.Trees.TreeValue.{TreeValue, inodes_of}
use Rattle.vt_fs.proofs.Numbers.{numbers_listed}
use Rattle.vt_location.proofs.NumberLemmas.{exchanged_back, exchanged_slot}
use Rattle.vt_location.specs.Numbers.{exchanged, inode_number}
use Rattle.vt_upper_overlay.proofs.NamesFound.{nodes_found}

pub is_some-map : {A B : Type 0} (f : A → B) (o : Option A) → is_some (option_map f o) ≡ is_some o
is_some-map f None = refl
is_some-map f (Some a) = refl

-- one of a list passes, or none does
one_of : (test : ℕ → Bool) (one : ℕ) → test one ≡ true → (list : List ℕ) → is_among nat_eq one list ≡ true
    → list_any test list ≡ true
one_of test one passes [] among = absurd (true≢false (sym among))
one_of test one passes (first ∷ rest) among = grind (arith, common_steps, one_of test one passes rest, eqb-true)

none_of : (test : ℕ → Bool) (list : List ℕ)
    → ((number : ℕ) → is_among nat_eq number list ≡ true → test number ≡ false) → list_any test list ≡ false
none_of test [] fails = refl
none_of test (first ∷ rest) fails =
    let here : test first ≡ false = fails first (own first) in
    (λ i. here i || none_of test rest (λ number among. fails number (later number among)) i)
  where
    own : (one : ℕ) → is_among nat_eq one (one ∷ rest) ≡ true
    own one = grind (arith, common_steps)

    later : (number : ℕ) → is_among nat_eq number rest ≡ true → is_among nat_eq number (first ∷ rest) ≡ true
    later number among = by (nat_eq number first)
      where
        by : (b : Bool) → (b || is_among nat_eq number rest) ≡ true
        by true = refl
        by false = among

listed : (plain : Filesystems) (count number : ℕ)
    → is_among nat_eq number (files_at plain count).numbers ≡ is_some ((files_at plain count).tree.node number)
listed plain count number = numbers_listed (unwrap_or (entry_of plain count) (no_entry count)) number

-- a test that inodes of a plain filesystem pass
module _ (plain : Filesystems) (count : ℕ) (test : ℕ → Bool) where
  -- one that is there passes
  pub one_passes : (number : ℕ) → (is_some ((files_at plain count).tree.node number) && test number) ≡ true
      → list_any test (files_at plain count).numbers ≡ true
  one_passes number both = by (is_some ((files_at plain count).tree.node number)) refl both
    where
      by : (there : Bool) → is_some ((files_at plain count).tree.node number) ≡ there
          → (there && test number) ≡ true → list_any test (files_at plain count).numbers ≡ true
      by true is passes = one_of test number passes (files_at plain count).numbers (listed plain count number ∙ is)
      by false is passes = absurd (true≢false (sym passes))

  -- none does in a filesystem that does not exist
  pub none_there : option_map (λ (entry : FilesystemEntry). entry.tree) (entry_of plain count) ≡ None
      → list_any test (files_at plain count).numbers ≡ false
  none_there none = by (entry_of plain count) none
    where
      by : (o : Option FilesystemEntry) → option_map (λ (entry : FilesystemEntry). entry.tree) o ≡ None
          → list_any test (files_seen (unwrap_or o (no_entry count))).numbers ≡ false
      by None e = refl
      by (Some entry) e = none_is_some entry.tree (sym e)

  module _ (tree : TreeValue)
      (is : Some tree ≡ option_map (λ (entry : FilesystemEntry). entry.tree) (entry_of plain count))
      (end : ℕ) (small : end ≤ 18446744073709551616)
      (above : (id : ℕ) → end ≤ id → (inodes_of tree).inode id ≡ None)
      (each : (k : ℕ) → k < end → (is_some ((files_at plain count).tree.node (inode_number count k))
      && test (inode_number count k)) ≡ false) where
    not_here : (number : ℕ) → is_some ((files_at plain count).tree.node number) ≡ true → test number ≡ false
    not_here number there = by (nat_lt (exchanged count number) end) refl
      where
        by : (b : Bool) → nat_lt (exchanged count number) end ≡ b → test number ≡ false
        by true e =
            let within = ltb-true (exchanged count number) end e in
            let itself = sym (exchanged_slot count (exchanged count number) (omega (arith, within, small)))
            ∙ exchanged_back count number in
            ap (λ b. b && test number) (sym there)
            ∙ subst (λ n. (is_some ((files_at plain count).tree.node n) && test n) ≡ false) itself
            (each (exchanged count number) within)
        by false e = absurd (true≢false (sym there
            ∙ ap is_some (sym (nodes_found plain count tree is number)
            ∙ ap (λ (o : Option (Inode ℕ)). option_map (node_seen count) (node_in o))
            (above (exchanged count number) (ltb-false (exchanged count number) end e)))))

    -- if none in a slot passes, none does
    pub none_passes : list_any test (files_at plain count).numbers ≡ false
    none_passes = none_of test (files_at plain count).numbers (λ number among.
        not_here number (sym (listed plain count number) ∙ among))
