-- All inodes of a plain filesystem have names, if those in all its slots have.
use Rattle.std.proofs.Common.{Bool, None, Option, Some, ap, arith, false, is_some, nat_eq, ne_eqb, not, option_map, refl, subst, sym, true, true≢false, ℕ, ◌<◌, ◌≤◌, ◌||◌, ◌∙◌, ◌≡◌, unwrap_or, nat_lt, ltb-true, ltb-false}
use Rattle.vt_spec.proofs.Common.{among_from_list_all, among_numbers, is_among, is_among_numbers, list_all_from_among, named_in, none_is_some, same_Some}
use Rattle.vt_spec.specs.Inodes.{Inode, node_in}
use Rattle.vt_spec.specs.Machine.Sealed.{all_named}
use Rattle.vt_fs.specs.FilesystemsValue.{FilesystemEntry, Filesystems, entry_of, files_at, files_seen, inodes_seen, no_entry, node_seen}
use Rattle.vt_fs.specs.Trees.TreeValue.{TreeValue, inodes_of}
use Rattle.vt_fs.proofs.Numbers.{numbers_listed}
use Rattle.vt_location.proofs.NumberLemmas.{counted_inode, exchanged_back, exchanged_slot}
use Rattle.vt_location.specs.Numbers.{counted, exchanged, inode_number}
use Rattle.vt_upper_overlay.proofs.NamesFound.{nodes_found}
use Rattle.vt_store.specs.Naming.{lacks_no_name}

listed : (plain : Filesystems) (count number : ℕ)
    → is_among nat_eq number (files_at plain count).numbers ≡ is_some ((files_at plain count).tree.node number)
listed plain count number = numbers_listed (unwrap_or (entry_of plain count) (no_entry count)) number

module _ (plain : Filesystems) (count : ℕ) (tree : TreeValue)
    (is : Some tree ≡ option_map (λ (entry : FilesystemEntry). entry.tree) (entry_of plain count)) where
  abbrev named : ℕ → Bool
  named number =
      nat_eq number (files_at plain count).tree.root || is_among nat_eq number (named_in (files_at plain count))

  -- an inode without a name
  pub one-nameless : (number : ℕ) → lacks_no_name (files_at plain count) number ≡ false
      → all_named nat_eq (files_at plain count) ≡ false
  one-nameless number nameless =
      by (is_some ((files_at plain count).tree.node number)) refl (all_named nat_eq (files_at plain count)) refl nameless
    where
      by : (there : Bool) → is_some ((files_at plain count).tree.node number) ≡ there
          → (all : Bool) → all_named nat_eq (files_at plain count) ≡ all → (not there || named number) ≡ false
          → all ≡ false
      by false there_is all all_is e = absurd (true≢false e)
      by true there_is false all_is e = refl
      by true there_is true all_is e = absurd (true≢false (sym (among_from_list_all named (files_at plain count).numbers
          all_is number (among_numbers (files_at plain count).numbers number (listed plain count number ∙ there_is)))
          ∙ e))

  module _ (end : ℕ) (small : end ≤ 18446744073709551616)
      (above : (id : ℕ) → end ≤ id → (inodes_of tree).inode id ≡ None)
      (each : (k : ℕ) → k < end → lacks_no_name (files_at plain count) (inode_number count k) ≡ true) where
    named-there : (number : ℕ) → is_some ((files_at plain count).tree.node number) ≡ true → named number ≡ true
    named-there number there = by (nat_lt (exchanged count number) end) refl
      where
        by : (b : Bool) → nat_lt (exchanged count number) end ≡ b → named number ≡ true
        by true e =
            let within = ltb-true (exchanged count number) end e in
            let itself = sym (exchanged_slot count (exchanged count number) (omega (arith, within, small)))
            ∙ exchanged_back count number in
            ap (λ b. not b || named number) (sym there)
            ∙ subst (λ n. lacks_no_name (files_at plain count) n ≡ true) itself (each (exchanged count number) within)
        by false e = absurd (true≢false (sym there
            ∙ ap is_some (sym (nodes_found plain count tree is number)
            ∙ ap (λ (o : Option (Inode ℕ)). option_map (node_seen count) (node_in o))
            (above (exchanged count number) (ltb-false (exchanged count number) end e)))))

    pub all-named : all_named nat_eq (files_at plain count) ≡ true
    all-named = list_all_from_among named (files_at plain count).numbers (λ number among.
        named-there number (sym (listed plain count number)
        ∙ is_among_numbers (files_at plain count).numbers number among))

-- of a filesystem that does not exist
pub none-named : (plain : Filesystems) (count : ℕ)
    → option_map (λ (entry : FilesystemEntry). entry.tree) (entry_of plain count) ≡ None
    → all_named nat_eq (files_at plain count) ≡ true
none-named plain count none = by (entry_of plain count) none
  where
    by : (o : Option FilesystemEntry) → option_map (λ (entry : FilesystemEntry). entry.tree) o ≡ None
        → all_named nat_eq (files_seen (unwrap_or o (no_entry count))) ≡ true
    by None e = refl
    by (Some entry) e = none_is_some entry.tree (sym e)

-- the root of a filesystem

module _ (plain : Filesystems) (count slot : ℕ) where
  pub root-there : (root : ℕ)
      → Some root ≡ option_map (λ (entry : FilesystemEntry). (inodes_seen entry).root) (entry_of plain count)
      → root ≡ (files_at plain count).tree.root
  root-there root is = by (entry_of plain count) is
    where
      by : (o : Option FilesystemEntry) → Some root ≡ option_map (λ (entry : FilesystemEntry). (inodes_seen entry).root) o
          → root ≡ (files_seen (unwrap_or o (no_entry count))).tree.root
      by None e = none_is_some root (sym e)
      by (Some entry) e = same_Some root _ e

  pub missing-root : option_map (λ (entry : FilesystemEntry). (inodes_seen entry).root) (entry_of plain count) ≡ None
      → nat_eq (inode_number count slot) (files_at plain count).tree.root ≡ false
  missing-root none = by (entry_of plain count) none
    where
      by : (o : Option FilesystemEntry) → option_map (λ (entry : FilesystemEntry). (inodes_seen entry).root) o ≡ None
          → nat_eq (inode_number count slot) (files_seen (unwrap_or o (no_entry count))).tree.root ≡ false
      by None e = ap (nat_eq (inode_number count slot)) (exchanged_back count (counted count))
          ∙ ne_eqb (inode_number count slot) (counted count) (λ same. absurd (counted_inode count count slot (sym same)))
      by (Some entry) e = none_is_some (inodes_seen entry).root (sym e)
