-- A directory loses its names one after the other.
use Rattle.std.proofs.Common.{◌≡◌, ◌≢◌, ◌∙◌, ◌++◌, ◌∷◌, [], ap, arith, Bool, cond, eqb-true, false, is_eq, List, map, nat_eq, None, not, Option, refl, Some, sym, true, true≢false, ℕ}
use Rattle.std.specs.Ordering.{is_lt}
use Rattle.std.specs.Str.{bytes_eq}
use Rattle.vt_spec.proofs.Common.{Change, Entries, Inode, Inodes, Node, Remove, Tree, and_parts, and_true_left, and_true_right, below_all, bytes_eq-Decides, bytes_eq_itself, common_steps, directory_from_entry, entries-node_without_entry, entries_in, entry_named, entry_named-below, eq_by_cmp, inode_with_node, is_directory-node_with_parent, is_directory_node, is_sorted, name_cmp, nat_eq_itself, nat_list_cmp_total, node_in, node_with_parent, node_without_entry, none_is_some, tied_itself, tree_of, used_once_less, without_entry, ⊤}
use Rattle.vt_spec.proofs.Nodes.{same_name}
use Rattle.vt_spec.proofs.Truths.{less_is_not_equal}
use Rattle.vt_spec.specs.Inodes as counting
use Rattle.vt_spec.specs.Lists.{folded}

-- the changes that take these names away
abbrev pub removing : ℕ → Entries ℕ → List (Change ℕ)
removing d entries = map (λ entry. Remove d entry.0 entry.1) entries

-- none of these is a directory
abbrev pub ArePlain : Tree ℕ → Entries ℕ → Type 0
ArePlain tree [] = ⊤
ArePlain tree (entry ∷ rest) = (is_directory_node (tree.node entry.1) ≡ false) × ArePlain tree rest

-- a smaller name is none of these
differs : (name other : List ℕ) → is_lt (name_cmp name other) ≡ true → bytes_eq other name ≡ false
differs name other less = by (bytes_eq other name) refl
  where
    by : (b : Bool) → bytes_eq other name ≡ b → bytes_eq other name ≡ false
    by false e = e
    by true e =
        let same : other ≡ name = (bytes_eq-Decides other name).0 e in
        absurd (true≢false (sym (ap is_eq (tied_itself nat_list_cmp_total name))
        ∙ less_is_not_equal (name_cmp name name) (ap (λ o. is_lt (name_cmp name o)) (sym same) ∙ less)))

without_below : (name : List ℕ) (entries : Entries ℕ) → below_all name_cmp name entries ≡ true
    → without_entry name entries ≡ entries
without_below name [] below = refl
without_below name (entry ∷ rest) below =
    let parts = and_parts (is_lt (name_cmp name entry.0)) (below_all name_cmp name rest) below in
    ap (λ b. cond (not b) (entry ∷ without_entry name rest) (without_entry name rest)) (differs name entry.0 parts.0)
    ∙ ap (λ l. entry ∷ l) (without_below name rest parts.1)

-- the first of some names is not among the others
pub own_gone : (e : List ℕ × ℕ) (es : Entries ℕ) → is_sorted name_cmp (e ∷ es) ≡ true → without_entry e.0 (e ∷ es) ≡ es
own_gone e es h =
    ap (λ b. cond (not b) (e ∷ without_entry e.0 es) (without_entry e.0 es)) (bytes_eq_itself e.0)
    ∙ without_below e.0 es (and_true_left (below_all name_cmp e.0 es) _ h)

pub first_named : (e : List ℕ × ℕ) (es : Entries ℕ) → entry_named e.0 (e ∷ es) ≡ Some e.1
first_named e es = ap (λ o. cond (is_eq o) (Some e.1) (entry_named e.0 es)) (tied_itself nat_list_cmp_total e.0)

-- what has entries is a directory
pub has_first : (o : Option (Node ℕ)) (e : List ℕ × ℕ) (es : Entries ℕ) → entries_in o ≡ e ∷ es
    → is_directory_node o ≡ true
has_first o e es is = directory_from_entry e.0 e.1 o (ap (entry_named e.0) is ∙ first_named e es)

-- a name of later entries leads there still
later_named : (e : List ℕ × ℕ) (es : Entries ℕ) → is_sorted name_cmp (e ∷ es) ≡ true → (word : List ℕ) (k : ℕ)
    → entry_named word es ≡ Some k → entry_named word (e ∷ es) ≡ Some k
later_named e es h word k f = by (eq_by_cmp name_cmp word e.0) refl
  where
    by : (b : Bool) → eq_by_cmp name_cmp word e.0 ≡ b → cond b (Some e.1) (entry_named word es) ≡ Some k
    by false t = f
    by true t = none_is_some k (sym (entry_named-below e.0 es
        (and_true_left (below_all name_cmp e.0 es) _ h))
        ∙ ap (λ n. entry_named n es) (sym (same_name word e.0 t)) ∙ f)

-- the name of an entry leads where that does
pub named_in : (front rest : Entries ℕ) (e : List ℕ × ℕ) → is_sorted name_cmp (front ++ e ∷ rest) ≡ true
    → entry_named e.0 (front ++ e ∷ rest) ≡ Some e.1
named_in [] rest e h = first_named e rest
named_in (x ∷ front) rest e h = later_named x (front ++ e ∷ rest) h e.0 e.1
    (named_in front rest e (and_true_right (below_all name_cmp x.0 (front ++ e ∷ rest)) _ h))

-- what names lead to, of all entries
pub plain_entries : (tree : Tree ℕ) (es : Entries ℕ) → is_sorted name_cmp es ≡ true
    → ((word : List ℕ) (k : ℕ) → entry_named word es ≡ Some k → is_directory_node (tree.node k) ≡ false)
    → ArePlain tree es
plain_entries tree [] h plain = tt
plain_entries tree (e ∷ es) h plain = (
  plain e.0 e.1 (first_named e es),
  plain_entries tree es (and_true_right (below_all name_cmp e.0 es) _ h)
      (λ word k f. plain word k (later_named e es h word k f)),
)

-- one use less, and another parent
less_plain : (inode : Option (Inode ℕ)) → is_directory_node (node_in inode) ≡ false
    → is_directory_node (node_in (used_once_less inode)) ≡ false
less_plain inode plain = grind (arith, common_steps)

module _ (inodes : Inodes ℕ) (d o : ℕ) (name : List ℕ) where
  abbrev pub removed : Inodes ℕ
  removed = counting.changed nat_eq inodes (Remove d name o)

  abbrev before : Inodes ℕ
  before = counting.with_changed nat_eq inodes d (node_without_entry name)

  abbrev second : Inodes ℕ
  second = counting.with_changed nat_eq before o (node_with_parent o)

  without_in : (inode : Option (Inode ℕ))
      → node_in (inode_with_node (node_without_entry name (node_in inode)) inode) ≡ node_without_entry name (node_in inode)
  without_in None = refl
  without_in (Some inode) = refl

  parent_in : (inode : Option (Inode ℕ))
      → node_in (inode_with_node (node_with_parent o (node_in inode)) inode) ≡ node_with_parent o (node_in inode)
  parent_in None = refl
  parent_in (Some inode) = refl

  -- another inode has one entry less, if it is the directory
  pub removed_other : (m : ℕ) → nat_eq m o ≡ false
      → (tree_of removed).node m
      ≡ cond (nat_eq m d) (node_without_entry name ((tree_of inodes).node d)) ((tree_of inodes).node m)
  removed_other m other = by (nat_eq m o) (nat_eq m d) other
    where
      by : (b c : Bool) → b ≡ false
          → node_in (cond b (used_once_less (second.inode o))
          (cond b (inode_with_node (node_with_parent o (node_in (before.inode o))) (before.inode o))
          (cond c (inode_with_node (node_without_entry name (node_in (inodes.inode d))) (inodes.inode d))
          (inodes.inode m))))
          ≡ cond c (node_without_entry name (node_in (inodes.inode d))) (node_in (inodes.inode m))
      by true c e = absurd (true≢false e)
      by false true e = without_in (inodes.inode d)
      by false false e = refl

  -- what loses its name is no directory, if it was none
  pub removed_plain : nat_eq o d ≡ false → is_directory_node ((tree_of inodes).node o) ≡ false
      → is_directory_node ((tree_of removed).node o) ≡ false
  removed_plain other plain =
      ap (λ b. is_directory_node (node_in (cond b (used_once_less (second.inode o)) (second.inode o)))) (nat_eq_itself o)
      ∙ less_plain (second.inode o) (ap (λ b. is_directory_node (node_in (cond b (inode_with_node
      (node_with_parent o (node_in (before.inode o))) (before.inode o)) (before.inode o)))) (nat_eq_itself o)
      ∙ ap is_directory_node (parent_in (before.inode o))
      ∙ is_directory-node_with_parent o (node_in (before.inode o))
      ∙ ap (λ b. is_directory_node (node_in (cond b (inode_with_node (node_without_entry name (node_in (inodes.inode d)))
      (inodes.inode d)) (inodes.inode o)))) other ∙ plain)

-- A directory that had more names has these left; none is a directory's; and each other directory is as it was.
pub record IsEmptying (was now : Tree ℕ) (d : ℕ) (rest : Entries ℕ) : Type 0 where
  pub entries : entries_in (now.node d) ≡ rest
  pub order : is_sorted name_cmp rest ≡ true
  pub plain : ArePlain now rest
  pub others : (m : ℕ) → is_directory_node (was.node m) ≡ true → m ≢ d → now.node m ≡ was.node m

pub not_same : (m k : ℕ) → m ≢ k → nat_eq m k ≡ false
not_same m k other = by (nat_eq m k) refl
  where
    by : (b : Bool) → nat_eq m k ≡ b → nat_eq m k ≡ false
    by false e = e
    by true e = absurd (other (eqb-true m k e))

module _ (was : Tree ℕ) (d : ℕ) where
  module _ (inodes : Inodes ℕ) (e : List ℕ × ℕ) (rest : Entries ℕ)
      (is : IsEmptying was (tree_of inodes) d (e ∷ rest)) where
    abbrev now : Tree ℕ
    now = tree_of inodes

    abbrev after : Tree ℕ
    after = tree_of (removed inodes d e.1 e.0)

    pub directory : is_directory_node (now.node d) ≡ true
    directory = has_first (now.node d) e rest is.entries

    apart : (k : ℕ) → is_directory_node (now.node k) ≡ false → d ≢ k
    apart k plain s = true≢false (sym directory ∙ ap (λ n. is_directory_node (now.node n)) s ∙ plain)

    pub other : d ≢ e.1
    other = apart e.1 is.plain.0

    kind : (k : ℕ) → is_directory_node (now.node k) ≡ false → is_directory_node (after.node k) ≡ false
    kind k plain = by (nat_eq k e.1) refl
      where
        by : (b : Bool) → nat_eq k e.1 ≡ b → is_directory_node (after.node k) ≡ false
        by true s = ap (λ n. is_directory_node (after.node n)) (eqb-true k e.1 s)
            ∙ removed_plain inodes d e.1 e.0 (not_same e.1 d (λ t. other (sym t))) is.plain.0
        by false s = ap is_directory_node (removed_other inodes d e.1 e.0 k s)
            ∙ ap (λ b. is_directory_node (cond b (node_without_entry e.0 (now.node d)) (now.node k)))
            (not_same k d (λ t. apart k plain (sym t))) ∙ plain

    all_plain : (es : Entries ℕ) → ArePlain now es → ArePlain after es
    all_plain [] plain = tt
    all_plain (one ∷ es) plain = (kind one.1 plain.0, all_plain es plain.1)

    pub emptied_once : IsEmptying was after d rest
    emptied_once = record {
      entries = ap entries_in (removed_other inodes d e.1 e.0 d (not_same d e.1 other))
          ∙ ap (λ b. entries_in (cond b (node_without_entry e.0 (now.node d)) (now.node d))) (nat_eq_itself d)
          ∙ entries-node_without_entry e.0 (now.node d) ∙ ap (without_entry e.0) is.entries ∙ own_gone e rest is.order;
      order = and_true_right (below_all name_cmp e.0 rest) _ is.order;
      plain = all_plain rest is.plain.1;
      others = λ m here apart_m.
          let still = is.others m here apart_m in
          let there : m ≢ e.1 =
          λ s. true≢false (sym here ∙ ap is_directory_node (sym still) ∙ ap (λ n. is_directory_node (now.node n)) s
          ∙ is.plain.0) in
          removed_other inodes d e.1 e.0 m (not_same m e.1 there)
          ∙ ap (λ b. cond b (node_without_entry e.0 (now.node d)) (now.node m)) (not_same m d apart_m) ∙ still;
    }

  -- names in front of others
  pub emptied_front : (front rest : Entries ℕ) (inodes : Inodes ℕ) → IsEmptying was (tree_of inodes) d (front ++ rest)
      → IsEmptying was (tree_of (folded (counting.changed nat_eq) inodes (removing d front))) d rest
  emptied_front [] rest inodes is = is
  emptied_front (e ∷ front) rest inodes is =
      emptied_front front rest (counting.changed nat_eq inodes (Remove d e.0 e.1))
      (emptied_once inodes e (front ++ rest) is)
