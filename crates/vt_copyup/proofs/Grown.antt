-- What copies leave as it was: all that was there, but for one name more in the directory in which they begin.
use Rattle.std.proofs.Common.{◌≡◌, ◌≢◌, ◌∙◌, ◌+◌, ◌≤◌, ◌∷◌, [], arith, ap, Bool, cond, Equal, eqb-true, false, Greater, is_some, length, Less, List, map, nat_eq, None, Option, refl, Some, sym, true, true≢false, ℕ}
use Rattle.std.specs.declared.cmp.Ordering.{Ordering}
use Rattle.std.specs.Ordering.{eq_by_cmp}
use Rattle.vt_spec.proofs.Common.{Entries, Inode, Inodes, Make, Node, by_order, directory_used, entries-node_with_entry, entries_in, entry_at, entry_named, entry_named-with_entry, inode_with_node, is_directory-node_with_entry, is_directory_node, is_some-node_with_entry, name_cmp, nat_eq_itself, node_in, node_with_entry, tree_of, with_entry}
use Rattle.vt_spec.proofs.Nodes.{same_name}
use Rattle.vt_spec.specs.Inodes as counting
use Rattle.vt_spec.specs.TreeInvariant.{IsDirectory}
use Rattle.vt_laws_worlds.specs.Merging.UpperChanges.{copy_node}
use Rattle.vt_laws_worlds.specs.Seen.CopySteps.{Copy}
use Rattle.vt_copyup.specs.Forks.{HeadsDiffer}
use Rattle.vt_copyup.specs.Made.{AreFree, with_copies}

pub not_eq : (a b : ℕ) → a ≢ b → nat_eq a b ≡ false
not_eq a b apart = by (nat_eq a b) refl
  where
    by : (same : Bool) → nat_eq a b ≡ same → nat_eq a b ≡ false
    by false e = e
    by true e = absurd (apart (eqb-true a b e))

-- what is there is not what is free
pub is_other : (inodes : Inodes ℕ) (free n : ℕ) → node_in (inodes.inode free) ≡ None
    → is_some (node_in (inodes.inode n)) ≡ true → n ≢ free
is_other inodes free n none there e = true≢false (sym there ∙ ap (λ m. is_some (node_in (inodes.inode m))) e
    ∙ ap is_some none)

-- an entry more of an inode
entered : (name : List ℕ) (number : ℕ) (inode : Option (Inode ℕ))
    → node_in (inode_with_node (node_with_entry name number (node_in inode)) inode)
    ≡ node_with_entry name number (node_in inode)
entered name number None = refl
entered name number (Some inode) = refl

-- one copy
module _ (inodes : Inodes ℕ) (d : ℕ) (name : List ℕ) (number : ℕ) (node : Node ℕ) where
  abbrev after : Inodes ℕ
  after = counting.changed nat_eq inodes (Make d name number node)

  abbrev new : Option (Inode ℕ)
  new = Some (record { node = node; uses = 1 })

  abbrev grown : Option (Inode ℕ)
  grown = inode_with_node (node_with_entry name number (node_in (inodes.inode d))) (inodes.inode d)

  one_stays : (n : ℕ) → n ≢ number → n ≢ d → after.inode n ≡ inodes.inode n
  one_stays n other elsewhere =
      ap (λ b. cond b new (cond (nat_eq n d) grown (inodes.inode n))) (not_eq n number other)
      ∙ ap (λ b. cond b grown (inodes.inode n)) (not_eq n d elsewhere)

  pub one_grown : d ≢ number → after.inode d ≡ grown
  one_grown other =
      ap (λ b. cond b new (cond (nat_eq d d) grown (inodes.inode d))) (not_eq d number other)
      ∙ ap (λ b. cond b grown (inodes.inode d)) (nat_eq_itself d)

  pub one_made : after.inode number ≡ new
  one_made = ap (λ b. cond b new (cond (nat_eq number d) grown (inodes.inode number))) (nat_eq_itself number)

-- copies
pub stays : (copies : List Copy) (inodes : Inodes ℕ) (d : ℕ) → AreFree inodes d copies → (n : ℕ)
    → is_some (node_in (inodes.inode n)) ≡ true → n ≢ d → (with_copies inodes d copies).inode n ≡ inodes.inode n
stays [] inodes d free n there other = refl
stays (copy ∷ rest) inodes d free n there other =
    let node : Node ℕ = copy_node d copy.node in
    let new : n ≢ copy.number = is_other inodes copy.number n free.0 there in
    let same = one_stays inodes d copy.name copy.number node n new other in
    stays rest (counting.changed nat_eq inodes (Make d copy.name copy.number node)) copy.number free.1 n
    (ap (λ i. is_some (node_in i)) same ∙ there) new ∙ same

pub begins : (copy : Copy) (rest : List Copy) (inodes : Inodes ℕ) (d : ℕ) → AreFree inodes d (copy ∷ rest)
    → is_some (node_in (inodes.inode d)) ≡ true
    → (with_copies inodes d (copy ∷ rest)).inode d
    ≡ inode_with_node (node_with_entry copy.name copy.number (node_in (inodes.inode d))) (inodes.inode d)
begins copy rest inodes d free there =
    let node : Node ℕ = copy_node d copy.node in
    let other : d ≢ copy.number = is_other inodes copy.number d free.0 there in
    let at = one_grown inodes d copy.name copy.number node other in
    stays rest (counting.changed nat_eq inodes (Make d copy.name copy.number node)) copy.number free.1 d
    (ap (λ i. is_some (node_in i)) at ∙ ap is_some (entered copy.name copy.number (inodes.inode d))
    ∙ is_some-node_with_entry copy.name copy.number (node_in (inodes.inode d)) ∙ there) other
    ∙ at

-- with an entry more there is at most one more
more_entries : (name : List ℕ) (number : ℕ) (entries : Entries ℕ)
    → length (with_entry name number entries) ≤ length entries + 1
more_entries name number [] = omega arith
more_entries name number (first ∷ entries) = by (name_cmp name first.0) (more_entries name number entries)
  where
    by : (o : Ordering) → length (with_entry name number entries) ≤ length entries + 1
        → length (by_order o ((name, number) ∷ first ∷ entries) ((first.0, number) ∷ entries)
        (first ∷ with_entry name number entries)) ≤ length (first ∷ entries) + 1
    by Less rest = omega arith
    by Equal rest = omega arith
    by Greater rest = omega (arith, rest)

-- and another name leads where it led
pub other_entry : (q name : List ℕ) (number : ℕ) (entries : Entries ℕ) → name ≢ q
    → entry_named q (with_entry name number entries) ≡ entry_named q entries
other_entry q name number entries apart = entry_named-with_entry q name number entries
    ∙ by (eq_by_cmp name_cmp q name) refl
  where
    by : (b : Bool) → eq_by_cmp name_cmp q name ≡ b
        → cond b (Some number) (entry_named q entries) ≡ entry_named q entries
    by false e = refl
    by true e = absurd (apart (sym (same_name q name e)))

-- A directory that was there, and a name in it under which nothing is copied
pub record IsBeside (was now : Inodes ℕ) (e : ℕ) (name : List ℕ) : Type 0 where
  pub directory : IsDirectory (tree_of now) e
  pub entry : entry_at (tree_of now) e name ≡ entry_at (tree_of was) e name
  pub few : length (entries_in ((tree_of now).node e)) ≤ length (entries_in ((tree_of was).node e)) + 1

module _ (inodes : Inodes ℕ) (d : ℕ) (copies : List Copy) (free : AreFree inodes d copies) (e : ℕ)
    (directory : IsDirectory (tree_of inodes) e) (name : List ℕ) where
  abbrev now : Inodes ℕ
  now = with_copies inodes d copies

  same_inode : now.inode e ≡ inodes.inode e → IsBeside inodes now e name
  same_inode same =
      let few = ap (λ i. length (entries_in (node_in i))) same in
      record {
        directory = ap (λ i. is_directory_node (node_in i)) same ∙ directory;
        entry = ap (λ i. entry_named name (entries_in (node_in i))) same;
        few = omega (arith, few);
      }

  pub beside : (e ≡ d → HeadsDiffer (map (λ (copy : Copy). copy.name) copies) (name ∷ []))
      → IsBeside inodes now e name
  beside differ = by (nat_eq e d) refl
    where
      begun : (copies : List Copy) → AreFree inodes d copies → e ≡ d
          → HeadsDiffer (map (λ (copy : Copy). copy.name) copies) (name ∷ [])
          → IsBeside inodes (with_copies inodes d copies) e name
      begun [] free at differ =
          record { directory = directory; entry = refl; few = omega arith }
      begun (copy ∷ rest) free at differ =
          let node = node_in (inodes.inode e) in
          let there = directory_used (tree_of inodes) e directory in
          let inode : (with_copies inodes d (copy ∷ rest)).inode e
          ≡ inode_with_node (node_with_entry copy.name copy.number (node_in (inodes.inode e))) (inodes.inode e) =
          ap (λ n. (with_copies inodes d (copy ∷ rest)).inode n) at
          ∙ begins copy rest inodes d free (ap (λ n. is_some (node_in (inodes.inode n))) (sym at) ∙ there)
          ∙ ap (λ n. inode_with_node (node_with_entry copy.name copy.number (node_in (inodes.inode n)))
          (inodes.inode n)) (sym at) in
          let same : node_in ((with_copies inodes d (copy ∷ rest)).inode e)
          ≡ node_with_entry copy.name copy.number node =
          ap node_in inode ∙ entered copy.name copy.number (inodes.inode e) in
          let entries = ap entries_in same ∙ entries-node_with_entry copy.name copy.number node directory in
          let few = ap length entries in
          let more = more_entries copy.name copy.number (entries_in node) in
          record {
            directory = ap is_directory_node same
                ∙ is_directory-node_with_entry copy.name copy.number node ∙ directory;
            entry = ap (entry_named name) entries
                ∙ other_entry name copy.name copy.number (entries_in node) differ;
            few = omega (arith, few, more);
          }

      by : (b : Bool) → nat_eq e d ≡ b → IsBeside inodes now e name
      by false other = same_inode (stays copies inodes d free e (directory_used (tree_of inodes) e directory)
          (λ at. true≢false (sym (ap (λ n. nat_eq n d) at ∙ nat_eq_itself d) ∙ other)))
      by true same =
          let at : e ≡ d = eqb-true e d same in begun copies free at (differ at)
