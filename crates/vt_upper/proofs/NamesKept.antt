-- Names that an inode keeps where another one loses a name: a further name of it may be put in its place.
use Rattle.std.proofs.Common.{◌≡◌, ◌∙◌, ◌<◌, ◌≤◌, ◌∷◌, [], ap, arith, Bool, cond, eqb-true, false, is_some, List, map, nat_eq, None, not, refl, Some, subst, sym, true, true≢false, ℕ}
use Rattle.std.specs.Str.{bytes_eq}
use Rattle.vt_spec.proofs.Common.{Entries, Inodes, bytes_decides, entries_in, entries_in-no_directory, entry_at, entry_named, entry_named-without_entry, entry_to, is_directory_node, nat_eq_itself, node_in, same_Some, tree_of, uses_in, without_entry}
use Rattle.vt_copyup.proofs.Changed.{inodes_after, is_there}
use Rattle.vt_fs.specs.FilesystemsValue.{Filesystems, files_at, inodes_at}
use Rattle.vt_fs.specs.Trees.Names.{IsNamed, ListsNames, how_often, names_at}
use Rattle.vt_location.specs.declared.locations.InodeRef.{InodeRef}
use Rattle.vt_location.specs.Locations.{inode_of}
use Rattle.vt_location.specs.Numbers.{most_counted, exchanged}
use Rattle.vt_upper.specs.Leaving.{freed, freed_once}
use Rattle.vt_upper.specs.Linking.{IsLinkable}
use Rattle.vt_upper.specs.declared.making.LinkedObject.{LinkedObject}
use Rattle.vt_upper.proofs.FreedTrees.{IsFreed, few_after}
use Rattle.vt_upper.proofs.NamesFreed.{entries_else, entries_less, kind_still, there_still, uses_stay}

-- without a name fewer lead to an inode
fewer : (o : ℕ) (name : List ℕ) (entries : Entries ℕ)
    → how_often o (map (λ e. e.1) (without_entry name entries)) ≤ how_often o (map (λ e. e.1) entries)
fewer o name [] = omega arith
fewer o name (entry ∷ rest) = by (bytes_eq entry.0 name) (fewer o name rest)
  where
    by : (b : Bool)
        → how_often o (map (λ e. e.1) (without_entry name rest)) ≤ how_often o (map (λ e. e.1) rest)
        → how_often o (map (λ e. e.1) (cond (not b) (entry ∷ without_entry name rest) (without_entry name rest)))
        ≤ how_often o (map (λ e. e.1) (entry ∷ rest))
    by true few = omega (arith, few)
    by false few = omega (arith, few)

module _ (was : Inodes ℕ) (d h o : ℕ) (name : List ℕ) (other : nat_eq h d ≡ false) (used : 0 < uses_in (was.inode h))
    (led : entry_at (tree_of was) d name ≡ Some h) (apart : nat_eq h o ≡ false) where
  abbrev now : Inodes ℕ
  now = freed_once d was (name, h)

  lists_still : (directories : List ℕ) → ListsNames (tree_of was) o directories → ListsNames (tree_of now) o directories
  lists_still directories lists m = by (nat_eq m d) refl
    where
      by : (b : Bool) → nat_eq m d ≡ b → names_at (tree_of now) o m ≤ how_often m directories
      by true e =
          let at : m ≡ d = eqb-true m d e in
          let less = fewer o name (entries_in (node_in (was.inode d))) in
          let there = lists d in
          subst (λ n. names_at (tree_of now) o n ≤ how_often n directories) (sym at)
          (subst (λ (es : Entries ℕ). how_often o (map (λ e. e.1) es) ≤ how_often d directories)
          (sym (entries_less was d h name other used)) (omega (arith, less, there)))
      by false e = subst (λ (es : Entries ℕ). how_often o (map (λ e. e.1) es) ≤ how_often m directories)
          (sym (entries_else was d h name other used m e)) (lists m)

  named_still : IsNamed (tree_of was) o → IsNamed (tree_of now) o
  named_still is = by (nat_eq is.directory d) refl
    where
      another : is.directory ≡ d → bytes_eq is.name name ≡ false
      another at = test (bytes_eq is.name name) refl
        where
          test : (b : Bool) → bytes_eq is.name name ≡ b → bytes_eq is.name name ≡ false
          test false e = e
          test true e =
              let same : h ≡ o = same_Some h o (sym led
              ∙ (λ i. entry_at (tree_of was) (sym at i) (sym ((bytes_decides is.name name).0 e) i)) ∙ is.leads) in
              absurd (true≢false (sym (ap (λ n. nat_eq h n) (sym same) ∙ nat_eq_itself h) ∙ apart))

      by : (b : Bool) → nat_eq is.directory d ≡ b → IsNamed (tree_of now) o
      by true e =
          let at : is.directory ≡ d = eqb-true is.directory d e in
          record {
            directory = d;
            name = is.name;
            leads = ap (entry_named is.name) (entries_less was d h name other used)
                ∙ entry_named-without_entry is.name name (entries_in (node_in (was.inode d)))
                ∙ ap (λ b. cond (not b) (entry_named is.name (entries_in (node_in (was.inode d)))) None) (another at)
                ∙ ap (λ n. entry_at (tree_of was) n is.name) (sym at) ∙ is.leads;
          }
      by false e = record {
        directory = is.directory;
        name = is.name;
        leads = ap (entry_named is.name) (entries_else was d h name other used is.directory e) ∙ is.leads;
      }

-- once a whiteout has lost its name, another inode may get it
module _ (trees after : Filesystems) (directory : InodeRef) (h : ℕ) (name : List ℕ)
    (is : IsFreed trees after directory.filesystem.count (inode_of directory) h name) (linked : LinkedObject)
    (white : is_directory_node ((files_at trees directory.filesystem.count).tree.node h) ≡ false)
    (apart : nat_eq h (inode_of linked.object) ≡ false) where
  abbrev f : ℕ
  f = directory.filesystem.count

  abbrev d : ℕ
  d = inode_of directory

  abbrev o : ℕ
  o = inode_of linked.object

  abbrev before : Inodes ℕ
  before = inodes_at trees f

  used_h : 0 < uses_in (before.inode h)
  used_h = is.used d h (entry_to (tree_of before) d name h is.named)

  freed_is : inodes_at after f ≡ freed_once d before (name, h)
  freed_is = inodes_after f (freed d name (Some h) (entries_in ((files_at trees f).tree.node h))) trees after is.changes
      (is_there trees f d is.directory)
      ∙ ap (λ within. freed d name (Some h) within before)
      (entries_in-no_directory ((files_at trees f).tree.node h) white)

  pub linkable_after : (room : ℕ) → IsLinkable linked directory trees room → IsLinkable linked directory after room
  linkable_after room may =
      let fewer_names = few_after trees after f d h name is in
      let has_room = may.has_room in
      record {
        beside = may.beside;
        there = ap (λ (all : Inodes ℕ). is_some (node_in (all.inode o))) freed_is
            ∙ there_still before d h name is.other used_h o ∙ may.there;
        plain = ap (λ (all : Inodes ℕ). is_directory_node (node_in (all.inode o))) freed_is
            ∙ kind_still before d h name is.other used_h o ∙ may.plain;
        named = subst (λ (all : Inodes ℕ). IsNamed (tree_of all) o) (sym freed_is)
            (named_still before d h o name is.other used_h is.named apart may.named);
        few = subst (λ (all : Inodes ℕ). uses_in (all.inode o) < most_counted) (sym freed_is)
            (subst (λ n. n < most_counted) (sym (uses_stay before d h name is.other used_h o)) may.few);
        lists = subst (λ (all : Inodes ℕ). ListsNames (tree_of all) o
            (map (exchanged f) linked.links.items)) (sym freed_is)
            (lists_still before d h o name is.other used_h is.named apart
            (map (exchanged f) linked.links.items) may.lists);
        place = may.place;
        has_room = omega (arith, fewer_names, has_room);
      }
