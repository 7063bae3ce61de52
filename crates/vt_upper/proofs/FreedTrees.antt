-- What a plan's names leave, in the filesystems.
use Rattle.std.proofs.Common.{◌≡◌, ◌∙◌, ◌+◌, ◌<◌, ◌≤◌, ◌++◌, ◌∷◌, [], ap, arith, Bool, cond, drop, eqb-true, false, get_or, is_some, length, List, map, nat_eq, None, Option, refl, Some, subst, sym, take, true, true≢false, ℕ}
use Rattle.std.proofs.lemmas.List.{take_more}
use Rattle.std.proofs.lemmas.List.Elements.{All-get_or}
use Rattle.std.specs.Global.{Vec}
use Rattle.vt_spec.proofs.Common.{Entries, Inode, Inodes, IsDirectory, Remove, directory_from_entry, entries_in, entries_in-no_directory, entry_at, entry_named, folded-snoc, is_directory_node, node_in, pinned, tree_of, unpinned, used_once_more, uses_in}
use Rattle.vt_spec.specs.Inodes.{changed}
use Rattle.vt_spec.specs.Lists.{folded}
use Rattle.vt_copyup.specs.Plans.{EntriesAreThere}
use Rattle.vt_copyup.proofs.Changed.{changes_then, inodes_after, is_there}
use Rattle.vt_fs.specs.FilesystemsValue.{ChangesInodes, Filesystems, files_at, inodes_at}
use Rattle.vt_location.specs.declared.locations.InodeRef.{InodeRef}
use Rattle.vt_location.specs.Locations.{inode_of}
use Rattle.vt_location.specs.Numbers.{most_counted}
use Rattle.vt_upper.specs.declared.leaving.Leaving.{Leaving}
use Rattle.vt_upper.specs.Leaving.{IsLeaving, MayBeEmptied, NamesAreUsed, freed, freed_once, let_go}
use Rattle.vt_upper.proofs.NamesFreed.{IsAllFreed, IsEmptying, all_freed, emptied, emptying_at, first_plain, first_used, named_mid, object_used, used_there}
use Rattle.vt_upper.proofs.NamesListed.{IsEntryAt, alike_at, as_long, front_more, holds_at, holds_last, named_at, rest_from}
use Rattle.vt_upper.proofs.RowsEmptied.{first_named}

-- where an inode is pinned the tree stays
node_pinned : (inodes : Inodes ℕ) (o m : ℕ) → node_in ((pinned nat_eq inodes o).inode m) ≡ node_in (inodes.inode m)
node_pinned inodes o m = by (nat_eq m o) refl
  where
    once : (inode : Option (Inode ℕ)) → node_in (used_once_more inode) ≡ node_in inode
    once None = refl
    once (Some inode) = refl

    by : (b : Bool) → nat_eq m o ≡ b
        → node_in (cond b (used_once_more (inodes.inode o)) (inodes.inode m)) ≡ node_in (inodes.inode m)
    by true e = once (inodes.inode o) ∙ ap (λ n. node_in (inodes.inode n)) (sym (eqb-true m o e))
    by false e = refl

tree_pinned : (inodes : Inodes ℕ) (o : ℕ) → tree_of (pinned nat_eq inodes o) ≡ tree_of inodes
tree_pinned inodes o = λ i. record { root = inodes.root; node = λ m. node_pinned inodes o m i }

module _ (trees held : Filesystems) (f d o : ℕ) (name : List ℕ)
    (named : entry_at (files_at trees f).tree d name ≡ Some o)
    (pins : ChangesInodes f (λ inodes. pinned nat_eq inodes o) trees held) where
  pub tree_held : (files_at held f).tree ≡ (files_at trees f).tree
  tree_held = ap tree_of (inodes_after f (λ inodes. pinned nat_eq inodes o) trees held pins
      (is_there trees f d (directory_from_entry name o ((files_at trees f).tree.node d) named)))
      ∙ tree_pinned (inodes_at trees f) o

  -- then it has one name less
  pub freed_held : (after : Filesystems) → ChangesInodes f (λ inodes. changed nat_eq inodes (Remove d name o)) held after
      → ChangesInodes f (λ inodes. freed_once d inodes (name, o)) trees after
  freed_held after removes = changes_then f (λ inodes. pinned nat_eq inodes o)
      (λ inodes. changed nat_eq inodes (Remove d name o)) trees held after pins removes

-- what has a name is there
pub named_there : (inodes : Inodes ℕ) → NamesAreUsed inodes → EntriesAreThere (tree_of inodes)
named_there inodes used m k e = used_there (inodes.inode k) (used m k e)

-- the next name of what is emptied
module _ (trees now : Filesystems) (f h k o : ℕ) (word : List ℕ) (used : NamesAreUsed (inodes_at trees f))
    (may : MayBeEmptied (inodes_at trees f) h)
    (at : IsEntryAt (entries_in ((files_at trees f).tree.node h)) k word o)
    (changes : ChangesInodes f (λ inodes. folded (freed_once h) inodes
    (take k (entries_in ((files_at trees f).tree.node h)))) trees now) where
  abbrev listed : Entries ℕ
  listed = entries_in ((files_at trees f).tree.node h)

  abbrev rest : Entries ℕ
  rest = drop (k + 1) listed

  now_is : inodes_at now f ≡ folded (freed_once h) (inodes_at trees f) (take k listed)
  now_is = inodes_after f (λ inodes. folded (freed_once h) inodes (take k listed)) trees now changes
      (is_there trees f h (directory_from_entry word o ((files_at trees f).tree.node h)
      (named_at listed k word o at may.order)))

  so_far : IsEmptying (inodes_at trees f) (inodes_at now f) h ((word, o) ∷ rest)
  so_far = subst (λ all. IsEmptying (inodes_at trees f) all h ((word, o) ∷ rest)) (sym now_is)
      (subst (IsEmptying (inodes_at trees f) (folded (freed_once h) (inodes_at trees f) (take k listed)) h)
      (rest_from listed k word o at) (emptying_at (inodes_at trees f) h used may.order may.plain k))

  pub next_named : entry_at (files_at now f).tree h word ≡ Some o
  next_named = ap (entry_named word) so_far.entries ∙ first_named (word, o) rest

  pub next_empty : entries_in ((files_at now f).tree.node o) ≡ []
  next_empty = entries_in-no_directory ((files_at now f).tree.node o)
      (first_plain (inodes_at trees f) h (inodes_at now f) (word, o) rest so_far)

  pub next_used : 0 < uses_in ((inodes_at now f).inode o)
  next_used = first_used (inodes_at trees f) h (inodes_at now f) (word, o) rest so_far

  pub next_few : uses_in ((inodes_at now f).inode o) < most_counted
  next_few = subst (λ n. n < most_counted) (sym (so_far.held.uses o))
      (holds_at listed k word o at (λ number. uses_in ((inodes_at trees f).inode number) < most_counted) h may.few)

  pub one_freed : (after : Filesystems) → ChangesInodes f (λ inodes. freed_once h inodes (word, o)) now after
      → ChangesInodes f (λ inodes. folded (freed_once h) inodes (take (k + 1) listed)) trees after
  one_freed after frees =
      subst (λ front. ChangesInodes f (λ inodes. folded (freed_once h) inodes front) trees after)
      (sym (front_more listed k word o at))
      (subst (λ (change : Inodes ℕ → Inodes ℕ). ChangesInodes f change trees after)
      (λ i inodes. sym (folded-snoc (freed_once h) inodes (take k listed) (word, o)) i)
      (changes_then f (λ inodes. folded (freed_once h) inodes (take k listed)) (λ inodes. freed_once h inodes (word, o))
      trees now after changes frees))

-- a name of what has been emptied
module _ (trees mid : Filesystems) (f d h : ℕ) (name : List ℕ) (directory : IsDirectory (files_at trees f).tree d)
    (named : entry_at (files_at trees f).tree d name ≡ Some h) (other : nat_eq h d ≡ false)
    (used : NamesAreUsed (inodes_at trees f)) (may : MayBeEmptied (inodes_at trees f) h)
    (changes : ChangesInodes f (λ inodes. folded (freed_once h) inodes
    (entries_in ((files_at trees f).tree.node h))) trees mid) where
  abbrev within : Entries ℕ
  within = entries_in ((files_at trees f).tree.node h)

  mid_is : inodes_at mid f ≡ folded (freed_once h) (inodes_at trees f) within
  mid_is = inodes_after f (λ inodes. folded (freed_once h) inodes within) trees mid changes (is_there trees f d directory)

  all_gone : IsEmptying (inodes_at trees f) (inodes_at mid f) h []
  all_gone = subst (λ all. IsEmptying (inodes_at trees f) all h []) (sym mid_is)
      (emptied (inodes_at trees f) h used may.order may.plain)

  pub still_named : entry_at (files_at mid f).tree d name ≡ Some h
  still_named = ap (λ (all : Inodes ℕ). entry_at (tree_of all) d name) mid_is
      ∙ named_mid (inodes_at trees f) h used may.order may.plain d name named other

  pub still_empty : entries_in ((files_at mid f).tree.node h) ≡ []
  still_empty = all_gone.entries

  pub still_used : 0 < uses_in ((inodes_at mid f).inode h)
  still_used = subst (λ (all : Inodes ℕ). 0 < uses_in (all.inode h)) (sym mid_is)
      (object_used (inodes_at trees f) h used may.order may.plain d name named other)

  pub still_few : uses_in ((inodes_at mid f).inode h) < most_counted
  still_few = subst (λ n. n < most_counted) (sym (all_gone.held.uses h))
      (holds_last (λ number. uses_in ((inodes_at trees f).inode number) < most_counted)
      (map (λ entry. entry.1) within) h may.few)

-- the tree once a name was freed
pub record IsFreed (trees after : Filesystems) (f d h : ℕ) (name : List ℕ) : Type 0 where
  pub directory : IsDirectory (files_at trees f).tree d
  pub named : entry_at (files_at trees f).tree d name ≡ Some h
  pub other : nat_eq h d ≡ false
  pub used : NamesAreUsed (inodes_at trees f)
  pub may : MayBeEmptied (inodes_at trees f) h
  pub changes : ChangesInodes f (freed d name (Some h) (entries_in ((files_at trees f).tree.node h))) trees after

module _ (trees after : Filesystems) (f d h : ℕ) (name : List ℕ) (is : IsFreed trees after f d h name) where
  abbrev was : Inodes ℕ
  was = inodes_at trees f

  after_is : inodes_at after f ≡ freed d name (Some h) (entries_in ((files_at trees f).tree.node h)) was
  after_is = inodes_after f (freed d name (Some h) (entries_in ((files_at trees f).tree.node h))) trees after is.changes
      (is_there trees f d is.directory)

  done : IsAllFreed was h is.used is.may.order is.may.plain d name is.named is.other
  done = all_freed was h is.used is.may.order is.may.plain d name is.named is.other

  pub still_directory : IsDirectory (files_at after f).tree d
  still_directory = ap (λ (all : Inodes ℕ). is_directory_node (node_in (all.inode d))) after_is ∙ done.held.kind d ∙ is.directory

  pub free_after : entry_at (files_at after f).tree d name ≡ None
  free_after = ap (λ (all : Inodes ℕ). entry_at (tree_of all) d name) after_is ∙ done.free

  pub few_after : length (entries_in ((files_at after f).tree.node d)) ≤ length (entries_in ((files_at trees f).tree.node d))
  few_after =
      let same = ap (λ (all : Inodes ℕ). length (entries_in (node_in (all.inode d)))) after_is in
      let few = done.few in omega (arith, same, few)

  pub entries_after : EntriesAreThere (files_at after f).tree
  entries_after = subst (λ (all : Inodes ℕ). EntriesAreThere (tree_of all)) (sym after_is) done.entries

  -- what is vacant then was vacant
  pub vacant_before : (n : ℕ) → (files_at after f).tree.node n ≡ None → (files_at trees f).tree.node n ≡ None
  vacant_before n none = by ((files_at trees f).tree.node n) refl
    where
      same : is_some ((files_at after f).tree.node n) ≡ is_some ((files_at trees f).tree.node n)
      same = ap (λ (all : Inodes ℕ). is_some (node_in (all.inode n))) after_is ∙ done.held.there n

      by : (o : Option _) → (files_at trees f).tree.node n ≡ o → (files_at trees f).tree.node n ≡ None
      by None e = e
      by (Some one) e = absurd (true≢false (sym (same ∙ ap is_some e) ∙ ap is_some none))

-- what a plan knows of what leaves
module _ (trees : Filesystems) (leaving : Leaving) (known : IsLeaving trees leaving) where
  abbrev all_in : Entries ℕ
  all_in = entries_in ((files_at trees leaving.object.filesystem.count).tree.node (inode_of leaving.object))

  pub as_many_names : length leaving.names.items ≡ length all_in
  as_many_names = as_long (λ (name : Vec ℕ). name.items) (λ (e : List ℕ × ℕ). e.0) leaving.names.items all_in known.names

  pub as_many_inodes : length leaving.inodes.items ≡ length all_in
  as_many_inodes = as_long inode_of (λ (e : List ℕ × ℕ). e.1) leaving.inodes.items all_in known.inodes

  pub known_at : (k : ℕ) (name : Vec ℕ) (inode : InodeRef) → k < length leaving.names.items
      → name ≡ get_or leaving.names.items k name → inode ≡ get_or leaving.inodes.items k inode
      → IsEntryAt all_in k name.items (inode_of inode)
  known_at k name inode within named there =
      let names = as_many_names in
      let inodes = as_many_inodes in
      record {
        within = omega (arith, names, within);
        word_is = alike_at (λ (name : Vec ℕ). name.items) (λ (e : List ℕ × ℕ). e.0) leaving.names.items all_in k name
            ([], 0) known.names within named;
        number_is = alike_at inode_of (λ (e : List ℕ × ℕ). e.1) leaving.inodes.items all_in k inode ([], 0) known.inodes
            (omega (arith, names, inodes, within)) there;
      }

  pub own_at : (k : ℕ) (inode : InodeRef) → k < length leaving.inodes.items → inode ≡ get_or leaving.inodes.items k inode
      → inode.filesystem ≡ leaving.object.filesystem
  own_at k inode within there = subst (λ (one : InodeRef). one.filesystem ≡ leaving.object.filesystem) (sym there)
      (All-get_or (λ (one : InodeRef). one.filesystem ≡ leaving.object.filesystem) leaving.inodes.items k inode within
      known.own)

-- one more is let go
pub let_go_last : (f : ℕ) (held : List ℕ) (o : ℕ) (old now new : Filesystems) → ChangesInodes f (let_go held) old now
    → ChangesInodes f (λ inodes. unpinned nat_eq inodes o) now new → ChangesInodes f (let_go (held ++ o ∷ [])) old new
let_go_last f held o old now new gone last =
    subst (λ (change : Inodes ℕ → Inodes ℕ). ChangesInodes f change old new)
    (λ i inodes. sym (folded-snoc (unpinned nat_eq) inodes held o) i)
    (changes_then f (let_go held) (λ inodes. unpinned nat_eq inodes o) old now new gone last)

pub let_go_more : (f k : ℕ) (held : List ℕ) (o : ℕ) (old now new : Filesystems) → k < length held → get_or held k o ≡ o
    → ChangesInodes f (let_go (take k held)) old now → ChangesInodes f (λ inodes. unpinned nat_eq inodes o) now new
    → ChangesInodes f (let_go (take (k + 1) held)) old new
let_go_more f k held o old now new within there gone one =
    subst (λ front. ChangesInodes f (let_go front) old new)
    (sym (take_more held k o within ∙ ap (λ n. take k held ++ n ∷ []) there))
    (let_go_last f (take k held) o old now new gone one)
