-- Changes keep trees within the limits of names, texts and files.
use Rattle.std.proofs.Common.{arith, eq-eqb, eqb-true, ◌≡◌, refl, ap, ℕ, nat_eq, nat_le, Bool, true, false, not, cond, List, [], ◌∷◌, length, map, ◌&&◌, Option, Some, None, filter}
use Rattle.vt_spec.proofs.Common.{AddName, Content, CopyUp, Directory, Entries, FileTree, Filesystem, Make, Move, Node, Regular, Remove, SetAttr, SetBytes, SetMark, Symlink, Whiteout, World, all-filter, and_parts, changed_node, common_steps, entries_in, entry_named, filesystem_lives, has_fit_names, has_fit_text, is_fit_filesystem, is_no_larger, is_overlay, largest_file, list_all, node_with_attr, node_with_bytes, node_with_entry, node_with_mark, node_with_parent, node_without_entry, only_among, only_used, only_used_by, used_in, with_entry, with_inode, with_name, without_dead_filesystems, without_dead_in, without_dead_mounts, without_name, without_parent}
use Rattle.vt_spec.specs.declared.attributes.Attr.{Attr}
use Rattle.vt_laws_trees.specs.Trees.Sizes.{ChangesKeepSizes, SettlingKeepsSizes, is_fit_name, is_fit_node, is_fit_tree}
use Rattle.vt_laws_trees.proofs.trees.TreesTasks.{all_mapped, and_from}

-- the limits of one inode, that may be missing
abbrev pub fits : Option (Node ℕ) → Bool
fits o =
    let files : FileTree ℕ = record { tree = record { root = 0; node = λ number. o }; numbers = [] } in
    is_no_larger files 0 && has_fit_names files 0 && has_fit_text files 0

-- names of entries
put_fits : (name : List ℕ) (number : ℕ) (entries : Entries ℕ) → is_fit_name name ≡ true
    → list_all is_fit_name (map (λ e. e.0) entries) ≡ true
    → list_all is_fit_name (map (λ e. e.0) (with_entry name number entries)) ≡ true
put_fits name number [] h k = and_from (is_fit_name name) true h refl
put_fits name number (entry ∷ entries) h k =
    grind (arith, common_steps, and_parts, and_from, put_fits name number entries h)

filter_fits : (stays : List ℕ × ℕ → Bool) (entries : Entries ℕ) → list_all is_fit_name (map (λ e. e.0) entries) ≡ true
    → list_all is_fit_name (map (λ e. e.0) (filter stays entries)) ≡ true
filter_fits stays [] k = refl
filter_fits stays (entry ∷ entries) k = grind (arith, common_steps, and_parts, and_from, filter_fits stays entries)

-- a directory's limits are those of its names
names_of_directory : (b : Bool) → (true && b && true) ≡ true → b ≡ true
names_of_directory true e = refl
names_of_directory false e = e

of_directory : (b : Bool) → b ≡ true → (true && b && true) ≡ true
of_directory b e = ap (λ c. true && c && true) e

-- Each change of an inode
entry_fits : (name : List ℕ) (number : ℕ) → is_fit_name name ≡ true → (o : Option (Node ℕ)) → fits o ≡ true
    → fits (node_with_entry name number o) ≡ true
entry_fits name number h None k = k
entry_fits name number h (Some node) k = by node.attr node.content k
  where
    by : (attr : Attr) (content : Content ℕ) → fits (Some (record { attr = attr; content = content })) ≡ true
        → fits (node_with_entry name number (Some (record { attr = attr; content = content }))) ≡ true
    by attr (Directory parent entries opaque) g = of_directory _
        (put_fits name number entries h (names_of_directory (list_all is_fit_name (map (λ e. e.0) entries)) g))
    by attr (Regular bytes) g = g
    by attr (Symlink text) g = g
    by attr Whiteout g = g

pub no_entry_fits : (name : List ℕ) (o : Option (Node ℕ)) → fits o ≡ true → fits (node_without_entry name o) ≡ true
no_entry_fits name None k = k
no_entry_fits name (Some node) k = by node.attr node.content k
  where
    by : (attr : Attr) (content : Content ℕ) → fits (Some (record { attr = attr; content = content })) ≡ true
        → fits (node_without_entry name (Some (record { attr = attr; content = content }))) ≡ true
    by attr (Directory parent entries opaque) g = of_directory _ (filter_fits _ entries (names_of_directory _ g))
    by attr (Regular bytes) g = g
    by attr (Symlink text) g = g
    by attr Whiteout g = g

pub parent_fits : (parent : ℕ) (o : Option (Node ℕ)) → fits o ≡ true → fits (node_with_parent parent o) ≡ true
parent_fits parent o k = grind (arith, common_steps)

attr_fits : (new : Attr) (o : Option (Node ℕ)) → fits o ≡ true → fits (node_with_attr new o) ≡ true
attr_fits new None k = k
attr_fits new (Some node) k = k

mark_fits : (opaque : Bool) (o : Option (Node ℕ)) → fits o ≡ true → fits (node_with_mark opaque o) ≡ true
mark_fits opaque o k = grind (arith, common_steps)

bytes_fit : (bytes : List ℕ) → nat_le (length bytes) largest_file ≡ true → (o : Option (Node ℕ)) → fits o ≡ true
    → fits (node_with_bytes bytes o) ≡ true
bytes_fit bytes h o k = grind (arith, common_steps)

-- Trees
all_alike : (test other : ℕ → Bool) → ((n : ℕ) → test n ≡ true → other n ≡ true) → (list : List ℕ)
    → list_all test list ≡ true → list_all other list ≡ true
all_alike test other keeps [] h = refl
all_alike test other keeps (n ∷ list) h = and_from (other n) _ (keeps n ((and_parts (test n) (list_all test list) h).0))
    (all_alike test other keeps list ((and_parts (test n) (list_all test list) h).1))

pub changed_fits_there : (files : FileTree ℕ) (number : ℕ) (change : Option (Node ℕ) → Option (Node ℕ))
    → (fits (files.tree.node number) ≡ true → fits (change (files.tree.node number)) ≡ true)
    → is_fit_tree files ≡ true → is_fit_tree (changed_node nat_eq files number change) ≡ true
changed_fits_there files number change keeps h = grind (arith, common_steps, all_alike, eqb-true)

changed_fits : (files : FileTree ℕ) (number : ℕ) (change : Option (Node ℕ) → Option (Node ℕ))
    → ((o : Option (Node ℕ)) → fits o ≡ true → fits (change o) ≡ true)
    → is_fit_tree files ≡ true → is_fit_tree (changed_node nat_eq files number change) ≡ true
changed_fits files number change keeps h = changed_fits_there files number change (keeps (files.tree.node number)) h

unparented_fits : (files : FileTree ℕ) (o : Option ℕ) → is_fit_tree files ≡ true
    → is_fit_tree (without_parent nat_eq files o) ≡ true
unparented_fits files None h = h
unparented_fits files (Some object) h = changed_fits files object (node_with_parent object) (parent_fits object) h

pub inode_fits : (files : FileTree ℕ) (number : ℕ) (node : Node ℕ) → is_fit_node node ≡ true → is_fit_tree files ≡ true
    → is_fit_tree (with_inode nat_eq files number node) ≡ true
inode_fits files number node k h = and_from _ _ (cc (eq-eqb number number refl)) (all_alike _ _ one files.numbers h)
  where
    one : (n : ℕ) → fits (files.tree.node n) ≡ true → fits ((with_inode nat_eq files number node).tree.node n) ≡ true
    one n g = by (nat_eq n number)
      where
        by : (b : Bool) → fits (cond b (Some node) (files.tree.node n)) ≡ true
        by true = k
        by false = g

pub changes_keep_sizes : ChangesKeepSizes
changes_keep_sizes files (Make directory name number node) h fit =
    changed_fits (with_inode nat_eq files number node) directory (node_with_entry name number)
    (entry_fits name number fit.0) (inode_fits files number node fit.1 h)
changes_keep_sizes files (AddName directory name object) h fit =
    changed_fits files directory (node_with_entry name object) (entry_fits name object fit) h
changes_keep_sizes files (Remove directory name object) h fit =
    unparented_fits (without_name nat_eq files directory name) (Some object)
    (changed_fits files directory (node_without_entry name) (no_entry_fits name) h)
changes_keep_sizes files (Move from old to new object) h fit =
    let unparented = without_parent nat_eq files (entry_named new (entries_in (files.tree.node to))) in
    let untaken = without_name nat_eq unparented from old in
    changed_fits (with_name nat_eq untaken to new object) object (node_with_parent to)
    (parent_fits to) (changed_fits untaken to (node_with_entry new object) (entry_fits new object fit)
    (changed_fits unparented from (node_without_entry old) (no_entry_fits old) (unparented_fits files _ h)))
changes_keep_sizes files (SetBytes file bytes) h fit =
    changed_fits files file (node_with_bytes bytes) (bytes_fit bytes fit) h
changes_keep_sizes files (SetAttr object attr) h fit =
    changed_fits files object (node_with_attr attr) (attr_fits attr) h
changes_keep_sizes files (SetMark directory opaque) h fit =
    changed_fits files directory (node_with_mark opaque) (mark_fits opaque) h
changes_keep_sizes files (CopyUp object) h fit = h

-- What nothing uses goes
among_fits : (used : List ℕ) (files : FileTree ℕ) → is_fit_tree files ≡ true
    → is_fit_tree (only_among nat_eq used files) ≡ true
among_fits used files h = grind (arith, common_steps, all-filter, all_alike)

used_fits : (world : World ℕ) (chosen : Bool) (filesystem : Filesystem ℕ) → is_fit_filesystem filesystem ≡ true
    → is_fit_filesystem (only_used nat_eq world chosen filesystem) ≡ true
used_fits world true filesystem h = by _
  where
    by : (b : Bool) → is_fit_filesystem (only_used_by nat_eq b (used_in nat_eq world filesystem) filesystem) ≡ true
    by true = h
    by false = among_fits (used_in nat_eq world filesystem) filesystem.files h
used_fits world false filesystem h = h

round_fits : (chosen : Filesystem ℕ → Bool) (world : World ℕ) → list_all is_fit_filesystem world.filesystems ≡ true
    → list_all is_fit_filesystem (without_dead_in nat_eq chosen world).filesystems ≡ true
round_fits chosen world h = all_mapped is_fit_filesystem (λ f. only_used nat_eq world (chosen f) f)
    (λ f k. used_fits world (chosen f) f k) world.filesystems h

pub settling_keeps_sizes : SettlingKeepsSizes
settling_keeps_sizes world h =
    let mounted = without_dead_mounts nat_eq world in
    let living = without_dead_filesystems nat_eq mounted in
    let small : list_all is_fit_filesystem living.filesystems ≡ true =
    all-filter is_fit_filesystem (filesystem_lives nat_eq mounted) world.filesystems h in
    round_fits (λ f. not (is_overlay f)) (without_dead_in nat_eq is_overlay living) (round_fits is_overlay living small)
