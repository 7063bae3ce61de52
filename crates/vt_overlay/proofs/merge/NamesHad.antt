-- The names of directories that are merged, and what they show under a name.
use Rattle.std.proofs.Common.{◌≡◌, ◌∙◌, ◌+◌, ◌++◌, ◌∷◌, ◌<◌, ◌||◌, [], Bool, List, Option, Some, ap, append_assoc, drop, false, get_or, is_some, length, map, option_and_then, refl, subst, sym, true, true≢false, ℕ, IsPermutation, arith}
use Rattle.vt_spec.proofs.Common.{Content, Directory, Entries, IsPermutation-append_left, IsPermutation-append_right, IsPermutation-trans, Node, Regular, Symlink, View, Whiteout, drop_more, entries_in, entry_at, eq_by_cmp, hides, is_some-find, list_any, name_cmp, names_in, renamed_entry, renamed_node, shown_over, then_some, view_of, when, list_any-append, common_steps}
use Rattle.vt_spec.specs.Machine.Views.{Shown}
use Rattle.vt_laws_trees.specs.Layers.Layers.Directories.{shown_in}
use Rattle.vt_location.specs.Locations.{inode_of}
use Rattle.vt_location.specs.Numbers.{exchanged}
use Rattle.vt_fs.specs.FilesystemsValue.{Filesystems, files_at, node_seen}
use Rattle.vt_overlay.specs.Merge.LayerValue.{names_had, opened, placed_views}
use Rattle.vt_overlay.specs.declared.merge.layers.MergedDirectory.{MergedDirectory}

-- a node has the same names by slots and by numbers
names-renamed : (there back : ℕ → ℕ) (entries : Entries ℕ)
    → map (λ e. e.0) (map (renamed_entry there back) entries) ≡ map (λ e. e.0) entries
names-renamed there back [] = refl
names-renamed there back (entry ∷ entries) = ap (λ rest. entry.0 ∷ rest) (names-renamed there back entries)

names_of_content : (there back : ℕ → ℕ) (node : Node ℕ) (content : Content ℕ) → node.content ≡ content
    → names_in (Some (renamed_node there back (record { attr = node.attr; content = content })))
    ≡ names_in (Some (record { attr = node.attr; content = content }))
names_of_content there back node (Directory parent entries opaque) is = names-renamed there back entries
names_of_content there back node (Regular bytes) is = refl
names_of_content there back node (Symlink text) is = refl
names_of_content there back node Whiteout is = refl

pub names_seen : (f : ℕ) (node : Node ℕ) → names_in (Some (node_seen f node)) ≡ names_in (Some node)
names_seen f node = names_of_content (exchanged f) (exchanged f) node node.content refl

-- the names of one directory more
pub names_more : (fs : Filesystems) (merged : List MergedDirectory) (index : ℕ) (default : MergedDirectory)
    (all kept new : List (List ℕ)) → index < length merged
    → IsPermutation (all ++ names_had fs (drop index merged)) (names_had fs merged)
    → IsPermutation kept (names_in ((files_at fs (get_or merged index default).directory.filesystem.count).tree.node
    (inode_of (get_or merged index default).directory))) → new ≡ all ++ kept
    → IsPermutation (new ++ names_had fs (drop (index + 1) merged)) (names_had fs merged)
names_more fs merged index default all kept new within so_far is grown = IsPermutation-trans _ _ _
    (subst (λ l. IsPermutation l (all ++ names_had fs (drop index merged)))
    (sym (ap (λ l. l ++ rest) grown ∙ append_assoc all kept rest))
    (subst (λ l. IsPermutation (all ++ (kept ++ rest)) (all ++ names_had fs l))
    (sym (drop_more merged index default within))
    (IsPermutation-append_right all (kept ++ rest) (own ++ rest) (IsPermutation-append_left rest kept own is)))) so_far
  where
    own : List (List ℕ)
    own = names_in ((files_at fs (get_or merged index default).directory.filesystem.count).tree.node
        (inode_of (get_or merged index default).directory))

    rest : List (List ℕ)
    rest = names_had fs (drop (index + 1) merged)

-- what one directory shows under a name, and those below it
abbrev pub own_shows : View ℕ → ℕ → Option ℕ → Option (Shown ℕ) → Option (Shown ℕ)
own_shows view layer found lower = shown_over view layer (option_and_then (λ next. Some next) found)
    (hides (then_some (option_and_then (λ next. Some next) found) view.node) || false) lower

pub when_is_some : {A : Type 0} (b : Bool) (a : A) → is_some (when b a) ≡ b
when_is_some b a = grind (arith, common_steps)

-- what they show has a name there
abbrev pub is_name : List ℕ → List ℕ → Bool
is_name name other = eq_by_cmp name_cmp name other

pub shown_is_had : (fs : Filesystems) (merged : List MergedDirectory) (name : List ℕ)
    → is_some (shown_in (placed_views fs merged) (name ∷ [])) ≡ true
    → list_any (is_name name) (names_had fs merged) ≡ true
shown_is_had fs [] name shows = absurd (true≢false (sym shows))
shown_is_had fs (top ∷ merged) name shows = list_any-append (is_name name) (names_in own) (names_had fs merged)
    ∙ ap (λ b. b || list_any (is_name name) (names_had fs merged)) (sym (is_some-find name_cmp name (entries_in own)))
    ∙ by (entry_at (opened fs top.directory).tree (inode_of top.directory) name) shows (shown_is_had fs merged name)
  where
    own : Option (Node ℕ)
    own = (opened fs top.directory).tree.node (inode_of top.directory)

    by : (found : Option ℕ) → is_some (own_shows (view_of (opened fs top.directory)) top.layer found
        (shown_in (placed_views fs merged) (name ∷ []))) ≡ true
        → (is_some (shown_in (placed_views fs merged) (name ∷ [])) ≡ true
        → list_any (is_name name) (names_had fs merged) ≡ true)
        → (is_some found || list_any (is_name name) (names_had fs merged)) ≡ true
    by found shows rest = grind (arith, common_steps)
