-- An inode of a plain tree as the tree keeps it, and as the definitions see it.
use Rattle.std.proofs.Common.{◌≡◌, ◌∙◌, ◌∷◌, [], ap, Bool, cond, false, List, map, None, option_copied, option_map, Option, refl, Some, sym, true, true≢false, ℕ, IfSome}
use Rattle.vt_spec.proofs.Common.{Content, Directory, Entries, Node, Regular, Symlink, Whiteout, entries_in, entries_of, entry_named, eq_by_cmp, is_directory_node, is_empty_list, name_cmp, parent_in, renamed_content, renamed_entry}
use Rattle.vt_location.specs.Locations.{number_of}
use Rattle.vt_location.specs.Numbers.{exchanged}
use Rattle.vt_fs.specs.FilesystemsValue.{node_seen}
use Rattle.vt_overlay.proofs.ObjectsAlike.{seen_twice}
use Rattle.vt_overlay.specs.declared.nodes.Entry.{Entry}

module _ (f : ℕ) where
  entry-seen_in : (name : List ℕ) (entries : Entries ℕ)
      → entry_named name (map (renamed_entry (exchanged f) (exchanged f)) entries)
      ≡ option_map (exchanged f) (entry_named name entries)
  entry-seen_in name [] = refl
  entry-seen_in name (entry ∷ entries) = by (eq_by_cmp name_cmp name entry.0) (entry-seen_in name entries)
    where
      by : (b : Bool) → entry_named name (map (renamed_entry (exchanged f) (exchanged f)) entries)
          ≡ option_map (exchanged f) (entry_named name entries) → cond b (Some (exchanged f entry.1))
          (entry_named name (map (renamed_entry (exchanged f) (exchanged f)) entries))
          ≡ option_map (exchanged f) (cond b (Some entry.1) (entry_named name entries))
      by true rest = refl
      by false rest = rest

  entry-seen : (name : List ℕ) (content : Content ℕ)
      → entry_named name (entries_of (renamed_content (exchanged f) (exchanged f) content))
      ≡ option_map (exchanged f) (entry_named name (entries_of content))
  entry-seen name (Directory parent entries opaque) = entry-seen_in name entries
  entry-seen name (Regular bytes) = refl
  entry-seen name (Symlink text) = refl
  entry-seen name Whiteout = refl

  empty-seen_in : (entries : Entries ℕ)
      → is_empty_list (map (renamed_entry (exchanged f) (exchanged f)) entries) ≡ is_empty_list entries
  empty-seen_in [] = refl
  empty-seen_in (entry ∷ entries) = refl

  -- it has entries where it is seen with some
  pub empty-seen : (node : Option (Node ℕ))
      → is_empty_list (entries_in (option_map (node_seen f) node)) ≡ is_empty_list (entries_in node)
  empty-seen None = refl
  empty-seen (Some node) = by node.content
    where
      by : (content : Content ℕ) → is_empty_list (entries_of (renamed_content (exchanged f) (exchanged f) content))
          ≡ is_empty_list (entries_of content)
      by (Directory parent entries opaque) = empty-seen_in entries
      by (Regular bytes) = refl
      by (Symlink text) = refl
      by Whiteout = refl

  -- the entry of a name in what is lent for a directory
  pub entry_lent : (object : Node ℕ) (seen : Option (Node ℕ)) → option_map (node_seen f) seen ≡ Some object
      → (name : List ℕ)
      → option_map (exchanged f) (entry_named name (entries_of object.content)) ≡ entry_named name (entries_in seen)
  entry_lent object seen lent name = sym (entry-seen name object.content)
      ∙ ap (λ node. entry_named name (entries_in node)) (ap (option_map (node_seen f)) (sym lent) ∙ seen_twice f seen)

-- what is no directory is its own parent
pub its_own_parent : (own : ℕ) (node : Option (Node ℕ)) → is_directory_node node ≡ false → own ≡ parent_in own node
its_own_parent own None isnt = refl
its_own_parent own (Some node) isnt = by node.content isnt
  where
    by : (content : Content ℕ) → is_directory_node (Some (record { attr = node.attr; content = content })) ≡ false
        → own ≡ parent_in own (Some (record { attr = node.attr; content = content }))
    by (Directory parent entries opaque) isnt = absurd (true≢false isnt)
    by (Regular bytes) isnt = refl
    by (Symlink text) isnt = refl
    by Whiteout isnt = refl

-- what is lent with an entry, by another name of what lends it
pub lent_with : (entry : Option Entry) (lends other : ℕ → Option (Node ℕ))
    → ((number : ℕ) → lends number ≡ other number)
    → IfSome entry (λ one. option_copied one.object ≡ lends (number_of one.node))
    → IfSome entry (λ one. option_copied one.object ≡ other (number_of one.node))
lent_with None lends other same is = is
lent_with (Some one) lends other same is = is ∙ same (number_of one.node)
