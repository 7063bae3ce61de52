-- How many entries a directory has, by slots and by numbers.
use Rattle.std.proofs.Common.{Option, ap, length, option_map, refl, sym, ℕ, None, Some, ◌∙◌, ◌≡◌}
use Rattle.vt_spec.proofs.Common.{Content, Directory, Node, Regular, Symlink, Whiteout, entries_in, entries_of, length-map}
use Rattle.vt_spec.specs.Machine.Renaming.{renamed_content, renamed_entry}
use Rattle.vt_location.specs.Numbers.{exchanged}
use Rattle.vt_fs.specs.FilesystemsValue.{node_seen}

pub entries_counted : (f : ℕ) (node : Node ℕ)
    → length (entries_of (node_seen f node).content) ≡ length (entries_of node.content)
entries_counted f node = by node.content
  where
    by : (content : Content ℕ)
        → length (entries_of (renamed_content (exchanged f) (exchanged f) content)) ≡ length (entries_of content)
    by (Directory parent entries opaque) = length-map entries (renamed_entry (exchanged f) (exchanged f))
    by (Regular bytes) = refl
    by (Symlink text) = refl
    by Whiteout = refl
