-- What is copied of an inode: the kernel's overlayfs document, "non-directories".
use Rattle.std.specs.Prelude.{Bool, [], false, true, ℕ}
use Rattle.vt_spec.specs.Tree.{Content, Node}
use Rattle.vt_spec.specs.Tree.Content.{Directory, Regular, Symlink, Whiteout}
use Rattle.vt_laws_worlds.specs.Merging.UpperChanges.{copy_node}

-- an inode without what its place gives it: entries, parent and mark
abbrev pub bare : Node ℕ → Node ℕ
bare node = copy_node 0 node

-- a file that is to be written whole: none of its bytes are copied
abbrev pub content_copied : (with_bytes : Bool) → Content ℕ → Content ℕ
content_copied true content = content
content_copied false (Directory parent entries opaque) = Directory parent entries opaque
content_copied false (Regular bytes) = Regular []
content_copied false (Symlink text) = Symlink text
content_copied false Whiteout = Whiteout

-- what is copied of an inode, with the bytes of a file or without
abbrev pub copied : (with_bytes : Bool) → Node ℕ → Node ℕ
copied with_bytes node =
    record { attr = node.attr; content = content_copied with_bytes (bare node).content }
