-- What contracts see of the content of an inode that is to be copied.
use Rattle.std.specs.Prelude.{ℕ}
use Rattle.vt_spec.specs.Tree.{Content, new_directory}
use Rattle.vt_spec.specs.Tree.Content.{Regular, Symlink, Whiteout}
use Rattle.vt_copyup.specs.declared.copied.CopiedContent.{CopiedContent}
use Rattle.vt_copyup.specs.declared.copied.CopiedContent.TheVariants as copied

abbrev pub content_of : CopiedContent → Content ℕ
content_of copied.Directory = new_directory 0
content_of (copied.Regular bytes) = Regular bytes.items
content_of (copied.Symlink text) = Symlink text.items
content_of copied.Whiteout = Whiteout
