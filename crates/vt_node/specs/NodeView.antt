-- What contracts see of a node's content, and of that of a node which is to be made.
use Rattle.std.specs.Prelude.{ℕ}
use Rattle.vt_node.specs.declared.nodes.Content.{Content as Kept}
use Rattle.vt_node.specs.declared.nodes.Content.TheVariants.{Directory as KeptDirectory, Regular as KeptRegular, Symlink as KeptSymlink, Whiteout as KeptWhiteout}
use Rattle.vt_node.specs.declared.new_nodes.NewContent.{NewContent}
use Rattle.vt_node.specs.declared.new_nodes.NewContent.TheVariants as new
use Rattle.vt_spec.specs.Tree.{Content, new_directory}
use Rattle.vt_spec.specs.Tree.Content.{Directory, Regular, Symlink, Whiteout}

abbrev pub content_of : Kept → Content ℕ
content_of (KeptDirectory parent entries opaque) = Directory parent entries opaque
content_of (KeptRegular bytes) = Regular bytes.items
content_of (KeptSymlink text) = Symlink text.items
content_of KeptWhiteout = Whiteout

abbrev pub new_content_of : NewContent → Content ℕ
new_content_of (new.Directory parent) = new_directory parent
new_content_of (new.Regular bytes) = Regular bytes.items
new_content_of (new.Symlink text) = Symlink text.items
new_content_of new.Whiteout = Whiteout
