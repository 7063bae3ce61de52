-- What stat(2) tells of an inode by its real object. A merged directory has no mark: overlayfs, "directories".
use Rattle.std.specs.Prelude.{Bool, Option, length, not, ℕ, ◌&&◌}
use Rattle.vt_spec.specs.FileTree.{attr_in, is_opaque_in, kind_in}
use Rattle.vt_spec.specs.Language.Answers.{StatLine}
use Rattle.vt_spec.specs.Tree.{Node, bytes_in}

abbrev pub told_by : Bool → Option (Node ℕ) → StatLine
told_by is_merged node = record {
  kind = kind_in node;
  attr = attr_in node;
  size = length (bytes_in node);
  opaque = not is_merged && is_opaque_in node;
}
