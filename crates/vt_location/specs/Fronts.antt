-- What the inode of a merged object and its real object have in common: the kernel's overlayfs document,
-- "non-directories".
use Rattle.std.specs.Prelude.{List, Option, option_map, ℕ}
use Rattle.vt_spec.specs.declared.attributes.Attr.{Attr}
use Rattle.vt_spec.specs.declared.attributes.Kind.{Kind}
use Rattle.vt_spec.specs.Tree.{Node, bytes_of, kind_of}

-- an inode without its entries, its parent and its mark
pub record Front : Type 0 where
  pub attr : Attr
  pub kind : Kind
  pub bytes : List ℕ

abbrev pub front_of : Node ℕ → Front
front_of node = record { attr = node.attr; kind = kind_of node.content; bytes = bytes_of node.content }

abbrev pub front : Option (Node ℕ) → Option Front
front node = option_map front_of node
