-- Who may do what to an inode: the caller to the object, and on an overlay the mounter to the real one, which has the
-- attributes of the object shown (the kernel's overlayfs document, "permission model").
use Rattle.std.specs.Prelude.{Bool, None, Option, Some, false, true, ℕ}
use Rattle.vt_spec.specs.Rights.{Credentials, allows}
use Rattle.vt_spec.specs.Tree.{Node, kind_of}
use Rattle.vt_spec.specs.Machine.World.{Overlay}

module _ {N : Type 0} where
  -- the credentials grant these rights on an inode, if it exists: path_resolution(7), "Permissions"
  abbrev pub node_allows : Credentials → ℕ → Option (Node N) → Bool
  node_allows who wanted None = false
  node_allows who wanted (Some node) = allows who node.attr (kind_of node.content) wanted

  -- the mounter of an overlay may do this to an inode of it; on a plain tree nobody else is asked
  abbrev pub mounter_allows : Option (Overlay N) → ℕ → Option (Node N) → Bool
  mounter_allows None wanted object = true
  mounter_allows (Some overlay) wanted object = node_allows overlay.mounter wanted object
