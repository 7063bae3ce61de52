-- An inode and its node.
use Rattle.std.proofs.Common.{None, Option, Some, false, is_some, refl, true, ℕ, ◌≡◌}
use Rattle.vt_spec.specs.Inodes.{Inode, node_in, uses_in}

-- no inode has no node
pub node_in-none : (o : Option (Inode ℕ)) → is_some o ≡ false → node_in o ≡ None
node_in-none None e = refl
node_in-none (Some inode) e = cc

-- no inode has no use
pub uses_in-none : (o : Option (Inode ℕ)) → is_some o ≡ false → uses_in o ≡ 0
uses_in-none None e = refl
uses_in-none (Some inode) e = cc

-- an inode has a node
pub node_in_is_there : (o : Option (Inode ℕ)) → is_some o ≡ true → is_some (node_in o) ≡ true
node_in_is_there None e = e
node_in_is_there (Some inode) e = refl

-- a node is there where its inode is
pub is_some-node_in : (o : Option (Inode ℕ)) → is_some (node_in o) ≡ is_some o
is_some-node_in None = refl
is_some-node_in (Some inode) = refl
