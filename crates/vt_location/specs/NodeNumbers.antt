-- Numbers tell nodes apart.
use Rattle.std.specs.Prelude.{ℕ, ◌<◌, ◌≡◌}
use Rattle.vt_location.specs.declared.births.Birth.TheVariants.{Here}
use Rattle.vt_location.specs.declared.locations.NodeRef.{NodeRef}
use Rattle.vt_location.specs.Births.{IsSmallBirth}
use Rattle.vt_location.specs.Locations.{number_of}
use Rattle.vt_location.specs.Numbers.{inode_number}

-- counts of filesystems, slots and places of layers are below 2^64
pub record IsSmall (node : NodeRef) : Type 0 where
  pub filesystem : node.filesystem.count < 18446744073709551616
  pub slot : node.slot < 18446744073709551616
  pub birth : IsSmallBirth node.birth

-- two nodes of one number are one
abbrev pub NumbersAreOneToOne : Type 0
NumbersAreOneToOne = (a b : NodeRef) → IsSmall a → IsSmall b → number_of a ≡ number_of b → a ≡ b

-- a node with the number of an inode of a plain filesystem was born here
abbrev pub BirthsAreNoInodes : Type 0
BirthsAreNoInodes =
    (node : NodeRef) (filesystem slot : ℕ) → IsSmall node → filesystem < 18446744073709551616
    → slot < 18446744073709551616 → number_of node ≡ inode_number filesystem slot → node.birth ≡ Here
