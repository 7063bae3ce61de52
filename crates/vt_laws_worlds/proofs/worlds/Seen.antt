-- What a change of a world keeps of what is seen: mounts stay and show what they showed, in their namespace or in
-- none, and
-- inodes stay and keep their kind.
use Rattle.std.proofs.Common.{arith, ◌≡◌, refl, ◌∙◌, ℕ, nat_eq, Bool, true, Option, Some, None, is_some, option_to_list}
use Rattle.vt_spec.proofs.Common.{Location, Mount, Node, World, and_parts, common_steps, holds_of, is_directory, is_directory_at, is_directory_node, is_kind, is_kind_in, is_located_well, is_there, kind_of, list_all, mount_at, mount_numbered, node_at}
use Rattle.vt_spec.specs.declared.attributes.Kind.{Kind}
use Rattle.vt_spec.specs.declared.attributes.Kind.TheVariants.{File}
use Rattle.vt_laws_mounts.specs.Mounts.Attaching.{is_mount}
use Rattle.vt_laws_trees.specs.Trees.Settling.{inode_in}

abbrev pub kind_seen : Option (Node ℕ) → Option Kind
kind_seen None = None
kind_seen (Some node) = Some (kind_of node.content)

-- an inode that is there stays, and keeps its kind
abbrev pub KeepsKind : Option (Node ℕ) → Option (Node ℕ) → Type 0
KeepsKind before after = (test : Kind → Bool) → holds_of test (kind_seen before) ≡ true
    → holds_of test (kind_seen after) ≡ true

-- the namespace is this one, or none
abbrev pub is_in : ℕ → Mount ℕ → Bool
is_in own mount = list_all (nat_eq own) (option_to_list mount.namespace)

-- a mount shows what it showed, and is in its namespace or in none
pub record KeepsView (before later : Mount ℕ) : Type 0 where
  pub filesystem : later.filesystem ≡ before.filesystem
  pub root : later.root ≡ before.root
  pub namespace : (own : ℕ) → is_in own before ≡ true → is_in own later ≡ true

pub record KeepsWhatIsSeen (before after : World ℕ) : Type 0 where
  pub listed : (number : ℕ) → is_mount before number ≡ true → is_mount after number ≡ true
  pub views : (number : ℕ) → is_mount before number ≡ true
      → KeepsView (mount_numbered nat_eq before number) (mount_numbered nat_eq after number)
  pub nodes : (filesystem number : ℕ) → KeepsKind (inode_in before filesystem number) (inode_in after filesystem number)

-- Tests of an inode are tests of its kind
pub there_is : (o : Option (Node ℕ)) → is_some o ≡ holds_of (λ (kind : Kind). true) (kind_seen o)
there_is None = refl
there_is (Some node) = refl

pub directory_is : (o : Option (Node ℕ)) → is_directory_node o ≡ holds_of is_directory (kind_seen o)
directory_is None = refl
directory_is (Some node) = refl

pub kind_is : (kind : Kind) (o : Option (Node ℕ)) → is_kind_in kind o ≡ holds_of (is_kind kind) (kind_seen o)
kind_is kind None = refl
kind_is kind (Some node) = refl

module _ (before after : Option (Node ℕ)) (kept : KeepsKind before after) where
  pub there_kept : is_some before ≡ true → is_some after ≡ true
  there_kept e = there_is after ∙ kept (λ (kind : Kind). true) (cc (there_is before))

  pub directory_kept : is_directory_node before ≡ true → is_directory_node after ≡ true
  directory_kept e = directory_is after ∙ kept is_directory (cc (directory_is before))

  pub kind_kept : (kind : Kind) → is_kind_in kind before ≡ true → is_kind_in kind after ≡ true
  kind_kept kind e = kind_is kind after ∙ kept (is_kind kind) (cc (kind_is kind before))

pub same_kind : (before after : Option (Node ℕ)) → kind_seen after ≡ kind_seen before → KeepsKind before after
same_kind before after same test e = cc

-- One change after another
pub same_view : (mount : Mount ℕ) → KeepsView mount mount
same_view mount = record { filesystem = refl; root = refl; namespace = λ own e. e }

pub views_on : (a b c : Mount ℕ) → KeepsView a b → KeepsView b c → KeepsView a c
views_on a b c r s = grind (arith, common_steps)

pub same_seen : (world : World ℕ) → KeepsWhatIsSeen world world
same_seen world = grind (arith, common_steps, same_view)

pub seen_on : (a b c : World ℕ) → KeepsWhatIsSeen a b → KeepsWhatIsSeen b c → KeepsWhatIsSeen a c
seen_on a b c r s = grind (arith, common_steps, views_on)

-- a world with the mounts and filesystems of another
pub seen_alike : (before after : World ℕ) → after.mounts ≡ before.mounts → after.filesystems ≡ before.filesystems
    → KeepsWhatIsSeen before after
seen_alike before after mounts filesystems = grind (arith, common_steps, same_view, same_kind)

-- mounts changed, and filesystems as they were
pub seen_by_mounts : (before after : World ℕ) → after.filesystems ≡ before.filesystems
    → ((number : ℕ) → is_mount before number ≡ true → is_mount after number ≡ true)
    → ((number : ℕ) → is_mount before number ≡ true
    → KeepsView (mount_numbered nat_eq before number) (mount_numbered nat_eq after number))
    → KeepsWhatIsSeen before after
seen_by_mounts before after same listed views = grind (arith, common_steps, same_kind)

-- filesystems changed, and mounts as they were
pub seen_by_nodes : (before after : World ℕ) → after.mounts ≡ before.mounts
    → ((filesystem number : ℕ) → KeepsKind (inode_in before filesystem number) (inode_in after filesystem number))
    → KeepsWhatIsSeen before after
seen_by_nodes before after same nodes = grind (arith, common_steps, same_view)

-- Locations
module _ (before after : World ℕ) (seen : KeepsWhatIsSeen before after) where
  same_filesystem : (location : Location ℕ) → is_mount before location.mount ≡ true
      → (mount_at nat_eq after location).filesystem ≡ (mount_at nat_eq before location).filesystem
  same_filesystem location is = (seen.views location.mount is).filesystem

  pub node_kept : (location : Location ℕ) → is_mount before location.mount ≡ true
      → KeepsKind (node_at nat_eq before location) (node_at nat_eq after location)
  node_kept location is test e =
      cc (same_filesystem location is, seen.nodes (mount_at nat_eq before location).filesystem location.node test e)

  pub mount_of_located : (location : Location ℕ) → is_located_well nat_eq before location ≡ true
      → is_mount before location.mount ≡ true
  mount_of_located location e = (and_parts (is_mount before location.mount)
      (is_there nat_eq before (mount_at nat_eq before location).filesystem location.node) e).0

  pub located_after : (location : Location ℕ) → is_located_well nat_eq before location ≡ true
      → is_located_well nat_eq after location ≡ true
  located_after location e =
      let is = mount_of_located _ e in
      let there = (and_parts (is_mount before location.mount) (is_some (node_at nat_eq before location)) e).1 in
      cc (
        seen.listed location.mount is,
        there_kept (node_at nat_eq before location) (node_at nat_eq after location) (node_kept location is) there,
      )

  pub directory_after : (location : Location ℕ) → is_mount before location.mount ≡ true
      → is_directory_at nat_eq before location ≡ true → is_directory_at nat_eq after location ≡ true
  directory_after location is =
      directory_kept (node_at nat_eq before location) (node_at nat_eq after location) (node_kept location is)

  pub file_after : (location : Location ℕ) → is_mount before location.mount ≡ true
      → is_kind_in File (node_at nat_eq before location) ≡ true → is_kind_in File (node_at nat_eq after location) ≡ true
  file_after location is =
      kind_kept (node_at nat_eq before location) (node_at nat_eq after location) (node_kept location is) File
