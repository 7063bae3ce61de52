-- What a contract sees of `Slots`.
use Rattle.std.specs.Prelude.{ℕ, Bool, List, None, Option, Some, count_by, false, if◌then◌else◌, is_none, is_some, nat_eq, slice_index_or, slice_set}
use Rattle.vt_spec.specs.Inodes.{Inode, Inodes, inode_with_node, node_in, used_once_less}
use Rattle.vt_spec.specs.Tree.{Node}

-- what is at each number from 0 on, the number that the next insert gives out, and how many nodes fit with no
-- allocation
pub record Slots : Type 0 where
  pub slots : List (Option (Inode ℕ))
  pub next : ℕ
  pub room : ℕ

-- the inode at a number
abbrev pub slot_at : Slots → ℕ → Option (Inode ℕ)
slot_at table = λ id. slice_index_or table.slots id None

-- the node at a number
abbrev pub node_at : Slots → ℕ → Option (Node ℕ)
node_at table = λ id. node_in (slot_at table id)

-- how many nodes there are
abbrev pub slots_len : Slots → ℕ
slots_len table = count_by is_some table.slots

-- the inodes of a tree with this root
abbrev pub inodes_in : ℕ → Slots → Inodes ℕ
inodes_in root table = record { root = root; inode = slot_at table; count = slots_len table }

-- the function, with another value at a key
abbrev pub put_at : {A : Type 0} → (ℕ → A) → ℕ → A → ℕ → A
put_at f key value = λ other. if nat_eq other key then value else f other

abbrev pub with_uses : ℕ → Option (Inode ℕ) → Option (Inode ℕ)
with_uses uses None = None
with_uses uses (Some inode) = Some (record inode { uses = uses })

-- whether a release takes the node
abbrev pub goes : Option (Inode ℕ) → Bool
goes None = false
goes (Some inode) = is_none (used_once_less (Some inode))

-- an inode with another node
abbrev pub with_slot_node : Inode ℕ → Node ℕ → Inode ℕ
with_slot_node inode node = record inode { node = node }

-- the table after a write through `get_mut(id)`
abbrev pub with_node_at : Slots → ℕ → Node ℕ → Slots
with_node_at table id node = record table {
  slots = slice_set table.slots id
      (inode_with_node (Some node) (slot_at table id));
}
