-- Changes of one slot, as changes of the function from numbers to slots.
use Rattle.std.proofs.Common.{◌≡◌, ℕ, ◌+◌, ◌≤◌, List, [], ◌∷◌, Option, Some, None, cond, zero, suc, fold, is_some, nat_eq, if◌then◌else◌, slice_index_or, slice_set, refl, ap, arith}
use Rattle.vt_spec.proofs.Common.{Inode, Node, inode_with_node, nat_tests, used_once_less, uses_in}
use Rattle.slab.specs.Slab.{Slab, get, Updates}
use Rattle.vt_fs.specs.Trees.Slots.{Slots, put_at, slots_len, with_node_at}

-- a slab that changes at one key is its function with another value there
pub get-updates : (old new : Slab (Inode ℕ)) (key : ℕ) (slot : Option (Inode ℕ)) → Updates old new key slot
    → get new ≡ put_at (get old) key slot
get-updates old new key slot updates = λ i other. at other i
  where
    at : (other : ℕ) → get new other ≡ (if nat_eq other key then slot else get old other)
    at other = grind (
      arith,
      nat_tests,
      updates.changed,
      updates.others other,
      λ (same : other ≡ key). ap (get new) same,
    )

-- a node with one use at most goes with it
pub used_once_less-last : (slot : Option (Inode ℕ)) → uses_in slot ≤ 1 → used_once_less slot ≡ None
used_once_less-last None few = refl
used_once_less-last (Some inode) few = grind (arith, nat_tests)

-- a write through `get_mut` neither makes nor takes away a node
is_some-inode_with_node : (node : Node ℕ) (slot : Option (Inode ℕ))
    → is_some (inode_with_node (Some node) slot) ≡ is_some slot
is_some-inode_with_node node None = refl
is_some-inode_with_node node (Some inode) = refl

count-with_node : (node : Node ℕ) (counted : ℕ) (slots : List (Option (Inode ℕ))) (id : ℕ)
    → fold (λ a x. a + cond (is_some x) 1 0) counted
    (slice_set slots id (inode_with_node (Some node) (slice_index_or slots id None)))
    ≡ fold (λ a x. a + cond (is_some x) 1 0) counted slots
count-with_node node counted [] id = refl
count-with_node node counted (slot ∷ slots) zero =
    ap (λ b. fold (λ a x. a + cond (is_some x) 1 0) (counted + cond b 1 0) slots) (is_some-inode_with_node node slot)
count-with_node node counted (slot ∷ slots) (suc id) = count-with_node node (counted + cond (is_some slot) 1 0) slots id

pub slots_len-with_node_at : (table : Slots) (id : ℕ) (node : Node ℕ)
    → slots_len (with_node_at table id node) ≡ slots_len table
slots_len-with_node_at table id node = count-with_node node 0 table.slots id
