-- What a list in one piece holds.
use Rattle.std.specs.Prelude.{List, drop, vec_capacity, vec_len, ℕ, ◌-◌}
use Rattle.vt_deque.specs.declared.slice_deque.SliceDeque.{SliceDeque}

-- the items, in order
unfoldable pub items : {T : Type 0} → SliceDeque T → List T
items deque = drop deque.start deque.list.items

-- for how many more items there is room: with room, a push does not fail
unfoldable pub room : {T : Type 0} → SliceDeque T → ℕ
room deque = vec_capacity deque.list - vec_len deque.list
