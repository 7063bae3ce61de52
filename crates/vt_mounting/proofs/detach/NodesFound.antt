-- An inode that is found in a filesystem, plain or an overlay, has the number of a node of that filesystem.
use Rattle.std.proofs.Common.{◌≡◌, refl, sym, ap, subst, ◌∙◌, ⊎_elim, ℕ, nat_eq, nat_lt, eq-eqb, Bool, true, false, true≢false, ◌&&◌, List, [], ◌∷◌, Option, Some, None, is_some, All, lt-ltb, arith}
use Rattle.vt_spec.proofs.Common.{All-cons, All-head, All-nil, All-tail, Filesystem, Node, World, and_true_left, common_steps, filesystem_numbered, node_in}
use Rattle.vt_mounting.proofs.Common.{FilesystemEntry, Filesystems, HasOwnInodes, HasOwnNodes, IsHeld, WorldValue, all_from_among, among-from_map, among_from_all, born_in, counted, filesystem_seen, filesystems_seen, is_own_number, is_small_node, number_numbered, number_of, numbered_all, overlays_seen, put_in, world_of, woven}
use Rattle.vt_location.specs.declared.births.Birth.TheVariants.{Here}
use Rattle.vt_location.specs.declared.locations.NodeRef.{NodeRef}
use Rattle.vt_location.proofs.NodeLemmas.{one_to_one, small_parts}
use Rattle.vt_location.proofs.NumberLemmas.{counted_inode, own_inode, slot_of}

-- the inode with this number is a node of the filesystem with that one
abbrev pub IsNodeIn : ℕ → ℕ → Type 0
IsNodeIn number inode = (node : NodeRef) × (is_small_node node ≡ true) × (number ≡ counted node.filesystem.count)
    × (inode ≡ number_of node)

-- those of a plain filesystem were born there
pub plain_node : (entry : FilesystemEntry) → HasOwnInodes entry → HasOwnNodes (filesystem_seen entry)
plain_node entry own number there = by (is_own_number entry.count number) refl
  where
    by : (b : Bool) → is_own_number entry.count number ≡ b → IsNodeIn (counted entry.count) number
    by false e = absurd (true≢false (sym there ∙ ap (λ o. is_some (node_in o)) (own number e)))
    by true e =
        let slot = slot_of entry.count number (own_inode entry.count number e) in (
          record { filesystem = record { count = entry.count }; slot = slot.0; birth = Here },
          (λ i. and_true_left (nat_lt entry.count 18446744073709551616) _ e i
              && (lt-ltb slot.0 18446744073709551616 slot.1 i && true)),
          refl,
          slot.2,
        )

put_all : (P : Filesystem ℕ → Type 0) (overlay : Filesystem ℕ) (list : List (Filesystem ℕ)) → P overlay → All P list
    → All P (put_in overlay list)
put_all P overlay [] here all = All-cons P overlay [] here (All-nil P)
put_all P overlay (first ∷ rest) here all =
    grind (arith, common_steps, put_all P overlay rest here (All-tail P first rest all), All-tail, All-cons, All-head)

-- what holds of all plain filesystems and of all overlays holds of both
pub woven_all : (P : Filesystem ℕ → Type 0) (plain overlays : List (Filesystem ℕ)) → All P plain → All P overlays
    → All P (woven plain overlays)
woven_all P plain [] all over = all
woven_all P plain (overlay ∷ rest) all over = put_all P overlay (woven plain rest) (All-head P overlay rest over)
    (woven_all P plain rest all (All-tail P overlay rest over))

pub own_together : (base : Filesystems) → All HasOwnInodes base → (overlays : List (Filesystem ℕ))
    → All HasOwnNodes overlays → All HasOwnNodes (woven (filesystems_seen base) overlays)
own_together base own overlays nodes = woven_all HasOwnNodes (filesystems_seen base) overlays
    (all_from_among HasOwnNodes (filesystems_seen base) (λ f m.
    let from = among-from_map filesystem_seen base f m in
    subst HasOwnNodes (sym from.2) (plain_node from.0 (among_from_all HasOwnInodes base own from.0 from.1)))) nodes

-- what is found is a node of the filesystem in which it is found
pub node_in_world : (world : World ℕ) → All HasOwnNodes world.filesystems → (number inode : ℕ)
    → is_some ((filesystem_numbered nat_eq world number).files.tree.node inode) ≡ true → IsNodeIn number inode
node_in_world world own number inode there = ⊎_elim (λ nodes. let found = nodes inode there in (
  found.0,
  found.1,
  sym (number_numbered number world.filesystems) ∙ found.2,
  found.3,
)) (λ missing. absurd (true≢false (sym there
    ∙ ap (λ (f : Filesystem ℕ). is_some (f.files.tree.node inode)) missing.0)))
    (numbered_all HasOwnNodes number world.filesystems own)

-- a node that is found is in its own filesystem
pub node_at_home : (world : World ℕ) → All HasOwnNodes world.filesystems → (number : ℕ) (node : NodeRef)
    → is_small_node node ≡ true
    → is_some ((filesystem_numbered nat_eq world number).files.tree.node (number_of node)) ≡ true
    → number ≡ counted node.filesystem.count
node_at_home world own number node small there =
    let found = node_in_world world own number (number_of node) there in
    cc (found.2, one_to_one node found.0 (small_parts node small) (small_parts found.0 found.1) found.3)

-- The code's world

pub own_nodes : (value : WorldValue) → IsHeld value → All HasOwnNodes (world_of value).filesystems
own_nodes value held =
    own_together value.filesystems held.own_inodes (overlays_seen value.overlays) held.overlays.own_nodes

pub nodes_own : (value : WorldValue) → IsHeld value → (number inode : ℕ)
    → is_some ((filesystem_numbered nat_eq (world_of value) number).files.tree.node inode) ≡ true
    → IsNodeIn number inode
nodes_own value held = node_in_world (world_of value) (own_nodes value held)

pub at_home : {value : WorldValue} → IsHeld value → (number : ℕ) (node : NodeRef) → is_small_node node ≡ true
    → is_some ((filesystem_numbered nat_eq (world_of value) number).files.tree.node (number_of node)) ≡ true
    → number ≡ counted node.filesystem.count
at_home {value} held = node_at_home (world_of value) (own_nodes value held)

-- it is in no other
pub in_no_other : (value : WorldValue) → IsHeld value → (number : ℕ) (node : NodeRef) → is_small_node node ≡ true
    → nat_eq number (counted node.filesystem.count) ≡ false
    → (filesystem_numbered nat_eq (world_of value) number).files.tree.node (number_of node) ≡ None
in_no_other value held number node small other =
    by ((filesystem_numbered nat_eq (world_of value) number).files.tree.node (number_of node)) refl
  where
    by : (o : Option (Node ℕ))
        → (filesystem_numbered nat_eq (world_of value) number).files.tree.node (number_of node) ≡ o → o ≡ None
    by None e = refl
    by (Some found) e = absurd (true≢false (sym (eq-eqb number (counted node.filesystem.count)
        (at_home held number node small (ap is_some e))) ∙ other))

-- what is counted is no inode
pub no_counted_inode : (value : WorldValue) → IsHeld value → (number count : ℕ)
    → (filesystem_numbered nat_eq (world_of value) number).files.tree.node (counted count) ≡ None
no_counted_inode value held number count =
    by ((filesystem_numbered nat_eq (world_of value) number).files.tree.node (counted count)) refl
  where
    by : (o : Option (Node ℕ))
        → (filesystem_numbered nat_eq (world_of value) number).files.tree.node (counted count) ≡ o → o ≡ None
    by None e = refl
    by (Some found) e =
        let node = nodes_own value held number (counted count) (ap is_some e) in
        absurd (counted_inode count (born_in node.0.filesystem.count node.0.birth) node.0.slot node.3)
