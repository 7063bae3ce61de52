-- Uses of inodes and filesystems that new mounts make, and room for them.
use Rattle.std.proofs.Common.{◌≡◌, refl, sym, ap, subst, ◌∙◌, ℕ, ◌+◌, ◌*◌, ◌-◌, ◌<◌, ◌≤◌, nat_eq, eqb-true, Bool, true, false, cond, ◌&&◌, List, [], ◌∷◌, ◌++◌, length, find, Option, Some, None, option_map, unwrap_or, take, get_or, arith, Err, IsErr, Ok, OnOk, Result, nat_le, le-leb, leb-true, length-take-le, IsOk, true≢false}
use Rattle.vt_spec.proofs.Common.{Inode as Counted, Inodes, and_parts, common_steps, folded, list_all, pinned, take_more, used_once_more, uses_in, ⊤}
use Rattle.vt_location.specs.Numbers.{most_counted}
use Rattle.vt_mounting.proofs.Common.{Filesystems, Inode, Shown, among_from_list_all, counted, counted_test, entry_of, inodes_at, inodes_seen, no_entry, pinned_if, shown, shown_entry, with_changed}
use Rattle.vt_fs.specs.FilesystemsValue.{HoldsRoot}
use Rattle.vt_location.specs.declared.locations.Location.{Location}
use Rattle.vt_location.specs.declared.mounts.Mount.{Mount}
use Rattle.vt_mounting.specs.Attach.Room.{has_room, point_has_room, uses_shown}
use Rattle.vt_mounting.specs.Detach.Uses.{inode_of, mounted_if, mounted_in, mounts_shown, pinned_at, pinned_in, shown_by}
use Rattle.vt_mounting.proofs.attach.EnteringLemmas.{among_at}
use Rattle.vt_mounting.proofs.detach.Shown.{pins}

-- the uses of an inode, as code counts them
pub uses_are_shown : (count number : ℕ) (filesystems : Filesystems)
    → uses_in ((inodes_at filesystems count).inode number) ≡ uses_shown (counted count, number) (shown filesystems)
uses_are_shown count number [] = refl
uses_are_shown count number (entry ∷ rest) = by (nat_eq count entry.count) (uses_are_shown count number rest)
    ∙ ap (λ b. unwrap_or (option_map (λ one. uses_in (one.inodes.inode number))
    (cond b (Some (shown_entry entry)) (find (λ one. nat_eq (counted count) (counted one.count)) (shown rest)))) 0)
    (sym (counted_test count entry.count))
  where
    by : (b : Bool) → uses_in ((inodes_seen (unwrap_or (entry_of rest count) (no_entry count))).inode number)
        ≡ uses_shown (counted count, number) (shown rest)
        → uses_in ((inodes_seen (unwrap_or (cond b (Some entry) (entry_of rest count)) (no_entry count))).inode number)
        ≡ unwrap_or (option_map (λ one. uses_in (one.inodes.inode number))
        (cond b (Some (shown_entry entry)) (find (λ one. nat_eq (counted count) (counted one.count)) (shown rest)))) 0
    by true later = refl
    by false later = later

-- What a mount uses

used_more : (o : Option (Counted ℕ)) → uses_in (used_once_more o) ≤ uses_in o + 1
used_more None = omega arith
used_more (Some inode) = omega arith

pinned_more : (inodes : Inodes ℕ) (number other : ℕ)
    → uses_in ((pinned nat_eq inodes number).inode other) ≤ uses_in (inodes.inode other) + 1
pinned_more inodes number other = grind (arith, common_steps, eqb-true, used_more)

pub pinned_if_more : (filesystem : ℕ) (inodes : Inodes ℕ) (inode : Inode) (other : ℕ)
    → uses_in ((pinned_if filesystem inodes inode).inode other) ≤ uses_in (inodes.inode other) + 1
pinned_if_more filesystem inodes inode other = by (nat_eq filesystem inode.0)
  where
    by : (b : Bool) → uses_in ((cond b (pinned nat_eq inodes inode.1) inodes).inode other) ≤ uses_in
        (inodes.inode other) + 1
    by true = pinned_more inodes inode.1 other
    by false = omega arith

pub pinned_uses : (inode other : Inode) (all : List Shown)
    → uses_shown other (pinned_in inode all) ≤ uses_shown other all + 1
pinned_uses inode other [] = omega arith
pinned_uses inode other (one ∷ rest) = grind (arith, common_steps, pinned_uses inode other rest, pinned_if_more)

pub pinned_mounts : (inode : Inode) (filesystem : ℕ) (all : List Shown)
    → mounts_shown filesystem (pinned_in inode all) ≡ mounts_shown filesystem all
pinned_mounts inode filesystem [] = refl
pinned_mounts inode filesystem (one ∷ rest) = grind (arith, common_steps, pinned_mounts inode filesystem rest)

mounted_count : (filesystem : ℕ) (one : Shown) → (mounted_if filesystem one).count ≡ one.count
mounted_count filesystem one = by (nat_eq filesystem (counted one.count))
  where
    by : (b : Bool) → (cond b (record one { mounts = one.mounts + 1 }) one).count ≡ one.count
    by true = refl
    by false = refl

mounted_inodes : (filesystem : ℕ) (one : Shown) → (mounted_if filesystem one).inodes ≡ one.inodes
mounted_inodes filesystem one = by (nat_eq filesystem (counted one.count))
  where
    by : (b : Bool) → (cond b (record one { mounts = one.mounts + 1 }) one).inodes ≡ one.inodes
    by true = refl
    by false = refl

mounted_more : (filesystem : ℕ) (one : Shown) → (mounted_if filesystem one).mounts ≤ one.mounts + 1
mounted_more filesystem one = by (nat_eq filesystem (counted one.count))
  where
    by : (b : Bool) → (cond b (record one { mounts = one.mounts + 1 }) one).mounts ≤ one.mounts + 1
    by true = omega arith
    by false = omega arith

pub mounted_uses : (filesystem : ℕ) (other : Inode) (all : List Shown)
    → uses_shown other (mounted_in filesystem all) ≡ uses_shown other all
mounted_uses filesystem other [] = refl
mounted_uses filesystem other (one ∷ rest) =
    grind (arith, common_steps, mounted_uses filesystem other rest, mounted_count, mounted_inodes)

pub mounted_mounts : (filesystem other : ℕ) (all : List Shown)
    → mounts_shown other (mounted_in filesystem all) ≤ mounts_shown other all + 1
mounted_mounts filesystem other [] = omega arith
mounted_mounts filesystem other (one ∷ rest) =
    grind (arith, common_steps, mounted_mounts filesystem other rest, mounted_count, mounted_more)

-- two uses of an inode at the most, and one mount of a filesystem
uses_at : (point : Option Location) (other : Inode) (all : List Shown)
    → uses_shown other (pinned_at point all) ≤ uses_shown other all + 1
uses_at None other all = omega arith
uses_at (Some point) other all = pinned_uses (inode_of point.node) other all

pub mounts_at : (point : Option Location) (other : ℕ) (all : List Shown)
    → mounts_shown other (pinned_at point all) ≡ mounts_shown other all
mounts_at None other all = refl
mounts_at (Some point) other all = pinned_mounts (inode_of point.node) other all

uses_by : (mount : Mount) (other : Inode) (all : List Shown)
    → uses_shown other (shown_by all mount) ≤ uses_shown other all + 2
uses_by mount other all =
    let mounted = mounted_uses (counted mount.root.filesystem.count) other
    (pinned_at mount.mount_point (pinned_in (inode_of mount.root) all)) in
    let point = uses_at mount.mount_point other (pinned_in (inode_of mount.root) all) in
    let root = pinned_uses (inode_of mount.root) other all in
    omega (arith, mounted, point, root)

mounts_by : (mount : Mount) (other : ℕ) (all : List Shown)
    → mounts_shown other (shown_by all mount) ≤ mounts_shown other all + 1
mounts_by mount other all =
    let mounted = mounted_mounts (counted mount.root.filesystem.count) other
    (pinned_at mount.mount_point (pinned_in (inode_of mount.root) all)) in
    let point = mounts_at mount.mount_point other (pinned_in (inode_of mount.root) all) in
    let root = pinned_mounts (inode_of mount.root) other all in
    omega (arith, mounted, point, root)

pub uses_by_all : (new : List Mount) (other : Inode) (all : List Shown)
    → uses_shown other (folded shown_by all new) ≤ uses_shown other all + 2 * length new
uses_by_all [] other all = omega arith
uses_by_all (mount ∷ new) other all =
    let rest = uses_by_all new other (shown_by all mount) in
    let first = uses_by mount other all in
    omega (arith, rest, first)

pub mounts_by_all : (new : List Mount) (other : ℕ) (all : List Shown)
    → mounts_shown other (folded shown_by all new) ≤ mounts_shown other all + length new
mounts_by_all [] other all = omega arith
mounts_by_all (mount ∷ new) other all =
    let rest = mounts_by_all new other (shown_by all mount) in
    let first = mounts_by mount other all in
    omega (arith, rest, first)

-- Where there is room for all before the first, there is room for each when its turn comes.
module _ (before : List Mount) (size : ℕ) (all : List Shown) (few : length before < size)
    (fits : 2 * size ≤ most_counted) where
  point_later : (point : Option Location) → point_has_room (most_counted - 2 * size) all point ≡ true
      → point_has_room (most_counted - 2) (folded shown_by all before) point ≡ true
  point_later None room = refl
  point_later (Some point) room =
      let was = leb-true (uses_shown (inode_of point.node) all) (most_counted - 2 * size) room in
      let more = uses_by_all before (inode_of point.node) all in
      le-leb (uses_shown (inode_of point.node) (folded shown_by all before)) (most_counted - 2)
      (omega (arith, was, more, few, fits))

  pub room_later : (mount : Mount) → has_room (most_counted - 2 * size) all mount ≡ true
      → has_room (most_counted - 2) (folded shown_by all before) mount ≡ true
  room_later mount room =
      let first = and_parts (nat_le (uses_shown (inode_of mount.root) all) (most_counted - 2 * size)
      && point_has_room (most_counted - 2 * size) all mount.mount_point) _ room in
      let second = and_parts (nat_le (uses_shown (inode_of mount.root) all) (most_counted - 2 * size)) _ first.0 in
      let root = leb-true (uses_shown (inode_of mount.root) all) (most_counted - 2 * size) second.0 in
      let root_more = uses_by_all before (inode_of mount.root) all in
      let mounts = leb-true (mounts_shown (counted mount.root.filesystem.count) all)
      (most_counted - 2 * size) first.1 in
      let mounts_more = mounts_by_all before (counted mount.root.filesystem.count) all in
      λ i. le-leb (uses_shown (inode_of mount.root) (folded shown_by all before)) (most_counted - 2)
      (omega (arith, root, root_more, few, fits)) i && point_later mount.mount_point second.1 i
      && le-leb (mounts_shown (counted mount.root.filesystem.count) (folded shown_by all before)) (most_counted - 2)
      (omega (arith, mounts, mounts_more, few, fits)) i

pub room_at : (new : List Mount) (all : List Shown) {now : List Shown} (i : ℕ) (d : Mount) → i < length new
    → 2 * length new ≤ most_counted
    → list_all (has_room (most_counted - 2 * length new) all) new ≡ true → now ≡ folded shown_by all (take i new)
    → has_room (most_counted - 2) now (get_or new i d) ≡ true
room_at new all i d less fits room so_far =
    subst (λ later. has_room (most_counted - 2) later (get_or new i d) ≡ true) (sym so_far)
    (room_later (take i new) (length new) all
    (let size = length-take-le i new (omega (arith, less)) in omega (arith, size, less)) fits (get_or new i d)
    (among_from_list_all (has_room (most_counted - 2 * length new) all) new room (get_or new i d)
    (among_at new i d less)))

-- one more at the end
pub folded_more : {A B : Type 0} (add : B → A → B) (front : List A) (last : A) (b : B)
    → folded add b (front ++ last ∷ []) ≡ add (folded add b front) last
folded_more add [] last b = refl
folded_more add (first ∷ front) last b = folded_more add front last (add b first)

-- the next one is in use
pub shown_next : (new : List Mount) (old : List Shown) {before after : List Shown} (i : ℕ) (d : Mount) → i < length new
    → before ≡ folded shown_by old (take i new) → after ≡ shown_by before (get_or new i d)
    → after ≡ folded shown_by old (take (i + 1) new)
shown_next new old i d less so_far step = step ∙ ap (λ all. shown_by all (get_or new i d)) so_far
    ∙ sym (ap (folded shown_by old) (take_more new i d less) ∙ folded_more shown_by (take i new) (get_or new i d) old)

-- What code counts

pub holds : (count : ℕ) (old : Filesystems)
    → shown (with_changed count (λ entry. record entry { mounts = entry.mounts + 1 }) old)
    ≡ mounted_in (counted count) (shown old)
holds count [] = refl
holds count (entry ∷ rest) = grind (arith, common_steps, holds count rest, counted_test)

-- what is refused at the most alone is not refused below
pub not_refused : {E : Type 0} (result : Result ⊤ E) (P Q : Type 0) → (IsErr result → Q) → OnOk result P → (Q → ⊥) → P
not_refused (Ok value) P Q limit ok less = ok
not_refused (Err refused) P Q limit ok less = absurd (less (limit refl))

-- the parts of room
pub root_has_room : (most : ℕ) (all : List Shown) (mount : Mount) → has_room most all mount ≡ true
    → uses_shown (inode_of mount.root) all ≤ most
root_has_room most all mount room =
    let first = and_parts (nat_le (uses_shown (inode_of mount.root) all) most
    && point_has_room most all mount.mount_point) _ room in
    leb-true _ most (and_parts (nat_le (uses_shown (inode_of mount.root) all) most) _ first.0).0

pub filesystem_has_room : (most : ℕ) (all : List Shown) (mount : Mount) → has_room most all mount ≡ true
    → mounts_shown (counted mount.root.filesystem.count) all ≤ most
filesystem_has_room most all mount room = leb-true _ most (and_parts (nat_le (uses_shown (inode_of mount.root) all) most
    && point_has_room most all mount.mount_point) _ room).1

-- one use more leaves room for one less
pub point_room_left : (all : List Shown) (mount : Mount) → has_room (most_counted - 2) all mount ≡ true
    → point_has_room (most_counted - 1) (pinned_in (inode_of mount.root) all) mount.mount_point ≡ true
point_room_left all mount room = grind (arith, common_steps, leb-true, pinned_uses, le-leb)

-- room for a root and its filesystem, and for a mount point
pub room_of_parts : (most : ℕ) (all : List Shown) (mount : Mount) (b : Bool)
    → b ≡ (nat_le (uses_shown (inode_of mount.root) all) most
    && nat_le (mounts_shown (counted mount.root.filesystem.count) all) most)
    → (b && point_has_room most all mount.mount_point) ≡ has_room most all mount
room_of_parts most all mount b is = ap (λ b. b && point_has_room most all mount.mount_point) is
    ∙ turned (nat_le (uses_shown (inode_of mount.root) all) most) (point_has_room most all mount.mount_point)
    (nat_le (mounts_shown (counted mount.root.filesystem.count) all) most)
  where
    turned : (a b c : Bool) → (a && c && b) ≡ (a && b && c)
    turned true true true = refl
    turned true true false = refl
    turned true false true = refl
    turned true false false = refl
    turned false b c = refl

-- A root that is held

pub granted : {E P : Type 0} (result : Result ⊤ E) → IsOk result → OnOk result P → P
granted (Ok value) fine ok = ok
granted (Err refused) fine ok = absurd (true≢false (sym fine))

pub held_shown : (count number : ℕ) (old new : Filesystems) → HoldsRoot count number old new
    → shown new ≡ mounted_in (counted count) (pinned_in (counted count, number) (shown old))
held_shown count number old new held = ap shown held.mounted ∙ holds count held.between
    ∙ ap (mounted_in (counted count)) (pins count number old held.between held.pins)

-- a mount more of a filesystem, and a use more of an inode, in either order
mounted_pinned : (filesystem : ℕ) (inode : Inode) (all : List Shown)
    → pinned_in inode (mounted_in filesystem all) ≡ mounted_in filesystem (pinned_in inode all)
mounted_pinned filesystem inode [] = refl
mounted_pinned filesystem inode (one ∷ rest) = λ i. by (nat_eq filesystem (counted one.count)) i
    ∷ mounted_pinned filesystem inode rest i
  where
    by : (b : Bool) → record (cond b (record one { mounts = one.mounts + 1 }) one) {
      inodes = pinned_if (counted (cond b (record one { mounts = one.mounts + 1 }) one).count)
          (cond b (record one { mounts = one.mounts + 1 }) one).inodes inode;
    } ≡ cond b (record one { inodes = pinned_if (counted one.count) one.inodes inode; mounts = one.mounts + 1 })
        (record one { inodes = pinned_if (counted one.count) one.inodes inode })
    by true = refl
    by false = refl

pub mounted_placed : (filesystem : ℕ) (point : Option Location) (all : List Shown)
    → pinned_at point (mounted_in filesystem all) ≡ mounted_in filesystem (pinned_at point all)
mounted_placed filesystem None all = refl
mounted_placed filesystem (Some point) all = mounted_pinned filesystem (inode_of point.node) all

-- room for a mount point does not change with the mounts of a filesystem
pub point_room_mounted : (most filesystem : ℕ) (all : List Shown) (point : Option Location)
    → point_has_room most all point ≡ true → point_has_room most (mounted_in filesystem all) point ≡ true
point_room_mounted most filesystem all None room = refl
point_room_mounted most filesystem all (Some point) room =
    ap (λ uses. nat_le uses most) (mounted_uses filesystem (inode_of point.node) all) ∙ room
