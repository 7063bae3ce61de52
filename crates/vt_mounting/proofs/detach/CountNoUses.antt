-- Uses of nodes where overlays count none: they are those of inodes in plain filesystems, and go on to be.
use Rattle.std.proofs.Common.{◌≡◌, refl, sym, ap, subst, ◌∙◌, ℕ, ◌+◌, ◌-◌, ◌<◌, nat_eq, nat_le, le-leb, eqb-true, Bool, true, false, true≢false, cond, not, ◌&&◌, List, [], ◌∷◌, Option, Some, None, option_map, is_some, IsErr, OnOk, Result, arith}
use Rattle.vt_spec.proofs.Common.{common_steps, folded, none_is_some, or_parts, same_Some, uses_in, ⊤}
use Rattle.vt_spec.proofs.Lists.{none-filter}
use Rattle.vt_mounting.proofs.Common.{Among, Inode, Shown, StoreValue, all_from_among, among-from_filter, among-map, among_from_all, counted, entry_in, found_in, inodes_at, layered_in, number_of, shown}
use Rattle.vt_layered.specs.LayeredValue.{Above, LayeredValue}
use Rattle.vt_layered.specs.Pins.{IsPinned, IsUnpinned, let_go_by, uses_above}
use Rattle.vt_location.specs.declared.locations.NodeRef.{NodeRef}
use Rattle.vt_location.specs.Numbers.{most_counted}
use Rattle.vt_store.proofs.KeptObjects.{layered_entry}
use Rattle.vt_store.specs.OverlaysValue.{OverlayEntry}
use Rattle.vt_store.specs.Pins.{ChangesAbove, LetsGo, Pins, PinsBy, Unpins, UnpinsBy, node_uses, uses_by}
use Rattle.vt_mounting.specs.Attach.Room.{uses_shown}
use Rattle.vt_mounting.specs.Detach.Stored.{CountNoUses, CountsNoUses, OverlaysLeft, has_count, layered_kept, under_counts}
use Rattle.vt_mounting.specs.Detach.Uses.{Merged, inode_of, let_go_filesystem, merged_at, mounted_if, mounted_in, mounts_shown, pinned_in, released_if, released_in, shown_left_by, unpinned_in, without_filesystem, without_layer}
use Rattle.vt_mounting.proofs.attach.RoomLemmas.{not_refused, uses_are_shown}
use Rattle.vt_mounting.proofs.detach.OverlaysListed.{left_still}
use Rattle.vt_mounting.proofs.detach.Shown.{counted_eq_back, pins, unpins}

-- Filesystems of fewer counts

-- no count comes
abbrev pub NoneComes : List Shown → List Shown → Type 0
NoneComes old new = (count : ℕ) → has_count count old ≡ false → has_count count new ≡ false

pinned_counts : (inode : Inode) (count : ℕ) (all : List Shown)
    → has_count count (pinned_in inode all) ≡ has_count count all
pinned_counts inode count [] = refl
pinned_counts inode count (one ∷ rest) = grind (arith, common_steps, pinned_counts inode count rest)

unpinned_counts : (inode : Inode) (count : ℕ) (all : List Shown)
    → has_count count (unpinned_in inode all) ≡ has_count count all
unpinned_counts inode count [] = refl
unpinned_counts inode count (one ∷ rest) = grind (arith, common_steps, unpinned_counts inode count rest)

released_count : (filesystem : ℕ) (one : Shown) → (released_if filesystem one).count ≡ one.count
released_count filesystem one = by (nat_eq filesystem (counted one.count))
  where
    by : (b : Bool) → (cond b (record one { mounts = one.mounts - 1 }) one).count ≡ one.count
    by true = refl
    by false = refl

released_counts : (filesystem count : ℕ) (all : List Shown)
    → has_count count (released_in filesystem all) ≡ has_count count all
released_counts filesystem count [] = refl
released_counts filesystem count (one ∷ rest) =
    grind (arith, common_steps, released_counts filesystem count rest, released_count)

mounted_count : (filesystem : ℕ) (one : Shown) → (mounted_if filesystem one).count ≡ one.count
mounted_count filesystem one = by (nat_eq filesystem (counted one.count))
  where
    by : (b : Bool) → (cond b (record one { mounts = one.mounts + 1 }) one).count ≡ one.count
    by true = refl
    by false = refl

mounted_counts : (filesystem count : ℕ) (all : List Shown)
    → has_count count (mounted_in filesystem all) ≡ has_count count all
mounted_counts filesystem count [] = refl
mounted_counts filesystem count (one ∷ rest) =
    grind (arith, common_steps, mounted_counts filesystem count rest, mounted_count)

pub none_mounted : (filesystem : ℕ) (all : List Shown) → NoneComes all (mounted_in filesystem all)
none_mounted filesystem all count none = mounted_counts filesystem count all ∙ none

pub none_pinned : (inode : Inode) (all : List Shown) → NoneComes all (pinned_in inode all)
none_pinned inode all count none = pinned_counts inode count all ∙ none

pub none_unpinned : (inode : Inode) (all : List Shown) → NoneComes all (unpinned_in inode all)
none_unpinned inode all count none = unpinned_counts inode count all ∙ none

none_let_go : (filesystem : ℕ) (all : List Shown) → NoneComes all (let_go_filesystem filesystem (released_in filesystem all))
none_let_go filesystem all count none = by (nat_eq (mounts_shown filesystem less) 0)
  where
    less : List Shown
    less = released_in filesystem all

    fewer : has_count count less ≡ false
    fewer = released_counts filesystem count all ∙ none

    by : (b : Bool) → has_count count (cond b (without_filesystem filesystem less) less) ≡ false
    by true = none-filter (λ (one : Shown). nat_eq count one.count)
        (λ (one : Shown). not (nat_eq filesystem (counted one.count))) less fewer
    by false = fewer

none_without_layers : (layers : List Inode) (all : List Shown) → NoneComes all (folded without_layer all layers)
none_without_layers [] all count none = none
none_without_layers (layer ∷ rest) all count none = none_without_layers rest (without_layer all layer) count
    (none_let_go layer.0 (unpinned_in layer all) count (none_unpinned layer all count none))

-- a filesystem has a mount less, or an overlay
pub none_left : (number : ℕ) (found : Option Merged) (all : List Shown) → NoneComes all (shown_left_by number found all)
none_left number None all count none = none_let_go number all count none
none_left number (Some one) all count none = by (nat_eq (one.mounts - 1) 0)
  where
    by : (b : Bool) → has_count count (cond b (folded without_layer all one.layers) all) ≡ false
    by true = none_without_layers one.layers all count none
    by false = none

-- What is left of overlays counts no uses still.
pub still_none : (old new : StoreValue) → CountNoUses old → OverlaysLeft old.overlays new.overlays
    → NoneComes (shown old.plain) (shown new.plain) → CountNoUses new
still_none old new none left fewer = all_from_among (CountsNoUses (shown new.plain)) (under_counts new.overlays) (λ one m.
    let was = among-from_filter left.0 (under_counts old.overlays) one
    (subst (Among one) left.1 m) in
    let counts = among_from_all (CountsNoUses (shown old.plain)) (under_counts old.overlays) none one was.0 in
    record { low = counts.low; apart = fewer one.0 counts.apart })

-- An inode of a filesystem that is not there

pinned_nowhere : (count number : ℕ) (all : List Shown) → has_count count all ≡ false
    → pinned_in (counted count, number) all ≡ all
pinned_nowhere count number [] none = refl
pinned_nowhere count number (one ∷ rest) none =
    let parts = or_parts (nat_eq count one.count) (has_count count rest) none in
    grind (arith, common_steps, parts.0, pinned_nowhere count number rest parts.1, counted_eq_back one.count count)

unpinned_nowhere : (count number : ℕ) (all : List Shown) → has_count count all ≡ false
    → unpinned_in (counted count, number) all ≡ all
unpinned_nowhere count number [] none = refl
unpinned_nowhere count number (one ∷ rest) none =
    let parts = or_parts (nat_eq count one.count) (has_count count rest) none in
    grind (arith, common_steps, parts.0, unpinned_nowhere count number rest parts.1, counted_eq_back one.count count)

unused_nowhere : (count number : ℕ) (all : List Shown) → has_count count all ≡ false
    → uses_shown (counted count, number) all ≡ 0
unused_nowhere count number [] none = refl
unused_nowhere count number (one ∷ rest) none =
    let parts = or_parts (nat_eq count one.count) (has_count count rest) none in
    grind (arith, common_steps, parts.0, unused_nowhere count number rest parts.1, counted_eq_back count one.count)

mounts_nowhere : (count : ℕ) (all : List Shown) → has_count count all ≡ false → mounts_shown (counted count) all ≡ 0
mounts_nowhere count [] none = refl
mounts_nowhere count (one ∷ rest) none =
    let parts = or_parts (nat_eq count one.count) (has_count count rest) none in
    grind (arith, common_steps, parts.0, mounts_nowhere count rest parts.1, counted_eq_back count one.count)

mounted_nowhere : (count : ℕ) (all : List Shown) → has_count count all ≡ false → mounted_in (counted count) all ≡ all
mounted_nowhere count [] none = refl
mounted_nowhere count (one ∷ rest) none =
    let parts = or_parts (nat_eq count one.count) (has_count count rest) none in
    grind (arith, common_steps, parts.0, mounted_nowhere count rest parts.1, counted_eq_back count one.count)

-- Uses of nodes

module _ (store : StoreValue) (none : CountNoUses store) where
  -- the overlay of a count counts none
  pub found_none : (count : ℕ) (layered : LayeredValue) → layered_in store count ≡ Some layered
      → CountsNoUses (shown store.plain) (count, layered)
  found_none count layered is = by (entry_in store count) refl is
    where
      by : (o : Option OverlayEntry) → entry_in store count ≡ o → option_map layered_entry o ≡ Some layered
          → CountsNoUses (shown store.plain) (count, layered)
      by None e f = none_is_some layered f
      by (Some entry) e f =
          let found = found_in (λ (entry : OverlayEntry). nat_eq count entry.count) store.overlays entry e in
          let counts = among_from_all (CountsNoUses (shown store.plain)) (under_counts store.overlays) none
          (layered_kept entry) (among-map layered_kept store.overlays entry found.0) in
          record {
            low = ap (λ (one : LayeredValue). one.above) (sym (same_Some (layered_entry entry) layered f)) ∙ counts.low;
            apart = ap (λ n. has_count n (shown store.plain)) (eqb-true count entry.count found.1) ∙ counts.apart;
          }

  -- they are those of inodes
  pub uses_are_plain : (node : NodeRef) → node_uses store node
      ≡ uses_in ((inodes_at store.plain node.filesystem.count).inode (number_of node))
  uses_are_plain node = by (layered_in store node.filesystem.count) refl
    where
      by : (o : Option LayeredValue) → layered_in store node.filesystem.count ≡ o → uses_by store.plain node o
          ≡ uses_in ((inodes_at store.plain node.filesystem.count).inode (number_of node))
      by None e = refl
      by (Some layered) e =
          let counts = found_none node.filesystem.count layered e in
          ap (λ (above : Option Above). uses_above above node) counts.low
          ∙ sym (uses_are_shown node.filesystem.count (number_of node) store.plain
          ∙ unused_nowhere node.filesystem.count (number_of node) (shown store.plain) counts.apart)

  -- one more
  pub pins_plain : (node : NodeRef) (new : StoreValue) → Pins node store new
      → (shown new.plain ≡ pinned_in (inode_of node) (shown store.plain)) × (new.overlays ≡ store.overlays)
  pins_plain node new done = by (layered_in store node.filesystem.count) refl done
    where
      by : (o : Option LayeredValue) → layered_in store node.filesystem.count ≡ o → PinsBy node store new o
          → (shown new.plain ≡ pinned_in (inode_of node) (shown store.plain)) × (new.overlays ≡ store.overlays)
      by None e so = (pins node.filesystem.count (number_of node) store.plain new.plain so.1, so.0)
      by (Some layered) e so = let counts = found_none node.filesystem.count layered e in (
        ap shown so.0
            ∙ sym (pinned_nowhere node.filesystem.count (number_of node) (shown store.plain) counts.apart),
        subst (ChangesAbove (IsPinned node) node.filesystem.count store.overlays new.overlays) counts.low so.1,
      )

  -- and one less
  pub unpins_plain : (node : NodeRef) (new : StoreValue) → Unpins node store new
      → (shown new.plain ≡ unpinned_in (inode_of node) (shown store.plain)) × (new.overlays ≡ store.overlays)
  unpins_plain node new done = by (layered_in store node.filesystem.count) refl done
    where
      by : (o : Option LayeredValue) → layered_in store node.filesystem.count ≡ o → UnpinsBy node store new o
          → (shown new.plain ≡ unpinned_in (inode_of node) (shown store.plain)) × (new.overlays ≡ store.overlays)
      by None e so = (unpins node.filesystem.count (number_of node) store.plain new.plain so.1, so.0)
      by (Some layered) e so =
          let counts = found_none node.filesystem.count layered e in
          let stays : new.plain ≡ store.plain =
          subst (λ (above : Option Above). LetsGo (let_go_by layered.overlay above node) store.plain new.plain)
          counts.low so.0 in (
            ap shown stays
                ∙ sym (unpinned_nowhere node.filesystem.count (number_of node) (shown store.plain) counts.apart),
            subst (ChangesAbove (IsUnpinned node) node.filesystem.count store.overlays new.overlays) counts.low so.1,
          )

  -- which is not refused where there is room
  pub uses_are_seen : (node : NodeRef) → node_uses store node ≡ uses_shown (inode_of node) (shown store.plain)
  uses_are_seen node =
      uses_are_plain node ∙ uses_are_shown node.filesystem.count (number_of node) store.plain

  pub pin_granted : {E : Type 0} (node : NodeRef) (result : Result ⊤ E) (new : StoreValue)
      → uses_shown (inode_of node) (shown store.plain) < most_counted
      → (IsErr result → node_uses store node ≡ most_counted) → OnOk result (Pins node store new) → Pins node store new
  pin_granted node result new few limit ok =
      let same = uses_are_seen node in
      not_refused result (Pins node store new) (node_uses store node ≡ most_counted) limit ok
      (λ full. omega (arith, full, few, same))

  -- the root of a mount of an overlay
  pub apart_there : (count : ℕ) → is_some (layered_in store count) ≡ true → has_count count (shown store.plain) ≡ false
  apart_there count there = by (layered_in store count) refl there
    where
      by : (o : Option LayeredValue) → layered_in store count ≡ o → is_some o ≡ true
          → has_count count (shown store.plain) ≡ false
      by None e f = absurd (true≢false (sym f))
      by (Some layered) e f = (found_none count layered e).apart

  pub root_room : (root : NodeRef) (most : ℕ) → is_some (layered_in store root.filesystem.count) ≡ true
      → nat_le (node_uses store root) most ≡ (nat_le (uses_shown (inode_of root) (shown store.plain)) most
      && nat_le (mounts_shown (counted root.filesystem.count) (shown store.plain)) most)
  root_room root most there =
      let apart = apart_there root.filesystem.count there in
      let uses = unused_nowhere root.filesystem.count (number_of root) (shown store.plain) apart in
      let mounts = mounts_nowhere root.filesystem.count (shown store.plain) apart in
      let none : nat_le 0 most ≡ true = le-leb 0 most (omega arith) in
      ap (λ n. nat_le n most) (uses_are_seen root ∙ uses) ∙ none
      ∙ sym ((λ i. nat_le (uses i) most && nat_le (mounts i) most) ∙ (λ i. none i && none i))

  pub mounted_root : (root : NodeRef) → is_some (layered_in store root.filesystem.count) ≡ true
      → pinned_in (inode_of root) (shown store.plain)
      ≡ mounted_in (counted root.filesystem.count) (pinned_in (inode_of root) (shown store.plain))
  mounted_root root there = sym (mounted_nowhere root.filesystem.count (pinned_in (inode_of root) (shown store.plain))
      (none_pinned (inode_of root) (shown store.plain) root.filesystem.count
      (apart_there root.filesystem.count there)))

  -- They go on to be.
  pub still_same : (new : StoreValue) → under_counts new.overlays ≡ under_counts store.overlays
      → NoneComes (shown store.plain) (shown new.plain) → CountNoUses new
  still_same new same fewer = still_none store new none (left_still store.overlays new.overlays same) fewer

  pub still_pinned : (node : NodeRef) (new : StoreValue) → Pins node store new → CountNoUses new
  still_pinned node new done =
      let so = pins_plain node new done in
      still_same new (ap under_counts so.1)
      (λ count fewer. ap (has_count count) so.0 ∙ none_pinned (inode_of node) (shown store.plain) count fewer)

  pub still_unpinned : (node : NodeRef) (new : StoreValue) → Unpins node store new → CountNoUses new
  still_unpinned node new done =
      let so = unpins_plain node new done in
      still_same new (ap under_counts so.1)
      (λ count fewer. ap (has_count count) so.0 ∙ none_unpinned (inode_of node) (shown store.plain) count fewer)

  -- a mount less of a filesystem, or of an overlay
  pub still_left : (filesystem root : ℕ) (overlays : List Merged) (new : StoreValue)
      → OverlaysLeft store.overlays new.overlays
      → shown new.plain ≡ shown_left_by filesystem (merged_at filesystem overlays)
      (unpinned_in (filesystem, root) (shown store.plain)) → CountNoUses new
  still_left filesystem root overlays new left so = still_none store new none left (λ count fewer. ap (has_count count) so
      ∙ none_left filesystem (merged_at filesystem overlays)
      (unpinned_in (filesystem, root) (shown store.plain)) count
      (none_unpinned (filesystem, root) (shown store.plain) count fewer))
