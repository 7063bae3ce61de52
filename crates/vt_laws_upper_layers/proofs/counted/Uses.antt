-- Uses that come and go with tasks and mounts, in lowered worlds.
use Rattle.std.proofs.Common.{◌≡◌, refl, sym, subst, ℕ, ◌+◌, nat_eq, cond, List, ◌++◌, flat_map, arith}
use Rattle.vt_spec.proofs.Common.{Filesystem, World, filesystem_numbered, layers_in, located_in, named_in, objects_of_overlay, settled}
use Rattle.vt_laws_mounts.specs.Counts.Counted.{IsCounted}
use Rattle.vt_laws_mounts.specs.Counts.Using.{Exchanges, exchanged, is_inode}
use Rattle.vt_laws_mounts.specs.LettingGo.Counts.{inode_uses, times}
use Rattle.vt_laws_mounts.specs.LettingGo.OneByOne.{Inode}
use Rattle.vt_laws_mounts.proofs.counts.overlays.FilesystemUses.{no_upper_is_in_any}
use Rattle.vt_laws_mounts.proofs.counts.using.Sweeps.{uses_are_swept_beside_overlays}
use Rattle.vt_laws_mounts.proofs.letting_go.sweeps.UpperUses.{times_append}
use Rattle.vt_laws_upper_layers.specs.CountedAbove.{ExchangesAreLowered, UsesAboveAreSwept}
use Rattle.vt_laws_upper_layers.specs.Lowered.{Pins, lowered}
use Rattle.vt_laws_upper_layers.specs.UnnamedPins.{unnamed_pins}
use Rattle.vt_laws_upper_layers.proofs.counted.Rows.{lowered_in_use, lowered_trees}
use Rattle.vt_laws_upper_layers.proofs.lowered.Alike.{lowered_have_no_upper}
use Rattle.vt_laws_upper_layers.proofs.lowered.Counted.{numbered-lowered, parts}
use Rattle.vt_laws_upper_layers.proofs.lowered.Unnamed.{unnamed_are_pinned}
use Rattle.vt_laws_upper_layers.proofs.lowered.UnnamedSwept.{unnamed_are_swept_alike}

-- what uses an inode: the root, names, locations, and what overlays use
split : (world : World ℕ) (f : Filesystem ℕ) (number : ℕ)
    → inode_uses world f number
    ≡ (cond (nat_eq number f.files.tree.root) 1 0 + times (nat_eq number) (named_in f.files ++ located_in nat_eq world f.number))
    + (times (nat_eq number) (layers_in nat_eq world f.number)
    + times (nat_eq number) (flat_map (objects_of_overlay nat_eq f.number) world.filesystems))
split world f number =
    let front = named_in f.files ++ located_in nat_eq world f.number in
    let layers = layers_in nat_eq world f.number in
    let objects = flat_map (objects_of_overlay nat_eq f.number) world.filesystems in
    let one = times_append (nat_eq number) (front ++ layers) objects in
    let two = times_append (nat_eq number) front layers in
    let sum : cond (nat_eq number f.files.tree.root) 1 0 + times (nat_eq number) ((front ++ layers) ++ objects)
    ≡ (cond (nat_eq number f.files.tree.root) 1 0 + times (nat_eq number) front)
    + (times (nat_eq number) layers + times (nat_eq number) objects) = omega (arith, one, two) in
    sum

-- mounts and tasks change alone
moved : (pins : Pins) (world later : World ℕ) (gained lost : List Inode) (filesystem : ℕ)
    → Exchanges gained lost filesystem world (record later { filesystems = world.filesystems })
    → Exchanges gained lost filesystem (lowered pins world)
    (lowered pins (record later { filesystems = world.filesystems }))
moved pins world later gained lost filesystem exchanges = record {
  same = refl;
  uses = λ number.
      let f = filesystem_numbered nat_eq world filesystem in
      let after : World ℕ = record later { filesystems = world.filesystems } in
      let before_uses = split world f number in
      let after_uses = split after f number in
      let before_lowered = parts pins world f number in
      let after_lowered = parts pins after f number in
      let known = exchanges.uses number in
      subst (λ (g : Filesystem ℕ). inode_uses (lowered pins world) g number + times (is_inode filesystem number) gained
      ≡ inode_uses (lowered pins after) g number + times (is_inode filesystem number) lost)
      (sym (numbered-lowered pins world filesystem))
      (omega (arith, before_uses, after_uses, before_lowered, after_lowered, known));
}

pub exchanges_are_lowered : ExchangesAreLowered
exchanges_are_lowered pins world after gained lost filesystem same exchanges =
    subst (λ (later : World ℕ). Exchanges gained lost filesystem (lowered pins world) (lowered pins later)) (sym whole)
    (moved pins world after gained lost filesystem (subst (Exchanges gained lost filesystem world) whole exchanges))
  where
    whole : after ≡ record after { filesystems = world.filesystems }
    whole = λ i. record after { filesystems = same i }

pub uses_above_are_swept : UsesAboveAreSwept
uses_above_are_swept world after gained lost filesystem inodes is under are exchanges counted there =
    let pins = unnamed_pins world in
    let later = unnamed_pins (settled nat_eq after) in
    let pinned = unnamed_are_pinned world is in
    subst (λ (left : World ℕ). IsCounted left (filesystem_numbered nat_eq left filesystem)
    (exchanged filesystem gained lost inodes)) (unnamed_are_swept_alike after under are)
    (uses_are_swept_beside_overlays (lowered pins world) (lowered later after) gained lost filesystem inodes
    (lowered_trees pins world is pinned.0 pinned.1) (lowered_in_use pins world is pinned.0 pinned.1).inodes
    (no_upper_is_in_any (lowered later after) filesystem (lowered_have_no_upper later after)) exchanges counted there)
