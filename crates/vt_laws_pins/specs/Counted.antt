-- What is let go, by counts of locations: close(2), chdir(2), umount(2).
use Rattle.std.specs.Prelude.{List, nat_eq, ℕ, ◌&&◌, ◌+◌, ◌≡◌}
use Rattle.vt_spec.specs.Machine.Settled.{settled, without_dead_mounts}
use Rattle.vt_spec.specs.Machine.World.{World, filesystem_numbered}
use Rattle.vt_laws_mounts.specs.Counts.Using.{Exchanges, is_inode}
use Rattle.vt_laws_mounts.specs.LettingGo.Counts.{times}
use Rattle.vt_laws_mounts.specs.LettingGo.OneByOne.{Inode}
use Rattle.vt_laws_kept.specs.Counts.{locations_on}
use Rattle.vt_laws_upper_layers.specs.UnnamedPins.{is_unnamed}
use Rattle.vt_laws_pins.specs.Gone.{is_let_go}

-- Where mounts and tasks change alone, an unnamed inode is let go if as many uses of it are lost as locations were on it
-- and were gained.
abbrev pub LetGoAreCounted : Type 0
LetGoAreCounted =
    (world after : World ℕ) (gained lost : List Inode) (number inode : ℕ) → after.filesystems ≡ world.filesystems
    → Exchanges gained lost number world (without_dead_mounts nat_eq after)
    → is_let_go (settled nat_eq after) (filesystem_numbered nat_eq world number) inode
    ≡ (is_unnamed (filesystem_numbered nat_eq world number).files inode
    && nat_eq (locations_on world number inode + times (is_inode number inode) gained)
    (times (is_inode number inode) lost))
