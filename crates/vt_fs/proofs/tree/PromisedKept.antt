-- Inodes that are promised, once a tree has changed.
use Rattle.std.proofs.Common.{arith, ap, length, ℕ, ◌+◌, ◌<◌, ◌≡◌, ◌≤◌}
use Rattle.vt_fs.specs.Trees.Names.{HasPromised, Lists}
use Rattle.vt_fs.specs.Trees.Slots.{Slots, slots_len}

module _ (promised : ℕ) (old new : Slots) (lists later : Lists) (longer : length lists ≤ length later)
    (has : HasPromised promised old lists) where
  -- with no less room, and no more numbers
  pub promised_kept : old.room ≤ new.room → slots_len new + new.room ≤ slots_len old + old.room
      → HasPromised promised new later
  promised_kept more total = record {
    room = omega (arith, has.room, more);
    reach = λ some. omega (arith, has.reach some, total, longer);
  }

  -- with more room, while none are promised
  pub promised_beside : new ≡ record old { room = new.room } → old.room ≤ new.room
      → (0 < promised → new.room ≡ old.room) → HasPromised promised new later
  promised_beside same more still = record {
    room = omega (arith, has.room, more);
    reach = λ some. omega (arith, has.reach some, still some, ap slots_len same, longer);
  }
