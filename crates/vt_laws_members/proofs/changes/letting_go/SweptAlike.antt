-- The sweep leaves a set one part in the world and in the part of a sealed set, where tasks let locations go.
use Rattle.std.proofs.Common.{◌≡◌, ℕ, nat_eq, List}
use Rattle.vt_spec.proofs.Common.{TaskName, World, own_lowers, part_of, settled, used_filesystems}
use Rattle.vt_laws_members.proofs.changes.letting_go.Changed.{Retasks, sees_less}
use Rattle.vt_laws_members.proofs.changes.letting_go.PartReady.{part_ready}
use Rattle.vt_laws_members.proofs.changes.letting_go.SeeLess.{part_of_less}
use Rattle.vt_laws_members.proofs.changes.letting_go.Sweep.{part_of_settled}
use Rattle.vt_laws_members.proofs.changes.letting_go.WorldReady.{world_ready}

module _ {world : World ℕ} {names set : List TaskName} (left : Retasks world names set) where
  abbrev part : World ℕ
  part = part_of nat_eq world names

  abbrev now : World ℕ
  now = record world { tasks = left.tasks }

  abbrev now_part : World ℕ
  now_part = record part { tasks = left.tasks_too }

  pub swept_alike : part_of nat_eq (settled nat_eq now) set ≡ part_of nat_eq (settled nat_eq now_part) set
  swept_alike = cc (
    part_of_settled now set (used_filesystems nat_eq now set) (own_lowers nat_eq now set)
        (world_ready left.sealing set left.tasks world.change left.lets),
    part_of_less left.is left.tasks_too part.change
        (sees_less left.sealing set left.tasks world.change left.lets) left.same,
    part_of_settled now_part set (used_filesystems nat_eq now set) (own_lowers nat_eq now set)
        (part_ready left world.change part.change),
  )
