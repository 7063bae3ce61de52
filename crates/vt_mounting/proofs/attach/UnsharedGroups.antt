-- The groups of an unshare before the old namespace is left: each copy is in those of the mount that it copies.
use Rattle.std.proofs.Common.{◌≡◌, refl, sym, ap, subst, ◌∙◌, inl, ℕ, nat_eq, true, List, [], ◌++◌, map, Option, is_some}
use Rattle.vt_spec.proofs.Common.{Mount, Task, TaskName, World, group_of, has_members, holds_of, is_member_of, map_twice}
use Rattle.vt_mounting.proofs.Common.{Among, AreTyped, Grouping, Grows, GrowsTo, Has, HasGroup, MountEntry, WorldValue, all_from_among, among-map, any_among, any_from_among, map_same, mount_of, mounts_in, numbers_of, typed, typed_by, world_of}
use Rattle.vt_group.specs.Grouping.{are_rising}
use Rattle.vt_location.specs.declared.mounts.Mount.{Mount as Attached}
use Rattle.vt_mounting.specs.Attach.AttachedGroups.{type_of}
use Rattle.vt_mounting.proofs.detach.FollowedTypes.{world_typed}
use Rattle.vt_mounting.proofs.attach.GrownGroups.{attached_worlds_grow}
use Rattle.vt_mounting.proofs.attach.UnsharedWorlds as Worlds
use Rattle.vt_mounting.proofs.attach.UnsharedWorlds.{UnsharingFrom}

-- The copies come after all mounts, in groups that have grown by them.
pub record HasGrown {value : WorldValue} {name : TaskName} {task : Task ℕ} {count : ℕ}
    (it : UnsharingFrom value name task count) (copies : List Attached) (grown : Grouping) : Type 0 where
  pub same : map mount_of copies ≡ Worlds.copies it
  pub rising : are_rising (numbers_of ((world_of value).mounts ++ map mount_of copies)) ≡ true
  pub grows : GrowsTo value.groups grown (map typed copies) []

module _ {value : WorldValue} {name : TaskName} {task : Task ℕ} {count : ℕ} {it : UnsharingFrom value name task count}
    {copies : List Attached} {grown : Grouping} (has_grown : HasGrown it copies grown) where
  open has_grown use {same, rising, grows}
  open it use {whole}

  abbrev world : World ℕ
  world = world_of value

  abbrev base : World ℕ
  base = Worlds.base it (map mount_of copies) same

  -- a group of a copy was there
  was_there : (group : ℕ) → has_members nat_eq (map mount_of copies) group ≡ true → HasGroup world group
  was_there group has =
      let member = any_among (is_member_of nat_eq group) (map mount_of copies) has in
      let from = Worlds.copy_of it (map mount_of copies) same
      member.0 member.1 in
      any_from_among (is_member_of nat_eq group) world.mounts from.0 from.1
      (ap (λ kind. holds_of (nat_eq group) (group_of kind)) (sym from.3) ∙ member.2)

  pub base_has : Has base grown
  base_has = grows world base whole.groups
      (subst (λ types. Grows world base types []) (map_twice type_of mount_of copies)
      (attached_worlds_grow world base (λ mount. mount) (map mount_of copies) [] (record {
        mounts = ap (λ front. front ++ map mount_of copies)
            (sym (map_same (λ (mount : Mount ℕ). mount) world.mounts (λ mount m. refl)));
        number = λ mount. refl;
        kind = λ mount. refl;
        order = rising;
        master = λ group. refl;
        begin = all_from_among (λ (entry : ℕ × Option ℕ). is_some entry.1 ≡ true
            → has_members nat_eq (map mount_of copies) entry.0 ≡ true) [] (λ entry m. absurd m);
        named = λ group has. inl (was_there group has);
      })))

  -- each mount has the type that they tell
  pub base_typed : (entries : List MountEntry) → mounts_in entries ≡ base.mounts → AreTyped grown entries
  base_typed entries are =
      all_from_among (λ (entry : MountEntry). typed_by grown entry.mount ≡ entry.mount) entries (λ entry m.
      world_typed grown base base_has entry.mount
      (subst (Among entry.mount) are (among-map (λ (one : MountEntry). one.mount) entries entry m)))
