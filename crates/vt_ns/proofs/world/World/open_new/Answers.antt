use Rattle.std.proofs.Common.{◌≡◌, sym, subst, ap, ◌∙◌, arith, rules, ℕ, Result, OnOk, map, IsErr}
use Rattle.vt_spec.proofs.Common.{TaskName, uses_in, common_steps}
use Rattle.vt_permits.specs.GrantValue.{descriptor_permit}
use Rattle.vt_permits.specs.declared.grant.DescriptorGrant.TheVariants.{OpenNew}
use Rattle.vt_permits.specs.declared.grant.ToOpenNew.{ToOpenNew}
use Rattle.vt_ns.proofs.Common.{Becomes, IsDone, IsHeld, IsSmall, WorldValue, access_of, changed as changed_mounts, counted, inodes_at, merged_seen, number_of, pins, with_store, location_of}
use Rattle.vt_mount.specs.MountsValue.{held}
use Rattle.vt_mount.proofs.KeptLemmas.{of-ok}
use Rattle.vt_ns.specs.contracts.world.World.{the_view}
use Rattle.vt_ns.specs.Grants.{Grants}
use Rattle.vt_ns.proofs.world.OpeningGranted.{IsNext, MayOpen, has_next, open_permitted, open_vacant}
use Rattle.vt_ns.proofs.world.OpeningNew.{make_fits, may_open_one, new_in_directory, new_opens, used_once}
use Rattle.vt_ns.proofs.world.PlainStored.{done_plainly}
use Rattle.vt_ns.proofs.world.Births.{births_are, held_with, tasks_are}
use Rattle.vt_ns.proofs.world.World.open_new.Goals.{After-alloc}
use Rattle.vt_ns.specs.Vacancy.{NextInodeIsVacant}
use Rattle.vt_ns.proofs.world.World.open_new.Goals as goal

-- a new inode has one use, and room for another
new_pinned : {A E P : Type 0} (r : Result A E) (uses : ℕ) → (IsErr r → uses ≡ 18446744073709551615) → uses ≡ 1
    → OnOk r P → P
new_pinned r uses full once p = grind (arith, common_steps)

-- what the task is granted
abbrev may_open : (value same : WorldValue) → value ≡ same → IsHeld value → (name : TaskName) (new : ToOpenNew)
    → IsSmall new.directory → Grants same name (descriptor_permit (OpenNew new)) → MayOpen value
may_open value same is held name new small granted = record {
  held = held;
  name = name;
  directory = new.directory;
  entry = new.name.items;
  node = new.node;
  access = access_of new.access;
  small = small;
  granted = subst (λ one. Grants one name (descriptor_permit (OpenNew new))) (sym is) granted;
}

abbrev may : (c : After-alloc) → MayOpen (the_view c.self.inside)
may c = may_open (the_view c.self.inside) _ c.self.view_is c.self.invariant c.args.name.now c.args.new (omega arith)
    c.requires

-- the next inode, in which the file is made
abbrev next : (c : After-alloc) → IsNext (the_view c.self.inside) (may c)
next c = record {
  odd = c.alloc.ensures.counted;
  sources = c.alloc.ensures.sources;
  made = c.unwrap-file.result;
  number = rw c.unwrap-file.ensures at (rw c.plain.ensures at c.next_number.ensures.number);
  inside = rw c.unwrap-file.ensures at c.next_number.ensures.filesystem;
  born = rw c.unwrap-file.ensures at c.next_number.ensures.birth;
  nowhere = rw c.unwrap-file.ensures at (rw c.plain.ensures at c.next_number.ensures.vacant);
  small_made = search rules;
}

pub unwrap-file-requires : goal.unwrap-file-requires
unwrap-file-requires c = has_next (the_view c.self.inside)
    (may_open (the_view c.self.inside) _ c.self.view_is c.self.invariant c.args.name.now c.args.new (omega arith)
    c.requires) c.next_number.result (rw c.plain.ensures at c.next_number.ensures.number)

pub open_next-requires-clause-may : goal.open_next-requires-clause-may
open_next-requires-clause-may c = may_open_one (the_view c.self.inside) (may c) (next c)

pub open_next-requires-clause-directory : goal.open_next-requires-clause-directory
open_next-requires-clause-directory c =
    rw c.plain_mut-filesystems.ensures.value ((make_fits (the_view c.self.inside) (may c) (next c)).0)

pub open_next-requires-clause-free : goal.open_next-requires-clause-free
open_next-requires-clause-free c =
    rw c.plain_mut-filesystems.ensures.value ((make_fits (the_view c.self.inside) (may c) (next c)).1)

pub open_next-requires-clause-node : goal.open_next-requires-clause-node
open_next-requires-clause-node c = new_in_directory (the_view c.self.inside) (may c) (next c)

abbrev after : (c : goal.After-self-2-1) → WorldValue
after c = with_store (record c.self.inside.store { plain = c.pin.new.self })
    (record (the_view c.self.inside) { mounts = c.hold.new.self; tasks = c.open_next.new.tasks.tasks })

-- the world then is the one that the permit leaves
done : (c : goal.After-self-2-1) → IsDone (the_view c.self.inside) c.args.name.now
    (descriptor_permit (OpenNew c.args.new)) (after c)
done c =
    let at = (goal.at.returns-clause-ok c).After-alloc in
    let value = the_view c.self.inside in
    let made = rw c.plain_mut-filesystems.ensures.value at c.in_ok-number.ensures.made.made in
    let once = ap (λ filesystem. uses_in ((inodes_at c.open_next.new.filesystems filesystem.count).inode
    (number_of c.unwrap-file.result))) (next at).inside
    ∙ used_once value (may at) (next at) c.open_next.new.filesystems made in
    let room = c.mount_has_room.ensures (let room = c.if-not-mount_has_room.false in search rules) in
    let mounts = of-ok c.hold.result (c.hold.ensures.few room.0 room.1) c.hold.ensures.ok in
    let filesystems = new_pinned c.pin.result _ (rw c.plain_mut.ensures.value at c.pin.ensures.limit).0 once
    (rw c.plain_mut.ensures.value at c.pin.ensures.ok) in
    done_plainly value c.self.inside.store c.self.invariant c.args.name.now (descriptor_permit (OpenNew c.args.new))
    (open_permitted value (may at) (next at)) c.pin.new.self
    (record value { mounts = c.hold.new.self; tasks = c.open_next.new.tasks.tasks })
    (new_opens value (may at) (next at) c.open_next.new.filesystems made c.hold.new.self c.pin.new.self
    (map merged_seen value.overlays) (λ i. record {
      mounts = (mounts ∙ ap (λ writes. changed_mounts (counted c.args.new.directory.mount.count)
          (held writes) c.self.inside.mounts) c.writes.ensures) i;
      filesystems = pins c.unwrap-file.result.filesystem.count
          (number_of c.unwrap-file.result) c.open_next.new.filesystems c.pin.new.self filesystems i;
      overlays = map merged_seen value.overlays;
    }) c.open_next.new.tasks.tasks (tasks_are c.in_ok-number.ensures.ok))

pub invariant_of-self-2 : goal.invariant_of-self-2
invariant_of-self-2 c = held_with (done c).held c.open_next.new.tasks.births

pub returns-clause-ok : goal.returns-clause-ok
returns-clause-ok c = subst (λ value. Becomes value c.args.name.now (descriptor_permit (OpenNew c.args.new)) (after c))
    c.self.view_is (done c).becomes

pub returns-clause-vacant : goal.returns-clause-vacant
returns-clause-vacant c =
    let at = (goal.at.returns-clause-vacant c).After-alloc in
    subst (λ value. NextInodeIsVacant value (location_of c.args.new.directory)) c.self.view_is
    (open_vacant (the_view c.self.inside) (may at) (next at))

pub returns-clause-counts : goal.returns-clause-counts
returns-clause-counts c = record {
  numbers = ap (λ (value : WorldValue). value.next) c.self.view_is;
  births = births_are c.in_ok-number.ensures.ok ∙ ap (λ (value : WorldValue). value.births) c.self.view_is;
}
