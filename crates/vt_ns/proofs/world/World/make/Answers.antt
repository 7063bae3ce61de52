use Rattle.std.proofs.Common.{◌≡◌, sym, subst, arith, rules}
use Rattle.vt_spec.proofs.Common.{TaskName}
use Rattle.vt_permits.specs.GrantValue.{make_permit}
use Rattle.vt_permits.specs.declared.grant.MakeGrant.TheVariants.{Node}
use Rattle.vt_permits.specs.declared.grant.ToMake.{ToMake}
use Rattle.vt_ns.specs.contracts.world.World.{the_view}
use Rattle.vt_ns.specs.Grants.{Grants}
use Rattle.vt_ns.specs.Vacancy.{NextInodeIsVacant}
use Rattle.vt_ns.proofs.Common.{Becomes, IsFilesEvent, IsHeld, IsSmall, WorldValue, location_of, with_store}
use Rattle.vt_ns.proofs.world.FileMaking.{IsMade, MayMake, make_fits, make_is_done, make_permitted, make_vacant, new_in_directory}
use Rattle.vt_ns.proofs.world.PlainStored.{files_stored}
use Rattle.vt_ns.proofs.world.World.make.Goals as goal

-- what the task is granted
abbrev may_make : (value same : WorldValue) → value ≡ same → IsHeld value → (name : TaskName) (new : ToMake)
    → IsSmall new.directory → Grants same name (make_permit (Node new)) → MayMake value
may_make value same is held name new small granted = record {
  held = held;
  name = name;
  directory = new.directory;
  entry = new.name.items;
  node = new.node;
  small = small;
  granted = subst (λ one. Grants one name (make_permit (Node new))) (sym is) granted;
}

abbrev may : (c : goal.After-create-arg-1) → MayMake (the_view c.self.inside)
may c = may_make (the_view c.self.inside) _ c.self.view_is c.self.invariant c.args.name.now c.args.new (omega arith)
    c.requires

abbrev may_then : (c : goal.In_ok-create) → MayMake (the_view c.self.inside)
may_then c = may_make (the_view c.self.inside) _ c.self.view_is c.self.invariant c.args.name.now c.args.new
    (omega arith) c.requires

-- what is made
abbrev made : (c : goal.In_ok-create) → IsMade (the_view c.self.inside) (may_then c) c.create.new.self
made c = record {
  odd = c.alloc.ensures.counted;
  sources = c.alloc.ensures.sources;
  made = c.in_ok-create.field-0;
  small_made = search rules;
  born = c.in_ok-create.ensures.birth;
  inside = c.in_ok-create.ensures.filesystem;
  number = rw c.plain_mut.ensures.value at c.in_ok-create.ensures.number;
  changes = rw c.plain_mut.ensures.value at c.in_ok-create.ensures.ok;
}

-- the world then is the one that the permit leaves
done : (c : goal.In_ok-create) → IsFilesEvent (the_view c.self.inside) c.args.name.now (make_permit (Node c.args.new))
    (with_store (record c.self.inside.store { plain = c.create.new.self }) (the_view c.self.inside))
done c =
    let value = the_view c.self.inside in
    files_stored value c.self.inside.store c.self.invariant c.args.name.now (make_permit (Node c.args.new))
    (make_permitted value (may_then c) c.create.new.self (made c)) c.create.new.self
    (make_is_done value (may_then c) c.create.new.self (made c))

pub create-requires-clause-directory : goal.create-requires-clause-directory
create-requires-clause-directory c = rw c.plain_mut.ensures.value ((make_fits (the_view c.self.inside) (may c)).0)

pub create-requires-clause-free : goal.create-requires-clause-free
create-requires-clause-free c = rw c.plain_mut.ensures.value ((make_fits (the_view c.self.inside) (may c)).1)

pub create-requires-clause-node : goal.create-requires-clause-node
create-requires-clause-node c = new_in_directory (the_view c.self.inside) (may c)

pub returns-clause-vacant : goal.returns-clause-vacant
returns-clause-vacant c = subst (λ value. NextInodeIsVacant value (location_of c.args.new.directory)) c.self.view_is
    (make_vacant (the_view c.self.inside) (may_then c) c.create.new.self (made c))

pub invariant_of-self-2 : goal.invariant_of-self-2
invariant_of-self-2 c = (done c).held

pub returns-clause-ok : goal.returns-clause-ok
returns-clause-ok c = subst (λ value. Becomes value c.args.name.now (make_permit (Node c.args.new))
    (with_store (record c.self.inside.store { plain = c.create.new.self }) (the_view c.self.inside))) c.self.view_is
    (done c).becomes
