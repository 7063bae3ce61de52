use Rattle.std.proofs.Common.{ap, nat_eq, sym, ◌∙◌, ℕ}
use Rattle.vt_spec.proofs.Common.{Filesystem, any_pair, filesystem_numbered}
use Rattle.vt_group.specs.Grouping.{master_in}
use Rattle.vt_sealing.specs.Seen.{overlays_without_trees}
use Rattle.vt_ns.proofs.Common.{WorldValue, counted, mounts_in, store_stands, world_of}
use Rattle.vt_ns.proofs.world.SealedWorlds.{overlays_looked, trees_looked}
use Rattle.vt_ns.specs.contracts.world.World.{the_view}
use Rattle.vt_ns.proofs.world.World.sealing.Goals as goal

pub returns-clause-shown : goal.returns-clause-shown
returns-clause-shown c =
    let base = the_view c.self.inside in
    let store = c.self.inside.store in
    record {
      tasks = ap (λ (value : WorldValue). value.tasks) c.self.view_is;
      mounts = ap (λ (value : WorldValue). mounts_in value.mounts) c.self.view_is;
      masters = λ group. ap (λ (value : WorldValue). master_in value.groups group) c.self.view_is;
      overlays = overlays_looked base store c.self.invariant
          ∙ ap (λ (value : WorldValue). overlays_without_trees (world_of value)) c.self.view_is;
      apart = ap (λ (value : WorldValue). any_pair (λ (a b : Filesystem ℕ). nat_eq a.number b.number)
          (world_of value).filesystems) (sym c.self.view_is) ∙ c.self.invariant.in_world.files.one_filesystem;
      trees = λ count there. trees_looked base store c.self.invariant count there
          ∙ ap (λ (value : WorldValue). (filesystem_numbered nat_eq (world_of value) (counted count)).files)
          c.self.view_is;
    }

pub returns-clause-standing : goal.returns-clause-standing
returns-clause-standing c = store_stands (the_view c.self.inside) c.self.inside.store c.self.invariant
