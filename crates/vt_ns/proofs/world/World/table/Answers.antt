use Rattle.std.proofs.Common.{ap, nat_eq, ◌∙◌}
use Rattle.vt_spec.proofs.Common.{ancestors, filesystem_numbered, is_overlay}
use Rattle.vt_ns.proofs.Common.{WorldValue, counted, files_shown, mounts_in, store_stands, world_of}
use Rattle.vt_group.specs.Grouping.{master_in}
use Rattle.vt_ns.specs.contracts.world.World.{the_view}
use Rattle.vt_ns.proofs.looking.StoreLooked.{above_shown, overlay_shown}
use Rattle.vt_ns.proofs.world.ListedWorlds.{named_once}
use Rattle.vt_ns.proofs.world.World.table.Goals as goal

pub returns-clause-shown : goal.returns-clause-shown
returns-clause-shown c =
    let base = the_view c.self.inside in
    let store = c.self.inside.store in
    record {
      mounts = ap (λ (value : WorldValue). mounts_in value.mounts) c.self.view_is;
      masters = λ group. ap (λ (value : WorldValue). master_in value.groups group) c.self.view_is;
      overlays = λ count. overlay_shown base store c.self.invariant count
          ∙ ap (λ (value : WorldValue). is_overlay (filesystem_numbered nat_eq (world_of value) (counted count)))
          c.self.view_is;
      trees = λ count. files_shown base store c.self.invariant count
          ∙ ap (λ (value : WorldValue). (filesystem_numbered nat_eq (world_of value) (counted count)).files.tree)
          c.self.view_is;
      above = λ count directory. above_shown base store c.self.invariant count directory
          ∙ ap (λ (value : WorldValue). ancestors nat_eq
          (filesystem_numbered nat_eq (world_of value) (counted count)).files directory) c.self.view_is;
    }

pub returns-clause-standing : goal.returns-clause-standing
returns-clause-standing c = store_stands (the_view c.self.inside) c.self.inside.store c.self.invariant

pub returns-clause-once : goal.returns-clause-once
returns-clause-once c = named_once (the_view c.self.inside) c.self.inside.store c.self.invariant
