use Rattle.std.proofs.Common.{◌∙◌, ap, nat_eq, sym}
use Rattle.vt_spec.proofs.Common.{list_any, not-true, stands_on}
use Rattle.vt_ns.proofs.Common.{WorldValue, counted, mounts_in}
use Rattle.vt_ns.proofs.looking.LooksKept.{bare_top}
use Rattle.vt_ns.proofs.looking.WorldLook.ground.Goals as goal

pub returns : goal.returns
returns c =
    let children = λ (value : WorldValue). list_any (stands_on nat_eq (counted c.args.mount.count))
    (mounts_in value.mounts) in
    record {
      filesystem = c.shown.ensures;
      bare = λ bare at on. bare_top c.args.self.now (counted c.args.mount.count)
          (sym (ap children c.self.view_is) ∙ sym c.has_child.ensures ∙ not-true c.has_child.result bare) at on;
    }
