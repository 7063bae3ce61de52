use Rattle.std.proofs.Common.{◌∙◌, ap, find, nat_eq, option_map, sym}
use Rattle.vt_spec.proofs.Common.{list_any, not-true, stands_on}
use Rattle.vt_ns.proofs.Common.{WorldValue, counted, mounts_in}
use Rattle.vt_ns.proofs.looking.LooksKept.{bare_top, shown_there}
use Rattle.vt_ns.proofs.looking.WorldLook.entered.Goals as goal

pub returns-clause-ground : goal.returns-clause-ground
returns-clause-ground c =
    let number = counted c.in_ok-top.top.root.mount.count in
    let here = λ (value : WorldValue). find (λ mount. nat_eq number mount.number) (mounts_in value.mounts) in
    let children = λ (value : WorldValue). list_any (stands_on nat_eq number) (mounts_in value.mounts) in
    record {
      filesystem = shown_there number _ (here c.args.self.now)
          (ap (λ value. option_map (λ mount. mount.filesystem) (here value)) (sym c.self.view_is)
          ∙ c.in_ok-top.ensures.shown);
      bare = λ bare at on. bare_top c.args.self.now number
          (sym (ap children c.self.view_is) ∙ not-true _ (sym c.in_ok-top.ensures.bare ∙ bare)) at on;
    }
