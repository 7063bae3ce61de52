use Rattle.std.proofs.Common.{ap, option_copied, rules, sym, ◌<◌, ◌∙◌}
use Rattle.vt_store.proofs.KeptObjects.{kept_by, kept_by_none}
use Rattle.vt_store.proofs.overlays.Overlays.keeps_object.Goals as goal

pub returns-in-Some : goal.returns-in-Some
returns-in-Some c =
    let small : c.args.inode.slot < 18446744073709551616 = search rules in
    c.keeps_object.ensures ∙ kept_by c.args.self.now c.args.id.count c.args.inode small c.in-Some.layered.now
    (sym c.get.ensures.value ∙ ap option_copied c.in-Some.is)

pub returns-in-None : goal.returns-in-None
returns-in-None c = kept_by_none c.args.self.now c.args.id.count c.args.inode
    (sym c.get.ensures.value ∙ ap option_copied c.in-None.is)
