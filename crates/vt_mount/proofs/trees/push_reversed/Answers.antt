use Rattle.std.proofs.Common.{rules}
use Rattle.vt_spec.proofs.Common.{OnOk_then, YieldsList-from_map, YieldsList-from_rev_slice, items_from_extend}
use Rattle.vt_location.specs.declared.numbers.MountId.{MountId}
use Rattle.vt_mount.proofs.trees.push_reversed.Goals as goal

pub returns : goal.returns
returns c = OnOk_then c.extend.result (λ went. went.0) (items_from_extend c.extend.result c.extend.ensures.ran
    (YieldsList-from_map _ (λ (id : MountId). record { mount = id; depth = c.args.depth })
    (YieldsList-from_rev_slice c.args.children.now cc) c.map.ensures.closure (λ x r q k. search rules)))
