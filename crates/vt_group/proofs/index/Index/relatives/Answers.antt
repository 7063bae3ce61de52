use Rattle.std.proofs.Common.{ap, ◌∙◌}
use Rattle.vt_spec.proofs.Common.{list_any}
use Rattle.vt_location.specs.Numbers.{same_id}
use Rattle.vt_group.specs.Sets.{has, kept_in}
use Rattle.vt_group.proofs.IndexLemmas.{any_flat}
use Rattle.vt_group.proofs.index.Index.relatives.Goals as goal

pub returns : goal.returns
returns c mount is = ap (list_any (same_id mount)) c.new.ensures
    ∙ any_flat (same_id mount) (λ name. kept_in name c.args.self.now.mounts) c.of.result.now
    ∙ ap (list_any (λ name. has same_id name mount c.args.self.now.mounts)) c.of.ensures ∙ is
