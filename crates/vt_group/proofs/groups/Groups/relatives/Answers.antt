use Rattle.std.proofs.Common.{◌≡◌, ap, is_some, map, nat_eq, subst, sym, true, ◌∙◌}
use Rattle.vt_spec.proofs.Common.{is_among, lookup, source_of}
use Rattle.vt_location.specs.Numbers.{counted}
use Rattle.vt_group.specs.Grouping.{propagation_in}
use Rattle.vt_group.specs.Indexed.{mount_at}
use Rattle.vt_group.proofs.Listing.{found_kind, listed_among, source_has, sourced_found}
use Rattle.vt_group.proofs.IndexLemmas.{relative_of_source}
use Rattle.vt_group.proofs.groups.Groups.relatives.Goals as goal

pub returns : goal.returns
returns c mount sourced =
    let group = counted c.args.group.count in
    let at = found_kind mount c.self.inside.mounts.kinds.entries
    (ap (λ groups. is_some (lookup (nat_eq mount) groups.peers)) c.self.view_is
    ∙ sourced_found group (lookup (nat_eq mount) c.args.self.now.peers) sourced) in
    let source = ap source_of (sym at.3 ∙ ap (λ groups. propagation_in groups mount) c.self.view_is) ∙ sourced in
    subst (λ number. is_among nat_eq number (map (λ id. counted id.count) c.relatives.result) ≡ true) (sym at.2)
    (listed_among at.0 c.relatives.result (c.relatives.ensures (mount_at at.0)
    (relative_of_source c.self.inside.index (mount_at at.0) at.1 c.args.group (source_has c.args.group at.1 source)
    (c.self.invariant.listed at.0 at.1 at.4))))
