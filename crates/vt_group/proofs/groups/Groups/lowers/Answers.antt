use Rattle.std.proofs.Common.{◌≡◌, ap, is_some, nat_eq, subst, sym, true, ◌∙◌}
use Rattle.vt_spec.proofs.Common.{lookup}
use Rattle.vt_group.specs.Grouping.{master_in}
use Rattle.vt_group.specs.Indexed.{group_at}
use Rattle.vt_group.specs.Receiving.{is_in}
use Rattle.vt_location.specs.Numbers.{group_number}
use Rattle.vt_group.specs.Steps.{numbered_master}
use Rattle.vt_group.proofs.Coming.{kept_master}
use Rattle.vt_group.proofs.groups.Found.{groups_among}
use Rattle.vt_group.proofs.Listing.{found_count}
use Rattle.vt_group.proofs.groups.Groups.lowers.Goals as goal

pub returns : goal.returns
returns c one is =
    let entries = c.self.inside.above.entries in
    let found = ap (λ groups. master_in groups one) c.self.view_is ∙ is in
    let at = found_count group_number one entries (ap is_some found) in
    subst (λ number. is_in c.lowers.result number ≡ true) (sym at.1) (groups_among (group_at at.0) c.lowers.result
    ∙ c.lowers.ensures (group_at at.0) (c.self.invariant.lower at.0 c.args.group (kept_master entries at.0 c.args.group
    (ap (λ number. lookup (nat_eq number) (Rattle.std.proofs.Common.map numbered_master entries)) (sym at.1) ∙ found))))
