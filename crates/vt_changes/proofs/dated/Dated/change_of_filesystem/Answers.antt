use Rattle.std.proofs.Common.{ap, false, nat_eq, sym, true, ◌≡◌, ◌∙◌}
use Rattle.vt_spec.specs.Machine.Turns.{filesystem_change_of}
use Rattle.vt_location.specs.Numbers.{filesystem_number}
use Rattle.vt_world.specs.WorldValue.{WorldValue, world_of}
use Rattle.vt_changes.specs.DatedValue.{DatedValue, dated_world}
use Rattle.vt_changes.specs.Following.{has_filesystem}
use Rattle.vt_changes.specs.contracts.dated.Dated.{the_view}
use Rattle.vt_changes.proofs.Kept.{filesystems_by}
use Rattle.vt_changes.proofs.Numbered.{filesystem_by}
use Rattle.vt_changes.proofs.Told.{filesystem_told, no_filesystem_told}
use Rattle.vt_changes.proofs.dated.Dated.change_of_filesystem.Goals as goal

pub returns-then-not-has_filesystem : goal.returns-then-not-has_filesystem
returns-then-not-has_filesystem c =
    let number = filesystem_number c.args.filesystem in
    let none : has_filesystem (world_of c.self.inside.kernel.world) number ≡ false =
    sym (c.has_filesystem.ensures ∙ ap (λ (value : WorldValue). has_filesystem (world_of value) number) c.world.ensures)
    ∙ c.if-not-has_filesystem.true in
    no_filesystem_told (the_view c.self.inside) number none
    ∙ ap (λ (value : DatedValue). filesystem_change_of nat_eq (dated_world value) number) c.self.view_is

pub returns : goal.returns
returns c =
    let number = filesystem_number c.args.filesystem in
    let there : has_filesystem (world_of c.self.inside.kernel.world) number ≡ true =
    sym (c.has_filesystem.ensures ∙ ap (λ (value : WorldValue). has_filesystem (world_of value) number) c.world.ensures)
    ∙ c.if-not-has_filesystem.false in
    c.number_of.ensures ∙ filesystem_by c.args.filesystem c.self.inside.filesystems.entries
    ∙ sym (filesystems_by number c.self.inside.filesystems.entries)
    ∙ filesystem_told (the_view c.self.inside) number there
    ∙ ap (λ (value : DatedValue). filesystem_change_of nat_eq (dated_world value) number) c.self.view_is
