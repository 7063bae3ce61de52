use Rattle.std.proofs.Common.{ap, false, nat_eq, sym, true, ◌≡◌, ◌∙◌}
use Rattle.vt_spec.specs.Machine.Turns.{namespace_change_of}
use Rattle.vt_location.specs.Numbers.{namespace_number}
use Rattle.vt_world.specs.WorldValue.{WorldValue, world_of}
use Rattle.vt_changes.specs.DatedValue.{DatedValue, dated_world}
use Rattle.vt_changes.specs.Following.{has_namespace}
use Rattle.vt_changes.specs.contracts.dated.Dated.{the_view}
use Rattle.vt_changes.proofs.Kept.{namespaces_by}
use Rattle.vt_changes.proofs.Numbered.{namespace_by}
use Rattle.vt_changes.proofs.Told.{namespace_told, no_namespace_told}
use Rattle.vt_changes.proofs.dated.Dated.change_of_namespace.Goals as goal

pub returns-then-not-has_namespace : goal.returns-then-not-has_namespace
returns-then-not-has_namespace c =
    let number = namespace_number c.args.namespace in
    let none : has_namespace (world_of c.self.inside.kernel.world) number ≡ false =
    sym (c.has_namespace.ensures ∙ ap (λ (value : WorldValue). has_namespace (world_of value) number) c.world.ensures)
    ∙ c.if-not-has_namespace.true in
    no_namespace_told (the_view c.self.inside) number none
    ∙ ap (λ (value : DatedValue). namespace_change_of nat_eq (dated_world value) number) c.self.view_is

pub returns : goal.returns
returns c =
    let number = namespace_number c.args.namespace in
    let there : has_namespace (world_of c.self.inside.kernel.world) number ≡ true =
    sym (c.has_namespace.ensures ∙ ap (λ (value : WorldValue). has_namespace (world_of value) number) c.world.ensures)
    ∙ c.if-not-has_namespace.false in
    c.number_of.ensures ∙ namespace_by c.args.namespace c.self.inside.namespaces.entries
    ∙ sym (namespaces_by number c.self.inside.namespaces.entries)
    ∙ namespace_told (the_view c.self.inside) number there
    ∙ ap (λ (value : DatedValue). namespace_change_of nat_eq (dated_world value) number) c.self.view_is
