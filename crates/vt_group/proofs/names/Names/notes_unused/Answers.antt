use Rattle.std.proofs.Common.{Some, ap, sym, ◌∙◌}
use Rattle.vt_spec.proofs.Common.{option_copied_mut}
use Rattle.std.proofs.lemmas.Map.Steps.{set_value_same}
use Rattle.vt_group.specs.Names.{count_names}
use Rattle.vt_group.specs.Sets.{same_group}
use Rattle.vt_group.proofs.names.Names.notes_unused.Goals as goal

pub invariant_of-self-2 : goal.invariant_of-self-2
invariant_of-self-2 c =
    let same = (c.get_mut.follows.holds c.note_unused.new.self).0
    ∙ set_value_same (same_group c.args.group) c.self.inside.lists.entries c.note_unused.new.self
    (sym c.get_mut.ensures.value ∙ ap option_copied_mut c.in-Some-get_mut.is ∙ ap Some (sym c.note_unused.ensures)) in (
      c.self.invariant.0,
      ap count_names same ∙ c.self.invariant.1,
      c.self.invariant.2,
    )

pub returns : goal.returns
returns c = (c.get_mut.follows.holds c.note_unused.new.self).0
    ∙ set_value_same (same_group c.args.group) c.self.inside.lists.entries c.note_unused.new.self
    (sym c.get_mut.ensures.value ∙ ap option_copied_mut c.in-Some-get_mut.is ∙ ap Some (sym c.note_unused.ensures))
    ∙ c.self.view_is
