use Rattle.std.proofs.Common.{subst, sym, ◌∙◌}
use Rattle.vt_spec.proofs.Common.{keys_of}
use Rattle.vt_mount.specs.Named.{NameEach}
use Rattle.vt_mount.proofs.NamedLemmas.{name-each}
use Rattle.vt_mount.proofs.mounts.Mounts.ids.Goals as goal

pub returns : goal.returns
returns c =
    let es = c.self.inside.by_number.entries in
    subst (λ ids. NameEach ids c.args.self.now) (sym (c.as_slice.ensures ∙ c.keys.ensures.rest))
    (subst (NameEach (keys_of es)) c.self.view_is (name-each es c.keys.ensures.unique))
