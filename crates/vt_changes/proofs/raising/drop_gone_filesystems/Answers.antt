use Rattle.std.proofs.Common.{ap, eqb-true, rules, sym, ◌∙◌, ℕ}
use Rattle.indexmap.proofs.CallerLemmas.{filter-RetainsPairs}
use Rattle.vt_location.specs.Numbers.{filesystem_number}
use Rattle.vt_location.specs.declared.numbers.FilesystemId.{FilesystemId}
use Rattle.vt_world.specs.WorldValue.{world_of}
use Rattle.vt_changes.specs.Following.{has_filesystem}
use Rattle.vt_changes.specs.Kept.{is_filesystem, number_by}
use Rattle.vt_changes.proofs.Numbered.{keep_by}
use Rattle.vt_changes.proofs.raising.drop_gone_filesystems.Goals as goal

pub returns : goal.returns
returns c = λ number.
    let world = world_of c.args.world.now in
    ap (λ entries. number_by (is_filesystem number) entries)
    (filter-RetainsPairs _ (λ (e : FilesystemId × ℕ). has_filesystem world (filesystem_number e.0)) _
    (λ k v b w g call. search rules) _ _ c.retain.ensures.filtered)
    ∙ keep_by (is_filesystem number) (λ id. has_filesystem world (filesystem_number id)) (has_filesystem world number)
    (λ id passes. ap (has_filesystem world) (sym (eqb-true number (filesystem_number id) passes)))
    c.args.numbers.now.entries
