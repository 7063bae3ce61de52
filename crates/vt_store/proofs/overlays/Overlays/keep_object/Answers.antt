use Rattle.std.proofs.Common.{rules, sym, ◌∙◌}
use Rattle.vt_spec.proofs.Common.{YieldsList-from_slice, any_from_yields_List, holds_of}
use Rattle.vt_location.specs.Locations.{inode_of}
use Rattle.vt_location.specs.declared.numbers.FilesystemId.{FilesystemId}
use Rattle.vt_store.specs.Locks.{keeps_in}
use Rattle.vt_store.specs.OverlaysValue.{entry_kept}
use Rattle.vt_store.proofs.KeptObjects.{none_kept}
use Rattle.vt_store.proofs.overlays.Overlays.keep_object.Goals as goal

pub returns-then-not-have_layer_in : goal.returns-then-not-have_layer_in
returns-then-not-have_layer_in c =
    sym (none_kept c.args.inode.filesystem.count (inode_of c.args.inode) c.args.self.now
    (sym c.have_layer_in.ensures ∙ c.if-not-have_layer_in.true))

pub returns : goal.returns
returns c =
    let test = keeps_in c.args.inode.filesystem.count (inode_of c.args.inode) in
    any_from_yields_List (λ (id : FilesystemId). holds_of test (entry_kept c.args.self.now id.count)) _ _ _
    c.any.ensures.ran (YieldsList-from_slice c.ids.result.now cc) (λ x b q k. search rules)
    ∙ c.ids.ensures.entries test
