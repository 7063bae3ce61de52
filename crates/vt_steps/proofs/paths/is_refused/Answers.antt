use Rattle.std.proofs.Common.{◌∙◌}
use Rattle.vt_steps.proofs.Refused.{located_refused, named_refused, old_refused}
use Rattle.vt_steps.proofs.paths.is_refused.Goals as goal

pub returns-in-Object : goal.returns-in-Object
returns-in-Object g c = rw c.in-Object.is (
    c.is_err.ensures.value ∙ located_refused c.object_walk.result _ c.object_walk.ensures)

pub returns-in-Source : goal.returns-in-Source
returns-in-Source g c = rw c.in-Source.is (
    c.is_err-in-Source.ensures.value ∙ located_refused c.source_walk.result _ c.source_walk.ensures.value)

pub returns-in-Destination : goal.returns-in-Destination
returns-in-Destination g c = rw c.in-Destination.is (
    c.is_err-in-Destination.ensures.value
    ∙ located_refused c.destination_walk.result _ c.destination_walk.ensures.value)

pub returns-in-New : goal.returns-in-New
returns-in-New g c = rw c.in-New.is (
    c.is_err-in-New.ensures.value ∙ named_refused c.new_walk.result _ c.new_walk.ensures.value)

pub returns-in-NewLeaf : goal.returns-in-NewLeaf
returns-in-NewLeaf g c = rw c.in-NewLeaf.is (
    c.is_err-in-NewLeaf.ensures.value ∙ named_refused c.new_leaf_walk.result _ c.new_leaf_walk.ensures.value)

pub returns-in-OldLeaf : goal.returns-in-OldLeaf
returns-in-OldLeaf g c = rw c.in-OldLeaf.is (
    c.is_err-in-OldLeaf.ensures.value ∙ old_refused c.old_leaf_walk.result _ c.old_leaf_walk.ensures.value)

pub returns-in-Renamed : goal.returns-in-Renamed
returns-in-Renamed g c = rw c.in-Renamed.is (
    c.is_err-in-Renamed.ensures.value ∙ named_refused c.rename_new_walk.result _ c.rename_new_walk.ensures.value)

pub returns-in-Symlink : goal.returns-in-Symlink
returns-in-Symlink g c = rw c.in-Symlink.is (
    c.is_err-in-Symlink.ensures.value ∙ located_refused c.symlink_walk.result _ c.symlink_walk.ensures)

pub returns-in-Directory : goal.returns-in-Directory
returns-in-Directory g c = rw c.in-Directory.is (
    c.is_err-in-Directory.ensures.value ∙ located_refused c.directory_walk.result _ c.directory_walk.ensures.value)

pub returns-in-File : goal.returns-in-File
returns-in-File g c = rw c.in-File.is (
    c.is_err-in-File.ensures.value ∙ named_refused c.file_walk.result _ c.file_walk.ensures.value)

pub returns-in-Old : goal.returns-in-Old
returns-in-Old g c = rw c.in-Old.is (
    c.is_err-in-Old.ensures.value ∙ old_refused c.old_walk.result _ c.old_walk.ensures.value)
