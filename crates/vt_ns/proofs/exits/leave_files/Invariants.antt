use Rattle.std.proofs.Common.{◌≡◌, true, take, fold}
use Rattle.vt_spec.proofs.Common.{list_all}
use Rattle.vt_ns.proofs.Common.{OverlaysLeft, kept, without_file}
use Rattle.vt_mounting.specs.Detach.NamespacesLeft.{is_small_file}
use Rattle.vt_mounting.specs.Detach.Stored.{CountNoUses}
use Rattle.vt_ns.proofs.exits.leave_files.Given as goal

-- those before the next are left
abbrev pub invariant-loop-file : goal.invariant-loop-file
invariant-loop-file l = record {
  left : kept l.mounts l.store ≡ fold without_file (kept l.initial.mounts l.initial.store) (take l.file-index l.files);
  overlays : OverlaysLeft l.initial.store.overlays l.store.overlays;
  still : CountNoUses l.store;
  slots : list_all is_small_file (take l.file-index l.files) ≡ true;
}
