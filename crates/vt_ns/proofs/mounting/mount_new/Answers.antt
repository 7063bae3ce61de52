use Rattle.std.proofs.Common.{ap, ◌∙◌, ◌++◌, ◌∷◌, []}
use Rattle.vt_fs.specs.FilesystemsValue.{without}
use Rattle.vt_mounting.proofs.attach.NewFilesystems.{removed_again}
use Rattle.vt_ns.proofs.Common.{StoreValue}
use Rattle.vt_ns.proofs.world.NodesUncounted.{still_added}
use Rattle.vt_ns.proofs.mounting.mount_new.Goals as goal

pub attach_graft-requires-clause-none : goal.attach_graft-requires-clause-none
attach_graft-requires-clause-none c =
    let made = c.in_ok-add.ensures.ok in
    still_added c.args.store.now c.requires.none c.add.new.self made.0 made.2.counts c.requires.above_overlays
    (made.1 ∙ ap (λ all. all ++ made.0 ∷ []) c.plain_mut.ensures.value)

pub returns-in-Err-clause-err_store : goal.returns-in-Err-clause-err_store
returns-in-Err-clause-err_store c =
    let made = c.in_ok-add.ensures.ok in
    let before = made.1 ∙ ap (λ all. all ++ made.0 ∷ []) c.plain_mut.ensures.value in
    λ i. record {
      plain = (c.remove.ensures ∙ ap (without c.args.filesystem.count)
          (c.plain_mut-in-Err.ensures.value ∙ ap (λ (store : StoreValue). store.plain) c.in-Err.ensures.err_store ∙ before)
          ∙ removed_again c.args.store.now.plain made.0 c.args.filesystem.count made.2.counts c.requires.above) i;
      overlays = (c.in-Err.ensures.err_store i).overlays;
    }

pub returns-clause-overlays : goal.returns-clause-overlays
returns-clause-overlays c = c.attach_graft.ensures.overlays
