use Rattle.std.proofs.Common.{ap, arith, subst, sym, ◌+◌, ◌≡◌, ◌≤◌, ◌∙◌}
use Rattle.vt_copyup.specs.Plans.{IsReady, many}
use Rattle.vt_copyup.proofs.Changed.{promised_files}
use Rattle.vt_fs.specs.FilesystemsValue.{files_at, promising, with_changed}
use Rattle.vt_location.specs.declared.numbers.FilesystemId.{FilesystemId}
use Rattle.vt_location.proofs.NodeLemmas.{small_parts}
use Rattle.vt_upper_overlay.proofs.Shown.{looked_by}
use Rattle.vt_upper.specs.Changes.{IsFit}
use Rattle.vt_upper.proofs.FitCopies.{fit_copies}
use Rattle.vt_upper.proofs.LastMade.{fit_of}
use Rattle.vt_upper.proofs.PlansOf.{count_is, is_first}
use Rattle.vt_upper.proofs.changing.ChangePlan.new.Goals as goal

pub returns-clause-ready : goal.returns-clause-ready
returns-clause-ready c =
    let trees = c.args.trees.now in
    let births = c.args.overlay.now.nodes.births in
    let copies = c.in_ok-copies.copies in
    let n = c.len-many.result in
    let few : many copies ≤ n = omega (arith, c.len-many.ensures) in
    let inodes : c.promise.new.trees ≡ with_changed copies.directory.filesystem.count (promising n) trees =
    c.in_ok-promise.ensures.inodes
    ∙ ap (λ (id : FilesystemId). with_changed id.count (promising n) trees) c.filesystem.ensures in
    subst (λ b. IsReady copies c.promise.new.trees b c.plan_copies.new.room) (sym c.in_ok-promise.ensures.births)
    (subst (λ t. IsReady copies t (record births { promised = births.promised + n }) c.plan_copies.new.room)
    (sym inodes) (c.in_ok-copies.ensures.ready n n c.requires.there few few))

pub returns-clause-fit : goal.returns-clause-fit
returns-clause-fit c =
    let trees = c.args.trees.now in
    let overlay = c.args.overlay.now in
    let object = c.args.changed.object in
    let copies = c.in_ok-copies.copies in
    let n = c.len-many.result in
    let small = c.in_ok-copies.ensures.small in
    let f = copies.directory.filesystem.count in
    let looked = looked_by trees overlay object c.requires.standing small c.requires.own in
    let inodes : c.promise.new.trees ≡ with_changed f (promising n) trees =
    c.in_ok-promise.ensures.inodes
    ∙ ap (λ (id : FilesystemId). with_changed id.count (promising n) trees) c.filesystem.ensures in
    fit_copies trees overlay (IsFit c.args.changed.change) (fit_of c.args.changed.change) looked
    object (small_parts object small) c.requires.fit c.promise.new.trees c.keeps_bytes.result copies
    c.in_ok-copies.ensures.copies
    (ap (λ t. files_at t f) inodes ∙ promised_files f n trees
    ∙ ap (files_at trees) (c.in_ok-copies.ensures.filesystem
    ∙ count_is trees overlay looked.stands _ (is_first trees overlay looked.stands)))
