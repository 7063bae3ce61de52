use Rattle.std.proofs.Common.{ap, subst, sym, ◌+◌, ◌∙◌}
use Rattle.vt_fs.specs.FilesystemsValue.{promising, with_changed}
use Rattle.vt_upper.specs.Changes.{IsFit}
use Rattle.vt_upper.specs.KeptChanges.{IsKeptFit, IsKeptReady}
use Rattle.vt_upper.proofs.KeptReady.{in_upper, kept_fit, kept_ready, upper_count_is}
use Rattle.vt_upper_overlay.specs.MergedAbove.{upper_count}
use Rattle.vt_upper.proofs.keeping.KeptChangePlan.new.Goals as goal

pub upper-requires : goal.upper-requires
upper-requires c = c.requires.standing.upper

pub kept_object-requires-clause-upper : goal.kept_object-requires-clause-upper
kept_object-requires-clause-upper c = c.requires.standing.upper

pub returns-clause-upper : goal.returns-clause-upper
returns-clause-upper c =
    in_upper c.args.trees.now c.args.overlay.now c.requires.standing c.args.object c.upper.result c.upper.ensures
    c.keeps_bytes.result c.in_ok-kept.kept c.in_ok-kept.ensures

pub returns-clause-ready : goal.returns-clause-ready
returns-clause-ready c =
    let trees = c.args.trees.now in
    let births = c.args.overlay.now.nodes.births in
    let kept = c.in_ok-kept.kept in
    let n = c.copies-copies.result in
    subst (λ b. IsKeptReady kept c.promise.new.trees b) (sym c.in_ok-promise.ensures.births)
    (subst (λ t. IsKeptReady kept t (record births { promised = births.promised + n }))
    (sym c.in_ok-promise.ensures.inodes)
    (kept_ready trees c.args.overlay.now c.requires.standing c.args.object c.upper.result c.upper.ensures n
    c.keeps_bytes.result kept c.in_ok-kept.ensures c.requires.there c.copies-copies.ensures))

pub returns-clause-fit : goal.returns-clause-fit
returns-clause-fit c =
    let kept = c.in_ok-kept.kept in
    subst (IsKeptFit (IsFit c.args.change) kept) (sym c.in_ok-promise.ensures.inodes)
    (kept_fit c.args.trees.now c.args.overlay.now c.requires.standing c.args.object c.upper.result c.upper.ensures
    c.copies-copies.result c.args.change c.keeps_bytes.result kept c.in_ok-kept.ensures c.requires.fit)

pub returns-clause-inodes : goal.returns-clause-inodes
returns-clause-inodes c =
    let trees = c.args.trees.now in
    c.in_ok-promise.ensures.inodes
    ∙ ap (λ k. with_changed k (promising c.copies-copies.result) trees) (sym (upper_count_is trees c.args.overlay.now
    c.requires.standing c.args.object c.upper.result c.upper.ensures))
    ∙ ap (λ k. with_changed (upper_count c.args.overlay.now) (promising k) trees)
    c.copies-copies.ensures
