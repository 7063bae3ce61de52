use Rattle.std.proofs.Common.{ap, ◌+◌, ◌∙◌}
use Rattle.vt_fs.specs.FilesystemsValue.{giving_back, with_changed}
use Rattle.vt_location.specs.declared.numbers.FilesystemId.{FilesystemId}
use Rattle.vt_upper.specs.New.{start_of}
use Rattle.vt_copyup.proofs.GivenBack.{given_in_turn}
use Rattle.vt_upper.proofs.making.NewPlan.give_back.Goals as goal

pub returns-clause-trees : goal.returns-clause-trees
returns-clause-trees c =
    let trees = c.args.trees.now in
    let upper = c.filesystem-upper.result in
    let n = c.copies-copies.result in
    c.give_back-2.ensures.trees
    ∙ ap (with_changed upper.count (giving_back 1)) c.give_back.ensures.trees
    ∙ given_in_turn upper.count n 1 trees
    ∙ ap (λ (id : FilesystemId). with_changed id.count (giving_back (n + 1)) trees) c.filesystem-upper.ensures
    ∙ ap (λ m. with_changed (start_of c.args.self.place).filesystem.count (giving_back (m + 1)) trees) c.copies-copies.ensures
