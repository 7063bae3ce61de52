use Rattle.std.proofs.Common.{rules, ap, arith, false, sym, true, ◌+◌, ◌≡◌, ◌∙◌}
use Rattle.vt_fs.specs.FilesystemsValue.{giving_back, with_changed}
use Rattle.vt_location.specs.declared.numbers.FilesystemId.{FilesystemId}
use Rattle.vt_upper.specs.New.{many_in, one_if, start_of}
use Rattle.vt_copyup.proofs.GivenBack.{given_in_turn}
use Rattle.vt_upper.proofs.removing.NameRemoval.give_back.Goals as goal

pub returns-then-not-hidden-clause-trees : goal.returns-then-not-hidden-clause-trees
returns-then-not-hidden-clause-trees c =
    let trees = c.args.trees.now in
    let n = c.copies-copies.result in
    let no : c.args.self.hidden ≡ false = search rules in
    let many : n ≡ many_in c.args.self.place + one_if false = omega (arith, c.copies-copies.ensures) in
    c.give_back.ensures.trees
    ∙ ap (λ (id : FilesystemId). with_changed id.count (giving_back n) trees) c.filesystem-upper.ensures
    ∙ ap (λ m. with_changed (start_of c.args.self.place).filesystem.count (giving_back m) trees) many
    ∙ ap (λ h. with_changed (start_of c.args.self.place).filesystem.count
    (giving_back (many_in c.args.self.place + one_if h)) trees) (sym no)

pub returns-clause-trees : goal.returns-clause-trees
returns-clause-trees c =
    let trees = c.args.trees.now in
    let upper = c.filesystem-upper.result in
    let n = c.copies-copies.result in
    let yes : c.args.self.hidden ≡ true = search rules in
    c.give_back-2.ensures.trees
    ∙ ap (with_changed upper.count (giving_back 1)) c.give_back.ensures.trees
    ∙ given_in_turn upper.count n 1 trees
    ∙ ap (λ (id : FilesystemId). with_changed id.count (giving_back (n + 1)) trees) c.filesystem-upper.ensures
    ∙ ap (λ m. with_changed (start_of c.args.self.place).filesystem.count (giving_back (m + 1)) trees)
    c.copies-copies.ensures
    ∙ ap (λ h. with_changed (start_of c.args.self.place).filesystem.count
    (giving_back (many_in c.args.self.place + one_if h)) trees) (sym yes)
