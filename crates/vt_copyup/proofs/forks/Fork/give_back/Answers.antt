use Rattle.std.proofs.Common.{◌≡◌, ◌∙◌, ◌+◌, ◌-◌, ap, arith, length}
use Rattle.vt_births.specs.Births.{BirthsValue}
use Rattle.vt_fs.specs.FilesystemsValue.{giving_back, with_changed}
use Rattle.vt_copyup.proofs.GivenBack.{given_in_turn}
use Rattle.vt_copyup.proofs.forks.Fork.give_back.Goals as goal

pub returns-clause-trees : goal.returns-clause-trees
returns-clause-trees c =
    let f = c.args.self.directory.filesystem.count in
    let a = length c.args.self.shared.pieces.items in
    let b = length c.args.self.first.pieces.items in
    let n = length c.args.self.second.pieces.items in
    c.give_back-3.ensures.trees
    ∙ ap (with_changed f (giving_back n)) (c.give_back-2.ensures.trees
    ∙ ap (with_changed f (giving_back b)) c.give_back.ensures.trees ∙ given_in_turn f a b c.args.trees.now)
    ∙ given_in_turn f (a + b) n c.args.trees.now

pub returns-clause-births : goal.returns-clause-births
returns-clause-births c =
    let a = length c.args.self.shared.pieces.items in
    let b = length c.args.self.first.pieces.items in
    let n = length c.args.self.second.pieces.items in
    let births = c.args.births.now in
    let same : births.promised - a - b - n ≡ births.promised - (a + b + n) = omega arith in
    c.give_back-3.ensures.births
    ∙ ap (λ (it : BirthsValue). record it { promised = it.promised - n }) (c.give_back-2.ensures.births
    ∙ ap (λ (it : BirthsValue). record it { promised = it.promised - b }) c.give_back.ensures.births)
    ∙ (λ i. record births { promised = same i })
