use Rattle.std.proofs.Common.{ap, ℕ}
use Rattle.vt_spec.proofs.Common.{FileTree}
use Rattle.vt_layered.proofs.Parts.{lower_files, lower_stands, own_so, root_so, upper_files, upper_number, upper_stands}
use Rattle.vt_layered.proofs.layered.Layered.root.Goals as goal

pub returns-in-Lower-clause-root : goal.returns-in-Lower-clause-root
returns-in-Lower-clause-root c = λ trees stands. root_so c.root.result _ _
    (ap (λ (files : FileTree ℕ). files.tree.root) (lower_files c.args.self.now c.self.inside.kind c.self.view_is
    c.in-Lower.overlay c.in-Lower.is trees))
    (c.root.ensures.root trees (lower_stands c.args.self.now c.self.inside.kind c.self.view_is c.in-Lower.overlay
    c.in-Lower.is trees stands).layers)

pub returns-in-Upper-clause-root : goal.returns-in-Upper-clause-root
returns-in-Upper-clause-root c = λ trees stands. root_so c.root-in-Upper.result _ _
    (ap (λ (files : FileTree ℕ). files.tree.root) (upper_files c.args.self.now c.self.inside.kind c.self.view_is
    c.in-Upper.overlay c.in-Upper.is trees))
    (c.root-in-Upper.ensures.root trees (upper_stands c.args.self.now c.self.inside.kind c.self.view_is
    c.in-Upper.overlay c.in-Upper.is trees stands))

pub returns-in-Upper-clause-own : goal.returns-in-Upper-clause-own
returns-in-Upper-clause-own c = λ trees stands. own_so c.root-in-Upper.result _ _
    (upper_number c.args.self.now c.self.inside.kind c.self.view_is c.in-Upper.overlay c.in-Upper.is)
    (c.root-in-Upper.ensures.own trees
    (upper_stands c.args.self.now c.self.inside.kind c.self.view_is c.in-Upper.overlay c.in-Upper.is trees stands))
