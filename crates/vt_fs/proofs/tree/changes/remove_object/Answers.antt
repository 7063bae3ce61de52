use Rattle.std.proofs.Common.{arith, nat_eq, ap, ℕ, ◌∙◌}
use Rattle.vt_spec.proofs.Common.{Inodes, unpinned}
use Rattle.vt_fs.proofs.tree.changes.remove_object.Goals as goal

pub returns-clause-removed : goal.returns-clause-removed
returns-clause-removed c = λ root. c.release.ensures.released root
    ∙ ap (λ inodes. unpinned nat_eq inodes c.args.object) (c.set_parent.ensures.set root)

pub returns-clause-total : goal.returns-clause-total
returns-clause-total c = omega (
  arith,
  c.set_parent.ensures.room,
  ap (λ (inodes : Inodes ℕ). inodes.count) (c.set_parent.ensures.set 0),
  c.release.ensures.total,
)
