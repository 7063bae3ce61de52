use Rattle.std.proofs.Common.{◌≡◌, ◌<◌, nat_eq, ap, refl, subst, sym, ◌∙◌, arith, ℕ}
use Rattle.vt_spec.proofs.Common.{pinned, uses_in}
use Rattle.vt_location.specs.Numbers.{most_counted}
use Rattle.vt_fs.specs.Trees.TreeValue.{TreeValue, inodes_of}
use Rattle.vt_fs.proofs.tree.InodeLemmas.{inodes-acquired}
use Rattle.vt_fs.proofs.tree.NamesKept.{counted_as, pin_keeps}
use Rattle.vt_fs.specs.Trees.Slots.{inodes_in, slot_at}
use Rattle.vt_fs.proofs.tree.PromisedKept.{promised_kept}
use Rattle.vt_fs.proofs.tree.trees.Tree.count_use.Goals as goal

pub count_use-requires : goal.count_use-requires
count_use-requires c =
    let seen : uses_in (slot_at c.self.inside.slots c.args.object)
    ≡ uses_in ((inodes_of c.args.self.now).inode c.args.object) =
    ap (λ value. uses_in ((inodes_of value).inode c.args.object)) c.self.view_is in
    subst (λ n. n < most_counted) (sym seen) c.requires

pub returns-clause-pinned : goal.returns-clause-pinned
returns-clause-pinned c =
    inodes-acquired c.self.inside.root c.self.inside.slots c.count_use.new.self c.args.object
    c.count_use.ensures.acquired c.count_use.ensures.len
    ∙ ap (λ value. pinned nat_eq (inodes_of value) c.args.object) c.self.view_is

pub returns-clause-promised : goal.returns-clause-promised
returns-clause-promised c = ap (λ (value : TreeValue). value.promised) c.self.view_is

-- a use more
pub invariant_of-self : goal.invariant_of-self
invariant_of-self c = (
  counted_as _ _ _ _ (inodes-acquired c.self.inside.root c.self.inside.slots c.count_use.new.self c.args.object
      c.count_use.ensures.acquired c.count_use.ensures.len) refl
      (pin_keeps (inodes_in c.self.inside.root c.self.inside.slots) c.args.object _ c.self.invariant.0),
  promised_kept c.self.inside.promised c.self.inside.slots c.count_use.new.self c.self.inside.names c.self.inside.names
      (omega arith) c.self.invariant.1 (omega (arith, c.count_use.ensures.room))
      (omega (arith, c.count_use.ensures.room, c.count_use.ensures.len)),
)
