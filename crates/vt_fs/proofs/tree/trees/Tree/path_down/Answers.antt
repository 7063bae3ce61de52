use Rattle.std.proofs.Common.{rules, ◌≡◌, sym, ap, ◌∙◌, true, false, nat_eq, map, Some}
use Rattle.vt_spec.proofs.Common.{map-append, not_turned}
use Rattle.vt_fs.specs.Trees.TreeValue.{inodes_of}
use Rattle.vt_fs.proofs.PathLemmas.{arrives, goes_on, map-reverse}
use Rattle.vt_fs.proofs.tree.trees.Tree.path_down.Goals as goal

pub loop-alloc-preserved : goal.loop-alloc-preserved
loop-alloc-preserved c =
    let other : nat_eq c.args.top c.loop-alloc.here
    ≡ false = not_turned (nat_eq c.args.top c.loop-alloc.here) true (sym c.loop-alloc-test.true ∙ c.ne.ensures) in
    goes_on (inodes_of c.args.self.now) c.args.top (map (λ name. name.items) c.loop-alloc.names.items)
    (map (λ name. name.items) c.push.new.self.items)
    c.in_ok-copied_bytes.field-0.items c.loop-alloc.left c.loop-alloc.here _ _
    (ap (map (λ name. name.items)) c.in_ok-push.ensures.items
    ∙ map-append (λ name. name.items) c.loop-alloc.names.items _) (search rules) other c.in-Some.ensures.parent
    (search rules) c.loop-alloc.invariant

pub returns : goal.returns
returns c =
    let same : nat_eq c.args.top c.loop-alloc.here
    ≡ true = not_turned (nat_eq c.args.top c.loop-alloc.here) false (sym c.loop-alloc-test.false ∙ c.ne.ensures) in
    ap (λ names. Some (map (λ name. name.items) names)) c.reverse.ensures.items
    ∙ ap Some (map-reverse (λ name. name.items) c.loop-alloc.names.items)
    ∙ sym (arrives (inodes_of c.args.self.now) c.args.top
    (map (λ name. name.items) c.loop-alloc.names.items) c.loop-alloc.left c.loop-alloc.here same)
    ∙ c.loop-alloc.invariant
