use Rattle.std.proofs.Common.{ap, filter, length, nat_eq, sym, [], ◌++◌, ◌∙◌, ◌∷◌, flat_map, append-nil}
use Rattle.vt_spec.proofs.Common.{bind_tree, bindable_children, bindable_tree, stands_under}
use Rattle.vt_ns.proofs.Common.{counts, location_of, mounts_in, number-mount_in, numbers, world_of}
use Rattle.vt_ns.specs.Trees.{bindable_to_come}
use Rattle.vt_ns.proofs.world.World.bind_tree.Goals as goal

pub returns-then-not-recursive : goal.returns-then-not-recursive
returns-then-not-recursive c = record {
  ok =
      let mounts = mounts_in c.args.self.now.mounts in
      let source = location_of c.args.source in
      ap counts (c.in_ok-push.ensures.items ∙ ap (λ items. items ++ c.args.source.mount ∷ []) c.new-tree.ensures.items)
      ∙ ap (λ n. n ∷ []) (sym (number-mount_in mounts source.mount))
      ∙ ap (λ recursive. numbers (bind_tree nat_eq (world_of c.args.self.now) source recursive))
      (sym c.if-not-recursive.true);
}

pub loop-next-init : goal.loop-next-init
loop-next-init c =
    let mounts = mounts_in c.args.self.now.mounts in
    let source = location_of c.args.source in
    let below = numbers (flat_map (bindable_tree nat_eq (length mounts) mounts)
    (filter (stands_under nat_eq (world_of c.args.self.now) source) (bindable_children nat_eq mounts source.mount))) in
    ap (λ come. counts c.push.new.self.items ++ come)
    (c.in_ok-push_bound.ensures ∙ ap (λ waiting. below ++ bindable_to_come mounts waiting) c.new-waiting.ensures.items
    ∙ append-nil below) ∙ ap (λ tree. counts tree ++ below)
    (c.in_ok-push.ensures.items ∙ ap (λ items. items ++ c.args.source.mount ∷ []) c.new-tree.ensures.items)
    ∙ ap (λ n. n ∷ below) (sym (number-mount_in mounts source.mount))
