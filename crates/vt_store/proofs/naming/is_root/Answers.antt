use Rattle.std.proofs.Common.{ap, nat_eq, option_map, sym, ◌∙◌}
use Rattle.vt_location.specs.Locations.{number_of}
use Rattle.vt_store.proofs.AllNamed.{missing-root, root-there}
use Rattle.vt_store.proofs.naming.is_root.Goals as goal

pub returns-in-Some : goal.returns-in-Some
returns-in-Some c =
    let count = c.args.inode.filesystem.count in
    let root = root-there c.args.plain.now count c.args.inode.slot (number_of c.in-Some.root)
    (ap (option_map number_of) (sym c.in-Some.is) ∙ c.root.ensures.number) in
    c.is_same.ensures ∙ (λ i. nat_eq (c.node_ref.ensures.number i) (root i))

pub returns-in-None : goal.returns-in-None
returns-in-None c = sym (missing-root c.args.plain.now c.args.inode.filesystem.count c.args.inode.slot
    (sym c.root.ensures.number ∙ ap (option_map number_of) c.in-None.is))
