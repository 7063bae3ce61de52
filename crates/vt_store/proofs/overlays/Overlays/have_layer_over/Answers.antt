use Rattle.std.proofs.Common.{None, Option, ap, arith, option_copied, option_map, sym, ◌<◌, ◌∙◌, ◌≡◌}
use Rattle.vt_spec.proofs.Common.{list_any, common_steps}
use Rattle.vt_fs.specs.FilesystemsValue.{FilesystemEntry, entry_of}
use Rattle.vt_location.specs.Locations.{inode_of}
use Rattle.vt_store.proofs.LayersOver.{layers_above, layers_alone}
use Rattle.vt_store.proofs.overlays.Overlays.have_layer_over.Goals as goal
use Rattle.vt_store.specs.LayersAt.{has_layer_at}
use Rattle.vt_store.specs.Locks.{directory_lies_in_overlay}
use Rattle.vt_store.specs.OverlaysValue.{kept_overlays}

pub returns-in-Some : goal.returns-in-Some
returns-in-Some c =
    let small : c.args.directory.slot < 18446744073709551616 = let h = c.node-node.type_inv in let e =
    c.node-node.ensures in omega (arith, h, e) in
    cc (
      c.has_above.ensures,
      c.node-node.ensures,
      layers_above (kept_overlays c.self.inside.by_number.entries) c.self.inside.layers c.self.invariant.layers
          c.args.plain.now c.args.directory small c.in-Some.tree.now
          (sym (ap option_copied c.in-Some.is) ∙ c.get.ensures) c.requires,
      c.self.view_is,
    )

-- where no tree is found, no filesystem is
no_entry_found : (o : Option FilesystemEntry) → None ≡ option_map (λ (entry : FilesystemEntry). entry.tree) o → o ≡ None
no_entry_found o e = grind (arith, common_steps)

pub returns-in-None : goal.returns-in-None
returns-in-None c =
    let small : c.args.directory.slot < 18446744073709551616 =
    let h = c.node-node.type_inv in let e = c.node-node.ensures in omega (arith, h, e) in
    c.has_at.ensures ∙ ap (λ node. has_layer_at c.self.inside.layers
    (record { filesystem = c.args.directory.filesystem; slot = node })) c.node-node.ensures
    ∙ layers_alone (kept_overlays c.self.inside.by_number.entries) c.self.inside.layers c.self.invariant.layers
    c.args.plain.now c.args.directory small
    (no_entry_found (entry_of c.args.plain.now c.args.directory.filesystem.count)
    (sym (ap option_copied c.in-None.is) ∙ c.get.ensures))
    ∙ ap (list_any (directory_lies_in_overlay c.args.plain.now c.args.directory.filesystem.count
    (inode_of c.args.directory))) c.self.view_is
