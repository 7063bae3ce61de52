use Rattle.std.proofs.Common.{ap, option_copied, option_map, refl, sym, ◌∙◌}
use Rattle.vt_layered.specs.LayeredTree.{layered_files}
use Rattle.vt_fs.specs.FilesystemsValue.{Filesystems, entry_of, inodes_seen}
use Rattle.vt_store.specs.StoreValue.{StoreValue}
use Rattle.vt_store.proofs.Looked.{over_stands, root_there}
use Rattle.vt_layered.proofs.Parts.{own_so}
use Rattle.vt_store.proofs.Woven.{root_over, root_plain}
use Rattle.vt_store.proofs.store.Store.root.Goals as goal

pub returns-in-Some-clause-number : goal.returns-in-Some-clause-number
returns-in-Some-clause-number c =
    let is = sym c.overlay.ensures.value ∙ ap option_copied c.in-Some.is in
    let stands = over_stands c.args.self.now c.args.self.now.plain refl c.args.filesystem.count c.in-Some.overlay.now is
    c.requires in
    root_there c.root.result (layered_files c.args.self.now.plain c.in-Some.overlay.now.overlay
    c.in-Some.overlay.now.above).tree.root
    (c.root.ensures.some stands.some) (c.root.ensures.root c.args.self.now.plain stands)
    ∙ root_over c.args.self.now c.args.filesystem.count c.in-Some.overlay.now is

pub returns-in-Some-clause-filesystem : goal.returns-in-Some-clause-filesystem
returns-in-Some-clause-filesystem c =
    let is = sym c.overlay.ensures.value ∙ ap option_copied c.in-Some.is in
    let stands = over_stands c.args.self.now c.args.self.now.plain refl c.args.filesystem.count c.in-Some.overlay.now is
    c.requires in
    own_so c.root.result c.in-Some.overlay.now.overlay.number c.args.filesystem c.in-Some.ensures.own
    (c.root.ensures.own c.args.self.now.plain stands)

pub returns-in-None-clause-number : goal.returns-in-None-clause-number
returns-in-None-clause-number c = c.root-in-None.ensures.number
    ∙ ap (λ (plain : Filesystems). option_map (λ entry. (inodes_seen entry).root)
    (entry_of plain c.args.filesystem.count)) (ap (λ (store : StoreValue). store.plain) c.self.view_is)
    ∙ root_plain c.args.self.now c.args.filesystem.count (sym c.overlay.ensures.value ∙ ap option_copied c.in-None.is)
