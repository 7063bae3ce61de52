use Rattle.std.proofs.Common.{ap, option_copied, option_map, sym, ◌∙◌}
use Rattle.vt_spec.proofs.Common.{is_directory_node, parent_in, when}
use Rattle.vt_location.specs.Locations.{number_of}
use Rattle.vt_store.specs.StoreValue.{StoreValue, files_in}
use Rattle.vt_store.proofs.Looked.{no_directory, over_node, over_stands, plain_node, when_is}
use Rattle.vt_store.proofs.store.Store.parent.Goals.{in-None, in-Some}
use Rattle.vt_store.proofs.store.Store.parent.Goals as goal

pub parent-parent-requires-clause-standing : goal.parent-parent-requires-clause-standing
parent-parent-requires-clause-standing c =
    over_stands c.args.self.now c.self.inside.plain (ap (λ (store : StoreValue). store.plain) c.self.view_is)
    c.args.node.filesystem.count c.in-Some.overlay.now (sym c.overlay.ensures.value ∙ ap option_copied c.in-Some.is)
    c.requires

pub returns-in-Some-parent : goal.returns-in-Some-parent
returns-in-Some-parent c =
    let own = number_of c.args.node in
    let node = (files_in c.args.self.now c.args.node.filesystem.count).tree.node own in
    when_is (is_directory_node node) (parent_in own node) (number_of c.in-Some-parent.parent)
    (elim c.match-overlay.branch [
      | in-Some w ↦ ap (option_map number_of) (sym c.in-Some-parent.is ∙ w.parent-is) ∙ w.parent-parent.ensures
          ∙ ap (λ node. when (is_directory_node node) (parent_in own node))
          (over_node c.args.self.now c.self.inside.plain (ap (λ (store : StoreValue). store.plain) c.self.view_is)
          c.args.node.filesystem.count w.in-Some.overlay.now
          (sym c.overlay.ensures.value ∙ ap option_copied w.in-Some.is) own)
      | in-None w ↦
          ap (option_map number_of) (sym c.in-Some-parent.is ∙ w.parent-is) ∙ w.plain_parent-parent.ensures
          ∙ ap (λ node. when (is_directory_node node) (parent_in own node))
          (plain_node c.args.self.now c.self.inside.plain (ap (λ (store : StoreValue). store.plain) c.self.view_is)
          c.args.node.filesystem.count (sym c.overlay.ensures.value ∙ ap option_copied w.in-None.is) own)
    ])

pub returns-in-None-parent : goal.returns-in-None-parent
returns-in-None-parent c =
    let own = number_of c.args.node in
    let node = (files_in c.args.self.now c.args.node.filesystem.count).tree.node own in
    no_directory own node (elim c.match-overlay.branch [
      | in-Some w ↦ ap (option_map number_of) (sym c.in-None-parent.is ∙ w.parent-is) ∙ w.parent-parent.ensures
          ∙ ap (λ node. when (is_directory_node node) (parent_in own node))
          (over_node c.args.self.now c.self.inside.plain (ap (λ (store : StoreValue). store.plain) c.self.view_is)
          c.args.node.filesystem.count w.in-Some.overlay.now
          (sym c.overlay.ensures.value ∙ ap option_copied w.in-Some.is) own)
      | in-None w ↦
          ap (option_map number_of) (sym c.in-None-parent.is ∙ w.parent-is) ∙ w.plain_parent-parent.ensures
          ∙ ap (λ node. when (is_directory_node node) (parent_in own node))
          (plain_node c.args.self.now c.self.inside.plain (ap (λ (store : StoreValue). store.plain) c.self.view_is)
          c.args.node.filesystem.count (sym c.overlay.ensures.value ∙ ap option_copied w.in-None.is) own)
    ])
