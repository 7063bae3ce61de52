use Rattle.std.proofs.Common.{Some, ap, option_map, sym, true≢false, ◌≡◌, ◌∙◌, is_some, option_copied}
use Rattle.vt_spec.proofs.Common.{is_kind_in}
use Rattle.vt_spec.specs.declared.attributes.Kind.TheVariants.{White}
use Rattle.vt_location.specs.Locations.{number_of}
use Rattle.vt_fs.specs.FilesystemsValue.{node_seen}
use Rattle.vt_overlay.specs.Alike.{real_lent}
use Rattle.vt_overlay.specs.MergedTree.{OverlayValue, born_below}
use Rattle.vt_overlay.proofs.EntriesNumbered.{is_lent, is_numbered, object_is_there, whiteout_shows_nothing}
use Rattle.vt_overlay.proofs.overlays.Overlay.entry_found.Goals as goal

pub returns-in_err-object-clause-node : goal.returns-in_err-object-clause-node
returns-in_err-object-clause-node c = λ path first.
    let f = c.args.found.object.filesystem.count in
    absurd (true≢false (sym (object_is_there c.args.trees.now c.args.self.now c.requires.layers c.requires.few path
    c.args.name.now c.args.found first) ∙ ap is_some (sym c.real_of.ensures
    ∙ ap (λ o. option_map (node_seen f) (option_copied o)) c.in_err-object.was)))

pub returns-then-is_white-clause-node : goal.returns-then-is_white-clause-node
returns-then-is_white-clause-node c = λ path first.
    let f = c.args.found.object.filesystem.count in
    let seen = sym c.real_of.ensures ∙ ap (λ o. option_map (node_seen f) (option_copied o)) c.in_ok-object.was in
    whiteout_shows_nothing c.args.trees.now c.args.self.now c.requires.layers c.requires.few path c.args.name.now
    c.args.found first (ap (is_kind_in White) seen ∙ sym (c.is_white.ensures f) ∙ c.if-is_white.true)

pub rank_to-rank-requires-clause-node : goal.rank_to-rank-requires-clause-node
rank_to-rank-requires-clause-node c =
    let f = c.args.found.object.filesystem.count in
    sym (sym c.real_of.ensures ∙ ap (λ o. option_map (node_seen f) (option_copied o)) c.in_ok-object.was)

pub returns-clause-node : goal.returns-clause-node
returns-clause-node c = λ path first.
    let found = c.args.found in
    let f = found.object.filesystem.count in
    let seen = sym c.real_of.ensures ∙ ap (λ o. option_map (node_seen f) (option_copied o)) c.in_ok-object.was in
    let white = ap (is_kind_in White) seen ∙ sym (c.is_white.ensures f) ∙ c.if-is_white.false in
    let number : number_of c.node_of.result
    ≡ number_of (born_below c.args.self.now.number found.above.layer found.above.directory.slot c.rank_to-rank.result
    found.object.slot) = ap number_of c.node_of.ensures.is ∙ (λ i. number_of (record {
      filesystem = (ap (λ (overlay : OverlayValue). overlay.number) c.self.view_is) i;
      slot = found.object.slot;
      birth = c.born_in-birth.ensures.is i;
    })) in
    ap Some number
    ∙ is_numbered c.args.trees.now c.args.self.now c.requires.layers c.requires.few path c.args.name.now found first
    white
    c.rank_to-rank.result c.rank_to-rank.ensures c.node_of.ensures.slot c.born_in-birth.ensures.slot

pub returns-clause-object : goal.returns-clause-object
returns-clause-object c = λ path first.
    let found = c.args.found in
    let f = found.object.filesystem.count in
    let seen = sym c.real_of.ensures ∙ ap (λ o. option_map (node_seen f) (option_copied o)) c.in_ok-object.was in
    let white = ap (is_kind_in White) seen ∙ sym (c.is_white.ensures f) ∙ c.if-is_white.false in
    let number : number_of c.node_of.result
    ≡ number_of (born_below c.args.self.now.number found.above.layer found.above.directory.slot c.rank_to-rank.result
    found.object.slot) = ap number_of c.node_of.ensures.is ∙ (λ i. number_of (record {
      filesystem = (ap (λ (overlay : OverlayValue). overlay.number) c.self.view_is) i;
      slot = found.object.slot;
      birth = c.born_in-birth.ensures.is i;
    })) in
    is_lent c.args.trees.now c.args.self.now c.requires.layers c.requires.few path c.args.name.now found first white
    c.rank_to-rank.result c.rank_to-rank.ensures c.node_of.ensures.slot c.born_in-birth.ensures.slot
    (Some c.in_ok-object.object.now) (sym seen) ∙ ap (real_lent c.args.trees.now c.args.self.now) (sym number)
