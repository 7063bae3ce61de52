use Rattle.std.proofs.Common.{None, Some, ap, subst, sym, ◌∙◌, ◌≡◌}
use Rattle.vt_spec.proofs.Common.{lookup, option_copied_mut}
use Rattle.indexmap.specs.IndexMap.{get_by}
use Rattle.vt_layered.specs.Pins.{IsUnpinned}
use Rattle.vt_store.specs.OverlaysValue.{AreKept, kept_overlays}
use Rattle.vt_store.specs.Pins.{ChangesOverlay, kept_let_go}
use Rattle.vt_store.proofs.KeptOverlays.{is_key, layered_of-kept}
use Rattle.vt_store.proofs.NodesKept.{entries_are_kept, entries_change, found_keeps, keeps_unpinned, none_changes}
use Rattle.vt_store.proofs.overlays.Overlays.unpin.Goals.{in-None, in-Some}
use Rattle.vt_store.proofs.overlays.Overlays.unpin.Goals as goal

pub invariant_of-self : goal.invariant_of-self
invariant_of-self c = elim c.match-get_mut.branch [
  | in-Some w ↦
      let f = c.args.node.filesystem.count in
      let found = w.in-Some.found.now in
      let there : get_by (is_key f) c.self.inside.by_number ≡ Some found =
      sym c.get_mut.ensures.value ∙ ap option_copied_mut w.in-Some.is in
      subst (λ inside. AreKept inside.by_number.entries inside.layers inside.oldest) (sym w.self-inside-is)
      (entries_are_kept (IsUnpinned c.args.node) f c.self.inside.by_number _ found w.unpin.new.self there
      w.unpin.ensures.layers w.unpin.ensures.unpinned (c.get_mut.follows.holds _) c.self.inside.layers
      c.self.inside.oldest c.self.invariant (keeps_unpinned c.args.node found.overlay w.unpin.new.self
      w.unpin.ensures.layers w.unpin.ensures.unpinned (found_keeps f c.self.inside.by_number found c.self.inside.layers
      c.self.inside.oldest c.self.invariant there)))
  | in-None w ↦
      subst (λ inside. AreKept inside.by_number.entries inside.layers inside.oldest) (sym w.self-inside-is)
      (subst (λ entries. AreKept entries c.self.inside.layers c.self.inside.oldest)
      (sym (ap (λ map. map.entries) c.get_mut.follows.holds-at-none)) c.self.invariant)
]

pub returns-clause-object : goal.returns-clause-object
returns-clause-object c = elim c.match-get_mut.branch [
  | in-Some w ↦ w.result-is ∙ w.unpin.ensures.object
      ∙ ap (kept_let_go c.args.node) (layered_of-kept c.args.node.filesystem.count c.self.inside.by_number.entries
      c.args.self.now (Some w.in-Some.found.now) c.self.view_is
      (sym (sym c.get_mut.ensures.value ∙ ap option_copied_mut w.in-Some.is)))
  | in-None w ↦ w.result-is
      ∙ ap (kept_let_go c.args.node) (layered_of-kept c.args.node.filesystem.count c.self.inside.by_number.entries
      c.args.self.now None c.self.view_is (sym (sym c.get_mut.ensures.value ∙ ap option_copied_mut w.in-None.is)))
]

pub returns-clause-unpinned : goal.returns-clause-unpinned
returns-clause-unpinned c = elim c.match-get_mut.branch [
  | in-Some w ↦
      let f = c.args.node.filesystem.count in
      let found = w.in-Some.found.now in
      let there : get_by (is_key f) c.self.inside.by_number ≡ Some found =
      sym c.get_mut.ensures.value ∙ ap option_copied_mut w.in-Some.is in
      subst (λ inside. ChangesOverlay (IsUnpinned c.args.node) f c.args.self.now (kept_overlays inside.by_number.entries))
      (sym w.self-inside-is)
      (entries_change (IsUnpinned c.args.node) f c.self.inside.by_number _ found w.unpin.new.self there
      w.unpin.ensures.layers w.unpin.ensures.unpinned (c.get_mut.follows.holds _) c.args.self.now c.self.view_is)
  | in-None w ↦
      let f = c.args.node.filesystem.count in
      let absent : lookup (is_key f) c.self.inside.by_number.entries ≡ None =
      sym c.get_mut.ensures.value ∙ ap option_copied_mut w.in-None.is in
      subst (λ inside. ChangesOverlay (IsUnpinned c.args.node) f c.args.self.now (kept_overlays inside.by_number.entries))
      (sym w.self-inside-is)
      (none_changes (IsUnpinned c.args.node) f c.self.inside.by_number.entries _ c.args.self.now c.self.view_is absent
      (ap (λ map. map.entries) c.get_mut.follows.holds-at-none))
]
