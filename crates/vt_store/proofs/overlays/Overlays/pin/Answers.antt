use Rattle.std.proofs.Common.{IsErr, None, OnErr, OnOk, Some, ap, subst, sym, ◌+◌, ◌^◌, ◌↔◌, ◌∙◌, ◌≡◌}
use Rattle.vt_spec.proofs.Common.{option_copied_mut}
use Rattle.indexmap.specs.IndexMap.{get_by}
use Rattle.vt_layered.specs.Pins.{IsPinned, uses_above}
use Rattle.vt_store.specs.OverlaysValue.{AreKept, kept_overlays}
use Rattle.vt_store.specs.Pins.{ChangesOverlay, uses_kept}
use Rattle.vt_store.proofs.KeptOverlays.{is_key, layered_of-kept}
use Rattle.vt_store.proofs.NodesKept.{never_at_limit, none_changes, pin_changes, pin_keeps, pin_leaves}
use Rattle.vt_store.proofs.overlays.Overlays.pin.Goals.{in-None, in-Some}
use Rattle.vt_store.proofs.overlays.Overlays.pin.Goals as goal

pub invariant_of-self : goal.invariant_of-self
invariant_of-self c = elim c.match-get_mut.branch [
  | in-Some w ↦
      let there : get_by (is_key c.args.node.filesystem.count) c.self.inside.by_number ≡ Some w.in-Some.found.now =
      sym c.get_mut.ensures.value ∙ ap option_copied_mut w.in-Some.is in
      subst (λ inside. AreKept inside.by_number.entries inside.layers inside.oldest) (sym w.self-inside-is)
      (pin_keeps c.args.node c.args.node.filesystem.count c.self.inside.by_number _ w.in-Some.found.now w.pin.new.self
      w.pin.result there w.pin.ensures.layers w.pin.ensures.ok w.pin.ensures.err (c.get_mut.follows.holds _)
      c.self.inside.layers c.self.inside.oldest c.self.invariant)
  | in-None w ↦
      subst (λ inside. AreKept inside.by_number.entries inside.layers inside.oldest) (sym w.self-inside-is)
      (subst (λ entries. AreKept entries c.self.inside.layers c.self.inside.oldest)
      (sym (ap (λ map. map.entries) c.get_mut.follows.holds-at-none)) c.self.invariant)
]

pub returns-clause-ok : goal.returns-clause-ok
returns-clause-ok c = elim c.match-get_mut.branch [
  | in-Some w ↦
      let f = c.args.node.filesystem.count in
      let there : get_by (is_key f) c.self.inside.by_number ≡ Some w.in-Some.found.now =
      sym c.get_mut.ensures.value ∙ ap option_copied_mut w.in-Some.is in
      subst (λ r. OnOk r (ChangesOverlay (IsPinned c.args.node) f c.args.self.now
      (kept_overlays c.match-get_mut.self-inside.by_number.entries))) (sym w.result-is)
      (subst (λ inside. OnOk w.pin.result
      (ChangesOverlay (IsPinned c.args.node) f c.args.self.now (kept_overlays inside.by_number.entries)))
      (sym w.self-inside-is)
      (pin_changes c.args.node f c.self.inside.by_number _ w.in-Some.found.now w.pin.new.self w.pin.result there
      w.pin.ensures.layers w.pin.ensures.ok w.pin.ensures.err (c.get_mut.follows.holds _) c.args.self.now
      c.self.view_is))
  | in-None w ↦
      let f = c.args.node.filesystem.count in
      subst (λ r. OnOk r (ChangesOverlay (IsPinned c.args.node) f c.args.self.now
      (kept_overlays c.match-get_mut.self-inside.by_number.entries))) (sym w.result-is)
      (subst (λ inside. ChangesOverlay (IsPinned c.args.node) f c.args.self.now (kept_overlays inside.by_number.entries))
      (sym w.self-inside-is)
      (none_changes (IsPinned c.args.node) f c.self.inside.by_number.entries _ c.args.self.now c.self.view_is
      (sym c.get_mut.ensures.value ∙ ap option_copied_mut w.in-None.is)
      (ap (λ map. map.entries) c.get_mut.follows.holds-at-none)))
]

pub returns-clause-limit : goal.returns-clause-limit
returns-clause-limit c = elim c.match-get_mut.branch [
  | in-Some w ↦
      let f = c.args.node.filesystem.count in
      subst (λ o. IsErr c.match-get_mut.result ↔ (uses_kept c.args.node o + 1 ≡ 2 ^ 64))
      (layered_of-kept f c.self.inside.by_number.entries c.args.self.now (Some w.in-Some.found.now) c.self.view_is
      (sym (sym c.get_mut.ensures.value ∙ ap option_copied_mut w.in-Some.is)))
      (subst (λ r. IsErr r ↔ (uses_above w.in-Some.found.now.overlay.above c.args.node + 1 ≡ 2 ^ 64))
      (sym w.result-is) w.pin.ensures.limit)
  | in-None w ↦
      let f = c.args.node.filesystem.count in
      subst (λ o. IsErr c.match-get_mut.result ↔ (uses_kept c.args.node o + 1 ≡ 2 ^ 64))
      (layered_of-kept f c.self.inside.by_number.entries c.args.self.now None c.self.view_is
      (sym (sym c.get_mut.ensures.value ∙ ap option_copied_mut w.in-None.is)))
      (never_at_limit c.match-get_mut.result _ w.result-is)
]

pub returns-clause-err : goal.returns-clause-err
returns-clause-err c = elim c.match-get_mut.branch [
  | in-Some w ↦
      let f = c.args.node.filesystem.count in
      let there : get_by (is_key f) c.self.inside.by_number ≡ Some w.in-Some.found.now =
      sym c.get_mut.ensures.value ∙ ap option_copied_mut w.in-Some.is in
      subst (λ r. OnErr r (kept_overlays c.match-get_mut.self-inside.by_number.entries ≡ c.args.self.now))
      (sym w.result-is)
      (subst (λ inside. OnErr w.pin.result (kept_overlays inside.by_number.entries ≡ c.args.self.now))
      (sym w.self-inside-is)
      (pin_leaves c.args.node f c.self.inside.by_number _ w.in-Some.found.now w.pin.new.self w.pin.result there
      w.pin.ensures.layers w.pin.ensures.ok w.pin.ensures.err (c.get_mut.follows.holds _) c.args.self.now
      c.self.view_is))
  | in-None w ↦
      subst (λ r. OnErr r (kept_overlays c.match-get_mut.self-inside.by_number.entries ≡ c.args.self.now))
      (sym w.result-is) tt
]
