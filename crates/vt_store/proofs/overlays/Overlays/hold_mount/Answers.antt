use Rattle.std.proofs.Common.{◌+◌, ap, arith, refl, subst, sym, ◌∙◌}
use Rattle.vt_spec.proofs.Common.{option_copied_mut}
use Rattle.vt_store.specs.OverlaysValue.{AreKept, kept_overlays}
use Rattle.vt_store.proofs.KeptOverlays.{mounts_below, writes, writes_none}
use Rattle.vt_store.proofs.LayersKept.{kept_written}
use Rattle.vt_store.proofs.overlays.Overlays.hold_mount.Goals.{in-Some, in_default}
use Rattle.vt_store.proofs.overlays.Overlays.hold_mount.Goals as goal

pub invariant_of-self : goal.invariant_of-self
invariant_of-self c = elim c.match-get_mut.branch [
  | in-Some w ↦
      subst (λ inside. AreKept inside.by_number.entries inside.layers inside.oldest) (sym w.self-inside-is)
      (kept_written c.args.id.count (λ mounts. mounts + 1) c.self.inside.by_number _ w.in-Some.found.now _
      c.self.inside.layers c.self.inside.oldest c.self.invariant (sym c.get_mut.ensures.value
      ∙ ap option_copied_mut w.in-Some.is)
      refl (c.get_mut.follows.holds _))
  | in_default w ↦
      subst (λ inside. AreKept inside.by_number.entries inside.layers inside.oldest) (sym w.self-inside-is)
      (subst (λ entries. AreKept entries c.self.inside.layers c.self.inside.oldest)
      (sym (ap (λ map. map.entries) c.get_mut.follows.holds-at-none)) c.self.invariant)
]

pub returns : goal.returns
returns c = elim c.match-get_mut.branch [
  | in-Some w ↦ ap (λ inside. kept_overlays inside.by_number.entries) w.self-inside-is
      ∙ writes c.args.id.count (λ one. record one { mounts = one.mounts + 1 }) _ c.self.inside.by_number _
      c.args.self.now w.in-Some.found.now _ c.self.view_is
      (sym c.get_mut.ensures.value ∙ ap option_copied_mut w.in-Some.is) refl (λ k one. refl)
      (c.get_mut.follows.holds _)
  | in_default w ↦
      ap (λ inside. kept_overlays inside.by_number.entries) w.self-inside-is
      ∙ writes_none c.args.id.count _ c.self.inside.by_number.entries _ c.args.self.now c.self.view_is
      (sym c.get_mut.ensures.value ∙ ap option_copied_mut w.in_default.is)
      (ap (λ map. map.entries) c.get_mut.follows.holds-at-none)
]

pub overflow_add-found : goal.overflow_add-found
overflow_add-found c =
    let few = mounts_below c.args.id.count 18446744073709551615 c.self.inside.by_number.entries c.args.self.now
    c.in-Some.found.now c.self.view_is (sym c.get_mut.ensures.value ∙ ap option_copied_mut c.in-Some.is) c.requires in
    omega (arith, few)
