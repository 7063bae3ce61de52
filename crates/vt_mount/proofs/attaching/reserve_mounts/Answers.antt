use Rattle.std.proofs.Common.{List, [], ap, subst, sym, ◌++◌, ◌∙◌, ◌∷◌, append_assoc, option_to_list}
use Rattle.vt_spec.proofs.Common.{nil_from_length}
use Rattle.vt_location.specs.declared.mounts.Mount.{Mount}
use Rattle.vt_mount.specs.Reserved.{Reserves, mount_points_of, namespaces_of}
use Rattle.vt_mount.proofs.MoveLemmas.{indexed-same}
use Rattle.vt_mount.proofs.attaching.reserve_mounts.Goals as goal

pub returns-in_err-reserve-clause-same : goal.returns-in_err-reserve-clause-same
returns-in_err-reserve-clause-same c kept indexed =
    indexed-same kept c.loop-mount.indexes c.reserve.new.self c.in_err-reserve.ensures.namespace
    c.in_err-reserve.ensures.parent c.in_err-reserve.ensures.place
    (c.loop-mount.invariant.2 kept indexed)

pub loop-mount-preserved : goal.loop-mount-preserved
loop-mount-preserved c =
    let mount = c.in-Some.mount.now in
    let so_far = c.loop-mount.invariant in
    let back = so_far.0 in (
      mount ∷ back,
      so_far.1 ∙ ap (λ (rest : List Mount). rest ++ back) c.in-Some.ensures.steps
          ∙ append_assoc c.next.new.self.iter.rest.now (mount ∷ []) back,
      λ kept indexed. indexed-same kept c.loop-mount.indexes c.reserve.new.self c.reserve.ensures.namespace
          c.reserve.ensures.parent c.reserve.ensures.place (so_far.2 kept indexed),
      λ namespaces places has.
          subst (λ (all : List _). Reserves c.reserve.new.self all (mount_points_of (mount ∷ back) ++ places))
          (sym (append_assoc (option_to_list mount.namespace) (namespaces_of back) namespaces))
          (subst (Reserves c.reserve.new.self (option_to_list mount.namespace ++ (namespaces_of back ++ namespaces)))
          (sym (append_assoc (option_to_list mount.mount_point) (mount_points_of back) places))
          (c.in_ok-reserve.ensures.ok (namespaces_of back ++ namespaces) (mount_points_of back ++ places)
          (so_far.3 namespaces places has))),
    )

pub returns-clause-ok : goal.returns-clause-ok
returns-clause-ok c namespaces places has =
    subst (λ (all : List Mount). Reserves c.loop-mount.indexes (namespaces_of all ++ namespaces)
    (mount_points_of all ++ places))
    (sym (c.loop-mount.invariant.1 ∙ ap (λ (rest : List Mount). rest ++ c.loop-mount.invariant.0)
    (nil_from_length _ c.in-None.ensures.steps.0))) (c.loop-mount.invariant.3 namespaces places has)
