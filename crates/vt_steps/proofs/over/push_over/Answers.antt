use Rattle.std.proofs.Common.{[], ap, append_assoc, arith, length, map, nat_eq, option_map, sym, ◌++◌, ◌+◌, ◌-◌, ◌<◌, ◌∙◌, ◌∷◌, ℕ}
use Rattle.vt_spec.proofs.Common.{Location, chain, length-map, map-append}
use Rattle.vt_spec.specs.Machine.Mounts.{child_at, root_of}
use Rattle.vt_location.specs.Locations.{location_of}
use Rattle.vt_mount.specs.MountsValue.{MountEntry, mounts_in}
use Rattle.vt_steps.proofs.Chains.{chain-goes, chain-stops}
use Rattle.vt_steps.proofs.over.push_over.Goals as goal

pub returns-in_default : goal.returns-in_default
returns-in_default c =
    let mounts = mounts_in c.args.mounts.now in
    let next = λ (at : Location ℕ). option_map root_of (child_at nat_eq mounts at) in
    let here = location_of c.loop-above.here in
    let all = length-map c.args.mounts.now (λ (entry : MountEntry). entry.mount) in
    let less : c.loop-above._above < length mounts = omega (arith, c.len-above-end.ensures, all) in record {
      ok = ap (map location_of) c.in_ok-push.ensures.items ∙ map-append location_of c.loop-above.passed.items _
          ∙ ap (λ xs. map location_of c.loop-above.passed.items ++ xs)
          (sym (chain-stops next (length mounts) c.loop-above._above here less (sym c.in_default.ensures)))
          ∙ c.loop-above.invariant;
    }

pub loop-above-preserved : goal.loop-above-preserved
loop-above-preserved c =
    let mounts = mounts_in c.args.mounts.now in
    let next = λ (at : Location ℕ). option_map root_of (child_at nat_eq mounts at) in
    let here = location_of c.loop-above.here in
    let root = location_of c.in-Some.root in
    let all = length-map c.args.mounts.now (λ (entry : MountEntry). entry.mount) in
    let less : c.loop-above._above < length mounts = omega (arith, c.len-above-end.ensures, all) in
    ap (λ xs. map location_of xs ++ chain (length mounts - (c.loop-above._above + 1)) next root)
    c.in_ok-push.ensures.items
    ∙ ap (λ xs. xs ++ chain (length mounts - (c.loop-above._above + 1)) next root)
    (map-append location_of c.loop-above.passed.items _)
    ∙ append_assoc (map location_of c.loop-above.passed.items) (here ∷ []) _
    ∙ ap (λ xs. map location_of c.loop-above.passed.items ++ xs)
    (sym (chain-goes next (length mounts) c.loop-above._above here root less (sym c.in-Some.ensures)))
    ∙ c.loop-above.invariant
