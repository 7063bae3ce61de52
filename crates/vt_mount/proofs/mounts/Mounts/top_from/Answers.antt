use Rattle.std.proofs.Common.{IfSome, List, Option, Some, [], ap, arith, length, nat_eq, option_map, subst, suc, sym, ℕ, ◌+◌, ◌-◌, ◌≡◌, ◌∙◌, ◌≤◌, ◌∷◌}
use Rattle.vt_spec.proofs.Common.{Location, Mount, child_at, length-map, root_of}
use Rattle.vt_location.specs.Locations.{location_of}
use Rattle.vt_mount.specs.MountsValue.{IsOnItsFilesystem, mounts_in}
use Rattle.vt_mount.proofs.PointLemmas.{end-here, end-more, end_of, none_at}
use Rattle.vt_mount.proofs.mounts.Mounts.top_from.Goals as goal

abbrev step : List (Mount ℕ) → Location ℕ → Option (Location ℕ)
step mounts here = option_map root_of (child_at nat_eq mounts here)

-- what stands somewhere is among the mounts
some_stand : (mounts : List (Mount ℕ)) (here root : Location ℕ) → step mounts here ≡ Some root → 1 ≤ length mounts
some_stand [] here root is = absurd cc
some_stand (mount ∷ mounts) here root is = omega arith

pub loop-init : goal.loop-init
loop-init c =
    let mounts = mounts_in c.args.self.now in
    let some = some_stand mounts (location_of c.args.place) _ c.requires.over in
    let many : c.len-end.result ≡ length mounts = c.len-end.ensures ∙ sym (length-map c.args.self.now (λ entry. entry.mount)) in
    let one : c.len-end.result ≡ suc (c.len-end.result - 1) = omega (arith, some, many) in (
      many,
      sym (end-more (step mounts) _ _ _ c.requires.over)
          ∙ ap (λ n. end_of (step mounts) n (location_of c.args.place)) (sym one),
      c.requires.shown,
    )

pub loop-preserved : goal.loop-preserved
loop-preserved c =
    let is : step (mounts_in c.args.self.now) (location_of c.loop.here) ≡ Some (location_of c.in-Some.root) =
    sym c.root_over.ensures.root ∙ ap (option_map location_of) c.in-Some.is in
    let one : c.len-end.result - c.loop.counter
    ≡ suc (c.len-end.result - (c.loop.counter + 1)) = omega (arith, c.loop-test.true) in (
      c.loop.invariant.0,
      sym (end-more (step (mounts_in c.args.self.now)) _ _ _ is)
          ∙ ap (λ n. end_of (step (mounts_in c.args.self.now)) n (location_of c.loop.here)) (sym one)
          ∙ c.loop.invariant.1,
      subst (λ root. IfSome root (IsOnItsFilesystem (mounts_in c.args.self.now))) c.in-Some.is c.root_over.ensures.shown,
    )

pub returns-then-not-has_child-clause-root : goal.returns-then-not-has_child-clause-root
returns-then-not-has_child-clause-root c =
    let mounts = mounts_in c.args.self.now in
    sym (end-here (step mounts) _ _ (ap (option_map root_of) (none_at (location_of c.loop.here) mounts
    (sym c.has_child.ensures ∙ c.if-not-has_child.true)))) ∙ c.loop.invariant.1
    ∙ ap (λ n. end_of (step mounts) n (location_of c.args.place)) c.loop.invariant.0
