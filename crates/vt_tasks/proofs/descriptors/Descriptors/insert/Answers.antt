use Rattle.std.proofs.Common.{◌≡◌, ◌≤◌, ap, sym, ◌∙◌, length, arith}
use Rattle.vt_spec.proofs.Common.{free_from, inserted}
use Rattle.vt_tasks.specs.Open.{are_ascending, numbered}
use Rattle.vt_tasks.proofs.OpenLemmas.{ascending-inserted, entries-inserted, length-opened, lookup-free, opened, opened-inserted}
use Rattle.vt_tasks.proofs.descriptors.Descriptors.insert.Goals as goal

pub invariant_of-self-2 : goal.invariant_of-self-2
invariant_of-self-2 c =
    let es = c.self.inside.by_number.entries in
    let free = c.free_number-free.result in
    let is : free_from 0 (opened es) ≡ free = ap (free_from 0) c.self.view_is ∙ sym c.free_number-free.ensures.value in
    let within : free ≤ length es = omega
    (arith, c.free_number-free.ensures.limit, ap length c.self.view_is, length-opened es) in
    ap (are_ascending 0) (entries-inserted c.self.inside.by_number free _ c.args.opened _
    (lookup-free free 0 es c.self.invariant is) within c.in_ok-insert_before.ensures.index c.in_ok-insert_before.ensures.entries)
    ∙ ascending-inserted c.args.opened free 0 free es c.self.invariant is (omega arith)

pub returns-clause-ok : goal.returns-clause-ok
returns-clause-ok c =
    let es = c.self.inside.by_number.entries in
    let free = c.free_number-free.result in
    let is : free_from 0 (opened es) ≡ free = ap (free_from 0) c.self.view_is ∙ sym c.free_number-free.ensures.value in
    let within : free ≤ length es = omega
    (arith, c.free_number-free.ensures.limit, ap length c.self.view_is, length-opened es) in
    ap opened (entries-inserted c.self.inside.by_number free _ c.args.opened _
    (lookup-free free 0 es c.self.invariant is) within c.in_ok-insert_before.ensures.index c.in_ok-insert_before.ensures.entries)
    ∙ opened-inserted c.args.opened free 0 free es c.self.invariant is (omega arith)
    ∙ ap (inserted (numbered free c.args.opened)) c.self.view_is
