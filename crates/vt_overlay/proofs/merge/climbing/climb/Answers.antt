use Rattle.std.proofs.Common.{◌≡◌, ◌≢◌, ◌∙◌, ◌+◌, arith, ap, eq-eqb, false, nat_eq, not, refl, suc, sym, true, true≢false, is_some}
use Rattle.vt_fs.specs.Trees.TreeValue.{tree_of}
use Rattle.vt_overlay.specs.Merge.Climbed.{climbed, name_up}
use Rattle.vt_overlay.proofs.merge.GoingUp.{came_from_above, climbed_once, comes_from_above, copied_some, ends_unnamed, leads_from_above, named_more, once_in_slots}
use Rattle.vt_overlay.proofs.merge.climbing.climb.Goals as goal

pub loop-len-init : goal.loop-len-init
loop-len-init c = record {
  is = refl;
  leads = refl;
  named = λ steps within. absurd (omega (arith, within));
  come = comes_from_above c.args.filesystem.count c.args.tree.now c.requires.tree c.args.top c.args.lower
      c.requires.directory 0 refl;
}

pub invariant_of-result : goal.invariant_of-result
invariant_of-result c =
    let within = c.loop-len-test.true in
    record {
      once = once_in_slots c.args.filesystem.count c.args.tree.now c.requires.tree;
      named = c.loop-len.invariant.named;
      room = omega (arith, within);
    }

pub name_above-requires : goal.name_above-requires
name_above-requires c = once_in_slots c.args.filesystem.count c.args.tree.now c.requires.tree

pub returns-then-is_none-clause-nowhere : goal.returns-then-is_none-clause-nowhere
returns-then-is_none-clause-nowhere c none =
    let tree = tree_of c.args.tree.now in
    let other : nat_eq c.loop-len.here c.args.top ≡ false = sym c.eq.ensures ∙ c.if-eq.false in
    let differ : c.args.top ≢ climbed tree c.loop-len.len c.args.lower =
    λ e. true≢false (sym (eq-eqb c.loop-len.here c.args.top (c.loop-len.invariant.is ∙ sym e)) ∙ other) in
    ends_unnamed c.args.filesystem.count c.args.tree.now c.requires.tree c.args.top c.args.lower
    c.requires.directory c.loop-len.len differ c.loop-len.invariant.come
    (ap (λ d. is_some (name_up tree d)) (sym c.loop-len.invariant.is)
    ∙ ap is_some (sym c.name_above.ensures) ∙ copied_some c.name_above.result
    ∙ c.is_none.ensures ∙ ap not c.if-is_none.true)

pub loop-len-preserved : goal.loop-len-preserved
loop-len-preserved c =
    let tree = tree_of c.args.tree.now in
    let other : nat_eq c.loop-len.here c.args.top ≡ false = sym c.eq.ensures ∙ c.if-eq.false in
    let differ : c.args.top ≢ climbed tree c.loop-len.len c.args.lower =
    λ e. true≢false (sym (eq-eqb c.loop-len.here c.args.top (c.loop-len.invariant.is ∙ sym e)) ∙ other) in
    let next : c.loop-len.len + 1 ≡ suc c.loop-len.len = omega arith in
    let has_name : is_some (name_up tree (climbed tree c.loop-len.len c.args.lower)) ≡ true =
    ap (λ d. is_some (name_up tree d)) (sym c.loop-len.invariant.is)
    ∙ ap is_some (sym c.name_above.ensures) ∙ copied_some c.name_above.result
    ∙ c.is_none.ensures ∙ ap not c.if-is_none.false in
    record {
      is = c.parent-here.ensures
          ∙ climbed_once tree c.loop-len.here c.loop-len.len c.args.lower c.loop-len.invariant.is;
      leads = leads_from_above c.args.filesystem.count c.args.tree.now c.requires.tree c.args.top c.args.lower
          c.requires.directory c.loop-len.len (c.loop-len.len + 1) next c.loop-len.invariant.leads has_name;
      named = named_more tree c.args.lower c.loop-len.len c.loop-len.invariant.named has_name;
      come = came_from_above c.args.filesystem.count c.args.tree.now c.requires.tree c.args.top c.args.lower
          c.requires.directory c.loop-len.len (c.loop-len.len + 1) next differ c.loop-len.invariant.come;
    }
