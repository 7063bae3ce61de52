use Rattle.std.proofs.Common.{ap, eqb-true, rules, sym, ◌∙◌, ℕ}
use Rattle.indexmap.proofs.CallerLemmas.{filter-RetainsPairs}
use Rattle.vt_location.specs.Numbers.{namespace_number}
use Rattle.vt_location.specs.declared.numbers.NamespaceId.{NamespaceId}
use Rattle.vt_world.specs.WorldValue.{world_of}
use Rattle.vt_changes.specs.Following.{has_namespace}
use Rattle.vt_changes.specs.Kept.{is_namespace, number_by}
use Rattle.vt_changes.proofs.Numbered.{keep_by}
use Rattle.vt_changes.proofs.raising.drop_gone_namespaces.Goals as goal

pub returns-clause-numbers : goal.returns-clause-numbers
returns-clause-numbers c = λ number.
    let world = world_of c.args.world.now in
    ap (λ entries. number_by (is_namespace number) entries)
    (filter-RetainsPairs _ (λ (e : NamespaceId × ℕ). has_namespace world (namespace_number e.0)) _
    (λ k v b w g call. search rules) _ _ c.retain.ensures.filtered)
    ∙ keep_by (is_namespace number) (λ id. has_namespace world (namespace_number id)) (has_namespace world number)
    (λ id passes. ap (has_namespace world) (sym (eqb-true number (namespace_number id) passes)))
    c.args.numbers.now.entries
