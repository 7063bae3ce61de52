use Rattle.std.proofs.Common.{map, ℕ, ap, sym, ◌∙◌}
use Rattle.vt_spec.proofs.Common.{map_twice}
use Rattle.vt_group.specs.Together.{pair_of}
use Rattle.vt_ns.proofs.Common.{counted}
use Rattle.vt_ns.proofs.RetypedMounts.{each_numbered}
use Rattle.vt_retype.specs.Retyping.{shared_by}
use Rattle.vt_ns.proofs.retyping.share_all.Goals as goal

pub returns-clause-types_ok : goal.returns-clause-types_ok
returns-clause-types_ok c = c.in_ok-share.ensures.types_ok
    ∙ ap (λ numbers. map (shared_by c.share.new.groups numbers) c.args.mounts.now)
    (sym (map_twice (λ (pair : ℕ × ℕ). pair.0) pair_of c.deref.result.now)
    ∙ ap (map (λ (pair : ℕ × ℕ). pair.0)) (ap (map pair_of) c.deref.ensures.value ∙ c.in_ok-named.ensures)
    ∙ each_numbered c.args.next (map (λ id. counted id.count) c.args.ids.now))
