use Rattle.std.proofs.Common.{◌≡◌, ◌∙◌, ◌||◌, ap, refl, ℕ, Bool, List, [], ◌∷◌, map, nat_lt, rules}
use Rattle.vt_spec.proofs.Common.{YieldsList-from_slice, any_from_yields_List, list_any}
use Rattle.vt_location.specs.declared.numbers.MountId.{MountId}
use Rattle.vt_location.specs.Numbers.{counted}
use Rattle.vt_mount.specs.MountsValue.{uses_of}
use Rattle.vt_propagate.proofs.unmounting.are_used.Goals as goal

any-numbers : (test : ℕ → Bool) (ids : List MountId) → list_any (λ (id : MountId). test (counted id.count)) ids
    ≡ list_any test (map (λ (id : MountId). counted id.count) ids)
any-numbers test [] = refl
any-numbers test (id ∷ ids) = ap (λ b. test (counted id.count) || b) (any-numbers test ids)

pub returns : goal.returns
returns c = any_from_yields_List (λ (id : MountId). nat_lt 0
    (uses_of c.args.mounts.now (counted id.count))) _ _ _ c.any.ensures.ran
    (YieldsList-from_slice c.args.ids.now cc) (λ x b q k. search rules)
    ∙ any-numbers (λ number. nat_lt 0 (uses_of c.args.mounts.now number)) c.args.ids.now
