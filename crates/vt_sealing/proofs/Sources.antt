-- A mount in no group that is no slave shares events with none.
use Rattle.std.proofs.Common.{◌≡◌, ℕ, Bool, false, ◌||◌, List, [], ◌∷◌, Option, None, Some, is_some, nat_eq, refl, ◌∙◌}
use Rattle.vt_spec.proofs.Common.{Mount, World, group_of, holds_of, list_any}
use Rattle.vt_spec.specs.Machine.Mounts.{Propagation, source_of}
use Rattle.vt_spec.specs.Machine.Mounts.Propagation.{Private, Shared, Slave, Unbindable}
use Rattle.vt_spec.specs.Machine.Sealed.{master_of, share_events}

none_holds : (group : Option ℕ) → holds_of (λ group. false) group ≡ false
none_holds None = refl
none_holds (Some group) = refl

module _ (world : World ℕ) (own : Mount ℕ) (none : is_some (source_of own.propagation) ≡ false) where
  shares_none : (other : Mount ℕ) → share_events nat_eq world own other ≡ false
  shares_none other = by own.propagation refl none
    where
      by : (kind : Propagation ℕ) → own.propagation ≡ kind → is_some (source_of kind) ≡ false
          → share_events nat_eq world own other ≡ false
      by (Shared group) is none = cc
      by (Slave master) is none = cc
      by Private is none = (λ i. share_events nat_eq world (record own { propagation = is i }) other)
          ∙ (λ i. none_holds (group_of other.propagation) i || none_holds (master_of world other.propagation) i)
      by Unbindable is none = (λ i. share_events nat_eq world (record own { propagation = is i }) other)
          ∙ (λ i. none_holds (group_of other.propagation) i || none_holds (master_of world other.propagation) i)

  pub no_source : (others : List (Mount ℕ)) → list_any (share_events nat_eq world own) others ≡ false
  no_source [] = refl
  no_source (other ∷ others) = λ i. shares_none other i || no_source others i
