-- What a group that ends leaves, one by one.
use Rattle.std.proofs.Common.{◌≡◌, ℕ, Bool, true, false, ◌||◌, ◌∷◌, List, nat_eq, Option, None, Some, refl, sym, ap, ◌∙◌, option_map, eqb-true, if◌then◌else◌, unwrap_or}
use Rattle.vt_spec.proofs.Common.{Private as MeansPrivate, Slave as SlaveOf, holds_of, list_any, nat_eq-swapped, then_some}
use Rattle.std.specs.Option.{option_eq}
use Rattle.vt_location.specs.declared.mounts.Propagation.{Propagation}
use Rattle.vt_location.specs.declared.mounts.Propagation.TheVariants.{Private, Shared, Slave, Unbindable}
use Rattle.vt_location.specs.declared.numbers.GroupId.{GroupId}
use Rattle.vt_group.specs.Handing.{group_handed, kind_handed}
use Rattle.vt_location.specs.MountValue.{propagation_of}
use Rattle.vt_location.specs.Numbers.{counted, group_number}
use Rattle.vt_group.specs.Indexed.{has_source}
use Rattle.vt_group.specs.Sets.{same_group}
use Rattle.vt_group.specs.Steps.{handed, handed_type}
use Rattle.vt_location.proofs.NumberLemmas.{counted_test}

-- what was handed is not handed again

-- a master that is handed on is handed on once
pub group_handed-twice : (lost : GroupId) (heir : Option GroupId) (master : GroupId)
    → then_some (group_handed lost heir master) (group_handed lost heir) ≡ group_handed lost heir master
group_handed-twice lost heir master = by (same_group master lost) refl heir refl
  where
    kept : (above : GroupId) → heir ≡ Some above → (b : Bool) → group_handed lost (Some above) above ≡ Some above
    kept above is true = self (same_group above lost)
      where
        self : (b : Bool) → (if b then Some above else Some above) ≡ Some above
        self true = refl
        self false = refl
    kept above is false = self (same_group above lost)
      where
        self : (b : Bool) → (if b then Some above else Some above) ≡ Some above
        self true = refl
        self false = refl

    by : (b : Bool) → same_group master lost ≡ b → (o : Option GroupId) → heir ≡ o
        → then_some (if b then heir else Some master) (group_handed lost heir) ≡ (if b then heir else Some master)
    by true at None is = ap (λ found. then_some found (group_handed lost heir)) is ∙ sym is
    by true at (Some above) is = ap (λ found. then_some found (group_handed lost found)) is
        ∙ kept above is true ∙ sym is
    by false at o is = ap (λ b. if b then heir else Some master) at

-- a type that is handed on is handed on once
pub kind_handed-twice : (lost : GroupId) (heir : Option GroupId) (kind : Propagation)
    → then_some (kind_handed lost heir kind) (kind_handed lost heir) ≡ kind_handed lost heir kind
kind_handed-twice lost heir (Shared group) = refl
kind_handed-twice lost heir (Slave master) =
    slave (group_handed lost heir master) ∙ ap (option_map Slave) (group_handed-twice lost heir master)
  where
    slave : (found : Option GroupId) → then_some (option_map Slave found) (kind_handed lost heir)
        ≡ option_map Slave (then_some found (group_handed lost heir))
    slave None = refl
    slave (Some above) = refl
kind_handed-twice lost heir Private = refl
kind_handed-twice lost heir Unbindable = refl

-- where one is handed, what is left to be handed leads to the same
module _ {A K : Type 0} (hand : A → Option A) (twice : (value : A) → then_some (hand value) hand ≡ hand value)
    (count : K → ℕ) (number : ℕ) (now new : ℕ → Option A) (id : K) (rest : List K) where
  -- where one more is handed on, the rest is left to be
  pub handed_next : new number ≡ (if nat_eq number (count id) then then_some (now (count id)) hand else now number)
      → (if list_any (λ id. nat_eq number (count id)) rest then then_some (new number) hand else new number)
      ≡ (if list_any (λ id. nat_eq number (count id)) (id ∷ rest) then then_some (now number) hand else now number)
  handed_next step =
      ap (λ found. if list_any (λ id. nat_eq number (count id)) rest then then_some found hand else found) step
      ∙ by (nat_eq number (count id)) refl (list_any (λ id. nat_eq number (count id)) rest)
    where
      again : (found : Option A) → then_some (then_some found hand) hand ≡ then_some found hand
      again None = refl
      again (Some value) = twice value

      by : (b : Bool) → nat_eq number (count id) ≡ b → (a : Bool)
          → (if a then then_some (if b then then_some (now (count id)) hand else now number) hand
          else (if b then then_some (now (count id)) hand else now number))
          ≡ (if b || a then then_some (now number) hand else now number)
      by true same true =
          ap (λ n. then_some (then_some (now n) hand) hand) (sym (eqb-true number (count id) same)) ∙ again (now number)
      by true same false = ap (λ n. then_some (now n) hand) (sym (eqb-true number (count id) same))
      by false apart true = refl
      by false apart false = refl

-- a type without the lost group stays
pub unhanded_kind : (lost : GroupId) (heir : Option GroupId) (kind : Propagation) → has_source lost kind ≡ false
    → kind_handed lost heir kind ≡ Some kind
unhanded_kind lost heir (Shared group) apart = refl
unhanded_kind lost heir (Slave master) apart =
    ap (λ b. option_map Slave (if b then heir else Some master)) (nat_eq-swapped lost.count master.count false apart)
unhanded_kind lost heir Private apart = refl
unhanded_kind lost heir Unbindable apart = refl

-- a master other than the lost group stays
pub unhanded_group : (lost : GroupId) (heir : Option GroupId) (master : GroupId) → same_group master lost ≡ false
    → group_handed lost heir master ≡ Some master
unhanded_group lost heir master apart = ap (λ b. if b then heir else Some master) apart

-- as contracts see it

-- a master that is handed on means the master that the definitions hand on
pub group_seen : (lost : GroupId) (heir : Option GroupId) (master : GroupId)
    → option_map group_number (group_handed lost heir master)
    ≡ handed (counted lost.count) (option_map group_number heir) (group_number master)
group_seen lost heir master = by (same_group master lost)
    ∙ ap (λ b. if b then option_map group_number heir else Some (group_number master))
    (sym (counted_test master.count lost.count))
  where
    by : (b : Bool) → option_map group_number (if b then heir else Some master)
        ≡ (if b then option_map group_number heir else Some (group_number master))
    by true = refl
    by false = refl

-- a type that is handed on means the type that the definitions hand on
pub kind_seen : (lost : GroupId) (heir : Option GroupId) (kind : Propagation)
    → option_map propagation_of (kind_handed lost heir kind)
    ≡ handed_type (counted lost.count) (option_map group_number heir) (propagation_of kind)
kind_seen lost heir (Shared group) = refl
kind_seen lost heir (Slave master) =
    slave (group_handed lost heir master) ∙ ap (option_map SlaveOf) (group_seen lost heir master)
  where
    slave : (found : Option GroupId) → option_map propagation_of (option_map Slave found)
        ≡ option_map SlaveOf (option_map group_number found)
    slave None = refl
    slave (Some above) = refl
kind_seen lost heir Private = refl
kind_seen lost heir Unbindable = refl

-- a type, or private where there is none
pub shown_or_private : (found : Option Propagation)
    → propagation_of (unwrap_or found Private) ≡ unwrap_or (option_map propagation_of found) MeansPrivate
shown_or_private None = refl
shown_or_private (Some kind) = refl

-- two groups are the same where their numbers are
pub option_eq-counted : (found : Option GroupId) (group : GroupId)
    → option_eq same_group found (Some group) ≡ holds_of (nat_eq (counted group.count)) (option_map group_number found)
option_eq-counted None group = refl
option_eq-counted (Some own) group =
    sym (counted_test group.count own.count ∙ nat_eq-swapped own.count group.count (nat_eq own.count group.count) refl)

-- what is left at a key

module _ {V W : Type 0} (see : V → W) (hand : V → Option V) (change : W → Option W)
    (seen : (value : V) → option_map see (hand value) ≡ change (see value)) where
  both_seen : (found : Option V) → option_map see (then_some found hand) ≡ then_some (option_map see found) change
  both_seen None = refl
  both_seen (Some value) = seen value

  -- what is left of an entry is what the change leaves of what it means
  pub left_at : (old new : Option V) (among : Bool) → new ≡ (if among then then_some old hand else old)
      → ((value : V) → old ≡ Some value → among ≡ false → hand value ≡ Some value)
      → option_map see new ≡ then_some (option_map see old) change
  left_at old new among is kept = ap (option_map see) is ∙ by among refl ∙ both_seen old
    where
      same : (found : Option V) → old ≡ found → among ≡ false → option_map see found
          ≡ option_map see (then_some found hand)
      same None at apart = refl
      same (Some value) at apart = ap (option_map see) (sym (kept value at apart))

      by : (b : Bool) → among ≡ b → option_map see (if b then then_some old hand else old)
          ≡ option_map see (then_some old hand)
      by true apart = refl
      by false apart = same old refl apart
