-- What a permit leaves has no other numbers than the world before, the permit and the supply.
use Rattle.std.proofs.Common.{◌≡◌, sym, ap, ◌∙◌, ℕ, nat_eq, Bool, Option, Some, None}
use Rattle.vt_spec.proofs.Common.{Fresh, Permit, Task, TaskName, World, apply, renamed, settled, task_called}
use Rattle.vt_laws_rules.proofs.numbers.Renamings.{named_world, renamed_itself}
use Rattle.vt_laws_rules.proofs.numbers.Commuting.{Named, commutes_nat}
use Rattle.vt_laws_rules.specs.Renaming.{Renaming}
use Rattle.vt_laws_worlds.proofs.permits.named.NamedPermits.{named_permit, permit_left}
use Rattle.vt_laws_worlds.proofs.one_text.same.SameNumbers.{any_same_worlds_keep_to_numbers}
use Rattle.vt_laws_worlds.specs.Permits.Left.{left_by}
use Rattle.vt_laws_worlds.specs.Permits.Named.{renamed_permit, PermitsKeepToNumbers, SameKeepsToNumbersToo}

-- a supply and a permit beside a world
abbrev pub Handed : Type 0 → Type 0
Handed A = Fresh A × World A × Permit A

abbrev pub named_handed : Named Handed
named_handed = record {
  rename = λ A B there back handed.
      ((λ k. there (handed.0 k)), renamed there back handed.1, renamed_permit there back handed.2);
  itself = λ A handed i. (handed.0, renamed_itself handed.1 i, named_permit.itself A handed.2 i);
}

-- what the permit leaves if the task is there
abbrev pub left_if : {N : Type 0} → (N → N → Bool) → Handed N → Option (Task N) → World N
left_if eq handed None = handed.1
left_if eq handed (Some task) = settled eq (apply eq handed.0 handed.1 task handed.2).world

abbrev pub left_called : {N : Type 0} → TaskName → (N → N → Bool) → Handed N → World N
left_called name eq handed = left_if eq handed (task_called handed.1 name)

-- the world that is left, renamed, is what the renamed permit leaves
pub left_renamed : (renaming : Renaming ℕ ℕ) (fresh : Fresh ℕ) (world : World ℕ) (task : Task ℕ) (permit : Permit ℕ)
    → task_called world task.name ≡ Some task → renamed renaming.there renaming.back world ≡ world
    → renamed_permit renaming.there renaming.back permit ≡ permit
    → renamed renaming.there renaming.back (left_by fresh world task permit)
    ≡ left_by (λ k. renaming.there (fresh k)) world task permit
left_renamed renaming fresh world task permit called same alike = ap (renamed _ _) (sym (left_is fresh)) ∙ sym
    (commutes_nat Handed World named_handed named_world (λ A eq handed. left_called task.name eq handed) renaming
    (fresh, world, permit)) ∙ (λ i. left_called task.name nat_eq ((λ k. renaming.there (fresh k)), same i, alike i))
    ∙ left_is (λ k. renaming.there (fresh k))
  where
    left_is : (supply : Fresh ℕ)
        → left_called task.name nat_eq (supply, world, permit) ≡ left_by supply world task permit
    left_is supply = cc

pub permits_keep_to_numbers : PermitsKeepToNumbers
permits_keep_to_numbers named fresh world task permit called keeps supplied is renaming leaves =
    left_renamed renaming fresh world task permit called (keeps renaming leaves)
    (permit_left named renaming leaves permit is)
    ∙ (λ i. left_by (λ k. leaves (fresh k) (supplied k) i) world task permit)

pub same_keeps_to_numbers_too : SameKeepsToNumbersToo
same_keeps_to_numbers_too named fresh world task permit other called keeps supplied is same plain =
    any_same_worlds_keep_to_numbers named (left_by fresh world task permit) other same
    (permits_keep_to_numbers named fresh world task permit called keeps supplied is)
