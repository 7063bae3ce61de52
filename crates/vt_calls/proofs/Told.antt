-- What a call is answered of a descriptor or a child that was made.
use Rattle.std.proofs.Common.{◌≡◌, ap, ◌∙◌, ℕ, List, Option, Some, option_map, Result, Ok}
use Rattle.vt_spec.proofs.Common.{Answer, Child, Opened, Task, child_name, free_number}
use Rattle.vt_spec.specs.declared.errors.Deny.{Deny}

abbrev opened_as : ℕ → Result Answer Deny
opened_as number = Ok (Opened number)

pub number_told : (found : Option (Task ℕ)) (task : Task ℕ) (number : ℕ) → found ≡ Some task
    → Some number ≡ option_map free_number found → opened_as (free_number task) ≡ opened_as number
number_told found task number called told =
    let same : Some number ≡ Some (free_number task) = told ∙ ap (option_map free_number) called in cc

abbrev child_as : List ℕ → Result Answer Deny
child_as name = Ok (Child name)

pub name_told : (found : Option (Task ℕ)) (task : Task ℕ) (name : List ℕ) → found ≡ Some task
    → Some name ≡ option_map child_name found → child_as (child_name task) ≡ child_as name
name_told found task name called told =
    let same : Some name ≡ Some (child_name task) = told ∙ ap (option_map child_name) called in cc
