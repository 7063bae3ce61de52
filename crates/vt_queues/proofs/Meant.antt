-- What items and queues mean after a call on them.
use Rattle.std.proofs.Common.{◌≡◌, refl, sym, ap, ◌∙◌, Bor, List, [], ◌∷◌, ◌++◌, map, Option, Some, None, OnErr, Ok, Err, Result, option_copied, option_map, arith, true≢false}
use Rattle.std.specs.Slice.{IsItemAt}
use Rattle.std.proofs.lemmas.List.{map-append}
use Rattle.vt_spec.specs.Language.Script.{Who}
use Rattle.vt_spec.specs.Lists.{first_of_list}
use Rattle.vt_spec.specs.Machine.Turns.{Queue, Queued}

-- the first item that is lent
pub first_meant : {A B : Type 0} (meaning : A → B) (items : List A) (lent : Option (Bor A)) → IsItemAt items 0 lent
    → option_map meaning (option_copied lent) ≡ first_of_list (map meaning items)
first_meant meaning [] None is = refl
first_meant meaning [] (Some one) is = absurd (omega (arith, is.3.0))
first_meant meaning (first ∷ rest) None is = absurd (true≢false (sym (is.2 (omega arith))))
first_meant meaning (first ∷ rest) (Some one) is = ap (λ a. Some (meaning a)) is.1

-- where an allocation failed or not, a fact that holds is one of the failure
pub of_failure : {T E P : Type 0} (result : Result T E) → P → OnErr result P
of_failure (Ok t) p = tt
of_failure (Err e) p = p

-- a queue of these items
abbrev pub queue_with : Who → List Queued → Queue
queue_with who items = record { who = who; items = items }

pub pushed : {A : Type 0} (meaning : A → Queued) (who : Who) (old new : List A) (one : A) → new ≡ old ++ one ∷ []
    → queue_with who (map meaning new) ≡ queue_with who (map meaning old ++ meaning one ∷ [])
pushed meaning who old new one is =
    ap (λ items. queue_with who (map meaning items)) is ∙ ap (queue_with who) (map-append meaning old (one ∷ []))
