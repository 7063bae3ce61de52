-- A child with the caller's credentials is refused by no rule on credentials.
use Rattle.std.proofs.Common.{◌≡◌, ℕ, Bool, false, [], not, ◌&&◌, ◌||◌, ◌==◌, Ok, None, Some, Option, Bor, option_copied, option_map, length, nat_eq, nat_le, eq-eqb, refl, ap, ◌∙◌, bytes_eq}
use Rattle.std.specs.Int.Bits.{and_self, bit_and}
use Rattle.vt_spec.proofs.Common.{Fork, Looks, Task, bytes_eq-Decides, deepest_name, judging, lacks, most_forks, unless}
use Rattle.vt_spec.specs.declared.errors.Rule.TheVariants.{K1, S6}
use Rattle.vt_spec.specs.Machine.Turns.{entry_rules}
use Rattle.vt_rules.proofs.Rows.{skipped}

differs : (a : ℕ) (lacking : Bool) → (not (a == a) && lacking) ≡ false
differs a lacking = ap (λ same. not same && lacking) (eq-eqb a a refl)

has_its_own : (task : Task ℕ) → lacks task task.credentials.capabilities ≡ false
has_its_own task = ap not (eq-eqb
    (bit_and task.credentials.capabilities task.credentials.capabilities) task.credentials.capabilities
    (and_self task.credentials.capabilities))

same_groups : (gid : ℕ) (groups : _) (lacking : Bool) → (not (gid == gid && bytes_eq groups groups) && lacking) ≡ false
same_groups gid groups lacking = ap (λ same. not (same && bytes_eq groups groups) && lacking) (eq-eqb gid gid refl)
    ∙ ap (λ same. not same && lacking) ((bytes_eq-Decides groups groups).1 refl)

pub forked_alike : (looks : Looks ℕ) (task : Task ℕ)
    → (nat_le most_forks task.forks || nat_le deepest_name (length task.name)) ≡ false
    → unless {A = Unit {0}} (entry_rules nat_eq looks task (Fork None)) (Ok tt) ≡ Ok tt
unfolding judging
forked_alike looks task fertile =
    skipped (nat_le most_forks task.forks || nat_le deepest_name (length task.name)) S6 _ _ fertile
    ∙ skipped _ K1 _ _ (differs task.credentials.uid _)
    ∙ skipped _ K1 _ _ (same_groups task.credentials.gid task.credentials.groups _)
    ∙ skipped _ K1 [] _ (has_its_own task)

-- what is lent of the words of a child is what they are
pub map-copied : {A B : Type 0} (f : A → B) (o : Option (Bor A))
    → option_map (λ (lent : Bor A). f lent.now) o ≡ option_map f (option_copied o)
map-copied f None = refl
map-copied f (Some lent) = refl
