-- A child with the caller's credentials is refused by no rule on credentials.
use Rattle.std.proofs.Common.{◌≡◌, ℕ, Bool, List, None, Ok, [], ap, bytes_eq, eq-eqb, false, length, nat_le, not, refl, sym, ◌&&◌, ◌==◌, ◌||◌, ◌∷◌, ◌∙◌}
use Rattle.std.specs.Int.Bits.{and_self, bit_and}
use Rattle.vt_spec.proofs.Common.{Fork, Looks, Task, bytes_eq-Decides, deepest_name, judging, lacks, most_forks}
use Rattle.vt_spec.specs.Rights.{cap_setgid, cap_setuid}
use Rattle.vt_spec.specs.declared.errors.Rule.{Rule}
use Rattle.vt_spec.specs.declared.errors.Rule.TheVariants.{K1, S6}
use Rattle.vt_later.specs.Passing.{lets_pass, without}
use Rattle.vt_later.specs.Past.{call_past, table_past}
use Rattle.vt_later.proofs.Rows.{row_gone, same_row}

differs : (a : ℕ) (lacking : Bool) → (not (a == a) && lacking) ≡ false
differs a lacking = ap (λ same. not same && lacking) (eq-eqb a a refl)

has_its_own : (task : Task ℕ) → lacks task task.credentials.capabilities ≡ false
has_its_own task = ap not (eq-eqb
    (bit_and task.credentials.capabilities task.credentials.capabilities) task.credentials.capabilities
    (and_self task.credentials.capabilities))

same_groups : (gid : ℕ) (groups : List ℕ) (lacking : Bool)
    → (not (gid == gid && bytes_eq groups groups) && lacking) ≡ false
same_groups gid groups lacking = ap (λ same. not (same && bytes_eq groups groups) && lacking) (eq-eqb gid gid refl)
    ∙ ap (λ same. not same && lacking) ((bytes_eq-Decides groups groups).1 refl)

pub forked_alike : (looks : Looks ℕ) (task : Task ℕ) (passed : List Rule)
    → table_past passed ((nat_le most_forks task.forks || nat_le deepest_name (length task.name), S6) ∷ [])
    ≡ call_past looks task passed (Fork None)
unfolding judging
forked_alike looks task passed =
    let passes = lets_pass passed in
    let uid = not (task.credentials.uid == task.credentials.uid) && lacks task cap_setuid in
    let gid = not (task.credentials.gid == task.credentials.gid && bytes_eq task.credentials.groups task.credentials.groups)
    && lacks task cap_setgid in
    let own = lacks task task.credentials.capabilities in
    sym (same_row (passes S6) (nat_le most_forks task.forks || nat_le deepest_name (length task.name), S6)
    (without passes ((uid, K1) ∷ (gid, K1) ∷ (own, K1) ∷ [])) [] (Ok tt) (Ok tt)
    (row_gone passes uid K1 ((gid, K1) ∷ (own, K1) ∷ []) (Ok tt) (differs task.credentials.uid (lacks task cap_setuid))
    ∙ row_gone passes gid K1 ((own, K1) ∷ []) (Ok tt)
    (same_groups task.credentials.gid task.credentials.groups (lacks task cap_setgid))
    ∙ row_gone passes own K1 [] (Ok tt) (has_its_own task)))
