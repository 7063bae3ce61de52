use Rattle.std.proofs.Common.{arith, ◌≡◌, ◌-◌, sym, ◌∙◌, subst, ℕ, bit_and}
use Rattle.vt_spec.specs.Rights.{masked}
use Rattle.vt_cred.specs.Access.{IsWithout}
use Rattle.vt_cred.proofs.BitLemmas.{and-not_umask, IsWithout-and}
use Rattle.vt_cred.proofs.access.masked.Goals as goal

is_masked : (c : goal.After-unwrap) → c.unwrap.result ≡ masked c.args.umask c.args.asked
is_masked c =
    let by_bits : c.unwrap.result ≡ bit_and c.bits.result
    (65535 - c.bits-2.result) = rw c.unwrap.ensures at c.new.ensures.value in
    rw (c.bits.ensures.value, c.bits-2.ensures.value) at by_bits
    ∙ and-not_umask c.args.umask c.args.asked (omega arith) (omega arith)

pub returns-clause-value : goal.returns-clause-value
returns-clause-value c = is_masked c

pub returns-clause-meaning : goal.returns-clause-meaning
returns-clause-meaning c =
    let P : ℕ → Type 0 = λ left. IsWithout c.args.asked c.args.umask left in
    subst P (sym (is_masked c)) (IsWithout-and 10 c.args.asked c.args.umask (omega arith) (omega arith))
