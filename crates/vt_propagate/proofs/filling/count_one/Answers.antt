use Rattle.std.proofs.Common.{◌≡◌, ◌∙◌, ◌+◌, ap, arith, sym, refl, ℕ, Bool, true, false, cond, Option, Some, nat_eq, eq-eqb, ne_eqb, if◌then◌else◌, unwrap_or, eqb-true}
use Rattle.vt_spec.proofs.Common.{eqb-false, get, holds_of}
use Rattle.vt_location.specs.declared.numbers.NamespaceId.{NamespaceId}
use Rattle.vt_propagate.proofs.filling.count_one.Goals as goal
use Rattle.vt_mount.specs.Indexes.{same_namespace}

raised : (before after : NamespaceId → Option ℕ) (namespace : NamespaceId) {count : ℕ}
    → ((q : NamespaceId) → after q ≡ cond (same_namespace namespace q) (Some (count + 1)) (before q))
    → count ≡ unwrap_or (before namespace) 0 → (one : NamespaceId) → unwrap_or (after one) 0
    ≡ unwrap_or (before one) 0 + (if same_namespace one namespace then 1 else 0)
raised before after namespace {count} updates counted one = by (nat_eq one.count namespace.count) refl
  where
    by : (b : Bool) → nat_eq one.count namespace.count ≡ b
        → unwrap_or (after one) 0 ≡ unwrap_or (before one) 0 + (if b then 1 else 0)
    by true e =
        let same : one.count ≡ namespace.count = eqb-true one.count namespace.count e in
        let whole : namespace ≡ one = λ i. record { count = (sym same) i } in
        ap (λ o. unwrap_or o 0) (updates one
        ∙ ap (λ b. cond b (Some (count + 1)) (before one)) (eq-eqb namespace.count one.count (sym same)))
        ∙ ap (λ n. n + 1) (counted ∙ ap (λ q. unwrap_or (before q) 0) whole)
    by false e =
        let here : unwrap_or (after one) 0 ≡ unwrap_or (before one) 0 =
        ap (λ o. unwrap_or o 0) (updates one ∙ ap (λ b. cond b (Some (count + 1)) (before one))
        (ne_eqb namespace.count one.count (λ same. eqb-false one.count namespace.count e (sym same)))) in
        omega (arith, here)

pub overflow_add-count : goal.overflow_add-count
overflow_add-count c =
    let value : c.unwrap_or-count.result ≡ unwrap_or (get same_namespace c.args.counts.now c.in-Some.namespace) 0 =
    c.unwrap_or-count.ensures ∙ ap (λ o. unwrap_or o 0) (c.copied.ensures ∙ c.get.ensures.value) in
    let room = c.requires c.in-Some.namespace in
    omega (arith, value, room)

pub returns-in_ok-insert : goal.returns-in_ok-insert
returns-in_ok-insert c = λ one. raised (get same_namespace c.args.counts.now)
    (get same_namespace c.insert.new.self) c.in-Some.namespace c.in_ok-insert.ensures.updates.0
    (c.unwrap_or-count.ensures ∙ ap (λ o. unwrap_or o 0) (c.copied.ensures ∙ c.get.ensures.value)) one
    ∙ ap (λ o. unwrap_or (get same_namespace c.args.counts.now one) 0 +
    (if holds_of (same_namespace one) o then 1 else 0)) (sym c.in-Some.is)
