-- Inodes that count their uses, after each step of a change.
use Rattle.std.proofs.Common.{◌≡◌, ◌≢◌, refl, sym, ap, subst, ◌∙◌, ⊎_elim, ℕ, ◌+◌, ◌≤◌, nat_eq, eq-eqb, ne_eqb, true, false, cond, List, [], ◌∷◌, length, Option, Some, None, is_some, arith}
use Rattle.vt_spec.proofs.Common.{Inode, Inodes, Node, common_steps, eqb_tells, node_in, pinned, targets_in, uses_in, with_changed}
use Rattle.vt_spec.specs.Inodes.{with_inode}
use Rattle.vt_laws_mounts.proofs.counts.counting.Entries.{changed_at, one_if}
use Rattle.vt_laws_mounts.proofs.counts.counting.Times.{times_in}

-- Inodes that count these uses, have these nodes so far as they are there, and are as many as they count.
pub record IsCounted (uses : ℕ → ℕ) (node : ℕ → Option (Node ℕ)) (inodes : Inodes ℕ) : Type 0 where
  pub uses_are : (number : ℕ) → uses_in (inodes.inode number) ≡ uses number
  pub in_use : (number : ℕ) → is_some (inodes.inode number) ≡ true → 1 ≤ uses_in (inodes.inode number)
  pub kept : (number : ℕ) → is_some (inodes.inode number) ≡ true → node number ≡ node_in (inodes.inode number)
  pub emptied : (number : ℕ) → is_some (inodes.inode number) ≡ false → targets_in (node number) ≡ []
  pub list : List ℕ
  pub listed : (number : ℕ) → times_in number list ≡ cond (is_some (inodes.inode number)) 1 0
  pub as_many : inodes.count ≡ length list

-- what holds of a changed inode, and of the others, holds of each
pub at_or : (P : ℕ → Option (Inode ℕ) → Type 0) (inode : ℕ → Option (Inode ℕ)) (place : ℕ) (new : Option (Inode ℕ))
    → P place new → ((number : ℕ) → number ≢ place → P number (inode number))
    → (number : ℕ) → P number (cond (nat_eq number place) new (inode number))
at_or P inode place new here there number = ⊎_elim
    (λ t. subst (λ b. P number (cond b new (inode number))) (sym t.0) (subst (λ n. P n new) (sym t.1) here))
    (λ t. subst (λ b. P number (cond b new (inode number))) (sym t.0) (there number t.1)) (eqb_tells number place)

pub one_if-itself : (number : ℕ) → one_if number number ≡ 1
one_if-itself number = ap (λ b. cond b 1 0) (eq-eqb number number refl)

pub other_if : (number other : ℕ) → number ≢ other → one_if number other ≡ 0
other_if number other apart = ap (λ b. cond b 1 0) (ne_eqb number other apart)

pub apart_one : (number other : ℕ) → one_if number other ≡ 0 → number ≢ other
apart_one number other none same =
    let one : one_if number other ≡ 1 = ap (λ b. cond b 1 0) (eq-eqb number other same) in
    omega arith

module _ {uses : ℕ → ℕ} {node : ℕ → Option (Node ℕ)} {inodes : Inodes ℕ} (counted : IsCounted uses node inodes)
    (place : ℕ) {inode : Inode ℕ} (is : inodes.inode place ≡ Some inode) where
  here_uses : inode.uses ≡ uses place
  here_uses = cc (counted.uses_are place)

  here_in_use : 1 ≤ inode.uses
  here_in_use = subst (λ o. 1 ≤ uses_in o) is (counted.in_use place (ap is_some is))

  here_node : node place ≡ Some inode.node
  here_node = cc (counted.kept place (ap is_some is))

  here_listed : times_in place counted.list ≡ 1
  here_listed = cc (counted.listed place)

  -- one use more
  pub counted_pinned : IsCounted (λ number. one_if number place + uses number) node (pinned nat_eq inodes place)
  counted_pinned =
      grind (arith, common_steps, one_if, at_or, here_uses, one_if-itself, other_if, here_node, times_in, here_listed)

  -- another node
  pub counted_changed : (change : Option (Node ℕ) → Option (Node ℕ)) (new : Node ℕ)
      → change (Some inode.node) ≡ Some new
      → IsCounted uses (changed_at node place (change (node place))) (with_changed nat_eq inodes place change)
  counted_changed change new becomes = grind (
    arith,
    common_steps,
    changed_at,
    at_or,
    here_uses,
    here_in_use,
    eq-eqb,
    here_node,
    ne_eqb,
    times_in,
    here_listed,
  )

-- an inode more
pub counted_new : (uses : ℕ → ℕ) (node : ℕ → Option (Node ℕ)) (inodes : Inodes ℕ) → IsCounted uses node inodes
    → (number : ℕ) (new : Node ℕ) → inodes.inode number ≡ None
    → IsCounted (λ other. one_if other number + uses other) (changed_at node number (Some new))
    (record (with_inode nat_eq inodes number (Some (record { node = new; uses = 1 }))) { count = inodes.count + 1 })
counted_new uses node inodes counted number new vacant = record {
  uses_are = at_or (λ other o. uses_in o ≡ one_if other number + uses other) inodes.inode number now
      (let none : 0 ≡ uses number = cc (counted.uses_are number) in
      let one : one_if number number ≡ 1 = one_if-itself number in omega arith)
      (λ other apart. let e = counted.uses_are other in let none : one_if other number
      ≡ 0 = other_if other number apart in omega arith);
  in_use = at_or (λ other o. is_some o ≡ true → 1 ≤ uses_in o) inodes.inode number now (λ e. omega arith)
      (λ other apart. counted.in_use other);
  kept = at_or (λ other o. is_some o ≡ true
      → changed_at node number (Some new) other ≡ node_in o) inodes.inode number now
      (λ e. ap (λ b. cond b (Some new) (node number)) (eq-eqb number number refl))
      (λ other apart e. cc (ne_eqb other number apart, counted.kept other e));
  emptied = at_or (λ other o. is_some o ≡ false
      → targets_in (changed_at node number (Some new) other) ≡ []) inodes.inode number now (λ e. cc)
      (λ other apart e. cc (ne_eqb other number apart, counted.emptied other e));
  list = number ∷ counted.list;
  listed = at_or (λ other o. one_if other number + times_in other counted.list
      ≡ cond (is_some o) 1 0) inodes.inode number now
      (let none : times_in number counted.list ≡ 0 = cc (counted.listed number) in
      let one : one_if number number ≡ 1 = one_if-itself number in omega arith)
      (λ other apart. (let none : one_if other number ≡ 0 = other_if other number apart in
      let same : one_if other number + times_in other counted.list ≡ times_in other counted.list = omega arith in
      same) ∙ counted.listed other);
  as_many = let g = counted.as_many in omega arith;
}
  where
    now : Option (Inode ℕ)
    now = Some (record { node = new; uses = 1 })

-- what has a use is there
pub counted_some : (uses : ℕ → ℕ) (node : ℕ → Option (Node ℕ)) (inodes : Inodes ℕ) → IsCounted uses node inodes
    → (number : ℕ) → 1 ≤ uses number → is_some (inodes.inode number) ≡ true
counted_some uses node inodes counted number some = grind (arith, common_steps)
