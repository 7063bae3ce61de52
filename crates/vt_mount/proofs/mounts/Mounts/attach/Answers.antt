use Rattle.std.proofs.Common.{List, [], ap, refl, subst, sym, true, ◌&&◌, ◌++◌, ◌∙◌, ◌∷◌, ◌≡◌, nat_lt}
use Rattle.vt_spec.proofs.Common.{list_all}
use Rattle.vt_location.specs.MountValue.{mount_of}
use Rattle.vt_location.specs.Numbers.{counted, same_id}
use Rattle.vt_location.specs.declared.numbers.MountId.{MountId}
use Rattle.vt_mount.specs.Indexed.{IsIndexed}
use Rattle.vt_mount.specs.Indexes.{count_at, count_left, has_small_point, is_at, is_in, is_on, listed_in, listed_on, taken}
use Rattle.vt_mount.specs.MountsValue.{MountEntry, in_order, unused_entry, without}
use Rattle.vt_mount.proofs.EntryLemmas.{above-entries, kept-last}
use Rattle.vt_mount.proofs.KeptLemmas.{indexed-entered, indexed-restored, is-refused, not-err, put_behind, without-last}
use Rattle.vt_mount.proofs.OrderLemmas.{in_order-last}
use Rattle.vt_mount.proofs.mounts.Mounts.attach.Goals as goal
use Rattle.vt_mount.proofs.mounts.Mounts.attach.Goals.{then-is_err-via-then-is_err, then-is_err-via-else-is_err+then-is_err-2}

-- the others have smaller numbers
abbrev AreBelow : MountId → List MountEntry → Type 0
AreBelow id entries = list_all (λ entry. nat_lt entry.mount.number (counted id.count)) entries ≡ true

pub invariant_of-self : goal.invariant_of-self
invariant_of-self c =
    let mount = c.args.mount.now in
    let es = c.self.inside.by_number.entries in
    let below = subst (AreBelow mount.number) (sym c.self.view_is) c.requires in
    let above = above-entries mount.number (in_order es) below in
    let last = put_behind mount (in_order es) above in
    let indexed = c.self.invariant in
    let entered = c.add.ensures in
    let fine = c.if-is_err.ensures.value in
    subst (IsIndexed c.add.new.self) (sym (in_order-last mount.number c.unused.result es _ above
    (not-err c.keep.result c.if-is_err-2.ensures.value c.keep.ensures.ok)))
    (indexed-entered mount c.unused.result (in_order es) c.unused.ensures.mount c.self.inside.indexes c.add.new.self
    (ap has_small_point c.unused.ensures.mount ∙ not-err c.add.result fine entered.slot)
    (λ q. not-err c.add.result fine entered.namespace_ok q ∙ last (is_in q) (is_in q mount) _ (indexed.namespace q))
    (λ q. not-err c.add.result fine entered.parent_ok q ∙ last (is_on q) (is_on q mount) _ (indexed.parent q))
    (not-err c.add.result fine entered.place_ok)
    indexed)

-- it is in no list again
restored : (c : goal.After-leave) → c.then-is_err.self-inside.indexes ≡ c.add.new.self
    → c.then-is_err.self-inside.by_number.entries ≡ c.self.inside.by_number.entries
    → IsIndexed c.leave.new.self (in_order c.then-is_err.self-inside.by_number.entries)
restored c indexes entries =
    let mount = c.args.mount.now in
    let kept = in_order c.self.inside.by_number.entries in
    let rest = c.add.ensures in
    let left = c.leave.ensures in
    subst (λ es. IsIndexed c.leave.new.self (in_order es)) (sym entries) (indexed-restored mount kept
    (above-entries mount.number kept (subst (AreBelow mount.number) (sym c.self.view_is) c.requires))
    c.self.inside.indexes c.then-is_err.self-inside.indexes c.leave.new.self
    (λ q. ap (λ lists. taken (is_in q mount) mount.number (listed_in lists q)) indexes ∙ rest.namespace_rest q)
    (λ q. ap (λ lists. taken (is_on q mount) mount.number (listed_on lists q)) indexes ∙ rest.parent_rest q)
    (λ q one. ap (λ lists. count_left (is_at q mount && same_id one mount.number) (count_at lists q one)) indexes
    ∙ rest.place_rest q one)
    left.namespace left.parent left.place c.self.invariant)

pub invariant_of-self-then-is_err : goal.invariant_of-self-then-is_err
invariant_of-self-then-is_err c = elim c.then-is_err.branch [
  | then-is_err-via-then-is_err w ↦ restored c (ap (λ inside. inside.indexes) w.self-inside-is)
      (ap (λ inside. inside.by_number.entries) w.self-inside-is)
  | then-is_err-via-else-is_err+then-is_err-2 w ↦ restored c (ap (λ inside. inside.indexes) w.self-inside-is)
      (ap (λ inside. inside.by_number.entries) w.self-inside-is
      ∙ is-refused w.keep.result w.if-is_err-2.ensures.value w.keep.ensures.err)
]

pub returns-clause-ok : goal.returns-clause-ok
returns-clause-ok c =
    let mount = c.args.mount.now in
    let es = c.self.inside.by_number.entries in
    kept-last mount.number c.unused.result es _ (subst (AreBelow mount.number) (sym c.self.view_is) c.requires)
    (not-err c.keep.result c.if-is_err-2.ensures.value c.keep.ensures.ok)
    ∙ (λ i. c.self.view_is i ++ record {
      mount = mount_of (c.unused.ensures.mount i);
      uses = c.unused.ensures.uses i;
      writers = c.unused.ensures.writers i;
    } ∷ [])

pub returns-clause-undone : goal.returns-clause-undone
returns-clause-undone c =
    let mount = c.args.mount.now in
    let es = c.self.inside.by_number.entries in
    ap (without (counted mount.number.count))
    (kept-last mount.number c.unused.result es _ (subst (AreBelow mount.number) (sym c.self.view_is) c.requires)
    (not-err c.keep.result c.if-is_err-2.ensures.value c.keep.ensures.ok)
    ∙ (λ i. c.self.view_is i ++ record {
      mount = mount_of (c.unused.ensures.mount i);
      uses = c.unused.ensures.uses i;
      writers = c.unused.ensures.writers i;
    } ∷ [])) ∙ without-last (counted mount.number.count) (unused_entry mount) c.args.self.now c.requires refl
