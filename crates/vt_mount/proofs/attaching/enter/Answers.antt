use Rattle.std.proofs.Common.{Some, cond, ◌≡◌, ap, subst, sym, ◌++◌, ◌∙◌, ◌∷◌, []}
use Rattle.vt_spec.proofs.Common.{lookup}
use Rattle.vt_location.specs.Numbers.{same_id}
use Rattle.vt_location.specs.MountValue.{mount_of}
use Rattle.vt_location.specs.declared.numbers.MountId.{MountId}
use Rattle.vt_mount.specs.Indexed.{IsIndexed}
use Rattle.vt_mount.specs.Indexes.{has_small_point, is_in, is_on}
use Rattle.vt_mount.specs.MountsValue.{entries_of, in_order}
use Rattle.vt_mount.proofs.EntryLemmas.{above-entries, kept-last}
use Rattle.vt_mount.proofs.KeptLemmas.{indexed-entered, of-ok, put_behind}
use Rattle.vt_mount.proofs.OrderLemmas.{in_order-last}
use Rattle.vt_mount.proofs.attaching.enter.Goals as goal

-- the new mount is kept beside the others
inserted : (c : goal.After-insert) (q : MountId) → lookup (same_id q) c.insert.new.self.entries
    ≡ cond (same_id c.args.mount.number q) (Some c.unused.result) (lookup (same_id q) c.args.by_number.now.entries)
inserted c = (of-ok c.insert.result (c.insert.ensures.succeeds c.requires.spare) c.insert.ensures.updates).0

pub returns-clause-indexed : goal.returns-clause-indexed
returns-clause-indexed c =
    let number = c.args.mount.number in
    let es = c.args.by_number.now.entries in
    let kept = in_order es in
    let indexed = c.requires.indexed in
    let entered = c.enter.ensures in
    let above = above-entries number kept c.requires.order in
    let last = put_behind c.args.mount kept above in
    subst (IsIndexed c.enter.new.self) (sym (in_order-last number c.unused.result es _ above (inserted c)))
    (indexed-entered c.args.mount c.unused.result kept c.unused.ensures.mount c.args.indexes.now c.enter.new.self
    (ap has_small_point c.unused.ensures.mount ∙ entered.slot)
    (λ q. entered.namespace q ∙ last (is_in q) (is_in q c.args.mount) _ (indexed.namespace q))
    (λ q. entered.parent q ∙ last (is_on q) (is_on q c.args.mount) _ (indexed.parent q))
    entered.place indexed)

pub returns-clause-mounts : goal.returns-clause-mounts
returns-clause-mounts c =
    let number = c.args.mount.number in
    let es = c.args.by_number.now.entries in
    kept-last number c.unused.result es _ c.requires.order (inserted c) ∙ (λ i. entries_of es ++ record {
      mount = mount_of (c.unused.ensures.mount i);
      uses = c.unused.ensures.uses i;
      writers = c.unused.ensures.writers i;
    } ∷ [])
