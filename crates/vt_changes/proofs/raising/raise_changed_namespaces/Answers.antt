use Rattle.std.proofs.Common.{ap, drop, false, length, not, subst, sym, true, ◌+◌, ◌≤◌, ◌≡◌, ◌&&◌, ◌∙◌, ℕ}
use Rattle.indexmap.specs.IndexMap.{spare}
use Rattle.vt_location.specs.Numbers.{namespace_number}
use Rattle.vt_world.specs.WorldValue.{world_of}
use Rattle.vt_changes.specs.Following.{raised_if}
use Rattle.vt_changes.specs.Kept.{is_namespace, number_by}
use Rattle.vt_changes.specs.SeenMounts.{mounts_kept, mounts_seen, same_all}
use Rattle.vt_changes.proofs.Numbered.{all_are_done, ids_apart, ids_there, none_done, one_kept, one_raised, room_kept, room_left}
use Rattle.vt_changes.proofs.raising.raise_changed_namespaces.Goals as goal
use Rattle.vt_changes.proofs.raising.raise_changed_namespaces.Goals.{then-not-has_same_mounts, else-not-has_same_mounts}

pub loop-namespace-preserved : goal.loop-namespace-preserved
loop-namespace-preserved c =
    let ids = c.namespaces-namespaces.result.now in
    let namespaces = (world_of c.args.world.now).namespaces in
    let i = c.loop-namespace.namespace-index in
    let less = c.loop-namespace-test.true in
    let same = λ (number : ℕ). same_all (mounts_kept c.args.before.now.entries number)
    (mounts_seen (world_of c.args.world.now) number) in
    let apart = ids_apart ids namespaces c.namespaces-namespaces.ensures
    c.requires.held.in_world.namespaces.one_namespace in
    elim c.if-not-has_same_mounts.branch [
      | then-not-has_same_mounts w ↦
          let told : same (namespace_number _) ≡ false =
          sym c.has_same_mounts.ensures ∙ w.if-not-has_same_mounts.true in (
            room_left ids i (spare c.loop-namespace.numbers) (spare c.if-not-has_same_mounts.numbers) less
                c.loop-namespace.invariant.0
                (subst (λ numbers. spare c.loop-namespace.numbers ≤ spare numbers + 1) (sym w.numbers-is)
                w.raise.ensures.room),
            λ number. ap (λ numbers. number_by (is_namespace number) numbers.entries) w.numbers-is
                ∙ ap (number_by (is_namespace number)) w.raise.ensures.entries
                ∙ one_raised same ids apart number i _ less c.loop-namespace.numbers.entries
                (number_by (is_namespace number) c.args.numbers.now.entries) told
                (c.loop-namespace.invariant.1 number),
          )
      | else-not-has_same_mounts w ↦
          let told : same (namespace_number _) ≡ true =
          sym c.has_same_mounts.ensures ∙ w.if-not-has_same_mounts.false in (
            room_kept ids i (spare c.if-not-has_same_mounts.numbers)
                (subst (λ numbers. length (drop i ids) ≤ spare numbers) (sym w.numbers-is) c.loop-namespace.invariant.0),
            λ number. one_kept same ids apart number i _ less
                (number_by (is_namespace number) c.if-not-has_same_mounts.numbers.entries)
                (number_by (is_namespace number) c.args.numbers.now.entries) told
                (ap (λ numbers. number_by (is_namespace number) numbers.entries) w.numbers-is
                ∙ c.loop-namespace.invariant.1 number),
          )
    ]

pub returns : goal.returns
returns c = λ number.
    let ids = c.namespaces-namespaces.result.now in
    let world = world_of c.args.world.now in
    let same = λ (n : ℕ). same_all (mounts_kept c.args.before.now.entries n) (mounts_seen world n) in
    let apart = ids_apart ids world.namespaces c.namespaces-namespaces.ensures
    c.requires.held.in_world.namespaces.one_namespace in
    let start = number_by (is_namespace number) c.args.numbers.now.entries in
    all_are_done same ids apart number c.loop-namespace.namespace-index c.loop-namespace-test.false _ start
    (c.loop-namespace.invariant.1 number) ∙ ap (λ there. raised_if (there && not (same number)) start)
    (ids_there number ids world.namespaces c.namespaces-namespaces.ensures)
