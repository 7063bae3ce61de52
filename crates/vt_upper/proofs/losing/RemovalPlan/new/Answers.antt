use Rattle.std.proofs.Common.{◌≡◌, ◌∙◌, ◌+◌, ap, arith, subst, sym}
use Rattle.vt_copyup.proofs.Changed.{promises_given_back}
use Rattle.vt_fs.specs.FilesystemsValue.{giving_back, promising, with_changed}
use Rattle.vt_upper.specs.declared.removing.NameRemoval.{NameRemoval}
use Rattle.vt_upper.specs.Losing.{IsKeeping, IsNotKept, MayBeKept, keeps_node}
use Rattle.vt_upper.specs.New.{IsPlaceOf, IsRemovalReady, many_in, one_if, start_of}
use Rattle.vt_upper_overlay.specs.MergedAbove.{upper_count}
use Rattle.vt_location.specs.Locations.{number_of}
use Rattle.vt_upper.proofs.NamesLeft.{name_at, way_of_entry}
use Rattle.vt_upper.proofs.KeptPlaces.{given_up, keeping_so, kept_is, many_keeping, not_kept_still, place_keeping, promised_kept, ready_keeping}
use Rattle.vt_upper.proofs.losing.RemovalPlan.new.Goals as goal

pub returns-in-Ok-clause-place : goal.returns-in-Ok-clause-place
returns-in-Ok-clause-place c =
    let removal = c.in_ok-removal.removal in
    subst (λ (r : NameRemoval). IsPlaceOf c.args.trees.now c.args.overlay.now c.args.removed.directory r.place)
    (sym c.keeping.ensures)
    (place_keeping c.keeps-keeps.result c.args.trees.now c.args.overlay.now c.args.removed.directory removal.place
    c.in_ok-removal.ensures.place)

pub returns-in-Ok-clause-keeps : goal.returns-in-Ok-clause-keeps
returns-in-Ok-clause-keeps c =
    let removal = c.in_ok-removal.removal in
    subst (λ (r : NameRemoval). IsKeeping (keeps_node c.of-losing.result) r.place) (sym c.keeping.ensures)
    (subst (λ b. IsKeeping b (Rattle.vt_upper.specs.New.keeping c.keeps-keeps.result removal.place)) c.keeps-keeps.ensures
    (keeping_so c.keeps-keeps.result removal.place))

pub returns-in-Ok-clause-losing : goal.returns-in-Ok-clause-losing
returns-in-Ok-clause-losing c = λ path way.
    c.of-losing.ensures.loses path c.args.removed.name.items
    (name_at c.args.trees.now c.args.overlay.now c.args.removed.directory c.args.removed.node c.args.removed.name.items
    c.requires.named path way)

pub returns-in-Ok-clause-name : goal.returns-in-Ok-clause-name
returns-in-Ok-clause-name c = ap (λ (r : NameRemoval). r.white.name) c.keeping.ensures ∙ c.in_ok-removal.ensures.name

pub returns-in-Ok-clause-white : goal.returns-in-Ok-clause-white
returns-in-Ok-clause-white c = ap (λ (r : NameRemoval). r.white.node) c.keeping.ensures ∙ c.in_ok-removal.ensures.white

pub returns-in-Ok-clause-hidden : goal.returns-in-Ok-clause-hidden
returns-in-Ok-clause-hidden c = λ path upper lowers at is.
    ap (λ (r : NameRemoval). r.hidden) c.keeping.ensures ∙ c.in_ok-removal.ensures.hidden path upper lowers at is

pub returns-in-Ok-clause-ready : goal.returns-in-Ok-clause-ready
returns-in-Ok-clause-ready c =
    let removal = c.in_ok-removal.removal in
    let name = c.args.removed.name.items in
    let births = c.new.new.overlay.nodes.births in
    subst (λ (r : NameRemoval). IsRemovalReady r.hidden r.place name c.new.new.trees births c.new.new.room)
    (sym c.keeping.ensures)
    (ready_keeping c.keeps-keeps.result name c.new.new.trees births c.new.new.room removal.hidden removal.place
    c.in_ok-removal.ensures.ready)

pub returns-in-Ok-clause-may_be_kept : goal.returns-in-Ok-clause-may_be_kept
returns-in-Ok-clause-may_be_kept c =
    let losing = c.of-losing.result in
    let way = way_of_entry c.args.trees.now c.args.overlay.now (number_of c.args.removed.directory)
    (number_of c.args.removed.node) c.args.removed.name.items c.requires.named in
    let old = c.new.new.overlay.nodes.kept in
    let many = c.one_more.result in
    let one : many ≡ one_if (keeps_node losing) = c.one_more.ensures ∙ ap one_if c.keeps-keeps.ensures in
    let none : IsNotKept losing old = subst (IsNotKept losing) (sym (kept_is c.args.overlay.now c.new.new.overlay
    (many_in c.in_ok-removal.removal.place) c.in_ok-removal.ensures.others c.in_ok-removal.ensures.births))
    (c.of-losing.ensures.not_kept way.0 c.args.removed.name.items
    (name_at c.args.trees.now c.args.overlay.now c.args.removed.directory c.args.removed.node c.args.removed.name.items
    c.requires.named way.0 way.1)) in
    subst (MayBeKept losing) (sym c.in-Ok.ensures.ok) (
      λ yes. let more : many ≡ 1 = one ∙ ap one_if yes in omega (arith, more),
      not_kept_still losing old (old.promised + many) none,
    )

pub returns-in-Ok-clause-inodes : goal.returns-in-Ok-clause-inodes
returns-in-Ok-clause-inodes c =
    let removal = c.in_ok-removal.removal in
    let trees = c.args.trees.now in
    let count = upper_count c.args.overlay.now in
    c.in_ok-removal.ensures.inodes
    ∙ ap (λ n. with_changed count (promising (n + one_if removal.hidden)) trees)
    (sym (many_keeping c.keeps-keeps.result removal.place))
    ∙ ap (λ (r : NameRemoval). with_changed count (promising (many_in r.place + one_if r.hidden)) trees)
    (sym c.keeping.ensures)

pub returns-in-Ok-clause-overlay : goal.returns-in-Ok-clause-overlay
returns-in-Ok-clause-overlay c =
    let removal = c.in_ok-removal.removal in
    let old = c.args.overlay.now in
    let many = c.one_more.result in
    let one : many ≡ one_if (keeps_node c.of-losing.result) =
    c.one_more.ensures ∙ ap one_if c.keeps-keeps.ensures in
    let places : many_in removal.place ≡ many_in c.keeping.result.place =
    sym (many_keeping c.keeps-keeps.result removal.place)
    ∙ ap (λ (r : NameRemoval). many_in r.place) (sym c.keeping.ensures) in
    promised_kept old c.new.new.overlay (many_in removal.place) c.in_ok-removal.ensures.others
    c.in_ok-removal.ensures.births c.promise.new.self many c.in-Ok.ensures.ok
    ∙ (λ i. record old {
      nodes = record {
        births = record old.nodes.births { promised = old.nodes.births.promised + places i };
        kept = record old.nodes.kept { promised = old.nodes.kept.promised + one i };
      };
    })

pub returns-in-Err-clause-err : goal.returns-in-Err-clause-err
returns-in-Err-clause-err c =
    let removal = c.in_ok-removal.removal in
    let many = many_in removal.place + one_if removal.hidden in
    promises_given_back (upper_count c.args.overlay.now) many c.args.trees.now c.new.new.trees c.give_back.new.trees
    c.in_ok-removal.ensures.inodes
    (c.give_back.ensures.trees
    ∙ ap (λ count. with_changed count (giving_back many) c.new.new.trees) c.in_ok-removal.ensures.filesystem)

pub returns-in-Err-clause-err_overlay : goal.returns-in-Err-clause-err_overlay
returns-in-Err-clause-err_overlay c =
    c.give_back.ensures.overlay
    ∙ given_up c.args.overlay.now c.new.new.overlay (many_in c.in_ok-removal.removal.place)
    c.in_ok-removal.ensures.others c.in_ok-removal.ensures.births c.promise.new.self c.in-Err.ensures.err
