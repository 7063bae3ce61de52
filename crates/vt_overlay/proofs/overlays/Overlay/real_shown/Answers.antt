use Rattle.std.proofs.Common.{ap, option_map, subst, sym, ◌≡◌, ◌∙◌, slice_get, IsSome}
use Rattle.vt_location.proofs.NodeLemmas.{small_parts}
use Rattle.vt_location.specs.Births.{IsSmallBirth}
use Rattle.vt_location.specs.Locations.{number_of}
use Rattle.vt_overlay.specs.Merge.LayerValue.{seen_of}
use Rattle.vt_overlay.specs.MergedTree.{born_below, born_here, object_shown, real_in}
use Rattle.vt_overlay.proofs.BirthsFound.{Birthplace}
use Rattle.vt_overlay.proofs.ObjectsPlaced.{in_its_layer, real_below, real_here}
use Rattle.vt_overlay.proofs.overlays.Overlay.real_shown.Goals as goal

pub returns-in-Here-clause-value : goal.returns-in-Here-clause-value
returns-in-Here-clause-value c = λ trees are some.
    let overlay = c.args.self.now in
    let small = small_parts c.args.node c.real_in.ensures.small in
    let same : number_of (born_here overlay.number c.args.node.slot) ≡ number_of c.args.node = (λ i. number_of (record {
      filesystem = (sym c.requires.own) i;
      slot = c.args.node.slot;
      birth = (sym c.in-Here.is) i;
    })) in
    ap (option_map seen_of) c.real_in.ensures.value
    ∙ real_here trees overlay are c.requires.few c.args.node.slot small.slot
    (subst (λ n. IsSome (object_shown trees overlay n)) (sym same) some) ∙ ap (object_shown trees overlay) same

pub returns-in-Here-clause-tree : goal.returns-in-Here-clause-tree
returns-in-Here-clause-tree c =
    in_its_layer c.args.self.now.lowers 0 c.args.node.slot c.real_in.result c.real_in.ensures.value

pub returns-in-Below-clause-value : goal.returns-in-Below-clause-value
returns-in-Below-clause-value c = λ trees are some.
    let overlay = c.args.self.now in
    let small = small_parts c.args.node c.real_in-in-Below.ensures.small in
    let birth = subst IsSmallBirth c.in-Below.is small.birth in
    let place = c.from.ensures in
    let b : Birthplace trees overlay = record {
      are = are;
      few = c.requires.few;
      place = c.in-Below.layer;
      directory = c.in-Below.directory;
      rank = c.in-Below.rank;
      slot = c.args.node.slot;
      place_small = birth.1;
      directory_small = birth.0;
      slot_small = small.slot;
    } in
    let same : number_of (born_below overlay.number c.in-Below.layer c.in-Below.directory c.in-Below.rank
    c.args.node.slot) ≡ number_of c.args.node = (λ i. number_of (record {
      filesystem = (sym c.requires.own) i;
      slot = c.args.node.slot;
      birth = (sym c.in-Below.is) i;
    })) in
    ap (option_map seen_of) (c.real_in-in-Below.ensures.value
    ∙ ap (λ n. option_map (real_in n c.args.node.slot) (slice_get overlay.lowers n)) place)
    ∙ real_below trees overlay b (subst (λ n. IsSome (object_shown trees overlay n)) (sym same) some)
    ∙ ap (object_shown trees overlay) same

pub returns-in-Below-clause-tree : goal.returns-in-Below-clause-tree
returns-in-Below-clause-tree c =
    in_its_layer c.args.self.now.lowers c.from.result c.args.node.slot c.real_in-in-Below.result
    c.real_in-in-Below.ensures.value
