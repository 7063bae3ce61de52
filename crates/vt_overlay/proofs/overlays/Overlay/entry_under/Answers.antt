use Rattle.std.proofs.Common.{◌++◌, ◌∷◌, [], ap, length, subst, sym, ◌≡◌, ◌≤◌, ◌<◌, ◌∙◌, IfSome}
use Rattle.vt_spec.proofs.Common.{none_is_some, shown}
use Rattle.vt_overlay.specs.Merge.EntryValue.{IsFirstEntry}
use Rattle.vt_overlay.specs.Merge.LayerValue.{layers_of}
use Rattle.vt_overlay.specs.declared.merge.layers.MergedDirectory.{MergedDirectory}
use Rattle.vt_overlay.specs.MergedTree.{OverlayValue}
use Rattle.vt_overlay.proofs.EntriesShown.{beside, decides_here, first_is_beside, first_is_within, is_within, its_layer, nothing_under, only_way}
use Rattle.vt_overlay.proofs.overlays.Overlay.entry_under.Goals as goal

pub returns-in-Some-clause-first : goal.returns-in-Some-clause-first
returns-in-Some-clause-first c = λ path shows.
    let lower = its_layer c.args.trees.now c.args.self.now c.requires.layers c.args.real c.requires.tree in
    decides_here c.args.trees.now c.args.self.now c.requires.layers c.args.real c.requires.tree lower.0 lower.1 path
    c.args.name.now shows c.in-Some.found c.in-Some.ensures.above c.in-Some.ensures.entry

pub returns-in-Some-clause-place : goal.returns-in-Some-clause-place
returns-in-Some-clause-place c =
    subst (λ (top : MergedDirectory). top.layer < length c.args.self.now.lowers) (sym c.in-Some.ensures.above)
    (is_within c.args.trees.now c.args.self.now c.requires.layers c.args.real c.requires.tree)

pub returns-in-Some-clause-beside : goal.returns-in-Some-clause-beside
returns-in-Some-clause-beside c = c.in-Some.ensures.entry.filesystem

pub returns-in_err-lower-clause-nothing : goal.returns-in_err-lower-clause-nothing
returns-in_err-lower-clause-nothing c = λ path shows none.
    let lower = its_layer c.args.trees.now c.args.self.now c.requires.layers c.args.real c.requires.tree in
    none_is_some lower.0 (sym (sym c.layer_in.ensures ∙ c.in_err-lower.was) ∙ lower.1)

pub way_down-requires-clause-tree : goal.way_down-requires-clause-tree
way_down-requires-clause-tree c =
    (c.requires.layers c.args.real.layer c.in_ok-lower.lower (sym c.layer_in.ensures ∙ c.in_ok-lower.was)).tree

pub way_down-requires-clause-one_filesystem : goal.way_down-requires-clause-one_filesystem
way_down-requires-clause-one_filesystem c =
    beside c.args.trees.now c.args.self.now c.requires.layers c.args.real c.requires.tree c.in_ok-lower.lower
    (sym c.layer_in.ensures ∙ c.in_ok-lower.was)

pub returns-in_err-way-clause-nothing : goal.returns-in_err-way-clause-nothing
returns-in_err-way-clause-nothing c = λ path shows none.
    nothing_under c.args.trees.now c.args.self.now c.requires.layers c.args.real c.requires.tree c.in_ok-lower.lower
    (sym c.layer_in.ensures ∙ c.in_ok-lower.was) path c.args.name.now shows
    (c.way_down.ensures.nowhere c.in_err-way.was)

pub first_entry-requires : goal.first_entry-requires
first_entry-requires c =
    let layers : c.as_slice.result.now ≡ c.args.self.now.lowers =
    c.as_slice.ensures.value ∙ ap (λ (overlay : OverlayValue). overlay.lowers) c.self.view_is in
    subst (λ l. length l ≤ 129) (sym layers) c.requires.few

pub returns-clause-first : goal.returns-clause-first
returns-clause-first c = λ path shows.
    let trees = c.args.trees.now in
    let layers : c.as_slice.result.now ≡ c.args.self.now.lowers =
    c.as_slice.ensures.value ∙ ap (λ (overlay : OverlayValue). overlay.lowers) c.self.view_is in
    let way : c.in_ok-way.way ≡ path =
    only_way trees c.args.self.now c.requires.layers c.args.real c.requires.tree c.in_ok-lower.lower
    (sym c.layer_in.ensures ∙ c.in_ok-lower.was) path c.args.name.now shows c.in_ok-way.way
    c.in_ok-way.ensures.leads c.in_ok-way.ensures.directory in
    subst (λ p. IfSome c.first_entry.result (IsFirstEntry trees c.args.self.now.lowers p c.args.name.now)) way
    (subst (λ l. IfSome c.first_entry.result (IsFirstEntry trees l c.in_ok-way.way c.args.name.now)) layers
    c.first_entry.ensures.first)

pub returns-clause-nothing : goal.returns-clause-nothing
returns-clause-nothing c = λ path shows none.
    let trees = c.args.trees.now in
    let layers : c.as_slice.result.now ≡ c.args.self.now.lowers =
    c.as_slice.ensures.value ∙ ap (λ (overlay : OverlayValue). overlay.lowers) c.self.view_is in
    let way : c.in_ok-way.way ≡ path =
    only_way trees c.args.self.now c.requires.layers c.args.real c.requires.tree c.in_ok-lower.lower
    (sym c.layer_in.ensures ∙ c.in_ok-lower.was) path c.args.name.now shows c.in_ok-way.way
    c.in_ok-way.ensures.leads c.in_ok-way.ensures.directory in
    sym (λ i. shown (layers_of trees (layers i)) (way i ++ c.args.name.now ∷ [])) ∙ c.first_entry.ensures.nothing none

pub returns-clause-place : goal.returns-clause-place
returns-clause-place c =
    let layers : c.as_slice.result.now ≡ c.args.self.now.lowers =
    c.as_slice.ensures.value ∙ ap (λ (overlay : OverlayValue). overlay.lowers) c.self.view_is in
    first_is_within c.args.trees.now c.args.self.now.lowers c.in_ok-way.way c.args.name.now c.first_entry.result
    (subst (λ l. IfSome c.first_entry.result (IsFirstEntry c.args.trees.now l c.in_ok-way.way c.args.name.now)) layers
    c.first_entry.ensures.first)

pub returns-clause-beside : goal.returns-clause-beside
returns-clause-beside c =
    first_is_beside c.args.trees.now c.as_slice.result.now c.in_ok-way.way c.args.name.now c.first_entry.result
    c.first_entry.ensures.first
