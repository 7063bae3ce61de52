use Rattle.std.proofs.Common.{None, Some, ap, arith, rules, subst, sym, ◌≡◌, ◌≢◌, ◌∙◌, length, slice_get}
use Rattle.vt_spec.proofs.Common.{IsDirectory, led}
use Rattle.vt_overlay.proofs.BirthsFound.{Birthplace, files, inode_number_is, is_shown, its_parent, no_inode, no_layer, no_names, no_way, not_its_parent, object, other_rank, shown_elsewhere, some_names, start, way_of_root}
use Rattle.vt_overlay.proofs.overlays.Overlay.way_below.Goals as goal

pub returns-in_err-lower : goal.returns-in_err-lower
returns-in_err-lower c =
    let trees = c.args.trees.now in
    let overlay = c.args.self.now in
    let b : Birthplace c.args.trees.now c.args.self.now = record {
      are = c.requires.layers;
      few = c.requires.few;
      place = c.args.layer;
      directory = c.args.directory;
      rank = c.args.rank;
      slot = c.args.slot;
      place_small = let h = c.ranges.layer.fits in omega (arith, h);
      directory_small = let h = c.ranges.directory.fits in omega (arith, h);
      slot_small = let h = c.ranges.slot.fits in omega (arith, h);
    } in
    c.from_residual.ensures ∙ no_layer trees overlay b (sym c.layer_at.ensures ∙ c.in_err-lower.was)

pub returns-then-rank-ne0 : goal.returns-then-rank-ne0
returns-then-rank-ne0 c =
    let trees = c.args.trees.now in
    let overlay = c.args.self.now in
    let b : Birthplace c.args.trees.now c.args.self.now = record {
      are = c.requires.layers;
      few = c.requires.few;
      place = c.args.layer;
      directory = c.args.directory;
      rank = c.args.rank;
      slot = c.args.slot;
      place_small = let h = c.ranges.layer.fits in omega (arith, h);
      directory_small = let h = c.ranges.directory.fits in omega (arith, h);
      slot_small = let h = c.ranges.slot.fits in omega (arith, h);
    } in
    let lower = c.in_ok-lower.lower in
    let layer : slice_get overlay.lowers c.args.layer ≡ Some lower = sym c.layer_at.ensures ∙ c.in_ok-lower.was in
    let some : c.args.rank ≢ 0 = search rules in
    other_rank trees overlay b lower layer some

pub returns-in_err-parent_slot : goal.returns-in_err-parent_slot
returns-in_err-parent_slot c =
    let trees = c.args.trees.now in
    let overlay = c.args.self.now in
    let b : Birthplace c.args.trees.now c.args.self.now = record {
      are = c.requires.layers;
      few = c.requires.few;
      place = c.args.layer;
      directory = c.args.directory;
      rank = c.args.rank;
      slot = c.args.slot;
      place_small = let h = c.ranges.layer.fits in omega (arith, h);
      directory_small = let h = c.ranges.directory.fits in omega (arith, h);
      slot_small = let h = c.ranges.slot.fits in omega (arith, h);
    } in
    let lower = c.in_ok-lower.lower in
    let layer : slice_get overlay.lowers c.args.layer ≡ Some lower = sym c.layer_at.ensures ∙ c.in_ok-lower.was in
    c.from_residual-in_err-parent_slot.ensures
    ∙ no_inode trees overlay b lower layer c.inode_in-inode.result c.inode_in-inode.ensures.is c.parent_slot.result
    c.parent_slot.ensures c.in_err-parent_slot.was

pub returns-then-branch-directory : goal.returns-then-branch-directory
returns-then-branch-directory c =
    let trees = c.args.trees.now in
    let overlay = c.args.self.now in
    let b : Birthplace c.args.trees.now c.args.self.now = record {
      are = c.requires.layers;
      few = c.requires.few;
      place = c.args.layer;
      directory = c.args.directory;
      rank = c.args.rank;
      slot = c.args.slot;
      place_small = let h = c.ranges.layer.fits in omega (arith, h);
      directory_small = let h = c.ranges.directory.fits in omega (arith, h);
      slot_small = let h = c.ranges.slot.fits in omega (arith, h);
    } in
    let lower = c.in_ok-lower.lower in
    let layer : slice_get overlay.lowers c.args.layer ≡ Some lower = sym c.layer_at.ensures ∙ c.in_ok-lower.was in
    let other : c.in_ok-parent_slot.field-0 ≢ c.args.directory = search rules in
    not_its_parent trees overlay b lower layer c.inode_in-inode.result c.inode_in-inode.ensures.is c.parent_slot.result
    c.parent_slot.ensures c.in_ok-parent_slot.field-0 c.in_ok-parent_slot.was other

pub way_down-requires-clause-tree : goal.way_down-requires-clause-tree
way_down-requires-clause-tree c =
    (c.requires.layers c.args.layer c.in_ok-lower.lower (sym c.layer_at.ensures ∙ c.in_ok-lower.was)).tree

pub returns-in_err-way : goal.returns-in_err-way
returns-in_err-way c =
    let trees = c.args.trees.now in
    let overlay = c.args.self.now in
    let b : Birthplace c.args.trees.now c.args.self.now = record {
      are = c.requires.layers;
      few = c.requires.few;
      place = c.args.layer;
      directory = c.args.directory;
      rank = c.args.rank;
      slot = c.args.slot;
      place_small = let h = c.ranges.layer.fits in omega (arith, h);
      directory_small = let h = c.ranges.directory.fits in omega (arith, h);
      slot_small = let h = c.ranges.slot.fits in omega (arith, h);
    } in
    let lower = c.in_ok-lower.lower in
    let layer : slice_get overlay.lowers c.args.layer ≡ Some lower = sym c.layer_at.ensures ∙ c.in_ok-lower.was in
    let number = inode_number_is trees overlay b lower layer c.inode_in-inode.result c.inode_in-inode.ensures.is in
    let none : c.way_down.result ≡ None = c.in_err-way.was in
    c.from_residual-in_err-way.ensures ∙ no_way trees overlay b lower layer (λ is path leads.
    c.way_down.ensures.nowhere none (subst (IsDirectory (files trees overlay b lower layer)) (sym number) is) path
    (leads ∙ ap Some (sym number)))

pub returns-then-len-eq0 : goal.returns-then-len-eq0
returns-then-len-eq0 c =
    let trees = c.args.trees.now in
    let overlay = c.args.self.now in
    let b : Birthplace c.args.trees.now c.args.self.now = record {
      are = c.requires.layers;
      few = c.requires.few;
      place = c.args.layer;
      directory = c.args.directory;
      rank = c.args.rank;
      slot = c.args.slot;
      place_small = let h = c.ranges.layer.fits in omega (arith, h);
      directory_small = let h = c.ranges.directory.fits in omega (arith, h);
      slot_small = let h = c.ranges.slot.fits in omega (arith, h);
    } in
    let lower = c.in_ok-lower.lower in
    let layer : slice_get overlay.lowers c.args.layer ≡ Some lower = sym c.layer_at.ensures ∙ c.in_ok-lower.was in
    let way = c.in_ok-way.way in
    let number = inode_number_is trees overlay b lower layer c.inode_in-inode.result c.inode_in-inode.ensures.is in
    let leads : led (files trees overlay b lower layer) (start trees overlay b lower layer) way
    ≡ Some (object trees overlay b lower layer) = c.in_ok-way.ensures.leads ∙ ap Some number in
    let is : IsDirectory (files trees overlay b lower layer) (object trees overlay b lower layer) =
    subst (IsDirectory (files trees overlay b lower layer)) number c.in_ok-way.ensures.directory in
    let none : length way ≡ 0 = search rules in
    way_of_root trees overlay b lower layer way leads is (no_names way none)

pub returns-then-not-shows_in : goal.returns-then-not-shows_in
returns-then-not-shows_in c =
    let trees = c.args.trees.now in
    let overlay = c.args.self.now in
    let b : Birthplace c.args.trees.now c.args.self.now = record {
      are = c.requires.layers;
      few = c.requires.few;
      place = c.args.layer;
      directory = c.args.directory;
      rank = c.args.rank;
      slot = c.args.slot;
      place_small = let h = c.ranges.layer.fits in omega (arith, h);
      directory_small = let h = c.ranges.directory.fits in omega (arith, h);
      slot_small = let h = c.ranges.slot.fits in omega (arith, h);
    } in
    let lower = c.in_ok-lower.lower in
    let layer : slice_get overlay.lowers c.args.layer ≡ Some lower = sym c.layer_at.ensures ∙ c.in_ok-lower.was in
    let way = c.in_ok-way.way in
    let number = inode_number_is trees overlay b lower layer c.inode_in-inode.result c.inode_in-inode.ensures.is in
    let leads : led (files trees overlay b lower layer) (start trees overlay b lower layer) way
    ≡ Some (object trees overlay b lower layer) = c.in_ok-way.ensures.leads ∙ ap Some number in
    let is : IsDirectory (files trees overlay b lower layer) (object trees overlay b lower layer) =
    subst (IsDirectory (files trees overlay b lower layer)) number c.in_ok-way.ensures.directory in
    shown_elsewhere trees overlay b lower layer way leads is (sym c.shows_in.ensures ∙ c.if-not-shows_in.true)

pub returns : goal.returns
returns c =
    let trees = c.args.trees.now in
    let overlay = c.args.self.now in
    let b : Birthplace c.args.trees.now c.args.self.now = record {
      are = c.requires.layers;
      few = c.requires.few;
      place = c.args.layer;
      directory = c.args.directory;
      rank = c.args.rank;
      slot = c.args.slot;
      place_small = let h = c.ranges.layer.fits in omega (arith, h);
      directory_small = let h = c.ranges.directory.fits in omega (arith, h);
      slot_small = let h = c.ranges.slot.fits in omega (arith, h);
    } in
    let lower = c.in_ok-lower.lower in
    let layer : slice_get overlay.lowers c.args.layer ≡ Some lower = sym c.layer_at.ensures ∙ c.in_ok-lower.was in
    let way = c.in_ok-way.way in
    let number = inode_number_is trees overlay b lower layer c.inode_in-inode.result c.inode_in-inode.ensures.is in
    let leads : led (files trees overlay b lower layer) (start trees overlay b lower layer) way
    ≡ Some (object trees overlay b lower layer) = c.in_ok-way.ensures.leads ∙ ap Some number in
    let is : IsDirectory (files trees overlay b lower layer) (object trees overlay b lower layer) =
    subst (IsDirectory (files trees overlay b lower layer)) number c.in_ok-way.ensures.directory in
    let some : length way ≢ 0 = search rules in
    let none : c.args.rank ≡ 0 = search rules in
    let same : c.in_ok-parent_slot.field-0 ≡ c.args.directory = search rules in
    let up =
    its_parent trees overlay b lower layer c.inode_in-inode.result c.inode_in-inode.ensures.is c.parent_slot.result
    c.parent_slot.ensures (c.in_ok-parent_slot.was ∙ ap Some same) in
    is_shown trees overlay b lower layer way leads is none (some_names way some) up
    (sym c.shows_in.ensures ∙ c.if-not-shows_in.false)
