use Rattle.std.proofs.Common.{rules, List, None, Option, Some, is_none, sym, ◌≡◌, ◌∙◌, nat_eq, ℕ}
use Rattle.vt_spec.proofs.Common.{is_removed}
use Rattle.vt_location.specs.Locations.{number_of}
use Rattle.vt_overlay.specs.MergedTree.{directory_path, merged_tree}
use Rattle.vt_overlay.proofs.DirectoriesUnder.{not_removed, removed, some_number}
use Rattle.vt_overlay.proofs.overlays.Overlay.is_removed.Goals as goal

pub returns : goal.returns
returns c =
    let is : c.is_none.result ≡ is_none c.way.result = search rules in is ∙ by c.way.result c.way.ensures
  where
    by : (o : Option (List (List ℕ))) → o ≡ directory_path c.args.trees.now c.args.self.now (number_of c.args.directory)
        → is_none o ≡ is_removed nat_eq (merged_tree c.args.trees.now c.args.self.now) (number_of c.args.directory)
    by None e = removed c.args.trees.now c.args.self.now c.requires.layers c.requires.few (number_of c.args.directory)
        (some_number c.args.directory) (sym e)
    by (Some path) e =
        not_removed c.args.trees.now c.args.self.now c.requires.layers c.requires.few (number_of c.args.directory) path
        (sym e)
