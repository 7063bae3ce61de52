use Rattle.std.proofs.Common.{rules, List, None, Option, Some, is_none, nat_eq, sym, ℕ, ◌≡◌, ◌∙◌}
use Rattle.vt_spec.proofs.Common.{is_removed}
use Rattle.vt_location.specs.Locations.{number_of}
use Rattle.vt_overlay.specs.MergedTree.{longest, plain_world}
use Rattle.vt_overlay.proofs.DirectoriesUnder.{some_number}
use Rattle.vt_upper_overlay.specs.MergedAbove.{directory_path, held, merged_above, real_number, upper_seen}
use Rattle.vt_upper_overlay.proofs.Named.{is_naming}
use Rattle.vt_upper_overlay.proofs.Shown.{IsLooked, looked_by}
use Rattle.vt_upper_overlay.proofs.Ways.{not_removed, removed}
use Rattle.vt_upper_overlay.proofs.overlay.UpperOverlay.is_removed.Goals as goal

pub returns : goal.returns
returns c =
    let is : c.is_none.result ≡ is_none c.way.result = search rules in
    is ∙ by (looked_by c.args.trees.now c.args.self.now c.args.directory c.requires.standing c.way.ensures.small
    c.requires.own) c.way.result c.way.ensures.value
  where
    by : IsLooked c.args.trees.now c.args.self.now → (o : Option (List (List ℕ)))
        → o ≡ directory_path c.args.trees.now c.args.self.now (number_of c.args.directory)
        → is_none o ≡ is_removed nat_eq (merged_above c.args.trees.now c.args.self.now) (number_of c.args.directory)
    by looked None e = removed (real_number c.args.trees.now c.args.self.now) (held c.args.trees.now c.args.self.now)
        (longest c.args.trees.now c.args.self.now.layers.lowers) (plain_world c.args.trees.now)
        (upper_seen c.args.self.now) (is_naming c.args.trees.now c.args.self.now looked) (number_of c.args.directory)
        (some_number c.args.directory) (sym e)
    by looked (Some path) e = not_removed (real_number c.args.trees.now c.args.self.now)
        (held c.args.trees.now c.args.self.now) (longest c.args.trees.now c.args.self.now.layers.lowers)
        (plain_world c.args.trees.now) (upper_seen c.args.self.now) (is_naming c.args.trees.now c.args.self.now looked)
        (number_of c.args.directory) path (sym e)
