-- What the definitions see of the options of an overlay, which code keeps as parts of their text.
use Rattle.std.specs.Borrow.{Bor}
use Rattle.std.specs.Prelude.{List, None, Option, Some, [], ℕ}
use Rattle.vt_spec.specs.Language.Script.{OptionItem as ItemMeant}
use Rattle.vt_spec.specs.Language.Script.OptionItem.{LowerItem, OffItem, UpperItem, WorkItem}
use Rattle.vt_spec.specs.PathText.{parts}
use Rattle.vt_options.specs.declared.options.OptionItem.{OptionItem}
use Rattle.vt_options.specs.declared.options.OptionItem.TheVariants.{Lowers, Off, Upper, Work}

-- the parts of a text, if there is one
abbrev pub parts_in : ℕ → Option (Bor (List ℕ)) → List (List ℕ)
parts_in separator None = []
parts_in separator (Some text) = parts separator text.now

-- one option
abbrev pub item_of : OptionItem → ItemMeant
item_of (Lowers paths) = LowerItem (parts 58 paths.now)
item_of (Upper path) = UpperItem path.now
item_of (Work path) = WorkItem path.now
item_of Off = OffItem
