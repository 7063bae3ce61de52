-- The numbers that a call is handed by a program that counts mounts, groups, filesystems and namespaces by one counter,
-- and gives an inode the number of its place.
use Rattle.std.specs.Prelude.{Bool, List, if◌then◌else◌, nat_eq, nat_le, nat_lt, not, ℕ, ◌%◌, ◌&&◌, ◌*◌, ◌+◌, ◌-◌, ◌/◌, ◌==◌, ◌||◌, ◌≡◌}
use Rattle.vt_laws_rules.specs.Numbers.{Allotment, KeepsTo, Lot, WorldNamed}
use Rattle.vt_laws_rules.specs.Numbers.Lot.{Kept, LeftOver, New}
use Rattle.vt_laws_trees.specs.Runs.Runs.{OpensInHand, ServesInHand, TellsAlike}
use Rattle.vt_spec.specs.Language.Script.{Grammar, lines_of}
use Rattle.vt_spec.specs.Lists.{Fresh}
use Rattle.vt_spec.specs.Machine.Run.{text_of}
use Rattle.vt_spec.specs.Machine.World.{World, opening}
use Rattle.vt_laws_trees.specs.Trees.Calls.{HasNoOverlays}

-- numbers `4·c + 3` are never given out
abbrev pub never_given : Fresh ℕ
never_given k = 4 * k + 3

abbrev pub may_be_given : ℕ → Bool
may_be_given number = not (number % 4 == 3)

-- Counts from the next one on: `4·c + 1` for the count `c`.
abbrev pub counts_from : ℕ → Fresh ℕ
counts_from next k = 4 * (next + k) + 1

-- the same, with the number of an inode in place of one of them
abbrev pub handed_from : ℕ → ℕ → ℕ → Fresh ℕ
handed_from next place inode k = if k == place then inode else counts_from next k

-- What becomes of each number where counts are handed in: what is neither counted from the next on nor never given out
-- is kept. Where an inode's number is handed in too, the count that it stands for is kept.
abbrev pub is_counted_from : ℕ → ℕ → Bool
is_counted_from next number = number % 4 == 1 && nat_le next (number / 4)

abbrev pub lot_of_counts : ℕ → ℕ → Lot
lot_of_counts next number =
    if number % 4 == 3 then LeftOver (number / 4)
    else if is_counted_from next number then New (number / 4 - next)
    else Kept

abbrev pub lot_from : ℕ → ℕ → ℕ → ℕ → Lot
lot_from next place inode number =
    if number == inode then New place
    else if number == counts_from next place then Kept
    else lot_of_counts next number

-- Both are supplies with room; the inode's number is even.
abbrev pub CountsAreAllotted : Type 0
CountsAreAllotted =
    (next : ℕ)
    → (allotment : Allotment) × (allotment.lot ≡ lot_of_counts next)
    × (allotment.new ≡ counts_from next) × (allotment.left_over ≡ never_given)

abbrev pub NumbersAreAllotted : Type 0
NumbersAreAllotted =
    (next place inode : ℕ) → inode % 2 ≡ 0
    → (allotment : Allotment) × (allotment.lot ≡ lot_from next place inode)
    × (allotment.new ≡ handed_from next place inode) × (allotment.left_over ≡ never_given)

-- the even numbers, and those counted before the next one; and without the number of an inode
abbrev pub is_counted_before : ℕ → ℕ → Bool
is_counted_before next number = number % 2 == 0 || (number % 4 == 1 && nat_lt (number / 4) next)

abbrev pub is_named_before : ℕ → ℕ → ℕ → Bool
is_named_before next inode number = is_counted_before next number && not (number == inode)

-- They serve where the world keeps to the numbers before: each count from the next on is a new one, and so is the
-- inode.
abbrev pub CountsServe : Type 0
CountsServe =
    (next : ℕ) (world : World ℕ) → KeepsTo (is_counted_before next) world
    → (allotment : Allotment) × (allotment.new ≡ counts_from next) × ServesInHand may_be_given world allotment

abbrev pub AllottedNumbersServe : Type 0
AllottedNumbersServe =
    (next place inode : ℕ) → inode % 2 ≡ 0 → (world : World ℕ) → KeepsTo (is_named_before next inode) world
    → (allotment : Allotment) × (allotment.new ≡ handed_from next place inode)
    × ServesInHand may_be_given world allotment

-- So they do where the world has no other numbers anywhere.
abbrev pub CountsServeNamed : Type 0
CountsServeNamed =
    (next : ℕ) (world : World ℕ) → WorldNamed (is_counted_before next) world
    → (allotment : Allotment) × (allotment.new ≡ counts_from next) × ServesInHand may_be_given world allotment

abbrev pub AllottedNumbersServeNamed : Type 0
AllottedNumbersServeNamed =
    (next place inode : ℕ) → inode % 2 ≡ 0 → (world : World ℕ) → WorldNamed (is_named_before next inode) world
    → (allotment : Allotment) × (allotment.new ≡ handed_from next place inode)
    × ServesInHand may_be_given world allotment

-- A world may open with the first four of such a supply,
abbrev pub AllottedNumbersOpen : Type 0
AllottedNumbersOpen =
    (next place inode : ℕ) → inode % 2 ≡ 0 → OpensInHand may_be_given (handed_from next place inode)

-- and a run of a script without overlays that hands out whatever may be given has the one text.
abbrev pub ProgramsHaveOneText : Type 0
ProgramsHaveOneText =
    (grammar : Grammar) (refused : List Bool) (script text : List ℕ) (fresh : Fresh ℕ)
    → OpensInHand may_be_given fresh → HasNoOverlays grammar (lines_of script)
    → TellsAlike grammar may_be_given (opening nat_eq fresh) 1 (lines_of script) refused text
    → text ≡ text_of grammar refused script
