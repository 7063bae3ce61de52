-- Worlds that are the same but for change numbers, and for the order of the numbers that stand beside trees, are
-- answered alike.
use Rattle.std.specs.Prelude.{false, nat_eq, ℕ, ◌≡◌}
use Rattle.vt_laws_rules.specs.Plain.{IsPlain}
use Rattle.vt_spec.specs.Language.Calls.{Call, Directive, TaskName}
use Rattle.vt_spec.specs.Lists.{Fresh}
use Rattle.vt_spec.specs.Machine.Outcomes.{Outcome}
use Rattle.vt_spec.specs.Machine.Policy.{policy}
use Rattle.vt_spec.specs.Machine.SameWorlds.{SameWorlds}
use Rattle.vt_spec.specs.Machine.Sealed.{directed}
use Rattle.vt_spec.specs.Machine.World.{World}
use Rattle.vt_laws_trees.specs.Trees.Calls.{mounts_overlay}

-- To be the same in that sense is an equivalence,
pub record SamenessIsAnEquivalence : Type 0 where
  pub itself : (world : World ℕ) → SameWorlds world world
  pub back : (one other : World ℕ) → SameWorlds one other → SameWorlds other one
  pub onward : (one other last : World ℕ) → SameWorlds one other → SameWorlds other last → SameWorlds one last

-- and where one world is plain, so is the other.
abbrev pub SameWorldsArePlainAlike : Type 0
SameWorldsArePlainAlike = (one other : World ℕ) → SameWorlds one other → IsPlain one → IsPlain other

-- one answer, and worlds that are the same, and plain
pub record AreAlike (one other : Outcome ℕ) : Type 0 where
  pub answer : one.answer ≡ other.answer
  pub worlds : SameWorlds one.world other.world
  pub plain : IsPlain one.world

-- In two such worlds of plain filesystems each call but the mount of an overlay has one answer, and leaves two such
-- worlds.
abbrev pub SameWorldsAreAnsweredAlike : Type 0
SameWorldsAreAnsweredAlike =
    (one other : World ℕ) → SameWorlds one other → IsPlain one → (fresh : Fresh ℕ) (name : TaskName) (call : Call)
    → mounts_overlay call ≡ false
    → AreAlike (policy nat_eq fresh one name call) (policy nat_eq fresh other name call)

-- So has each directive.
abbrev pub SameWorldsAreDirectedAlike : Type 0
SameWorldsAreDirectedAlike =
    (one other : World ℕ) → SameWorlds one other → IsPlain one → (directive : Directive)
    → AreAlike (directed nat_eq one directive) (directed nat_eq other directive)
