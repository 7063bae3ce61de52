-- The paths that each call walks, word by word (profile).
use Rattle.std.specs.Prelude.{List, [], map, nat_eq, option_to_list, reverse, ℕ, ◌++◌, ◌≡◌, ◌∷◌}
use Rattle.vt_spec.specs.Language.Calls.{Call}
use Rattle.vt_spec.specs.Machine.Judging.{Aim as Leads, Judging, NameAim, judging, walk_to, walk_to_name}
use Rattle.vt_spec.specs.Machine.Judging.Aim.{ASymlink, AnObject}
use Rattle.vt_spec.specs.Machine.Judging.Judging.{Layers, Names, Needs, Walks, Words as LastWords}
use Rattle.vt_spec.specs.Machine.Judging.NameAim.{AFile}
use Rattle.vt_spec.specs.Machine.Looks.{Looks}
use Rattle.vt_spec.specs.Machine.Rules.Mounting.{work_walked}
use Rattle.vt_spec.specs.Machine.Turns.{Route, here_or_root, place_or_root, routes}
use Rattle.vt_spec.specs.Machine.World.{Task}
use Rattle.vt_laws_turns.specs.Walks.ByWords.{Aim, steps_of, whole_walk}
use Rattle.vt_laws_turns.specs.Walks.ByWords.Aim.{File, InDirectory, Object, Symlink, Words}

-- a path that a call walks, and what it looks for there
pub record Way : Type 0 where
  pub aim : Aim
  pub path : List ℕ

abbrev pub way : Aim → List ℕ → Way
way aim path = record { aim = aim; path = path }

-- what the walk of a path looks for
abbrev pub aim_of : Leads → Aim
aim_of AnObject = Object
aim_of ASymlink = Symlink
aim_of leads = Words

-- and that of a path whose last word is a name
abbrev pub name_aim_of : NameAim → Aim
name_aim_of AFile = File
name_aim_of name = InDirectory

module _ (looks : Looks ℕ) (task : Task ℕ) where
  -- the paths that are asked, in the order in which turns walk them
  abbrev pub ways_of : Judging ℕ → List Way
  ways_of (Needs rules next) = ways_of next
  ways_of (LastWords rules next) = ways_of next
  ways_of (Walks aim path next) =
      way (aim_of aim) path ∷ ways_of (next (here_or_root nat_eq looks task (walk_to nat_eq looks task aim path)))
  ways_of (Names aim path next) =
      way (name_aim_of aim) path
      ∷ ways_of (next (place_or_root nat_eq looks task (walk_to_name nat_eq looks task aim path)))
  ways_of (Layers words next) =
      map (way Words) (words.lowers ++ option_to_list words.upper ++ option_to_list (work_walked words))
  ways_of asked = []

  -- the paths of a call
  abbrev pub ways : Call → List Way
  ways call = ways_of (judging nat_eq looks task call)

-- The words that turns count of a call, and the filesystems that they meet, are those of these walks.
abbrev pub RoutesAreWalks : Type 0
RoutesAreWalks =
    (looks : Looks ℕ) (task : Task ℕ) (call : Call)
    → map (λ (route : Route ℕ). route.steps) (routes nat_eq looks task call)
    ≡ map (λ (w : Way). reverse (steps_of (whole_walk nat_eq w.aim looks task w.path))) (ways looks task call)
