-- What is left to walk where a walk comes to a symlink.
use Rattle.std.specs.Prelude.{ℕ, List, [], ◌∷◌, Option, None, Some, Result, Ok, nat_eq, reverse}
use Rattle.vt_spec.specs.declared.errors.Deny.{Deny}
use Rattle.vt_spec.specs.Errors.{and_then, unless}
use Rattle.vt_spec.specs.Machine.Looks.{Looks}
use Rattle.vt_spec.specs.Machine.Walking.{Here, slash_rules}
use Rattle.vt_spec.specs.Machine.World.{Task}
use Rattle.vt_location.specs.Locations.{location_of}
use Rattle.vt_walk.specs.declared.steps.LinkMet.{LinkMet}
use Rattle.vt_walk.specs.declared.steps.Pending.{Pending}
use Rattle.vt_walk.specs.declared.steps.Reached.{Reached}
use Rattle.vt_walk.specs.PlainWalks.{Follow, followed, words_walked}
use Rattle.vt_walk.specs.WalkValue.{here_of}

-- a symlink is followed, and then the words after it are walked
abbrev pub link_passed : Looks ℕ → Task ℕ → Follow → Here ℕ → Option LinkMet → Result (Here ℕ) Deny
link_passed looks task follow here None = Ok here
link_passed looks task follow here (Some link) =
    and_then (follow (location_of link.directory) here link.text.now) (λ next.
    words_walked looks task follow next (reverse link.behind))

-- how a walk goes on from where it came to
abbrev pub walked_on_from : Looks ℕ → Task ℕ → Follow → Reached → Result (Here ℕ) Deny
walked_on_from looks task follow reached = link_passed looks task follow (here_of reached.here) reached.link

-- Pending texts walked one after another, the innermost first: the words that are left of it, then the check of a slash
-- at its end, and from there the others.
abbrev pub texts_walked : Looks ℕ → Task ℕ → Here ℕ → List Pending → Result (Here ℕ) Deny
texts_walked looks task here [] = Ok here
texts_walked looks task here (pending ∷ others) =
    and_then (words_walked looks task (followed looks task) here (reverse pending.words)) (λ reached.
    unless (slash_rules nat_eq looks pending.text.now reached.location) (texts_walked looks task reached others))
