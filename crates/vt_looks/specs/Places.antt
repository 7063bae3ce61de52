-- What the definitions see of the last word of a path, and the place of a name that exists as a place.
use Rattle.std.specs.Prelude.{Some}
use Rattle.vt_spec.specs.Machine.Walking.{LastWord as WordMeant}
use Rattle.vt_spec.specs.Machine.Walking.LastWord.{Dot as MeansDot, DotDot as MeansDotDot, Named as MeansNamed, NoWord as MeansNoWord}
use Rattle.vt_looks.specs.declared.places.LastWord.{LastWord}
use Rattle.vt_looks.specs.declared.places.LastWord.TheVariants.{Dot, DotDot, Named, NoWord}
use Rattle.vt_looks.specs.declared.places.OldPlace.{OldPlace}
use Rattle.vt_looks.specs.declared.places.Place.{Place}

abbrev pub last_of : LastWord → WordMeant
last_of NoWord = MeansNoWord
last_of Dot = MeansDot
last_of DotDot = MeansDotDot
last_of (Named name) = MeansNamed name.now

-- a place whose name exists, as a place
abbrev pub as_place : OldPlace → Place
as_place old = record { parent = old.parent; last = old.last; object = Some old.object; slash = old.slash }
