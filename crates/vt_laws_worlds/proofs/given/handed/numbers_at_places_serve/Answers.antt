use Rattle.vt_laws_worlds.proofs.given.handed.Places.{numbers_at_places_serve, numbers_at_places_serve_named}
use Rattle.vt_laws_worlds.proofs.given.handed.numbers_at_places_serve.Goals as goal

pub returns-clause-serve : goal.returns-clause-serve
returns-clause-serve c = numbers_at_places_serve

pub returns-clause-named : goal.returns-clause-named
returns-clause-named c = numbers_at_places_serve_named
