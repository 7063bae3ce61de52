-- What an example computes through.
use Rattle.vt_spec.specs.Machine.Run.{everything}

-- the definitions that are shut elsewhere
unfoldable pub computed : Unit {0}
unfolding everything
computed = tt
