use Rattle.std.proofs.Common.{ap, ◌∙◌, map}
use Rattle.vt_spec.proofs.Common.{opens_for_writing}
use Rattle.vt_location.specs.Locations.{location_of}
use Rattle.vt_request.specs.Requests.{access_of}
use Rattle.vt_tasks.proofs.OpenLemmas.{files-opened, writes-opened}
use Rattle.vt_tasks.proofs.descriptors.Descriptors.files.Goals as goal

pub returns-clause-locations : goal.returns-clause-locations
returns-clause-locations c = ap (map (λ held. location_of held.location)) (c.as_slice.ensures ∙ c.values.ensures.rest)
    ∙ files-opened c.self.inside.by_number.entries ∙ ap (map (λ d. d.location)) c.self.view_is

pub returns-clause-writes : goal.returns-clause-writes
returns-clause-writes c =
    ap (map (λ held. opens_for_writing (access_of held.access))) (c.as_slice.ensures ∙ c.values.ensures.rest)
    ∙ writes-opened c.self.inside.by_number.entries ∙ ap (map (λ d. d.writes)) c.self.view_is
