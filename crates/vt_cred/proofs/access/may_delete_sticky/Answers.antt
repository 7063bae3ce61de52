use Rattle.std.proofs.Common.{rules}
use Rattle.vt_spec.proofs.Common.{Decides-at}
use Rattle.vt_spec.specs.Rights.{may_delete_sticky}
use Rattle.vt_cred.proofs.AccessLemmas.{Decides-may_delete_sticky}
use Rattle.vt_cred.proofs.access.may_delete_sticky.Goals as goal

pub returns-then-uid-directory-clause-meaning : goal.returns-then-uid-directory-clause-meaning
returns-then-uid-directory-clause-meaning c =
    let a = c.args in
    Decides-at _ (may_delete_sticky a.cred.now a.directory.now a.object.now) (search rules)
    (Decides-may_delete_sticky a.cred.now a.directory.now a.object.now)

pub returns-else-uid-directory-clause-meaning : goal.returns-else-uid-directory-clause-meaning
returns-else-uid-directory-clause-meaning c =
    let a = c.args in
    Decides-at _ (may_delete_sticky a.cred.now a.directory.now a.object.now) (search rules)
    (Decides-may_delete_sticky a.cred.now a.directory.now a.object.now)
