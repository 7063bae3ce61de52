use Rattle.vt_laws_later_calls.proofs.limits.full_namespace.FilledNamespace.{fills_its_namespace, full_namespace_refuses, last_of_many_mounts_is_refused}
use Rattle.vt_laws_later_calls.proofs.limits.full_namespace.a_namespace_is_filled_line_by_line.Goals as goal

pub returns-clause-within : goal.returns-clause-within
returns-clause-within c = fills_its_namespace

pub returns-clause-beyond : goal.returns-clause-beyond
returns-clause-beyond c = full_namespace_refuses

pub returns-clause-last : goal.returns-clause-last
returns-clause-last c = last_of_many_mounts_is_refused
