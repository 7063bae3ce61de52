use Rattle.vt_laws_later_calls.proofs.OpenedNew.{create_then_pread, exclusive_then_pread, open_or_create_then_pread, open_then_pread}
use Rattle.vt_laws_later_calls.proofs.Through.{pwrite_then_pread}
use Rattle.vt_laws_later_calls.proofs.later.later_calls_see_earlier_ones.Goals as goal

pub returns-clause-written_through : goal.returns-clause-written_through
returns-clause-written_through c = pwrite_then_pread

pub returns-clause-opened : goal.returns-clause-opened
returns-clause-opened c = open_then_pread

pub returns-clause-opened_or_created : goal.returns-clause-opened_or_created
returns-clause-opened_or_created c = open_or_create_then_pread

pub returns-clause-created : goal.returns-clause-created
returns-clause-created c = create_then_pread

pub returns-clause-created_alone : goal.returns-clause-created_alone
returns-clause-created_alone c = exclusive_then_pread
