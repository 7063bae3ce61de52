use Rattle.vt_laws_schedules.proofs.one_text.SchedulesTold.{every_programs_schedule_has_one_text, every_schedule_has_one_text, whole_schedules_are_told}
use Rattle.vt_laws_schedules.proofs.one_text.every_schedule_has_one_text.Goals as goal

pub returns-clause-schedules : goal.returns-clause-schedules
returns-clause-schedules c = every_schedule_has_one_text

pub returns-clause-programs : goal.returns-clause-programs
returns-clause-programs c = every_programs_schedule_has_one_text

pub returns-clause-whole : goal.returns-clause-whole
returns-clause-whole c = whole_schedules_are_told
