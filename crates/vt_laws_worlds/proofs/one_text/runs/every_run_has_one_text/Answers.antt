use Rattle.vt_laws_worlds.proofs.one_text.runs.RunsTold.{every_program_has_one_text, every_run_has_one_text}
use Rattle.vt_laws_worlds.proofs.one_text.runs.every_run_has_one_text.Goals as goal

pub returns-clause-runs : goal.returns-clause-runs
returns-clause-runs c = every_run_has_one_text

pub returns-clause-programs : goal.returns-clause-programs
returns-clause-programs c = every_program_has_one_text
