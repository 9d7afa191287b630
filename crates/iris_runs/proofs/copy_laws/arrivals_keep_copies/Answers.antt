use Rattle.iris_runs.proofs.ArrivalsRight.{arrival_right}
use Rattle.iris_runs.proofs.copy_laws.arrivals_keep_copies.Goals as goal

pub returns-clause-agent : goal.returns-clause-agent
returns-clause-agent c m kept waiting t turn message at present is right may = (arrival_right m kept waiting t turn message at present is right may).agent

pub returns-clause-steps : goal.returns-clause-steps
returns-clause-steps c m kept waiting t turn message at present is right may = (arrival_right m kept waiting t turn message at present is right may).steps

pub returns-clause-entries : goal.returns-clause-entries
returns-clause-entries c m kept waiting t turn message at present is right may = ((arrival_right m kept waiting t turn message at present is right may).entered, (arrival_right m kept waiting t turn message at present is right may).comes)
