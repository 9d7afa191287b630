use Rattle.iris_json.proofs.LineReading.{line_found, line_only, line_refused}
use Rattle.iris_json.proofs.line.read_line.Goals as goal

pub returns-in-Some-clause-found : goal.returns-in-Some-clause-found
returns-in-Some-clause-found c = line_found _ _ _ _ c.in_ok-value.ensures.found c.in-Some.ensures c.line_of.ensures.found

pub returns-in-Some-clause-only : goal.returns-in-Some-clause-only
returns-in-Some-clause-only c = line_only _ _
    (line_found _ _ _ _ c.in_ok-value.ensures.found c.in-Some.ensures c.line_of.ensures.found)
    (line_refused _ _ _ _ c.in_ok-value.ensures.found c.in-Some.ensures c.line_of.ensures.refused)

pub returns-in-Some-clause-refused : goal.returns-in-Some-clause-refused
returns-in-Some-clause-refused c = line_refused _ _ _ _ c.in_ok-value.ensures.found c.in-Some.ensures c.line_of.ensures.refused
