use Rattle.std.proofs.Common.{◌≡◌, List, ℕ, subst, sym}
use Rattle.std.proofs.lemmas.Result.{err_from_is_err_and}
use Rattle.iris_json.specs.declared.line.Line.{Line}
use Rattle.iris_json.specs.declared.line.Line.TheVariants as lines
use Rattle.iris_json.specs.Lines.{ReadsLine}
use Rattle.iris_cli.specs.declared.event.Event.{Event}
use Rattle.iris_cli.specs.LineSays.{LineSays, PostsQuery}
use Rattle.iris_cli.proofs.Refused.{refused_line}
use Rattle.iris_cli.proofs.event.Event.read.Goals.{in-Query+in_ok-of_query-in-Query, in-Update, in-Audit+in_ok-of_audit-in-Audit, in-Now, in-Settle}
use Rattle.iris_cli.proofs.event.Event.read.Goals as goal

pub returns-in_err-query-clause-refused : goal.returns-in_err-query-clause-refused
returns-in_err-query-clause-refused c =
    let p = err_from_is_err_and c.from_residual.result c.from_residual.ensures.1 in
    rw (p.1, p.2) (refused_line c.args.kinds.now c.args.line.now c.in_err-query.field-0.0 c.in_err-query.ensures.only c.in_err-query.ensures.refused)

-- what a line says is said by what equals it
said : (kinds : List (List ℕ)) (line : List ℕ) (event result : Event) → result ≡ event → LineSays kinds line event → LineSays kinds line result
said kinds line event result same says = subst (λ (e : Event). LineSays kinds line e) (sym same) says

-- a line that is read as one is read as what equals it
read_as : (line : List ℕ) (read same : Line) → read ≡ same → ReadsLine line read → ReadsLine line same
read_as line read same is reads = subst (λ (l : Line). ReadsLine line l) is reads

pub returns-clause-says : goal.returns-clause-says
returns-clause-says c =
    let kinds = c.args.kinds.now in
    let line = c.args.line.now in
    let found = c.in_ok-query.ensures.found in
    elim c.match-branch-2.branch [
      | in-Query+in_ok-of_query-in-Query w ↦
          let bound = w.in-Query.bound in
          let reads = read_as line c.in_ok-query.field-0 (lines.Query w.in-Query.query bound) w.in-Query.is found in
          said kinds line w.in_ok-of_query-in-Query.field-0 c.match-branch-2.result w.result-is
          (w.in_ok-of_query-in-Query.ensures line (subst (λ (t : List ℕ). PostsQuery line t) (sym w.as_str.ensures) (bound, reads)))
      | in-Update w ↦ said kinds line _ c.match-branch-2.result w.result-is (read_as line c.in_ok-query.field-0 (lines.Update w.in-Update.name w.in-Update.no w.in-Update.changes) w.in-Update.is found)
      | in-Audit+in_ok-of_audit-in-Audit w ↦
          let reads = read_as line c.in_ok-query.field-0 (lines.Audit w.in-Audit.query) w.in-Audit.is found in
          said kinds line w.in_ok-of_audit-in-Audit.field-0 c.match-branch-2.result w.result-is
          (w.in_ok-of_audit-in-Audit.ensures line (subst (λ (t : List ℕ). ReadsLine line (lines.Audit t)) (sym w.as_str-in-Audit.ensures) reads))
      | in-Now w ↦ said kinds line _ c.match-branch-2.result w.result-is (read_as line c.in_ok-query.field-0 (lines.Now w.in-Now.at) w.in-Now.is found)
      | in-Settle w ↦ said kinds line _ c.match-branch-2.result w.result-is (read_as line c.in_ok-query.field-0 lines.Settle w.in-Settle.is found)
    ]
