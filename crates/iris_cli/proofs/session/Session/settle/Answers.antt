use Rattle.std.proofs.Common.{◌∙◌, length, rules}
use Rattle.std.proofs.lemmas.Result.{err_from_is_err_and}
use Rattle.iris_json.specs.declared.out.Out.TheVariants as outs
use Rattle.iris_cli.specs.Run.{all_delivered}
use Rattle.iris_cli.proofs.Putting.{writes_but_last, writes_last}
use Rattle.iris_cli.proofs.session.Session.settle.Goals as goal

pub returns-in_err-deliver_all : goal.returns-in_err-deliver_all
returns-in_err-deliver_all g c =
    let s = c.args.self.now in
    let p = err_from_is_err_and c.from_residual.result c.from_residual.ensures.1 in
    rw (p.1, p.2) (record { acts = record { writes = writes_but_last _ _ _ _ (all_delivered s.site s.posted.items) (outs.Settled (length s.posted.items)) c.in_err-deliver_all.field-0.0 c.in_err-deliver_all.ensures.writes; after = tt } })

pub returns : goal.returns
returns g c =
    let s = c.args.self.now in
    record {
      acts = record {
        writes = writes_last _ _ _ _ _ _ (all_delivered s.site s.posted.items) (outs.Settled (length s.posted.items)) c.put.result _ c.in_ok-deliver_all.ensures.writes (rw (c.len-settled.ensures ∙ s.posted.ok.0) at c.put.ensures.writes);
        after = search rules;
      };
    }
