use Rattle.std.proofs.Common.{◌∙◌, sym, subst}
use Rattle.std.proofs.lemmas.Map.Views.{list_any-from_Contains, Contains-from_any}
use Rattle.iris_base.specs.NameOrder.{names_equiv}
use Rattle.iris_fragment.proofs.Names.{alike_exact}
use Rattle.iris_cache.specs.Recency.{Prepared, ListsComplete}
use Rattle.iris_cache.proofs.Completeness.{complete_by_status}
use Rattle.iris_cache.proofs.cached.Cached.keeps_order.Goals as goal

pub returns-clause-complete : goal.returns-clause-complete
returns-clause-complete c = λ name.
    let all : ListsComplete c.args.self.now.cache.contents c.args.self.now.cache.order = subst (λ (p : Prepared). ListsComplete p.cache.contents p.cache.order) c.self.view_is c.fragment.ensures.complete in
    let by_status = complete_by_status c.args.self.now.cache.contents name in (
      (λ there. by_status.0 (sym (all name) ∙ list_any-from_Contains names_equiv name c.args.self.now.cache.order there)),
      (λ complete. Contains-from_any alike_exact name c.args.self.now.cache.order (all name ∙ by_status.1 complete)),
    )
