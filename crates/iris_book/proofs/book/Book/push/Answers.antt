use Rattle.std.proofs.Common.{◌∙◌, sym, ap, subst}
use Rattle.iris_book.specs.Book.{History, today, update_count}
use Rattle.iris_book.specs.Entering.{KeepsEarlier}
use Rattle.iris_book.proofs.Entering.{today_entry, newest_entry, keeps_entry}
use Rattle.iris_book.proofs.book.Book.push.Goals as goal

pub returns-clause-today : goal.returns-clause-today
returns-clause-today c = ap (λ (h : History). today h) c.enter.ensures.entries ∙ today_entry c.args.self.now.history c.args.entry

pub returns-clause-newest : goal.returns-clause-newest
returns-clause-newest c = λ n. ap (λ (h : History). update_count h n) c.enter.ensures.entries ∙ newest_entry c.args.self.now.history c.args.entry n

pub returns-clause-earlier : goal.returns-clause-earlier
returns-clause-earlier c = subst (λ (h : History). KeepsEarlier c.args.self.now.history h c.args.entry) (sym c.enter.ensures.entries) (keeps_entry c.args.self.now.history c.args.entry)
