use Rattle.std.proofs.Common.{rules}
use Rattle.iris_json.proofs.PartReading.{text_there}
use Rattle.iris_json.proofs.line.line_of.Goals as goal

pub give_of-requires : goal.give_of-requires
give_of-requires c = record { does = text_there _ _ (search (rules, c.in-Some-give.ensures, c.in-Some-give.is-give)) }

pub evict_of-requires : goal.evict_of-requires
evict_of-requires c = record { does = text_there _ _ (search (rules, c.in-Some-evict.ensures, c.in-Some-evict.is-evict)) }

pub audit_of-requires : goal.audit_of-requires
audit_of-requires c = record { does = text_there _ _ (search (rules, c.in-Some-audit.ensures, c.in-Some-audit.is-audit)) }

pub now_of-requires : goal.now_of-requires
now_of-requires c = record { does = text_there _ _ (search (rules, c.in-Some-now.ensures, c.in-Some-now.is-now)) }

pub deliver_of-requires : goal.deliver_of-requires
deliver_of-requires c = record { does = text_there _ _ (search (rules, c.in-Some-deliver.ensures, c.in-Some-deliver.is-deliver)) }

pub settle_of-requires : goal.settle_of-requires
settle_of-requires c = record { does = text_there _ _ (search (rules, c.in-Some-settle.ensures, c.in-Some-settle.is-settle)) }

pub forget_of-requires : goal.forget_of-requires
forget_of-requires c = record { does = text_there _ _ (search (rules, c.in-Some-forget.ensures, c.in-Some-forget.is-forget)) }

pub owner_of-requires : goal.owner_of-requires
owner_of-requires c = record { does = text_there _ _ (search (rules, c.in-Some-owner.ensures, c.in-Some-owner.is-owner)) }

pub summary_of-requires : goal.summary_of-requires
summary_of-requires c = record { does = text_there _ _ (search (rules, c.in-Some-summary.ensures, c.in-Some-summary.is-summary)) }
