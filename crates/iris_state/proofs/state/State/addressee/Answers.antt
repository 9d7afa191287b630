use Rattle.std.proofs.Common.{ap}
use Rattle.std.specs.Prelude.{option_copied}
use Rattle.iris_state.specs.Whole.{sent_of}
use Rattle.iris_state.specs.contracts.state.State.{the_view}
use Rattle.iris_state.proofs.ArrivalHere.{sent_there}
use Rattle.iris_state.proofs.Delivered.{addressee_is, addressee_among}
use Rattle.iris_state.proofs.state.State.addressee.Goals as goal

pub returns-clause-addressee : goal.returns-clause-addressee
returns-clause-addressee c =
    let there = sent_there (the_view c.self.inside) c.args.post c.posts.result.now (option_copied c.get.result) c.in-Some.sent.now c.posts.ensures c.get.ensures (ap option_copied c.in-Some.is) in
    addressee_is (the_view c.self.inside) c.args.self.now c.args.post (sent_of c.in-Some.sent.now) c.self.view_is there

pub returns-clause-here : goal.returns-clause-here
returns-clause-here c =
    let there = sent_there (the_view c.self.inside) c.args.post c.posts.result.now (option_copied c.get.result) c.in-Some.sent.now c.posts.ensures c.get.ensures (ap option_copied c.in-Some.is) in
    addressee_among (the_view c.self.inside) c.args.self.now c.args.post (sent_of c.in-Some.sent.now) c.self.view_is there c.requires.steady
