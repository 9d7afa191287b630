use Rattle.iris_json.proofs.out_text.write_refusal.Goals as goal

pub returns-in-NoSuchMessage : goal.returns-in-NoSuchMessage
returns-in-NoSuchMessage c = rw c.in-NoSuchMessage.is c.write_alone-in-NoSuchMessage.ensures

pub returns-in-SameOwner : goal.returns-in-SameOwner
returns-in-SameOwner c = rw c.in-SameOwner.is c.write_refused-in-SameOwner.ensures
