use Rattle.iris_copies.proofs.Times.{present_first, time_goes_on, entry_goes_on, forgotten_goes_on, present_later, present_entry, present_forgotten, onward}
use Rattle.iris_copies.proofs.book_laws.books_go_on.Goals as goal

pub returns-clause-begins : goal.returns-clause-begins
returns-clause-begins c = present_first

pub returns-clause-time : goal.returns-clause-time
returns-clause-time c = time_goes_on

pub returns-clause-entry : goal.returns-clause-entry
returns-clause-entry c = entry_goes_on

pub returns-clause-forgotten : goal.returns-clause-forgotten
returns-clause-forgotten c = forgotten_goes_on

pub returns-clause-present_time : goal.returns-clause-present_time
returns-clause-present_time c = present_later

pub returns-clause-present_entry : goal.returns-clause-present_entry
returns-clause-present_entry c = present_entry

pub returns-clause-present_forgotten : goal.returns-clause-present_forgotten
returns-clause-present_forgotten c = present_forgotten

pub returns-clause-onward : goal.returns-clause-onward
returns-clause-onward c = onward
