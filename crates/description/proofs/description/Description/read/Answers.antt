use Rattle.pages.proofs.Proper.{no_fault_exactly_in_proper_pages}
use Rattle.description.proofs.description.Description.read.Goals as goal

pub returns-in_err-draft-clause-no_fault_exactly_in_proper_pages : goal.returns-in_err-draft-clause-no_fault_exactly_in_proper_pages
returns-in_err-draft-clause-no_fault_exactly_in_proper_pages c = no_fault_exactly_in_proper_pages

pub returns-in_err-build-clause-no_fault_exactly_in_proper_pages : goal.returns-in_err-build-clause-no_fault_exactly_in_proper_pages
returns-in_err-build-clause-no_fault_exactly_in_proper_pages c = no_fault_exactly_in_proper_pages

pub returns-clause-no_fault_exactly_in_proper_pages : goal.returns-clause-no_fault_exactly_in_proper_pages
returns-clause-no_fault_exactly_in_proper_pages c = no_fault_exactly_in_proper_pages
